-- The scheme of a principal annotation is well-formed.
use Rattle.std.specs.Prelude.{◌≡◌, ℕ, zero, suc, ◌+◌, ◌<◌, ◌==◌, ◌||◌, Bool, true, false, List, [], ◌∷◌, ◌++◌, map, length, Option, Some, None, option_map, unwrap_or, if◌then◌else◌, nat_lt, refl}
use Rattle.std.proofs.Common.{ap, sym, ◌∙◌, subst, arith}
use Rattle.std.proofs.lemmas.Bool.{eq-eqb}
use Rattle.std.proofs.lemmas.Bool.Decides.{nat_tests}
use Rattle.ls_ast.specs.declared.tree.BodyOf.{BodyOf}
use Rattle.ls_ast.specs.declared.tree.Mark.{Mark}
use Rattle.ls_ast.specs.declared.tree.Pat.{Pat}
use Rattle.ls_terms.specs.declared.clocks.ClockTerm.{ClockTerm, fold-roll-ClockTerm, map-ClockTerm, roll-ClockTerm}
use Rattle.ls_terms.specs.declared.clocks.ClockTerm.TheOpen.{ClockTerm-F}
use Rattle.ls_terms.specs.Clocks.{apply, apply_at}
use Rattle.ls_sig.specs.declared.binder.Note.{Note}
use Rattle.ls_sig.specs.declared.binder.TypeNote.{TypeNote}
use Rattle.ls_places.specs.Definitions.{note_clocks}
use Rattle.ls_places.specs.Patterns.{has_name}
use Rattle.ls_places.specs.Search.{nth}
use Rattle.tree_notes.specs.Each.{Each}
use Rattle.tree_notes.specs.Order.{joined}
use Rattle.clock_rules.specs.declared.scheme.ClockScheme.{ClockScheme}
use Rattle.clock_rules.specs.Facts.{Facts}
use Rattle.clock_rules.specs.Files.{scheme, clock_marks, variables_in, place_from, firsts, place_option}
use Rattle.clock_rules.specs.Fresh.{facts_of}
use Rattle.clock_rules.specs.Judged.{IsPrincipal}
use Rattle.clock_rules.specs.Rules as R
use Rattle.clock_rules.specs.Rules.{Clocks, at, is_clock_mark}
use Rattle.clock_rules.specs.Terms.{var, names_in, names_step}
use Rattle.clock_rules.proofs.Sides.{all_left, all_right, all_both}
use Rattle.clock_rules.proofs.Substitution.{With, bottoms, induct, apply_on, apply_arrow, apply_pointwise}
use Rattle.clock_laws.specs.Scoped.{own, InScheme, IsWell, IsScoped}
use Rattle.clock_laws.specs.WellFormed.{IsWellFormed, samplings}
use Rattle.clock_laws.proofs.Equal.{nth_map}
use Rattle.clock_laws.proofs.Forms as Fo
use Rattle.clock_laws.proofs.Shrink as Sh

-- ---- samplings with other variables

module _ (f : ℕ → Option ℕ) where
  abbrev ren : ClockTerm → ClockTerm
  ren = apply (λ x. place_option (f x))

  module _ (P Q : ClockTerm × ℕ → Type 0) (turn : (t : ClockTerm) (m : ℕ) → P (t, m) → Q (ren t, m)) where
    abbrev Turned : ClockTerm → Type 0
    Turned t = Each P (samplings t) → Each Q (samplings (ren t))

    abbrev terms : List (With Turned) → List ClockTerm
    terms = map {A = With Turned} {B = ClockTerm} (λ p. p.0)

    turned_all : (ps : List (With Turned)) → Each P (joined (map samplings (terms ps))) → Each Q (joined (map samplings (map ren (terms ps))))
    turned_all [] h = tt
    turned_all (p ∷ ps) h = all_both Q (samplings (ren p.0)) (joined (map samplings (map ren (terms ps)))) (p.1 (all_left P (samplings p.0) (joined (map samplings (terms ps))) h))
        (turned_all ps (all_right P (samplings p.0) (joined (map samplings (terms ps))) h))

    none_in : (v : ℕ) (o : Option ℕ) → Each Q (samplings (unwrap_or (place_option o) (var v)))
    none_in v None = subst (Each Q) (sym (Sh.samplings_var v)) tt
    none_in v (Some k) = subst (Each Q) (sym (Sh.samplings_var k)) tt

    turned_at : (y : ClockTerm-F (With Turned)) → Turned (roll-ClockTerm (bottoms Turned y))
    turned_at (ClockTerm-F.Var v) h = subst (λ z. Each Q (samplings z)) (sym (fold-roll-ClockTerm ClockTerm (apply_at (λ x. place_option (f x))) (ClockTerm-F.Var v))) (none_in v (f v))
    turned_at (ClockTerm-F.On p m k) h =
        let q = subst (Each P) (Sh.samplings_on p.0 m k) h in
        subst (λ z. Each Q (samplings z)) (sym (apply_on (λ x. place_option (f x)) p.0 m k)) (subst (Each Q) (sym (Sh.samplings_on (ren p.0) m k)) (turn p.0 m q.0, p.1 q.1))
    turned_at ClockTerm-F.Pointwise h = subst (λ z. Each Q (samplings z)) (sym (apply_pointwise (λ x. place_option (f x)))) (subst (Each Q) (sym Sh.samplings_pointwise) tt)
    turned_at (ClockTerm-F.Arrow ps p) h =
        let ts : List ClockTerm = terms ps in
        let q = subst (Each P) (Sh.samplings_arrow ts p.0) h in
        subst (λ z. Each Q (samplings z)) (sym (apply_arrow (λ x. place_option (f x)) ts p.0)) (subst (Each Q) (sym (Sh.samplings_arrow (map ren ts) (ren p.0)))
        (all_both Q (joined (map samplings (map ren ts))) (samplings (ren p.0)) (turned_all ps (all_left P (joined (map samplings ts)) (samplings p.0) q)) (p.1 (all_right P (joined (map samplings ts)) (samplings p.0) q))))

    turned : (t : ClockTerm) → Each P (samplings t) → Each Q (samplings (ren t))
    turned = induct Turned turned_at

-- ---- the names of samplings are those that are mentioned

module _ (P : ℕ → Type 0) where
  abbrev OfName : ClockTerm × ℕ → Type 0
  OfName z = P z.1

  abbrev Named : ClockTerm → Type 0
  Named t = Each P (names_in t) → Each OfName (samplings t)

  abbrev clocks : List (With Named) → List ClockTerm
  clocks = map {A = With Named} {B = ClockTerm} (λ p. p.0)

  named_all : (ps : List (With Named)) → Each P (joined (map names_in (clocks ps))) → Each OfName (joined (map samplings (clocks ps)))
  named_all [] h = tt
  named_all (p ∷ ps) h = all_both OfName (samplings p.0) (joined (map samplings (clocks ps))) (p.1 (all_left P (names_in p.0) (joined (map names_in (clocks ps))) h))
      (named_all ps (all_right P (names_in p.0) (joined (map names_in (clocks ps))) h))

  names_roll : (x : ClockTerm-F ClockTerm) → names_in (roll-ClockTerm x) ≡ names_step (map-ClockTerm ClockTerm (List ℕ) names_in x)
  names_roll x = fold-roll-ClockTerm (List ℕ) names_step x

  named_at : (y : ClockTerm-F (With Named)) → Named (roll-ClockTerm (bottoms Named y))
  named_at (ClockTerm-F.Var v) h = subst (Each OfName) (sym (Sh.samplings_var v)) tt
  named_at (ClockTerm-F.On p m k) h =
      let q = subst (Each P) (names_roll (ClockTerm-F.On p.0 m k)) h in subst (Each OfName) (sym (Sh.samplings_on p.0 m k)) (q.0, p.1 q.1)
  named_at ClockTerm-F.Pointwise h = subst (Each OfName) (sym Sh.samplings_pointwise) tt
  named_at (ClockTerm-F.Arrow ps p) h =
      let ts : List ClockTerm = clocks ps in
      let q = subst (Each P) (names_roll (ClockTerm-F.Arrow ts p.0)) h in
      subst (Each OfName) (sym (Sh.samplings_arrow ts p.0)) (all_both OfName (joined (map samplings ts)) (samplings p.0)
      (named_all ps (all_left P (joined (map names_in ts)) (names_in p.0) q)) (p.1 (all_right P (joined (map names_in ts)) (names_in p.0) q)))

  samplings_named : (t : ClockTerm) → Each P (names_in t) → Each OfName (samplings t)
  samplings_named = induct Named named_at

-- ---- the marks of Clock parameters

here_or : (x y : ℕ) (b : Bool) → x ≡ y → ((x == y) || b) ≡ true
here_or x y b e = ap (λ t. t || b) (eq-eqb x y e)

there_or : (t b : Bool) → b ≡ true → (t || b) ≡ true
there_or true b e = refl
there_or false b e = e

marked_if : (t : Bool) (m k : ℕ) (ms : List ℕ) → has_name m ms ≡ true → has_name m (if t then k ∷ ms else ms) ≡ true
marked_if true m k ms h = there_or (m == k) (has_name m ms) h
marked_if false m k ms h = h

marked_first : (t : Bool) (k : ℕ) (ms : List ℕ) → t ≡ true → has_name k (if t then k ∷ ms else ms) ≡ true
marked_first true k ms e = here_or k k (has_name k ms) refl
marked_first false k ms e = absurd (cc)

marked : (marks : List Mark) (i k : ℕ) → unwrap_or (option_map is_clock_mark (nth marks i)) false ≡ true → has_name (i + k) (clock_marks marks k) ≡ true
marked [] i k e = absurd (cc)
marked (m ∷ ms) zero k e =
    let f : zero + k ≡ k = omega arith in
    ap (λ z. has_name z (clock_marks (m ∷ ms) k)) f ∙ marked_first (is_clock_mark m) k (clock_marks ms (suc k)) e
marked (m ∷ ms) (suc i) k e =
    let f : suc i + k ≡ i + suc k = omega arith in
    marked_if (is_clock_mark m) (suc i + k) k (clock_marks ms (suc k)) (ap (λ z. has_name z (clock_marks ms (suc k))) f ∙ marked ms i (suc k) e)

nth_some : {A : Type 0} (xs : List A) (k : ℕ) (o : Option A) → nth xs k ≡ o → unwrap_or (option_map (λ (x : A). true) o) false ≡ true → k < length xs
nth_some [] k None e f = absurd (cc)
nth_some [] k (Some x) e f = absurd (cc)
nth_some (x ∷ xs) zero o e f = omega arith
nth_some (x ∷ xs) (suc k) o e f = let l = nth_some xs k o e f in omega (arith, l)

marked_some : (o : Option Mark) → unwrap_or (option_map is_clock_mark o) false ≡ true → unwrap_or (option_map (λ (x : Mark). true) o) false ≡ true
marked_some None e = e
marked_some (Some m) e = refl

some_at : {A : Type 0} (xs : List A) (k : ℕ) → k < length xs → (x : A) × (nth xs k ≡ Some x)
some_at [] k l = absurd (omega (arith, l))
some_at (x ∷ xs) zero l = (x, refl)
some_at (x ∷ xs) (suc k) l = some_at xs k (omega (arith, l))

if_true : {A : Type 0} (t : Bool) (x y : A) → t ≡ true → (if t then x else y) ≡ x
if_true true x y e = refl
if_true false x y e = absurd (cc)

lt_true : (m n : ℕ) → m < n → nat_lt m n ≡ true
lt_true m n l = grind (arith, nat_tests, l)

module _ (schemes : List ClockScheme) (cases : ℕ → Option ℕ) (params : List Pat) (marks : List Mark) (types : List TypeNote) (tree : BodyOf TypeNote) (notes : List Note) (body : BodyOf Note)
    (wells : Each IsWell schemes) (scoped : IsScoped schemes (facts_of schemes cases params marks notes body)) (p : IsPrincipal schemes cases params marks types tree notes body) where
  abbrev d : Facts Note
  d = facts_of schemes cases params marks notes body

  abbrev mine : ClockScheme
  mine = scheme marks notes body.result.note.ck

  abbrev place : ℕ → Option ℕ
  place x = place_from x (firsts (joined (map variables_in (note_clocks notes ++ body.result.note.ck ∷ [])))) 0

  abbrev Public : ℕ → Type 0
  Public m = R.is_clock_parameter schemes cases d p.clocks m ≡ true

  abbrev Good : ClockTerm × ℕ → Type 0
  Good z = (Some z.0 ≡ own d p.clocks z.1) × Public z.1

  -- what is sampled on the name of a parameter is the clock of the parameter
  clock_at : (t : ClockTerm) (m : ℕ) → Some t ≡ own d p.clocks m → Public m → nth (note_clocks notes) m ≡ Some t
  clock_at t m e c =
      let l = nth_some marks m (nth marks m) refl (marked_some (nth marks m) c) in
      let b = scoped.marks in
      let g : own d p.clocks m ≡ nth (note_clocks notes) m = if_true (nat_lt m (length params)) (nth (note_clocks notes) m) _ (lt_true m (length params) (omega (arith, l, b))) in
      sym (e ∙ g)

  turn : (t : ClockTerm) (m : ℕ) → Good (t, m) → InScheme mine (ren place t, m)
  turn t m h =
      let z : m + 0 ≡ m = omega arith in
      (nth_map (ren place) (note_clocks notes) m ∙ ap (option_map (ren place)) (clock_at t m h.0 h.1), ap (λ k. has_name k (clock_marks marks 0)) (sym z) ∙ marked marks m 0 h.1)

  good_all : (zs : List (ClockTerm × ℕ)) → Each (λ (z : ClockTerm × ℕ). Some z.0 ≡ own d p.clocks z.1) zs → Each (OfName Public) zs → Each Good zs
  good_all zs h k = Fo.each_zip (λ (z : ClockTerm × ℕ). Some z.0 ≡ own d p.clocks z.1) (OfName Public) Good (λ z a b. (a, b)) zs h k

  clock_well : (t : ClockTerm) → IsWellFormed (own d p.clocks) t → Each Public (names_in t) → Each (InScheme mine) (samplings (ren place t))
  clock_well t w q = turned place Good (InScheme mine) turn t (good_all (samplings t) w (samplings_named Public t q))

  clocks_well : (ns : List Note) → Each (λ (n : Note). IsWellFormed (own d p.clocks) n.ck) ns → Each (R.ParamObeys schemes cases d p.clocks) ns → Each (λ ck. Each (InScheme mine) (samplings ck)) (map (ren place) (note_clocks ns))
  clocks_well [] w q = tt
  clocks_well (n ∷ ns) w q = (clock_well n.ck w.0 q.0.public, clocks_well ns w.1 q.1)

  result_well : IsWellFormed (own d p.clocks) body.result.note.ck
  result_well = Fo.result_well schemes cases params marks types tree notes body wells scoped p

  pub is_well : IsWell mine
  is_well = record {
    clocks = clocks_well notes (Fo.are_well_formed schemes cases params marks types tree notes body wells scoped p).notes p.obeys.conditions.params;
    result = clock_well body.result.note.ck result_well p.obeys.conditions.result;
  }
