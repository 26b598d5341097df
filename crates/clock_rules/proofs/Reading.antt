-- Every annotation is an instance of the fresh one, by a substitution that is read off it.
use Rattle.std.specs.Prelude.{◌≡◌, ℕ, zero, suc, ◌+◌, ◌≤◌, true, List, [], ◌∷◌, ◌++◌, map, length, Option, Some, unwrap_or, refl}
use Rattle.std.proofs.Common.{ap, ap₂, sym, ◌∙◌, subst, arith}
use Rattle.std.proofs.lemmas.Bool.{and_parts}
use Rattle.ls_terms.specs.declared.clocks.ClockTerm.{ClockTerm, fold-roll-ClockTerm, out-ClockTerm, roll-ClockTerm, roll-out-ClockTerm}
use Rattle.ls_terms.specs.declared.clocks.ClockTerm.TheOpen.{ClockTerm-F}
use Rattle.ls_terms.specs.declared.types.Kind.TheVariants as kind
use Rattle.ls_terms.specs.declared.types.TypeTerm.{TypeTerm, fold-TypeTerm, fold-roll-TypeTerm, ind-TypeTerm, map-TypeTerm, roll-TypeTerm}
use Rattle.ls_terms.specs.declared.types.TypeTerm.TheOpen.{TypeTerm-F}
use Rattle.ls_terms.specs.Clocks.{apply, apply_at, size, kids_at, sum, stands}
use Rattle.ls_sig.specs.declared.binder.Note.{Note}
use Rattle.ls_sig.specs.declared.binder.TypeNote.{TypeNote}
use Rattle.clock_rules.specs.declared.scheme.ClockScheme.{ClockScheme}
use Rattle.tree_notes.specs.Order.{joined}
use Rattle.clock_rules.specs.Terms.{var, arrow, pointwise, IsClock, IsClockOf, fits, fits_step, fit_all, fit_arrow, is_pointwise, Form, limit}
use Rattle.tree_notes.specs.Each.{Each}
use Rattle.tree_notes.specs.Numbered.{From, all_from}
use Rattle.ls_places.specs.Search.{nth}
use Rattle.clock_rules.specs.Rules.{at, count_at}
use Rattle.clock_rules.specs.Instances.{Subst, in_note, in_node}
use Rattle.clock_rules.specs.Constraints.{Node, NodesFit}
use Rattle.clock_rules.specs.Judged.{Unrestarted}
use Rattle.clock_rules.specs.Fresh.{shape, shape_step, step, next, some_vars, given_vars, erase}
use Rattle.clock_rules.proofs.Substitution.{apply_arrow, apply_pointwise}
use Rattle.clock_rules.proofs.Sides.{all_both}
use Rattle.tree_notes.specs.Agreement.{Agree, advance}

-- ---- the leaves of a clock of a type

abbrev pub Leaves : Type 0
Leaves = ClockTerm → List ClockTerm

abbrev pub leaves_all : List Leaves → List ClockTerm → List ClockTerm
leaves_all [] ts = []
leaves_all (f ∷ fs) [] = []
leaves_all (f ∷ fs) (t ∷ ts) = f t ++ leaves_all fs ts

abbrev pub arrow_leaves : List Leaves → ClockTerm-F ClockTerm → List ClockTerm
arrow_leaves fs (ClockTerm-F.Arrow ts t) = leaves_all fs ts ++ t ∷ []
arrow_leaves fs _ = []

abbrev pub leaves_step : TypeTerm-F Leaves → Leaves
leaves_step (TypeTerm-F.Arrow kind.Comb fs f) t = []
leaves_step (TypeTerm-F.Arrow kind.Seq fs f) t = arrow_leaves fs (out-ClockTerm t)
leaves_step _ t = t ∷ []

abbrev pub leaves : TypeTerm → Leaves
leaves = fold-TypeTerm Leaves leaves_step

abbrev pub IsNote : Note → Type 0
IsNote n = IsClockOf n.ty n.ck

abbrev pub note_leaves : List Note → List ClockTerm
note_leaves [] = []
note_leaves (n ∷ ns) = leaves n.ty n.ck ++ note_leaves ns

-- ---- terms from a number on

module _ (σ : Subst) where
  abbrev pub Here : ℕ → List ClockTerm → Type 0
  Here k [] = Unit {0}
  Here k (t ∷ ts) = (σ k ≡ Some t) × Here (suc k) ts

  abbrev pub after : ℕ → List ClockTerm → ℕ
  after k [] = k
  after k (t ∷ ts) = after (suc k) ts

  after_both : (k : ℕ) (xs ys : List ClockTerm) → after k (xs ++ ys) ≡ after (after k xs) ys
  after_both k [] ys = refl
  after_both k (x ∷ xs) ys = after_both (suc k) xs ys

  pub here_left : (k : ℕ) (xs ys : List ClockTerm) → Here k (xs ++ ys) → Here k xs
  here_left k [] ys h = tt
  here_left k (x ∷ xs) ys h = (h.0, here_left (suc k) xs ys h.1)

  pub here_right : (k : ℕ) (xs ys : List ClockTerm) → Here k (xs ++ ys) → Here (after k xs) ys
  here_right k [] ys h = h
  here_right k (x ∷ xs) ys h = here_right (suc k) xs ys h.1

  -- ---- the clock of a type is read off its leaves

  at_var : (k : ℕ) (t : ClockTerm) → σ k ≡ Some t → apply σ (var k) ≡ t
  at_var k t e = fold-roll-ClockTerm ClockTerm (apply_at σ) (ClockTerm-F.Var k) ∙ ap (λ o. unwrap_or o (roll-ClockTerm (ClockTerm-F.Var k))) e

  abbrev Reads : TypeTerm → Type 0
  Reads ty = (t : ClockTerm) → fits ty t ≡ true → (k : ℕ) → Here k (leaves ty t) → (apply σ (shape ty k).0 ≡ t) × ((shape ty k).1 ≡ after k (leaves ty t))

  abbrev WithReads : Type 0
  WithReads = (ty : TypeTerm) × Reads ty

  abbrev types : List WithReads → List TypeTerm
  types = map {A = WithReads} {B = TypeTerm} (λ p. p.0)

  all_reads : (ps : List WithReads) (ts : List ClockTerm) → fit_all (map fits (types ps)) ts ≡ true → (k : ℕ) → Here k (leaves_all (map leaves (types ps)) ts)
      → (map (apply σ) (all_from (map shape (types ps)) k).0 ≡ ts) × ((all_from (map shape (types ps)) k).1 ≡ after k (leaves_all (map leaves (types ps)) ts))
  all_reads [] [] f k h = (refl, refl)
  all_reads [] (t ∷ ts) f k h = absurd (cc)
  all_reads (p ∷ ps) [] f k h = absurd (cc)
  all_reads (p ∷ ps) (t ∷ ts) f k h =
      let q = and_parts (fits p.0 t) (fit_all (map fits (types ps)) ts) f in
      let c : List ClockTerm = leaves p.0 t in
      let c' : List ClockTerm = leaves_all (map leaves (types ps)) ts in
      let r = p.1 t q.0 k (here_left k c c' h) in
      let s = all_reads ps ts q.1 (shape p.0 k).1 (subst (λ j. Here j c') (sym r.1) (here_right k c c' h)) in
      (ap₂ (λ x xs. x ∷ xs) r.0 s.0, s.1 ∙ ap (λ j. after j c') r.1 ∙ sym (after_both k c c'))

  arrow_reads : (ps : List WithReads) (x : ClockTerm-F ClockTerm) → fit_arrow (map fits (types ps)) x ≡ true → (k : ℕ) → Here k (arrow_leaves (map leaves (types ps)) x)
      → (apply σ (arrow (all_from (map shape (types ps)) k).0 (var (all_from (map shape (types ps)) k).1)) ≡ roll-ClockTerm x)
      × (suc (all_from (map shape (types ps)) k).1 ≡ after k (arrow_leaves (map leaves (types ps)) x))
  arrow_reads ps (ClockTerm-F.Arrow ts t) f k h =
      let q = and_parts (fit_all (map fits (types ps)) ts) (stands t) f in
      let c : List ClockTerm = leaves_all (map leaves (types ps)) ts in
      let r = all_reads ps ts q.0 k (here_left k c (t ∷ []) h) in
      let last : σ (all_from (map shape (types ps)) k).1 ≡ Some t = ap σ r.1 ∙ (here_right k c (t ∷ []) h).0 in (
        apply_arrow σ (all_from (map shape (types ps)) k).0 (var (all_from (map shape (types ps)) k).1) ∙ ap₂ arrow r.0 (at_var (all_from (map shape (types ps)) k).1 t last),
        ap suc r.1 ∙ sym (after_both k c (t ∷ [])),
      )
  arrow_reads ps (ClockTerm-F.Var v) f k h = absurd (cc)
  arrow_reads ps (ClockTerm-F.On t m c) f k h = absurd (cc)
  arrow_reads ps ClockTerm-F.Pointwise f k h = absurd (cc)

  pointwise_is : (x : ClockTerm-F ClockTerm) → is_pointwise x ≡ true → pointwise ≡ roll-ClockTerm x
  pointwise_is ClockTerm-F.Pointwise h = refl
  pointwise_is (ClockTerm-F.Var v) h = absurd (cc)
  pointwise_is (ClockTerm-F.On t m c) h = absurd (cc)
  pointwise_is (ClockTerm-F.Arrow ts t) h = absurd (cc)

  abbrev below : TypeTerm-F WithReads → TypeTerm-F TypeTerm
  below y = map-TypeTerm WithReads TypeTerm (λ p. p.0) y

  reads_layer : (y : TypeTerm-F WithReads) (t : ClockTerm) → fits_step (map-TypeTerm TypeTerm Form fits (below y)) t ≡ true → (k : ℕ) → Here k (leaves_step (map-TypeTerm TypeTerm Leaves leaves (below y)) t)
      → (apply σ (shape_step (map-TypeTerm TypeTerm (From ℕ ClockTerm) shape (below y)) k).0 ≡ t) × ((shape_step (map-TypeTerm TypeTerm (From ℕ ClockTerm) shape (below y)) k).1 ≡ after k (leaves_step (map-TypeTerm TypeTerm Leaves leaves (below y)) t))
  reads_layer (TypeTerm-F.Arrow kind.Comb ps p) t f k h = (apply_pointwise σ ∙ pointwise_is (out-ClockTerm t) f ∙ roll-out-ClockTerm t, refl)
  reads_layer (TypeTerm-F.Arrow kind.Seq ps p) t f k h = let r = arrow_reads ps (out-ClockTerm t) f k h in (r.0 ∙ roll-out-ClockTerm t, r.1)
  reads_layer (TypeTerm-F.Var v) t f k h = (at_var k t h.0, refl)
  reads_layer _ t f k h = (at_var k t h.0, refl)

  reads : (ty : TypeTerm) → Reads ty
  reads = ind-TypeTerm Reads (λ x y from. subst (λ z. Reads (roll-TypeTerm z)) from (λ t f k h.
      let ff : ◌≡◌ {A = Form} (fits (roll-TypeTerm (below y))) (fits_step (map-TypeTerm TypeTerm Form fits (below y))) = fold-roll-TypeTerm Form fits_step (below y) in
      let ll : ◌≡◌ {A = Leaves} (leaves (roll-TypeTerm (below y))) (leaves_step (map-TypeTerm TypeTerm Leaves leaves (below y))) = fold-roll-TypeTerm Leaves leaves_step (below y) in
      let ss : ◌≡◌ {A = From ℕ ClockTerm} (shape (roll-TypeTerm (below y))) (shape_step (map-TypeTerm TypeTerm (From ℕ ClockTerm) shape (below y))) = fold-roll-TypeTerm (From ℕ ClockTerm) shape_step (below y) in
      let r = reads_layer y t (ap (λ (g : Form). g t) (sym ff) ∙ f) k (subst (λ (g : Leaves). Here k (g t)) ll h) in
      (ap (λ (g : From ℕ ClockTerm). apply σ (g k).0) ss ∙ r.0, ap (λ (g : From ℕ ClockTerm). (g k).1) ss ∙ r.1 ∙ ap (λ (g : Leaves). after k (g t)) (sym ll))))

  -- ---- and its leaves are clocks of streams

  abbrev Small : TypeTerm → Type 0
  Small ty = (t : ClockTerm) → fits ty t ≡ true → size t ≤ limit → Each IsClock (leaves ty t)

  abbrev WithSmall : Type 0
  WithSmall = (ty : TypeTerm) × Small ty

  abbrev stypes : List WithSmall → List TypeTerm
  stypes = map {A = WithSmall} {B = TypeTerm} (λ p. p.0)

  abbrev total : List ClockTerm → ℕ
  total ts = sum (map size ts)

  all_small : (ps : List WithSmall) (ts : List ClockTerm) → fit_all (map fits (stypes ps)) ts ≡ true → total ts ≤ limit → Each IsClock (leaves_all (map leaves (stypes ps)) ts)
  all_small [] ts f l = tt
  all_small (p ∷ ps) [] f l = tt
  all_small (p ∷ ps) (t ∷ ts) f l =
      let q = and_parts (fits p.0 t) (fit_all (map fits (stypes ps)) ts) f in
      all_both IsClock (leaves p.0 t) (leaves_all (map leaves (stypes ps)) ts) (p.1 t q.0 (omega (arith, l))) (all_small ps ts q.1 (omega (arith, l)))

  sum_end : (ns : List ℕ) (n : ℕ) → sum (ns ++ n ∷ []) ≡ sum ns + n
  sum_end [] n = omega arith
  sum_end (m ∷ ns) n = let e = sum_end ns n in omega (arith, e)

  arrow_size : (ts : List ClockTerm) (t : ClockTerm) → size (arrow ts t) ≡ 1 + (total ts + size t)
  arrow_size ts t = fold-roll-ClockTerm ℕ (λ z. 1 + sum (kids_at z)) (ClockTerm-F.Arrow ts t) ∙ ap (λ n. 1 + n) (sum_end (map size ts) (size t))

  arrow_small : (ps : List WithSmall) (x : ClockTerm-F ClockTerm) → fit_arrow (map fits (stypes ps)) x ≡ true → size (roll-ClockTerm x) ≤ limit → Each IsClock (arrow_leaves (map leaves (stypes ps)) x)
  arrow_small ps (ClockTerm-F.Arrow ts t) f l =
      let q = and_parts (fit_all (map fits (stypes ps)) ts) (stands t) f in
      let e = arrow_size ts t in
      all_both IsClock (leaves_all (map leaves (stypes ps)) ts) (t ∷ []) (all_small ps ts q.0 (omega (arith, e, l))) (record { stands = q.1; small = omega (arith, e, l) }, tt)
  arrow_small ps (ClockTerm-F.Var v) f l = tt
  arrow_small ps (ClockTerm-F.On t m c) f l = tt
  arrow_small ps ClockTerm-F.Pointwise f l = tt

  abbrev sbelow : TypeTerm-F WithSmall → TypeTerm-F TypeTerm
  sbelow y = map-TypeTerm WithSmall TypeTerm (λ p. p.0) y

  small_layer : (y : TypeTerm-F WithSmall) (t : ClockTerm) → fits_step (map-TypeTerm TypeTerm Form fits (sbelow y)) t ≡ true → size t ≤ limit → Each IsClock (leaves_step (map-TypeTerm TypeTerm Leaves leaves (sbelow y)) t)
  small_layer (TypeTerm-F.Arrow kind.Comb ps p) t f l = tt
  small_layer (TypeTerm-F.Arrow kind.Seq ps p) t f l = arrow_small ps (out-ClockTerm t) f (subst (λ z. size z ≤ limit) (sym (roll-out-ClockTerm t)) l)
  small_layer (TypeTerm-F.Var v) t f l = (record { stands = f; small = l }, tt)
  small_layer _ t f l = (record { stands = f; small = l }, tt)

  smalls : (ty : TypeTerm) → Small ty
  smalls = ind-TypeTerm Small (λ x y from. subst (λ z. Small (roll-TypeTerm z)) from (λ t f l.
      let ff : ◌≡◌ {A = Form} (fits (roll-TypeTerm (sbelow y))) (fits_step (map-TypeTerm TypeTerm Form fits (sbelow y))) = fold-roll-TypeTerm Form fits_step (sbelow y) in
      let ll : ◌≡◌ {A = Leaves} (leaves (roll-TypeTerm (sbelow y))) (leaves_step (map-TypeTerm TypeTerm Leaves leaves (sbelow y))) = fold-roll-TypeTerm Leaves leaves_step (sbelow y) in
      subst (λ (g : Leaves). Each IsClock (g t)) (sym ll) (small_layer y t (ap (λ (g : Form). g t) (sym ff) ∙ f) l)))

  -- ---- notes

  abbrev Agrees : ℕ → List Note → Type 0
  Agrees = Agree ℕ Note TypeNote Note erase step next (in_note σ)

  pub notes_read : (ns : List Note) → Each IsNote ns → Each Unrestarted ns → (k : ℕ) → Here k (note_leaves ns) → Agrees k ns × (advance ℕ Note TypeNote Note erase step next (in_note σ) k ns ≡ after k (note_leaves ns))
  notes_read [] c u k h = (tt, refl)
  notes_read (n ∷ ns) c u k h =
      let r = reads n.ty n.ck c.0.form k (here_left k (leaves n.ty n.ck) (note_leaves ns) h) in
      let s = notes_read ns c.1 u.1 (shape n.ty k).1 (subst (λ j. Here j (note_leaves ns)) (sym r.1) (here_right k (leaves n.ty n.ck) (note_leaves ns) h)) in
      (((λ i. record n { ck = r.0 i; restarts = sym u.0 i }), s.0), s.1 ∙ ap (λ j. after j (note_leaves ns)) r.1 ∙ sym (after_both k (leaves n.ty n.ck) (note_leaves ns)))

  pub notes_small : (ns : List Note) → Each IsNote ns → Each IsClock (note_leaves ns)
  notes_small [] c = tt
  notes_small (n ∷ ns) c = all_both IsClock (leaves n.ty n.ck) (note_leaves ns) (smalls n.ty n.ck c.0.form c.0.small) (notes_small ns c.1)

  -- ---- lists of clocks

  pub list_read : (n : ℕ) (ts : List ClockTerm) → length ts ≡ n → (k : ℕ) → Here k ts → (map (apply σ) (some_vars n k).0 ≡ ts) × ((some_vars n k).1 ≡ after k ts)
  list_read zero [] e k h = (refl, refl)
  list_read zero (t ∷ ts) e k h = absurd (cc)
  list_read (suc n) [] e k h = absurd (cc)
  list_read (suc n) (t ∷ ts) e k h =
      let m : length ts ≡ n = cc in
      let r = list_read n ts m (suc k) h.1 in (ap₂ (λ x xs. x ∷ xs) (at_var k t h.0) r.0, r.1)

  pub given_read : (sigs : List ClockScheme) (cases : ℕ → Option ℕ) (gs : List (List ClockTerm)) (ns : List Node) → NodesFit sigs cases gs ns → (ms : List Node) → map (in_node σ) ms ≡ ns → (k : ℕ) → Here k (joined gs)
      → map (map (apply σ)) (given_vars sigs ms k).0 ≡ gs
  given_read sigs cases [] [] f [] e k h = refl
  given_read sigs cases [] [] f (m ∷ ms) e k h = absurd (cc)
  given_read sigs cases [] (n ∷ ns) f ms e k h = absurd f
  given_read sigs cases (g ∷ gs) [] f ms e k h = absurd f
  given_read sigs cases (g ∷ gs) (n ∷ ns) f [] e k h = absurd (cc)
  given_read sigs cases (g ∷ gs) (n ∷ ns) f (m ∷ ms) e k h =
      let one : in_node σ m ≡ n = cc in
      let rest : map (in_node σ) ms ≡ ns = cc in
      let r = list_read (count_at sigs m.0.note.bound) g (f.0.many ∙ ap (λ (z : Node). count_at sigs z.0.note.bound) (sym one)) k (here_left k g (joined gs) h) in
      let s = given_read sigs cases gs ns f.1 ms rest (some_vars (count_at sigs m.0.note.bound) k).1 (subst (λ j. Here j (joined gs)) (sym r.1) (here_right k g (joined gs) h)) in
      ap₂ (λ x xs. x ∷ xs) r.0 s

-- ---- a list as a substitution

here_shift : (h : Subst) (k : ℕ) (xs : List ClockTerm) → Here (λ j. h (suc j)) k xs → Here h (suc k) xs
here_shift h k [] p = tt
here_shift h k (x ∷ xs) p = (p.0, here_shift h (suc k) xs p.1)

pub here_nth : (xs : List ClockTerm) → Here (nth xs) 0 xs
here_nth [] = tt
here_nth (x ∷ xs) = (refl, here_shift (nth (x ∷ xs)) 0 xs (here_nth xs))

pub nth_all : (P : ClockTerm → Type 0) (xs : List ClockTerm) → Each P xs → (k : ℕ) (t : ClockTerm) → nth xs k ≡ Some t → P t
nth_all P [] h k t e = absurd (cc)
nth_all P (x ∷ xs) h zero t e = let same : x ≡ t = cc in subst P same h.0
nth_all P (x ∷ xs) h (suc k) t e = nth_all P xs h.1 k t e

pub all_by : {A : Type 0} (P : ClockTerm → Type 0) (vs : List A) (cks : List ClockTerm) → length cks ≡ length vs → ((x : ℕ) (v : A) → nth vs x ≡ Some v → P (at cks x)) → Each P cks
all_by P vs [] e h = tt
all_by P [] (c ∷ cks) e h = absurd (cc)
all_by P (v ∷ vs) (c ∷ cks) e h = let m : length cks ≡ length vs = cc in (h zero v refl, all_by P vs cks m (λ x w p. h (suc x) w p))
