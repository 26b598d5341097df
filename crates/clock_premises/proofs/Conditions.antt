-- Conditions, and what is given at Clock positions, are clock names where no claim of scope is at fault.
use Rattle.std.specs.Prelude.{◌≡◌, refl, ℕ, suc, ◌+◌, ◌&&◌, ◌||◌, not, Bool, true, false, List, [], ◌∷◌, ◌++◌, map, length, slice_get, Option, Some, None, if◌then◌else◌}
use Rattle.std.specs.List.{list_any}
use Rattle.std.proofs.Common.{ap, sym, ◌∙◌, subst, arith, append_assoc}
use Rattle.ls_base.specs.declared.Name.{Name}
use Rattle.ls_ast.specs.declared.tree.Case.{Case}
use Rattle.ls_ast.specs.declared.tree.Mark.{Mark}
use Rattle.ls_ast.specs.declared.tree.Mark.TheVariants as mark
use Rattle.ls_ast.specs.declared.tree.Expr.{Expr, Expr-F, fold-roll-Expr, ind-Expr, roll-Expr}
use Rattle.ls_ast.specs.declared.tree.Form.{Form, fold-Form, fold-roll-Form, map-Form, roll-Form}
use Rattle.ls_ast.specs.declared.tree.Form.TheOpen.{Form-F}
use Rattle.ls_sig.specs.declared.binder.Binder.{Binder}
use Rattle.ls_sig.specs.declared.binder.Binder.TheVariants as binder
use Rattle.ls_sig.specs.declared.binder.Note.{Note}
use Rattle.ls_sig.specs.declared.binder.Use.{Use}
use Rattle.ls_places.specs.Clocks.{option_part}
use Rattle.ls_places.specs.Search.{nth}
use Rattle.tree_notes.specs.Each.{Each}
use Rattle.tree_notes.specs.Order as Or
use Rattle.scope_rules.specs.Places.{stream}
use Rattle.scope_rules.specs.Claims as C
use Rattle.scope_rules.specs.Claims.{Claims, claims, form_claims, uses, uses_in, joined_uses, branch_uses, all_at, all_branches, at_marks, stand_for, proper, claim_of, claim_if, case_claims, merge_claims, applied_by, head_by, head_def, call_claims, def_claims, loose_claims, given_some, if_any}
use Rattle.scope_rules.specs.declared.claims.Claim.{Claim}
use Rattle.scope_rules.specs.declared.claims.Claim.TheVariants.{Stray as stray, Answered as answered, Timed as timed, Constructor as constructor, Branches as branches}
use Rattle.scope_rules.specs.declared.claims.Earlier.{Earlier}
use Rattle.scope_rules.specs.declared.claims.Stand.{Stand}
use Rattle.scope_rules.specs.declared.claims.Stand.TheVariants.{At as at, Loose as loose, Before as before, Asked as questioned, Applied as applied}
use Rattle.clock_rules.specs.declared.scheme.ClockScheme.{ClockScheme}
use Rattle.clock_rules.specs.Facts.{Facts}
use Rattle.clock_rules.specs.Files.{clock_marks}
use Rattle.clock_rules.specs.Layers.{Layer, Laid, Inside, laid, form_layers, expr_layers, laid_layers, note_of}
use Rattle.clock_rules.specs.Rules.{is_clock_mark}
use Rattle.clock_laws.specs.Scoped.{IsName, IsNameAt, GivesNames, CallScoped, FormScoped}
use Rattle.clock_premises.specs.Premises.{use_of, Given, CallGiven, FormGiven}
use Rattle.clock_premises.proofs.Lists.{differ, or_parts, map_on, each_both, each_left, each_right, each_weaker, none_left, none_right}

abbrev rest : {A : Type 0} → List A → List A
rest [] = []
rest (x ∷ xs) = xs

abbrev first_or : {A : Type 0} → A → List A → A
first_or a [] = a
first_or a (x ∷ xs) = x

regroup : {A B : Type 0} (f : A → B) (xs ys : List A) (us vs r r' : List B) → map f (xs ++ ys) ++ r ≡ (us ++ vs) ++ r' → map f xs ++ (map f ys ++ r) ≡ us ++ (vs ++ r')
regroup f xs ys us vs r r' e = sym (append_assoc (map f xs) (map f ys) r) ∙ ap (λ z. z ++ r) (sym (map_on f xs ys)) ∙ e ∙ append_assoc us vs r'

-- an earlier definition, as scope and as clocks see it
abbrev pub SameNames : Option Earlier → Option ClockScheme → Type 0
SameNames None None = Unit {0}
SameNames (Some e) (Some s) = s.names ≡ clock_marks e.marks 0
SameNames _ _ = ⊥

clock_is : (m : Mark) → is_clock_mark m ≡ true → m ≡ mark.Clock
clock_is mark.Clock e = refl
clock_is mark.Unknown e = absurd (cc)
clock_is mark.Data e = absurd (cc)
clock_is mark.Signal e = absurd (cc)
clock_is mark.Comb e = absurd (cc)
clock_is mark.Seq e = absurd (cc)

no_marks : (i : ℕ) (cs : List Claims) → at_marks [] i cs ≡ all_at stream cs
no_marks i [] = refl
no_marks i (c ∷ cs) = ap (λ z. c stream ++ z) (no_marks (i + 1) cs)

later_marks : (m : Mark) (ms : List Mark) (i : ℕ) (cs : List Claims) → at_marks (m ∷ ms) (suc i) cs ≡ at_marks ms i cs
later_marks m ms i [] = refl
later_marks m ms i (c ∷ cs) =
    let e : suc i + 1 ≡ suc (i + 1) = omega arith in
    ap (λ z. c (stand_for (slice_get ms i)) ++ at_marks (m ∷ ms) z cs) e ∙ ap (λ z. c (stand_for (slice_get ms i)) ++ z) (later_marks m ms (i + 1) cs)

-- `bad` claims are those at fault; a name that is no bad condition is a clock name
module _ (schemes : List ClockScheme) (d : Facts Note) (function : Note → Bool) (bad : Claim → Bool) (bad_stray : bad stray ≡ true) (defs : List Earlier) (heads : (j : ℕ) → SameNames (slice_get defs j) (nth schemes j))
    (bound cases : ℕ → Binder) (condition : (x : ℕ) → bad (claim_of bound x (at mark.Clock)) ≡ false → IsName schemes d (bound x)) where
  abbrev pub OK : List Claim → Type 0
  OK cs = list_any bad cs ≡ false

  ok_left : (xs ys : List Claim) → OK (xs ++ ys) → OK xs
  ok_left xs ys h = none_left bad xs ys h

  ok_right : (xs ys : List Claim) → OK (xs ++ ys) → OK ys
  ok_right xs ys h = none_right bad xs ys h

  ok_first : (c : Claim) (cs : List Claim) → OK (c ∷ cs) → bad c ≡ false
  ok_first c cs h = (or_parts (bad c) (list_any bad cs) h).0

  ok_rest : (c : Claim) (cs : List Claim) → OK (c ∷ cs) → OK cs
  ok_rest c cs h = (or_parts (bad c) (list_any bad cs) h).1

  -- no proper expression stands for a clock name
  no_proper : (cs : List Claim) → OK (proper (at mark.Clock) ++ cs) → ⊥
  no_proper cs h = differ (bad stray) (ok_first stray cs h) bad_stray

  no_proper_end : OK (proper (at mark.Clock)) → ⊥
  no_proper_end h = differ (bad stray) (ok_first stray [] h) bad_stray

  abbrev Lay : Type 0
  Lay = Laid Note function

  abbrev Is : Binder → Type 0
  Is = IsName schemes d

  abbrev pub Good : Layer Note → Type 0
  Good l = FormGiven schemes l.note l.form → FormScoped schemes d l.note l.form

  pub record Fact (c : Claims) (l : Lay) : Type 0 where
    pub layers : (s : Stand) → OK (c s) → Each Good l.all
    pub name : OK (c (at mark.Clock)) → Is l.note.bound

  abbrev Part : Type 0
  Part = (c : Claims) × (l : Lay) × Fact c l

  abbrev claims_in : List Part → List Claims
  claims_in = map {A = Part} {B = Claims} (λ p. p.0)

  abbrev laid_in : List Part → List Lay
  laid_in = map {A = Part} {B = Lay} (λ p. p.1)

  abbrev notes_in : List Part → List Note
  notes_in ps = map (note_of Note function) (laid_in ps)

  abbrev layers_in : List Part → List (Layer Note)
  layers_in ps = laid_layers Note function (laid_in ps)

  layers_at : (s : Stand) (ps : List Part) → OK (all_at s (claims_in ps)) → Each Good (layers_in ps)
  layers_at s [] h = tt
  layers_at s (p ∷ ps) h = each_both Good p.1.all (layers_in ps) (p.2.layers s (ok_left (p.0 s) (all_at s (claims_in ps)) h)) (layers_at s ps (ok_right (p.0 s) (all_at s (claims_in ps)) h))

  layers_marks : (ms : List Mark) (i : ℕ) (ps : List Part) → OK (at_marks ms i (claims_in ps)) → Each Good (layers_in ps)
  layers_marks ms i [] h = tt
  layers_marks ms i (p ∷ ps) h =
      let s = stand_for (slice_get ms i) in
      each_both Good p.1.all (layers_in ps) (p.2.layers s (ok_left (p.0 s) (at_marks ms (i + 1) (claims_in ps)) h)) (layers_marks ms (i + 1) ps (ok_right (p.0 s) (at_marks ms (i + 1) (claims_in ps)) h))

  -- what is given at Clock positions

  each_if : (A B : ℕ → Type 0) (b : Bool) (k : ℕ) (r : List ℕ) → Each A (if b then k ∷ r else r) → (b ≡ true → A k → B k) → (Each A r → Each B r) → Each B (if b then k ∷ r else r)
  each_if A B true k r h f g = (f refl h.0, g h.1)
  each_if A B false k r h f g = g h

  abbrev Something : List Note → ℕ → Type 0
  Something all q = nth all q ≡ None → ⊥

  abbrev Named : List Note → ℕ → Type 0
  Named all q = IsNameAt schemes d (nth all q)

  marks_named : (ms : List Mark) (ps : List Part) (all : List Note) (k : ℕ) → ((i : ℕ) → nth all (k + i) ≡ nth (notes_in ps) i) → OK (at_marks ms 0 (claims_in ps)) → Each (Something all) (clock_marks ms k)
      → Each (Named all) (clock_marks ms k)
  marks_named [] ps all k same h given = tt
  marks_named (m ∷ ms) [] all k same h given =
      each_if (Something all) (Named all) (is_clock_mark m) k (clock_marks ms (suc k)) given
      (λ e some. let z : k + 0 ≡ k = omega arith in absurd (some (ap (nth all) (sym z) ∙ same 0)))
      (λ g. marks_named ms [] all (suc k) (λ i. let z : suc k + i ≡ k + suc i = omega arith in ap (nth all) z ∙ same (suc i)) refl g)
  marks_named (m ∷ ms) (p ∷ ps) all k same h given =
      let here = ok_left (p.0 (at m)) (at_marks (m ∷ ms) 1 (claims_in ps)) h in
      let there : OK (at_marks ms 0 (claims_in ps)) = subst OK (later_marks m ms 0 (claims_in ps)) (ok_right (p.0 (at m)) (at_marks (m ∷ ms) 1 (claims_in ps)) h) in
      each_if (Something all) (Named all) (is_clock_mark m) k (clock_marks ms (suc k)) given
      (λ e some.
      let z : k + 0 ≡ k = omega arith in
      subst (IsNameAt schemes d) (sym (ap (nth all) (sym z) ∙ same 0)) (p.2.name (subst (λ m. OK (p.0 (at m))) (clock_is m e) here)))
      (λ g. marks_named ms ps all (suc k) (λ i. let z : suc k + i ≡ k + suc i = omega arith in ap (nth all) z ∙ same (suc i)) there g)

  abbrev claims_if : Option Part → Option Claims
  claims_if None = None
  claims_if (Some p) = Some p.0

  abbrev layers_if : Option Part → List (Layer Note)
  layers_if None = []
  layers_if (Some p) = p.1.all

  every_layers : (o : Option Part) → OK (if_any (claims_if o)) → Each Good (layers_if o)
  every_layers None h = tt
  every_layers (Some p) h = p.2.layers stream h

  def_marks : (g run again : Bool) (e : Earlier) (cs : List Claims) (s : Stand) → OK (def_claims g run again e cs s) → OK (at_marks e.marks 0 cs)
  def_marks true run again e cs s h = ok_right (claim_if (not (C.is_loose s || C.passable e (length cs))) stray) (at_marks e.marks 0 cs) h
  def_marks false run again e cs s h =
      ok_right (claim_if (run || (again || e.node)) timed) (at_marks e.marks 0 cs)
      (ok_right (claim_if (e.answers && not (C.for_answer s)) answered) (claim_if (run || (again || e.node)) timed ++ at_marks e.marks 0 cs)
      (ok_right (proper s) (claim_if (e.answers && not (C.for_answer s)) answered ++ (claim_if (run || (again || e.node)) timed ++ at_marks e.marks 0 cs)) h))

  loose_all : (position : Stand) (run again : Bool) (cs : List Claims) (s : Stand) → OK (loose_claims position run again cs s) → OK (all_at position cs)
  loose_all position run again cs s h = ok_right (claim_if (run || again) timed) (all_at position cs) (ok_right (proper s) (claim_if (run || again) timed ++ all_at position cs) h)

  call_layers : (z : C.Head) (run again : Bool) (ps : List Part) (s : Stand) → OK (call_claims z run again (claims_in ps) s) → Each Good (layers_in ps)
  call_layers (C.def e) run again ps s h = layers_marks e.marks 0 ps (def_marks (given_some run again e (length (claims_in ps)) s) run again e (claims_in ps) s h)
  call_layers C.param run again ps s h = layers_at loose ps (loose_all loose run again (claims_in ps) s h)
  call_layers C.other run again ps s h = layers_at stream ps (loose_all stream run again (claims_in ps) s h)

  call_no_name : (z : C.Head) (run again : Bool) (cs : List Claims) → OK (call_claims z run again cs (at mark.Clock)) → ⊥
  call_no_name (C.def e) run again cs h = no_proper _ h
  call_no_name C.param run again cs h = no_proper _ h
  call_no_name C.other run again cs h = no_proper _ h

  def_names : (e : Option Earlier) (s : Option ClockScheme) → SameNames e s → (run again : Bool) (ps : List Part) (st : Stand) → OK (call_claims (head_def e) run again (claims_in ps) st) → Given schemes (notes_in ps) s → GivesNames schemes d (notes_in ps) s
  def_names None None g run again ps st h given = tt
  def_names (Some e) (Some s) g run again ps st h given =
      let marks = def_marks (given_some run again e (length (claims_in ps)) st) run again e (claims_in ps) st h in
      subst (λ qs. Each (Named (notes_in ps)) qs) (sym g)
      (marks_named e.marks ps (notes_in ps) 0 (λ i. let z : 0 + i ≡ i = omega arith in ap (nth (notes_in ps)) z) marks (subst (λ qs. Each (Something (notes_in ps)) qs) g given))
  def_names None (Some s) g run again ps st h given = absurd g
  def_names (Some e) None g run again ps st h given = absurd g

  call_names : (z : Binder) (run again : Bool) (ps : List Part) (st : Stand) → OK (call_claims (head_by defs z) run again (claims_in ps) st) → CallGiven schemes (notes_in ps) z → CallScoped schemes d (notes_in ps) z
  call_names (binder.Def j) run again ps st h given = def_names (slice_get defs j) (nth schemes j) (heads j) run again ps st h given
  call_names binder.Nothing run again ps st h given = tt
  call_names (binder.Param j) run again ps st h given = tt
  call_names (binder.Var j) run again ps st h given = tt
  call_names (binder.Case e j) run again ps st h given = tt

  none_given : (s : Option ClockScheme) → Given schemes [] s → GivesNames schemes d [] s
  none_given None given = tt
  none_given (Some s) given = each_weaker (Something []) (Named []) s.names (λ q g. absurd (g refl)) given

  var_names : (z : Binder) → CallGiven schemes [] z → CallScoped schemes d [] z
  var_names (binder.Def j) given = none_given (nth schemes j) given
  var_names binder.Nothing given = tt
  var_names (binder.Param j) given = tt
  var_names (binder.Var j) given = tt
  var_names (binder.Case e j) given = tt

  -- the induction

  abbrev In : Type 0
  In = Inside Note function

  abbrev lstep : Form-F Note In Lay → In
  lstep = form_layers Note function

  abbrev lestep : Expr-F Note In Lay → Lay
  lestep = expr_layers Note function

  abbrev inside : Form Note → In
  inside = fold-Form Note In Lay lstep lestep

  abbrev lay : Expr Note → Lay
  lay = laid Note function

  abbrev cstep : Form-F Note Claims Claims → Claims
  cstep = C.form_step defs bound

  abbrev cestep : Expr-F Note Claims Claims → Claims
  cestep = C.expr_step defs bound

  abbrev ustep : Form-F Note (List Use) (List Use) → List Use
  ustep = C.form_uses bound cases

  abbrev uestep : Expr-F Note (List Use) (List Use) → List Use
  uestep = C.expr_uses bound cases

  abbrev own : Note → In → Lay
  own n x = lestep (record { note = n; form = x })

  abbrev P' : Expr Note → Type 0
  P' e = (r r' : List Use) → map use_of (Or.notes Note e) ++ r ≡ uses bound cases e ++ r' → Fact (claims defs bound e) (lay e) × (r ≡ r')

  abbrev Q : Form Note → Type 0
  Q x = (n : Note) (r r' : List Use) → use_of n ∷ (map use_of (Or.notes_form Note x) ++ r) ≡ uses_in bound cases x ++ r' → Fact (form_claims defs bound x) (own n (inside x)) × (r ≡ r')

  abbrev With : Type 0
  With = (x : Form Note) × Q x

  abbrev With' : Type 0
  With' = (e : Expr Note) × P' e

  abbrev tops : Form-F Note With With' → Form-F Note (Form Note) (Expr Note)
  tops = map-Form Note With With' (Form Note) (Expr Note) (λ p. p.0) (λ p. p.0)

  abbrev exprs : List With' → List (Expr Note)
  exprs = map {A = With'} {B = Expr Note} (λ p. p.0)

  abbrev choices : List (Case × With') → List (Case × Expr Note)
  choices = map {A = Case × With'} {B = Case × Expr Note} (λ c. (c.0, c.1.0))

  record Parts (es : List (Expr Note)) : Type 0 where
    pub list : List Part
    pub claims_are : claims_in list ≡ map (claims defs bound) es
    pub laid_are : laid_in list ≡ map lay es

  more_parts : (e : Expr Note) (es : List (Expr Note)) → Fact (claims defs bound e) (lay e) → Parts es → Parts (e ∷ es)
  more_parts e es h ps = record {
    list = (claims defs bound e, lay e, h) ∷ ps.list;
    claims_are = ap (λ z. claims defs bound e ∷ z) ps.claims_are;
    laid_are = ap (λ z. lay e ∷ z) ps.laid_are;
  }

  parts : (ps : List With') (r r' : List Use) → map use_of (Or.joined (map (Or.notes Note) (exprs ps))) ++ r ≡ joined_uses (map (uses bound cases) (exprs ps)) ++ r' → Parts (exprs ps) × (r ≡ r')
  parts [] r r' e = (record { list = []; claims_are = refl; laid_are = refl }, e)
  parts (p ∷ ps) r r' e =
      let ns = Or.joined (map (Or.notes Note) (exprs ps)) in
      let us = joined_uses (map (uses bound cases) (exprs ps)) in
      let h = p.1 (map use_of ns ++ r) (us ++ r') (regroup use_of (Or.notes Note p.0) ns (uses bound cases p.0) us r r' e) in
      let t = parts ps r r' h.1 in
      (more_parts p.0 (exprs ps) h.0 t.0, t.1)

  abbrev note_choices : List (Case × Expr Note) → List (Case × List Note)
  note_choices = map {A = Case × Expr Note} {B = Case × List Note} (λ c. (c.0, Or.notes Note c.1))

  abbrev use_choices : List (Case × Expr Note) → List (Case × List Use)
  use_choices = map {A = Case × Expr Note} {B = Case × List Use} (λ c. (c.0, uses bound cases c.1))

  abbrev claim_choices : List (Case × Expr Note) → List (Case × Claims)
  claim_choices = map {A = Case × Expr Note} {B = Case × Claims} (λ c. (c.0, claims defs bound c.1))

  abbrev laid_choices : List (Case × Expr Note) → List (Case × Lay)
  laid_choices = map {A = Case × Expr Note} {B = Case × Lay} (λ c. (c.0, lay c.1))

  abbrev laid_parts : List (Case × Lay) → List Lay
  laid_parts = map {A = Case × Lay} {B = Lay} (λ c. c.1)

  abbrev Choices : List (Case × Expr Note) → Type 0
  Choices = Each (λ (c : Case × Expr Note). Fact (claims defs bound c.1) (lay c.1))

  choice_parts : (ps : List (Case × With')) (r r' : List Use) → map use_of (Or.choices_joined (note_choices (choices ps))) ++ r ≡ branch_uses (use_choices (choices ps)) ++ r' → Choices (choices ps) × (r ≡ r')
  choice_parts [] r r' e = (tt, e)
  choice_parts (p ∷ ps) r r' e =
      let ns = Or.choices_joined (note_choices (choices ps)) in
      let us = branch_uses (use_choices (choices ps)) in
      let h = p.1.1 (map use_of ns ++ r) (us ++ r') (regroup use_of (Or.notes Note p.1.0) ns (uses bound cases p.1.0) us r r' e) in
      let t = choice_parts ps r r' h.1 in
      ((h.0, t.0), t.1)

  as_streams : (es : List (Expr Note)) → Parts es → OK (all_at stream (map (claims defs bound) es)) → Each Good (laid_layers Note function (map lay es))
  as_streams es ps h = subst (λ z. Each Good (laid_layers Note function z)) ps.laid_are (layers_at stream ps.list (subst (λ z. OK (all_at stream z)) (sym ps.claims_are) h))

  as_branches : (cs : List (Case × Expr Note)) → Choices cs → OK (all_branches (claim_choices cs)) → Each Good (laid_layers Note function (laid_parts (laid_choices cs)))
  as_branches [] h c = tt
  as_branches (x ∷ cs) h c =
      each_both Good (lay x.1).all (laid_layers Note function (laid_parts (laid_choices cs))) (h.0.layers stream (ok_left (claims defs bound x.1 stream) (all_branches (claim_choices cs)) c))
      (as_branches cs h.1 (ok_right (claims defs bound x.1 stream) (all_branches (claim_choices cs)) c))

  -- one part, and two
  one_layer : (e : Expr Note) → Fact (claims defs bound e) (lay e) → OK (claims defs bound e stream) → Each Good ((lay e).all ++ [])
  one_layer e h c = each_both Good (lay e).all [] (h.layers stream c) tt

  two_layers : (a b : Expr Note) → Fact (claims defs bound a) (lay a) → Fact (claims defs bound b) (lay b) → OK (claims defs bound a stream ++ claims defs bound b stream) → Each Good ((lay a).all ++ ((lay b).all ++ []))
  two_layers a b ha hb c = each_both Good (lay a).all ((lay b).all ++ []) (ha.layers stream (ok_left (claims defs bound a stream) (claims defs bound b stream) c)) (one_layer b hb (ok_right (claims defs bound a stream) (claims defs bound b stream) c))

  -- calls

  abbrev laid_if : Option Part → Option Lay
  laid_if None = None
  laid_if (Some p) = Some p.1

  each_laid : (xs ys : List Lay) → Each Good (laid_layers Note function xs) → Each Good (laid_layers Note function ys) → Each Good (laid_layers Note function (xs ++ ys))
  each_laid [] ys a b = b
  each_laid (x ∷ xs) ys a b =
      each_both Good x.all (laid_layers Note function (xs ++ ys)) (each_left Good x.all (laid_layers Note function xs) a) (each_laid xs ys (each_right Good x.all (laid_layers Note function xs) a) b)

  laid_every : (o : Option Part) → Each Good (layers_if o) → Each Good (laid_layers Note function (option_part (laid_if o)))
  laid_every None h = tt
  laid_every (Some p) h = each_both Good p.1.all [] h tt

  call_fact : (n : Note) (run again : Bool) (x : Name) (ps : List Part) (o : Option Part) → n.bound ≡ bound x.0
      → Fact (λ s. claim_of bound x.0 (applied (applied_by run)) ∷ call_claims (head_by defs (bound x.0)) run again (claims_in ps) s ++ if_any (claims_if o)) (own n (lstep (Form-F.Call run x (laid_in ps) (laid_if o))))
  call_fact n run again x ps o e =
      let one = claim_of bound x.0 (applied (applied_by run)) in
      let head = head_by defs (bound x.0) in
      record {
        layers = λ s c.
            let k = ok_rest one (call_claims head run again (claims_in ps) s ++ if_any (claims_if o)) c in
            let a = ok_left (call_claims head run again (claims_in ps) s) (if_any (claims_if o)) k in
            let b = ok_right (call_claims head run again (claims_in ps) s) (if_any (claims_if o)) k in (
              (λ g. subst (CallScoped schemes d (notes_in ps)) (sym e) (call_names (bound x.0) run again ps s a (subst (CallGiven schemes (notes_in ps)) e g))),
              each_laid (laid_in ps) (option_part (laid_if o)) (call_layers head run again ps s a) (laid_every o (every_layers o b)),
            );
        name = λ c. absurd (call_no_name head run again (claims_in ps) (ok_left (call_claims head run again (claims_in ps) (at mark.Clock)) (if_any (claims_if o)) (ok_rest one (call_claims head run again (claims_in ps) (at mark.Clock) ++ if_any (claims_if o)) c)));
      }

  call_none : (n : Note) (run : Bool) (x : Name) (es : List (Expr Note)) → Parts es → n.bound ≡ bound x.0
      → Fact (λ s. claim_of bound x.0 (applied (applied_by run)) ∷ call_claims (head_by defs (bound x.0)) run false (map (claims defs bound) es) s ++ if_any None) (own n (lstep (Form-F.Call run x (map lay es) None)))
  call_none n run x es ps e = subst (λ (z : Type 0). z)
      (λ i. Fact (λ s. claim_of bound x.0 (applied (applied_by run)) ∷ call_claims (head_by defs (bound x.0)) run false (ps.claims_are i) s ++ if_any None) (own n (lstep (Form-F.Call run x (ps.laid_are i) None))))
      (call_fact n run false x ps.list None e)

  call_some : (n : Note) (run : Bool) (x : Name) (es : List (Expr Note)) (a : Expr Note) → Parts es → Fact (claims defs bound a) (lay a) → n.bound ≡ bound x.0
      → Fact (λ s. claim_of bound x.0 (applied (applied_by run)) ∷ call_claims (head_by defs (bound x.0)) run true (map (claims defs bound) es) s ++ if_any (Some (claims defs bound a))) (own n (lstep (Form-F.Call run x (map lay es) (Some (lay a)))))
  call_some n run x es a ps h e = subst (λ (z : Type 0). z)
      (λ i. Fact (λ s. claim_of bound x.0 (applied (applied_by run)) ∷ call_claims (head_by defs (bound x.0)) run true (ps.claims_are i) s ++ if_any (Some (claims defs bound a))) (own n (lstep (Form-F.Call run x (ps.laid_are i) (Some (lay a))))))
      (call_fact n run true x ps.list (Some (claims defs bound a, lay a, h)) e)

  -- the note is of the binder of the name
  note_is : (n : Note) (z : Binder) (xs ys : List Use) → use_of n ∷ xs ≡ C.use_of z ∷ ys → n.bound ≡ z
  note_is n z xs ys e = ap (λ l. (first_or (use_of n) l).bound) e

  case_rest : (c : Case) (cs : List Claim) → OK (case_claims c ++ cs) → OK cs
  case_rest c cs h = ok_right (case_claims c) cs h

  abbrev Goal : Form-F Note With With' → Type 0
  Goal y = (n : Note) (r r' : List Use)
      → use_of n ∷ (map use_of (Or.form_notes Note (map-Form Note (Form Note) (Expr Note) (List Note) (List Note) (Or.notes_form Note) (Or.notes Note) (tops y))) ++ r)
      ≡ ustep (map-Form Note (Form Note) (Expr Note) (List Use) (List Use) (uses_in bound cases) (uses bound cases) (tops y)) ++ r'
      → Fact (cstep (map-Form Note (Form Note) (Expr Note) Claims Claims (form_claims defs bound) (claims defs bound) (tops y)))
      (own n (lstep (map-Form Note (Form Note) (Expr Note) In Lay inside lay (tops y)))) × (r ≡ r')

  layer : (y : Form-F Note With With') → Goal y
  layer (Form-F.Leaf l) n r r' e = (record { layers = λ s h. ((λ g. tt), tt); name = λ h. absurd (no_proper_end h) }, ap rest e)
  layer (Form-F.Case x) n r r' e = (record { layers = λ s h. ((λ g. tt), tt); name = λ h. absurd (no_proper_end (ok_rest (constructor x.0) (proper (at mark.Clock)) h)) }, ap rest e)
  layer (Form-F.Var x) n r r' e =
      let is : n.bound ≡ bound x.0 = note_is n (bound x.0) r r' e in
      (record { layers = λ s h. ((λ g. var_names n.bound g), tt); name = λ h. subst Is (sym is) (condition x.0 (ok_first (claim_of bound x.0 (at mark.Clock)) [] h)) }, ap rest e)
  layer (Form-F.Last x) n r r' e =
      (record { layers = λ s h. ((λ g. tt), tt); name = λ h. absurd (no_proper_end (ok_rest (claim_of bound x.0 before) (proper (at mark.Clock)) (ok_rest timed (claim_of bound x.0 before ∷ proper (at mark.Clock)) h))) }, ap rest e)
  layer (Form-F.Asked x) n r r' e =
      (record { layers = λ s h. ((λ g. tt), tt); name = λ h. absurd (no_proper_end (ok_rest (claim_of bound x.0 questioned) (proper (at mark.Clock)) (ok_rest timed (claim_of bound x.0 questioned ∷ proper (at mark.Clock)) h))) }, ap rest e)
  layer (Form-F.Op op ps) n r r' e =
      let h = parts ps r r' (ap rest e) in
      let cs = all_at stream (map (claims defs bound) (exprs ps)) in
      (record { layers = λ s c. ((λ g. tt), as_streams (exprs ps) h.0 (ok_right (proper s) cs c)); name = λ c. absurd (no_proper cs c) }, h.1)
  layer (Form-F.Tuple ps) n r r' e =
      let h = parts ps r r' (ap rest e) in
      let cs = all_at stream (map (claims defs bound) (exprs ps)) in
      (record { layers = λ s c. ((λ g. tt), as_streams (exprs ps) h.0 (ok_right (proper s) cs c)); name = λ c. absurd (no_proper cs c) }, h.1)
  layer (Form-F.Pre p) n r r' e =
      let h = p.1 r r' (ap rest e) in
      let cs = claims defs bound p.0 stream in (
        record {
          layers = λ s c. ((λ g. tt), one_layer p.0 h.0 (ok_right (proper s) cs (ok_rest timed (proper s ++ cs) c)));
          name = λ c. absurd (no_proper cs (ok_rest timed (proper (at mark.Clock) ++ cs) c));
        },
        h.1,
      )
  layer (Form-F.Fby p q) n r r' e =
      let h = p.1 _ _ (regroup use_of (Or.notes Note p.0) (Or.notes Note q.0) (uses bound cases p.0) (uses bound cases q.0) r r' (ap rest e)) in
      let g = q.1 r r' h.1 in
      let cs = claims defs bound p.0 stream ++ claims defs bound q.0 stream in (
        record {
          layers = λ s c. ((λ g. tt), two_layers p.0 q.0 h.0 g.0 (ok_right (proper s) cs (ok_rest timed (proper s ++ cs) c)));
          name = λ c. absurd (no_proper cs (ok_rest timed (proper (at mark.Clock) ++ cs) c));
        },
        g.1,
      )
  layer (Form-F.Init p q) n r r' e =
      let h = p.1 _ _ (regroup use_of (Or.notes Note p.0) (Or.notes Note q.0) (uses bound cases p.0) (uses bound cases q.0) r r' (ap rest e)) in
      let g = q.1 r r' h.1 in
      let cs = claims defs bound p.0 stream ++ claims defs bound q.0 stream in (
        record {
          layers = λ s c. ((λ g. tt), two_layers p.0 q.0 h.0 g.0 (ok_right (proper s) cs (ok_rest timed (proper s ++ cs) c)));
          name = λ c. absurd (no_proper cs (ok_rest timed (proper (at mark.Clock) ++ cs) c));
        },
        g.1,
      )
  layer (Form-F.When p x c') n r r' e =
      let h = p.1 r r' (ap rest e) in
      let is : n.bound ≡ bound x.0 = note_is n (bound x.0) _ _ e in
      let cs = claims defs bound p.0 stream in
      let one = claim_of bound x.0 (at mark.Clock) in
      let after : Claims = λ s. case_claims c' ++ (proper s ++ cs) in (
        record {
          layers = λ s c. let k = ok_rest timed (one ∷ after s) c in ((λ g. subst Is (sym is) (condition x.0 (ok_first one (after s) k))), one_layer p.0 h.0 (ok_right (proper s) cs (case_rest c' (proper s ++ cs) (ok_rest one (after s) k))));
          name = λ c. absurd (no_proper cs (case_rest c' (proper (at mark.Clock) ++ cs) (ok_rest one (after (at mark.Clock)) (ok_rest timed (one ∷ after (at mark.Clock)) c))));
        },
        h.1,
      )
  layer (Form-F.Merge x ps) n r r' e =
      let h = choice_parts ps r r' (ap rest e) in
      let is : n.bound ≡ bound x.0 = note_is n (bound x.0) _ _ e in
      let bs : List (Case × Claims) = claim_choices (choices ps) in
      let one = claim_of bound x.0 (at mark.Clock) in
      let two = branches (C.cases_of bs) in
      let after : Claims = λ s. proper s ++ all_branches bs in (
        record {
          layers = λ s c. let k = ok_rest timed (one ∷ two ∷ after s) c in ((λ g. subst Is (sym is) (condition x.0 (ok_first one (two ∷ after s) k))), as_branches (choices ps) h.0 (ok_right (proper s) (all_branches bs) (ok_rest two (after s) (ok_rest one (two ∷ after s) k))));
          name = λ c. absurd (no_proper (all_branches bs) (ok_rest two (after (at mark.Clock)) (ok_rest one (two ∷ after (at mark.Clock)) (ok_rest timed (one ∷ two ∷ after (at mark.Clock)) c))));
        },
        h.1,
      )
  layer (Form-F.Call run x ps None) n r r' e =
      let h = parts ps _ _ (regroup use_of (Or.joined (map (Or.notes Note) (exprs ps))) [] (joined_uses (map (uses bound cases) (exprs ps))) [] r r' (ap rest e)) in
      (call_none n run x (exprs ps) h.0 (ap (λ l. (first_or (use_of n) l).bound) e), h.1)
  layer (Form-F.Call run x ps (Some p)) n r r' e =
      let h = parts ps _ _ (regroup use_of (Or.joined (map (Or.notes Note) (exprs ps))) (Or.notes Note p.0) (joined_uses (map (uses bound cases) (exprs ps))) (uses bound cases p.0) r r' (ap rest e)) in
      let g = p.1 r r' h.1 in
      (call_some n run x (exprs ps) p.0 h.0 g.0 (ap (λ l. (first_or (use_of n) l).bound) e), g.1)

  at_form : (y : Form-F Note With With') → Q (roll-Form Note (tops y))
  at_form y n r r' e =
      let en = fold-roll-Form Note (List Note) (List Note) (Or.form_notes Note) (Or.expr_notes Note) (tops y) in
      let eu = fold-roll-Form Note (List Use) (List Use) ustep uestep (tops y) in
      let ec = fold-roll-Form Note Claims Claims cstep cestep (tops y) in
      let el = fold-roll-Form Note In Lay lstep lestep (tops y) in
      subst (λ (z : Type 0). z) (λ i. Fact (sym ec i) (own n (sym el i)) × (r ≡ r'))
      (layer y n r r' ((λ i. use_of n ∷ (map use_of (sym en i) ++ r)) ∙ e ∙ (λ i. eu i ++ r')))

  at_expr : (n : Note) (p : With) → P' (roll-Expr Note (record { note = n; form = p.0 }))
  at_expr n p r r' e =
      let en = fold-roll-Expr Note (List Note) (List Note) (Or.form_notes Note) (Or.expr_notes Note) (record { note = n; form = p.0 }) in
      let eu = fold-roll-Expr Note (List Use) (List Use) ustep uestep (record { note = n; form = p.0 }) in
      let ec = fold-roll-Expr Note Claims Claims cstep cestep (record { note = n; form = p.0 }) in
      let el = fold-roll-Expr Note In Lay lstep lestep (record { note = n; form = p.0 }) in
      subst (λ (z : Type 0). z) (λ i. Fact (sym ec i) (sym el i) × (r ≡ r'))
      (p.1 n r r' ((λ i. map use_of (sym en i) ++ r) ∙ e ∙ (λ i. eu i ++ r')))

  facts : (e : Expr Note) → P' e
  facts = ind-Expr Note Q P'
      (λ x y from. subst (λ z. Q (roll-Form Note z)) from (at_form y))
      (λ x y from. subst (λ z. P' (roll-Expr Note z)) from (at_expr y.note y.form))

  end_nil : (xs : List Use) → xs ++ [] ≡ xs
  end_nil [] = refl
  end_nil (x ∷ xs) = ap (λ z. x ∷ z) (end_nil xs)

  -- of an expression whose notes are the binders of its names
  pub expr_good : (e : Expr Note) (s : Stand) → map use_of (Or.notes Note e) ≡ uses bound cases e → OK (claims defs bound e s) → Each Good (lay e).all
  expr_good e s h ok = (facts e [] [] (end_nil (map use_of (Or.notes Note e)) ∙ h ∙ sym (end_nil (uses bound cases e)))).0.layers s ok
