-- What stands in the body of a resolved definition names what is there.
use Rattle.std.specs.Prelude.{◌≡◌, refl, ℕ, zero, suc, ◌+◌, ◌<◌, ◌≤◌, Bool, List, [], ◌∷◌, ◌++◌, map, length, slice_get, Option, Some, None}
use Rattle.std.proofs.Common.{ap, sym, ◌∙◌, subst, arith, get_or}
use Rattle.std.proofs.lemmas.List.Elements.{All-get_or}
use Rattle.ls_ast.specs.declared.tree.BodyOf.{BodyOf}
use Rattle.ls_ast.specs.declared.tree.Expr.{Expr}
use Rattle.ls_ast.specs.declared.tree.Plain.{Plain}
use Rattle.ls_sig.specs.declared.binder.Binder.{Binder}
use Rattle.ls_sig.specs.declared.binder.Binder.TheVariants as b
use Rattle.ls_sig.specs.declared.binder.Note.{Note}
use Rattle.ls_sig.specs.declared.binder.Use.{Use}
use Rattle.ls_places.specs.Clocks.{is_signal}
use Rattle.ls_places.specs.Definitions.{definition_of}
use Rattle.ls_places.specs.Places as F
use Rattle.ls_places.specs.Search.{count_up, nth}
use Rattle.ls_places.specs.Ranges.{NamedBelow}
use Rattle.ls_places.specs.declared.places.Named.TheVariants as named
use Rattle.ls_places.proofs.Ranged.{found_in_range}
use Rattle.ls_terms.specs.declared.clocks.ClockTerm.{ClockTerm}
use Rattle.ls_places.specs.declared.places.Whole.{Whole}
use Rattle.ls_places.specs.declared.definition.Key.{Key}
use Rattle.ls_places.specs.declared.definition.Key.TheVariants as key
use Rattle.ls_places.specs.declared.definition.Definition.{Definition}
use Rattle.tree_notes.specs.Each.{Each}
use Rattle.tree_notes.specs.Noted.{in_body}
use Rattle.tree_notes.specs.Order as Or
use Rattle.kahn_model.specs.Reads.{Shape, arm_keys}
use Rattle.scope_rules.specs.Places as P
use Rattle.scope_rules.specs.Places.{Place, reads, tests}
use Rattle.scope_rules.specs.Claims.{uses}
use Rattle.scope_rules.specs.Faults as Fa
use Rattle.scope_rules.specs.Faults.{Judged, Sight, binder_at}
use Rattle.scope_rules.specs.Laws.{InSight, placed_exprs, whole_key, site_key, variable_key}
use Rattle.scope_rules.specs.Resolved as R
use Rattle.scope_rules.proofs.AsFound.{exprs_alike, variables_alike}
use Rattle.scope_rules.proofs.InSight.{uses_in_sight}
use Rattle.type_premises.proofs.Trees as Tr
use Rattle.causality_links.specs.Close.{Scoped}
use Rattle.causality_premises.specs.Premises.{There, BoundThere, NoteThere, ClockThere, ClockKnown, NoteKnown, ClocksKnown, PlaceThere, AllThere, WholeThere, use_of}
use Rattle.causality_premises.proofs.Clocks.{clock_there}
use Rattle.causality_premises.proofs.Found as Fo
use Rattle.causality_premises.proofs.Within.{scoped, arms_there, same_number, has_left, has_right, keys_in}

each_right : {A : Type 0} (Q : A → Type 0) (xs ys : List A) → Each Q (xs ++ ys) → Each Q ys
each_right Q [] ys a = a
each_right Q (x ∷ xs) ys a = each_right Q xs ys a.1

each_mapped : {A B : Type 0} (f : A → B) (Q : B → Type 0) (xs : List A) → Each Q (map f xs) → Each (λ x. Q (f x)) xs
each_mapped f Q [] h = tt
each_mapped f Q (x ∷ xs) h = (h.0, each_mapped f Q xs h.1)

each_weaker : {A : Type 0} (Q Q' : A → Type 0) (xs : List A) → ((x : A) → Q x → Q' x) → Each Q xs → Each Q' xs
each_weaker Q Q' [] f h = tt
each_weaker Q Q' (x ∷ xs) f h = (f x h.0, each_weaker Q Q' xs f h.1)

each_two : {A : Type 0} (P Q S : A → Type 0) (xs : List A) → ((x : A) → P x → Q x → S x) → Each P xs → Each Q xs → Each S xs
each_two P Q S [] f h g = tt
each_two P Q S (x ∷ xs) f h g = (f x h.0 g.0, each_two P Q S xs f h.1 g.1)

length_of : {A B : Type 0} (f : A → B) (xs : List A) → length (map f xs) ≡ length xs
length_of f [] = refl
length_of f (x ∷ xs) = ap suc (length_of f xs)

there_below : {A : Type 0} (xs : List A) (k : ℕ) (x : A) → slice_get xs k ≡ Some x → suc k ≤ length xs
there_below [] k x e = absurd (cc)
there_below (y ∷ xs) zero x e = omega arith
there_below (y ∷ xs) (suc k) x e = let h = there_below xs k x e in omega (arith, h)

nth_below : {A : Type 0} (xs : List A) (k : ℕ) (x : A) → nth xs k ≡ Some x → suc k ≤ length xs
nth_below [] k x e = absurd (cc)
nth_below (y ∷ xs) zero x e = omega arith
nth_below (y ∷ xs) (suc k) x e = let h = nth_below xs k x e in omega (arith, h)

abbrev or_item : {A : Type 0} → A → Option A → A
or_item y (Some x) = x
or_item y None = y

nth_or : {A : Type 0} (xs : List A) (k : ℕ) (x z : A) → nth xs k ≡ Some x → get_or xs k z ≡ x
nth_or [] k x z e = absurd (cc)
nth_or (y ∷ xs) zero x z e = ap (or_item y) e
nth_or (y ∷ xs) (suc k) x z e = nth_or xs k x z e

module _ (j : Judged Plain) (cases : ℕ → Option ℕ) (ns : List Note) (body : BodyOf Note) (shapes : List Shape) (is : in_body Note Use use_of body ≡ R.resolved_body j) where
  abbrev d : Definition
  d = definition_of cases j.params ns body

  abbrev first : ℕ
  first = length j.params

  abbrev signal : Expr Note → Bool
  signal e = is_signal e.note

  abbrev h : Sight
  h = Fa.sight j

  abbrev vars : List Key
  vars = map key.Var (count_up (length d.places.vars) 0)

  abbrev starts : List Key
  starts = map key.Start (count_up (length d.places.vars) 0)

  abbrev names : List Key
  names = map key.Name (count_up (length d.places.names) first)

  abbrev resets : List Key
  resets = map key.Reset (count_up (length d.places.resets) 0)

  block_row : (i : ℕ) → suc i ≤ length d.places.names → There d shapes (key.Name (first + i))
  block_row i l =
      let low : first ≤ first + i = omega arith in
      let high : suc (first + i) ≤ first + length d.places.names = omega (arith, l) in
      has_left (key.Name (first + i)) ((vars ++ starts) ++ names) resets (has_right (key.Name (first + i)) (vars ++ starts) names (keys_in key.Name same_number (length d.places.names) first (first + i) low high))

  reset_row : (i : ℕ) → suc i ≤ length d.places.resets → There d shapes (key.Reset i)
  reset_row i l =
      let high : suc i ≤ 0 + length d.places.resets = omega (arith, l) in
      has_right (key.Reset i) ((vars ++ starts) ++ names) resets (keys_in key.Reset same_number (length d.places.resets) 0 i (omega arith) high)

  var_row : (k : ℕ) → suc k ≤ length d.places.vars → There d shapes (key.Var k)
  var_row k l =
      let high : suc k ≤ 0 + length d.places.vars = omega (arith, l) in
      has_left (key.Var k) ((vars ++ starts) ++ names) resets (has_left (key.Var k) (vars ++ starts) names (has_left (key.Var k) vars starts (keys_in key.Var same_number (length d.places.vars) 0 k (omega arith) high)))

  start_row : (k : ℕ) → suc k ≤ length d.places.vars → There d shapes (key.Start k)
  start_row k l =
      let high : suc k ≤ 0 + length d.places.vars = omega (arith, l) in
      has_left (key.Start k) ((vars ++ starts) ++ names) resets (has_left (key.Start k) (vars ++ starts) names (has_right (key.Start k) vars starts (keys_in key.Start same_number (length d.places.vars) 0 k (omega arith) high)))

  good : Fo.Good d shapes cases signal block_row reset_row d.places
  good = Fo.found_good d shapes cases signal block_row reset_row body refl

  -- as many variables as scope sees

  as_many : length h.vars ≡ length d.places.vars
  as_many =
      ap (λ z. length (Fa.variables z)) (Tr.sites_same use_of j body is)
      ∙ sym (length_of site_key (Fa.variables (P.contents_of Note first body).sites))
      ∙ ap length (variables_alike Note first cases signal body)
      ∙ length_of variable_key d.places.vars

  bound_there : (p : Place) (z : Binder) → InSight h j.known.enums p z → BoundThere d shapes z
  bound_there p (b.Var k) s = let l = there_below h.vars k s.site s.is in let m = as_many in (var_row k (omega (arith, l, m)), start_row k (omega (arith, l, m)))
  bound_there p b.Nothing s = tt
  bound_there p (b.Def k) s = tt
  bound_there p (b.Param k) s = tt
  bound_there p (b.Case t k) s = tt

  abbrev BoundAll : Expr Note × Place → Type 0
  BoundAll x = Each (λ (n : Note). BoundThere d shapes n.bound) (Or.notes Note x.0)

  read_bound : (e : Expr Note) (p : Place) → map use_of (Or.notes Note e) ≡ uses (binder_at h p) (R.case_of j.known) e → BoundAll (e, p)
  read_bound e p same =
      let Q : Use → Type 0 = λ u. InSight h j.known.enums p u.bound in
      each_weaker (λ (n : Note). InSight h j.known.enums p n.bound) (λ (n : Note). BoundThere d shapes n.bound) (Or.notes Note e) (λ n s. bound_there p n.bound s)
      (each_mapped use_of Q (Or.notes Note e) (subst (Each Q) (sym same) (uses_in_sight Note h j.known p e)))

  all_bound : (rs : List (P.Reading Note)) → Each (Tr.NotesAre use_of h j.known) rs → Each BoundAll (placed_exprs rs)
  all_bound [] a = tt
  all_bound (reads e s p ∷ rs) a = (read_bound e p a.0, all_bound rs a.1)
  all_bound (tests x p ∷ rs) a = all_bound rs a.1

  wholes_bound : Each (λ (w : Whole Note). Each (λ (n : Note). BoundThere d shapes n.bound) (Or.notes Note w.expr)) d.places.exprs
  wholes_bound = each_mapped whole_key BoundAll d.places.exprs (subst (Each BoundAll) (exprs_alike Note first cases signal body) (all_bound (Tr.readings use_of j body is) (Tr.all_notes use_of j body is)))

  -- clocks

  clock_row : (i x : ℕ) → nth d.places.names i ≡ Some (named.Clock x) → There d shapes (key.Var x)
  clock_row i x e =
      let l = nth_below d.places.names i (named.Clock x) e in
      let below : NamedBelow (length d.places.vars) (length d.places.exprs) (get_or d.places.names i (named.Clock x)) =
      All-get_or (NamedBelow (length d.places.vars) (length d.places.exprs)) d.places.names i (named.Clock x) (omega (arith, l)) (found_in_range Note first cases signal body).names in
      let known : x < length d.places.vars = subst (NamedBelow (length d.places.vars) (length d.places.exprs)) (nth_or d.places.names i (named.Clock x) (named.Clock x) e) below in
      var_row x (omega (arith, known))

  placed : Each (λ (w : Whole Note). AllThere d shapes (arm_keys (F.arms w.place))) d.places.exprs
  placed = each_weaker (λ (w : Whole Note). PlaceThere d shapes w.place) (λ (w : Whole Note). AllThere d shapes (arm_keys (F.arms w.place))) d.places.exprs (λ w p. arms_there d shapes w.place p) good.exprs

  there : (ck : ClockTerm) → ClockKnown d ck → ClockThere d shapes ck
  there = clock_there d shapes placed block_row clock_row

  notes_there : (e : Expr Note) → Each (λ (n : Note). BoundThere d shapes n.bound) (Or.notes Note e) → Each (NoteKnown d) (Or.notes Note e) → Each (NoteThere d shapes) (Or.notes Note e)
  notes_there e x y = each_two (λ (n : Note). BoundThere d shapes n.bound) (NoteKnown d) (NoteThere d shapes) (Or.notes Note e) (λ n p q. record {
    clock = there n.ck q.clock;
    bound = p;
    restarts = each_weaker (λ x. x < length d.places.vars) (λ x. There d shapes (key.Var x)) n.restarts (λ x l. var_row x (omega (arith, l))) q.restarts;
  }) x y

  abbrev Clear : Whole Note → Type 0
  Clear w = Each (NoteThere d shapes) (Or.notes Note w.expr)

  wholes_clear : ClocksKnown d → Each Clear d.places.exprs
  wholes_clear c = each_two (λ (w : Whole Note). Each (λ (n : Note). BoundThere d shapes n.bound) (Or.notes Note w.expr)) (λ (w : Whole Note). Each (NoteKnown d) (Or.notes Note w.expr)) Clear d.places.exprs (λ w x y. notes_there w.expr x y) wholes_bound c.exprs

  -- the result is the last of the whole expressions
  abbrev before : F.Found Note
  before = F.walk_body Note first cases signal body.eqs F.at_top (F.nothing Note)

  result_clear : Each Clear d.places.exprs → Each (NoteThere d shapes) (Or.notes Note d.result)
  result_clear a = (each_right Clear before.exprs (record { expr = body.result; place = [] } ∷ []) a).0

  pub reads_scoped : ClocksKnown d → Scoped d shapes
  reads_scoped c =
      let clear = wholes_clear c in
      scoped d shapes (record {
        clocks = each_weaker (ClockKnown d) (ClockThere d shapes) d.clocks there c.clocks;
        result = result_clear clear;
        exprs = each_two (λ (w : Whole Note). PlaceThere d shapes w.place) Clear (WholeThere d shapes) d.places.exprs (λ w p q. record { place = p; notes = q }) good.exprs clear;
        sites = good.sites;
        vars = good.vars;
        names = good.names;
      })
