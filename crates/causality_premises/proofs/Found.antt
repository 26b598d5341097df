-- The places in a body are of its blocks and its resets.
use Rattle.std.specs.Prelude.{◌≡◌, refl, ℕ, suc, ◌+◌, ◌-◌, ◌≤◌, Bool, true, false, List, [], ◌∷◌, ◌++◌, map, length, slice_set, Option, Some, None, option_map, unwrap_or}
use Rattle.std.proofs.Common.{ap, sym, ◌∙◌, subst, arith, append_assoc}
use Rattle.ls_ast.specs.declared.tree.Pat.{Pat}
use Rattle.ls_ast.specs.declared.tree.BodyOf.{BodyOf}
use Rattle.ls_ast.specs.declared.tree.Expr.{Expr}
use Rattle.ls_ast.specs.declared.tree.Equation.{Equation}
use Rattle.ls_ast.specs.declared.tree.Equation.TheOpen.{Equation-F, Arm-F, Guard-F, Handler-F, State-F, Test-F}
use Rattle.ls_sig.specs.declared.binder.Note.{Note}
use Rattle.ls_places.specs.Patterns as FP
use Rattle.ls_places.specs.Places as F
use Rattle.ls_places.specs.declared.around.Where as around_of
use Rattle.ls_places.specs.declared.places.Frame.TheVariants as frame
use Rattle.ls_places.specs.declared.places.Named.{Named}
use Rattle.ls_places.specs.declared.places.Named.TheVariants as named
use Rattle.ls_places.specs.declared.places.Right.{Right}
use Rattle.ls_places.specs.declared.places.Right.TheVariants as rhs
use Rattle.ls_places.specs.declared.places.Whole.{Whole}
use Rattle.ls_places.specs.declared.definition.Key.{Key}
use Rattle.ls_places.specs.declared.definition.Key.TheVariants as key
use Rattle.ls_places.specs.declared.definition.Definition.{Definition}
use Rattle.tree_notes.specs.Each.{Each}
use Rattle.tree_notes.proofs.RelatedEquations.{related_equations, lefts_Equation, lefts_Arm, lefts_Guard, lefts_Handler, lefts_State, lefts_Test, rights_Equation, rights_Arm, rights_Guard, rights_Handler, rights_State, rights_Test}
use Rattle.kahn_model.specs.Reads.{Shape, around_keys, arm_keys}
use Rattle.causality_premises.specs.Premises.{There, AllThere, PlaceThere, ArmsThere, NamesThere, SiteThere, VariableThere}

each_both : {A : Type 0} (Q : A → Type 0) (xs ys : List A) → Each Q xs → Each Q ys → Each Q (xs ++ ys)
each_both Q [] ys a b = b
each_both Q (x ∷ xs) ys a b = (a.0, each_both Q xs ys a.1 b)

end_nil : {A : Type 0} (xs : List A) → xs ++ [] ≡ xs
end_nil [] = refl
end_nil (x ∷ xs) = ap (λ z. x ∷ z) (end_nil xs)

length_on : {A : Type 0} (xs ys : List A) → length (xs ++ ys) ≡ length xs + length ys
length_on [] ys = let z : length ys ≡ 0 + length ys = omega arith in z
length_on (x ∷ xs) ys = let h = length_on xs ys in omega (arith, h)

set_at : {A : Type 0} (xs : List A) (y z : A) (ys : List A) → slice_set (xs ++ y ∷ ys) (length xs) z ≡ xs ++ z ∷ ys
set_at [] y z ys = refl
set_at (x ∷ xs) y z ys = ap (λ l. x ∷ l) (set_at xs y z ys)

one_on : (n : ℕ) → suc n + 1 ≡ suc (n + 1)
one_on n = omega arith

set_next : {A : Type 0} (xs : List A) (x y z : A) (ys : List A) → slice_set (xs ++ x ∷ y ∷ ys) (length xs + 1) z ≡ xs ++ x ∷ z ∷ ys
set_next [] x y z ys = let e : 0 + 1 ≡ 1 = omega arith in ap (λ i. slice_set (x ∷ y ∷ ys) i z) e
set_next (w ∷ xs) x y z ys = ap (λ i. slice_set (w ∷ xs ++ x ∷ y ∷ ys) i z) (one_on (length xs)) ∙ ap (λ l. w ∷ l) (set_next xs x y z ys)

record More {A : Type 0} (xs ys : List A) : Type 0 where
  pub list : List A
  pub is : ys ≡ xs ++ list

more_none : {A : Type 0} (xs : List A) → More xs xs
more_none xs = record { list = []; is = sym (end_nil xs) }

more_then : {A : Type 0} (xs ys zs : List A) → More xs ys → More ys zs → More xs zs
more_then xs ys zs a b = record { list = a.list ++ b.list; is = b.is ∙ ap (λ z. z ++ b.list) a.is ∙ append_assoc xs a.list b.list }

more_one : {A : Type 0} (xs : List A) (x : A) → More xs (xs ++ x ∷ [])
more_one xs x = record { list = x ∷ []; is = refl }

more_long : {A : Type 0} (xs ys : List A) (n : ℕ) → More xs ys → length ys ≤ n → length xs ≤ n
more_long xs ys n m l = let e = ap length m.is ∙ length_on xs m.list in omega (arith, e, l)

abbrev U : Type 0
U = Unit {0}

module _ (d : Definition) (shapes : List Shape) (cases : ℕ → Option ℕ) (signal : Expr Note → Bool)
    (blocks : (i : ℕ) → suc i ≤ length d.places.names → There d shapes (key.Name (length d.params + i))) (cleared : (i : ℕ) → suc i ≤ length d.places.resets → There d shapes (key.Reset i)) where
  abbrev first : ℕ
  first = length d.params

  abbrev G : Type 0
  G = F.Found Note

  abbrev P : F.Place → Type 0
  P = PlaceThere d shapes

  abbrev A : List Key → Type 0
  A = AllThere d shapes

  abbrev Block : ℕ → Type 0
  Block m = There d shapes (key.Name m)

  abbrev Names : ℕ → List Named → Type 0
  Names = NamesThere d shapes

  all_end : (xs : List Key) (k : Key) → A xs → There d shapes k → A (xs ++ k ∷ [])
  all_end [] k a h = (h, tt)
  all_end (x ∷ xs) k a h = (a.0, all_end xs k a.1 h)

  map_end : {X Y : Type 0} (f : X → Y) (xs : List X) (x : X) → map f (xs ++ x ∷ []) ≡ map f xs ++ f x ∷ []
  map_end f [] x = refl
  map_end f (y ∷ xs) x = ap (λ z. f y ∷ z) (map_end f xs x)

  -- names in a row

  names_on : (m : ℕ) (xs ys : List Named) → Names m xs → Names (m + length xs) ys → Names m (xs ++ ys)
  names_on m [] ys a b = let z : m + 0 ≡ m = omega arith in subst (λ j. Names j ys) z b
  names_on m (named.Clock x ∷ xs) ys a b = let z : m + suc (length xs) ≡ suc m + length xs = omega arith in names_on (suc m) xs ys a (subst (λ j. Names j ys) z b)
  names_on m (named.Match k all p ∷ xs) ys a b = let z : m + suc (length xs) ≡ suc m + length xs = omega arith in names_on (suc m) xs ys a (subst (λ j. Names j ys) z b)
  names_on m (named.Present s p ∷ xs) ys a b = let z : m + suc (length xs) ≡ suc m + length xs = omega arith in (a.0, names_on (suc m) xs ys a.1 (subst (λ j. Names j ys) z b))
  names_on m (named.Active s p ∷ xs) ys a b = let z : m + suc (length xs) ≡ suc m + length xs = omega arith in (a.0, a.1, names_on (suc m) xs ys a.2 (subst (λ j. Names j ys) z b))
  names_on m (named.Tested s p ∷ xs) ys a b = let z : m + suc (length xs) ≡ suc m + length xs = omega arith in (a.0, a.1, names_on (suc m) xs ys a.2 (subst (λ j. Names j ys) z b))

  names_after : (m : ℕ) (xs ys : List Named) → Names m (xs ++ ys) → Names (m + length xs) ys
  names_after m [] ys b = let z : m ≡ m + 0 = omega arith in subst (λ j. Names j ys) z b
  names_after m (named.Clock x ∷ xs) ys b = let z : suc m + length xs ≡ m + suc (length xs) = omega arith in subst (λ j. Names j ys) z (names_after (suc m) xs ys b)
  names_after m (named.Match k all p ∷ xs) ys b = let z : suc m + length xs ≡ m + suc (length xs) = omega arith in subst (λ j. Names j ys) z (names_after (suc m) xs ys b)
  names_after m (named.Present s p ∷ xs) ys b = let z : suc m + length xs ≡ m + suc (length xs) = omega arith in subst (λ j. Names j ys) z (names_after (suc m) xs ys b.1)
  names_after m (named.Active s p ∷ xs) ys b = let z : suc m + length xs ≡ m + suc (length xs) = omega arith in subst (λ j. Names j ys) z (names_after (suc m) xs ys b.2)
  names_after m (named.Tested s p ∷ xs) ys b = let z : suc m + length xs ≡ m + suc (length xs) = omega arith in subst (λ j. Names j ys) z (names_after (suc m) xs ys b.2)

  -- what holds after each step

  pub record Good (g : G) : Type 0 where
    pub exprs : Each (λ (x : Whole Note). P x.place) g.exprs
    pub sites : Each (SiteThere d shapes) g.sites
    pub vars : Each (VariableThere d shapes) g.vars
    pub names : Names first g.names

  abbrev MaybeP : Option F.Place → Type 0
  MaybeP None = U
  MaybeP (Some p) = P p

  record At (v : around_of.Where) : Type 0 where
    pub place : P v.place
    pub block : MaybeP v.block
    pub inner : ArmsThere d shapes v.inner

  spot_of : (o : Option F.Place) (p : F.Place) → MaybeP o → P p → P (unwrap_or o p)
  spot_of None p a h = h
  spot_of (Some q) p a h = a

  spot_there : (v : around_of.Where) → At v → P (F.spot v)
  spot_there v a = spot_of v.block v.place a.block a.place

  record Grown (g g' : G) : Type 0 where
    pub names : More g.names g'.names
    pub resets : length g.resets ≤ length g'.resets

  abbrev Final : G → Type 0
  Final g = (length g.names ≤ length d.places.names) × (length g.resets ≤ length d.places.resets)

  final_back : (g g' : G) → Grown g g' → Final g' → Final g
  final_back g g' m f = let l = m.resets in let k = f.1 in (more_long g.names g'.names (length d.places.names) m.names f.0, omega (arith, l, k))

  grown_same : (g g' : G) → g'.names ≡ g.names → g'.resets ≡ g.resets → Grown g g'
  grown_same g g' a b = let l = ap length b in record { names = subst (More g.names) (sym a) (more_none g.names); resets = omega (arith, l) }

  grown_then : (g g' g'' : G) → Grown g g' → Grown g' g'' → Grown g g''
  grown_then g g' g'' a b = let l = a.resets in let k = b.resets in record { names = more_then g.names g'.names g''.names a.names b.names; resets = omega (arith, l, k) }

  grown_name : (g g' : G) (n : Named) → g'.names ≡ g.names ++ n ∷ [] → g'.resets ≡ g.resets → Grown g g'
  grown_name g g' n e b = let l = ap length b in record { names = record { list = n ∷ []; is = e }; resets = omega (arith, l) }

  at_reset : (r : ℕ) (v : around_of.Where) → There d shapes (key.Reset r) → At v → At (F.in_reset r v)
  at_reset r v h a = record { place = subst A (sym (map_end _ v.place (frame.Reset r))) (all_end (around_keys v.place) (key.Reset r) a.place h); block = a.block; inner = a.inner }

  more_arms : (m j : ℕ) (p : F.Place) → Block m → P p → P (p ++ frame.Arm m j ∷ [])
  more_arms m j p h a = subst A (sym (map_end _ p (frame.Arm m j))) (all_end (around_keys p) (key.Name m) a h)

  at_do : (m j : ℕ) (v : around_of.Where) → Block m → At v → At (F.in_do m j v)
  at_do m j v h a = record { place = more_arms m j v.place h a.place; block = spot_there v a; inner = subst A (sym (map_end _ v.inner (m, j))) (all_end (arm_keys v.inner) (key.Name m) a.inner h) }

  at_let : (m j : ℕ) (v : around_of.Where) → Block m → At v → At (F.in_let m j v)
  at_let m j v h a = record { place = more_arms m j v.place h a.place; block = tt; inner = tt }

  -- variables

  bind_there : (x : ℕ) (sig : Bool) (v : around_of.Where) (c : F.Bound) (o : Option ℕ) → At v → Each (VariableThere d shapes) c.0 → Each (VariableThere d shapes) (F.bind_at x sig v c o).0
  bind_there x sig v c (Some k) a h = h
  bind_there x sig v c None a h = each_both (VariableThere d shapes) c.0 (record { name = x; list = F.arms (F.spot v); place = F.spot v; signal = sig } ∷ []) h (spot_there v a, tt)

  bind_all_there : (xs : List ℕ) (sig : Bool) (v : around_of.Where) (c : F.Bound) → At v → Each (VariableThere d shapes) c.0 → Each (VariableThere d shapes) (F.bind_all xs sig v c).0
  bind_all_there [] sig v c a h = h
  bind_all_there (x ∷ xs) sig v c a h = bind_all_there xs sig v (F.bind x sig v c) a (bind_there x sig v c (F.place_of x (F.arms (F.spot v)) c.0 0) a h)

  good_bind : (xs : List ℕ) (sig : Bool) (right : Right) (v : around_of.Where) (g : G) → At v → Good g → Good (F.site_at Note xs sig right v g)
  good_bind xs sig right v g a h = record {
    exprs = h.exprs;
    sites = each_both (SiteThere d shapes) g.sites (record { vars = (F.bind_all xs sig v (g.vars, [])).1; right = right; place = v.place; inner = v.inner } ∷ []) h.sites (record { inner = a.inner; place = a.place }, tt);
    vars = bind_all_there xs sig v (g.vars, []) a h.vars;
    names = h.names;
  }

  good_read : (e : Expr Note) (v : around_of.Where) (g : G) → At v → Good g → Good (F.reading Note e v.place g)
  good_read e v g a h = record { exprs = each_both (λ (x : Whole Note). P x.place) g.exprs (record { expr = e; place = v.place } ∷ []) h.exprs (a.place, tt); sites = h.sites; vars = h.vars; names = h.names }

  good_name : (n : Named) (g : G) → Names (first + length g.names) (n ∷ []) → Good g → Good (F.naming Note n g)
  good_name n g m h = record { exprs = h.exprs; sites = h.sites; vars = h.vars; names = names_on first g.names (n ∷ []) h.names m }

  -- the next name is of the body
  next_block : (xs : List Named) (n : Named) → length (xs ++ n ∷ []) ≤ length d.places.names → Block (first + length xs)
  next_block xs n l = let e = length_on xs (n ∷ []) in blocks (length xs) (omega (arith, e, l))

  -- the relation, with nothing on the left

  abbrev Does : G → G → Type 0 → Type 0
  Does g g' Given = Grown g g' × (Given → Final g' → Good g → Good g')

  abbrev R1 : U → F.Walk Note → Type 0
  R1 u b = (v : around_of.Where) (g : G) → Does g (b v g) (At v)

  abbrev R4 : U → F.InArm Note → Type 0
  R4 u b = (m j : ℕ) (v : around_of.Where) (g : G) → Does g (b m j v g) (Block m × At v)

  abbrev R2 : U → F.AnArm Note → Type 0
  R2 u b = R4 u b.walk

  abbrev R3 : U → F.AGuard Note → Type 0
  R3 u b = R4 u b.walk

  abbrev R5 : U → F.AState Note → Type 0
  R5 u b = (m j : ℕ) (v : around_of.Where) (g : G) → Does g (b.walk m j v g) (Block m × Block (m + 1) × At v)

  abbrev R6 : U → F.ATest Note → Type 0
  R6 u b = R4 u b.walk

  abbrev T1 : Type 0
  T1 = (a : U) × (b : F.Walk Note) × R1 a b

  abbrev T2 : Type 0
  T2 = (a : U) × (b : F.AnArm Note) × R2 a b

  abbrev T3 : Type 0
  T3 = (a : U) × (b : F.AGuard Note) × R3 a b

  abbrev T4 : Type 0
  T4 = (a : U) × (b : F.InArm Note) × R4 a b

  abbrev T5 : Type 0
  T5 = (a : U) × (b : F.AState Note) × R5 a b

  abbrev T6 : Type 0
  T6 = (a : U) × (b : F.ATest Note) × R6 a b

  then_ : (g g' g'' : G) (X Y Z : Type 0) → (Z → X) → (Z → Y) → Does g g' X → Does g' g'' Y → Does g g'' Z
  then_ g g' g'' X Y Z x y a b = (grown_then g g' g'' a.0 b.0, (λ z f h. b.1 (y z) f (a.1 (x z) (final_back g' g'' b.0 f) h)))

  nothing_done : (g : G) (X : Type 0) → Does g g X
  nothing_done g X = (grown_same g g refl refl, (λ x f h. h))

  abbrev w1 : List T1 → List (F.Walk Note)
  w1 = map {A = T1} {B = F.Walk Note} (λ p. p.1)

  abbrev w2 : List T2 → List (F.AnArm Note)
  w2 = map {A = T2} {B = F.AnArm Note} (λ p. p.1)

  abbrev w3 : List T3 → List (F.AGuard Note)
  w3 = map {A = T3} {B = F.AGuard Note} (λ p. p.1)

  abbrev w5 : List T5 → List (F.AState Note)
  w5 = map {A = T5} {B = F.AState Note} (λ p. p.1)

  abbrev w6 : List T6 → List (F.ATest Note)
  w6 = map {A = T6} {B = F.ATest Note} (λ p. p.1)

  all_done : (qs : List T1) (v : around_of.Where) (g : G) → Does g (F.walk_all Note (w1 qs) v g) (At v)
  all_done [] v g = nothing_done g (At v)
  all_done (q ∷ qs) v g = then_ g (q.1 v g) (F.walk_all Note (w1 qs) v (q.1 v g)) (At v) (At v) (At v) (λ a. a) (λ a. a) (q.2 v g) (all_done qs v (q.1 v g))

  arms_done : (all : List T2) (m j : ℕ) (v : around_of.Where) (g : G) → Does g (F.arms_from Note m j (F.arm_walks Note (w2 all)) v g) (Block m × At v)
  arms_done [] m j v g = nothing_done g (Block m × At v)
  arms_done (q ∷ all) m j v g =
      then_ g (q.1.walk m j v g) (F.arms_from Note m (suc j) (F.arm_walks Note (w2 all)) v (q.1.walk m j v g)) (Block m × At v) (Block m × At v) (Block m × At v) (λ a. a) (λ a. a) (q.2 m j v g) (arms_done all m (suc j) v (q.1.walk m j v g))

  states_done : (all : List T5) (m j : ℕ) (v : around_of.Where) (g : G) → Does g (F.arms_from Note m j (F.state_walks Note (w5 all)) v g) (Block m × Block (m + 1) × At v)
  states_done [] m j v g = nothing_done g (Block m × Block (m + 1) × At v)
  states_done (q ∷ all) m j v g =
      let X = Block m × Block (m + 1) × At v in
      then_ g (q.1.walk m j v g) (F.arms_from Note m (suc j) (F.state_walks Note (w5 all)) v (q.1.walk m j v g)) X X X (λ a. a) (λ a. a) (q.2 m j v g) (states_done all m (suc j) v (q.1.walk m j v g))

  guards_done : (all : List T3) (m j : ℕ) (v : around_of.Where) (g : G) → Does g (F.walk_guards Note (w3 all) m j v g) (Block m × At v)
  guards_done [] m j v g = nothing_done g (Block m × At v)
  guards_done (q ∷ all) m j v g =
      then_ g (q.1.walk m j v g) (F.walk_guards Note (w3 all) m j v (q.1.walk m j v g)) (Block m × At v) (Block m × At v) (Block m × At v) (λ a. a) (λ a. a) (q.2 m j v g) (guards_done all m j v (q.1.walk m j v g))

  abbrev other_of : Option T4 → List (F.InArm Note)
  other_of o = F.option_list (option_map {T = T4} {U = F.InArm Note} (λ p. p.1) o)

  tests_done : (all : List T6) (o : Option T4) (m j : ℕ) (v : around_of.Where) (g : G) → Does g (F.arms_from Note m j (F.test_walks Note (w6 all) ++ other_of o) v g) (Block m × At v)
  tests_done [] None m j v g = nothing_done g (Block m × At v)
  tests_done [] (Some h) m j v g = h.2 m j v g
  tests_done (q ∷ all) o m j v g =
      then_ g (q.1.walk m j v g) (F.arms_from Note m (suc j) (F.test_walks Note (w6 all) ++ other_of o) v (q.1.walk m j v g)) (Block m × At v) (Block m × At v) (Block m × At v) (λ a. a) (λ a. a) (q.2 m j v g)
      (tests_done all o m (suc j) v (q.1.walk m j v g))

  -- the steps

  abbrev s1 : Equation-F Note U U U U U U → U
  s1 x = tt

  abbrev s2 : Arm-F Note U U U U U U → U
  s2 x = tt

  abbrev s3 : Guard-F Note U U U U U U → U
  s3 x = tt

  abbrev s4 : Handler-F Note U U U U U U → U
  s4 x = tt

  abbrev s5 : State-F Note U U U U U U → U
  s5 x = tt

  abbrev s6 : Test-F Note U U U U U U → U
  s6 x = tt

  abbrev t1 : Equation-F Note (F.Walk Note) (F.AnArm Note) (F.AGuard Note) (F.InArm Note) (F.AState Note) (F.ATest Note) → F.Walk Note
  t1 = F.equation_step Note first cases signal

  abbrev t2 : Arm-F Note (F.Walk Note) (F.AnArm Note) (F.AGuard Note) (F.InArm Note) (F.AState Note) (F.ATest Note) → F.AnArm Note
  t2 = F.arm_step Note first cases signal

  abbrev t3 : Guard-F Note (F.Walk Note) (F.AnArm Note) (F.AGuard Note) (F.InArm Note) (F.AState Note) (F.ATest Note) → F.AGuard Note
  t3 = F.guard_step Note first cases signal

  abbrev t4 : Handler-F Note (F.Walk Note) (F.AnArm Note) (F.AGuard Note) (F.InArm Note) (F.AState Note) (F.ATest Note) → F.InArm Note
  t4 = F.handler_step Note first cases signal

  abbrev t5 : State-F Note (F.Walk Note) (F.AnArm Note) (F.AGuard Note) (F.InArm Note) (F.AState Note) (F.ATest Note) → F.AState Note
  t5 = F.state_step Note first cases signal

  abbrev t6 : Test-F Note (F.Walk Note) (F.AnArm Note) (F.AGuard Note) (F.InArm Note) (F.AState Note) (F.ATest Note) → F.ATest Note
  t6 = F.test_step Note first cases signal

  present_done : (all : List T6) (o : Option T4) (v : around_of.Where) (g : G)
      → Does g (F.arms_from Note (first + length g.names) 0 (F.test_walks Note (w6 all) ++ other_of o) v (F.open_present Note (F.test_signals Note (w6 all)) v g)) (At v)
  present_done all o v g =
      let n = named.Present (F.test_signals Note (w6 all)) v.place in
      let g1 : G = F.naming Note n g in
      let m = first + length g.names in
      let t = tests_done all o m 0 v g1 in
      let g2 = F.arms_from Note m 0 (F.test_walks Note (w6 all) ++ other_of o) v g1 in (
        grown_then g g1 g2 (grown_name g g1 n refl refl) t.0,
        (λ a f h. t.1 (next_block g.names n (final_back g1 g2 t.0 f).0, a) f (good_name n g (a.place, tt) h)),
      )

  closed : (k : ℕ) (strong weak : F.Guards Note) (p : F.Place) (g g' : G) (more : List Named) → k ≡ length g.names → g'.names ≡ (g.names ++ named.Active [] p ∷ []) ++ (named.Tested [] p ∷ more)
      → (F.close_modes Note k strong weak p g').names ≡ g.names ++ named.Active strong p ∷ named.Tested weak p ∷ more
  closed k strong weak p g g' more e is =
      let x = named.Active [] p in
      let y = named.Tested [] p in
      (λ i. slice_set (slice_set (is i) (e i) (named.Active strong p)) (e i + 1) (named.Tested weak p))
      ∙ ap (λ z. slice_set (slice_set z (length g.names) (named.Active strong p)) (length g.names + 1) (named.Tested weak p)) (append_assoc g.names (x ∷ []) (y ∷ more))
      ∙ ap (λ z. slice_set z (length g.names + 1) (named.Tested weak p)) (set_at g.names x (named.Active strong p) (y ∷ more))
      ∙ set_next g.names (named.Active strong p) y (named.Tested weak p) more

  same_long : (xs more : List Named) (a b a' b' : Named) → length (xs ++ a ∷ b ∷ more) ≡ length (xs ++ a' ∷ b' ∷ more)
  same_long [] more a b a' b' = refl
  same_long (x ∷ xs) more a b a' b' = ap suc (same_long xs more a b a' b')

  automaton_done : (all : List T5) (v : around_of.Where) (g : G) → Does g (t1 (Equation-F.Automaton (w5 all)) v g) (At v)
  automaton_done all v g =
      let p : F.Place = v.place in
      let m : ℕ = first + length g.names in
      let act = named.Active [] p in
      let tes = named.Tested [] p in
      let g0 : G = F.naming Note act g in
      let g1 : G = F.open_modes Note p g in
      let t = states_done all m 0 v g1 in
      let g2 : G = F.arms_from Note m 0 (F.state_walks Note (w5 all)) v g1 in
      let strong = F.strongs_from Note m 0 (w5 all) v g1 in
      let weak = F.weaks_from Note m 0 (w5 all) v g1 in
      let g3 : G = F.close_modes Note (length g.names) strong weak p g2 in
      let more : List Named = t.0.names.list in
      let is2 : g2.names ≡ (g.names ++ act ∷ []) ++ (tes ∷ more) = t.0.names.is ∙ append_assoc (g.names ++ act ∷ []) (tes ∷ []) more in
      let is2' : g2.names ≡ g.names ++ act ∷ tes ∷ more = is2 ∙ append_assoc g.names (act ∷ []) (tes ∷ more) in
      let is3 : g3.names ≡ g.names ++ named.Active strong p ∷ named.Tested weak p ∷ more = closed (length g.names) strong weak p g g2 more refl is2 in
      let same : length g2.names ≡ length g3.names = ap length is2' ∙ same_long g.names more act tes (named.Active strong p) (named.Tested weak p) ∙ ap length (sym is3) in
      let l2 = t.0.resets in (
        record { names = record { list = named.Active strong p ∷ named.Tested weak p ∷ more; is = is3 }; resets = l2 },
        (λ a f h.
            let k0 = f.0 in
            let f2 : Final g2 = (omega (arith, same, k0), f.1) in
            let f1 : Final g1 = final_back g1 g2 t.0 f2 in
            let f0 : length g0.names ≤ length d.places.names = more_long g0.names g1.names (length d.places.names) (more_one g0.names tes) f1.0 in
            let b1 : Block m = next_block g.names act f0 in
            let long : first + length g0.names ≡ m + 1 = (let l = length_on g.names (act ∷ []) in omega (arith, l)) in
            let b2 : Block (m + 1) = subst Block long (next_block g0.names tes f1.0) in
            let back : suc m - 1 ≡ m = omega arith in
            let pair : (s s' : F.Guards Note) (ns : List Named) → Names (suc (suc m)) ns → Names m (named.Active s p ∷ named.Tested s' p ∷ ns) = (λ s s' ns q. (a.place, b2, (a.place, subst Block (sym back) b1, q))) in
            let h1 : Good g1 = record {
              exprs = h.exprs;
              sites = h.sites;
              vars = h.vars;
              names = subst (Names first) (sym (append_assoc g.names (act ∷ []) (tes ∷ []))) (names_on first g.names (act ∷ tes ∷ []) h.names (pair [] [] [] tt));
            } in
            let h2 = t.1 (b1, b2, a) f2 h1 in
            let inside = (names_after first g.names (act ∷ tes ∷ more) (subst (Names first) is2' h2.names)).2.2 in
            record {
              exprs = h2.exprs;
              sites = h2.sites;
              vars = h2.vars;
              names = subst (Names first) (sym is3) (names_on first g.names (named.Active strong p ∷ named.Tested weak p ∷ more) h.names (pair strong weak more inside));
            }),
      )

  step1 : (y : Equation-F Note T1 T2 T3 T4 T5 T6) → R1 (s1 (lefts_Equation s1 s2 s3 s4 s5 s6 t1 t2 t3 t4 t5 t6 R1 R2 R3 R4 R5 R6 y)) (t1 (rights_Equation s1 s2 s3 s4 s5 s6 t1 t2 t3 t4 t5 t6 R1 R2 R3 R4 R5 R6 y))
  step1 (Equation-F.Plain p e) v g =
      (record { names = more_none g.names; resets = omega arith }, (λ a f h. good_bind (FP.names_of p) (signal e) (rhs.Part p (F.next_expr Note g)) v (F.reading Note e v.place g) a (good_read e v g a h)))
  step1 (Equation-F.Clock x e) v g =
      let g2 : G = F.whole_at Note x.0 false e v g in
      let n = named.Clock (unwrap_or (F.place_of x.0 (F.arms (F.spot v)) g2.vars 0) 0) in
      (record { names = more_one g.names n; resets = omega arith }, (λ a f h. good_name n g2 tt (good_bind (x.0 ∷ []) false (rhs.Whole (F.next_expr Note g)) v (F.reading Note e v.place g) a (good_read e v g a h))))
  step1 (Equation-F.Initial x e) v g =
      (record { names = more_none g.names; resets = omega arith }, (λ a f h. let q = good_read e v g a h in record { exprs = q.exprs; sites = q.sites; vars = q.vars; names = q.names }))
  step1 (Equation-F.Emit x e) v g =
      (record { names = more_none g.names; resets = omega arith }, (λ a f h. good_bind (x.0 ∷ []) true (rhs.Whole (F.next_expr Note g)) v (F.reading Note e v.place g) a (good_read e v g a h)))
  step1 (Equation-F.Reset qs e) v g =
      let g1 : G = F.open_reset Note e v g in
      let w = F.in_reset (length g.resets) v in
      let t = all_done qs w g1 in
      let g2 = F.walk_all Note (w1 qs) w g1 in
      let one = length_on g.resets (F.next_expr Note g ∷ []) in (
        grown_then g g1 g2 (record { names = more_none g.names; resets = omega (arith, one) }) t.0,
        (λ a f h.
            let k = (final_back g1 g2 t.0 f).1 in
            let q = good_read e v g a h in
            t.1 (at_reset (length g.resets) v (cleared (length g.resets) (omega (arith, one, k))) a) f (record { exprs = q.exprs; sites = q.sites; vars = q.vars; names = q.names })),
      )
  step1 (Equation-F.Match e all) v g =
      let n = named.Match (F.next_expr Note g) (F.arm_cases Note (w2 all)) v.place in
      let g0 : G = F.reading Note e v.place g in
      let g1 : G = F.naming Note n g0 in
      let m = first + length g.names in
      let t = arms_done all m 0 v g1 in
      let g2 = F.arms_from Note m 0 (F.arm_walks Note (w2 all)) v g1 in (
        grown_then g g1 g2 (grown_name g g1 n refl refl) t.0,
        (λ a f h. t.1 (next_block g.names n (final_back g1 g2 t.0 f).0, a) f (good_name n g0 tt (good_read e v g a h))),
      )
  step1 (Equation-F.Present all None) v g = present_done all None v g
  step1 (Equation-F.Present all (Some h)) v g = present_done all (Some h) v g
  step1 (Equation-F.Automaton all) v g = automaton_done all v g

  step2 : (y : Arm-F Note T1 T2 T3 T4 T5 T6) → R2 (s2 (lefts_Arm s1 s2 s3 s4 s5 s6 t1 t2 t3 t4 t5 t6 R1 R2 R3 R4 R5 R6 y)) (t2 (rights_Arm s1 s2 s3 s4 s5 s6 t1 t2 t3 t4 t5 t6 R1 R2 R3 R4 R5 R6 y))
  step2 y m j v g = y.handler.2 m j v g

  step3 : (y : Guard-F Note T1 T2 T3 T4 T5 T6) → R3 (s3 (lefts_Guard s1 s2 s3 s4 s5 s6 t1 t2 t3 t4 t5 t6 R1 R2 R3 R4 R5 R6 y)) (t3 (rights_Guard s1 s2 s3 s4 s5 s6 t1 t2 t3 t4 t5 t6 R1 R2 R3 R4 R5 R6 y))
  step3 y m j v g =
      let v' = F.in_let m j v in
      let g1 : G = F.walk_all Note (w1 y.eqs) v' g in
      let g2 : G = F.reading Note y.cond v'.place g1 in
      let t = all_done y.eqs v' g in
      (grown_then g g1 g2 t.0 (grown_same g1 g2 refl refl), (λ x f h. let a = at_let m j v x.0 x.1 in good_read y.cond v' g1 a (t.1 a f h)))

  step4 : (y : Handler-F Note T1 T2 T3 T4 T5 T6) → R4 (s4 (lefts_Handler s1 s2 s3 s4 s5 s6 t1 t2 t3 t4 t5 t6 R1 R2 R3 R4 R5 R6 y)) (t4 (rights_Handler s1 s2 s3 s4 s5 s6 t1 t2 t3 t4 t5 t6 R1 R2 R3 R4 R5 R6 y))
  step4 y m j v g =
      let g1 : G = F.walk_all Note (w1 y.locals) (F.in_let m j v) g in
      then_ g g1 (F.walk_all Note (w1 y.eqs) (F.in_do m j v) g1) (At (F.in_let m j v)) (At (F.in_do m j v)) (Block m × At v) (λ x. at_let m j v x.0 x.1) (λ x. at_do m j v x.0 x.1) (all_done y.locals (F.in_let m j v) g) (all_done y.eqs (F.in_do m j v) g1)

  step5 : (y : State-F Note T1 T2 T3 T4 T5 T6) → R5 (s5 (lefts_State s1 s2 s3 s4 s5 s6 t1 t2 t3 t4 t5 t6 R1 R2 R3 R4 R5 R6 y)) (t5 (rights_State s1 s2 s3 s4 s5 s6 t1 t2 t3 t4 t5 t6 R1 R2 R3 R4 R5 R6 y))
  step5 y m j v g =
      let g1 : G = y.handler.1 m j v g in
      let g2 : G = F.walk_guards Note (w3 y.strong) (m + 1) j v g1 in
      let g3 : G = F.walk_guards Note (w3 y.weak) m j v g2 in
      let Given : Type 0 = Block m × Block (m + 1) × At v in
      then_ g g1 g3 (Block m × At v) Given Given (λ x. (x.0, x.2)) (λ x. x) (y.handler.2 m j v g)
      (then_ g1 g2 g3 (Block (m + 1) × At v) (Block m × At v) Given (λ x. (x.1, x.2)) (λ x. (x.0, x.2)) (guards_done y.strong (m + 1) j v g1) (guards_done y.weak m j v g2))

  tested_done : (o : Option Pat) (x : ℕ) (v : around_of.Where) (g : G) → Does g (F.bind_pattern Note x o v g) (At v)
  tested_done None x v g = nothing_done g (At v)
  tested_done (Some p) x v g = (record { names = more_none g.names; resets = omega arith }, (λ a f h. good_bind (FP.names_of p) false (rhs.Pattern x p) v g a h))

  step6 : (y : Test-F Note T1 T2 T3 T4 T5 T6) → R6 (s6 (lefts_Test s1 s2 s3 s4 s5 s6 t1 t2 t3 t4 t5 t6 R1 R2 R3 R4 R5 R6 y)) (t6 (rights_Test s1 s2 s3 s4 s5 s6 t1 t2 t3 t4 t5 t6 R1 R2 R3 R4 R5 R6 y))
  step6 y m j v g =
      let g1 : G = F.bind_pattern Note y.signal.0 y.pat (F.in_let m j v) g in
      then_ g g1 (y.handler.1 m j v g1) (At (F.in_let m j v)) (Block m × At v) (Block m × At v) (λ x. at_let m j v x.0 x.1) (λ x. x) (tested_done y.pat y.signal.0 (F.in_let m j v) g) (y.handler.2 m j v g1)

  equation_done : (q : Equation Note) → R1 tt (F.walk_of Note first cases signal q)
  equation_done = related_equations s1 s2 s3 s4 s5 s6 t1 t2 t3 t4 t5 t6 R1 R2 R3 R4 R5 R6 step1 step2 step3 step4 step5 step6

  eqs_done : (qs : List (Equation Note)) (v : around_of.Where) (g : G) → Does g (F.walk_all Note (map (F.walk_of Note first cases signal) qs) v g) (At v)
  eqs_done [] v g = nothing_done g (At v)
  eqs_done (q ∷ qs) v g =
      then_ g (F.walk_of Note first cases signal q v g) (F.walk_all Note (map (F.walk_of Note first cases signal) qs) v (F.walk_of Note first cases signal q v g)) (At v) (At v) (At v) (λ a. a) (λ a. a)
      (equation_done q v g) (eqs_done qs v (F.walk_of Note first cases signal q v g))

  -- a whole body
  pub found_good : (body : BodyOf Note) → d.places ≡ F.find Note first cases signal body → Good (F.find Note first cases signal body)
  found_good body e =
      let g1 : G = F.walk_body Note first cases signal body.eqs F.at_top (F.nothing Note) in
      let a : At F.at_top = record { place = tt; block = tt; inner = tt } in
      let h : Good (F.nothing Note) = record { exprs = tt; sites = tt; vars = tt; names = tt } in
      let n = ap (λ (z : G). length z.names) e in
      let q = ap (λ (z : G). length z.resets) e in
      good_read body.result F.at_top g1 a ((eqs_done body.eqs F.at_top (F.nothing Note)).1 a (omega (arith, n), omega (arith, q)) h)
