-- What stands where in a body: each arm is of a block that stands just outside, an equation stands inside the list that binds
-- its names, and whole expressions stand where what names them does.
use Rattle.std.specs.Prelude.{◌≡◌, refl, ◌⊎◌, ℕ, zero, suc, ◌+◌, ◌-◌, ◌==◌, ◌<◌, ◌&&◌, nat_lt, Bool, true, false, List, [], ◌∷◌, ◌++◌, map, length, slice_set, Option, Some, None, option_map, unwrap_or, if◌then◌else◌}
use Rattle.std.proofs.Common.{ap, sym, ◌∙◌, subst, inl, inr, arith, append_assoc}
use Rattle.std.proofs.lemmas.Bool.{and_parts, eqb-true}
use Rattle.std.proofs.lemmas.Bool.Decides.{nat_tests}
use Rattle.ls_ast.specs.declared.tree.Pat.{Pat}
use Rattle.ls_ast.specs.declared.tree.BodyOf.{BodyOf}
use Rattle.ls_ast.specs.declared.tree.Expr.{Expr}
use Rattle.ls_ast.specs.declared.tree.Equation.{Equation}
use Rattle.ls_ast.specs.declared.tree.Equation.TheOpen.{Equation-F, Arm-F, Guard-F, Handler-F, State-F, Test-F}
use Rattle.ls_sig.specs.declared.binder.Note.{Note}
use Rattle.ls_places.specs.Patterns as FP
use Rattle.ls_places.specs.Places as F
use Rattle.ls_places.specs.Places.{InnerArm, arms, same_arms}
use Rattle.ls_places.specs.Search.{nth}
use Rattle.ls_places.specs.declared.around.Where as around_of
use Rattle.ls_places.specs.declared.places.Frame.TheVariants as frame
use Rattle.ls_places.specs.declared.places.Named.{Named}
use Rattle.ls_places.specs.declared.places.Named.TheVariants as named
use Rattle.ls_places.specs.declared.places.Right.{Right}
use Rattle.ls_places.specs.declared.places.Right.TheVariants as rhs
use Rattle.ls_places.specs.declared.places.Site.{Site}
use Rattle.ls_places.specs.declared.places.Start.{Start}
use Rattle.ls_places.specs.declared.places.Transition.{Transition}
use Rattle.ls_places.specs.declared.places.Variable.{Variable}
use Rattle.ls_places.specs.declared.places.Whole.{Whole}
use Rattle.digraph.specs.Graph.{In, first as here, later}
use Rattle.tree_notes.specs.Each.{Each}
use Rattle.tree_notes.proofs.RelatedEquations.{related_equations, lefts_Equation, lefts_Arm, lefts_Guard, lefts_Handler, lefts_State, lefts_Test, rights_Equation, rights_Arm, rights_Guard, rights_Handler, rights_State, rights_Test}

each_both : {A : Type 0} (Q : A → Type 0) (xs ys : List A) → Each Q xs → Each Q ys → Each Q (xs ++ ys)
each_both Q [] ys a b = b
each_both Q (x ∷ xs) ys a b = (a.0, each_both Q xs ys a.1 b)

pub end_nil : {A : Type 0} (xs : List A) → xs ++ [] ≡ xs
end_nil [] = refl
end_nil (x ∷ xs) = ap (λ z. x ∷ z) (end_nil xs)

pub length_on : {A : Type 0} (xs ys : List A) → length (xs ++ ys) ≡ length xs + length ys
length_on [] ys = let z : length ys ≡ 0 + length ys = omega arith in z
length_on (x ∷ xs) ys = let h = length_on xs ys in omega (arith, h)

set_at : {A : Type 0} (xs : List A) (y z : A) (ys : List A) → slice_set (xs ++ y ∷ ys) (length xs) z ≡ xs ++ z ∷ ys
set_at [] y z ys = refl
set_at (x ∷ xs) y z ys = ap (λ l. x ∷ l) (set_at xs y z ys)

one_on : (n : ℕ) → suc n + 1 ≡ suc (n + 1)
one_on n = omega arith

set_next : {A : Type 0} (xs : List A) (x y z : A) (ys : List A) → slice_set (xs ++ x ∷ y ∷ ys) (length xs + 1) z ≡ xs ++ x ∷ z ∷ ys
set_next [] x y z ys = let e : 0 + 1 ≡ 1 = omega arith in ap (λ i. slice_set (x ∷ y ∷ ys) i z) e
set_next (w ∷ xs) x y z ys = ap (λ i. slice_set (w ∷ xs ++ x ∷ y ∷ ys) i z) (one_on (length xs)) ∙ ap (λ l. w ∷ l) (set_next xs x y z ys)

pub record More {A : Type 0} (xs ys : List A) : Type 0 where
  pub list : List A
  pub is : ys ≡ xs ++ list

pub more_none : {A : Type 0} (xs : List A) → More xs xs
more_none xs = record { list = []; is = sym (end_nil xs) }

more_then : {A : Type 0} (xs ys zs : List A) → More xs ys → More ys zs → More xs zs
more_then xs ys zs a b = record { list = a.list ++ b.list; is = b.is ∙ ap (λ z. z ++ b.list) a.is ∙ append_assoc xs a.list b.list }

more_one : {A : Type 0} (xs : List A) (x : A) → More xs (xs ++ x ∷ [])
more_one xs x = record { list = x ∷ []; is = refl }

pub map_on : {A B : Type 0} (f : A → B) (xs ys : List A) → map f (xs ++ ys) ≡ map f xs ++ map f ys
map_on f [] ys = refl
map_on f (x ∷ xs) ys = ap (λ z. f x ∷ z) (map_on f xs ys)

length_mapped : {A B : Type 0} (f : A → B) (xs : List A) → length (map f xs) ≡ length xs
length_mapped f [] = refl
length_mapped f (x ∷ xs) = ap suc (length_mapped f xs)

nth_on : {A : Type 0} (xs ys : List A) (k : ℕ) (x : A) → nth xs k ≡ Some x → nth (xs ++ ys) k ≡ Some x
nth_on [] ys k x e = absurd (cc)
nth_on (y ∷ xs) ys zero x e = e
nth_on (y ∷ xs) ys (suc k) x e = nth_on xs ys k x e

nth_last : {A : Type 0} (xs ys : List A) (x : A) → nth (xs ++ x ∷ ys) (length xs) ≡ Some x
nth_last [] ys x = refl
nth_last (y ∷ xs) ys x = nth_last xs ys x

nth_more : {A : Type 0} (xs ys : List A) (k : ℕ) (x : A) → More xs ys → nth xs k ≡ Some x → nth ys k ≡ Some x
nth_more xs ys k x m e = ap (λ z. nth z k) m.is ∙ nth_on xs m.list k x e

nth_end : {A : Type 0} (xs : List A) (x : A) (k : ℕ) (y : A) → nth (xs ++ x ∷ []) k ≡ Some y → (nth xs k ≡ Some y) ⊎ (k ≡ length xs)
nth_end [] x zero y e = inr refl
nth_end [] x (suc k) y e = absurd (cc)
nth_end (z ∷ xs) x zero y e = inl e
nth_end (z ∷ xs) x (suc k) y e = elim (nth_end xs x k y e) [ inl h ↦ inl h | inr h ↦ inr (ap suc h) ]

pub in_left : {A : Type 0} (x : A) (xs ys : List A) → In x xs → In x (xs ++ ys)
in_left x _ ys (here xs) = here (xs ++ ys)
in_left x _ ys (later z xs h) = later z (xs ++ ys) (in_left x xs ys h)

pub in_right : {A : Type 0} (x : A) (xs ys : List A) → In x ys → In x (xs ++ ys)
in_right x [] ys h = h
in_right x (z ∷ xs) ys h = later z (xs ++ ys) (in_right x xs ys h)

nth_new : {A : Type 0} (xs ys : List A) (x : A) → More (xs ++ x ∷ []) ys → nth ys (length xs) ≡ Some x
nth_new xs ys x m = nth_more (xs ++ x ∷ []) ys (length xs) x m (nth_last xs [] x)

arms_on : (p q : F.Place) → arms (p ++ q) ≡ arms p ++ arms q
arms_on [] q = refl
arms_on (frame.Reset r ∷ p) q = arms_on p q
arms_on (frame.Arm m j ∷ p) q = ap (λ z. (m, j) ∷ z) (arms_on p q)

pub arms_are : (p q : List InnerArm) → same_arms p q ≡ true → p ≡ q
arms_are [] [] e = refl
arms_are [] (b ∷ q) e = absurd (cc)
arms_are (a ∷ p) [] e = absurd (cc)
arms_are (a ∷ p) (b ∷ q) e =
    let x = and_parts (a.0 == b.0) (a.1 == b.1 && same_arms p q) e in
    let y = and_parts (a.1 == b.1) (same_arms p q) x.1 in
    λ i. (eqb-true a.0 b.0 x.0 i, eqb-true a.1 b.1 y.0 i) ∷ arms_are p q y.1 i

-- ---- where blocks stand

abbrev pub or_none : {A : Type 0} → Option (Option A) → Option A
or_none None = None
or_none (Some o) = o

-- the arms around a block
abbrev pub spot_arms : Named → Option (List InnerArm)
spot_arms (named.Clock x) = None
spot_arms (named.Match k all p) = Some (arms p)
spot_arms (named.Present xs p) = Some (arms p)
spot_arms (named.Active all p) = Some (arms p)
spot_arms (named.Tested all p) = Some (arms p)

abbrev pub spots : List Named → List (Option (List InnerArm))
spots = map spot_arms

-- a variable of this number is bound in this list
pub record Listed (vs : List Variable) (l : List InnerArm) (x : ℕ) : Type 0 where
  pub variable : Variable
  pub is : nth vs x ≡ Some variable
  pub list : variable.list ≡ l

-- `E` are the whole expressions, `V` the variables, and `S` the arms around the blocks
module _ (first : ℕ) (E : List (Whole Note)) (V : List Variable) (S : List (Option (List InnerArm))) where
  abbrev pub spot_of : ℕ → Option (List InnerArm)
  spot_of m = if nat_lt m first then None else or_none (nth S (m - first))

  -- each arm is of the block that stands just outside
  abbrev pub HomedFrom : List InnerArm → List InnerArm → Type 0
  HomedFrom around [] = Unit {0}
  HomedFrom around (a ∷ p) = (spot_of a.0 ≡ Some around) × HomedFrom (around ++ a ∷ []) p

  abbrev pub Homed : List InnerArm → Type 0
  Homed = HomedFrom []

  -- the whole expression of this number stands in these arms
  pub record StandsAt (k : ℕ) (l : List InnerArm) : Type 0 where
    pub whole : Whole Note
    pub is : nth E k ≡ Some whole
    pub place : arms whole.place ≡ l

  pub record LastArm (p : List InnerArm) : Type 0 where
    pub around : List InnerArm
    pub arm : InnerArm
    pub is : p ≡ around ++ arm ∷ []

  abbrev pub RightPlaced : List InnerArm → List InnerArm → Right → Type 0
  RightPlaced p inner (rhs.Part q k) = StandsAt k p
  RightPlaced p inner (rhs.Whole k) = StandsAt k p
  RightPlaced p inner (rhs.Pattern y q) = (inner ≡ []) × LastArm p

  pub record SitePlaced (s : Site) : Type 0 where
    pub list : List InnerArm
    pub vars : Each (Listed V list) s.vars
    pub place : arms s.place ≡ list ++ s.inner
    pub homed : Homed (arms s.place)
    pub right : RightPlaced (arms s.place) s.inner s.right

  -- an initial equation stands in some arms within its list
  pub record StartPlaced (s : Start) : Type 0 where
    pub inner : List InnerArm
    pub at : StandsAt s.right (s.list ++ inner)

  abbrev pub VarPlaced : Variable → Type 0
  VarPlaced v = v.list ≡ arms v.place

  abbrev pub CondsAt : List InnerArm → List Transition → Type 0
  CondsAt l [] = Unit {0}
  CondsAt l (g ∷ gs) = StandsAt g.cond l × CondsAt l gs

  -- the guards of the states from number j on
  abbrev pub StatesAt : ℕ → ℕ → List InnerArm → List (ℕ × List Transition) → Type 0
  StatesAt m j l [] = Unit {0}
  StatesAt m j l (gs ∷ all) = CondsAt (l ++ (m, j) ∷ []) gs.1 × StatesAt m (suc j) l all

  -- a block, by its place among the clock names
  abbrev pub NamedPlaced : ℕ → Named → Type 0
  NamedPlaced i (named.Clock x) = Unit {0}
  NamedPlaced i (named.Match k all p) = Homed (arms p) × StandsAt k (arms p)
  NamedPlaced i (named.Present xs p) = Homed (arms p)
  NamedPlaced i (named.Active all p) = Homed (arms p) × (spot_of (suc (first + i)) ≡ Some (arms p)) × StatesAt (suc (first + i)) 0 (arms p) all
  NamedPlaced i (named.Tested all p) = Homed (arms p) × (spot_of (first + i - 1) ≡ Some (arms p)) × StatesAt (first + i - 1) 0 (arms p) all × (0 < i)

  abbrev pub NamesPlaced : ℕ → List Named → Type 0
  NamesPlaced i [] = Unit {0}
  NamesPlaced i (n ∷ ns) = NamedPlaced i n × NamesPlaced (suc i) ns

  -- an equation binds this variable
  pub record Sited (sites : List Site) (k : ℕ) : Type 0 where
    pub site : Site
    pub among : In site sites
    pub binds : In k site.vars

  pub record Placed (g : F.Found Note) : Type 0 where
    pub sited : (k : ℕ) (v : Variable) → nth g.vars k ≡ Some v → Sited g.sites k
    pub exprs : Each (λ (x : Whole Note). Homed (arms x.place)) g.exprs
    pub sites : Each SitePlaced g.sites
    pub starts : Each StartPlaced g.starts
    pub vars : Each VarPlaced g.vars
    pub names : NamesPlaced 0 g.names

  -- ---- arms

  homed_end : (around p : List InnerArm) (a : InnerArm) → HomedFrom around p → spot_of a.0 ≡ Some (around ++ p) → HomedFrom around (p ++ a ∷ [])
  homed_end around [] a h e = (e ∙ ap Some (end_nil around), tt)
  homed_end around (c ∷ p) a h e = (h.0, homed_end (around ++ c ∷ []) p a h.1 (e ∙ ap Some (sym (append_assoc around (c ∷ []) p))))

  -- names in a row

  names_on : (i : ℕ) (xs ys : List Named) → NamesPlaced i xs → NamesPlaced (i + length xs) ys → NamesPlaced i (xs ++ ys)
  names_on i [] ys a b = let z : i + 0 ≡ i = omega arith in subst (λ j. NamesPlaced j ys) z b
  names_on i (x ∷ xs) ys a b = let z : i + suc (length xs) ≡ suc i + length xs = omega arith in (a.0, names_on (suc i) xs ys a.1 (subst (λ j. NamesPlaced j ys) z b))

  names_after : (i : ℕ) (xs ys : List Named) → NamesPlaced i (xs ++ ys) → NamesPlaced (i + length xs) ys
  names_after i [] ys b = let z : i ≡ i + 0 = omega arith in subst (λ j. NamesPlaced j ys) z b
  names_after i (x ∷ xs) ys b = let z : suc i + length xs ≡ i + suc (length xs) = omega arith in subst (λ j. NamesPlaced j ys) z (names_after (suc i) xs ys b.1)

  -- the spot of the next name
  next_spot : (xs : List Named) (n : Named) → More (spots (xs ++ n ∷ [])) S → spot_of (first + length xs) ≡ spot_arms n
  next_spot xs n m =
      let there : nth S (length (spots xs)) ≡ Some (spot_arms n) = nth_new (spots xs) S (spot_arms n) (subst (λ z. More z S) (map_on spot_arms xs (n ∷ [])) m) in
      let low : nat_lt (first + length xs) first ≡ false = grind (arith, nat_tests) in
      let i : (first + length xs) - first ≡ length xs = omega arith in
      ap (λ t. if t then None else or_none (nth S ((first + length xs) - first))) low
      ∙ ap (λ j. or_none (nth S j)) (i ∙ sym (length_mapped spot_arms xs)) ∙ ap or_none there

  module _ (cases : ℕ → Option ℕ) (signal : Expr Note → Bool) where
    abbrev G : Type 0
    G = F.Found Note

    abbrev U : Type 0
    U = Unit {0}

    abbrev Block : ℕ → around_of.Where → Type 0
    Block m v = spot_of m ≡ Some (arms v.place)

    record At (v : around_of.Where) : Type 0 where
      pub split : arms v.place ≡ arms (F.spot v) ++ v.inner
      pub homed : Homed (arms v.place)

    record Grown (g g' : G) : Type 0 where
      pub exprs : More g.exprs g'.exprs
      pub vars : More g.vars g'.vars
      pub names : More g.names g'.names

    pub record Final (g : G) : Type 0 where
      pub exprs : More g.exprs E
      pub vars : More g.vars V
      pub names : More (spots g.names) S

    more_spots : (xs ys : List Named) → More xs ys → More (spots xs) (spots ys)
    more_spots xs ys m = record { list = spots m.list; is = ap spots m.is ∙ map_on spot_arms xs m.list }

    final_back : (g g' : G) → Grown g g' → Final g' → Final g
    final_back g g' m f = record {
      exprs = more_then g.exprs g'.exprs E m.exprs f.exprs;
      vars = more_then g.vars g'.vars V m.vars f.vars;
      names = more_then (spots g.names) (spots g'.names) S (more_spots g.names g'.names m.names) f.names;
    }

    grown_none : (g : G) → Grown g g
    grown_none g = record { exprs = more_none g.exprs; vars = more_none g.vars; names = more_none g.names }

    grown_then : (g g' g'' : G) → Grown g g' → Grown g' g'' → Grown g g''
    grown_then g g' g'' a b = record {
      exprs = more_then g.exprs g'.exprs g''.exprs a.exprs b.exprs;
      vars = more_then g.vars g'.vars g''.vars a.vars b.vars;
      names = more_then g.names g'.names g''.names a.names b.names;
    }

    grown_name : (n : Named) (g : G) → Grown g (F.naming Note n g)
    grown_name n g = record { exprs = more_none g.exprs; vars = more_none g.vars; names = more_one g.names n }

    grown_read : (e : Expr Note) (p : F.Place) (g : G) → Grown g (F.reading Note e p g)
    grown_read e p g = record { exprs = more_one g.exprs (record { expr = e; place = p }); vars = more_none g.vars; names = more_none g.names }

    stands_next : (e : Expr Note) (p : F.Place) (g : G) → Final (F.reading Note e p g) → StandsAt (F.next_expr Note g) (arms p)
    stands_next e p g f = record { whole = record { expr = e; place = p }; is = nth_new g.exprs E (record { expr = e; place = p }) f.exprs; place = refl }

    -- where equations stand

    spot_reset : (r : ℕ) (v : around_of.Where) (o : Option F.Place) → v.block ≡ o → arms (F.spot (F.in_reset r v)) ≡ arms (F.spot v)
    spot_reset r v None e =
        ap (λ o. arms (unwrap_or o (v.place ++ frame.Reset r ∷ []))) e ∙ arms_on v.place (frame.Reset r ∷ []) ∙ end_nil (arms v.place) ∙ ap (λ o. arms (unwrap_or o v.place)) (sym e)
    spot_reset r v (Some q) e = ap (λ o. arms (unwrap_or o (v.place ++ frame.Reset r ∷ []))) e ∙ ap (λ o. arms (unwrap_or o v.place)) (sym e)

    at_reset : (r : ℕ) (v : around_of.Where) → At v → At (F.in_reset r v)
    at_reset r v a =
        let same : arms (v.place ++ frame.Reset r ∷ []) ≡ arms v.place = arms_on v.place (frame.Reset r ∷ []) ∙ end_nil (arms v.place) in
        record { split = same ∙ a.split ∙ ap (λ z. z ++ v.inner) (sym (spot_reset r v v.block refl)); homed = subst Homed (sym same) a.homed }

    in_arm : (m j : ℕ) (v : around_of.Where) → arms (v.place ++ frame.Arm m j ∷ []) ≡ arms v.place ++ (m, j) ∷ []
    in_arm m j v = arms_on v.place (frame.Arm m j ∷ [])

    homed_in : (m j : ℕ) (v : around_of.Where) → Block m v → At v → Homed (arms (v.place ++ frame.Arm m j ∷ []))
    homed_in m j v h a = subst Homed (sym (in_arm m j v)) (homed_end [] (arms v.place) (m, j) a.homed h)

    at_do : (m j : ℕ) (v : around_of.Where) → Block m v → At v → At (F.in_do m j v)
    at_do m j v h a = record { split = in_arm m j v ∙ ap (λ z. z ++ (m, j) ∷ []) a.split ∙ append_assoc (arms (F.spot v)) v.inner ((m, j) ∷ []); homed = homed_in m j v h a }

    at_let : (m j : ℕ) (v : around_of.Where) → Block m v → At v → At (F.in_let m j v)
    at_let m j v h a = record { split = sym (end_nil (arms (v.place ++ frame.Arm m j ∷ []))); homed = homed_in m j v h a }

    -- variables

    listed_more : (xs ys : List Variable) (l : List InnerArm) (x : ℕ) → More xs ys → Listed xs l x → Listed ys l x
    listed_more xs ys l x m h = record { variable = h.variable; is = nth_more xs ys x h.variable m h.is; list = h.list }

    all_more : (xs ys : List Variable) (l : List InnerArm) (ks : List ℕ) → More xs ys → Each (Listed xs l) ks → Each (Listed ys l) ks
    all_more xs ys l [] m h = tt
    all_more xs ys l (k ∷ ks) m h = (listed_more xs ys l k m h.0, all_more xs ys l ks m h.1)

    placed_if : (b : Bool) (x k i : ℕ) (v : Variable) (vs : List Variable) (l : List InnerArm) → (v.name == x && same_arms v.list l) ≡ b
        → (F.place_of x l vs (suc k) ≡ Some i → (j : ℕ) × (i ≡ suc k + j) × Listed vs l j) → (if b then Some k else F.place_of x l vs (suc k)) ≡ Some i
        → (j : ℕ) × (i ≡ k + j) × Listed (v ∷ vs) l j
    placed_if true x k i v vs l is h e =
        let s : k ≡ i = ap (λ o. unwrap_or o i) e in
        (0, omega (arith, s), record { variable = v; is = refl; list = arms_are v.list l (and_parts (v.name == x) (same_arms v.list l) is).1 })
    placed_if false x k i v vs l is h e = let r = h e in let q = r.1 in (suc r.0, omega (arith, q), record { variable = r.2.variable; is = r.2.is; list = r.2.list })

    placed_from : (x : ℕ) (l : List InnerArm) (vs : List Variable) (k i : ℕ) → F.place_of x l vs k ≡ Some i → (j : ℕ) × (i ≡ k + j) × Listed vs l j
    placed_from x l [] k i e = absurd (cc)
    placed_from x l (v ∷ vs) k i e = placed_if (v.name == x && same_arms v.list l) x k i v vs l refl (placed_from x l vs (suc k) i) e

    pub listed_at : (x : ℕ) (l : List InnerArm) (vs : List Variable) (i : ℕ) → F.place_of x l vs 0 ≡ Some i → Listed vs l i
    listed_at x l vs i e = let r = placed_from x l vs 0 i e in let q = r.1 in let s : r.0 ≡ i = omega (arith, q) in subst (Listed vs l) s r.2

    record Binds (l : List InnerArm) (b c : F.Bound) : Type 0 where
      pub new : (k : ℕ) (v : Variable) → nth c.0 k ≡ Some v → (nth b.0 k ≡ Some v) ⊎ In k c.1
      pub kept : (k : ℕ) → In k b.1 → In k c.1
      pub more : More b.0 c.0
      pub listed : Each (Listed b.0 l) b.1 → Each (Listed c.0 l) c.1
      pub vars : Each VarPlaced b.0 → Each VarPlaced c.0

    bind_case : (x : ℕ) (sig : Bool) (v : around_of.Where) (b : F.Bound) (o : Option ℕ) → F.place_of x (arms (F.spot v)) b.0 0 ≡ o → Binds (arms (F.spot v)) b (F.bind_at x sig v b o)
    bind_case x sig v b (Some k) e = record {
      new = λ j u q. inl q;
      kept = λ j q. in_left j b.1 (k ∷ []) q;
      more = more_none b.0;
      listed = λ h. each_both (Listed b.0 (arms (F.spot v))) b.1 (k ∷ []) h (listed_at x (arms (F.spot v)) b.0 k e, tt);
      vars = λ h. h;
    }
    bind_case x sig v b None e =
        let w : Variable = record { name = x; list = arms (F.spot v); place = F.spot v; signal = sig } in
        let m : More b.0 (b.0 ++ w ∷ []) = more_one b.0 w in
        record {
          new = λ j u q. elim (nth_end b.0 w j u q) [ inl h ↦ inl h | inr h ↦ inr (subst (λ z. In z (b.1 ++ length b.0 ∷ [])) (sym h) (in_right (length b.0) b.1 (length b.0 ∷ []) (here []))) ];
          kept = λ j q. in_left j b.1 (length b.0 ∷ []) q;
          more = m;
          listed = λ h. each_both (Listed (b.0 ++ w ∷ []) (arms (F.spot v))) b.1 (length b.0 ∷ []) (all_more b.0 (b.0 ++ w ∷ []) (arms (F.spot v)) b.1 m h)
              (record { variable = w; is = nth_last b.0 [] w; list = refl }, tt);
          vars = λ h. each_both VarPlaced b.0 (w ∷ []) h (refl, tt);
        }

    binds_then : (l : List InnerArm) (b c d : F.Bound) → Binds l b c → Binds l c d → Binds l b d
    binds_then l b c d p q = record {
      new = λ k v e. elim (q.new k v e) [ inl h ↦ elim (p.new k v h) [ inl i ↦ inl i | inr i ↦ inr (q.kept k i) ] | inr h ↦ inr h ];
      kept = λ k i. q.kept k (p.kept k i);
      more = more_then b.0 c.0 d.0 p.more q.more;
      listed = λ h. q.listed (p.listed h);
      vars = λ h. q.vars (p.vars h);
    }

    binds_none : (l : List InnerArm) (b : F.Bound) → Binds l b b
    binds_none l b = record { new = λ k v e. inl e; kept = λ k i. i; more = more_none b.0; listed = λ h. h; vars = λ h. h }

    binds_all : (xs : List ℕ) (sig : Bool) (v : around_of.Where) (b : F.Bound) → Binds (arms (F.spot v)) b (F.bind_all xs sig v b)
    binds_all [] sig v b = binds_none (arms (F.spot v)) b
    binds_all (x ∷ xs) sig v b = binds_then (arms (F.spot v)) b (F.bind x sig v b) (F.bind_all xs sig v (F.bind x sig v b))
        (bind_case x sig v b (F.place_of x (arms (F.spot v)) b.0 0) refl) (binds_all xs sig v (F.bind x sig v b))

    grown_bind : (xs : List ℕ) (sig : Bool) (right : Right) (v : around_of.Where) (g : G) → Grown g (F.site_at Note xs sig right v g)
    grown_bind xs sig right v g = record { exprs = more_none g.exprs; vars = (binds_all xs sig v (g.vars, [])).more; names = more_none g.names }

    placed_bind : (xs : List ℕ) (sig : Bool) (right : Right) (v : around_of.Where) (g : G) → At v → Final (F.site_at Note xs sig right v g) → RightPlaced (arms v.place) v.inner right → Placed g
        → Placed (F.site_at Note xs sig right v g)
    placed_bind xs sig right v g a f r h =
        let b : F.Bound = F.bind_all xs sig v (g.vars, []) in
        let q = binds_all xs sig v (g.vars, []) in
        let s : Site = record { vars = b.1; right = right; place = v.place; inner = v.inner } in
        record {
          sited = λ k u e. elim (q.new k u e) [
            | inl i ↦ let o = h.sited k u i in record { site = o.site; among = in_left o.site g.sites (s ∷ []) o.among; binds = o.binds }
            | inr i ↦ record { site = s; among = in_right s g.sites (s ∷ []) (here []); binds = i }
          ];
          exprs = h.exprs;
          sites = each_both SitePlaced g.sites (s ∷ []) h.sites (record { list = arms (F.spot v); vars = all_more b.0 V (arms (F.spot v)) b.1 f.vars (q.listed tt); place = a.split; homed = a.homed; right = r }, tt);
          starts = h.starts;
          vars = q.vars h.vars;
          names = h.names;
        }

    placed_read : (e : Expr Note) (v : around_of.Where) (g : G) → At v → Placed g → Placed (F.reading Note e v.place g)
    placed_read e v g a h = record {
      exprs = each_both (λ (x : Whole Note). Homed (arms x.place)) g.exprs (record { expr = e; place = v.place } ∷ []) h.exprs (a.homed, tt);
      sited = h.sited;
      sites = h.sites;
      starts = h.starts;
      vars = h.vars;
      names = h.names;
    }

    placed_name : (n : Named) (g : G) → NamedPlaced (length g.names) n → Placed g → Placed (F.naming Note n g)
    placed_name n g m h =
        let z : length g.names ≡ 0 + length g.names = omega arith in
        record { sited = h.sited; exprs = h.exprs; sites = h.sites; starts = h.starts; vars = h.vars; names = names_on 0 g.names (n ∷ []) h.names (subst (λ j. NamedPlaced j n) z m, tt) }

    -- ---- the relation, with nothing on the left

    abbrev Does : G → G → Type 0 → Type 0
    Does g g' Given = Grown g g' × (Given → Final g' → Placed g → Placed g')

    abbrev R1 : U → F.Walk Note → Type 0
    R1 u b = (v : around_of.Where) (g : G) → Does g (b v g) (At v)

    abbrev R4 : U → F.InArm Note → Type 0
    R4 u b = (m j : ℕ) (v : around_of.Where) (g : G) → Does g (b m j v g) (Block m v × At v)

    abbrev R2 : U → F.AnArm Note → Type 0
    R2 u b = R4 u b.walk

    abbrev R3 : U → F.AGuard Note → Type 0
    R3 u b = R4 u b.walk × ((m j : ℕ) (v : around_of.Where) (g : G) → Final (b.walk m j v g) → StandsAt (b.transition m j v g).cond (arms v.place ++ (m, j) ∷ []))

    record StateDoes (b : F.AState Note) (m j : ℕ) (v : around_of.Where) (g : G) : Type 0 where
      pub does : Does g (b.walk m j v g) (Block m v × Block (m + 1) v × At v)
      pub strong : Final (b.walk m j v g) → CondsAt (arms v.place ++ (m + 1, j) ∷ []) (b.strong m j v g)
      pub weak : Final (b.walk m j v g) → CondsAt (arms v.place ++ (m, j) ∷ []) (b.weak m j v g)

    abbrev R5 : U → F.AState Note → Type 0
    R5 u b = (m j : ℕ) (v : around_of.Where) (g : G) → StateDoes b m j v g

    abbrev R6 : U → F.ATest Note → Type 0
    R6 u b = R4 u b.walk

    abbrev T1 : Type 0
    T1 = (a : U) × (b : F.Walk Note) × R1 a b

    abbrev T2 : Type 0
    T2 = (a : U) × (b : F.AnArm Note) × R2 a b

    abbrev T3 : Type 0
    T3 = (a : U) × (b : F.AGuard Note) × R3 a b

    abbrev T4 : Type 0
    T4 = (a : U) × (b : F.InArm Note) × R4 a b

    abbrev T5 : Type 0
    T5 = (a : U) × (b : F.AState Note) × R5 a b

    abbrev T6 : Type 0
    T6 = (a : U) × (b : F.ATest Note) × R6 a b

    then_ : (g g' g'' : G) (X Y Z : Type 0) → (Z → X) → (Z → Y) → Does g g' X → Does g' g'' Y → Does g g'' Z
    then_ g g' g'' X Y Z x y a b = (grown_then g g' g'' a.0 b.0, (λ z f h. b.1 (y z) f (a.1 (x z) (final_back g' g'' b.0 f) h)))

    nothing_done : (g : G) (X : Type 0) → Does g g X
    nothing_done g X = (grown_none g, (λ x f h. h))

    abbrev w1 : List T1 → List (F.Walk Note)
    w1 = map {A = T1} {B = F.Walk Note} (λ p. p.1)

    abbrev w2 : List T2 → List (F.AnArm Note)
    w2 = map {A = T2} {B = F.AnArm Note} (λ p. p.1)

    abbrev w3 : List T3 → List (F.AGuard Note)
    w3 = map {A = T3} {B = F.AGuard Note} (λ p. p.1)

    abbrev w5 : List T5 → List (F.AState Note)
    w5 = map {A = T5} {B = F.AState Note} (λ p. p.1)

    abbrev w6 : List T6 → List (F.ATest Note)
    w6 = map {A = T6} {B = F.ATest Note} (λ p. p.1)

    all_done : (qs : List T1) (v : around_of.Where) (g : G) → Does g (F.walk_all Note (w1 qs) v g) (At v)
    all_done [] v g = nothing_done g (At v)
    all_done (q ∷ qs) v g = then_ g (q.1 v g) (F.walk_all Note (w1 qs) v (q.1 v g)) (At v) (At v) (At v) (λ a. a) (λ a. a) (q.2 v g) (all_done qs v (q.1 v g))

    arms_done : (all : List T2) (m j : ℕ) (v : around_of.Where) (g : G) → Does g (F.arms_from Note m j (F.arm_walks Note (w2 all)) v g) (Block m v × At v)
    arms_done [] m j v g = nothing_done g (Block m v × At v)
    arms_done (q ∷ all) m j v g =
        then_ g (q.1.walk m j v g) (F.arms_from Note m (suc j) (F.arm_walks Note (w2 all)) v (q.1.walk m j v g)) (Block m v × At v) (Block m v × At v) (Block m v × At v) (λ a. a) (λ a. a) (q.2 m j v g) (arms_done all m (suc j) v (q.1.walk m j v g))

    states_done : (all : List T5) (m j : ℕ) (v : around_of.Where) (g : G) → Does g (F.arms_from Note m j (F.state_walks Note (w5 all)) v g) (Block m v × Block (m + 1) v × At v)
    states_done [] m j v g = nothing_done g (Block m v × Block (m + 1) v × At v)
    states_done (q ∷ all) m j v g =
        let X = Block m v × Block (m + 1) v × At v in
        then_ g (q.1.walk m j v g) (F.arms_from Note m (suc j) (F.state_walks Note (w5 all)) v (q.1.walk m j v g)) X X X (λ a. a) (λ a. a) (q.2 m j v g).does (states_done all m (suc j) v (q.1.walk m j v g))

    guards_done : (all : List T3) (m j : ℕ) (v : around_of.Where) (g : G) → Does g (F.walk_guards Note (w3 all) m j v g) (Block m v × At v)
    guards_done [] m j v g = nothing_done g (Block m v × At v)
    guards_done (q ∷ all) m j v g =
        then_ g (q.1.walk m j v g) (F.walk_guards Note (w3 all) m j v (q.1.walk m j v g)) (Block m v × At v) (Block m v × At v) (Block m v × At v) (λ a. a) (λ a. a) (q.2.0 m j v g) (guards_done all m j v (q.1.walk m j v g))

    guard_conds : (all : List T3) (m j : ℕ) (v : around_of.Where) (g : G) → Final (F.walk_guards Note (w3 all) m j v g) → CondsAt (arms v.place ++ (m, j) ∷ []) (F.transitions Note (w3 all) m j v g)
    guard_conds [] m j v g f = tt
    guard_conds (q ∷ all) m j v g f =
        let g1 : G = q.1.walk m j v g in
        (q.2.1 m j v g (final_back g1 (F.walk_guards Note (w3 all) m j v g1) (guards_done all m j v g1).0 f), guard_conds all m j v g1 f)

    strong_states : (all : List T5) (m j : ℕ) (v : around_of.Where) (g : G) → Final (F.arms_from Note m j (F.state_walks Note (w5 all)) v g) → StatesAt (m + 1) j (arms v.place) (F.strongs_from Note m j (w5 all) v g)
    strong_states [] m j v g f = tt
    strong_states (q ∷ all) m j v g f =
        let g1 : G = q.1.walk m j v g in
        ((q.2 m j v g).strong (final_back g1 (F.arms_from Note m (suc j) (F.state_walks Note (w5 all)) v g1) (states_done all m (suc j) v g1).0 f), strong_states all m (suc j) v g1 f)

    weak_states : (all : List T5) (m j : ℕ) (v : around_of.Where) (g : G) → Final (F.arms_from Note m j (F.state_walks Note (w5 all)) v g) → StatesAt m j (arms v.place) (F.weaks_from Note m j (w5 all) v g)
    weak_states [] m j v g f = tt
    weak_states (q ∷ all) m j v g f =
        let g1 : G = q.1.walk m j v g in
        ((q.2 m j v g).weak (final_back g1 (F.arms_from Note m (suc j) (F.state_walks Note (w5 all)) v g1) (states_done all m (suc j) v g1).0 f), weak_states all m (suc j) v g1 f)

    abbrev other_of : Option T4 → List (F.InArm Note)
    other_of o = F.option_list (option_map {T = T4} {U = F.InArm Note} (λ p. p.1) o)

    tests_done : (all : List T6) (o : Option T4) (m j : ℕ) (v : around_of.Where) (g : G) → Does g (F.arms_from Note m j (F.test_walks Note (w6 all) ++ other_of o) v g) (Block m v × At v)
    tests_done [] None m j v g = nothing_done g (Block m v × At v)
    tests_done [] (Some h) m j v g = h.2 m j v g
    tests_done (q ∷ all) o m j v g =
        then_ g (q.1.walk m j v g) (F.arms_from Note m (suc j) (F.test_walks Note (w6 all) ++ other_of o) v (q.1.walk m j v g)) (Block m v × At v) (Block m v × At v) (Block m v × At v) (λ a. a) (λ a. a) (q.2 m j v g)
        (tests_done all o m (suc j) v (q.1.walk m j v g))

    -- the steps

    abbrev s1 : Equation-F Note U U U U U U → U
    s1 x = tt

    abbrev s2 : Arm-F Note U U U U U U → U
    s2 x = tt

    abbrev s3 : Guard-F Note U U U U U U → U
    s3 x = tt

    abbrev s4 : Handler-F Note U U U U U U → U
    s4 x = tt

    abbrev s5 : State-F Note U U U U U U → U
    s5 x = tt

    abbrev s6 : Test-F Note U U U U U U → U
    s6 x = tt

    abbrev t1 : Equation-F Note (F.Walk Note) (F.AnArm Note) (F.AGuard Note) (F.InArm Note) (F.AState Note) (F.ATest Note) → F.Walk Note
    t1 = F.equation_step Note first cases signal

    abbrev t2 : Arm-F Note (F.Walk Note) (F.AnArm Note) (F.AGuard Note) (F.InArm Note) (F.AState Note) (F.ATest Note) → F.AnArm Note
    t2 = F.arm_step Note first cases signal

    abbrev t3 : Guard-F Note (F.Walk Note) (F.AnArm Note) (F.AGuard Note) (F.InArm Note) (F.AState Note) (F.ATest Note) → F.AGuard Note
    t3 = F.guard_step Note first cases signal

    abbrev t4 : Handler-F Note (F.Walk Note) (F.AnArm Note) (F.AGuard Note) (F.InArm Note) (F.AState Note) (F.ATest Note) → F.InArm Note
    t4 = F.handler_step Note first cases signal

    abbrev t5 : State-F Note (F.Walk Note) (F.AnArm Note) (F.AGuard Note) (F.InArm Note) (F.AState Note) (F.ATest Note) → F.AState Note
    t5 = F.state_step Note first cases signal

    abbrev t6 : Test-F Note (F.Walk Note) (F.AnArm Note) (F.AGuard Note) (F.InArm Note) (F.AState Note) (F.ATest Note) → F.ATest Note
    t6 = F.test_step Note first cases signal

    present_done : (all : List T6) (o : Option T4) (v : around_of.Where) (g : G)
        → Does g (F.arms_from Note (first + length g.names) 0 (F.test_walks Note (w6 all) ++ other_of o) v (F.open_present Note (F.test_signals Note (w6 all)) v g)) (At v)
    present_done all o v g =
        let n = named.Present (F.test_signals Note (w6 all)) v.place in
        let g1 : G = F.naming Note n g in
        let m = first + length g.names in
        let t = tests_done all o m 0 v g1 in
        let g2 = F.arms_from Note m 0 (F.test_walks Note (w6 all) ++ other_of o) v g1 in (
          grown_then g g1 g2 (grown_name n g) t.0,
          (λ a f h. t.1 (next_spot g.names n (final_back g1 g2 t.0 f).names, a) f (placed_name n g a.homed h)),
        )

    closed : (k : ℕ) (strong weak : F.Guards Note) (p : F.Place) (g g' : G) (more : List Named) → k ≡ length g.names → g'.names ≡ (g.names ++ named.Active [] p ∷ []) ++ (named.Tested [] p ∷ more)
        → (F.close_modes Note k strong weak p g').names ≡ g.names ++ named.Active strong p ∷ named.Tested weak p ∷ more
    closed k strong weak p g g' more e is =
        let x = named.Active [] p in
        let y = named.Tested [] p in
        (λ i. slice_set (slice_set (is i) (e i) (named.Active strong p)) (e i + 1) (named.Tested weak p))
        ∙ ap (λ z. slice_set (slice_set z (length g.names) (named.Active strong p)) (length g.names + 1) (named.Tested weak p)) (append_assoc g.names (x ∷ []) (y ∷ more))
        ∙ ap (λ z. slice_set z (length g.names + 1) (named.Tested weak p)) (set_at g.names x (named.Active strong p) (y ∷ more))
        ∙ set_next g.names (named.Active strong p) y (named.Tested weak p) more

    automaton_done : (all : List T5) (v : around_of.Where) (g : G) → Does g (t1 (Equation-F.Automaton (w5 all)) v g) (At v)
    automaton_done all v g =
        let p : F.Place = v.place in
        let m : ℕ = first + length g.names in
        let act = named.Active [] p in
        let tes = named.Tested [] p in
        let g0 : G = F.naming Note act g in
        let g1 : G = F.open_modes Note p g in
        let t = states_done all m 0 v g1 in
        let g2 : G = F.arms_from Note m 0 (F.state_walks Note (w5 all)) v g1 in
        let strong = F.strongs_from Note m 0 (w5 all) v g1 in
        let weak = F.weaks_from Note m 0 (w5 all) v g1 in
        let g3 : G = F.close_modes Note (length g.names) strong weak p g2 in
        let more : List Named = t.0.names.list in
        let is2 : g2.names ≡ (g.names ++ act ∷ []) ++ (tes ∷ more) = t.0.names.is ∙ append_assoc (g.names ++ act ∷ []) (tes ∷ []) more in
        let is2' : g2.names ≡ g.names ++ act ∷ tes ∷ more = is2 ∙ append_assoc g.names (act ∷ []) (tes ∷ more) in
        let is3 : g3.names ≡ g.names ++ named.Active strong p ∷ named.Tested weak p ∷ more = closed (length g.names) strong weak p g g2 more refl is2 in
        let same : spots g3.names ≡ spots g2.names =
        ap spots is3 ∙ map_on spot_arms g.names (named.Active strong p ∷ named.Tested weak p ∷ more) ∙ sym (map_on spot_arms g.names (act ∷ tes ∷ more)) ∙ ap spots (sym is2') in
        let grown1 : Grown g g1 = grown_then g g0 g1 (grown_name act g) (grown_name tes g0) in
        let grown2 : Grown g g2 = grown_then g g1 g2 grown1 t.0 in (
          record { exprs = grown2.exprs; vars = grown2.vars; names = record { list = named.Active strong p ∷ named.Tested weak p ∷ more; is = is3 } },
          (λ a f h.
              let f2 : Final g2 = record { exprs = f.exprs; vars = f.vars; names = subst (λ z. More z S) same f.names } in
              let f1 : Final g1 = final_back g1 g2 t.0 f2 in
              let f0 : Final g0 = final_back g0 g1 (grown_name tes g0) f1 in
              let b1 : Block m v = next_spot g.names act f0.names in
              let long : first + length g0.names ≡ m + 1 = (let l = length_on g.names (act ∷ []) in omega (arith, l)) in
              let b2 : Block (m + 1) v = subst (λ z. Block z v) long (next_spot g0.names tes f1.names) in
              let i : ℕ = length g.names in
              let up : m + 1 ≡ suc (first + i) = omega arith in
              let down : m ≡ first + suc i - 1 = omega arith in
              let some : 0 < suc i = omega arith in
              let pair : (s s' : F.Guards Note) (ns : List Named) → StatesAt (m + 1) 0 (arms p) s → StatesAt m 0 (arms p) s' → NamesPlaced (suc (suc i)) ns → NamesPlaced i (named.Active s p ∷ named.Tested s' p ∷ ns) = (λ s s' ns x y q. (
                (a.homed, subst (λ z. spot_of z ≡ Some (arms p)) up b2, subst (λ z. StatesAt z 0 (arms p) s) up x),
                ((a.homed, subst (λ z. spot_of z ≡ Some (arms p)) down b1, subst (λ z. StatesAt z 0 (arms p) s') down y, some), q),
              )) in
              let zero_on : i ≡ 0 + i = omega arith in
              let h1 : Placed g1 = record {
                sited = h.sited;
                exprs = h.exprs;
                sites = h.sites;
                starts = h.starts;
                vars = h.vars;
                names = subst (NamesPlaced 0) (sym (append_assoc g.names (act ∷ []) (tes ∷ []))) (names_on 0 g.names (act ∷ tes ∷ []) h.names (subst (λ j. NamesPlaced j (act ∷ tes ∷ [])) zero_on (pair [] [] [] tt tt tt)));
              } in
              let h2 = t.1 (b1, b2, a) f2 h1 in
              let inside = (names_after 0 g.names (act ∷ tes ∷ more) (subst (NamesPlaced 0) is2' h2.names)).1.1 in
              record {
                sited = h2.sited;
                exprs = h2.exprs;
                sites = h2.sites;
                starts = h2.starts;
                vars = h2.vars;
                names = subst (NamesPlaced 0) (sym is3) (names_on 0 g.names (named.Active strong p ∷ named.Tested weak p ∷ more) h.names
                    (subst (λ j. NamesPlaced j (named.Active strong p ∷ named.Tested weak p ∷ more)) zero_on
                    (pair strong weak more (strong_states all m 0 v g1 f2) (weak_states all m 0 v g1 f2) (subst (λ j. NamesPlaced (suc (suc j)) more) (sym zero_on) inside))));
              }),
        )

    step1 : (y : Equation-F Note T1 T2 T3 T4 T5 T6) → R1 (s1 (lefts_Equation s1 s2 s3 s4 s5 s6 t1 t2 t3 t4 t5 t6 R1 R2 R3 R4 R5 R6 y)) (t1 (rights_Equation s1 s2 s3 s4 s5 s6 t1 t2 t3 t4 t5 t6 R1 R2 R3 R4 R5 R6 y))
    step1 (Equation-F.Plain p e) v g =
        let g1 : G = F.reading Note e v.place g in
        let right = rhs.Part p (F.next_expr Note g) in
        let b = grown_bind (FP.names_of p) (signal e) right v g1 in (
          grown_then g g1 _ (grown_read e v.place g) b,
          (λ a f h. placed_bind (FP.names_of p) (signal e) right v g1 a f (stands_next e v.place g (final_back g1 _ b f)) (placed_read e v g a h)),
        )
    step1 (Equation-F.Clock x e) v g =
        let g1 : G = F.reading Note e v.place g in
        let right = rhs.Whole (F.next_expr Note g) in
        let g2 : G = F.whole_at Note x.0 false e v g in
        let n = named.Clock (unwrap_or (F.place_of x.0 (arms (F.spot v)) g2.vars 0) 0) in
        let b = grown_bind (x.0 ∷ []) false right v g1 in
        let c = grown_name n g2 in (
          grown_then g g2 _ (grown_then g g1 g2 (grown_read e v.place g) b) c,
          (λ a f h.
              let f2 : Final g2 = final_back g2 _ c f in
              placed_name n g2 tt (placed_bind (x.0 ∷ []) false right v g1 a f2 (stands_next e v.place g (final_back g1 g2 b f2)) (placed_read e v g a h))),
        )
    step1 (Equation-F.Initial x e) v g =
        let g1 : G = F.reading Note e v.place g in
        let g2 : G = F.start_at Note x.0 e v g in (
          record { exprs = more_one g.exprs (record { expr = e; place = v.place }); vars = more_none g.vars; names = more_none g.names },
          (λ a f h.
              let q = placed_read e v g a h in
              let f1 : Final g1 = record { exprs = f.exprs; vars = f.vars; names = f.names } in
              record {
                sited = q.sited;
                exprs = q.exprs;
                sites = q.sites;
                vars = q.vars;
                names = q.names;
                starts = each_both StartPlaced g.starts (record { name = x.0; list = arms (F.spot v); right = F.next_expr Note g } ∷ []) h.starts (record { inner = v.inner; at = subst (StandsAt (F.next_expr Note g)) a.split (stands_next e v.place g f1) }, tt);
              }),
        )
    step1 (Equation-F.Emit x e) v g =
        let g1 : G = F.reading Note e v.place g in
        let right = rhs.Whole (F.next_expr Note g) in
        let b = grown_bind (x.0 ∷ []) true right v g1 in (
          grown_then g g1 _ (grown_read e v.place g) b,
          (λ a f h. placed_bind (x.0 ∷ []) true right v g1 a f (stands_next e v.place g (final_back g1 _ b f)) (placed_read e v g a h)),
        )
    step1 (Equation-F.Reset qs e) v g =
        let g1 : G = F.open_reset Note e v g in
        let w = F.in_reset (length g.resets) v in
        let t = all_done qs w g1 in
        let g2 = F.walk_all Note (w1 qs) w g1 in (
          grown_then g g1 g2 (record { exprs = more_one g.exprs (record { expr = e; place = v.place }); vars = more_none g.vars; names = more_none g.names }) t.0,
          (λ a f h.
              let q = placed_read e v g a h in
              t.1 (at_reset (length g.resets) v a) f (record { sited = q.sited; exprs = q.exprs; sites = q.sites; starts = q.starts; vars = q.vars; names = q.names })),
        )
    step1 (Equation-F.Match e all) v g =
        let n = named.Match (F.next_expr Note g) (F.arm_cases Note (w2 all)) v.place in
        let g0 : G = F.reading Note e v.place g in
        let g1 : G = F.naming Note n g0 in
        let m = first + length g.names in
        let t = arms_done all m 0 v g1 in
        let g2 = F.arms_from Note m 0 (F.arm_walks Note (w2 all)) v g1 in
        let c = grown_name n g0 in (
          grown_then g g1 g2 (grown_then g g0 g1 (grown_read e v.place g) c) t.0,
          (λ a f h.
              let f1 : Final g1 = final_back g1 g2 t.0 f in
              t.1 (next_spot g.names n f1.names, a) f (placed_name n g0 (a.homed, stands_next e v.place g (final_back g0 g1 c f1)) (placed_read e v g a h))),
        )
    step1 (Equation-F.Present all None) v g = present_done all None v g
    step1 (Equation-F.Present all (Some h)) v g = present_done all (Some h) v g
    step1 (Equation-F.Automaton all) v g = automaton_done all v g

    step2 : (y : Arm-F Note T1 T2 T3 T4 T5 T6) → R2 (s2 (lefts_Arm s1 s2 s3 s4 s5 s6 t1 t2 t3 t4 t5 t6 R1 R2 R3 R4 R5 R6 y)) (t2 (rights_Arm s1 s2 s3 s4 s5 s6 t1 t2 t3 t4 t5 t6 R1 R2 R3 R4 R5 R6 y))
    step2 y m j v g = y.handler.2 m j v g

    step3 : (y : Guard-F Note T1 T2 T3 T4 T5 T6) → R3 (s3 (lefts_Guard s1 s2 s3 s4 s5 s6 t1 t2 t3 t4 t5 t6 R1 R2 R3 R4 R5 R6 y)) (t3 (rights_Guard s1 s2 s3 s4 s5 s6 t1 t2 t3 t4 t5 t6 R1 R2 R3 R4 R5 R6 y))
    step3 y = (
      (λ m j v g.
          let v' = F.in_let m j v in
          let g1 : G = F.walk_all Note (w1 y.eqs) v' g in
          let g2 : G = F.reading Note y.cond v'.place g1 in
          let t = all_done y.eqs v' g in
          let b = grown_read y.cond v'.place g1 in
          (grown_then g g1 g2 t.0 b, (λ x f h. let a = at_let m j v x.0 x.1 in placed_read y.cond v' g1 a (t.1 a (final_back g1 g2 b f) h)))),
      (λ m j v g f.
          let v' = F.in_let m j v in
          let g1 : G = F.walk_all Note (w1 y.eqs) v' g in
          subst (StandsAt (F.next_expr Note g1)) (in_arm m j v) (stands_next y.cond v'.place g1 f)),
    )

    step4 : (y : Handler-F Note T1 T2 T3 T4 T5 T6) → R4 (s4 (lefts_Handler s1 s2 s3 s4 s5 s6 t1 t2 t3 t4 t5 t6 R1 R2 R3 R4 R5 R6 y)) (t4 (rights_Handler s1 s2 s3 s4 s5 s6 t1 t2 t3 t4 t5 t6 R1 R2 R3 R4 R5 R6 y))
    step4 y m j v g =
        let g1 : G = F.walk_all Note (w1 y.locals) (F.in_let m j v) g in
        then_ g g1 (F.walk_all Note (w1 y.eqs) (F.in_do m j v) g1) (At (F.in_let m j v)) (At (F.in_do m j v)) (Block m v × At v) (λ x. at_let m j v x.0 x.1) (λ x. at_do m j v x.0 x.1) (all_done y.locals (F.in_let m j v) g) (all_done y.eqs (F.in_do m j v) g1)

    step5 : (y : State-F Note T1 T2 T3 T4 T5 T6) → R5 (s5 (lefts_State s1 s2 s3 s4 s5 s6 t1 t2 t3 t4 t5 t6 R1 R2 R3 R4 R5 R6 y)) (t5 (rights_State s1 s2 s3 s4 s5 s6 t1 t2 t3 t4 t5 t6 R1 R2 R3 R4 R5 R6 y))
    step5 y m j v g =
        let g1 : G = y.handler.1 m j v g in
        let g2 : G = F.walk_guards Note (w3 y.strong) (m + 1) j v g1 in
        let g3 : G = F.walk_guards Note (w3 y.weak) m j v g2 in
        let Given : Type 0 = Block m v × Block (m + 1) v × At v in
        let s = guards_done y.strong (m + 1) j v g1 in
        let w = guards_done y.weak m j v g2 in
        record {
          does = then_ g g1 g3 (Block m v × At v) Given Given (λ x. (x.0, x.2)) (λ x. x) (y.handler.2 m j v g)
              (then_ g1 g2 g3 (Block (m + 1) v × At v) (Block m v × At v) Given (λ x. (x.1, x.2)) (λ x. (x.0, x.2)) s w);
          strong = λ f. guard_conds y.strong (m + 1) j v g1 (final_back g2 g3 w.0 f);
          weak = λ f. guard_conds y.weak m j v g2 f;
        }

    tested_done : (o : Option Pat) (x m j : ℕ) (v : around_of.Where) (g : G) → Does g (F.bind_pattern Note x o (F.in_let m j v) g) (At (F.in_let m j v))
    tested_done None x m j v g = nothing_done g (At (F.in_let m j v))
    tested_done (Some p) x m j v g = (
      grown_bind (FP.names_of p) false (rhs.Pattern x p) (F.in_let m j v) g,
      (λ a f h. placed_bind (FP.names_of p) false (rhs.Pattern x p) (F.in_let m j v) g a f (refl, record { around = arms v.place; arm = (m, j); is = in_arm m j v }) h),
    )

    step6 : (y : Test-F Note T1 T2 T3 T4 T5 T6) → R6 (s6 (lefts_Test s1 s2 s3 s4 s5 s6 t1 t2 t3 t4 t5 t6 R1 R2 R3 R4 R5 R6 y)) (t6 (rights_Test s1 s2 s3 s4 s5 s6 t1 t2 t3 t4 t5 t6 R1 R2 R3 R4 R5 R6 y))
    step6 y m j v g =
        let g1 : G = F.bind_pattern Note y.signal.0 y.pat (F.in_let m j v) g in
        then_ g g1 (y.handler.1 m j v g1) (At (F.in_let m j v)) (Block m v × At v) (Block m v × At v) (λ x. at_let m j v x.0 x.1) (λ x. x) (tested_done y.pat y.signal.0 m j v g) (y.handler.2 m j v g1)

    equation_done : (q : Equation Note) → R1 tt (F.walk_of Note first cases signal q)
    equation_done = related_equations s1 s2 s3 s4 s5 s6 t1 t2 t3 t4 t5 t6 R1 R2 R3 R4 R5 R6 step1 step2 step3 step4 step5 step6

    eqs_done : (qs : List (Equation Note)) (v : around_of.Where) (g : G) → Does g (F.walk_all Note (map (F.walk_of Note first cases signal) qs) v g) (At v)
    eqs_done [] v g = nothing_done g (At v)
    eqs_done (q ∷ qs) v g =
        then_ g (F.walk_of Note first cases signal q v g) (F.walk_all Note (map (F.walk_of Note first cases signal) qs) v (F.walk_of Note first cases signal q v g)) (At v) (At v) (At v) (λ a. a) (λ a. a)
        (equation_done q v g) (eqs_done qs v (F.walk_of Note first cases signal q v g))

    -- a whole body
    pub found_placed : (body : BodyOf Note) → Final (F.find Note first cases signal body) → Placed (F.find Note first cases signal body)
    found_placed body f =
        let g1 : G = F.walk_body Note first cases signal body.eqs F.at_top (F.nothing Note) in
        let a : At F.at_top = record { split = refl; homed = tt } in
        let h : Placed (F.nothing Note) = record { sited = λ k v e. absurd (cc); exprs = tt; sites = tt; starts = tt; vars = tt; names = tt } in
        placed_read body.result F.at_top g1 a ((eqs_done body.eqs F.at_top (F.nothing Note)).1 a (final_back g1 (F.find Note first cases signal body) (grown_read body.result [] g1) f) h)
