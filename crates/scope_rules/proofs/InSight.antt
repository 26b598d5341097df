-- What names mean at a place is in sight there.
use Rattle.std.specs.Prelude.{◌≡◌, ℕ, suc, zero, ◌+◌, ◌<◌, ◌==◌, ◌&&◌, ◌||◌, Bool, true, false, List, [], ◌∷◌, ◌++◌, map, length, slice_get, Option, Some, None, is_some, if◌then◌else◌, refl}
use Rattle.std.proofs.Common.{ap, ap₂, sym, ◌∙◌, subst, arith}
use Rattle.std.proofs.lemmas.List.{length-map}
use Rattle.ls_ast.specs.declared.tree.Case.{Case}
use Rattle.ls_ast.specs.declared.tree.Expr.{Expr, Expr-F}
use Rattle.ls_ast.specs.declared.tree.Form.{Form}
use Rattle.ls_ast.specs.declared.tree.Form.TheOpen.{Form-F}
use Rattle.ls_sig.specs.declared.binder.Binder.{Binder}
use Rattle.ls_sig.specs.declared.binder.Binder.TheVariants as binder
use Rattle.ls_sig.specs.declared.binder.Use.{Use}
use Rattle.scope_rules.specs.Places.{Place, Site, holds}
use Rattle.scope_rules.specs.Claims.{Earlier, Known, uses, use_of, form_uses, expr_uses, joined_uses, branch_uses, option_uses}
use Rattle.scope_rules.specs.Faults.{Sight, place_from, place_where, place_of, seen_at, titles, binder_at, param_binder, def_binder, var_binder, case_place, case_binder, or_next}
use Rattle.scope_rules.specs.Resolved.{case_of}
use Rattle.scope_rules.specs.Laws.{Holding, Listed, InSight}
use Rattle.tree_notes.specs.Each.{Each}
use Rattle.tree_notes.proofs.Made.{each_both}
use Rattle.tree_notes.proofs.Related.{related, lefts, rights}

abbrev or_zero : Option ℕ → ℕ
or_zero (Some k) = k
or_zero None = 0

abbrev or_item : {A : Type 0} → A → Option A → A
or_item a (Some x) = x
or_item a None = a

and_parts : (a b : Bool) → a && b ≡ true → (a ≡ true) × (b ≡ true)
and_parts true b h = (refl, h)
and_parts false b h = absurd (cc)

-- what is found is there, and passes the test
pub record FoundAt {A : Type 0} (f : A → Bool) (xs : List A) (n : ℕ) : Type 0 where
  pub item : A
  pub is : slice_get xs n ≡ Some item
  pub passes : f item ≡ true

pub record FoundFrom {A : Type 0} (f : A → Bool) (xs : List A) (i k : ℕ) : Type 0 where
  pub place : ℕ
  pub at : k ≡ i + place
  pub there : FoundAt f xs place

found_case : {A : Type 0} (f : A → Bool) (x : A) (xs : List A) (i k : ℕ) (b : Bool) → f x ≡ b → (place_from f xs (suc i) ≡ Some k → FoundFrom f xs (suc i) k)
    → (if b then Some i else place_from f xs (suc i)) ≡ Some k → FoundFrom f (x ∷ xs) i k
found_case f x xs i k true is h e = let same : i ≡ k = ap or_zero e in record { place = 0; at = omega (arith, same); there = record { item = x; is = refl; passes = is } }
found_case f x xs i k false is h e =
    let r = h e in let at' = r.at in record { place = suc r.place; at = omega (arith, at'); there = record { item = r.there.item; is = r.there.is; passes = r.there.passes } }

found_from : {A : Type 0} (f : A → Bool) (xs : List A) (i k : ℕ) → place_from f xs i ≡ Some k → FoundFrom f xs i k
found_from f [] i k e = absurd (cc)
found_from f (x ∷ xs) i k e = found_case f x xs i k (f x) refl (found_from f xs (suc i) k) e

found_at : {A : Type 0} (f : A → Bool) (xs : List A) (k : ℕ) → place_where f xs ≡ Some k → FoundAt f xs k
found_at f xs k e = let r = found_from f xs 0 k e in let same : r.place ≡ k = (let at' = r.at in omega (arith, at')) in subst (FoundAt f xs) same r.there

there_below : {A : Type 0} (xs : List A) (n : ℕ) (x : A) → slice_get xs n ≡ Some x → n < length xs
there_below [] n x e = absurd (cc)
there_below (y ∷ xs) zero x e = omega arith
there_below (y ∷ xs) (suc n) x e = let h = there_below xs n x e in omega (arith, h)

-- binders

module _ (h : Sight) (enums : List (ℕ × List ℕ)) (p : Place) where
  def_in_sight : (x : ℕ) (o : Option ℕ) → place_of x (titles h.defs) ≡ o → InSight h enums p (def_binder o)
  def_in_sight x None e = tt
  def_in_sight x (Some k) e =
      let r = found_at (λ y. y == x) (titles h.defs) k e in
      let below = there_below (titles h.defs) k r.item r.is in
      let long = length-map h.defs (λ (d : Earlier). d.title) in
      omega (arith, below, long)

  param_in_sight : (x : ℕ) (o : Option ℕ) (b : Binder) → place_of x h.params ≡ o → InSight h enums p b → InSight h enums p (param_binder o b)
  param_in_sight x None b e i = i
  param_in_sight x (Some k) b e i = let r = found_at (λ y. y == x) h.params k e in there_below h.params k r.item r.is

  var_in_sight : (x : ℕ) (o : Option ℕ) (b : Binder) → place_where (seen_at x p) h.vars ≡ o → InSight h enums p b → InSight h enums p (var_binder o b)
  var_in_sight x None b e i = i
  var_in_sight x (Some k) b e i =
      let r = found_at (seen_at x p) h.vars k e in
      record { site = r.item; is = r.is; inside = (and_parts (r.item.var == x) (holds r.item.list p) r.passes).1 }

  pub binder_in_sight : (x : ℕ) → InSight h enums p (binder_at h p x)
  binder_in_sight x = var_in_sight x (place_where (seen_at x p) h.vars) _ refl (param_in_sight x (place_of x h.params) _ refl (def_in_sight x (place_of x (titles h.defs)) refl))

  -- constructors
  pub record CaseFrom (t : ℕ) (es : List (ℕ × List ℕ)) (c : ℕ × ℕ) : Type 0 where
    pub place : ℕ
    pub at : c.0 ≡ t + place
    pub there : Listed es place c.1

  case_case : (t : ℕ) (e : ℕ × List ℕ) (es : List (ℕ × List ℕ)) (c : ℕ × ℕ) (x : ℕ) (o : Option ℕ) → place_of x e.1 ≡ o → (case_place (suc t) es x ≡ Some c → CaseFrom (suc t) es c)
      → or_next t o (case_place (suc t) es x) ≡ Some c → CaseFrom t (e ∷ es) c
  case_case t e es c x (Some k) is r q =
      let same : (t, k) ≡ c = ap (or_item c) q in
      let f = found_at (λ y. y == x) e.1 k is in
      let low = there_below e.1 k f.item f.is in
      let first : t ≡ c.0 = ap (λ z. z.0) same in
      let second : k ≡ c.1 = ap (λ z. z.1) same in
      record { place = 0; at = omega (arith, first); there = record { enum = e; is = refl; below = omega (arith, low, second) } }
  case_case t e es c x None is r q = let f = r q in let at' = f.at in record { place = suc f.place; at = omega (arith, at'); there = record { enum = f.there.enum; is = f.there.is; below = f.there.below } }

  case_from : (t : ℕ) (es : List (ℕ × List ℕ)) (x : ℕ) (c : ℕ × ℕ) → case_place t es x ≡ Some c → CaseFrom t es c
  case_from t [] x c e = absurd (cc)
  case_from t (d ∷ es) x c e = case_case t d es c x (place_of x d.1) refl (case_from (suc t) es x c) e

  case_at : (x : ℕ) (o : Option (ℕ × ℕ)) → case_place 0 enums x ≡ o → InSight h enums p (case_binder o)
  case_at x None e = tt
  case_at x (Some c) e = let f = case_from 0 enums x c e in let same : f.place ≡ c.0 = (let at' = f.at in omega (arith, at')) in subst (λ t. Listed enums t c.1) same f.there

  pub case_in_sight : (x : ℕ) → InSight h enums p (case_binder (case_place 0 enums x))
  case_in_sight x = case_at x (case_place 0 enums x) refl

-- notes

module _ (N : Type 0) (h : Sight) (k : Known) (p : Place) where
  abbrev Seen : Use → Type 0
  Seen u = InSight h k.enums p u.bound

  abbrev Uses : Type 0
  Uses = List Use

  abbrev Nothing : Type 0
  Nothing = Unit {0}

  abbrev R : Uses → Nothing → Type 0
  R us x = Each Seen us

  abbrev s : Form-F N Uses Uses → Uses
  s = form_uses (binder_at h p) (case_of k)

  abbrev s' : Expr-F N Uses Uses → Uses
  s' = expr_uses (binder_at h p) (case_of k)

  abbrev t : Form-F N Nothing Nothing → Nothing
  t x = tt

  abbrev t' : Expr-F N Nothing Nothing → Nothing
  t' x = tt

  abbrev T : Type 0
  T = (a : Uses) × (b : Nothing) × R a b

  all_seen : (xs : List T) → Each Seen (joined_uses (map {A = T} {B = Uses} (λ x. x.0) xs))
  all_seen [] = tt
  all_seen (x ∷ xs) = each_both Seen x.0 (joined_uses (map {A = T} {B = Uses} (λ x. x.0) xs)) x.2 (all_seen xs)

  branches_seen : (xs : List (Case × T)) → Each Seen (branch_uses (map {A = Case × T} {B = Case × Uses} (λ x. (x.0, x.1.0)) xs))
  branches_seen [] = tt
  branches_seen (x ∷ xs) = each_both Seen x.1.0 (branch_uses (map {A = Case × T} {B = Case × Uses} (λ x. (x.0, x.1.0)) xs)) x.1.2 (branches_seen xs)

  step : (y : Form-F N T T) → R (s (lefts s s' t t' R R y)) (t (rights s s' t t' R R y))
  step (Form-F.Leaf l) = (tt, tt)
  step (Form-F.Case c) = (case_in_sight h k.enums p c.0, tt)
  step (Form-F.Var x) = (binder_in_sight h k.enums p x.0, tt)
  step (Form-F.Last x) = (binder_in_sight h k.enums p x.0, tt)
  step (Form-F.Asked x) = (binder_in_sight h k.enums p x.0, tt)
  step (Form-F.Op o args) = (tt, all_seen args)
  step (Form-F.Tuple all) = (tt, all_seen all)
  step (Form-F.Pre e) = (tt, e.2)
  step (Form-F.Fby a b) = (tt, each_both Seen a.0 b.0 a.2 b.2)
  step (Form-F.Init a b) = (tt, each_both Seen a.0 b.0 a.2 b.2)
  step (Form-F.When e x c) = (binder_in_sight h k.enums p x.0, e.2)
  step (Form-F.Merge x all) = (binder_in_sight h k.enums p x.0, branches_seen all)
  step (Form-F.Call run x args None) = (binder_in_sight h k.enums p x.0, each_both Seen (joined_uses (map {A = T} {B = Uses} (λ x. x.0) args)) [] (all_seen args) tt)
  step (Form-F.Call run x args (Some e)) = (binder_in_sight h k.enums p x.0, each_both Seen (joined_uses (map {A = T} {B = Uses} (λ x. x.0) args)) e.0 (all_seen args) e.2)

  pub uses_in_sight : (e : Expr N) → Each Seen (uses (binder_at h p) (case_of k) e)
  uses_in_sight = related s s' t t' R R step (λ n q. q.2)
