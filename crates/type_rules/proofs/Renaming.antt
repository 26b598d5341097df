-- Types that are instances of one another have the same signature.
use Rattle.std.specs.Prelude.{◌≡◌, refl, ℕ, suc, ◌+◌, ◌==◌, ◌⊎◌, Bool, true, false, List, [], ◌∷◌, ◌++◌, map, Option, Some, None, option_map, unwrap_or, if◌then◌else◌}
use Rattle.std.proofs.Common.{ap, ap₂, sym, ◌∙◌, subst, inl, inr}
use Rattle.std.proofs.lemmas.Bool.{eqb-true, eq-eqb}
use Rattle.ls_terms.specs.declared.types.TypeTerm.{TypeTerm, out-TypeTerm, roll-TypeTerm, fold-roll-TypeTerm, out-roll-TypeTerm, roll-out-TypeTerm, ind-TypeTerm, map-TypeTerm}
use Rattle.ls_terms.specs.declared.types.TypeTerm.TheOpen.{TypeTerm-F}
use Rattle.ls_terms.specs.declared.types.TypeTerm.TheVariants as t
use Rattle.ls_terms.specs.Types.{apply, apply_at, var_at}
use Rattle.type_rules.specs.Schemes.{joined, vars, vars_step, put}
use Rattle.type_rules.proofs.Agreeing.{agree, each_left, each_right, each_both}
use Rattle.tree_notes.specs.Each.{Each}
use Rattle.type_rules.proofs.Instances.{twice, fixed}
use Rattle.type_rules.proofs.Solving.{at_var}
use Rattle.type_rules.specs.Bodies.{index_of}
use Rattle.type_rules.specs.Files.{contains, firsts_after, appearing, renumbered}

-- the number of a variable
abbrev number_at : TypeTerm-F TypeTerm → ℕ
number_at (TypeTerm-F.Var x) = x
number_at _ = 0

abbrev number_of : TypeTerm → ℕ
number_of u = number_at (out-TypeTerm u)

var_number : (x : ℕ) → number_of (t.Var x) ≡ x
var_number x = ap number_at (t.outs-Var x)

-- what a substitution makes a variable of is a variable
module _ (τ : ℕ → TypeTerm) where
  abbrev by : ℕ → Option TypeTerm
  by x = Some (τ x)

  var_layer : (y : TypeTerm-F TypeTerm) (x : ℕ) → apply_at by (map-TypeTerm TypeTerm TypeTerm (put τ) y) ≡ roll-TypeTerm (TypeTerm-F.Var x) → roll-TypeTerm y ≡ t.Var (number_at y)
  var_layer (TypeTerm-F.Var z) x e = t.rolls-Var z
  var_layer (TypeTerm-F.Tuple ts) x e = absurd (not_var (TypeTerm-F.Tuple (map (put τ) ts)) x refl e)
    where
      not_var : (w : TypeTerm-F TypeTerm) (x : ℕ) → var_at w ≡ None → roll-TypeTerm w ≡ roll-TypeTerm (TypeTerm-F.Var x) → ⊥
      not_var w x n e = let f = sym (ap var_at (out-roll-TypeTerm w)) ∙ ap (λ z. var_at (out-TypeTerm z)) e ∙ ap var_at (out-roll-TypeTerm (TypeTerm-F.Var x)) in cc
  var_layer (TypeTerm-F.Arrow k ts u) x e = absurd (let f = sym (ap var_at (out-roll-TypeTerm (TypeTerm-F.Arrow k (map (put τ) ts) (put τ u)))) ∙ ap (λ z. var_at (out-TypeTerm z)) e ∙ ap var_at (out-roll-TypeTerm (TypeTerm-F.Var x)) in cc)
  var_layer (TypeTerm-F.Signal u) x e = absurd (let f = sym (ap var_at (out-roll-TypeTerm (TypeTerm-F.Signal (put τ u)))) ∙ ap (λ z. var_at (out-TypeTerm z)) e ∙ ap var_at (out-roll-TypeTerm (TypeTerm-F.Var x)) in cc)
  var_layer (TypeTerm-F.Enum k) x e = absurd (let f = sym (ap var_at (out-roll-TypeTerm (TypeTerm-F.Enum k))) ∙ ap (λ z. var_at (out-TypeTerm z)) e ∙ ap var_at (out-roll-TypeTerm (TypeTerm-F.Var x)) in cc)
  var_layer TypeTerm-F.Int x e = absurd (let f = sym (ap var_at (out-roll-TypeTerm TypeTerm-F.Int)) ∙ ap (λ z. var_at (out-TypeTerm z)) e ∙ ap var_at (out-roll-TypeTerm (TypeTerm-F.Var x)) in cc)
  var_layer TypeTerm-F.Bool x e = absurd (let f = sym (ap var_at (out-roll-TypeTerm TypeTerm-F.Bool)) ∙ ap (λ z. var_at (out-TypeTerm z)) e ∙ ap var_at (out-roll-TypeTerm (TypeTerm-F.Var x)) in cc)
  var_layer TypeTerm-F.Char x e = absurd (let f = sym (ap var_at (out-roll-TypeTerm TypeTerm-F.Char)) ∙ ap (λ z. var_at (out-TypeTerm z)) e ∙ ap var_at (out-roll-TypeTerm (TypeTerm-F.Var x)) in cc)
  var_layer TypeTerm-F.Text x e = absurd (let f = sym (ap var_at (out-roll-TypeTerm TypeTerm-F.Text)) ∙ ap (λ z. var_at (out-TypeTerm z)) e ∙ ap var_at (out-roll-TypeTerm (TypeTerm-F.Var x)) in cc)
  var_layer TypeTerm-F.Unit x e = absurd (let f = sym (ap var_at (out-roll-TypeTerm TypeTerm-F.Unit)) ∙ ap (λ z. var_at (out-TypeTerm z)) e ∙ ap var_at (out-roll-TypeTerm (TypeTerm-F.Var x)) in cc)

  made_variable : (u : TypeTerm) (x : ℕ) → put τ u ≡ roll-TypeTerm (TypeTerm-F.Var x) → u ≡ t.Var (number_of u)
  made_variable u x e = sym (roll-out-TypeTerm u) ∙ var_layer (out-TypeTerm u) x (sym (fold-roll-TypeTerm TypeTerm (apply_at by) (out-TypeTerm u)) ∙ ap (put τ) (roll-out-TypeTerm u) ∙ e)

-- ---- a substitution of variables that can be taken back

module _ (σ : ℕ → TypeTerm) where
  abbrev ρ : ℕ → ℕ
  ρ x = number_of (σ x)

  abbrev Renamed : ℕ → Type 0
  Renamed x = σ x ≡ t.Var (ρ x)

  abbrev Moved : TypeTerm → Type 0
  Moved u = Each Renamed (vars u) → vars (put σ u) ≡ map ρ (vars u)

  abbrev WithMoved : Type 0
  WithMoved = (u : TypeTerm) × Moved u

  abbrev tops : TypeTerm-F WithMoved → TypeTerm-F TypeTerm
  tops = map-TypeTerm WithMoved TypeTerm (λ p. p.0)

  map_append : (xs ys : List ℕ) → map ρ (xs ++ ys) ≡ map ρ xs ++ map ρ ys
  map_append [] ys = refl
  map_append (x ∷ xs) ys = ap (λ zs. ρ x ∷ zs) (map_append xs ys)

  moved_all : (ps : List WithMoved) → Each Renamed (joined (map vars (map (λ p. p.0) ps))) → joined (map vars (map (put σ) (map (λ p. p.0) ps))) ≡ map ρ (joined (map vars (map (λ p. p.0) ps)))
  moved_all [] a = refl
  moved_all (p ∷ ps) a =
      ap₂ (λ xs ys. xs ++ ys) (p.1 (each_left Renamed (vars p.0) _ a)) (moved_all ps (each_right Renamed (vars p.0) _ a))
      ∙ sym (map_append (vars p.0) (joined (map vars (map (λ p. p.0) ps))))

  map_end : (us : List TypeTerm) (u : TypeTerm) → joined (map vars (us ++ u ∷ [])) ≡ joined (map vars us ++ vars u ∷ [])
  map_end [] u = refl
  map_end (w ∷ us) u = ap (λ zs. vars w ++ zs) (map_end us u)

  joined_end : (xss : List (List ℕ)) (xs : List ℕ) → joined (xss ++ xs ∷ []) ≡ joined xss ++ xs
  joined_end [] [] = refl
  joined_end [] (x ∷ xs) = ap (λ zs. x ∷ zs) (joined_end [] xs)
  joined_end (ys ∷ xss) xs = ap (λ zs. ys ++ zs) (joined_end xss xs) ∙ grouped ys (joined xss) xs
    where
      grouped : (as' bs cs : List ℕ) → as' ++ (bs ++ cs) ≡ (as' ++ bs) ++ cs
      grouped [] bs cs = refl
      grouped (a ∷ as') bs cs = ap (λ zs. a ∷ zs) (grouped as' bs cs)

  empty : (xs : List ℕ) → xs ++ [] ≡ xs
  empty [] = refl
  empty (x ∷ xs) = ap (λ zs. x ∷ zs) (empty xs)

  vars_roll : (x : TypeTerm-F TypeTerm) → vars (roll-TypeTerm x) ≡ vars_step (map-TypeTerm TypeTerm (List ℕ) vars x)
  vars_roll x = fold-roll-TypeTerm (List ℕ) vars_step x

  moved_layer : (y : TypeTerm-F WithMoved) → Each Renamed (vars_step (map-TypeTerm TypeTerm (List ℕ) vars (tops y)))
      → vars (apply_at (λ x. Some (σ x)) (map-TypeTerm TypeTerm TypeTerm (put σ) (tops y))) ≡ map ρ (vars_step (map-TypeTerm TypeTerm (List ℕ) vars (tops y)))
  moved_layer (TypeTerm-F.Var x) a = ap vars (a.0 ∙ sym (t.rolls-Var (ρ x))) ∙ vars_roll (TypeTerm-F.Var (ρ x))
  moved_layer (TypeTerm-F.Tuple ps) a = vars_roll (TypeTerm-F.Tuple (map (put σ) (map (λ p. p.0) ps))) ∙ moved_all ps a
  moved_layer (TypeTerm-F.Arrow k ps p) a =
      let us = map {A = WithMoved} {B = TypeTerm} (λ p. p.0) ps in
      let b = subst (λ zs. Each Renamed zs) (joined_end (map vars us) (vars p.0)) a in
      vars_roll (TypeTerm-F.Arrow k (map (put σ) us) (put σ p.0)) ∙ joined_end (map vars (map (put σ) us)) (vars (put σ p.0))
      ∙ ap₂ (λ xs ys. xs ++ ys) (moved_all ps (each_left Renamed (joined (map vars us)) (vars p.0) b)) (p.1 (each_right Renamed (joined (map vars us)) (vars p.0) b))
      ∙ sym (map_append (joined (map vars us)) (vars p.0)) ∙ sym (ap (map ρ) (joined_end (map vars us) (vars p.0)))
  moved_layer (TypeTerm-F.Signal p) a =
      let b = subst (λ zs. Each Renamed zs) (empty (vars p.0)) a in
      vars_roll (TypeTerm-F.Signal (put σ p.0)) ∙ empty (vars (put σ p.0)) ∙ p.1 b ∙ sym (ap (map ρ) (empty (vars p.0)))
  moved_layer TypeTerm-F.Int a = vars_roll TypeTerm-F.Int
  moved_layer TypeTerm-F.Bool a = vars_roll TypeTerm-F.Bool
  moved_layer TypeTerm-F.Char a = vars_roll TypeTerm-F.Char
  moved_layer TypeTerm-F.Text a = vars_roll TypeTerm-F.Text
  moved_layer TypeTerm-F.Unit a = vars_roll TypeTerm-F.Unit
  moved_layer (TypeTerm-F.Enum k) a = vars_roll (TypeTerm-F.Enum k)

  moved : (u : TypeTerm) → Moved u
  moved = ind-TypeTerm Moved (λ x y from. subst (λ z. Moved (roll-TypeTerm z)) from (λ a.
      ap vars (fold-roll-TypeTerm TypeTerm (apply_at (λ x. Some (σ x))) (tops y))
      ∙ moved_layer y (subst (λ zs. Each Renamed zs) (vars_roll (tops y)) a) ∙ sym (ap (map ρ) (vars_roll (tops y)))))

  moved_types : (us : List TypeTerm) → Each Renamed (joined (map vars us)) → joined (map vars (map (put σ) us)) ≡ map ρ (joined (map vars us))
  moved_types [] a = refl
  moved_types (u ∷ us) a =
      ap₂ (λ xs ys. xs ++ ys) (moved u (each_left Renamed (vars u) _ a)) (moved_types us (each_right Renamed (vars u) _ a))
      ∙ sym (map_append (vars u) (joined (map vars us)))

  -- ---- numbers of which each can be taken back

  module _ (back : ℕ → ℕ) where
    abbrev Back : ℕ → Type 0
    Back x = back (ρ x) ≡ x

    same_test : (y x : ℕ) → Back y → Back x → (ρ y == ρ x) ≡ (y == x)
    same_test y x p q = go (y == x) refl (ρ y == ρ x) refl
      where
        go : (a : Bool) → (y == x) ≡ a → (c : Bool) → (ρ y == ρ x) ≡ c → c ≡ a
        go true e true f = refl
        go false e false f = refl
        go true e false f = let g : y ≡ x = eqb-true y x e in let h = eq-eqb (ρ y) (ρ x) (ap ρ g) in absurd (cc)
        go false e true f = let g : ρ y ≡ ρ x = eqb-true (ρ y) (ρ x) f in let h = eq-eqb y x (sym p ∙ ap back g ∙ q) in absurd (cc)

    same_contains : (x : ℕ) (ys : List ℕ) → Back x → Each Back ys → contains (ρ x) (map ρ ys) ≡ contains x ys
    same_contains x [] p a = refl
    same_contains x (y ∷ ys) p a = ap₂ (λ c d. if c then true else d) (same_test y x a.0 p) (same_contains x ys p a.1)

    same_firsts : (seen xs : List ℕ) → Each Back seen → Each Back xs → firsts_after (map ρ seen) (map ρ xs) ≡ map ρ (firsts_after seen xs)
    same_firsts seen [] s a = refl
    same_firsts seen (x ∷ xs) s a =
        ap (λ c. if c then firsts_after (map ρ seen) (map ρ xs) else ρ x ∷ firsts_after (ρ x ∷ map ρ seen) (map ρ xs)) (same_contains x seen a.0 s)
        ∙ ap₂ (λ us ws. if contains x seen then us else ρ x ∷ ws) (same_firsts seen xs s a.1) (same_firsts (x ∷ seen) xs (a.0, s) a.1)
        ∙ out (contains x seen)
      where
        out : (c : Bool) → (if c then map ρ (firsts_after seen xs) else ρ x ∷ map ρ (firsts_after (x ∷ seen) xs)) ≡ map ρ (if c then firsts_after seen xs else x ∷ firsts_after (x ∷ seen) xs)
        out true = refl
        out false = refl

    same_index : (x : ℕ) (ys : List ℕ) (k : ℕ) → Back x → Each Back ys → index_of (ρ x) (map ρ ys) k ≡ index_of x ys k
    same_index x [] k p a = refl
    same_index x (y ∷ ys) k p a = ap₂ (λ c o. if c then Some k else o) (same_test y x a.0 p) (same_index x ys (suc k) p a.1)

-- ---- first appearances

firsts_pick : (P : ℕ → Type 0) (c : Bool) (x : ℕ) (us ws : List ℕ) → P x → Each P us → Each P ws → Each P (if c then us else x ∷ ws)
firsts_pick P true x us ws p a b = a
firsts_pick P false x us ws p a b = (p, b)

each_firsts : (P : ℕ → Type 0) (seen xs : List ℕ) → Each P xs → Each P (firsts_after seen xs)
each_firsts P seen [] a = tt
each_firsts P seen (x ∷ xs) a = firsts_pick P (contains x seen) x (firsts_after seen xs) (firsts_after (x ∷ seen) xs) a.0 (each_firsts P seen xs a.1) (each_firsts P (x ∷ seen) xs a.1)

abbrev IsSeen : List ℕ → List ℕ → ℕ → Type 0
IsSeen seen order x = (contains x seen ≡ true) ⊎ (contains x order ≡ true)

later : (x : ℕ) (seen order xs : List ℕ) → Each (IsSeen (x ∷ seen) order) xs → Each (IsSeen seen (x ∷ order)) xs
later x seen order [] a = tt
later x seen order (y ∷ ys) a = (one (x == y) refl a.0, later x seen order ys a.1)
  where
    one : (c : Bool) → (x == y) ≡ c → IsSeen (x ∷ seen) order y → IsSeen seen (x ∷ order) y
    one true e s = inr (ap (λ c. if c then true else contains y order) e)
    one false e (inl s) = inl (sym (ap (λ c. if c then true else contains y seen) e) ∙ s)
    one false e (inr s) = inr (ap (λ c. if c then true else contains y order) e ∙ s)

seen_pick : (c : Bool) (seen : List ℕ) (x : ℕ) (us ws xs : List ℕ) → contains x seen ≡ c → Each (IsSeen seen us) xs → Each (IsSeen (x ∷ seen) ws) xs → Each (IsSeen seen (if c then us else x ∷ ws)) (x ∷ xs)
seen_pick true seen x us ws xs e a b = (inl e, a)
seen_pick false seen x us ws xs e a b = (inr (ap (λ c. if c then true else contains x ws) (eq-eqb x x refl)), later x seen ws xs b)

all_seen : (seen xs : List ℕ) → Each (IsSeen seen (firsts_after seen xs)) xs
all_seen seen [] = tt
all_seen seen (x ∷ xs) = seen_pick (contains x seen) seen x (firsts_after seen xs) (firsts_after (x ∷ seen) xs) xs refl (all_seen seen xs) (all_seen (x ∷ seen) xs)

index_pick : (c : Bool) (k : ℕ) (o : Option ℕ) (d : Bool) → (if c then true else d) ≡ true → (d ≡ true → (j : ℕ) × (o ≡ Some j)) → (j : ℕ) × ((if c then Some k else o) ≡ Some j)
index_pick true k o d e h = (k, refl)
index_pick false k o d e h = h e

has_index : (x : ℕ) (ys : List ℕ) (k : ℕ) → contains x ys ≡ true → (j : ℕ) × (index_of x ys k ≡ Some j)
has_index x [] k e = absurd (cc)
has_index x (y ∷ ys) k e = index_pick (y == x) k (index_of x ys (suc k)) (contains x ys) e (λ h. has_index x ys (suc k) h)

-- ---- two lists of types that are instances of one another

module _ (σ τ : ℕ → TypeTerm) where
  abbrev InOrder : List ℕ → ℕ → Type 0
  InOrder order x = (j : ℕ) × (index_of x order 0 ≡ Some j)

  abbrev back : ℕ → ℕ
  back y = number_of (τ y)

  abbrev IsKept : ℕ → Type 0
  IsKept x = put τ (σ x) ≡ roll-TypeTerm (TypeTerm-F.Var x)

  renamed_of : (x : ℕ) → IsKept x → Renamed σ x
  renamed_of x e = made_variable τ (σ x) x e

  back_of : (x : ℕ) → IsKept x → Back σ back x
  back_of x e =
      let f : τ (ρ σ x) ≡ t.Var x = sym (at_var (λ y. Some (τ y)) (ρ σ x)) ∙ ap (put τ) (sym (renamed_of x e)) ∙ e ∙ t.rolls-Var x in
      ap number_of f ∙ var_number x

  each_of : (P Q : ℕ → Type 0) (xs : List ℕ) → ((x : ℕ) → P x → Q x) → Each P xs → Each Q xs
  each_of P Q [] h a = tt
  each_of P Q (x ∷ xs) h a = (h x a.0, each_of P Q xs h a.1)

  kept_types : (us : List TypeTerm) → map (put τ) (map (put σ) us) ≡ us → Each IsKept (joined (map vars us))
  kept_types [] e = tt
  kept_types (u ∷ us) e =
      let h : put τ (put σ u) ≡ u = cc in
      let r : map (put τ) (map (put σ) us) ≡ us = cc in
      each_both IsKept (vars u) (joined (map vars us))
      (fixed (λ x. Some (put τ (σ x))) u (sym (twice (λ y. Some (τ y)) σ u) ∙ h))
      (kept_types us r)

  module _ (order : List ℕ) (known : Each (Back σ back) order) where
    abbrev s : ℕ → Option TypeTerm
    s x = option_map (λ k. t.Var (0 + k)) (index_of x order 0)

    abbrev s' : ℕ → Option TypeTerm
    s' x = option_map (λ k. t.Var (0 + k)) (index_of x (map (ρ σ) order) 0)

    abbrev Ready : ℕ → Type 0
    Ready x = IsKept x × InOrder order x

    same_value : (x : ℕ) → Ready x → Some (apply s' (σ x)) ≡ s x
    same_value x r =
        let i = same_index σ back x order 0 (back_of x r.0) known ∙ r.1.1 in
        ap (λ z. Some (apply s' z)) (renamed_of x r.0)
        ∙ ap Some (at_var s' (ρ σ x) ∙ ap (λ o. unwrap_or (option_map (λ k. t.Var (0 + k)) o) (roll-TypeTerm (TypeTerm-F.Var (ρ σ x)))) i)
        ∙ sym (ap (option_map (λ k. t.Var (0 + k))) r.1.1)

    same_term : (u : TypeTerm) → Each Ready (vars u) → renumbered 0 (map (ρ σ) order) (put σ u) ≡ renumbered 0 order u
    same_term u a = twice s' σ u ∙ agree (λ x. Some (apply s' (σ x))) s u (each_of Ready (λ x. Some (apply s' (σ x)) ≡ s x) (vars u) same_value a)

    same_terms : (us : List TypeTerm) → Each Ready (joined (map vars us)) → map (renumbered 0 (map (ρ σ) order)) (map (put σ) us) ≡ map (renumbered 0 order) us
    same_terms [] a = refl
    same_terms (u ∷ us) a = ap₂ (λ x xs. x ∷ xs) (same_term u (each_left Ready (vars u) _ a)) (same_terms us (each_right Ready (vars u) _ a))

  each_pair : (P Q : ℕ → Type 0) (xs : List ℕ) → Each P xs → Each Q xs → Each (λ x. P x × Q x) xs
  each_pair P Q [] a c = tt
  each_pair P Q (x ∷ xs) a c = ((a.0, c.0), each_pair P Q xs a.1 c.1)

  seen_index : (order : List ℕ) (x : ℕ) → IsSeen [] order x → InOrder order x
  seen_index order x (inl e) = absurd (cc)
  seen_index order x (inr e) = has_index x order 0 e

  -- so they have the same types when their variables are numbered by first appearance
  pub same_numbered : (us : List TypeTerm) → map (put τ) (map (put σ) us) ≡ us
      → map (renumbered 0 (appearing (map (put σ) us))) (map (put σ) us) ≡ map (renumbered 0 (appearing us)) us
  same_numbered us e =
      let xs = joined (map vars us) in
      let kept = kept_types us e in
      let renamed = each_of IsKept (Renamed σ) xs renamed_of kept in
      let known = each_of IsKept (Back σ back) xs back_of kept in
      let order = firsts_after [] xs in
      let names : appearing (map (put σ) us) ≡ map (ρ σ) order = ap (firsts_after []) (moved_types σ us renamed) ∙ same_firsts σ back [] xs tt known in
      ap (λ o. map (renumbered 0 o) (map (put σ) us)) names
      ∙ same_terms order (each_firsts (Back σ back) [] xs known) us
      (each_pair IsKept (InOrder order) xs kept (each_of (IsSeen [] order) (InOrder order) xs (seen_index order) (all_seen [] xs)))
