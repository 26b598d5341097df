-- What stands for the variables in a type is all that counts.
use Rattle.std.specs.Prelude.{◌≡◌, ℕ, List, [], ◌∷◌, ◌++◌, map, Option, unwrap_or, refl}
use Rattle.std.proofs.Common.{subst, ap, ap₂, sym, ◌∙◌}
use Rattle.ls_terms.specs.declared.types.TypeTerm.{TypeTerm, roll-TypeTerm, fold-roll-TypeTerm, ind-TypeTerm, map-TypeTerm}
use Rattle.ls_terms.specs.declared.types.TypeTerm.TheOpen.{TypeTerm-F}
use Rattle.ls_terms.specs.Types.{apply, apply_at}
use Rattle.tree_notes.specs.Each.{Each}
use Rattle.type_rules.specs.Schemes.{joined, vars_step, vars}

pub each_left : {X : Type 0} (P : X → Type 0) (xs ys : List X) → Each P (xs ++ ys) → Each P xs
each_left P [] ys a = tt
each_left P (x ∷ xs) ys a = (a.0, each_left P xs ys a.1)

pub each_right : {X : Type 0} (P : X → Type 0) (xs ys : List X) → Each P (xs ++ ys) → Each P ys
each_right P [] ys a = a
each_right P (x ∷ xs) ys a = each_right P xs ys a.1

pub each_both : {X : Type 0} (P : X → Type 0) (xs ys : List X) → Each P xs → Each P ys → Each P (xs ++ ys)
each_both P [] ys a b = b
each_both P (x ∷ xs) ys a b = (a.0, each_both P xs ys a.1 b)

module _ (f g : ℕ → Option TypeTerm) where
  abbrev Same : ℕ → Type 0
  Same x = f x ≡ g x

  abbrev Agree : TypeTerm → Type 0
  Agree t = Each Same (vars t) → apply f t ≡ apply g t

  abbrev With : Type 0
  With = (t : TypeTerm) × Agree t

  abbrev tops : TypeTerm-F With → TypeTerm-F TypeTerm
  tops = map-TypeTerm With TypeTerm (λ p. p.0)

  agree_all : (ps : List With) → Each Same (joined (map vars (map (λ p. p.0) ps))) → map (apply f) (map (λ p. p.0) ps) ≡ map (apply g) (map (λ p. p.0) ps)
  agree_all [] a = refl
  agree_all (p ∷ ps) a = ap₂ (λ t ts. t ∷ ts) (p.1 (each_left Same (vars p.0) _ a)) (agree_all ps (each_right Same (vars p.0) _ a))

  joined_end : (tss : List (List ℕ)) (ts : List ℕ) → Each Same (joined (tss ++ ts ∷ [])) → Each Same (joined tss) × Each Same ts
  joined_end [] ts a = (tt, each_left Same ts [] a)
  joined_end (us ∷ tss) ts a = let r = joined_end tss ts (each_right Same us _ a) in (each_both Same us (joined tss) (each_left Same us _ a) r.0, r.1)

  agree_layer : (y : TypeTerm-F With) → Each Same (vars_step (map-TypeTerm TypeTerm (List ℕ) vars (tops y)))
      → apply_at f (map-TypeTerm TypeTerm TypeTerm (apply f) (tops y)) ≡ apply_at g (map-TypeTerm TypeTerm TypeTerm (apply g) (tops y))
  agree_layer (TypeTerm-F.Var x) a = ap (λ o. unwrap_or o (roll-TypeTerm (TypeTerm-F.Var x))) a.0
  agree_layer (TypeTerm-F.Tuple ps) a = ap (λ ts. roll-TypeTerm (TypeTerm-F.Tuple ts)) (agree_all ps a)
  agree_layer (TypeTerm-F.Arrow k ps p) a = let r = joined_end (map vars (map (λ p. p.0) ps)) (vars p.0) a in
      ap₂ (λ ts t. roll-TypeTerm (TypeTerm-F.Arrow k ts t)) (agree_all ps r.0) (p.1 r.1)
  agree_layer (TypeTerm-F.Signal p) a = ap (λ t. roll-TypeTerm (TypeTerm-F.Signal t)) (p.1 (each_left Same (vars p.0) [] a))
  agree_layer _ a = refl

  at_layer : (x : TypeTerm-F TypeTerm) → (Each Same (vars_step (map-TypeTerm TypeTerm (List ℕ) vars x)) → apply_at f (map-TypeTerm TypeTerm TypeTerm (apply f) x) ≡ apply_at g (map-TypeTerm TypeTerm TypeTerm (apply g) x))
      → Agree (roll-TypeTerm x)
  at_layer x h a = fold-roll-TypeTerm TypeTerm (apply_at f) x ∙ h (subst (λ vs. Each Same vs) (fold-roll-TypeTerm (List ℕ) vars_step x) a) ∙ sym (fold-roll-TypeTerm TypeTerm (apply_at g) x)

  -- what stands for the variables in a type is all that counts
  pub agree : (t : TypeTerm) → Each Same (vars t) → apply f t ≡ apply g t
  agree = ind-TypeTerm Agree (λ x y from. subst (λ z. Agree (roll-TypeTerm z)) from (at_layer (tops y) (agree_layer y)))
