-- The enumerations of a file, one definition after the other.
use Rattle.std.specs.Prelude.{◌≡◌, ℕ, ◌+◌, ◌<◌, List, [], ◌∷◌, ◌++◌, length, refl}
use Rattle.std.proofs.Common.{ap, sym, ◌∙◌, drop, get_or, append_assoc}
use Rattle.ls_base.proofs.Built.{rest}
use Rattle.ls_base.specs.declared.Name.{Name}
use Rattle.ls_ast.specs.declared.tree.DefOf.{DefOf}
use Rattle.accepted_rules.specs.Enums.{enum_names, enum_constructors}

module _ {N A : Type 0} (told : List (DefOf N) → List A) (one : (x : DefOf N) (xs : List (DefOf N)) → told (x ∷ xs) ≡ told (x ∷ []) ++ told xs) where
  told_turn : (all : List (DefOf N)) (i : ℕ) (x : DefOf N) (old new whole : List A) → i < length all → get_or all i x ≡ x
      → new ≡ old ++ told (x ∷ []) → old ++ told (drop i all) ≡ whole → new ++ told (drop (i + 1) all) ≡ whole
  told_turn all i x old new whole below is more h =
      ap (λ l. l ++ told (drop (i + 1) all)) more ∙ append_assoc old (told (x ∷ [])) (told (drop (i + 1) all))
      ∙ ap (λ l. old ++ l) (sym (one x (drop (i + 1) all))) ∙ ap (λ l. old ++ told l) (sym (rest all i x below is)) ∙ h

module _ {N : Type 0} where
  enum_one : (x : DefOf N) (xs : List (DefOf N)) → enum_names (x ∷ xs) ≡ enum_names (x ∷ []) ++ enum_names xs
  enum_one (DefOf.Cases line name cases) xs = refl
  enum_one (DefOf.Let line node name params marks notes body) xs = refl

  constructors_one : (x : DefOf N) (xs : List (DefOf N)) → enum_constructors (x ∷ xs) ≡ enum_constructors (x ∷ []) ++ enum_constructors xs
  constructors_one (DefOf.Cases line name cases) xs = refl
  constructors_one (DefOf.Let line node name params marks notes body) xs = refl

  pub enum_turn : (all : List (DefOf N)) (i : ℕ) (x : DefOf N) (old new whole : List Name) → i < length all → get_or all i x ≡ x
      → new ≡ old ++ enum_names (x ∷ []) → old ++ enum_names (drop i all) ≡ whole → new ++ enum_names (drop (i + 1) all) ≡ whole
  enum_turn = told_turn enum_names enum_one

  pub constructors_turn : (all : List (DefOf N)) (i : ℕ) (x : DefOf N) (old new whole : List (List Name)) → i < length all → get_or all i x ≡ x
      → new ≡ old ++ enum_constructors (x ∷ []) → old ++ enum_constructors (drop i all) ≡ whole → new ++ enum_constructors (drop (i + 1) all) ≡ whole
  constructors_turn = told_turn enum_constructors constructors_one
