-- What later definitions see of earlier ones stands on the resolved tree.
use Rattle.std.specs.Prelude.{◌≡◌, ℕ, List, [], ◌∷◌, ◌++◌, map, refl}
use Rattle.std.proofs.Common.{ap, sym, ◌∙◌, append_assoc}
use Rattle.ls_ast.specs.declared.tree.DefOf.{DefOf}
use Rattle.scope_rules.specs.Claims.{Earlier, Known}
use Rattle.scope_rules.specs.File.{known_after, known_after_all, name_numbers}
use Rattle.scope_rules.specs.Resolved.{resolved_def, resolved_defs}
use Rattle.scope_rules.specs.Laws.{Headed, head_of, heads, enums_of}

end_nil : {A : Type 0} (xs : List A) → xs ≡ xs ++ []
end_nil [] = refl
end_nil (x ∷ xs) = ap (λ z. x ∷ z) (end_nil xs)

map_end : {A B : Type 0} (f : A → B) (xs : List A) (x : A) → map f (xs ++ x ∷ []) ≡ map f xs ++ f x ∷ []
map_end f [] x = refl
map_end f (y ∷ xs) x = ap (λ z. f y ∷ z) (map_end f xs x)

one_more : {A : Type 0} (xs : List A) (x : A) (ys : List A) → (xs ++ x ∷ []) ++ ys ≡ xs ++ (x ∷ ys)
one_more xs x ys = append_assoc xs (x ∷ []) ys

module _ {N : Type 0} (names : List (List ℕ)) where
  pub heads_on_tree : (k : Known) (ds : List (DefOf N)) → map head_of (known_after_all names k ds).defs ≡ map head_of k.defs ++ heads (resolved_defs names k ds)
  heads_on_tree k [] = end_nil (map head_of k.defs)
  heads_on_tree k (DefOf.Cases line t cs ∷ ds) = heads_on_tree (known_after {N = N} names k (DefOf.Cases line t cs)) ds
  heads_on_tree k (DefOf.Let line node f params ms ns body ∷ ds) =
      heads_on_tree (known_after {N = N} names k (DefOf.Let line node f params ms ns body)) ds
      ∙ ap (λ z. z ++ heads (resolved_defs names (known_after {N = N} names k (DefOf.Let line node f params ms ns body)) ds)) (map_end head_of k.defs _)
      ∙ one_more (map head_of k.defs) _ (heads (resolved_defs names (known_after {N = N} names k (DefOf.Let line node f params ms ns body)) ds))

  pub enums_on_tree : (k : Known) (ds : List (DefOf N)) → (known_after_all names k ds).enums ≡ k.enums ++ enums_of (resolved_defs names k ds)
  enums_on_tree k [] = end_nil k.enums
  enums_on_tree k (DefOf.Cases line t cs ∷ ds) =
      enums_on_tree (known_after {N = N} names k (DefOf.Cases line t cs)) ds
      ∙ one_more k.enums (t.0, name_numbers cs) (enums_of (resolved_defs names (known_after {N = N} names k (DefOf.Cases line t cs)) ds))
  enums_on_tree k (DefOf.Let line node f params ms ns body ∷ ds) = enums_on_tree (known_after {N = N} names k (DefOf.Let line node f params ms ns body)) ds
