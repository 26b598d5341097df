-- One more turn of a loop over a list.
use Rattle.std.proofs.Common.{◌≡◌, ℕ, ◌+◌, ◌<◌, List, [], ◌∷◌, ◌++◌, map, take, drop, length, get_or, arith}
use Rattle.std.proofs.lemmas.Grind.{common_steps}

-- A loop that builds a list of what f, and then g, makes of each item.
pub built : {X Y Z : Type 0} (f : X → Y) (g : Y → Z) (xs : List X) (i : ℕ) (x : X) (done new : List Z) (z : Z)
    → i < length xs → get_or xs i x ≡ x → done ≡ map g (map f (take i xs)) → z ≡ g (f x) → new ≡ done ++ z ∷ [] → new ≡ map g (map f (take (i + 1) xs))
built f g xs i x done new z below is before one more = grind (arith, common_steps)

-- A loop that builds a list of what f makes of each item.
pub grown : {X Z : Type 0} (f : X → Z) (xs : List X) (i : ℕ) (x : X) (done new : List Z) (z : Z)
    → i < length xs → get_or xs i x ≡ x → done ≡ map f (take i xs) → z ≡ f x → new ≡ done ++ z ∷ [] → new ≡ map f (take (i + 1) xs)
grown f xs i x done new z below is before one more = grind (arith, common_steps)

-- A loop that goes on with the rest of a list.
pub rest : {X : Type 0} (xs : List X) (i : ℕ) (x : X) → i < length xs → get_or xs i x ≡ x → drop i xs ≡ x ∷ drop (i + 1) xs
rest xs i x below is = grind (arith, common_steps)
