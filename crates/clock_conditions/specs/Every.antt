-- What is tested of each item of a list, and of sizes.
use Rattle.std.specs.Prelude.{ℕ, ◌-◌, ◌&&◌, Bool, true, List, [], ◌∷◌, Option, Some, None, if◌then◌else◌, nat_le}

abbrev pub every : {A : Type 0} → (A → Bool) → List A → Bool
every p [] = true
every p (x ∷ xs) = p x && every p xs

-- of so many what is left after n, if there are as many
abbrev pub left_after : ℕ → ℕ → Option ℕ
left_after many n = if nat_le n many then Some (many - n) else None
