-- A text that is written unless a write failed before.
use Rattle.std.specs.Prelude.{◌≡◌, ℕ, ◌≤◌, Bool, true, false, List, ◌++◌, Option}
use Rattle.std.specs.Option.{option_map}
use Rattle.ls_base.specs.Outside.{Rose, WritesFront}

-- `ok` says that no write failed before, `done` that none failed up to now; `before` and `after` count faults
pub record Prints (ok done : Bool) (old new : Option (List ℕ)) (before after : ℕ) (text : List ℕ) : Type 0 where
  pub whole : done ≡ true → (ok ≡ true) × (new ≡ option_map (λ t. t ++ text) old)
  pub front : ok ≡ true → WritesFront old text new
  pub none : ok ≡ false → (new ≡ old) × (done ≡ false)
  pub rose : ok ≡ true → done ≡ false → Rose before after
  pub counted : before ≤ after
