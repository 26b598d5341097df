-- The cell of a row at a place that was looked up.
use Rattle.std.specs.Prelude.{◌≡◌, refl, ℕ, zero, suc, ◌<◌, ◌≤◌, List, [], ◌∷◌, Option, Some, None, length, slice_get}
use Rattle.std.proofs.Common.{◌∙◌, ap, sym, get_or}
use Rattle.std.proofs.lemmas.Option.{slice_get-get_or, slice_get_past}
use Rattle.kahn_model.specs.Table.{cell_in}

-- a cell that may be beyond the end
abbrev pub found : {A : Type 0} → Option (Option A) → Option A
found None = None
found (Some c) = c

pub cell_at : {A : Type 0} (cells : List (Option A)) (i : ℕ) → cell_in cells i ≡ found (slice_get cells i)
cell_at [] i = refl
cell_at (c ∷ cells) zero = refl
cell_at (c ∷ cells) (suc i) = cell_at cells i

pub cell_past : {A : Type 0} (cells : List (Option A)) (i : ℕ) → length cells ≤ i → None ≡ cell_in cells i
cell_past cells i h = sym (cell_at cells i ∙ ap found (slice_get_past cells i h))

pub cell_within : {A : Type 0} (cells : List (Option A)) (i : ℕ) (c : Option A) → i < length cells → c ≡ get_or cells i c → c ≡ cell_in cells i
cell_within cells i c h e = e ∙ sym (cell_at cells i ∙ ap found (slice_get-get_or cells i c h))
