-- What answers calls.
use Rattle.std.specs.Prelude.{◌≡◌, ℕ, List, Option, Result, IfOk}
use Rattle.ls_base.specs.declared.NoMemory.{NoMemory}
use Rattle.kahn_model.specs.declared.cell.Cell.{Cell}
use Rattle.kahn_model.specs.Functions.{Meaning}
use Rattle.kahn_model.specs.Table.{written_row}
use Rattle.kahn_exprs.specs.declared.body.Body.{Body}
use Rattle.kahn_exprs.specs.declared.context.Context.{Context}
use Rattle.kahn_exprs.specs.Context.{around_of}

-- an answer is the row of a meaning on n lines
abbrev pub Answers : ℕ → Meaning → (ℕ → Context → Result (List (Option Cell)) NoMemory → Type 0) → Type 0
Answers n m answers = (k : ℕ) (c : Context) (r : Result (List (Option Cell)) NoMemory) → answers k c r → IfOk r (λ v. v ≡ written_row n 0 (m k (around_of c)))

-- what serves each body with these definitions, on these lines and with this call depth
abbrev pub Serves : (Body → Type 0) → Body → Type 0
Serves can b = (c : Body) → c.file.now ≡ b.file.now → c.defs.now ≡ b.defs.now → c.lines ≡ b.lines → c.depth ≡ b.depth → can c
