-- Two lists that are walked side by side, where the second ends first.
use Rattle.std.specs.Prelude.{◌≡◌, refl, ℕ, ◌<◌, List, [], ◌∷◌, length, Option, Some, None}
use Rattle.std.proofs.Common.{arith, ap, ◌∙◌}
use Rattle.ls_ast.specs.declared.tree.Case.{Case}
use Rattle.ls_ast.specs.declared.tree.Expr.{Expr}
use Rattle.ls_ast.specs.declared.tree.Pat.{Pat}
use Rattle.ls_sig.specs.declared.binder.Note.{Note}
use Rattle.ls_terms.specs.declared.clocks.ClockTerm.{ClockTerm}
use Rattle.ls_places.specs.Search.{param_clock}
use Rattle.kahn_model.specs.declared.cell.Cell.{Cell}
use Rattle.kahn_model.specs.declared.cell.Cell.TheVariants.{Absent}
use Rattle.kahn_model.specs.Functions.{Arg, param_in, row_of}
use Rattle.kahn_exprs.specs.declared.body.Body.{Body}
use Rattle.kahn_exprs.specs.declared.context.Argument.{Argument}
use Rattle.kahn_exprs.specs.Context.{args_of}
use Rattle.kahn_exprs.specs.Rules as rules
use Rattle.kahn_exprs.specs.Streams.{absent, param}

no_branch : (b : Body) (k : ℕ) (choices : List (Case × Expr Note)) (i : ℕ) → Some Absent ≡ rules.branch b k choices [] i
no_branch b k [] i = refl
no_branch b k (c ∷ choices) i = refl

pub branch_ended : (b : Body) (k : ℕ) (choices : List (Case × Expr Note)) (rest : List rules.Cells) (i : ℕ) (whole : Option Cell) → length rest < 1
    → rules.branch b k choices rest i ≡ whole → Some Absent ≡ whole
branch_ended b k choices [] i whole l e = no_branch b k choices i ∙ e
branch_ended b k choices (r ∷ rest) i whole l e = absurd (omega (arith, l))

no_param : (n x : ℕ) (ps : List Pat) → absent n ≡ param n x ps []
no_param n x [] = refl
no_param n x (p ∷ ps) = refl

pub param_ended : (n x : ℕ) (ps : List Pat) (rest : List Argument) (whole : Arg) → length rest < 1 → param n x ps rest ≡ whole → absent n ≡ whole
param_ended n x ps [] whole l e = no_param n x ps ∙ e
param_ended n x ps (g ∷ rest) whole l e = absurd (omega (arith, l))

no_param_cell : (x : ℕ) (ps : List Pat) (i : ℕ) → Some Absent ≡ row_of (param_in x ps []) i
no_param_cell x [] i = refl
no_param_cell x (p ∷ ps) i = refl

pub param_cell_ended : (x : ℕ) (ps : List Pat) (rest : List Argument) (i : ℕ) (whole : Option Cell) → length rest < 1 → row_of (param_in x ps (args_of rest)) i ≡ whole → Some Absent ≡ whole
param_cell_ended x ps [] i whole l e = no_param_cell x ps i ∙ e
param_cell_ended x ps (g ∷ rest) i whole l e = absurd (omega (arith, l))

no_clock : (x : ℕ) (ps : List Pat) → None ≡ param_clock x ps []
no_clock x [] = refl
no_clock x (p ∷ ps) = refl

pub clock_ended : (x : ℕ) (ps : List Pat) (rest : List ClockTerm) (whole : Option ClockTerm) → length rest < 1 → param_clock x ps rest ≡ whole → None ≡ whole
clock_ended x ps [] whole l e = no_clock x ps ∙ e
clock_ended x ps (t ∷ rest) whole l e = absurd (omega (arith, l))
