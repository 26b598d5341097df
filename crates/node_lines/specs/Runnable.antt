-- Which definitions run as nodes.
use Rattle.std.specs.Prelude.{Bool, true, false, not, ◌||◌, if◌then◌else◌, map, Option, None, Some}
use Rattle.ls_ast.specs.declared.tree.Mark.{Mark}
use Rattle.ls_ast.specs.declared.tree.Mark.TheVariants.{Comb, Seq}
use Rattle.ls_terms.specs.declared.types.TypeTerm.{TypeTerm, fold-TypeTerm}
use Rattle.ls_terms.specs.declared.types.TypeTerm.TheOpen.{TypeTerm-F}
use Rattle.ls_sig.specs.declared.sigs.Sig.{Sig}
use Rattle.ls_sig.specs.declared.sigs.InitSig.{InitSig}
use Rattle.ls_places.specs.Clocks.{any}
use Rattle.node_lines.specs.declared.runnable.NodeFault.{NodeFault}
use Rattle.node_lines.specs.declared.runnable.NodeFault.TheVariants.{NotRunnable, NotInitialised}

-- the parameter is a function
abbrev pub is_function : Mark → Bool
is_function Comb = true
is_function Seq = true
is_function _ = false

abbrev pub variable_step : TypeTerm-F Bool → Bool
variable_step (TypeTerm-F.Var x) = true
variable_step (TypeTerm-F.Tuple all) = any all
variable_step (TypeTerm-F.Arrow kind all to) = any all || to
variable_step (TypeTerm-F.Signal of) = of
variable_step _ = false

-- the type has a variable
abbrev pub has_variable : TypeTerm → Bool
has_variable = fold-TypeTerm Bool variable_step

-- no parameter is a function, and each type is without variables
abbrev pub is_runnable : Sig → Bool
is_runnable sig = not (any (map is_function sig.marks) || (any (map has_variable sig.params) || has_variable sig.result))

-- the result is not undefined by itself
abbrev pub is_initialised : InitSig → Bool
is_initialised sig = not sig.own

-- why a definition does not run, the first of the two where both hold
abbrev pub node_fault : Sig → InitSig → Option NodeFault
node_fault sig init = if is_runnable sig then (if is_initialised init then None else Some NotInitialised) else Some NotRunnable
