-- Type signatures with the clock schemes of annotated definitions.
use Rattle.std.specs.Prelude.{List, [], ◌∷◌}
use Rattle.ls_ast.specs.declared.tree.DefOf.{DefOf}
use Rattle.ls_ast.specs.declared.tree.DefOf.TheVariants as item
use Rattle.ls_sig.specs.declared.binder.Note.{Note}
use Rattle.ls_sig.specs.declared.sigs.Sig.{Sig}
use Rattle.clock_rules.specs.declared.scheme.ClockScheme.{ClockScheme}
use Rattle.clock_rules.specs.Files.{scheme, with_scheme}

-- the schemes of the `let` definitions, in order
abbrev pub schemes_in : List (DefOf Note) → List ClockScheme
schemes_in [] = []
schemes_in (item.Cases line name all ∷ ds) = schemes_in ds
schemes_in (item.Let line node name params marks notes body ∷ ds) = scheme marks notes body.result.note.ck ∷ schemes_in ds

-- a signature for each scheme, with its clocks
abbrev pub with_each : List ClockScheme → List Sig → List Sig
with_each [] ss = []
with_each (k ∷ ks) [] = []
with_each (k ∷ ks) (s ∷ ss) = with_scheme s k ∷ with_each ks ss
