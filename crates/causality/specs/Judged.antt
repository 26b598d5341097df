-- What is answered for an item of a file.
use Rattle.std.specs.Prelude.{◌≡◌, ℕ, List, Option, Some, None}
use Rattle.ls_ast.specs.declared.tree.DefOf.{DefOf}
use Rattle.ls_ast.specs.declared.tree.DefOf.TheVariants as item
use Rattle.ls_base.specs.declared.Line.{Line}
use Rattle.ls_places.specs.Definitions.{definition_of}
use Rattle.ls_sig.specs.declared.binder.Note.{Note}
use Rattle.ls_sig.specs.declared.sigs.Item.{Item}
use Rattle.causality_rules.specs.Items.{Ranked, WaitsForItself}
use Rattle.causality.specs.declared.file.CauseFault.{CauseFault}
use Rattle.causality.specs.declared.file.CauseFault.TheVariants as fault

abbrev pub Numbers : Type 0
Numbers = List (Item × ℕ)

module _ (cases : ℕ → Option ℕ) where
  -- an item of a file: a `let` has numbers for its items
  abbrev pub ItemRanked : DefOf Note → Option Numbers → Type 0
  ItemRanked (item.Cases line name all) o = o ≡ None
  ItemRanked (item.Let line node name params marks notes body) o = (l : Numbers) × (o ≡ Some l) × Ranked (definition_of cases params notes body) l

  -- a `let` at this line, some items of which wait for one another
  abbrev pub ItemLoops : DefOf Note → Line → List Item → Type 0
  ItemLoops (item.Cases line name all) at found = ⊥
  ItemLoops (item.Let line node name params marks notes body) at found = (line ≡ at) × WaitsForItself (definition_of cases params notes body) found

-- of a fault that has a line and items
abbrev pub AtCycle : CauseFault → (Line → List Item → Type 0) → Type 0
AtCycle (fault.Cyclic line found) P = P line found
AtCycle fault.NoMemory P = Unit {0}
