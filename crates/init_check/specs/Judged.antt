-- What is answered for a definition, and for an item of a file.
use Rattle.std.specs.Prelude.{◌≡◌, ℕ, Bool, false, List, Option, Some, None}
use Rattle.ls_ast.specs.declared.tree.DefOf.{DefOf}
use Rattle.ls_ast.specs.declared.tree.DefOf.TheVariants as item
use Rattle.ls_ast.specs.declared.tree.Mark.{Mark}
use Rattle.ls_base.specs.declared.Line.{Line}
use Rattle.ls_places.specs.Definitions.{definition_of}
use Rattle.ls_places.specs.declared.definition.Definition.{Definition}
use Rattle.ls_sig.specs.declared.binder.Note.{Note}
use Rattle.ls_sig.specs.declared.sigs.InitSig.{InitSig}
use Rattle.init_rules.specs.Files.{data_marks, is_data}
use Rattle.init_rules.specs.Init.{Initialised, IsSignature}
use Rattle.init_check.specs.declared.file.InitFault.{InitFault}
use Rattle.init_check.specs.declared.file.InitFault.TheVariants as fault

-- the signature of a definition, if it is initialised
abbrev pub Decided : Definition → List InitSig → List Bool → Option InitSig → Type 0
Decided d sigs known None = Initialised d sigs → ⊥
Decided d sigs known (Some s) = Initialised d sigs × IsSignature d sigs known s

abbrev pub is_known_data : Option Mark → Bool
is_known_data None = false
is_known_data (Some m) = is_data m

module _ (cases : ℕ → Option ℕ) where
  -- an item of a file: a `let` has a signature
  abbrev pub ItemJudged : List InitSig → DefOf Note → Option InitSig → Type 0
  ItemJudged sigs (item.Cases line name all) o = o ≡ None
  ItemJudged sigs (item.Let line node name params marks notes body) o =
      let d = definition_of cases params notes body in
      (s : InitSig) × (o ≡ Some s) × Initialised d sigs × IsSignature d sigs (data_marks params marks) s

  -- a `let` at this line that is not initialised
  abbrev pub ItemFails : List InitSig → DefOf Note → Line → Type 0
  ItemFails sigs (item.Cases line name all) at = ⊥
  ItemFails sigs (item.Let line node name params marks notes body) at = (line ≡ at) × (Initialised (definition_of cases params notes body) sigs → ⊥)

-- of a fault that is at a line
abbrev pub AtLine : InitFault → (Line → Type 0) → Type 0
AtLine (fault.Uninitialised line) P = P line
AtLine fault.NoMemory P = Unit {0}
