-- What `check` writes of a file.
use Rattle.std.specs.Prelude.{◌≡◌, ◌≢◌, ℕ, List, [], ◌∷◌, ◌++◌, Option, ◌⊎◌, codes}
use Rattle.ls_front.specs.declared.checked.Checked.{Checked}
use Rattle.clock_text.specs.Texts.{clock_line}
use Rattle.ls_base.specs.declared.Name.{Name}
use Rattle.ls_front.specs.Front.{IsAccepted, IsFault}
use Rattle.ls_front.specs.declared.fault.FrontFault.{FrontFault}
use Rattle.ls_front.specs.declared.fault.FrontFault.TheVariants as fails
use Rattle.ls_sig.specs.declared.sigs.Sig.{Sig}
use Rattle.type_schemes.specs.Texts.{type_line}
use Rattle.lsc_cli.specs.declared.status.Status.{Status}
use Rattle.lsc_cli.specs.Outcome.{Outcome, Comes, done, refusal}
use Rattle.lsc_cli.specs.Refusals.{clocks_text, init_text, lex_text, scope_text, syntax_fault_text, types_text}

module _ (names : List (List ℕ)) (enums : List Name) (constructors : List (List Name)) where
  -- the type and the clock of a definition, a line each
  abbrev pub signature_lines : Sig → List ℕ
  signature_lines s = (type_line names enums s ++ codes "\n") ++ (clock_line names constructors s ++ codes "\n")

  abbrev pub all_lines : List Sig → List ℕ
  all_lines [] = []
  all_lines (s ∷ ss) = signature_lines s ++ all_lines ss

-- the types and clocks of the definitions of a file, in order
abbrev pub check_lines : Checked → List ℕ
check_lines file = all_lines file.ann.names file.enums file.constructors file.sigs

-- the refusal of the first judgement that fails
abbrev pub front_text : FrontFault → List ℕ
front_text (fails.Lex f) = lex_text f
front_text (fails.Syntax f) = syntax_fault_text f
front_text (fails.Scope f) = scope_text f
front_text (fails.Types f) = types_text f
front_text (fails.Clocks f) = clocks_text f
front_text (fails.Init f) = init_text f
front_text fails.NoMemory = []

-- what a file comes to that is checked
pub data IsChecked (file : List ℕ) (outcome : Outcome) : Type 0 where
  Refused : (fault : FrontFault) → fault ≢ fails.NoMemory → IsFault file fault → outcome ≡ refusal (front_text fault) → IsChecked file outcome
  Passed : (found : Checked) → IsAccepted file found → outcome ≡ done (check_lines found) → IsChecked file outcome

-- this was written, with its status
abbrev pub IsCheck : List ℕ → Status → Option (List ℕ) → Option (List ℕ) → Type 0
IsCheck file answer old new = (outcome : Outcome) × IsChecked file outcome × Comes outcome answer old new
