-- The theorems on the scheme and on its code, as the laws state them.
use Rattle.std.specs.Prelude.{◌≡◌, ℕ, suc, List, []}
use Rattle.std.proofs.Common.{ap, sym, ◌∙◌, subst}
use Rattle.std.proofs.lemmas.List.{append-nil}
use Rattle.line_io.specs.declared.form.Cell.{Cell}
use Rattle.line_io.specs.declared.form.InputForm.{InputForm}
use Rattle.core_lang.specs.declared.equations.CoreEq.{CoreEq}
use Rattle.core_lang.specs.Equations.{at}
use Rattle.core_lang.proofs.Instants.{rows}
use Rattle.step_code.specs.declared.code.Code.{Code}
use Rattle.step_code.specs.declared.parts.Instr.{Instr}
use Rattle.step_code.specs.Steps.{Moment, BodyStep, run}
use Rattle.compile_rules.specs.declared.places.Place.{Place}
use Rattle.compile_rules.specs.Scheme.{Guarded, Slots, Plan, after_acts, acts_divide, step_acts}
use Rattle.compile_rules.specs.Blocks.{joined, blocks_lines}
use Rattle.compile_rules.specs.Plans.{IsOrderedCore}
use Rattle.compile_rules.specs.Setting.{Feeds, slots_at}
use Rattle.compile_rules.specs.Numbering.{IsAmong, IsNumbering, AreUsed, Matches}
use Rattle.compile_rules.specs.Coded.{IsCompiled}
use Rattle.compile_rules.specs.Laws.{IsTableOf, IsTableOfCode, InstructionsDo}
use Rattle.compile_rules.proofs.WholeStep.{at_of}
use Rattle.compile_rules.proofs.Runs.{IsShown}
use Rattle.compile_rules.proofs.Theorem.{inputs_given, equations_hold, slots_have, outputs_shown, alarms_same}
use Rattle.compile_rules.proofs.Joining.{joined_reach}
use Rattle.compile_rules.proofs.CodeRuns.{IsCodeOf, DoAll, joined_do, code_slots, code_alarms}

module _ (plan : Plan) (form : InputForm) (inputs : List ℕ) (eqs : List CoreEq) (promised : IsOrderedCore plan inputs eqs)
    (line : ℕ → List Cell) (feed : List Cell → Slots → Slots) (start : Slots) (feeds : Feeds plan form inputs eqs line feed start) where
  pub table_of : IsTableOf plan form inputs eqs line feed (slots_at plan form inputs eqs line feed start) (rows form eqs line)
  table_of = record {
    inputs_given = λ v i h. inputs_given plan form inputs eqs promised line feed start feeds v i h;
    equations_hold = λ e h i. equations_hold plan form inputs eqs promised line feed start feeds e h i;
    leaves = λ i v x h e. slots_have plan form inputs eqs promised line feed start feeds i v x h e;
    shown = λ i e h t. (at_of (IsShown plan inputs eqs promised.planned promised.led (at (rows form eqs line) i) (slots_at plan form inputs eqs line feed start (suc i))) eqs e
        (outputs_shown plan form inputs eqs promised line feed start feeds i) h).shown t;
    told = λ i e h t. (at_of (IsShown plan inputs eqs promised.planned promised.led (at (rows form eqs line) i) (slots_at plan form inputs eqs line feed start (suc i))) eqs e
        (outputs_shown plan form inputs eqs promised line feed start feeds i) h).told t;
    alarms = λ i. alarms_same plan form inputs eqs promised line feed start feeds i;
  }

  module _ (number_of : Place → ℕ) (IsUsed : Place → Type 0) (code : Code) (compiled : IsCompiled plan inputs eqs line feed start number_of IsUsed code) where
    is_code : IsCodeOf plan form inputs eqs promised line feed start feeds number_of IsUsed code
    is_code = record {
      bodies = compiled.bodies;
      numbering = compiled.numbering;
      lines = subst (DoAll plan form inputs eqs promised line feed start feeds number_of IsUsed code compiled.numbering) (sym compiled.main)
          (joined_do plan form inputs eqs promised line feed start feeds number_of IsUsed code compiled.numbering compiled.used);
      begins = compiled.begins;
      sets = compiled.sets;
    }

    pub table_of_code : IsTableOfCode inputs eqs line number_of IsUsed code (rows form eqs line)
    table_of_code = record {
      leaves = λ i v x h u e. code_slots plan form inputs eqs promised line feed start feeds number_of IsUsed code is_code i v x h u e;
      alarms = λ i. code_alarms plan form inputs eqs promised line feed start feeds number_of IsUsed code is_code i;
    }

pub instructions_do : InstructionsDo
instructions_do bodies number_of names size is acts used s m k =
    let lines : List Instr = blocks_lines number_of (joined acts) in
    let r = joined_reach bodies number_of (IsAmong names) size is acts [] s m k used in
    let whole : run bodies (λ k. k) 0 lines m ≡ r.to = ap (λ list. run bodies (λ k. k) 0 list m) (sym (append-nil lines)) ∙ r.goes in (
      subst (λ x. Matches number_of (IsAmong names) size (after_acts acts s) x) (sym whole) r.does.matches,
      ap (λ (x : Moment). x.alarmed) whole ∙ r.does.alarm_same,
    )
