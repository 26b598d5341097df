-- What is around a node, on its lines.
use Rattle.std.specs.Prelude.{◌≡◌, refl, ℕ, true, false, List, [], ◌∷◌, map, Option, Some}
use Rattle.std.proofs.Common.{ap, ap₂, subst, sym, ◌∙◌}
use Rattle.ls_ast.specs.declared.tree.DefOf.{DefOf}
use Rattle.ls_sig.specs.declared.binder.Note.{Note}
use Rattle.ls_places.specs.Definitions.{case_place, definitions}
use Rattle.kahn_model.specs.Program
use Rattle.kahn_model.specs.declared.cell.Cell.{Cell}
use Rattle.ls_places.specs.declared.definition.Definition.{Definition}
use Rattle.kahn_model.specs.Alarm.{alarms, network_alarm}
use Rattle.kahn_model.specs.Alike.{ArgsAlike, AroundAlike}
use Rattle.kahn_model.specs.Cells.{is_yes, say}
use Rattle.kahn_model.specs.Functions.{Arg, stream}
use Rattle.kahn_model.specs.Laws.{AlarmsByLines, MeaningByLines}
use Rattle.kahn_model.specs.Table.{cell_in, meaning, network, whole_run, written_row}
use Rattle.kahn_exprs.specs.declared.context.Argument.TheVariants.{Stream, rolls-Stream}
use Rattle.kahn_exprs.specs.declared.context.Argument.{fold-roll-Argument}
use Rattle.kahn_exprs.specs.declared.context.Argument.TheOpen.{Argument-F}
use Rattle.kahn_exprs.specs.declared.context.Context.{Context}
use Rattle.kahn_exprs.specs.Context.{arg_of, arg_step, args_of, around_of}
use Rattle.kahn_plain.specs.Node as own
use Rattle.kahn_plain.proofs.Standing.{by_cells, cell_is, same_on}

stream_is : (cells : List (Option Cell)) → arg_of (Stream cells) ≡ stream (cell_in cells)
stream_is cells = ap arg_of (sym (rolls-Stream cells)) ∙ fold-roll-Argument Arg arg_step (Argument-F.Stream cells)

streams_are : (args : List (List (Option Cell))) → args_of (map Stream args) ≡ own.streams args
streams_are [] = refl
streams_are (cells ∷ args) = ap₂ (λ (f : Arg) fs. f ∷ fs) (stream_is cells) (streams_are args)

alike_self : (n : ℕ) (args : List (List (Option Cell))) → ArgsAlike n (own.streams args) (own.streams args)
alike_self n [] = tt
alike_self n (cells ∷ args) = (λ i p. refl, alike_self n args)

streams_alike : (n : ℕ) (args : List (List (Option Cell))) → ArgsAlike n (args_of (map Stream args)) (own.streams args)
streams_alike n args = subst (λ z. ArgsAlike n z (own.streams args)) (sym (streams_are args)) (alike_self n args)

module _ (cases : ℕ → Option ℕ) (defs : List Definition) (n : ℕ) where
  run_alike : (args : List (List (Option Cell))) → AroundAlike n (around_of (own.run_context n args)) (whole_run cases defs n (own.streams args))
  run_alike args = record {
    active = λ i p. cell_is n i (λ j. Some true) p;
    again = λ i p. cell_is n i (λ j. Some false) p;
    clocks = λ w i p. cell_is n i (λ j. Some true) p;
    args = streams_alike n args;
  }

  pub network_is : MeaningByLines → (k : ℕ) (args : List (List (Option Cell))) (c : Context) → c ≡ own.run_context n args
      → written_row n 0 (meaning cases defs n 201 k (around_of c)) ≡ written_row n 0 (network cases defs n k (own.streams args))
  network_is law k args c e = ap (λ z. written_row n 0 (meaning cases defs n 201 k (around_of z))) e
      ∙ same_on n (meaning cases defs n 201 k (around_of (own.run_context n args))) (network cases defs n k (own.streams args))
      (λ i p. law cases defs n 201 k (around_of (own.run_context n args)) (whole_run cases defs n (own.streams args)) (run_alike args) i p)

  pub alarms_are : AlarmsByLines → (k : ℕ) (args : List (List (Option Cell))) (c : Context) (cells : List (Option Cell)) → c ≡ own.run_context n args
      → cells ≡ written_row n 0 (alarms cases defs n 201 k (around_of c))
      → written_row n 0 (λ i. say is_yes (cell_in cells i)) ≡ written_row n 0 (network_alarm cases defs n k (own.streams args))
  alarms_are law k args c cells e f = by_cells n (λ i. say is_yes) (alarms cases defs n 201 k (around_of c)) cells f
      ∙ ap (λ z. written_row n 0 (λ i. say is_yes (alarms cases defs n 201 k (around_of z) i))) e
      ∙ same_on n (λ i. say is_yes (alarms cases defs n 201 k (around_of (own.run_context n args)) i)) (network_alarm cases defs n k (own.streams args))
      (λ i p. ap (say is_yes) (law cases defs n 201 k (around_of (own.run_context n args)) (whole_run cases defs n (own.streams args)) (run_alike args) i p))

-- of a file whose constructors and definitions are known by equations
pub file_row : (file cases : List (DefOf Note)) (defs : List Definition) (n k : ℕ) (args : List (List (Option Cell))) → cases ≡ file → defs ≡ definitions (case_place cases) file
    → written_row n 0 (network (case_place cases) defs n k (own.streams args)) ≡ written_row n 0 (Program.network file n k (own.streams args))
file_row file cases defs n k args e f = ap (λ z. written_row n 0 (network (case_place cases) z n k (own.streams args))) f
    ∙ ap (λ z. written_row n 0 (network (case_place z) (definitions (case_place z) file) n k (own.streams args))) e

pub file_alarms : (file cases : List (DefOf Note)) (defs : List Definition) (n k : ℕ) (args : List (List (Option Cell))) → cases ≡ file → defs ≡ definitions (case_place cases) file
    → written_row n 0 (network_alarm (case_place cases) defs n k (own.streams args)) ≡ written_row n 0 (Program.alarms file n k (own.streams args))
file_alarms file cases defs n k args e f = ap (λ z. written_row n 0 (network_alarm (case_place cases) z n k (own.streams args))) f
    ∙ ap (λ z. written_row n 0 (network_alarm (case_place z) (definitions (case_place z) file) n k (own.streams args))) e
