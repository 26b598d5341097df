-- Alarms by rows that are written down.
use Rattle.std.specs.Prelude.{ℕ, Bool, false, List, [], map, Option, Some, None, if◌then◌else◌}
use Rattle.ls_ast.specs.declared.tree.Case.{Case}
use Rattle.ls_ast.specs.declared.tree.Expr.{Expr, fold-Expr}
use Rattle.ls_ast.specs.declared.tree.Form.{Form, fold-Form, map-Form, out-Form}
use Rattle.ls_ast.specs.declared.tree.Form.TheOpen.{Form-F}
use Rattle.ls_ops.specs.declared.kinds.Op.{Op}
use Rattle.ls_places.specs.Places.{Place}
use Rattle.ls_sig.specs.declared.binder.Binder.{Binder}
use Rattle.ls_sig.specs.declared.binder.Binder.TheVariants as binder
use Rattle.ls_sig.specs.declared.binder.Note.{Note}
use Rattle.kahn_model.specs.Alarm
use Rattle.kahn_model.specs.Alarm.{Heard, HeardForm, any_of}
use Rattle.kahn_model.specs.Cells.{is_yes, say, values_in}
use Rattle.ls_places.specs.Clocks.{form_parts, is_function}
use Rattle.kahn_model.specs.Functions.{Arg}
use Rattle.kahn_model.specs.Rows.{Row, both, either, know, know_all}
use Rattle.kahn_model.specs.Table.{cell_in, written_row}
use Rattle.kahn_model.specs.Values.{alarm}
use Rattle.kahn_model.specs.declared.cell.Cell.{Cell}
use Rattle.kahn_exprs.specs.declared.body.Body.{Body}
use Rattle.kahn_exprs.specs.Body as spec
use Rattle.kahn_exprs.specs.Calls.{target_at, target_row}
use Rattle.kahn_exprs.specs.Instance.{head}
use Rattle.kahn_exprs.specs.Rules.{Cells, column}

abbrev pub Truths : Type 0
Truths = List (Option Bool)

-- the truths of some rows at an instant
abbrev pub truths_at : ℕ → List Truths → List (Option Bool)
truths_at i = map {A = Truths} {B = Option Bool} (λ row. cell_in row i)

-- yes where a row is, or one of some others
abbrev pub any_row : Truths → List Truths → Row Bool
any_row row parts i = either (cell_in row i) (any_of (truths_at i parts))

abbrev pub no_alarm : Row Bool
no_alarm i = Some false

-- whether a cell says yes
abbrev pub yes_at : Cells → Row Bool
yes_at cells i = say is_yes (cell_in cells i)

abbrev pub divides : Op → List Cell → Bool
divides o cs = alarm o (values_in cs)

module _ (b : Body) where
  -- where an operator with these operands gives an alarm
  abbrev pub operator_alarm : Note → Op → List Cells → Row Bool
  operator_alarm note o all i = both (spec.on b note.ck i) (know (know_all (column i all)) (λ cs. Some (divides o cs)))

  module _ (p : Place) where
    -- where a body that is called is alarmed
    abbrev pub called_alarm : Note → Arg → List Arg → Option Cells → Row Bool
    called_alarm note f args every i = if is_function note then Some false else say is_yes (target_row (spec.alarmed b) (target_at b p note f args every) i)

    abbrev pub used_by : Note → ℕ → Binder → Row Bool
    used_by note x (binder.Def k) = called_alarm note (head b note x []) [] None
    used_by note x bound = no_alarm

    -- where a definition without parameter is alarmed, at its bare name
    abbrev pub used_alarm : Note → ℕ → Row Bool
    used_alarm note x = used_by note x note.bound

    abbrev pub heard_form : Form Note → HeardForm
    heard_form = fold-Form Note HeardForm Heard
        (Alarm.form_heard (spec.cases b) b.defs.now (spec.call b) (spec.alarmed b) b.def.now (spec.around b) (spec.table b) (spec.active b p) (spec.again b p))
        (Alarm.expr_heard (spec.cases b) b.defs.now (spec.call b) (spec.alarmed b) b.def.now (spec.around b) (spec.table b))

    abbrev pub heard : Expr Note → Heard
    heard = fold-Expr Note HeardForm Heard
        (Alarm.form_heard (spec.cases b) b.defs.now (spec.call b) (spec.alarmed b) b.def.now (spec.around b) (spec.table b) (spec.active b p) (spec.again b p))
        (Alarm.expr_heard (spec.cases b) b.defs.now (spec.call b) (spec.alarmed b) b.def.now (spec.around b) (spec.table b))

    -- a form by what is heard at its parts
    abbrev pub layer : Form Note → Form-F Note HeardForm Heard
    layer f = map-Form Note (Form Note) (Expr Note) HeardForm Heard heard_form heard (out-Form Note f)

    -- the alarms of a form apart from those of its parts
    abbrev pub own_alarm : Form Note → Note → Row Bool
    own_alarm f note = Alarm.own_alarm (spec.cases b) b.defs.now (spec.call b) (spec.alarmed b) b.def.now (spec.around b) (spec.table b) (spec.active b p) (spec.again b p)
        (Alarm.said_parts (spec.cases b) b.defs.now (spec.call b) (spec.alarmed b) b.def.now (spec.around b) (spec.table b) (layer f)) note

    abbrev pub alarm_row : Expr Note → Truths
    alarm_row e = written_row b.lines 0 (spec.alarm_at b p e)

    abbrev pub alarm_rows : List (Expr Note) → List Truths
    alarm_rows = map {A = Expr Note} {B = Truths} alarm_row

    abbrev pub branch_alarms : List (Case × Expr Note) → List Truths
    branch_alarms = map {A = Case × Expr Note} {B = Truths} (λ c. alarm_row c.1)

    abbrev pub heard_row : Heard → Truths
    heard_row h = written_row b.lines 0 h.1

    -- the alarms of the parts of a form
    abbrev pub parts_alarms : Form Note → List Truths
    parts_alarms f = map {A = Heard} {B = Truths} heard_row (form_parts (layer f))
