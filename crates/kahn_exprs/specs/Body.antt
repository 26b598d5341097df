-- The definitions of the model at a body: on given lines, in a context, with a table that stands.
use Rattle.std.specs.Prelude.{ℕ, Bool, List, [], ◌∷◌, map, Option, Some, None, option_map, unwrap_or, false, if◌then◌else◌}
use Rattle.ls_ast.specs.declared.tree.Case.{Case}
use Rattle.ls_ast.specs.declared.tree.Expr.{Expr}
use Rattle.ls_ast.specs.declared.tree.Form.{Form, fold-Form}
use Rattle.ls_terms.specs.declared.clocks.ClockTerm.{ClockTerm}
use Rattle.ls_places.specs.Places.{InnerArm, Place}
use Rattle.ls_sig.specs.declared.binder.Note.{Note}
use Rattle.ls_places.specs.declared.places.Named.{Named}
use Rattle.ls_places.specs.declared.places.Named.TheVariants as named
use Rattle.ls_places.specs.declared.places.Right.{Right}
use Rattle.ls_places.specs.declared.places.Site.{Site}
use Rattle.ls_places.specs.declared.places.Transition.{Transition}
use Rattle.ls_places.specs.declared.places.Variable.{Variable}
use Rattle.kahn_model.specs.declared.cell.Reach.{Reach}
use Rattle.kahn_model.specs.declared.cell.Cell.{Cell}
use Rattle.kahn_model.specs.Rows.{Row, both, either}
use Rattle.kahn_model.specs.Functions.{Arg, stream, Around, Meaning, Said}
use Rattle.ls_places.specs.Definitions.{case_place}
use Rattle.kahn_model.specs.declared.cell.Cell.TheVariants.{Present}
use Rattle.kahn_model.specs.declared.cell.Value.TheVariants as v
use Rattle.ls_value.specs.declared.leaf.Leaf.TheVariants as leaf
use Rattle.ls_ops.specs.declared.kinds.Op.{Op}
use Rattle.ls_sig.specs.declared.binder.Binder.{Binder}
use Rattle.ls_places.specs.declared.places.Frame.TheVariants as frame
use Rattle.ls_places.specs.declared.definition.Key.{Key}
use Rattle.ls_places.specs.declared.definition.Key.TheVariants as key
use Rattle.kahn_model.specs.Cells.{emitted, is_case, is_yes, restarts, say, values_in}
use Rattle.kahn_model.specs.Values.{eval, tuple}
use Rattle.ls_places.specs.Search.{home_of, in_signature, same_number}
use Rattle.kahn_model.specs.Alarm
use Rattle.kahn_model.specs.Table
use Rattle.kahn_exprs.specs.Context.{around_of}
use Rattle.kahn_exprs.specs.Standing
use Rattle.kahn_model.specs.Turn
use Rattle.kahn_model.specs.Turn.{Table}
use Rattle.kahn_exprs.specs.declared.body.Body.{Body}

-- the cell of a function value that is a row
abbrev pub stream_at : Arg → ℕ → Option (Option Cell)
stream_at (stream row) i = Some (row i)
stream_at _ i = None

-- whether a signal is emitted, as a cell
abbrev pub asked : Cell → Cell
asked c = Present (v.Leaf (leaf.Bool (emitted c)))

abbrev pub operated : Op → List Cell → Cell
operated o cs = Present (eval o (values_in cs))

abbrev pub tupled : List Cell → Cell
tupled cs = Present (tuple (values_in cs))

-- the row of a clock name that is no parameter's
abbrev pub named_key : Option Named → ℕ → Key
named_key (Some (named.Clock x)) m = key.Var x
named_key _ m = key.Name m

module _ (b : Body) where
  abbrev pub cases : ℕ → Option ℕ
  cases = case_place b.file.now

  abbrev pub call : Meaning
  call = Table.meaning cases b.defs.now b.lines b.depth

  -- where a called body is alarmed
  abbrev pub alarmed : Meaning
  alarmed = Alarm.alarms cases b.defs.now b.lines b.depth

  abbrev pub around : Around
  around = around_of b.context.now

  abbrev pub table : Table
  table = Standing.table b.rows.now

  abbrev pub active_from : Row Bool → List InnerArm → Row Bool
  active_from = Turn.active_from cases b.defs.now call b.def.now around table

  abbrev pub active : Place → Row Bool
  active = Turn.active cases b.defs.now call b.def.now around table

  abbrev pub again_from : Row Bool → Place → Row Bool
  again_from = Turn.again_from cases b.defs.now call b.def.now around table

  abbrev pub again : Place → Row Bool
  again = Turn.again cases b.defs.now call b.def.now around table

  -- the innermost of some arms at an instant, where what is around them says `now`
  abbrev pub active_now : Option Bool → List InnerArm → ℕ → Option Bool
  active_now now [] i = now
  active_now now (mj ∷ p) i = active_now (say (is_case mj.1) (table (key.Name mj.0) i)) p i

  abbrev pub again_now : Option Bool → Place → ℕ → Option Bool
  again_now now [] i = now
  again_now now (frame.Reset r ∷ p) i = again_now (either now (say is_yes (table (key.Reset r) i))) p i
  again_now now (frame.Arm m j ∷ p) i = again_now (either now (say (restarts j) (table (key.Name m) i))) p i

  abbrev pub again_too : Row Bool → List ℕ → Row Bool
  again_too = Turn.again_too cases b.defs.now call b.def.now around table

  abbrev pub too_now : Option Bool → List ℕ → ℕ → Option Bool
  too_now now [] i = now
  too_now now (x ∷ xs) i = too_now (either now (say is_yes (table (key.Var x) i))) xs i

  abbrev pub in_arms : Row Bool → List InnerArm → Row Bool
  in_arms = Turn.in_arms cases b.defs.now call b.def.now around table

  abbrev pub in_arms_now : Option Bool → List InnerArm → ℕ → Option Bool
  in_arms_now now [] i = now
  in_arms_now now (mj ∷ p) i = in_arms_now (both now (say (is_case mj.1) (table (key.Name mj.0) i))) p i

  abbrev pub case_row : ℕ → Row Cell
  case_row = Turn.case_row cases b.defs.now call b.def.now around table

  abbrev pub on : ClockTerm → Row Bool
  on = Turn.on cases b.defs.now call b.def.now around table

  abbrev pub variable_on : ℕ → Row Bool
  variable_on w i = (if in_signature b.def.now w then around.clocks w else active_from around.active (home_of w b.def.now.places.exprs)) i

  abbrev pub look : Binder → ℕ → Arg
  look = Turn.look cases b.defs.now call b.def.now around table

  abbrev pub used : Place → Note → Binder → ℕ → Arg
  used p = Turn.used cases b.defs.now call b.def.now around table (active p) (again p)

  abbrev pub used_in : Place → Note → ℕ → Arg
  used_in p note x = used p note note.bound x

  abbrev pub mode_here : ℕ → Place → Row Bool
  mode_here = Turn.mode_here cases b.defs.now call b.def.now around table

  abbrev pub variable_here : ℕ → Row Bool
  variable_here = Turn.variable_here cases b.defs.now call b.def.now around table

  abbrev pub signal_clock : ℕ → Option ℕ → Row Bool
  signal_clock = Turn.signal_clock cases b.defs.now call b.def.now around table

  abbrev pub signal_here : ℕ → List InnerArm → Row Bool
  signal_here = Turn.signal_here cases b.defs.now call b.def.now around table

  abbrev pub last : ℕ → Row Cell
  last = Turn.last cases b.defs.now call b.def.now around table

  abbrev pub last_bound : Binder → Row Cell
  last_bound = Turn.last_bound cases b.defs.now call b.def.now around table

  abbrev pub case_number : Case → Option ℕ
  case_number = Turn.case_number cases b.defs.now call b.def.now around table

  abbrev pub is_branch : Case → ℕ → Bool
  is_branch c k = unwrap_or (option_map (λ j. same_number j k) (case_number c)) false

  abbrev pub said : Place → Expr Note → Said
  said = Turn.said cases b.defs.now call b.def.now around table

  abbrev pub said_form : Place → Form Note → Note → Arg
  said_form p = fold-Form Note (Note → Arg) Said (Turn.form_step cases b.defs.now call b.def.now around table (active p) (again p))
      (Turn.expr_step cases b.defs.now call b.def.now around table)

  abbrev pub choices_said : Place → List (Case × Expr Note) → List (Case × Said)
  choices_said p = map {A = Case × Expr Note} {B = Case × Said} (λ c. (c.0, said p c.1))

  abbrev pub branch : ℕ → List (Case × Said) → Row Cell
  branch = Turn.branch cases b.defs.now call b.def.now around table

  abbrev pub merged : List (Case × Said) → ℕ → Cell → Option Cell
  merged = Turn.merged cases b.defs.now call b.def.now around table

  abbrev pub on_clock : Note → Arg → Arg
  on_clock = Turn.on_clock cases b.defs.now call b.def.now around table

  abbrev pub cell : Place → Expr Note → Row Cell
  cell = Turn.cell cases b.defs.now call b.def.now around table

  abbrev pub whole : ℕ → Row Cell
  whole = Turn.whole cases b.defs.now call b.def.now around table

  abbrev pub reach : List InnerArm → Row Reach
  reach = Turn.reach cases b.defs.now call b.def.now around table

  abbrev pub signal_row : ℕ → Place → Row Cell
  signal_row = Turn.signal_row cases b.defs.now call b.def.now around table

  abbrev pub right_cell : ℕ → Place → Right → Row Cell
  right_cell = Turn.right_cell cases b.defs.now call b.def.now around table

  abbrev pub by_sites : Variable → Row Cell → List Site → Row Cell
  by_sites = Turn.by_sites cases b.defs.now call b.def.now around table

  abbrev pub otherwise : ℕ → Variable → Row Cell
  otherwise = Turn.otherwise cases b.defs.now call b.def.now around table

  abbrev pub first_true : List (ℕ × List Transition) → Option Cell → List Transition → Row Cell
  first_true = Turn.first_true cases b.defs.now call b.def.now around table

  abbrev pub choice : Bool → List (ℕ × List Transition) → ℕ → Cell → Option Cell
  choice = Turn.choice cases b.defs.now call b.def.now around table

  abbrev pub first_emitted : List ℕ → Place → ℕ → ℕ → Option Cell
  first_emitted = Turn.first_emitted cases b.defs.now call b.def.now around table

  abbrev pub present_here : List ℕ → Place → Row Bool
  present_here = Turn.present_here cases b.defs.now call b.def.now around table

  abbrev pub name_cell : ℕ → Option Named → Row Cell
  name_cell = Turn.name_cell cases b.defs.now call b.def.now around table

  abbrev pub turn : Table
  turn = Turn.turn cases b.defs.now call b.def.now around table

  -- where an expression or a part of it divides by zero
  abbrev pub alarm_at : Place → Expr Note → Row Bool
  alarm_at = Alarm.alarm_at cases b.defs.now call alarmed b.def.now around table
