-- The rows of a table by their kinds, and their cells from the rows of right sides.
use Rattle.std.specs.Prelude.{◌≡◌, ℕ, zero, suc, ◌+◌, ◌-◌, Bool, true, false, List, [], ◌∷◌, map, Option, Some, None, length}
use Rattle.ls_ast.specs.declared.tree.Pat.{Pat}
use Rattle.ls_places.specs.Places.{InnerArm, Place}
use Rattle.ls_places.specs.Search.{and, guards_of, nth, sites_of, state_of, whole_of}
use Rattle.ls_places.specs.declared.places.Transition.{Transition}
use Rattle.ls_places.specs.declared.places.Variable.{Variable}
use Rattle.ls_places.specs.declared.places.Whole.{Whole}
use Rattle.ls_places.specs.declared.definition.Key.TheVariants as key
use Rattle.ls_sig.specs.declared.binder.Note.{Note}
use Rattle.ls_terms.specs.declared.clocks.ClockTerm.{ClockTerm}
use Rattle.kahn_model.specs.declared.cell.Cell.{Cell}
use Rattle.kahn_model.specs.declared.cell.Cell.TheVariants.{Chosen}
use Rattle.kahn_model.specs.Cells.{at, is_yes, part, value_in}
use Rattle.kahn_model.specs.Choices.{by_reach, chosen_arm, yes_or}
use Rattle.kahn_model.specs.Rows.{Row, know, previous}
use Rattle.kahn_model.specs.Table.{cell_in, written_row}
use Rattle.kahn_model.specs.Turn
use Rattle.kahn_cells.specs.Groups.{picked}
use Rattle.kahn_exprs.specs.declared.body.Body.{Body}
use Rattle.kahn_exprs.specs.Body as spec

abbrev pub States : Type 0
States = List (ℕ × List Transition)

-- a row that stands, with a cell for each line
abbrev pub Standing : Type 0
Standing = List (Option Cell)

abbrev pub in_state : ℕ → Bool → Option Cell
in_state s restart = Some (Chosen (Some s) restart)

-- the part of a cell that a pattern gives to a name
abbrev pub part_of : Pat → ℕ → Option Cell → Option Cell
part_of p x c = know c (λ c. Some (part p x c))

abbrev pub target_of : States → Transition → ℕ
target_of states g = state_of g.target states 0

-- the target of the first true guard, from the rows of their conditions
abbrev pub by_guards : States → Option Cell → List Transition → List Standing → Row Cell
by_guards states kept [] rows i = kept
by_guards states kept (g ∷ gs) [] i = None
by_guards states kept (g ∷ gs) (r ∷ rows) i = know (cell_in r i) (λ c.
    yes_or (Some (Chosen (Some (state_of g.target states 0)) g.restart)) (by_guards states kept gs rows i) (is_yes c))

-- the rows of the guards of a state
abbrev pub rows_at : List (List Standing) → ℕ → List Standing
rows_at [] k = []
rows_at (rows ∷ all) zero = rows
rows_at (rows ∷ all) (suc k) = rows_at all k

-- what the guards of the state that a cell names choose
abbrev pub choice : Bool → States → List (List Standing) → ℕ → Cell → Option Cell
choice keep states rows i (Chosen (Some s) restart) =
    by_guards states (in_state s (and keep restart)) (guards_of states s) (rows_at rows s) i
choice keep states rows i c = Some c

module _ (b : Body) where
  abbrev pub signal_row_at : ℕ → Option ℕ → Row Cell
  signal_row_at = Turn.signal_row_at (spec.cases b) b.defs.now (spec.call b) b.def.now (spec.around b) (spec.table b)

  -- ---- variables

  -- by an equation, from its row and that of the rest
  abbrev pub by_site : Bool → List InnerArm → Standing → Standing → Row Cell
  by_site signal inner cells more i = know (spec.reach b inner i) (by_reach (cell_in cells i) (cell_in more i) signal)

  -- by the equations of these numbers, and else by the row `o`
  abbrev pub by_numbers : Variable → Row Cell → List ℕ → Row Cell
  by_numbers w o numbers = spec.by_sites b w o (picked b.def.now.places.sites numbers)

  -- one more equation before those that a row stands for
  abbrev pub AddsSite : Variable → ℕ → Standing → Standing → Type 0
  AddsSite w k more result = (o : Row Cell) (numbers : List ℕ) → more ≡ written_row b.lines 0 (by_numbers w o numbers)
      → result ≡ written_row b.lines 0 (by_numbers w o (k ∷ numbers))

  abbrev pub unclocked : ℕ → Variable → Row Cell
  unclocked x w = spec.by_sites b w (spec.otherwise b x w) (sites_of x b.def.now.places.sites)

  abbrev pub on_variable : ℕ → Standing → Row Cell
  on_variable x cells i = at (spec.variable_here b x i) (cell_in cells i)

  -- ---- blocks, from the rows of scrutinees and guards

  abbrev pub condition : Transition → Standing
  condition g = written_row b.lines 0 (spec.whole b g.cond)

  abbrev pub conditions : List Transition → List Standing
  conditions = map {A = Transition} {B = Standing} condition

  -- of the guards of each state
  abbrev pub guards : States → List (List Standing)
  guards = map {A = ℕ × List Transition} {B = List Standing} (λ s. conditions s.1)

  -- the selector of a `match`, from the row of its scrutinee
  abbrev pub match_from : ClockTerm → List (Option ℕ) → Standing → Row Cell
  match_from ck all r i = at (spec.on b ck i) (know (cell_in r i) (λ c. Some (Chosen (chosen_arm all (value_in c)) false)))

  abbrev pub match_on : Whole Note → List (Option ℕ) → Row Cell
  match_on w all i = at (spec.on b w.expr.note.ck i) (know (spec.cell b w.place w.expr i) (λ c. Some (Chosen (chosen_arm all (value_in c)) false)))

  -- the rows of an automaton with this first clock name, from those of its guards
  abbrev pub active_from : ℕ → States → Place → List (List Standing) → Row Cell
  active_from m states p rows i = at (spec.mode_here b m p i) (know (spec.table b (key.Name (m + 1)) i) (choice true states rows i))

  abbrev pub after_from : ℕ → States → List (List Standing) → Option ℕ → Option Cell
  after_from m states rows = Turn.after_state (spec.cases b) b.defs.now (spec.call b) b.def.now (spec.around b) (spec.table b)
      (choice false states rows) (spec.table b (key.Name m))

  abbrev pub tested_from : ℕ → States → Place → List (List Standing) → Row Cell
  tested_from m states p rows i = at (spec.mode_here b m p i) (know (previous (spec.mode_here b m p) (spec.again b p) i) (after_from m states rows))

  -- ---- the cells of a table

  abbrev pub variable_cell : ℕ → Row Cell
  variable_cell x = Turn.variable_cell (spec.cases b) b.defs.now (spec.call b) b.def.now (spec.around b) (spec.table b) x (nth b.def.now.places.vars x)

  abbrev pub start_cell : ℕ → Row Cell
  start_cell x = Turn.start_of_variable (spec.cases b) b.defs.now (spec.call b) b.def.now (spec.around b) (spec.table b) (nth b.def.now.places.vars x)

  abbrev pub reset_cell : ℕ → Row Cell
  reset_cell r = Turn.reset_cell (spec.cases b) b.defs.now (spec.call b) b.def.now (spec.around b) (spec.table b) (nth b.def.now.places.resets r)

  abbrev pub match_cell : ℕ → List (Option ℕ) → Row Cell
  match_cell k all = match_on (whole_of b.def.now k) all

  abbrev pub present_cell : List ℕ → Place → Row Cell
  present_cell xs p i = at (spec.present_here b xs p i) (spec.first_emitted b xs p 0 i)

  abbrev pub active_cell : ℕ → States → Place → Row Cell
  active_cell m states p i = at (spec.mode_here b m p i) (know (spec.table b (key.Name (m + 1)) i) (spec.choice b true states i))

  abbrev pub tested_cell : ℕ → States → Place → Row Cell
  tested_cell m states p i = at (spec.mode_here b m p i) (know (previous (spec.mode_here b m p) (spec.again b p) i)
      (Turn.after_state (spec.cases b) b.defs.now (spec.call b) b.def.now (spec.around b) (spec.table b) (spec.choice b false states) (spec.table b (key.Name m))))

  abbrev pub name_cell : ℕ → Row Cell
  name_cell m = spec.name_cell b m (nth b.def.now.places.names (m - length b.def.now.params))
