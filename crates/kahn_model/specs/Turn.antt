-- A turn: each cell of a body's table anew from the table before it. After Kahn (1974) for streams and functions,
-- Colaço and Pouzet (EMSOFT 2003) for clocks, and Colaço, Pagano and Pouzet (EMSOFT 2005) for blocks and automata.
use Rattle.std.specs.Prelude.{ℕ, suc, ◌+◌, ◌-◌, Bool, true, false, List, [], ◌∷◌, ◌++◌, map, length, Option, Some, None, option_map, unwrap_or, if◌then◌else◌, nat_lt}
use Rattle.ls_value.specs.declared.leaf.Leaf.TheVariants as leaf
use Rattle.ls_ast.specs.declared.tree.Case.{Case}
use Rattle.ls_ast.specs.declared.tree.Case.TheVariants as case
use Rattle.ls_ast.specs.declared.tree.Expr.{Expr-F, fold-Expr}
use Rattle.ls_ast.specs.declared.tree.Form.TheOpen.{Form-F}
use Rattle.ls_terms.specs.declared.clocks.ClockTerm.{ClockTerm, fold-ClockTerm, out-ClockTerm}
use Rattle.ls_terms.specs.declared.clocks.ClockTerm.TheOpen.{ClockTerm-F}
use Rattle.ls_places.specs.Places.{Place, InnerArm, arms}
use Rattle.ls_sig.specs.declared.binder.Binder.{Binder}
use Rattle.ls_sig.specs.declared.binder.Binder.TheVariants as b
use Rattle.ls_sig.specs.declared.binder.Note.{Note}
use Rattle.ls_places.specs.declared.places.Frame.TheVariants as frame
use Rattle.ls_places.specs.declared.places.Named.{Named}
use Rattle.ls_places.specs.declared.places.Named.TheVariants as named
use Rattle.ls_places.specs.declared.places.Right.{Right}
use Rattle.ls_places.specs.declared.places.Right.TheVariants as rhs
use Rattle.ls_places.specs.declared.places.Site.{Site}
use Rattle.ls_places.specs.declared.places.Start.{Start}
use Rattle.ls_places.specs.declared.places.Transition.{Transition}
use Rattle.ls_places.specs.declared.places.Variable.{Variable}
use Rattle.kahn_model.specs.declared.cell.Cell.{Cell}
use Rattle.kahn_model.specs.declared.cell.Cell.TheVariants.{Absent, Silent, Present, Chosen}
use Rattle.ls_places.specs.declared.definition.Key.{Key}
use Rattle.ls_places.specs.declared.definition.Key.TheVariants as key
use Rattle.kahn_model.specs.declared.cell.Reach.{Reach}
use Rattle.kahn_model.specs.declared.cell.Reach.TheVariants.{Here}
use Rattle.kahn_model.specs.declared.cell.Value.TheVariants as v
use Rattle.ls_places.specs.declared.definition.Definition.{Definition}
use Rattle.kahn_model.specs.Rows.{Row, know, know_all, either, both, previous}
use Rattle.kahn_model.specs.Values.{nil, tuple, case_of, eval}
use Rattle.ls_places.specs.Clocks.{bare, meets, meets_all, is_function}
use Rattle.kahn_model.specs.Cells.{is_case, restarts, is_yes, emitted, value_in, values_in, say, part, at, after_first}
use Rattle.kahn_model.specs.Functions.{Arg, stream, def, given, Around, Meaning, Said, nowhere, never_on, row_of, give_args, arg_at, param_in, cells_at, args_said, clocks_said}
use Rattle.ls_places.specs.Search.{same_number, and, E, nth, lacks, in_signature, home_of, mode_clock, param_clock, signal_arms, signal_at, sites_of, start_of, state_of, guards_of, tested_outside, whole_of}
use Rattle.kahn_model.specs.Choices.{chosen_arm, by_reach, yes_or, reach_case, case_value}

abbrev pub Table : Type 0
Table = Key → Row Cell

-- the meaning of a body, given that of the calls in it and the table before
module _ (cases : ℕ → Option ℕ) (defs : List Definition) (call : Meaning) (d : Definition) (a : Around) (T : Table) where
  -- ---- what is around a place

  -- where a place is active: its innermost arm is the one that its block chooses
  abbrev pub active_from : Row Bool → List InnerArm → Row Bool
  active_from row [] = row
  active_from row (mj ∷ p) = active_from (λ i. say (is_case mj.1) (T (key.Name mj.0) i)) p

  abbrev pub active : Place → Row Bool
  active p = active_from a.active (arms p)

  -- where a place restarts: with the body, with a `reset` around it whose condition is true, and with an arm around it that
  -- its automaton starts anew
  abbrev pub again_from : Row Bool → Place → Row Bool
  again_from row [] = row
  again_from row (frame.Reset r ∷ p) = again_from (λ i. either (row i) (say is_yes (T (key.Reset r) i))) p
  again_from row (frame.Arm m j ∷ p) = again_from (λ i. either (row i) (say (restarts j) (T (key.Name m) i))) p

  abbrev pub again : Place → Row Bool
  again p = again_from a.again p

  -- ---- presence

  -- the row of a clock name: of a parameter, of a variable, or of a block
  abbrev pub named_row : Option Named → ℕ → Row Cell
  named_row (Some (named.Clock x)) m = T (key.Var x)
  named_row _ m = T (key.Name m)

  abbrev pub case_row : ℕ → Row Cell
  case_row m = if nat_lt m (length d.params) then row_of (arg_at m a.args) else named_row (nth d.places.names (m - length d.params)) m

  -- A clock variable of the signature is on as the context says, any other where the smallest arm that holds all its
  -- occurrences is active. A sampled clock is on where the clock is and its name says the case.
  abbrev pub on_step : ClockTerm-F (Row Bool) → Row Bool
  on_step (ClockTerm-F.Var w) i = (if in_signature d w then a.clocks w else active_from a.active (home_of w d.places.exprs)) i
  on_step (ClockTerm-F.On ck m k) i = both (ck i) (say (is_case k) (case_row m i))
  on_step ClockTerm-F.Pointwise i = Some false
  on_step (ClockTerm-F.Arrow cks ck) i = Some false

  abbrev pub on : ClockTerm → Row Bool
  on = fold-ClockTerm (Row Bool) on_step

  -- ---- variables and parameters

  abbrev pub look : Binder → ℕ → Arg
  look (b.Var k) x = stream (T (key.Var k))
  look (b.Param k) x = param_in x d.params a.args
  look _ x = stream nowhere

  -- where a clock is on, if there is one
  abbrev pub where_on : Option ClockTerm → Row Bool
  where_on None = never_on
  where_on (Some ck) = on ck

  -- the clock of a variable, by an equation for it: that of the equation without the arms between
  abbrev pub right_here : Site → Right → Row Bool
  right_here s (rhs.Part p k) = on (bare (length s.inner) (whole_of d k).expr.note.ck)
  right_here s (rhs.Whole k) = on (bare (length s.inner) (whole_of d k).expr.note.ck)
  right_here s (rhs.Pattern x p) = active s.place

  abbrev pub variable_here_at : Option Site → Row Bool
  variable_here_at None = never_on
  variable_here_at (Some s) = right_here s s.right

  abbrev pub variable_here : ℕ → Row Bool
  variable_here x = variable_here_at (nth (sites_of x d.places.sites) 0)

  -- a clock sampled at arms: on where it is, and each block chooses its arm
  abbrev pub in_arms : Row Bool → List InnerArm → Row Bool
  in_arms row [] = row
  in_arms row (mj ∷ p) = in_arms (λ i. both (row i) (say (is_case mj.1) (T (key.Name mj.0) i))) p

  -- the clock of the signal of this name: that of the variable, or else of the parameter
  abbrev pub signal_clock : ℕ → Option ℕ → Row Bool
  signal_clock x (Some k) = variable_here k
  signal_clock x None = where_on (param_clock x d.params d.clocks)

  -- the clock of the signal of this name that is seen in these arms, sampled at those between its list and here
  abbrev pub signal_here : ℕ → List InnerArm → Row Bool
  signal_here x p = in_arms (signal_clock x (signal_at d x p)) (signal_arms d x p)

  -- `last x`: x at its own previous instant, and at a first instant its initial equation, or Nil without one
  abbrev pub start_row : ℕ → Option Start → Row Cell
  start_row x None i = Some (Present nil)
  start_row x (Some s) i = T (key.Start x) i

  abbrev pub last_of : ℕ → Option Variable → Row Cell
  last_of x None i = Some Absent
  last_of x (Some w) i =
      know (previous (variable_here x) (again w.place) i)
      (after_first (start_row x (start_of w d.places.starts) i) (T (key.Var x)))

  abbrev pub last : ℕ → Row Cell
  last x = last_of x (nth d.places.vars x)

  abbrev pub last_bound : Binder → Row Cell
  last_bound (b.Var x) = last x
  last_bound _ = nowhere

  -- ---- functions

  -- the rows of the clock variables of a definition's signature, where it is called or passed at these clocks
  abbrev pub instance_of : Option Definition → List ClockTerm → ClockTerm → ℕ → Row Bool
  instance_of None cks ck = λ w. never_on
  instance_of (Some e) cks ck = λ w. where_on (meets_all (map meets (e.clocks ++ e.result.note.ck ∷ [])) (cks ++ ck ∷ []) w)

  -- a function that is passed as a pointwise one has none of its own
  abbrev pub clocks_at : ℕ → List ClockTerm → ClockTerm → ClockTerm-F ClockTerm → Option (ℕ → Row Bool)
  clocks_at k cks ck ClockTerm-F.Pointwise = None
  clocks_at k cks ck (ClockTerm-F.Arrow more result) = Some (instance_of (nth defs k) (cks ++ more) result)
  clocks_at k cks ck _ = Some (instance_of (nth defs k) cks ck)

  -- the function that a call's head names
  abbrev pub head_of : Binder → ClockTerm → ℕ → List ClockTerm → Arg
  head_of (b.Def k) ck x cks = def k (clocks_at k cks ck (out-ClockTerm ck))
  head_of bound ck x cks = look bound x

  -- Applying a function value: the body of its definition with the activity and the restarts of the call's place. Without
  -- clock rows of its own each clock variable of its signature is the presence of the call.
  abbrev pub apply : Arg → List Arg → Row Bool → Row Bool → Row Bool → Row Cell
  apply (stream row) args here' active' again' = nowhere
  apply (def k clocks) args here' active' again' =
      call k (record { active = active'; again = again'; clocks = unwrap_or clocks (λ w. here'); args = args })
  apply (given f g) args here' active' again' = apply f (g ∷ args) here' active' again'

  -- `every e` restarts the body where e is true
  abbrev pub every_too : Row Bool → Option Said → Row Bool
  every_too row None i = row i
  every_too row (Some s) i = either (row i) (say is_yes (row_of s.arg i))

  -- a call; with fewer arguments than parameters it is a function value
  abbrev pub called : Row Bool → Row Bool → Note → Arg → List Said → Option Said → Arg
  called active' again' note f args every =
      if is_function note then give_args f (args_said args)
      else stream (apply f (args_said args) (on note.ck) active' (every_too again' every))

  -- a bare name: a definition without parameter is called
  abbrev pub used : Row Bool → Row Bool → Note → Binder → ℕ → Arg
  used active' again' note (b.Def k) x = called active' again' note (head_of (b.Def k) note.ck x []) [] None
  used active' again' note bound x = look bound x

  -- ---- expressions

  abbrev pub case_number : Case → Option ℕ
  case_number case.True = Some 1
  case_number case.False = Some 0
  case_number (case.Of x) = cases x.0

  -- `merge`: the branch of the case that its condition names, and Nil where that is Nil
  abbrev pub branch : ℕ → List (Case × Said) → Row Cell
  branch k [] i = Some Absent
  branch k (c ∷ rest) i = (if unwrap_or (option_map (λ j. same_number j k) (case_number c.0)) false then row_of c.1.arg else branch k rest) i

  abbrev pub merged_case : List (Case × Said) → ℕ → Option ℕ → Option Cell
  merged_case choices i None = Some (Present nil)
  merged_case choices i (Some k) = branch k choices i

  abbrev pub merged : List (Case × Said) → ℕ → Cell → Option Cell
  merged choices i c = merged_case choices i (case_of (value_in c))

  -- an expression restarts with its place, and also where a variable is present and true that its note lists
  abbrev pub again_too : Row Bool → List ℕ → Row Bool
  again_too row [] = row
  again_too row (x ∷ xs) = again_too (λ i. either (row i) (say is_yes (T (key.Var x) i))) xs

  -- each form by the cells of its parts, at a place with this activity and these restarts
  abbrev pub form_step : Row Bool → Row Bool → Form-F Note (Note → Arg) Said → Note → Arg
  form_step act rst (Form-F.Leaf l) note = stream (λ i. Some (Present (v.Leaf l)))
  form_step act rst (Form-F.Case x) note = stream (λ i. Some (Present (case_value note.bound)))
  form_step act rst (Form-F.Var x) note = used act rst note note.bound x.0
  form_step act rst (Form-F.Last x) note = stream (last_bound note.bound)
  form_step act rst (Form-F.Asked x) note = stream (λ i. know (row_of (look note.bound x.0) i) (λ c. Some (Present (v.Leaf (leaf.Bool (emitted c))))))
  form_step act rst (Form-F.Op o args) note = stream (λ i. know (know_all (cells_at i args)) (λ cs. Some (Present (eval o (values_in cs)))))
  form_step act rst (Form-F.Tuple all) note = stream (λ i. know (know_all (cells_at i all)) (λ cs. Some (Present (tuple (values_in cs)))))
  form_step act rst (Form-F.Pre e) note = stream (λ i. know (previous (on note.ck) (again_too rst note.restarts) i) (after_first (Some (Present nil)) (row_of e.arg)))
  form_step act rst (Form-F.Fby x y) note = stream (λ i. know (previous (on note.ck) (again_too rst note.restarts) i) (after_first (row_of x.arg i) (row_of y.arg)))
  form_step act rst (Form-F.Init x y) note = stream (λ i. know (previous (on note.ck) (again_too rst note.restarts) i) (after_first (row_of x.arg i) (λ j. row_of y.arg i)))
  form_step act rst (Form-F.When e x k) note = stream (row_of e.arg)
  form_step act rst (Form-F.Merge x choices) note = stream (λ i. know (row_of (look note.bound x.0) i) (merged choices i))
  form_step act rst (Form-F.Call run x args every) note = called act rst note (head_of note.bound note.ck x.0 (clocks_said args)) args every

  -- every expression is absent where its clock is off
  abbrev pub on_clock : Note → Arg → Arg
  on_clock note (stream row) = stream (λ i. at (on note.ck i) (row i))
  on_clock note f = f

  abbrev pub expr_step : Expr-F Note (Note → Arg) Said → Said
  expr_step e = record { note = e.note; arg = on_clock e.note (e.form e.note) }

  -- what stands at an expression at a place
  abbrev pub said : Place → E → Said
  said p e = fold-Expr Note (Note → Arg) Said (form_step (active p) (again p)) expr_step e

  -- the row of an expression at a place
  abbrev pub cell : Place → E → Row Cell
  cell p e = row_of (said p e).arg

  -- the row of the whole expression of this number
  abbrev pub whole : ℕ → Row Cell
  whole k = cell (whole_of d k).place (whole_of d k).expr

  -- ---- variables that several arms share

  -- whether the arms between a list and an equation are active
  abbrev pub reach : List InnerArm → Row Reach
  reach [] i = Some Here
  reach (mj ∷ rest) i = know (T (key.Name mj.0) i) (reach_case mj.1 (reach rest i))

  -- the signal that a test names
  abbrev pub signal_row_at : ℕ → Option ℕ → Row Cell
  signal_row_at x (Some k) = T (key.Var k)
  signal_row_at x None = row_of (param_in x d.params a.args)

  abbrev pub signal_row : ℕ → Place → Row Cell
  signal_row x p = signal_row_at x (signal_at d x (arms p))

  -- the cell that an equation gives to a name
  abbrev pub right_cell : ℕ → Place → Right → Row Cell
  right_cell x place (rhs.Part p k) i = know (whole k i) (λ c. Some (part p x c))
  right_cell x place (rhs.Whole k) i = whole k i
  right_cell x place (rhs.Pattern y p) i = know (signal_row y place i) (λ c. Some (part p x c))

  -- the first equation whose arms are active, and else the other row
  abbrev pub by_sites : Variable → Row Cell → List Site → Row Cell
  by_sites w more [] i = more i
  by_sites w more (s ∷ rest) i =
      know (reach s.inner i) (by_reach (right_cell w.name s.place s.right i) (by_sites w more rest i) w.signal)

  -- where no equation for a variable is active: a signal is not emitted, and another is `last x`, if some arm has no equation
  -- for it
  abbrev pub otherwise : ℕ → Variable → Row Cell
  otherwise x w = if w.signal then (λ j. Some Silent) else (if lacks d (sites_of x d.places.sites) then last x else nowhere)

  abbrev pub variable_cell : ℕ → Option Variable → Row Cell
  variable_cell x None i = Some Absent
  variable_cell x (Some w) i = at (variable_here x i) (by_sites w (otherwise x w) (sites_of x d.places.sites) i)

  abbrev pub start_cell : Option Start → Row Cell
  start_cell None i = Some Absent
  start_cell (Some s) i = whole s.right i

  -- ---- blocks and automata

  -- An automaton is on where the clock is that its names sample. Where no clock samples them, it is on with a signal from
  -- outside that a `present` in its arms tests; and where there is none, where its place is active.
  abbrev pub mode_on : Option ClockTerm → Option ℕ → Place → Row Bool
  mode_on (Some ck) tested p = on ck
  mode_on None (Some x) p = signal_here x (arms p)
  mode_on None None p = active p

  abbrev pub mode_here : ℕ → Place → Row Bool
  mode_here m p = mode_on (mode_clock m d.places.exprs) (tested_outside d m) p

  -- the target of the first true guard, and else the other cell
  abbrev pub first_true : List (ℕ × List Transition) → Option Cell → List Transition → Row Cell
  first_true states none [] i = none
  first_true states none (g ∷ gs) i = know (whole g.cond i) (λ c.
      yes_or (Some (Chosen (Some (state_of g.target states 0)) g.restart)) (first_true states none gs i) (is_yes c))

  -- by the guards of the state that a cell names; where none is true, that cell or without its restart
  abbrev pub choice : Bool → List (ℕ × List Transition) → ℕ → Cell → Option Cell
  choice keep states i (Chosen (Some s) restart) =
      first_true states (Some (Chosen (Some s) (and keep restart))) (guards_of states s) i
  choice keep states i c = Some c

  -- the selector of a `present`: the first test whose signal is emitted, and else the last arm
  abbrev pub first_emitted : List ℕ → Place → ℕ → ℕ → Option Cell
  first_emitted [] p j i = Some (Chosen (Some j) false)
  first_emitted (x ∷ xs) p j i = know (signal_row x p i) (λ c. yes_or (Some (Chosen (Some j) false)) (first_emitted xs p (suc j) i) (emitted c))

  -- a `present` is on where the signals that it tests are, in the arms between
  abbrev pub present_here : List ℕ → Place → Row Bool
  present_here [] p = active p
  present_here (x ∷ xs) p = signal_here x (arms p)

  -- from the initial state at a first instant
  abbrev pub after_state : (ℕ → Cell → Option Cell) → Row Cell → Option ℕ → Option Cell
  after_state next row None = Some (Chosen (Some 0) false)
  after_state next row (Some j) = know (row j) (next j)

  -- The selector of a `match` or `present`. The active state of an automaton is what the strong guards of the tested state
  -- choose, and the tested one what the weak guards of the state active at the previous instant chose.
  abbrev pub name_cell : ℕ → Option Named → Row Cell
  name_cell m None i = Some Absent
  name_cell m (Some (named.Clock x)) i = Some Absent
  name_cell m (Some (named.Match k all p)) i =
      at (on (whole_of d k).expr.note.ck i) (know (whole k i) (λ c. Some (Chosen (chosen_arm all (value_in c)) false)))
  name_cell m (Some (named.Present xs p)) i = at (present_here xs p i) (first_emitted xs p 0 i)
  name_cell m (Some (named.Active states p)) i = at (mode_here m p i) (know (T (key.Name (m + 1)) i) (choice true states i))
  name_cell m (Some (named.Tested states p)) i =
      at (mode_here (m - 1) p i) (know (previous (mode_here (m - 1) p) (again p) i) (after_state (choice false states) (T (key.Name (m - 1)))))

  abbrev pub start_of_variable : Option Variable → Row Cell
  start_of_variable None i = Some Absent
  start_of_variable (Some w) i = start_cell (start_of w d.places.starts) i

  abbrev pub reset_cell : Option ℕ → Row Cell
  reset_cell None i = Some Absent
  reset_cell (Some k) i = whole k i

  -- a turn
  abbrev pub turn : Table
  turn (key.Var x) = variable_cell x (nth d.places.vars x)
  turn (key.Start x) = start_of_variable (nth d.places.vars x)
  turn (key.Name m) = name_cell m (nth d.places.names (m - length d.params))
  turn (key.Reset r) = reset_cell (nth d.places.resets r)

  -- the row of the body's result
  abbrev pub answer : Row Cell
  answer = cell [] d.result
