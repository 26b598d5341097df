-- Causality: what each row of a body reads at once, by the rules for expressions and blocks. A row is a variable, the initial
-- equation of a variable, a block (the selector of a `match` or `present`, the active or the tested row of an automaton), or
-- the condition of a `reset`.
use Rattle.std.specs.Prelude.{ℕ, ◌+◌, ◌-◌, List, [], ◌∷◌, ◌++◌, map, length, Option, Some, None, if◌then◌else◌, nat_lt}
use Rattle.ls_ast.specs.declared.tree.Expr.{Expr-F, fold-Expr}
use Rattle.ls_ast.specs.declared.tree.Form.TheOpen.{Form-F}
use Rattle.ls_terms.specs.declared.clocks.ClockTerm.{ClockTerm, fold-ClockTerm}
use Rattle.ls_terms.specs.declared.clocks.ClockTerm.TheOpen.{ClockTerm-F}
use Rattle.ls_places.specs.Patterns.{joined}
use Rattle.ls_places.specs.Places.{Place, arms}
use Rattle.ls_sig.specs.declared.binder.Binder.{Binder}
use Rattle.ls_sig.specs.declared.binder.Binder.TheVariants as b
use Rattle.ls_sig.specs.declared.binder.Note.{Note}
use Rattle.ls_places.specs.declared.places.Frame.TheVariants as frame
use Rattle.ls_places.specs.declared.places.Named.{Named}
use Rattle.ls_places.specs.declared.places.Named.TheVariants as named
use Rattle.ls_places.specs.declared.places.Right.{Right}
use Rattle.ls_places.specs.declared.places.Right.TheVariants as rhs
use Rattle.ls_places.specs.declared.places.Site.{Site}
use Rattle.ls_places.specs.declared.places.Start.{Start}
use Rattle.ls_places.specs.declared.places.Transition.{Transition}
use Rattle.ls_places.specs.declared.places.Variable.{Variable}
use Rattle.ls_places.specs.declared.definition.Key.{Key}
use Rattle.ls_places.specs.declared.definition.Key.TheVariants as key
use Rattle.ls_places.specs.declared.definition.Definition.{Definition}
use Rattle.ls_places.specs.Clocks.{bare, choice_parts, noted}
use Rattle.ls_places.specs.Search.{E, nth, all_clocks, clock_of_param, lacks, signal_at, sites_of, start_of, tested_outside, whole_of}

abbrev pub bound_rows : Binder → List Key
bound_rows (b.Var k) = key.Var k ∷ []
bound_rows _ = []

abbrev pub start_rows : ℕ → Option Start → List Key
start_rows x None = []
start_rows x (Some s) = key.Start x ∷ []

abbrev pub restart_rows : List ℕ → List Key
restart_rows = map {A = ℕ} {B = Key} key.Var

-- the conditions of the resets around a place
abbrev pub reset_rows : Place → List Key
reset_rows [] = []
reset_rows (frame.Reset r ∷ p) = key.Reset r ∷ reset_rows p
reset_rows (frame.Arm m j ∷ p) = reset_rows p

-- and these with the blocks of the arms around it
abbrev pub place_rows : Place → List Key
place_rows [] = []
place_rows (frame.Reset r ∷ p) = key.Reset r ∷ place_rows p
place_rows (frame.Arm m j ∷ p) = key.Name m ∷ place_rows p

-- what an expression reads, with its note
pub record Read : Type 0 where
  pub note : Note
  pub rows : List Key

abbrev pub all_read : List Read → List Key
all_read [] = []
all_read (r ∷ rs) = r.rows ++ all_read rs

abbrev pub every_read : Option Read → List Key
every_read None = []
every_read (Some r) = r.rows

module _ (d : Definition) where
  -- the names in a clock

  abbrev pub name_row : ℕ → Option Named → List Key
  name_row m None = []
  name_row m (Some (named.Clock x)) = key.Var x ∷ []
  name_row m (Some _) = key.Name m ∷ []

  abbrev pub name_rows : ℕ → List Key
  name_rows m = if nat_lt m (length d.params) then [] else name_row m (nth d.places.names (m - length d.params))

  abbrev pub clock_rows_step : ClockTerm-F (List Key) → List Key
  clock_rows_step (ClockTerm-F.Var w) = []
  clock_rows_step (ClockTerm-F.On ck m k) = name_rows m ++ ck
  clock_rows_step ClockTerm-F.Pointwise = []
  clock_rows_step (ClockTerm-F.Arrow cks ck) = joined cks ++ ck

  abbrev pub clock_rows : ClockTerm → List Key
  clock_rows = fold-ClockTerm (List Key) clock_rows_step

  -- ---- expressions

  -- `last x` reads the initial equation of x and the conditions of the resets around the place of x
  abbrev pub last_rows_of : ℕ → Option Variable → List Key
  last_rows_of x None = []
  last_rows_of x (Some w) = start_rows x (start_of w d.places.starts) ++ reset_rows w.place

  abbrev pub last_rows : Binder → List Key
  last_rows (b.Var x) = last_rows_of x (nth d.places.vars x)
  last_rows _ = []

  -- Nothing is read at once below `pre` or on the right of `fby`. A delay reads the variables that its note lists. A call reads
  -- all its arguments.
  abbrev pub form_rows : Form-F Note (Note → List Key) Read → Note → List Key
  form_rows (Form-F.Leaf l) n = []
  form_rows (Form-F.Case x) n = []
  form_rows (Form-F.Var x) n = bound_rows n.bound
  form_rows (Form-F.Last x) n = last_rows n.bound
  form_rows (Form-F.Asked x) n = bound_rows n.bound
  form_rows (Form-F.Op o args) n = all_read args
  form_rows (Form-F.Tuple all) n = all_read all
  form_rows (Form-F.Pre e) n = restart_rows n.restarts
  form_rows (Form-F.Fby x y) n = restart_rows n.restarts ++ x.rows
  form_rows (Form-F.Init x y) n = restart_rows n.restarts ++ (x.rows ++ y.rows)
  form_rows (Form-F.When e x k) n = bound_rows n.bound ++ e.rows
  form_rows (Form-F.Merge x choices) n = bound_rows n.bound ++ all_read (choice_parts choices)
  form_rows (Form-F.Call run head args every) n = bound_rows n.bound ++ (all_read args ++ every_read every)

  -- every expression reads the names in its own clock
  abbrev pub expr_rows : Expr-F Note (Note → List Key) Read → Read
  expr_rows e = record { note = e.note; rows = clock_rows e.note.ck ++ e.form e.note }

  abbrev pub read_by : E → List Key
  read_by e = (fold-Expr Note (Note → List Key) Read form_rows expr_rows e).rows

  -- ---- equations and blocks; each reads what stands around it

  -- the whole expression of this number, at its place
  abbrev pub whole_rows : ℕ → List Key
  whole_rows k = place_rows (whole_of d k).place ++ read_by (whole_of d k).expr

  abbrev pub signal_rows_of : Option ℕ → List Key
  signal_rows_of (Some k) = key.Var k ∷ []
  signal_rows_of None = []

  abbrev pub signal_rows : Place → ℕ → List Key
  signal_rows p x = signal_rows_of (signal_at d x (arms p))

  abbrev pub right_rows : Place → Right → List Key
  right_rows p (rhs.Part pat k) = whole_rows k
  right_rows p (rhs.Whole k) = whole_rows k
  right_rows p (rhs.Pattern y pat) = signal_rows p y

  -- all equations of a variable, in all arms together
  abbrev pub sites_rows : List Site → List Key
  sites_rows [] = []
  sites_rows (s ∷ all) = place_rows s.place ++ (right_rows s.place s.right ++ sites_rows all)

  -- where an arm has no equation for it, its initial equation
  abbrev pub missing_rows : ℕ → Variable → List Key
  missing_rows x w = if w.signal then [] else (if lacks d (sites_of x d.places.sites) then start_rows x (start_of w d.places.starts) else [])

  -- The names in the clock of a variable are read by its equations. Where an arm has no equation for it, it also reads the
  -- conditions of the resets around its place, as `last x` does; its place has them.
  abbrev pub variable_rows : ℕ → Option Variable → List Key
  variable_rows x None = []
  variable_rows x (Some w) = place_rows w.place ++ (missing_rows x w ++ sites_rows (sites_of x d.places.sites))

  -- an initial equation reads the conditions of the resets around the place of its name, too
  abbrev pub start_of_rows : Place → Option Start → List Key
  start_of_rows p None = []
  start_of_rows p (Some s) = reset_rows p ++ whole_rows s.right

  abbrev pub initial_rows : Option Variable → List Key
  initial_rows None = []
  initial_rows (Some w) = start_of_rows w.place (start_of w d.places.starts)

  -- ---- the clocks of blocks

  -- the clock of a variable, by its first equation: that of the expression without the samplings of the arms between
  abbrev pub right_clock : Site → Right → List Key
  right_clock s (rhs.Part pat k) = clock_rows (bare (length s.inner) (whole_of d k).expr.note.ck)
  right_clock s (rhs.Whole k) = clock_rows (bare (length s.inner) (whole_of d k).expr.note.ck)
  right_clock s (rhs.Pattern y pat) = []

  abbrev pub site_clock : Option Site → List Key
  site_clock None = []
  site_clock (Some s) = right_clock s s.right

  abbrev pub some_clock : Option ClockTerm → List Key
  some_clock None = []
  some_clock (Some ck) = clock_rows ck

  -- the names in the clock of a signal, a variable or a parameter
  abbrev pub signal_clock : ℕ → Option ℕ → List Key
  signal_clock x (Some k) = site_clock (nth (sites_of k d.places.sites) 0)
  signal_clock x None = some_clock (clock_of_param d x)

  -- A `present` is on the clock of the signals that it tests: the arms between stand around it.
  abbrev pub present_clock : List ℕ → Place → List Key
  present_clock [] p = []
  present_clock (x ∷ xs) p = signal_clock x (signal_at d x (arms p))

  abbrev pub tested_clock : Option ℕ → Place → List Key
  tested_clock None p = []
  tested_clock (Some x) p = signal_clock x (signal_at d x (arms p))

  -- The clock of an automaton is in no note of its own. It is below each sampling on one of its two names; and it is that of a
  -- signal from outside that is tested inside its arms.
  abbrev pub mode_rows : ℕ → Place → List Key
  mode_rows m p = some_clock (noted m (all_clocks d.places.exprs)) ++ (some_clock (noted (m + 1) (all_clocks d.places.exprs))
      ++ tested_clock (tested_outside d m) p)

  abbrev pub guard_rows : List Transition → List Key
  guard_rows [] = []
  guard_rows (g ∷ gs) = whole_rows g.cond ++ guard_rows gs

  abbrev pub state_rows : List (ℕ × List Transition) → List Key
  state_rows [] = []
  state_rows (s ∷ all) = guard_rows s.1 ++ state_rows all

  -- A tested row reads no guard; an active row reads the tested row and all strong guards.
  abbrev pub block_rows : ℕ → Option Named → List Key
  block_rows m None = []
  block_rows m (Some (named.Clock x)) = []
  block_rows m (Some (named.Match k all p)) = place_rows p ++ whole_rows k
  block_rows m (Some (named.Present xs p)) = place_rows p ++ (present_clock xs p ++ joined (map (signal_rows p) xs))
  block_rows m (Some (named.Active states p)) = key.Name (m + 1) ∷ (place_rows p ++ (mode_rows m p ++ state_rows states))
  block_rows m (Some (named.Tested states p)) = place_rows p ++ mode_rows (m - 1) p

  abbrev pub condition_rows : Option ℕ → List Key
  condition_rows None = []
  condition_rows (Some k) = whole_rows k

  -- what a row reads at once
  abbrev pub reads : Key → List Key
  reads (key.Var x) = variable_rows x (nth d.places.vars x)
  reads (key.Start x) = initial_rows (nth d.places.vars x)
  reads (key.Name m) = if nat_lt m (length d.params) then [] else block_rows m (nth d.places.names (m - length d.params))
  reads (key.Reset r) = condition_rows (nth d.places.resets r)
