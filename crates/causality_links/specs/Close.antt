-- What the model reads and the rules of causality do not name: it stands around the place that reads it.
use Rattle.std.specs.Prelude.{ℕ, ◌-◌, List, [], ◌∷◌, ◌++◌, length, Option, Some, None, if◌then◌else◌, nat_lt}
use Rattle.ls_ast.specs.declared.tree.Expr.{Expr-F, fold-Expr}
use Rattle.ls_ast.specs.declared.tree.Form.TheOpen.{Form-F}
use Rattle.ls_terms.specs.declared.clocks.ClockTerm.{ClockTerm, fold-ClockTerm}
use Rattle.ls_terms.specs.declared.clocks.ClockTerm.TheOpen.{ClockTerm-F}
use Rattle.ls_places.specs.Patterns.{joined}
use Rattle.ls_places.specs.Places.{Place, arms}
use Rattle.ls_sig.specs.declared.binder.Binder.{Binder}
use Rattle.ls_sig.specs.declared.binder.Binder.TheVariants as b
use Rattle.ls_sig.specs.declared.binder.Note.{Note}
use Rattle.ls_places.specs.declared.places.Named.{Named}
use Rattle.ls_places.specs.declared.places.Named.TheVariants as named
use Rattle.ls_places.specs.declared.places.Right.{Right}
use Rattle.ls_places.specs.declared.places.Right.TheVariants as rhs
use Rattle.ls_places.specs.declared.places.Site.{Site}
use Rattle.ls_places.specs.declared.places.Variable.{Variable}
use Rattle.ls_places.specs.declared.places.Whole.{Whole}
use Rattle.ls_places.specs.declared.definition.Key.{Key}
use Rattle.ls_places.specs.declared.definition.Key.TheVariants as key
use Rattle.ls_places.specs.declared.definition.Definition.{Definition}
use Rattle.ls_places.specs.Clocks.{bare, choice_parts}
use Rattle.ls_places.specs.Search.{E, nth, clock_of_param, home_of, in_signature, mode_clock, signal_arms, signal_at, sites_of, tested_outside, whole_of}
use Rattle.kahn_model.specs.Reads.{Shape, arm_keys, key_needs, needs_at, result_needs}
use Rattle.kahn_model.specs.Fullness.{All, HasKey}
use Rattle.kahn_model.specs.Table.{row_keys}
use Rattle.kahn_model.specs.Causality.{InTable}
use Rattle.digraph.specs.Graph.{In}
use Rattle.causality_rules.specs.Reads.{place_rows, bound_rows, restart_rows, last_rows, clock_rows}

-- all of the first are among the second
abbrev pub Sub : List Key → List Key → Type 0
Sub xs ys = (l : Key) → In l xs → In l ys

abbrev pub Each : {A : Type 0} → (A → Type 0) → List A → Type 0
Each P [] = Unit {0}
Each P (x ∷ xs) = P x × Each P xs

-- what an expression reads by the rules, and what besides
pub record Wide : Type 0 where
  pub note : Note
  pub rows : List Key
  pub more : List Key

pub record Two : Type 0 where
  pub rows : List Key
  pub more : List Key

abbrev pub nothing_read : Two
nothing_read = record { rows = []; more = [] }

abbrev pub both_read : Two → Two → Two
both_read r s = record { rows = r.rows ++ s.rows; more = r.more ++ s.more }

abbrev pub rows_alone : List Key → Two
rows_alone xs = record { rows = xs; more = [] }

abbrev pub of_wide : Wide → Two
of_wide w = record { rows = w.rows; more = w.more }

abbrev pub all_wide : List Wide → Two
all_wide [] = nothing_read
all_wide (r ∷ rs) = both_read (of_wide r) (all_wide rs)

abbrev pub every_wide : Option Wide → Two
every_wide None = nothing_read
every_wide (Some r) = of_wide r

module _ (d : Definition) where
  abbrev pub unknown_name : ℕ → Option Named → List Key
  unknown_name m None = key.Name m ∷ []
  unknown_name m (Some n) = []

  abbrev pub unknown_names : ℕ → List Key
  unknown_names m = if nat_lt m (length d.params) then [] else unknown_name m (nth d.places.names (m - length d.params))

  -- a clock variable that nothing paces is on where the smallest arm is active that holds all its occurrences
  abbrev pub clock_more_step : ClockTerm-F (List Key) → List Key
  clock_more_step (ClockTerm-F.Var w) = if in_signature d w then [] else arm_keys (home_of w d.places.exprs)
  clock_more_step (ClockTerm-F.On ck m k) = unknown_names m ++ ck
  clock_more_step ClockTerm-F.Pointwise = []
  clock_more_step (ClockTerm-F.Arrow cks ck) = joined cks ++ ck

  abbrev pub clock_more : ClockTerm → List Key
  clock_more = fold-ClockTerm (List Key) clock_more_step

  -- `last x` also waits for the arms around the place of x, which may start it anew
  abbrev pub last_more_of : Option Variable → List Key
  last_more_of None = []
  last_more_of (Some w) = arm_keys (arms w.place)

  abbrev pub last_more : Binder → List Key
  last_more (b.Var x) = last_more_of (nth d.places.vars x)
  last_more _ = []

  abbrev pub form_wide : Form-F Note (Note → Two) Wide → Note → Two
  form_wide (Form-F.Leaf l) n = nothing_read
  form_wide (Form-F.Case x) n = nothing_read
  form_wide (Form-F.Var x) n = rows_alone (bound_rows n.bound)
  form_wide (Form-F.Last x) n = record { rows = last_rows d n.bound; more = last_more n.bound }
  form_wide (Form-F.Asked x) n = rows_alone (bound_rows n.bound)
  form_wide (Form-F.Op o args) n = all_wide args
  form_wide (Form-F.Tuple all) n = all_wide all
  form_wide (Form-F.Pre e) n = rows_alone (restart_rows n.restarts)
  form_wide (Form-F.Fby x y) n = both_read (rows_alone (restart_rows n.restarts)) (of_wide x)
  form_wide (Form-F.Init x y) n = both_read (rows_alone (restart_rows n.restarts)) (both_read (of_wide x) (of_wide y))
  form_wide (Form-F.When e x k) n = both_read (rows_alone (bound_rows n.bound)) (of_wide e)
  form_wide (Form-F.Merge x choices) n = both_read (rows_alone (bound_rows n.bound)) (all_wide (choice_parts choices))
  form_wide (Form-F.Call run head args every) n = both_read (rows_alone (bound_rows n.bound)) (both_read (all_wide args) (every_wide every))

  abbrev pub expr_wide : Expr-F Note (Note → Two) Wide → Wide
  expr_wide e = record {
    note = e.note;
    rows = clock_rows d e.note.ck ++ (e.form e.note).rows;
    more = clock_more e.note.ck ++ (e.form e.note).more;
  }

  abbrev pub wide : E → Wide
  wide = fold-Expr Note (Note → Two) Wide form_wide expr_wide

  abbrev pub more_of : E → List Key
  more_of e = (wide e).more

  abbrev pub Near : Place → E → Type 0
  Near p e = Sub (more_of e) (place_rows p)

  -- the clock of a signal that is seen in these arms
  abbrev pub right_more : Site → Right → List Key
  right_more s (rhs.Part pat k) = clock_more (bare (length s.inner) (whole_of d k).expr.note.ck)
  right_more s (rhs.Whole k) = clock_more (bare (length s.inner) (whole_of d k).expr.note.ck)
  right_more s (rhs.Pattern y pat) = arm_keys (arms s.place)

  abbrev pub site_more : Option Site → List Key
  site_more None = []
  site_more (Some s) = right_more s s.right

  abbrev pub some_more : Option ClockTerm → List Key
  some_more None = []
  some_more (Some ck) = clock_more ck

  abbrev pub signal_more : ℕ → Option ℕ → List Key
  signal_more x (Some k) = site_more (nth (sites_of k d.places.sites) 0)
  signal_more x None = some_more (clock_of_param d x)

  abbrev pub SignalNear : Place → ℕ → Type 0
  SignalNear p x = Sub (signal_more x (signal_at d x (arms p))) (place_rows p) × Sub (arm_keys (signal_arms d x (arms p))) (place_rows p)

  abbrev pub ModeNear : Place → Option ClockTerm → Option ℕ → Type 0
  ModeNear p (Some ck) x = Sub (clock_more ck) (place_rows p)
  ModeNear p None (Some x) = SignalNear p x
  ModeNear p None None = Unit {0}

  abbrev pub PresentNear : Place → List ℕ → Type 0
  PresentNear p [] = Unit {0}
  PresentNear p (x ∷ xs) = SignalNear p x

  abbrev pub NameNear : ℕ → Option Named → Type 0
  NameNear m None = Unit {0}
  NameNear m (Some (named.Clock x)) = Unit {0}
  NameNear m (Some (named.Match k all p)) = Unit {0}
  NameNear m (Some (named.Present xs p)) = PresentNear p xs
  NameNear m (Some (named.Active states p)) = ModeNear p (mode_clock m d.places.exprs) (tested_outside d m)
  NameNear m (Some (named.Tested states p)) = ModeNear p (mode_clock (m - 1) d.places.exprs) (tested_outside d (m - 1))

  pub record Close : Type 0 where
    pub wholes : (k : ℕ) → Near (whole_of d k).place (whole_of d k).expr
    pub inner : Each (λ (s : Site). Sub (arm_keys s.inner) (place_rows s.place)) d.places.sites
    pub names : (m : ℕ) → NameNear m (nth d.places.names (m - length d.params))

-- all that the model reads is a row of the body's table
pub record Scoped (d : Definition) (shapes : List Shape) : Type 0 where
  pub rows : (k : Key) → HasKey k (row_keys d) → InTable d (key_needs d shapes k)
  pub exprs : All (λ (w : Whole Note). InTable d (needs_at d shapes w.place w.expr)) d.places.exprs
  pub result : InTable d (result_needs d shapes)
