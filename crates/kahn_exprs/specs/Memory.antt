-- What is on, and what has a previous instant.
use Rattle.std.specs.Prelude.{ℕ, ◌+◌, ◌<◌, ◌^◌, Bool, List, [], ◌∷◌, length, Option, Some, None}
use Rattle.ls_terms.specs.declared.clocks.ClockTerm.{ClockTerm}
use Rattle.ls_places.specs.Places.{InnerArm, Place, arms}
use Rattle.ls_places.specs.Search.{arms_within, nth, signal_list_at, whole_of}
use Rattle.ls_places.specs.Clocks.{bare}
use Rattle.ls_places.specs.declared.places.Site.{Site}
use Rattle.ls_places.specs.declared.places.Variable.{Variable}
use Rattle.kahn_model.specs.Rows.{Row}
use Rattle.kahn_model.specs.Turn
use Rattle.kahn_exprs.specs.declared.body.Body.{Body}
use Rattle.kahn_exprs.specs.declared.memory.Pace.{Pace}
use Rattle.kahn_exprs.specs.declared.memory.Pace.TheVariants as pace
use Rattle.kahn_exprs.specs.Body as spec

-- the second clock name of an automaton has a number
abbrev pub IsNumbered : Pace → Type 0
IsNumbered (pace.Mode m place) = m + 1 < 2 ^ 32
IsNumbered _ = Unit {0}

-- the arms after the first
abbrev pub inner_arms : List InnerArm → List InnerArm
inner_arms [] = []
inner_arms (a ∷ p) = p

module _ (b : Body) where
  -- where the clock of a whole expression is on, without its outermost samplings
  abbrev pub whole_on : ℕ → ℕ → Row Bool
  whole_on n k = spec.on b (bare n (whole_of b.def.now k).expr.note.ck)

  abbrev pub site_here : Site → Row Bool
  site_here s = Turn.right_here (spec.cases b) b.defs.now (spec.call b) b.def.now (spec.around b) (spec.table b) s s.right

  abbrev pub clock_on : Option ClockTerm → Row Bool
  clock_on = Turn.where_on (spec.cases b) b.defs.now (spec.call b) b.def.now (spec.around b) (spec.table b)

  abbrev pub signal_clock : ℕ → Option ℕ → Row Bool
  signal_clock = spec.signal_clock b

  abbrev pub arms_between : Option ℕ → List InnerArm → List InnerArm
  arms_between at p = arms_within (signal_list_at b.def.now at) p

  abbrev pub signal_here : ℕ → Place → Row Bool
  signal_here x p = spec.signal_here b x (arms p)

  abbrev pub restarts : Place → List ℕ → Row Bool
  restarts p too = spec.again_too b (spec.again b p) too

  -- where it is present
  abbrev pub paced : Pace → Row Bool
  paced (pace.Clock ck) = spec.on b ck.now
  paced (pace.Variable x) = spec.variable_here b x
  paced (pace.Mode m place) = spec.mode_here b m place.now
