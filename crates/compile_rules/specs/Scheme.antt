-- The compilation scheme, over names of slots: which slots an equation has, and what is done, in which order.
use Rattle.std.specs.Prelude.{ℕ, ◌==◌, ◌&&◌, ◌||◌, Bool as Truth, true, false, List, [], ◌∷◌, ◌++◌, map, if◌then◌else◌}
use Rattle.std.specs.List.{flat_map}
use Rattle.ls_value.specs.declared.leaf.Leaf.{Leaf}
use Rattle.ls_value.specs.declared.leaf.Leaf.TheVariants.{Nil, Bool}
use Rattle.ls_ops.specs.declared.kinds.Op.{Op as Operator}
use Rattle.ls_ops.specs.Values.{value_of, alarm_of}
use Rattle.core_lang.specs.declared.equations.CoreEq.{CoreEq}
use Rattle.core_lang.specs.declared.equations.CoreRight.{CoreRight}
use Rattle.core_lang.specs.declared.equations.CoreRight.TheVariants.{Const, Copy, Op, Pre, Fby, Init, Sample, Choose}
use Rattle.step_code.specs.Leaves.{tested, is_true, leaf_eq}
use Rattle.compile_rules.specs.declared.places.Place.{Place}
use Rattle.compile_rules.specs.declared.places.Place.TheVariants.{Value as value, Memory as memory, First as first, Guard as guard, Present as present, Emitted as emitted}
use Rattle.compile_rules.specs.declared.places.Act.{Act}
use Rattle.compile_rules.specs.declared.places.Act.TheVariants.{Put as put, Copy as copy, Operate as operate, Test as test}

-- ---- names of slots

abbrev pub same_place : Place → Place → Truth
same_place (value v) (value w) = v == w
same_place (memory v) (memory w) = v == w
same_place (first v) (first w) = v == w
same_place (guard v a) (guard w b) = (v == w) && leaf_eq a b
same_place (present v) (present w) = v == w
same_place (emitted v) (emitted w) = v == w
same_place _ _ = false

-- ---- acts

-- an act, and the places that must all hold true for it
abbrev pub Guarded : Type 0
Guarded = List Place × Act

-- the place that an act writes
abbrev pub dest : Act → Place
dest (put d leaf) = d
dest (copy d a) = d
dest (operate d op args) = d
dest (test d a leaf) = d

-- ---- the scheme

-- a truth value is its own guard for true
abbrev pub guard_of : ℕ → Leaf → Place
guard_of c (Bool true) = value c
guard_of c leaf = guard c leaf

abbrev pub path : List (ℕ × Leaf) → List Place
path clock = map (λ asked. guard_of asked.0 asked.1) clock

-- What is to be known of the whole core beside an equation: the clock of a variable, the leaves that guards ask of it (other
-- than true), whether it is an output's, whether it tells an output's signal, and, of a variable that has first instants, the
-- variable of the same clock and the same restarts whose flag tells them.
pub record Plan : Type 0 where
  pub clock : ℕ → List (ℕ × Leaf)
  pub leaves : ℕ → List Leaf
  pub shows : ℕ → Truth
  pub tells : ℕ → Truth
  pub lead : ℕ → ℕ

abbrev pub only : Truth → Guarded → List Guarded
only true act = act ∷ []
only false act = []

module _ (plan : Plan) where
  -- the guards of a variable that has its leaf
  abbrev pub tests : List Place → ℕ → List Guarded
  tests on v = map (λ leaf. (on, test (guard v leaf) (value v) leaf)) (plan.leaves v)

  abbrev pub restart_acts : ℕ → List ℕ → List Guarded
  restart_acts v restarts = map (λ r. (path (plan.clock r) ++ value r ∷ [], put (first v) (Bool true))) restarts

  -- a constant stands in its slot from before the first step on
  abbrev pub right_acts : ℕ → List Place → CoreRight → List Guarded
  right_acts v on (Const leaf) = []
  right_acts v on (Copy a) = (on, copy (value v) (value a)) ∷ []
  right_acts v on (Op op args) = (on, operate (value v) op (map value args)) ∷ []
  right_acts v on (Pre a) = (on, copy (value v) (memory v)) ∷ (on ++ first (plan.lead v) ∷ [], put (value v) Nil) ∷ []
  right_acts v on (Fby a b) = (on, copy (value v) (memory v)) ∷ (on ++ first (plan.lead v) ∷ [], copy (value v) (value a)) ∷ []
  right_acts v on (Init a b) = (on, copy (value v) (value b)) ∷ (on ++ first (plan.lead v) ∷ [], copy (value v) (value a)) ∷ []
  right_acts v on (Sample a) = (on, copy (value v) (value a)) ∷ []
  right_acts v on (Choose c branches) =
      (on, put (value v) Nil) ∷ map (λ branch. (on ++ guard_of c branch.0 ∷ [], copy (value v) (value branch.1))) branches

  -- it has first instants
  abbrev pub remembers : CoreRight → Truth
  remembers (Pre a) = true
  remembers (Fby a b) = true
  remembers (Init a b) = true
  remembers _ = false

  -- it keeps a leaf from instant to instant
  abbrev pub keeps_leaf : CoreRight → Truth
  keeps_leaf (Pre a) = true
  keeps_leaf (Fby a b) = true
  keeps_leaf _ = false

  -- the equation has first instants, and a flag of its own for them
  abbrev pub leads : CoreEq → Truth
  leads e = remembers e.right && (plan.lead e.var == e.var)

  -- what gives an equation its cell
  abbrev pub equation_acts : CoreEq → List Guarded
  equation_acts e =
      (if leads e then restart_acts e.var e.restarts else [])
      ++ (right_acts e.var (path e.clock) e.right
      ++ (tests (path e.clock) e.var
      ++ (only (plan.shows e.var) (path e.clock, put (present e.var) (Bool true))
      ++ only (plan.tells e.var) (path e.clock, copy (emitted e.var) (value e.var)))))

  -- what a delay keeps for its next instant
  abbrev pub kept : ℕ → List Place → CoreRight → List Guarded
  kept v on (Pre a) = (on, copy (memory v) (value a)) ∷ []
  kept v on (Fby a b) = (on, copy (memory v) (value b)) ∷ []
  kept v on _ = []

  abbrev pub update_acts : CoreEq → List Guarded
  update_acts e = kept e.var (path e.clock) e.right ++ only (leads e) (path e.clock, put (first e.var) (Bool false))

  abbrev pub clear_acts : CoreEq → List Guarded
  clear_acts e = only (plan.shows e.var) ([], put (present e.var) (Bool false)) ++ only (plan.tells e.var) ([], put (emitted e.var) (Bool false))

  -- a step: no output is shown yet; the guards of the inputs; the equations in order; and only then what delays keep, since
  -- until then other equations may read what they kept
  abbrev pub step_acts : List ℕ → List CoreEq → List Guarded
  step_acts inputs eqs = flat_map clear_acts eqs ++ (flat_map (tests []) inputs ++ (flat_map equation_acts eqs ++ flat_map update_acts eqs))

-- ---- their meaning

abbrev pub Slots : Type 0
Slots = Place → Leaf

abbrev pub place_put : Slots → Place → Leaf → Slots
place_put s d leaf p = if same_place d p then leaf else s p

abbrev pub do_act : Act → Slots → Slots
do_act (put d leaf) s = place_put s d leaf
do_act (copy d a) s = place_put s d (s a)
do_act (operate d op args) s = place_put s d (value_of op (map s args))
do_act (test d a leaf) s = place_put s d (tested (s a) leaf)

abbrev pub divides : Act → Slots → Truth
divides (operate d op args) s = alarm_of op (map s args)
divides _ s = false

-- places are asked from the outermost on, and not further than the first that is not true
abbrev pub all_true : Slots → List Place → Truth
all_true s [] = true
all_true s (g ∷ guards) = if is_true (s g) then all_true s guards else false

-- the slots after acts, and whether one of them divided by zero
abbrev pub act_on : Guarded → Slots → Slots
act_on act s = if all_true s act.0 then do_act act.1 s else s

abbrev pub after_acts : List Guarded → Slots → Slots
after_acts [] s = s
after_acts (act ∷ rest) s = after_acts rest (act_on act s)

abbrev pub acts_divide : List Guarded → Slots → Truth
acts_divide [] s = false
acts_divide (act ∷ rest) s = (all_true s act.0 && divides act.1 s) || acts_divide rest (act_on act s)
