-- What the slots of a core hold before the first step, what setting the inputs does to them, and what they hold after steps.
use Rattle.std.specs.Prelude.{◌≡◌, ℕ, zero, suc, true, List, Some}
use Rattle.ls_value.specs.declared.leaf.Leaf.{Leaf}
use Rattle.ls_value.specs.declared.leaf.Leaf.TheVariants.{Nil, Bool}
use Rattle.line_io.specs.declared.form.InputForm.{InputForm}
use Rattle.line_io.specs.declared.form.Cell.{Cell}
use Rattle.core_lang.specs.declared.equations.CoreEq.{CoreEq}
use Rattle.core_lang.specs.declared.equations.CoreRight.TheVariants.{Const}
use Rattle.core_lang.specs.Orders.{Has, AllOf}
use Rattle.core_lang.specs.Equations.{is_on, given}
use Rattle.compile_rules.specs.declared.places.Place.TheVariants.{Value as value, Memory as memory, First as first}
use Rattle.compile_rules.specs.Scheme.{Slots, Plan, keeps_leaf, leads, after_acts, step_acts}
use Rattle.compile_rules.specs.Plans.{is_some}

module _ (plan : Plan) (form : InputForm) (inputs : List ℕ) (eqs : List CoreEq) (line : ℕ → List Cell) (feed : List Cell → Slots → Slots) (start : Slots) where
  -- before the first step a delay's memory is Nil, the next instant of one that leads is a first one, and a constant's slot has
  -- its leaf
  pub record Begins (e : CoreEq) : Type 0 where
    pub memories : keeps_leaf plan e.right ≡ true → start (memory e.var) ≡ Nil
    pub firsts : leads plan e ≡ true → start (first e.var) ≡ Bool true
    pub constants : (l : Leaf) → e.right ≡ Const l → start (value e.var) ≡ l

  -- what setting the inputs from a line is to do: the slot of each input that is present has its leaf, and memories stay
  pub record Feeds : Type 0 where
    pub leaf : (i : ℕ) (s : Slots) (v : ℕ) (x : Leaf) → Has inputs v → given form (line i) v ≡ Some x → feed (line i) s (value v) ≡ x
    pub memories : (i : ℕ) (s : Slots) (v : ℕ) → feed (line i) s (memory v) ≡ s (memory v)
    pub firsts : (i : ℕ) (s : Slots) (v : ℕ) → feed (line i) s (first v) ≡ s (first v)
    pub others : (i : ℕ) (s : Slots) (v : ℕ) → ¬ Has inputs v → feed (line i) s (value v) ≡ s (value v)
    pub begins : AllOf Begins eqs
    -- the lines fit: an input is present exactly where its clock is on
    pub here : (i : ℕ) (v : ℕ) → Has inputs v → is_some (given form (line i) v) ≡ is_on (given form (line i)) (plan.clock v)

  abbrev pub slots_at : ℕ → Slots
  slots_at zero = start
  slots_at (suc i) = after_acts (step_acts plan inputs eqs) (feed (line i) (slots_at i))
