-- What equations and blocks say, by the arms that are chosen.
use Rattle.std.specs.Prelude.{ℕ, Bool, true, false, List, Option, Some, None, if◌then◌else◌}
use Rattle.ls_value.specs.declared.leaf.Leaf.TheVariants as leaf
use Rattle.ls_sig.specs.declared.binder.Binder.{Binder}
use Rattle.ls_sig.specs.declared.binder.Binder.TheVariants as b
use Rattle.ls_places.specs.Search.{arm_of, same_number}
use Rattle.kahn_model.specs.declared.cell.Cell.{Cell}
use Rattle.kahn_model.specs.declared.cell.Cell.TheVariants.{Silent, Present, Chosen}
use Rattle.kahn_model.specs.declared.cell.Reach.{Reach}
use Rattle.kahn_model.specs.declared.cell.Reach.TheVariants.{Here, Elsewhere, NoArm}
use Rattle.kahn_model.specs.declared.cell.Value.{Value}
use Rattle.kahn_model.specs.declared.cell.Value.TheVariants as v
use Rattle.kahn_model.specs.Values.{nil, case_of}

-- the arm that a scrutinee chooses: none where it is Nil
abbrev pub chosen_arm : List (Option ℕ) → Value → Option ℕ
chosen_arm all w = elim (case_of w) [ None ↦ None | Some k ↦ arm_of k all 0 ]

-- by an equation whose arms are active here, elsewhere, or nowhere since a scrutinee is Nil
abbrev pub by_reach : Option Cell → Option Cell → Bool → Reach → Option Cell
by_reach this more signal Here = this
by_reach this more signal Elsewhere = more
by_reach this more signal NoArm = Some (if signal then Silent else Present nil)

abbrev pub yes_or : Option Cell → Option Cell → Bool → Option Cell
yes_or this more true = this
yes_or this more false = more

-- by what a block chooses: its arm `j` or another
abbrev pub reach_case : ℕ → Option Reach → Cell → Option Reach
reach_case j more (Chosen None restart) = Some NoArm
reach_case j more (Chosen (Some k) restart) = if same_number k j then more else Some Elsewhere
reach_case j more _ = Some Elsewhere

abbrev pub case_value : Binder → Value
case_value (b.Case t k) = v.Leaf (leaf.Enum t k)
case_value _ = nil
