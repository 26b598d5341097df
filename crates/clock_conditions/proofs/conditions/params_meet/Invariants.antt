use Rattle.std.proofs.Common.{◌≡◌, drop}
use Rattle.clock_conditions.specs.Bounds as spec
use Rattle.clock_conditions.specs.Every.{every}
use Rattle.clock_conditions.proofs.conditions.params_meet.Given as goal

abbrev pub invariant-loop-note : goal.invariant-loop-note
invariant-loop-note l =
    every (spec.param_met l.marks) (drop l.note-index l.notes) ≡ every (spec.param_met l.marks) l.notes
