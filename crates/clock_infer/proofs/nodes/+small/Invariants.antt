use Rattle.std.proofs.Common.{◌≡◌, drop}
use Rattle.clock_infer.specs.Nodes as spec
use Rattle.clock_infer.proofs.nodes.+small.Given as goal

abbrev pub invariant-exprs_are_small-loop-e : goal.invariant-exprs_are_small-loop-e
invariant-exprs_are_small-loop-e l =
    spec.all_small l.by.list (drop l.e-index l.all) ≡ spec.all_small l.by.list l.all

abbrev pub invariant-branches_are_small-loop-choice : goal.invariant-branches_are_small-loop-choice
invariant-branches_are_small-loop-choice l =
    spec.all_small l.by.list (spec.branches (drop l.choice-index l.all)) ≡ spec.all_small l.by.list (spec.branches l.all)
