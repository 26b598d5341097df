use Rattle.std.proofs.Common.{◌≡◌, map, drop, max}
use Rattle.ls_ast.specs.Height as spec
use Rattle.ls_ast.proofs.depth.+eqs.Given as goal

abbrev pub invariant-highest_eq-loop-eq : goal.invariant-highest_eq-loop-eq
invariant-highest_eq-loop-eq g l = max l.most (spec.highest (map spec.eq_height (drop l.eq-index l.all))) ≡ spec.highest (map spec.eq_height l.all)

abbrev pub invariant-highest_arm-loop-arm : goal.invariant-highest_arm-loop-arm
invariant-highest_arm-loop-arm g l = max l.most (spec.highest (map spec.arm_height (drop l.arm-index l.all))) ≡ spec.highest (map spec.arm_height l.all)

abbrev pub invariant-highest_test-loop-test : goal.invariant-highest_test-loop-test
invariant-highest_test-loop-test g l = max l.most (spec.highest (map spec.test_height (drop l.test-index l.all))) ≡ spec.highest (map spec.test_height l.all)

abbrev pub invariant-highest_state-loop-state : goal.invariant-highest_state-loop-state
invariant-highest_state-loop-state g l = max l.most (spec.highest (map spec.state_height (drop l.state-index l.all))) ≡ spec.highest (map spec.state_height l.all)

abbrev pub invariant-highest_guard-loop-guard : goal.invariant-highest_guard-loop-guard
invariant-highest_guard-loop-guard g l = max l.most (spec.highest (map spec.guard_height (drop l.guard-index l.all))) ≡ spec.highest (map spec.guard_height l.all)
