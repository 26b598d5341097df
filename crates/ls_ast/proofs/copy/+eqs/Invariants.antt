use Rattle.std.proofs.Common.{◌≡◌, take}
use Rattle.ls_ast.proofs.copy.+eqs.Given as goal

abbrev pub invariant-copy_eqs-loop-eq : goal.invariant-copy_eqs-loop-eq
invariant-copy_eqs-loop-eq g l = l.done ≡ take l.eq-index l.all

abbrev pub invariant-copy_arms-loop-arm : goal.invariant-copy_arms-loop-arm
invariant-copy_arms-loop-arm g l = l.done ≡ take l.arm-index l.all

abbrev pub invariant-copy_tests-loop-test : goal.invariant-copy_tests-loop-test
invariant-copy_tests-loop-test g l = l.done ≡ take l.test-index l.all

abbrev pub invariant-copy_states-loop-state : goal.invariant-copy_states-loop-state
invariant-copy_states-loop-state g l = l.done ≡ take l.state-index l.all

abbrev pub invariant-copy_guards-loop-guard : goal.invariant-copy_guards-loop-guard
invariant-copy_guards-loop-guard g l = l.done ≡ take l.guard-index l.all
