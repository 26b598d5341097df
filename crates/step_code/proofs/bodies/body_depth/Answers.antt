use Rattle.std.proofs.Common.{length, arith, ◌≤◌, []}
use Rattle.step_code.specs.Valid.{around_of}
use Rattle.step_code.proofs.FaultLemmas.{shallow_result}
use Rattle.step_code.proofs.bodies.body_depth.Goals as goal

pub overflow_add-result : goal.overflow_add-result
overflow_add-result c =
    let told = around_of c.args.cases.now c.as_slice.result.now [] c.args.done.now c.args.depths.now 199 in
    let few : c.deepest.result ≤ length c.args.depths.now = shallow_result told (length c.args.depths.now) c.deepest.result c.as_slice-2.result.now c.deepest.ensures c.requires.shallow in
    omega (arith, few, c.requires.few)

pub returns-clause-shallow : goal.returns-clause-shallow
returns-clause-shallow c =
    let told = around_of c.args.cases.now c.as_slice.result.now [] c.args.done.now c.args.depths.now 199 in
    let few : c.deepest.result ≤ length c.args.depths.now = shallow_result told (length c.args.depths.now) c.deepest.result c.as_slice-2.result.now c.deepest.ensures c.requires.shallow in
    omega (arith, few)
