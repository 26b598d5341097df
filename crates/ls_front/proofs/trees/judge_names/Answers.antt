use Rattle.std.proofs.Common.{◌≢◌, rules}
use Rattle.type_infer.specs.declared.fault.TypeFault.TheVariants.{NoMemory}
use Rattle.ls_front.specs.Front.{ClocksAccepted, ClocksFail, TypesAccepted, TypesFail, signatures_of_file}
use Rattle.ls_front.proofs.Passing.{ok_to, err_to, clocks_fail}
use Rattle.ls_front.proofs.Signed.{are_types}
use Rattle.ls_front.proofs.trees.judge_names.Goals as goal

pub returns-in-Ok-clause-accepted : goal.returns-in-Ok-clause-accepted
returns-in-Ok-clause-accepted c = λ sane.
    let sigs = signatures_of_file c.in-Ok.typed in
    let t = are_types c.args.file.now c.in-Ok.typed c.in-Ok.ensures.names (c.in-Ok.ensures.typed sane) in
    ok_to (ClocksAccepted c.in-Ok.typed sigs) (TypesAccepted c.args.file.now) c.judge_typed.result (λ r k. (c.in-Ok.typed, sigs, t, k)) c.judge_typed.ensures.accepted

pub returns-in-Ok-clause-fault : goal.returns-in-Ok-clause-fault
returns-in-Ok-clause-fault c = λ sane.
    let sigs = signatures_of_file c.in-Ok.typed in
    let t = are_types c.args.file.now c.in-Ok.typed c.in-Ok.ensures.names (c.in-Ok.ensures.typed sane) in
    err_to (ClocksFail c.in-Ok.typed) (TypesFail c.args.file.now) c.judge_typed.result (clocks_fail c.args.file.now c.in-Ok.typed sigs t) c.judge_typed.ensures.fault

pub returns-in-Err-clause-inside : goal.returns-in-Err-clause-inside
returns-in-Err-clause-inside c = (let some : c.in-Err.fault ≢ NoMemory = search rules in some)
