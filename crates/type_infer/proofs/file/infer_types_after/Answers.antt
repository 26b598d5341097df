use Rattle.std.proofs.Common.{ap, Err}
use Rattle.type_infer.proofs.Inferred.{fault_in}
use Rattle.type_infer.proofs.Stages.{file_typed, file_ill}
use Rattle.type_infer.proofs.file.infer_types_after.Goals as goal

pub returns-in-Ok-clause-typed : goal.returns-in-Ok-clause-typed
returns-in-Ok-clause-typed c =
    file_typed c.args.env.now.sigs c.in_ok-types.types.env.now c.args.env.now c.in_ok-types.types.file.now c.args.file.now c.as_slice.result.now c.args.file.now.defs c.in-Ok.defs c.in_ok-types.ensures.env
    c.in_ok-types.ensures.file c.as_slice.ensures.value c.in-Ok.ensures.typed

pub returns-clause-ill : goal.returns-clause-ill
returns-clause-ill c = λ functions line e.
    file_ill c.args.env.now.sigs c.in_ok-types.types.env.now c.args.env.now c.in_ok-types.types.file.now c.args.file.now c.as_slice.result.now c.args.file.now.defs line c.in_ok-types.ensures.env
    c.in_ok-types.ensures.file c.as_slice.ensures.value (λ known. c.in-Err.ensures.ill known line (ap Err (ap (fault_in c.in-Err.fault) e))) functions
