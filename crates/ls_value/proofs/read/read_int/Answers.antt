use Rattle.ls_value.proofs.Ints.{int_utf8}
use Rattle.ls_value.proofs.read.read_int.Goals as goal

pub returns-in-Err : goal.returns-in-Err
returns-in-Err c = λ h. c.in-Err.ensures.cases.0 (int_utf8 c.args.bytes.now h)
