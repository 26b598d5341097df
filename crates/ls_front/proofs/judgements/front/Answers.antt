use Rattle.std.proofs.Common.{◌≢◌, rules}
use Rattle.ls_lexer.specs.declared.fault.LexFault.TheVariants.{NoMemory}
use Rattle.ls_front.proofs.judgements.front.Goals as goal

pub returns-in-Err : goal.returns-in-Err
returns-in-Err c = record {
  accepted = tt;
  fault = (let some : c.in-Err.fault ≢ NoMemory = search rules in c.in-Err.ensures.fault some);
  inside = (let some : c.in-Err.fault ≢ NoMemory = search rules in some);
}
