use Rattle.scope_rules.specs.Faults.{asks}
use Rattle.scope_rules.proofs.Functions.{functions_used}
use Rattle.scope_rules.proofs.laws.functions_are_used.Goals as goal

pub returns : goal.returns
returns g c d k h = functions_used k (asks d) h
