use Rattle.std.proofs.Math.Logic.{∥∥₁_map}
use Rattle.core_lang.proofs.Instants.{rows}
use Rattle.core_lang.proofs.Solutions.{solution}
use Rattle.core_lang.proofs.Unique as unique
use Rattle.core_lang.proofs.laws.solutions.Goals as goal

pub returns-clause-exists : goal.returns-clause-exists
returns-clause-exists c = λ core rising line. ∥∥₁_map core.agrees (λ agrees. (rows core.inputs core.eqs line, solution core agrees rising line))

pub returns-clause-only : goal.returns-clause-only
returns-clause-only c = λ core agrees rising line n T U t u v i below few. unique.only core agrees rising line n T U t u v i below few
