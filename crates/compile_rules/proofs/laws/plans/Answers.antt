use Rattle.compile_rules.proofs.Planned.{ordered_core}
use Rattle.compile_rules.proofs.laws.plans.Goals as goal

pub returns : goal.returns
returns c = λ core agrees rising plan is. ordered_core core agrees plan is rising
