use Rattle.step_runner.specs.Running.{node_on}
use Rattle.step_runner.proofs.machine.MachineLineMachine.step.Goals as goal

pub returns-clause-next : goal.returns-clause-next
returns-clause-next g c = λ i. node_on (c.step.ensures.code i) (c.step.ensures.slots i)
