use Rattle.step_code.specs.Steps.{moment}
use Rattle.step_runner.proofs.StepLemmas.{inputs_need, bodies_need, main_need, step_done}
use Rattle.step_runner.proofs.machine.evaluate_slots.Goals as goal

pub set_inputs-requires : goal.set_inputs-requires
set_inputs-requires g c = inputs_need c.args.code.now _ c.as_slice-lines.result.now c.requires c.as_slice-lines.ensures.value

pub run_list-requires-clause-bodies : goal.run_list-requires-clause-bodies
run_list-requires-clause-bodies g c = bodies_need c.args.code.now c.as_slice-bodies.result.now c.as_slice-bodies.ensures.value

pub run_list-requires-clause-lines : goal.run_list-requires-clause-lines
run_list-requires-clause-lines g c =
    main_need c.args.code.now c.as_slice-bodies.result.now _ c.as_slice-main.result.now c.as_slice-bodies.ensures.value c.requires c.as_slice-main.ensures.value

pub returns : goal.returns
returns g c =
    step_done c.args.code.now c.args.inputs.now c.args.slots.now c.set_inputs.new.slots c.as_slice-lines.result.now c.as_slice-bodies.result.now c.as_slice-main.result.now
    c.args.steps.now (moment c.run_list.new.slots c.run_list.result c.run_list.new.steps) c.as_slice-lines.ensures.value c.as_slice-bodies.ensures.value c.as_slice-main.ensures.value
    c.set_inputs.ensures c.run_list.ensures
