use Rattle.std.proofs.Common.{◌+◌, ◌∙◌, sym, ap, drop}
use Rattle.step_code.specs.Steps.{with_inputs}
use Rattle.step_runner.proofs.InputLemmas.{inputs_end, inputs_on, none_of}
use Rattle.step_runner.proofs.inputs.set_inputs.Goals as goal

pub returns-in_default : goal.returns-in_default
returns-in_default c =
    sym (c.loop-i.invariant.so_far ∙ inputs_end c.args.lines.now c.args.inputs.now c.loop-i.i c.loop-i.slots (sym c.get.ensures ∙ none_of c.get.result c.in_default.not-Some))

pub loop-i-preserved : goal.loop-i-preserved
loop-i-preserved c = record {
  size = c.set_input.auto.slots ∙ c.loop-i.invariant.size;
  so_far = c.loop-i.invariant.so_far
      ∙ inputs_on c.args.lines.now c.args.inputs.now c.loop-i.i c.index-lines-i.result c.index-lines-i.result c.in-Some.cell c.loop-i.slots c.loop-i-test.true
      (sym c.index-lines-i.is) (sym c.get.ensures ∙ c.in-Some.is)
      ∙ ap (λ slots. with_inputs (drop (c.loop-i.i + 1) c.args.lines.now) (drop (c.loop-i.i + 1) c.args.inputs.now) slots) (sym c.set_input.ensures);
}
