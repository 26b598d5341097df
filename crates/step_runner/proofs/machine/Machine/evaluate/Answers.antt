use Rattle.std.proofs.Common.{◌∙◌, sym, ap, subst, List}
use Rattle.std.specs.Prelude.{All}
use Rattle.ls_value.specs.declared.leaf.Leaf.{Leaf}
use Rattle.line_io.specs.Cells.{Fits}
use Rattle.step_code.specs.Steps.{Moment, form_of}
use Rattle.step_runner.specs.Ranges.{IsKnown}
use Rattle.step_runner.specs.Running.{Running}
use Rattle.step_runner.proofs.StepLemmas.{step_known}
use Rattle.step_runner.proofs.machine.Machine.evaluate.Goals as goal

pub invariant_of-self : goal.invariant_of-self
invariant_of-self g c = record {
  form = c.self.invariant.form;
  slots = c.evaluate_step.ensures.all ∙ c.self.invariant.slots;
  row = c.self.invariant.row;
  known = subst (λ (slots : List Leaf). All (λ leaf. IsKnown c.self.inside.code.cases leaf) slots) (sym (ap (λ (m : Moment). m.slots) c.evaluate_step.ensures.run))
      (step_known c.self.inside.code c.args.inputs.now c.self.inside.slots.items
      (subst (λ (r : Running). Fits (form_of r.code) c.args.inputs.now) (sym c.self.view_is) c.requires) c.self.invariant.known);
}
