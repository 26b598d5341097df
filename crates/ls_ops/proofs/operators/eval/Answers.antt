-- The rules of Nil and of shapes hold of the definitions, operator by operator.
use Rattle.std.proofs.Common.{sym, ap, ◌∙◌, subst, if◌then◌else◌}
use Rattle.ls_value.specs.Spelling.{Fits}
use Rattle.ls_value.specs.declared.leaf.Leaf.{Leaf}
use Rattle.ls_ops.specs.declared.kinds.Alarm.{Alarm}
use Rattle.ls_ops.specs.Values.{result_shape}
use Rattle.ls_ops.specs.Signature.{signature_of}
use Rattle.ls_ops.proofs.ValueLemmas.{value_of-fits, value_of-nil, alarm_of-nil}
use Rattle.ls_ops.proofs.operators.eval.Goals as goal

pub returns-clause-nil : goal.returns-clause-nil
returns-clause-nil c nil = (
  c.evaluate.ensures.value ∙ value_of-nil c.args.op c.args.args.now nil,
  c.evaluate.ensures.alarm ∙ ap (λ alarm. if alarm then Alarm.Division else Alarm.None) (alarm_of-nil c.args.op c.args.args.now nil),
)

pub returns-clause-shape : goal.returns-clause-shape
returns-clause-shape c shape takes =
    let P : Leaf → Type 0 = λ leaf. Fits leaf (result_shape (signature_of c.args.op) shape) in
    subst P (sym c.evaluate.ensures.value) (value_of-fits c.args.op shape c.args.args.now takes)
