use Rattle.std.proofs.Common.{length, refl}
use Rattle.step_code.proofs.MarkLemmas.{uses_more}
use Rattle.step_code.proofs.inputs.use_line.Goals as goal

pub returns : goal.returns
returns c =
    uses_more c.args.earlier.now c.args.line.now c.args.uses.now c.use_field.new.uses c.use_own_signal.new.uses (length c.args.earlier.now) refl
    c.requires.uses c.use_field.ensures c.use_own_signal.ensures
