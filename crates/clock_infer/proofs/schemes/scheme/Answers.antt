use Rattle.std.proofs.Common.{◌∙◌}
use Rattle.clock_infer.proofs.Firsts.{scheme_seen}
use Rattle.clock_infer.proofs.schemes.scheme.Goals as goal

pub returns : goal.returns
returns c =
    scheme_seen c.args.marks.now c.args.notes.now c.args.ck.now c.in_ok-by.by.list c.as_slice.result.now c.as_slice-2.result.now c.in_ok-put_clocks.field-0 c.in_ok-put.field-0 c.in_ok-clock_marks.field-0
    (c.as_slice.ensures.value ∙ c.in_ok-all.ensures) c.in_ok-by.ensures (c.as_slice-2.ensures.value ∙ c.in_ok-own.ensures) c.in_ok-put_clocks.ensures c.in_ok-put.ensures c.in_ok-clock_marks.ensures
