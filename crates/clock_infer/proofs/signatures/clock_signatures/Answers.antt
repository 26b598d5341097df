use Rattle.clock_infer.proofs.Signing.{signed}
use Rattle.clock_infer.proofs.signatures.clock_signatures.Goals as goal

pub returns : goal.returns
returns c =
    signed c.with_each.result c.args.sigs c.as_slice-3.result.now c.in_ok-schemes.schemes c.as_slice-2.result.now c.args.file.now.defs c.as_slice.result.now c.as_slice-3.ensures.value c.as_slice-2.ensures.value
    c.in_ok-schemes.ensures c.as_slice.ensures.value c.with_each.ensures
