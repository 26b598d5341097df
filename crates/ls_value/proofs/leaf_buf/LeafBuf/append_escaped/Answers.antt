use Rattle.std.proofs.Common.{ℕ, ap, length, take, arith, length-append}
use Rattle.std.proofs.lemmas.List.{length-take}
use Rattle.ls_value.specs.Spelling.{escaped}
use Rattle.ls_value.proofs.Escapes.{escaped_short}
use Rattle.ls_value.proofs.leaf_buf.LeafBuf.append_escaped.Goals as goal

pub push_escaped-requires : goal.push_escaped-requires
push_escaped-requires c =
    let done = take c.loop-byte.byte-index c.args.bytes.now in
    omega (arith, ap length c.loop-byte.invariant, length-append {A = ℕ} c.args.self.now (escaped c.args.quote done), escaped_short c.args.quote done, length-take {A = ℕ} c.loop-byte.byte-index c.args.bytes.now)
