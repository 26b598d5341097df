use Rattle.std.proofs.Common.{◌∷◌, [], ℕ, ap, length, arith, length-append}
use Rattle.ls_value.specs.Spelling.{escaped}
use Rattle.ls_value.proofs.Escapes.{escaped_short}
use Rattle.ls_value.proofs.leaf_buf.LeafBuf.write_quoted.Goals as goal

pub push-requires-2 : goal.push-requires-2
push-requires-2 c =
    let text = c.args.bytes.now in
    omega (arith, ap length c.append_escaped.ensures, ap length c.push.ensures, ap length c.requires.empty, length-append {A = ℕ} c.push.new.self (escaped c.args.quote text), length-append {A = ℕ} c.args.self.now (c.args.quote ∷ []), escaped_short c.args.quote text)
