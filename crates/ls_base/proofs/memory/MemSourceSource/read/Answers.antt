use Rattle.std.proofs.Common.{◌+◌, ◌-◌, ◌≤◌, length, take, drop, sym, ap, ◌∙◌, arith}
use Rattle.ls_base.proofs.Written.{read_front}
use Rattle.ls_base.proofs.memory.MemSourceSource.read.Goals as goal

pub returns-clause-taken : goal.returns-clause-taken
returns-clause-taken c =
    let copy = c.copy_from_slice.ensures.after ∙ ap (λ l. take ((c.self.inside.at + c.min-n.result) - c.self.inside.at) (drop c.self.inside.at l)) c.deref.ensures.value in
    let fits : c.self.inside.at + c.min-n.result ≤ length c.self.inside.bytes.items = omega (arith, c.min-n.ensures, c.self.invariant.0) in
    sym (ap (λ s. s.left) c.self.view_is) ∙ read_front c.self.inside.bytes.items c.args.into.now _ c.self.inside.at c.min-n.result fits copy
