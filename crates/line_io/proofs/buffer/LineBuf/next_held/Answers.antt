use Rattle.std.proofs.Common.{◌≡◌, ℕ, ◌+◌, ◌-◌, ◌<◌, List, length, arith, refl, sym, ◌∙◌, ap, subst}
use Rattle.line_io.specs.Line.{NoNewline, part, Buffer}
use Rattle.line_io.proofs.Parts.{quiet_join, part_cut, length-part, take_part, NewlineAt}
use Rattle.line_io.proofs.buffer.LineBuf.next_held.Goals as goal

pub invariant_of-self-in-None : goal.invariant_of-self-in-None
invariant_of-self-in-None c =
    let k = c.self.invariant in
    let h = subst (λ (xs : List ℕ). NoNewline (part xs c.self.inside.scanned c.self.inside.end)) c.deref.ensures.value c.in-None.ensures in
    (k.0, omega arith, omega arith, omega arith, omega arith, k.5, quiet_join _ _ _ _ k.3 k.4 k.6 h)

pub returns-in-Some-clause-found : goal.returns-in-Some-clause-found
returns-in-Some-clause-found c =
    let k = c.self.invariant in
    let h = subst (λ (xs : List ℕ). NewlineAt (part xs c.self.inside.scanned c.self.inside.end) c.in-Some.at) c.deref.ensures.value c.in-Some.ensures in
    let n : length (part c.self.inside.bytes.items c.self.inside.scanned c.self.inside.end) ≡ c.self.inside.end - c.self.inside.scanned = length-part _ _ _ (omega arith) in
    let lt : c.self.inside.scanned + c.in-Some.at < c.self.inside.end = omega (arith, h.0, n) in
    let len : length (part c.self.inside.bytes.items c.self.inside.start (c.self.inside.scanned + c.in-Some.at)) ≡ c.self.inside.scanned + c.in-Some.at - c.self.inside.start = length-part _ _ _ (omega arith) in (
      sym (ap (λ (b : Buffer). b.held) c.self.view_is) ∙ part_cut _ _ _ _ _ k.3 lt h.2,
      quiet_join _ _ _ _ k.3 (omega arith) k.6 (subst NoNewline (take_part c.self.inside.bytes.items c.self.inside.scanned c.self.inside.end c.in-Some.at (omega arith)) h.1),
      omega arith,
    )

pub returns-in-None-clause-none : goal.returns-in-None-clause-none
returns-in-None-clause-none c =
    let k = c.self.invariant in
    let h = subst (λ (xs : List ℕ). NoNewline (part xs c.self.inside.scanned c.self.inside.end)) c.deref.ensures.value c.in-None.ensures in
    let held = ap (λ (b : Buffer). b.held) c.self.view_is in
    (subst NoNewline held (quiet_join _ _ _ _ k.3 k.4 k.6 h), held, refl)
