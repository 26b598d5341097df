use Rattle.std.proofs.Common.{◌≡◌, ◌-◌, ◌<◌, ◌≤◌, ◌⊎◌, length, take}
use Rattle.line_io.specs.Line.{NoNewline, ahead, IsShort}
use Rattle.line_io.proofs.NextLemmas.{Takes}
use Rattle.line_io.proofs.buffer.LineBuf.next_line.Given as goal

abbrev pub invariant-loop-self : goal.invariant-loop-self
invariant-loop-self g l =
    record {
      all : ahead l.self.held (g.S.Source.left l.source) ≡ ahead l.fn.self.held (g.S.Source.left l.fn.source);
      taken : Takes l.fn.self.held l.self.held (g.S.Source.left l.fn.source) (g.S.Source.left l.source);
      counted : g.S.Source.count l.fn.source ≤ g.S.Source.count l.source;
      front : take (length l.fn.self.held) l.self.held ≡ l.fn.self.held;
      reads : (l.source ≡ l.fn.source) ⊎ IsShort l.fn.self.held (g.S.Source.left l.fn.source) (g.S.Source.left l.source) (g.S.Source.gave l.source);
      first : ((l.self.held ≡ l.fn.self.held) × (l.source ≡ l.fn.source)) ⊎ (NoNewline l.fn.self.held × (length l.fn.self.held < 65537));
    }

abbrev pub decreases-loop-self : goal.decreases-loop-self
decreases-loop-self g l = 65537 - length l.self.held
