use Rattle.std.proofs.Common.{◌≤◌, ◌+◌, ℕ, length}
use Rattle.ls_lexer.specs.Lexing.{Leads, start}
use Rattle.ls_lexer.proofs.reading.read.Given as goal

abbrev pub invariant-loop-rest : goal.invariant-loop-rest
invariant-loop-rest l = record {
  reached : (n : ℕ) × Leads n (start l.text) (record { line = l.line; left = l.rest; tokens = l.tokens });
  room : l.line.0 + length l.rest ≤ 4294967295;
}

abbrev pub decreases-loop-rest : goal.decreases-loop-rest
decreases-loop-rest l = length l.rest
