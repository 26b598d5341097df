use Rattle.std.proofs.Common.{◌≡◌, ◌≤◌, length, drop}
use Rattle.line_io.specs.Words.{words_of}
use Rattle.line_io.proofs.CellLemmas.{ReadUpTo}
use Rattle.line_io.proofs.inputs.read_words.Given as goal

abbrev pub invariant-loop-at : goal.invariant-loop-at
invariant-loop-at l =
    record {
      within : l.from ≤ length l.line;
      words : drop l.at (words_of l.line) ≡ words_of (drop l.from l.line);
      read : ReadUpTo l.form l.line l.readings l.at;
    }
