use Rattle.std.proofs.Common.{◌≡◌, take}
use Rattle.step_text.proofs.forms.bytes_of.Given as goal

abbrev pub invariant-loop-byte : goal.invariant-loop-byte
invariant-loop-byte l = l.done ≡ take l.byte-index l.word
