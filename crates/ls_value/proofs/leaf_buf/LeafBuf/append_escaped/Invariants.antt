use Rattle.std.proofs.Common.{◌≡◌, ◌++◌, take}
use Rattle.ls_value.specs.Spelling.{escaped}
use Rattle.ls_value.proofs.leaf_buf.LeafBuf.append_escaped.Given as goal

abbrev pub invariant-loop-byte : goal.invariant-loop-byte
invariant-loop-byte l = l.self ≡ l.initial.self ++ escaped l.quote (take l.byte-index l.bytes)
