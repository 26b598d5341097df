use Rattle.std.proofs.Common.{◌≡◌, take, map}
use Rattle.std.specs.String.{string_bytes}
use Rattle.ls_base.proofs.names.Names.copy.Given as goal

abbrev pub invariant-loop-spelling : goal.invariant-loop-spelling
invariant-loop-spelling l = l.done ≡ take l.spelling-index (map string_bytes l.spelling-items)
