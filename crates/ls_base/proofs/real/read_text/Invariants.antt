use Rattle.std.proofs.Common.{◌≤◌, ◌-◌, vec_len}
use Rattle.ls_base.proofs.real.read_text.Given as goal

abbrev pub invariant-loop-taken : goal.invariant-loop-taken
invariant-loop-taken g l = vec_len l.into ≤ 1048576

abbrev pub decreases-loop-taken : goal.decreases-loop-taken
decreases-loop-taken g l = 1048577 - vec_len l.into
