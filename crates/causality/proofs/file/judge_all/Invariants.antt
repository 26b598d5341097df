use Rattle.std.proofs.Common.{take}
use Rattle.case_tables.specs.Cases.{place}
use Rattle.causality_rules.specs.Files as spec
use Rattle.causality.proofs.file.judge_all.Given as goal

abbrev pub invariant-loop-item : goal.invariant-loop-item
invariant-loop-item l = spec.AllRanked (spec.lets (place l.cases) (take l.item-index l.items)) l.done
