use Rattle.std.proofs.Common.{◌≡◌, ◌++◌, take}
use Rattle.case_tables.specs.Cases.{place}
use Rattle.init_rules.specs.Files as spec
use Rattle.init_check.proofs.file.judge_all.Given as goal

abbrev pub invariant-loop-item : goal.invariant-loop-item
invariant-loop-item l = record { all : l.sigs ≡ l.before ++ l.done; so_far : spec.Judged l.before (spec.lets (place l.cases) (take l.item-index l.items)) l.done }
