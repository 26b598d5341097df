use Rattle.std.specs.Prelude.{nat_eq}
use Rattle.std.proofs.Common.{◌≡◌, ◌+◌, sym, take, length, arith}
use Rattle.std.proofs.lemmas.Grind.{common_steps}
use Rattle.std.proofs.lemmas.List.{take_more}
use Rattle.indexmap.specs.IndexMap.{get}
use Rattle.ls_scope.proofs.Tables.{case_added}
use Rattle.ls_scope.proofs.known.add_cases.Goals as goal

pub loop-at-preserved : goal.loop-at-preserved
loop-at-preserved c =
    let long : length (take c.loop-at.at c.args.names.now) ≡ c.loop-at.at = grind (arith, common_steps) in
    λ q. case_added c.args.t c.loop-at.at _ q (take c.loop-at.at c.args.names.now) (take (c.loop-at.at + 1) c.args.names.now)
    (get nat_eq c.args.cases.now q) (get nat_eq c.loop-at.cases q) (get nat_eq c.add_case.new.cases q) (take_more c.args.names.now c.loop-at.at _ c.loop-at-test.true) (sym long) (c.loop-at.invariant q) (c.in_ok-add_case.ensures q)
