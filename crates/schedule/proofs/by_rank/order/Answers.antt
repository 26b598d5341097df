use Rattle.std.proofs.Math.Logic.{∥∥₁_map}
use Rattle.schedule.proofs.Permuted.{core_again}
use Rattle.schedule.proofs.by_rank.order.Goals as goal

pub invariant_of-result : goal.invariant_of-result
invariant_of-result c = record {
  agrees = ∥∥₁_map c.args.core.now.agrees (core_again _ _ _ _ _ _ _ _
      c.as_slice.ensures.value c.in_ok-eqs.ensures.same c.in_ok-inputs.ensures c.as_slice-2.ensures.value c.in_ok-outputs.ensures);
}
