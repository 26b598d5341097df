use Rattle.std.specs.Prelude.{◌≤◌, ◌<◌, ℕ}
use Rattle.std.specs.Global.{Global}
use Rattle.std.proofs.Common.{Vec, ◌∙◌, ◌-◌, ◌+◌, ap, length, arith, get_or, refl, subst, sym}
use Rattle.std.proofs.Math.ListN.{length-set}
use Rattle.std.proofs.lemmas.List.{length-replicate}
use Rattle.causality.proofs.Places.{place_next, place_skip}
use Rattle.causality.proofs.Tabled.{From, from_end}
use Rattle.causality.proofs.ranks.places.Goals as goal
use Rattle.causality.proofs.ranks.places.Goals.{then-x-many, else-x-many}

pub loop-k-init : goal.loop-k-init
loop-k-init c = record {
  all = ap length (c.in_ok-at.ensures.items_if_clones_equal (λ y h. h)) ∙ length-replicate c.args.many 0;
  so_far = from_end c.in_ok-at.at.items c.args.order.now _ (omega arith);
}

pub loop-k-preserved : goal.loop-k-preserved
loop-k-preserved c =
    let order = c.args.order.now in
    let k = c.loop-k.k in
    let i = length order - 1 - k in
    let y = get_or order i 0 in
    elim c.if-x-many.branch [
      | then-x-many w ↦
          let put = ap (λ (v : Vec ℕ Global). v.items) w.at-is in
          record {
            all = ap length put ∙ length-set c.loop-k.at.items y i ∙ c.loop-k.invariant.all;
            so_far = place_next c.loop-k.at.items c.if-x-many.at.items order k i y c.loop-k-test.true refl refl (subst (λ z. y < z) (sym c.loop-k.invariant.all) w.if-x-many.true) put c.loop-k.invariant.so_far;
          }
      | else-x-many w ↦
          let kept = ap (λ (v : Vec ℕ Global). v.items) w.at-is in
          let outside = w.if-x-many.false in
          let all = c.loop-k.invariant.all in
          let past : length c.loop-k.at.items ≤ y = omega (arith, outside, all) in
          record {
            all = ap length kept ∙ all;
            so_far = subst (λ z. From z order (length order - (k + 1))) (sym kept) (place_skip c.loop-k.at.items order k i y c.loop-k-test.true refl refl past c.loop-k.invariant.so_far);
          }
    ]
