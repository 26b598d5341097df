use Rattle.std.proofs.Common.{◌≡◌, ◌+◌, ◌++◌, ◌∷◌, [], ◌∙◌, sym, ap, subst, length, take, List, ℕ, length-append, arith, ◌≤◌, None}
use Rattle.step_code.specs.Marks.{AreShallow}
use Rattle.step_code.specs.Valid as valid
use Rattle.step_code.proofs.FaultLemmas.{bodies_on, depths_on, shallow_more, not_some}
use Rattle.step_code.proofs.bodies.bodies_fault.Goals as goal

pub loop-i-preserved : goal.loop-i-preserved
loop-i-preserved c =
    let done = take c.loop-i.i c.args.bodies.now in
    let body = c.index-bodies-i.result in
    let new = c.body_depth-depth.result in
    let more : c.push.new.items.items ≡ c.loop-i.depths.items ++ valid.body_depth c.args.cases.now done c.loop-i.depths.items body ∷ []
    = c.in_ok-push.ensures.ok
    ∙ (λ k. c.loop-i.depths.items ++ (c.body_depth-depth.ensures.depth ∙ ap (λ ds. valid.body_depth c.args.cases.now done ds body) c.as_slice-in-loop-i.ensures.value) k ∷ []) in
    let none : valid.body_fault c.args.cases.now done c.loop-i.depths.items c.last_lacks-own_lacks.result body ≡ None
    = sym (c.in_ok-found.ensures ∙ ap (λ ds. valid.body_fault c.args.cases.now done ds c.last_lacks-own_lacks.result body) c.as_slice.ensures.value)
    ∙ not_some c.in_ok-found.found (sym c.is_some.ensures ∙ c.if-is_some.false) in
    let count : length c.push.new.items.items ≡ c.loop-i.i + 1
    = ap length c.in_ok-push.ensures.ok ∙ length-append c.loop-i.depths.items (new ∷ []) ∙ ap (λ n. n + 1) c.loop-i.invariant.count in
    let few : new ≤ c.loop-i.i + 1
    = subst (λ (n : ℕ). new ≤ n + 1) (ap length c.as_slice-in-loop-i.ensures.value ∙ c.loop-i.invariant.count) c.body_depth-depth.ensures.shallow in
    record {
      so_far = c.loop-i.invariant.so_far
          ∙ bodies_on c.args.cases.now c.args.lacks c.last_lacks-own_lacks.result c.args.bodies.now c.loop-i.depths.items c.push.new.items.items c.loop-i.i new body body
          c.loop-i-test.true (sym c.index-bodies-i.is) more c.last_lacks-own_lacks.ensures none;
      depths = c.loop-i.invariant.depths
          ∙ depths_on c.args.cases.now c.args.lacks c.last_lacks-own_lacks.result c.args.bodies.now c.loop-i.depths.items c.push.new.items.items c.loop-i.i new body body
          c.loop-i-test.true (sym c.index-bodies-i.is) more;
      count = count;
      shallow = let P = λ (ds : List ℕ). AreShallow (c.loop-i.i + 1) ds in
          subst P (sym c.in_ok-push.ensures.ok) (shallow_more c.loop-i.depths.items new c.loop-i.i (c.loop-i.i + 1) c.loop-i.invariant.shallow few (omega arith));
    }
