use Rattle.std.proofs.Common.{◌≡◌, sym, ◌∙◌, ap, ap₂, refl, Some, ◌+◌, ◌++◌, ◌∷◌, [], take, drop, arith}
use Rattle.std.specs.Prelude.{nat_eq, cond}
use Rattle.std.specs.Cmp.Lexicographic.{pointwise}
use Rattle.std.proofs.lemmas.Grind.{common_steps}
use Rattle.std.proofs.lemmas.List.{take-append-drop, take_all}
use Rattle.scope_rules.specs.Faults as spec
use Rattle.ls_scope.specs.Keys as keys
use Rattle.ls_scope.specs.Last as last
use Rattle.ls_scope.proofs.Bound.{still_fine, found_fault, table_more}
use Rattle.ls_scope.proofs.twice.bound_again.Goals as goal

pub loop-s-init : goal.loop-s-init
loop-s-init c = (refl, λ k. ap (λ es. last.told es k.items) c.new-last.ensures.empty)

pub returns-then-follows : goal.returns-then-follows
returns-then-follows c =
    let more : take (c.loop-s.s-index + 1) c.args.all.now ≡ take c.loop-s.s-index c.args.all.now ++ c.s-item.result ∷ [] = grind (arith, common_steps) in
    let is = c.in_ok-key.ensures ∙ ap (keys.key c.s-item.result.var) c.as_slice.ensures.value in
    let got = c.get.ensures.value ∙ (λ i. last.told c.loop-s.last.entries (c.as_slice-in-loop-s.ensures.value i))
    ∙ c.loop-s.invariant.1 c.in_ok-key.key ∙ ap (λ k. last.last_place k (take c.loop-s.s-index c.args.all.now)) is in
    let tells = c.follows.ensures ∙ (λ i. last.after_place (got i) (c.as_slice-in-loop-s-2.ensures.value i)) in
    found_fault c.args.all.now (take c.loop-s.s-index c.args.all.now) (take (c.loop-s.s-index + 1) c.args.all.now) (drop (c.loop-s.s-index + 1) c.args.all.now)
    c.s-item.result c.follows.result more (take-append-drop (c.loop-s.s-index + 1) c.args.all.now) c.loop-s.invariant.0 tells c.if-follows.true

pub loop-s-preserved : goal.loop-s-preserved
loop-s-preserved c =
    let more : take (c.loop-s.s-index + 1) c.args.all.now ≡ take c.loop-s.s-index c.args.all.now ++ c.s-item.result ∷ [] = grind (arith, common_steps) in
    let is = c.in_ok-key.ensures ∙ ap (keys.key c.s-item.result.var) c.as_slice.ensures.value in
    let got = c.get.ensures.value ∙ (λ i. last.told c.loop-s.last.entries (c.as_slice-in-loop-s.ensures.value i))
    ∙ c.loop-s.invariant.1 c.in_ok-key.key ∙ ap (λ k. last.last_place k (take c.loop-s.s-index c.args.all.now)) is in
    let tells = c.follows.ensures ∙ (λ i. last.after_place (got i) (c.as_slice-in-loop-s-2.ensures.value i)) in (
      still_fine c.args.all.now (take c.loop-s.s-index c.args.all.now) (take (c.loop-s.s-index + 1) c.args.all.now)
          c.s-item.result c.follows.result more c.loop-s.invariant.0 tells c.if-follows.false,
      λ k. c.in_ok-put.ensures k ∙ ap₂ (λ p o. cond (pointwise nat_eq c.in_ok-key.key.items k.items) (Some p) o) c.in_ok-inner.ensures (c.loop-s.invariant.1 k)
          ∙ table_more (take c.loop-s.s-index c.args.all.now) c.s-item.result c.in_ok-key.key.items k.items is ∙ ap (last.last_place k.items) (sym more),
    )

pub returns : goal.returns
returns c =
    let all : take c.loop-s.s-index c.args.all.now ≡ c.args.all.now = grind (arith, common_steps, take_all) in
    sym (ap (spec.any_two spec.again) (sym all) ∙ c.loop-s.invariant.0)
