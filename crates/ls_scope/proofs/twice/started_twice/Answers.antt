use Rattle.std.specs.Prelude.{◌≡◌, ◌+◌, ◌++◌, ◌∷◌, [], is_some, List, ℕ}
use Rattle.std.proofs.Common.{ap, sym, ◌∙◌, drop, take, arith}
use Rattle.std.proofs.lemmas.Grind.{common_steps}
use Rattle.std.proofs.lemmas.List.{take-append-drop}
use Rattle.std.specs.List.{list_any}
use Rattle.scope_rules.specs.Faults.{same_start}
use Rattle.ls_scope.specs.Keys.{key, place_in}
use Rattle.ls_scope.specs.Starts.{start_key}
use Rattle.ls_scope.proofs.TwiceLaws.{two_here, none_more, started, start_added}
use Rattle.ls_scope.proofs.twice.started_twice.Goals as goal

pub returns-then-is_some : goal.returns-then-is_some
returns-then-is_some c =
    let more : take (c.loop-s.s-index + 1) c.args.starts.now ≡ take c.loop-s.s-index c.args.starts.now ++ c.s-item.result ∷ [] = grind (arith, common_steps) in
    let is : c.in_ok-key.key.items ≡ start_key c.s-item.result = c.in_ok-key.ensures ∙ ap (key c.s-item.result.0) c.as_slice.ensures.value in
    let asks : c.is_some.result ≡ is_some (place_in c.loop-s.seen c.in_ok-key.key.items) = c.is_some.ensures ∙ ap is_some (c.place.ensures ∙ ap (place_in c.loop-s.seen) c.as_slice-in-loop-s.ensures.value) in
    two_here same_start c.args.starts.now (take c.loop-s.s-index c.args.starts.now) (take (c.loop-s.s-index + 1) c.args.starts.now) (drop (c.loop-s.s-index + 1) c.args.starts.now) c.s-item.result
    more (take-append-drop (c.loop-s.s-index + 1) c.args.starts.now)
    (sym (asks ∙ started (take c.loop-s.s-index c.args.starts.now) c.s-item.result c.loop-s.seen c.in_ok-key.key.items c.loop-s.invariant.1 is) ∙ c.if-is_some.true)

pub loop-s-preserved : goal.loop-s-preserved
loop-s-preserved c =
    let more : take (c.loop-s.s-index + 1) c.args.starts.now ≡ take c.loop-s.s-index c.args.starts.now ++ c.s-item.result ∷ [] = grind (arith, common_steps) in
    let is : c.in_ok-key.key.items ≡ start_key c.s-item.result = c.in_ok-key.ensures ∙ ap (key c.s-item.result.0) c.as_slice.ensures.value in
    let asks : c.is_some.result ≡ is_some (place_in c.loop-s.seen c.in_ok-key.key.items) = c.is_some.ensures ∙ ap is_some (c.place.ensures ∙ ap (place_in c.loop-s.seen) c.as_slice-in-loop-s.ensures.value) in (
      none_more same_start (take c.loop-s.s-index c.args.starts.now) (take (c.loop-s.s-index + 1) c.args.starts.now) c.s-item.result more c.loop-s.invariant.0
          (sym (asks ∙ started (take c.loop-s.s-index c.args.starts.now) c.s-item.result c.loop-s.seen c.in_ok-key.key.items c.loop-s.invariant.1 is) ∙ c.if-is_some.false),
      c.in_ok-add.ensures.ok
          ∙ start_added (take c.loop-s.s-index c.args.starts.now) (take (c.loop-s.s-index + 1) c.args.starts.now) c.s-item.result c.loop-s.seen c.in_ok-key.key.items more c.loop-s.invariant.1 is (sym asks ∙ c.if-is_some.false),
    )
