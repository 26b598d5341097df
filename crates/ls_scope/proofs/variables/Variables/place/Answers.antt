use Rattle.std.specs.Prelude.{ℕ, Some, None}
use Rattle.std.proofs.Common.{◌≡◌, ◌∙◌, ap, sym, arith}
use Rattle.scope_rules.specs.Faults.{place_where, of_list, seen_at}
use Rattle.ls_scope.specs.Keys.{place_in, first_seen}
use Rattle.ls_scope.proofs.KeyLaws.{placed, seen}
use Rattle.ls_scope.proofs.Lists.{within}
use Rattle.ls_scope.proofs.variables.Variables.place.Goals as goal

pub prove-unreachable-requires : goal.prove-unreachable-requires
prove-unreachable-requires c =
    let found : place_where (of_list c.args.x c.args.list.now) c.self.inside.list ≡ Some c.in-Some.at =
    sym (placed c.args.x c.args.list.now c.self.inside.list) ∙ (λ i. place_in (sym c.self.invariant i) (sym (c.as_slice.ensures.value ∙ c.in_ok-key.ensures) i)) ∙ sym c.place.ensures ∙ c.in-Some.is in
    let below = within (of_list c.args.x c.args.list.now) c.self.inside.list 0 c.in-Some.at found in
    let count = c.len-count.ensures.value in
    let above = c.if-prove.true in
    omega (arith, below, count, above)

pub returns-in-Some : goal.returns-in-Some
returns-in-Some c =
    sym (sym (placed c.args.x c.args.list.now c.self.inside.list) ∙ (λ i. place_in (sym c.self.invariant i) (sym (c.as_slice.ensures.value ∙ c.in_ok-key.ensures) i)) ∙ sym c.place.ensures ∙ c.in-Some.is)
    ∙ ap (place_where (of_list c.args.x c.args.list.now)) c.self.view_is

pub returns : goal.returns
returns c =
    sym (sym (placed c.args.x c.args.list.now c.self.inside.list) ∙ (λ i. place_in (sym c.self.invariant i) (sym (c.as_slice.ensures.value ∙ c.in_ok-key.ensures) i)) ∙ sym c.place.ensures ∙ c.in-None.is)
    ∙ ap (place_where (of_list c.args.x c.args.list.now)) c.self.view_is
