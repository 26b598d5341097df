use Rattle.std.specs.Prelude.{ℕ, Some, None}
use Rattle.std.proofs.Common.{◌≡◌, ◌∙◌, ap, sym, arith}
use Rattle.scope_rules.specs.Faults.{place_where, of_list, seen_at}
use Rattle.ls_scope.specs.Keys.{place_in, first_seen}
use Rattle.ls_scope.proofs.KeyLaws.{placed, seen}
use Rattle.ls_scope.proofs.Lists.{within}
use Rattle.ls_scope.proofs.variables.Variables.place_seen.Goals as goal

pub prove-unreachable-requires : goal.prove-unreachable-requires
prove-unreachable-requires c =
    let found : place_where (seen_at c.args.x c.args.place.now) c.self.inside.list ≡ Some c.in-Some.at =
    sym (seen c.args.x c.args.place.now c.self.inside.list) ∙ (λ i. first_seen (sym c.self.invariant i) c.args.x c.args.place.now) ∙ sym c.in_ok-at.ensures ∙ c.in-Some.is in
    let below = within (seen_at c.args.x c.args.place.now) c.self.inside.list 0 c.in-Some.at found in
    let count = c.len-count.ensures.value in
    let above = c.if-prove.true in
    omega (arith, below, count, above)

pub returns-in-Some : goal.returns-in-Some
returns-in-Some c =
    sym (sym (seen c.args.x c.args.place.now c.self.inside.list) ∙ (λ i. first_seen (sym c.self.invariant i) c.args.x c.args.place.now) ∙ sym c.in_ok-at.ensures ∙ c.in-Some.is)
    ∙ ap (place_where (seen_at c.args.x c.args.place.now)) c.self.view_is

pub returns-in-None : goal.returns-in-None
returns-in-None c =
    sym (sym (seen c.args.x c.args.place.now c.self.inside.list) ∙ (λ i. first_seen (sym c.self.invariant i) c.args.x c.args.place.now) ∙ sym c.in_ok-at.ensures ∙ c.in-None.is)
    ∙ ap (place_where (seen_at c.args.x c.args.place.now)) c.self.view_is
