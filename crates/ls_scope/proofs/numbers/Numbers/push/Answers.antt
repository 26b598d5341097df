use Rattle.std.specs.Prelude.{ℕ, nat_eq, cond, Some, is_some}
use Rattle.std.specs.Map.{lookup}
use Rattle.std.proofs.Common.{◌≡◌, ◌∙◌, ap, sym}
use Rattle.scope_rules.specs.Faults.{place_of}
use Rattle.ls_scope.proofs.Lists.{number_found, number_added, on_ok}
use Rattle.ls_scope.proofs.numbers.Numbers.push.Goals as goal

pub invariant_of-self-then-contains_key : goal.invariant_of-self-then-contains_key
invariant_of-self-then-contains_key c = λ q.
    ap (lookup (nat_eq q)) c.reserve.ensures.entries ∙ c.self.invariant q
    ∙ number_found c.args.x q c.self.inside.list (ap is_some (sym (ap (lookup (nat_eq c.args.x)) c.reserve.ensures.entries ∙ c.self.invariant c.args.x)) ∙ sym c.contains_key.ensures ∙ c.if-contains_key.true)
    ∙ ap (place_of q) (sym c.in_ok-push.ensures.ok)

pub invariant_of-self-2 : goal.invariant_of-self-2
invariant_of-self-2 c =
    let updates = on_ok c.insert.result _ (c.insert.ensures.succeeds c.in_ok-reserve.ensures.ok) c.insert.ensures.updates in
    λ q.
    updates.0 q
    ∙ (λ i. cond (nat_eq c.args.x q) (Some (c.len-at.ensures.value i)) ((ap (lookup (nat_eq q)) c.reserve.ensures.entries ∙ c.self.invariant q) i))
    ∙ number_added c.args.x q c.self.inside.list (ap is_some (sym (ap (lookup (nat_eq c.args.x)) c.reserve.ensures.entries ∙ c.self.invariant c.args.x)) ∙ sym c.contains_key.ensures ∙ c.if-contains_key.false)
    ∙ ap (place_of q) (sym c.in_ok-push.ensures.ok)
