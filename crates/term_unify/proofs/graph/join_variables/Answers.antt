use Rattle.std.proofs.Common.{◌≡◌, ℕ, ◌+◌, ◌∙◌, sym, ap, arith, length, subst}
use Rattle.std.specs.Ordering.{nat_cmp}
use Rattle.std.specs.BTreeMap.{get}
use Rattle.term_unify.specs.Graph.{nodes, Solves, JoinsVariables}
use Rattle.term_unify.proofs.Algebra.{laws_of}
use Rattle.term_unify.proofs.Nodes.{Joining, apart_cmp, node_at, joining_other, joining_again, joining_first, joined}
use Rattle.term_unify.proofs.graph.join_variables.Goals as goal
use Rattle.term_unify.proofs.graph.join_variables.Goals.{in-Some+in-Some-get+in_ok-push-in-Some-get, in-Some+in-None+in_ok-insert-in-None, in_default}

pub loop-at-preserved : goal.loop-at-preserved
loop-at-preserved g c =
    let at = node_at c.args.terms.now c.loop-at.at c.index-terms-at.result c.loop-at-test.true c.index-terms-at.is in
    elim c.match-as_var.branch [
      | in-Some+in-Some-get+in_ok-push-in-Some-get w ↦
          subst (λ s. Joining g.T.Term (nodes c.args.terms.now) c.args.equal.now.items c.match-as_var.equal.items (c.loop-at.at + 1) (get nat_cmp s)) (sym w.seen-is)
          (joining_again g.T.Term (laws_of g.met.T.Term) (nodes c.args.terms.now) c.args.equal.now.items c.loop-at.equal.items _ c.loop-at.at w.in-Some.variable
          w.in-Some-get.before.now (get nat_cmp c.loop-at.seen) c.index-terms-at.result.now at (sym w.in-Some.ensures) (sym w.in-Some-get.ensures.value)
          (ap (λ v. v.items) w.equal-is ∙ w.in_ok-push-in-Some-get.ensures.items) c.loop-at.invariant)
      | in-Some+in-None+in_ok-insert-in-None w ↦
          let up = w.in_ok-insert-in-None.ensures.updates in
          subst (λ s. Joining g.T.Term (nodes c.args.terms.now) c.args.equal.now.items c.match-as_var.equal.items (c.loop-at.at + 1) (get nat_cmp s)) (sym w.seen-is)
          (subst (λ v. Joining g.T.Term (nodes c.args.terms.now) c.args.equal.now.items v.items (c.loop-at.at + 1) (get nat_cmp w.insert.new.self)) (sym w.equal-is)
          (joining_first g.T.Term (laws_of g.met.T.Term) (nodes c.args.terms.now) c.args.equal.now.items c.loop-at.equal.items c.loop-at.at w.in-Some.variable
          (get nat_cmp c.loop-at.seen) (get nat_cmp w.insert.new.self) c.index-terms-at.result.now at (sym w.in-Some.ensures) (sym w.in-None.ensures.value)
          up.1 (λ y apart. up.2 y (apart_cmp w.in-Some.variable y apart)) c.loop-at.invariant))
      | in_default w ↦
          subst (λ s. Joining g.T.Term (nodes c.args.terms.now) c.args.equal.now.items c.match-as_var.equal.items (c.loop-at.at + 1) (get nat_cmp s)) (sym w.seen-is)
          (subst (λ v. Joining g.T.Term (nodes c.args.terms.now) c.args.equal.now.items v.items (c.loop-at.at + 1) (get nat_cmp c.loop-at.seen)) (sym w.equal-is)
          (joining_other g.T.Term (laws_of g.met.T.Term) (nodes c.args.terms.now) c.args.equal.now.items c.loop-at.equal.items c.loop-at.at
          (get nat_cmp c.loop-at.seen) c.index-terms-at.result.now at (sym w.in_default.ensures) c.loop-at.invariant))
    ]

pub returns-clause-joined : goal.returns-clause-joined
returns-clause-joined g c =
    let most : c.loop-at.at ≡ length c.args.terms.now = omega arith in
    subst (λ n. (f : ℕ → ℕ) → Solves f c.loop-at.equal.items → JoinsVariables g.T.Term (nodes c.args.terms.now) n f) most
    (joined g.T.Term (laws_of g.met.T.Term) (nodes c.args.terms.now) c.args.equal.now.items c.loop-at.equal.items c.loop-at.at (get nat_cmp c.loop-at.seen) c.loop-at.invariant)
