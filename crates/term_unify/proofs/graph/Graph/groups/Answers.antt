use Rattle.std.proofs.Common.{◌≡◌, ◌<◌, ℕ, ◌+◌, arith, length, sym, ap, subst, ◌∙◌, Some, true, false, Vec, Global}
use Rattle.std.specs.List.{slice_get, slice_index}
use Rattle.std.specs.Option.{is_some}
use Rattle.std.proofs.lemmas.List.{length-map}
use Rattle.std.proofs.lemmas.Option.{slice_get-get_or}
use Rattle.term_unify.specs.Graph.{nodes}
use Rattle.term_unify.specs.Binding.{AreGroups}
use Rattle.term_unify.proofs.Algebra.{laws_of}
use Rattle.term_unify.proofs.Lists.{some_of, none_of}
use Rattle.term_unify.proofs.Nodes.{node_at}
use Rattle.term_unify.proofs.Bindings.{groups_other, groups_more}
use Rattle.term_unify.proofs.graph.Graph.groups.Goals as goal
use Rattle.term_unify.proofs.graph.Graph.groups.Goals.{then-is_some+in_ok-push-2, else-is_some}

pub loop-node-preserved : goal.loop-node-preserved
loop-node-preserved g c =
    let ts = nodes c.args.self.now.terms.items in
    let n = length-map c.args.self.now.terms.items (λ t. t.now) in
    let h : c.loop-node.node < length c.args.self.now.terms.items = omega (arith, n, c.requires.all, c.loop-node-test.true) in
    let at = node_at c.args.self.now.terms.items c.loop-node.node c.index.result.now h c.index.ensures in
    elim c.if-is_some.branch [
      | then-is_some+in_ok-push-2 w ↦
          let is : is_some (g.T.Term.var_of c.index.result.now.now) ≡ true = ap is_some (sym c.as_var.ensures) ∙ sym c.is_some.ensures ∙ w.if-is_some.true in
          let var = some_of (g.T.Term.var_of c.index.result.now.now) is in
          let w1 = c.requires.within c.loop-node.node (omega (arith, n, h)) in
          let hc : slice_index c.args.classes.now c.loop-node.node < length c.loop-node.groups.items = omega (arith, w1, c.loop-node.invariant.all) in
          let old : slice_get c.loop-node.groups.items (slice_index c.args.classes.now c.loop-node.node) ≡ Some w.index_mut-group.result.now =
          slice_get-get_or c.loop-node.groups.items (slice_index c.args.classes.now c.loop-node.node) w.index_mut-group.result.now hc ∙ ap Some (sym w.index_mut-group.ensures.value) in
          groups_more g.T.Term (laws_of g.met.T.Term) ts c.args.classes.now c.loop-node.node var.0 c.loop-node.groups.items c.if-is_some.groups.items w.index_mut-group.result.now
          w.push-then-is_some.new.self c.index.result.now.now at var.1 old (ap (λ (v : Vec (Vec ℕ Global) Global). v.items) w.groups-is) w.in_ok-push-2.ensures.items c.loop-node.invariant
      | else-is_some w ↦
          let is : is_some (g.T.Term.var_of c.index.result.now.now) ≡ false = ap is_some (sym c.as_var.ensures) ∙ sym c.is_some.ensures ∙ w.if-is_some.false in
          let none = none_of (g.T.Term.var_of c.index.result.now.now) is in
          subst (λ (v : Vec (Vec ℕ Global) Global). AreGroups g.T.Term ts c.args.classes.now (c.loop-node.node + 1) v.items) (sym w.groups-is)
          (groups_other g.T.Term (laws_of g.met.T.Term) ts c.args.classes.now c.loop-node.node c.loop-node.groups.items c.index.result.now.now at none c.loop-node.invariant)
    ]

pub returns : goal.returns
returns g c =
    let n = length-map c.args.self.now.terms.items (λ t. t.now) in
    let most : c.loop-node.node ≡ length c.args.self.now.terms.items = omega (arith, n, c.requires.all, c.loop-node-test.false, c.loop-node.auto) in
    subst (λ m. AreGroups g.T.Term (nodes c.args.self.now.terms.items) c.args.classes.now m c.loop-node.groups.items) most c.loop-node.invariant
