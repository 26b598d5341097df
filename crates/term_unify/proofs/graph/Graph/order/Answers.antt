use Rattle.std.proofs.Common.{◌≡◌, ℕ, ◌+◌, ◌<◌, ◌∙◌, sym, ap, subst, length, arith, Some, true, false, Err}
use Rattle.std.specs.List.{slice_get, slice_index}
use Rattle.std.specs.Option.{is_some, option_map}
use Rattle.std.proofs.lemmas.List.{length-map}
use Rattle.std.proofs.lemmas.Option.{slice_get_within}
use Rattle.term_unify.specs.Graph.{nodes}
use Rattle.term_unify.specs.Order.{IsWalk}
use Rattle.term_unify.proofs.Algebra.{laws_of}
use Rattle.term_unify.proofs.Lists.{some_of, none_of}
use Rattle.term_unify.proofs.Nodes.{node_at}
use Rattle.term_unify.proofs.Together.{err_is}
use Rattle.term_unify.proofs.Walking.{Ordered, ordered_other, ordered_more, stands_clash, root_small, no_true}
use Rattle.term_unify.specs.declared.walk.Walk.{Walk}
use Rattle.term_unify.proofs.graph.Graph.order.Goals as goal
use Rattle.term_unify.proofs.graph.Graph.order.Goals.{then-is_some+else-not-may_take+in_ok-visit, else-is_some}

pub returns-then-not-may_take-clause-clash : goal.returns-then-not-may_take-clause-clash
returns-then-not-may_take-clause-clash g c err by R ok =
    let ts = nodes c.args.self.now.terms.items in
    let n = length-map c.args.self.now.terms.items (λ t. t.now) in
    let h : c.loop-node.node < length c.args.self.now.terms.items = omega (arith, n, c.requires.classes.all, c.loop-node-test.true) in
    let at = node_at c.args.self.now.terms.items c.loop-node.node c.index.result.now h c.index.ensures in
    let root = slice_index c.args.classes.now c.loop-node.node in
    let hr : root < length c.args.self.now.terms.items = (let w = c.requires.classes.within c.loop-node.node (omega (arith, n, h)) in omega (arith, n, w)) in
    let at-s = node_at c.args.self.now.terms.items root c.index-then-is_some.result.now hr c.index-then-is_some.ensures in
    let is : is_some (g.T.Term.var_of c.index.result.now.now) ≡ true = ap is_some (sym c.as_var.ensures) ∙ sym c.is_some.ensures ∙ c.if-is_some.true in
    let var = some_of (g.T.Term.var_of c.index.result.now.now) is in
    stands_clash g.T.Term (laws_of g.met.T.Term) ts c.args.self.now.first.items c.args.classes.now by R c.args.free c.args.limit c.requires.some ok c.loop-node.node var.0 c.index.result.now.now
    c.index-then-is_some.result.now.now at var.1 at-s (sym c.may_take.ensures ∙ c.if-not-may_take.true)

pub returns-in_err-visit-clause-clash : goal.returns-in_err-visit-clause-clash
returns-in_err-visit-clause-clash g c err by R ok =
    let ts = nodes c.args.self.now.terms.items in
    let n = length-map c.args.self.now.terms.items (λ t. t.now) in
    let h : c.loop-node.node < length c.args.self.now.terms.items = omega (arith, n, c.requires.classes.all, c.loop-node-test.true) in
    let at = node_at c.args.self.now.terms.items c.loop-node.node c.index.result.now h c.index.ensures in
    let root = slice_index c.args.classes.now c.loop-node.node in
    let hr : root < length c.args.self.now.terms.items = (let w = c.requires.classes.within c.loop-node.node (omega (arith, n, h)) in omega (arith, n, w)) in
    let at-s = node_at c.args.self.now.terms.items root c.index-then-is_some.result.now hr c.index-then-is_some.ensures in
    let is : is_some (g.T.Term.var_of c.index.result.now.now) ≡ true = ap is_some (sym c.as_var.ensures) ∙ sym c.is_some.ensures ∙ c.if-is_some.true in
    let var = some_of (g.T.Term.var_of c.index.result.now.now) is in
    let is = err_is c.from_residual-in_err-visit.result _ _ c.from_residual-in_err-visit.ensures.1 err in
    c.in_err-visit.ensures.clash (ap Err (sym is)) by (g.T.Term.apply by c.index-then-is_some.result.now.now) R (ap (option_map (g.T.Term.apply by)) at-s)
    (root_small g.T.Term (laws_of g.met.T.Term) ts c.args.self.now.first.items c.args.classes.now by R c.args.free c.args.limit c.requires.some ok c.loop-node.node var.0 c.index.result.now.now
    c.index-then-is_some.result.now.now at var.1 at-s)
    (λ r w on e. absurd (no_true (length c.args.classes.now) r (ap (λ z. slice_get z r) (sym c.loop-node.invariant.entered) ∙ on)))

pub loop-node-preserved : goal.loop-node-preserved
loop-node-preserved g c =
    let ts = nodes c.args.self.now.terms.items in
    let n = length-map c.args.self.now.terms.items (λ t. t.now) in
    let h : c.loop-node.node < length c.args.self.now.terms.items = omega (arith, n, c.requires.classes.all, c.loop-node-test.true) in
    let at = node_at c.args.self.now.terms.items c.loop-node.node c.index.result.now h c.index.ensures in
    let root = slice_index c.args.classes.now c.loop-node.node in
    elim c.if-is_some.branch [
      | then-is_some+else-not-may_take+in_ok-visit w ↦
          let hr : root < length c.args.self.now.terms.items = (let w = c.requires.classes.within c.loop-node.node (omega (arith, n, h)) in omega (arith, n, w)) in
          let at-s = node_at c.args.self.now.terms.items root w.index-then-is_some.result.now hr w.index-then-is_some.ensures in
          let V = w.in_ok-visit.ensures in
          let O = c.loop-node.invariant.ordered in
          record {
            walk = subst (λ (W : Walk). IsWalk g.T.Term ts c.args.self.now.first.items c.args.classes.now W.sizes.items W.order.items) (sym w.walk-is) V.walk;
            entered = ap (λ (W : Walk). W.entered.items) w.walk-is ∙ V.entered ∙ c.loop-node.invariant.entered;
            ordered =
                subst (λ (W : Walk). Ordered g.T.Term ts c.args.classes.now W.sizes.items c.args.free c.args.limit (c.loop-node.node + 1)) (sym w.walk-is)
                (ordered_more g.T.Term (laws_of g.met.T.Term) ts c.args.classes.now c.loop-node.walk.sizes.items w.visit.new.walk.sizes.items c.args.free c.args.limit c.loop-node.node
                w.index-then-is_some.result.now.now at-s (sym w.may_take.ensures ∙ w.if-not-may_take.false) (V.small c.args.limit (omega arith) O.small) V.kept V.done O);
          }
      | else-is_some w ↦
          let is : is_some (g.T.Term.var_of c.index.result.now.now) ≡ false = ap is_some (sym c.as_var.ensures) ∙ sym c.is_some.ensures ∙ w.if-is_some.false in
          let none = none_of (g.T.Term.var_of c.index.result.now.now) is in
          record {
            walk = subst (λ (W : Walk). IsWalk g.T.Term ts c.args.self.now.first.items c.args.classes.now W.sizes.items W.order.items) (sym w.walk-is) c.loop-node.invariant.walk;
            entered = ap (λ (W : Walk). W.entered.items) w.walk-is ∙ c.loop-node.invariant.entered;
            ordered =
                subst (λ (W : Walk). Ordered g.T.Term ts c.args.classes.now W.sizes.items c.args.free c.args.limit (c.loop-node.node + 1)) (sym w.walk-is)
                (ordered_other g.T.Term (laws_of g.met.T.Term) ts c.args.classes.now c.loop-node.walk.sizes.items c.args.free c.args.limit c.loop-node.node c.index.result.now.now at none
                c.loop-node.invariant.ordered);
          }
    ]

pub returns-clause-order : goal.returns-clause-order
returns-clause-order g c =
    let O = c.loop-node.invariant.ordered in
    let W = c.loop-node.invariant.walk in
    let reached : (i x : ℕ) (t : _) → slice_get (nodes c.args.self.now.terms.items) i ≡ Some t → i < c.loop-node.node =
    λ i x t at. (let b = slice_get_within (nodes c.args.self.now.terms.items) i t at in omega (arith, b, c.requires.classes.all, c.loop-node-test.false)) in
    record {
      sizes = c.loop-node.walk.sizes.items;
      walk = W;
      small = O.small;
      all = λ i x t at var. W.seen (slice_index c.args.classes.now i) (O.all i x t (reached i x t at) at var);
      stands = λ i x t s at var at-s. O.stands i x t s (reached i x t at) at var at-s;
    }
