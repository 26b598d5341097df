use Rattle.std.proofs.Common.{◌≡◌, arith, length, sym, ap, subst, ◌∙◌, [], ◌∷◌, ◌++◌}
use Rattle.term_unify.specs.Graph.{nodes, IsClosing, AreLabels, AreWithin}
use Rattle.term_unify.proofs.Algebra.{laws_of}
use Rattle.term_unify.proofs.Lists.{empty, take_front}
use Rattle.term_unify.proofs.Nodes.{within_last}
use Rattle.term_unify.proofs.Together.{classes_made, classes_solve, classes_respected}
use Rattle.term_unify.proofs.graph.Graph.classes.Goals as goal

pub join-requires-clause-one : goal.join-requires-clause-one
join-requires-clause-one g c =
    let ts = nodes c.args.self.now.terms.items in
    let w = within_last (length ts) c.pop.new.self.items (c.in-Some.a, c.in-Some.b) (subst (AreWithin (length ts)) c.in-Some.ensures.items c.loop-a.invariant.within) in
    let e = ap length c.deref_mut.ensures.value in
    omega (arith, w.0, e, c.loop-a.invariant.forest.all)

pub join-requires-clause-other : goal.join-requires-clause-other
join-requires-clause-other g c =
    let ts = nodes c.args.self.now.terms.items in
    let w = within_last (length ts) c.pop.new.self.items (c.in-Some.a, c.in-Some.b) (subst (AreWithin (length ts)) c.in-Some.ensures.items c.loop-a.invariant.within) in
    let e = ap length c.deref_mut.ensures.value in
    omega (arith, w.1, e, c.loop-a.invariant.forest.all)

pub loop-a-preserved : goal.loop-a-preserved
loop-a-preserved g c =
    let ts = nodes c.args.self.now.terms.items in
    let first = c.args.self.now.first.items in
    let C = c.in_ok-join.ensures.closing c.args.equal.items
    (subst (λ ps. IsClosing g.T.Term ts first c.args.equal.items ps (c.pop.new.self.items ++ (c.in-Some.a, c.in-Some.b) ∷ [])) (sym c.deref_mut.ensures.value)
    (subst (IsClosing g.T.Term ts first c.args.equal.items c.loop-a.parent.items) c.in-Some.ensures.items c.loop-a.invariant)) in
    let n = C.forest.all in
    let m = c.loop-a.invariant.forest.all in
    let e : c.loop-a.parent.len ≡ length c.join.new.parent = c.loop-a.parent.ok.0 ∙ m ∙ sym n in
    subst (λ ps. IsClosing g.T.Term ts first c.args.equal.items ps c.join.new.pending.items) (sym (take_front c.join.new.parent _ c.loop-a.parent.len e)) C

done : (g : _) (c : goal.After-drop-pending-2 g) → IsClosing g.T.Term (nodes c.args.self.now.terms.items) c.args.self.now.first.items c.args.equal.items c.loop-a.parent.items []
done g c =
    let none = empty c.loop-a.pending.items (sym c.loop-a.pending.ok.0 ∙ c.in_default.ensures.cases.0) in
    subst (IsClosing g.T.Term (nodes c.args.self.now.terms.items) c.args.self.now.first.items c.args.equal.items c.loop-a.parent.items) none c.loop-a.invariant

labels : (g : _) (c : goal.After-drop-pending-2 g) → AreLabels c.loop-a.parent.items c.in_ok-labels.field-0.items
labels g c = subst (λ ps. AreLabels ps c.in_ok-labels.field-0.items) c.deref_mut-2.ensures.value c.in_ok-labels.ensures

pub returns-clause-classes : goal.returns-clause-classes
returns-clause-classes g c =
    classes_made g.T.Term (laws_of g.met.T.Term) (nodes c.args.self.now.terms.items) c.args.self.now.first.items c.args.equal.items c.loop-a.parent.items c.in_ok-labels.field-0.items (done g c) (labels g c)

pub returns-clause-solved : goal.returns-clause-solved
returns-clause-solved g c =
    classes_solve g.T.Term (laws_of g.met.T.Term) (nodes c.args.self.now.terms.items) c.args.self.now.first.items c.args.equal.items c.loop-a.parent.items c.in_ok-labels.field-0.items (done g c) (labels g c)

pub returns-clause-sound : goal.returns-clause-sound
returns-clause-sound g c =
    classes_respected g.T.Term (laws_of g.met.T.Term) (nodes c.args.self.now.terms.items) c.args.self.now.first.items c.args.equal.items c.loop-a.parent.items c.in_ok-labels.field-0.items (done g c) (labels g c)
