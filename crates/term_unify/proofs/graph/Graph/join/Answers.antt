use Rattle.std.proofs.Common.{◌<◌, length, arith}
use Rattle.term_unify.specs.Graph.{nodes}
use Rattle.term_unify.proofs.Algebra.{laws_of}
use Rattle.term_unify.proofs.Together.{ok_then, ok_both, met_closing, met_work, one_over, other_over, one_over_work, other_over_work, one_over_clash, other_over_clash}
use Rattle.term_unify.proofs.Forest.{shortened_forest}
use Rattle.term_unify.proofs.graph.Graph.join.Goals as goal

pub find-other-requires-clause-forest : goal.find-other-requires-clause-forest
find-other-requires-clause-forest g c = shortened_forest g.T.Term (nodes c.args.self.now.terms.items) c.args.parent.now c.requires.forest c.find-one.ensures.shortened

pub returns-then-one-other-clause-closing : goal.returns-then-one-other-clause-closing
returns-then-one-other-clause-closing g c =
    met_closing g.T.Term (laws_of g.met.T.Term) (nodes c.args.self.now.terms.items) c.args.self.now.first.items c.args.parent.now c.find-one.new.parent c.find-other.new.parent
    c.args.pending.now.items c.args.a c.args.b c.find-one.result c.find-other.result c.requires.forest c.find-one.ensures.shortened c.find-other.ensures.shortened
    c.find-one.ensures.leads c.find-other.ensures.leads c.find-one.ensures.root c.find-other.ensures.root c.if-one-other.true

pub returns-then-one-other-clause-less : goal.returns-then-one-other-clause-less
returns-then-one-other-clause-less g c =
    met_work g.T.Term (laws_of g.met.T.Term) (nodes c.args.self.now.terms.items) c.args.self.now.first.items c.args.parent.now c.find-one.new.parent c.find-other.new.parent
    c.args.pending.now.items c.args.a c.args.b c.find-one.result c.find-other.result c.requires.forest c.find-one.ensures.shortened c.find-other.ensures.shortened
    c.find-one.ensures.leads c.find-other.ensures.leads c.find-one.ensures.root c.find-other.ensures.root

pub returns-then-is_above-clause-closing : goal.returns-then-is_above-clause-closing
returns-then-is_above-clause-closing g c =
    let ts = nodes c.args.self.now.terms.items in
    let F = shortened_forest g.T.Term ts c.args.parent.now c.requires.forest c.find-one.ensures.shortened in
    let h : c.find-one.result < length ts = omega (arith, c.requires.forest.all, c.find-one.ensures.inside) in
    let k : c.find-other.result < length ts = omega (arith, F.all, c.find-other.ensures.inside) in
    ok_then c.link.result _ _ (ok_both c.link.result _ _ c.link.ensures.linked (ok_both c.link.result _ _ c.link.ensures.equated c.link.ensures.alike))
    (λ p.
    one_over g.T.Term (laws_of g.met.T.Term) ts c.args.self.now.first.items c.args.parent.now c.find-one.new.parent c.find-other.new.parent
    c.args.pending.now.items c.args.a c.args.b c.find-one.result c.find-other.result c.requires.forest c.find-one.ensures.shortened c.find-other.ensures.shortened
    c.find-one.ensures.leads c.find-other.ensures.leads c.find-one.ensures.root c.find-other.ensures.root c.requires.graph c.link.new.parent c.link.new.pending.items
    h k (c.is_above.ensures.yes c.if-is_above.true c.if-one-other.false) p.0 p.1.0 p.1.1)

pub returns-then-is_above-clause-less : goal.returns-then-is_above-clause-less
returns-then-is_above-clause-less g c =
    let ts = nodes c.args.self.now.terms.items in
    let F = shortened_forest g.T.Term ts c.args.parent.now c.requires.forest c.find-one.ensures.shortened in
    let h : c.find-one.result < length ts = omega (arith, c.requires.forest.all, c.find-one.ensures.inside) in
    let k : c.find-other.result < length ts = omega (arith, F.all, c.find-other.ensures.inside) in
    ok_then c.link.result _ _ (ok_both c.link.result _ _ c.link.ensures.linked c.link.ensures.equated)
    (λ p.
    one_over_work g.T.Term (laws_of g.met.T.Term) ts c.args.self.now.first.items c.args.parent.now c.find-one.new.parent c.find-other.new.parent
    c.args.pending.now.items c.args.a c.args.b c.find-one.result c.find-other.result c.requires.forest c.find-one.ensures.shortened c.find-other.ensures.shortened
    c.find-one.ensures.leads c.find-other.ensures.leads c.find-one.ensures.root c.find-other.ensures.root c.requires.graph c.link.new.parent c.link.new.pending.items
    k c.if-one-other.false p.0 p.1)

pub returns-then-is_above-clause-clash : goal.returns-then-is_above-clause-clash
returns-then-is_above-clause-clash g c err =
    let ts = nodes c.args.self.now.terms.items in
    let F = shortened_forest g.T.Term ts c.args.parent.now c.requires.forest c.find-one.ensures.shortened in
    let h : c.find-one.result < length ts = omega (arith, c.requires.forest.all, c.find-one.ensures.inside) in
    let k : c.find-other.result < length ts = omega (arith, F.all, c.find-other.ensures.inside) in
    one_over_clash g.T.Term (laws_of g.met.T.Term) ts c.args.self.now.first.items c.args.parent.now c.find-one.new.parent c.find-other.new.parent
    c.args.pending.now.items c.args.a c.args.b c.find-one.result c.find-other.result c.requires.forest c.find-one.ensures.shortened c.find-other.ensures.shortened
    c.find-one.ensures.leads c.find-other.ensures.leads c.find-one.ensures.root c.find-other.ensures.root
    h k (c.is_above.ensures.yes c.if-is_above.true c.if-one-other.false) (c.link.ensures.clash err)

pub returns-else-is_above-clause-closing : goal.returns-else-is_above-clause-closing
returns-else-is_above-clause-closing g c =
    let ts = nodes c.args.self.now.terms.items in
    let F = shortened_forest g.T.Term ts c.args.parent.now c.requires.forest c.find-one.ensures.shortened in
    let h : c.find-one.result < length ts = omega (arith, c.requires.forest.all, c.find-one.ensures.inside) in
    let k : c.find-other.result < length ts = omega (arith, F.all, c.find-other.ensures.inside) in
    ok_then c.link-else-is_above.result _ _ (ok_both c.link-else-is_above.result _ _ c.link-else-is_above.ensures.linked (ok_both c.link-else-is_above.result _ _ c.link-else-is_above.ensures.equated c.link-else-is_above.ensures.alike))
    (λ p.
    other_over g.T.Term (laws_of g.met.T.Term) ts c.args.self.now.first.items c.args.parent.now c.find-one.new.parent c.find-other.new.parent
    c.args.pending.now.items c.args.a c.args.b c.find-one.result c.find-other.result c.requires.forest c.find-one.ensures.shortened c.find-other.ensures.shortened
    c.find-one.ensures.leads c.find-other.ensures.leads c.find-one.ensures.root c.find-other.ensures.root c.requires.graph c.link-else-is_above.new.parent c.link-else-is_above.new.pending.items
    h k (c.is_above.ensures.no c.if-is_above.false c.if-one-other.false) p.0 p.1.0 p.1.1)

pub returns-else-is_above-clause-less : goal.returns-else-is_above-clause-less
returns-else-is_above-clause-less g c =
    let ts = nodes c.args.self.now.terms.items in
    let F = shortened_forest g.T.Term ts c.args.parent.now c.requires.forest c.find-one.ensures.shortened in
    let h : c.find-one.result < length ts = omega (arith, c.requires.forest.all, c.find-one.ensures.inside) in
    let k : c.find-other.result < length ts = omega (arith, F.all, c.find-other.ensures.inside) in
    ok_then c.link-else-is_above.result _ _ (ok_both c.link-else-is_above.result _ _ c.link-else-is_above.ensures.linked c.link-else-is_above.ensures.equated)
    (λ p.
    other_over_work g.T.Term (laws_of g.met.T.Term) ts c.args.self.now.first.items c.args.parent.now c.find-one.new.parent c.find-other.new.parent
    c.args.pending.now.items c.args.a c.args.b c.find-one.result c.find-other.result c.requires.forest c.find-one.ensures.shortened c.find-other.ensures.shortened
    c.find-one.ensures.leads c.find-other.ensures.leads c.find-one.ensures.root c.find-other.ensures.root c.requires.graph c.link-else-is_above.new.parent c.link-else-is_above.new.pending.items
    h c.if-one-other.false p.0 p.1)

pub returns-else-is_above-clause-clash : goal.returns-else-is_above-clause-clash
returns-else-is_above-clause-clash g c err =
    let ts = nodes c.args.self.now.terms.items in
    let F = shortened_forest g.T.Term ts c.args.parent.now c.requires.forest c.find-one.ensures.shortened in
    let h : c.find-one.result < length ts = omega (arith, c.requires.forest.all, c.find-one.ensures.inside) in
    let k : c.find-other.result < length ts = omega (arith, F.all, c.find-other.ensures.inside) in
    other_over_clash g.T.Term (laws_of g.met.T.Term) ts c.args.self.now.first.items c.args.parent.now c.find-one.new.parent c.find-other.new.parent
    c.args.pending.now.items c.args.a c.args.b c.find-one.result c.find-other.result c.requires.forest c.find-one.ensures.shortened c.find-other.ensures.shortened
    c.find-one.ensures.leads c.find-other.ensures.leads c.find-one.ensures.root c.find-other.ensures.root
    h k (c.is_above.ensures.no c.if-is_above.false c.if-one-other.false) (c.link-else-is_above.ensures.clash err)
