use Rattle.std.proofs.Common.{◌≡◌, ◌<◌, arith, length, sym, ap, ◌∙◌}
use Rattle.std.specs.List.{slice_index}
use Rattle.term_unify.specs.Graph.{nodes, Leads}
use Rattle.term_unify.proofs.Lists.{each_more}
use Rattle.term_unify.proofs.Nodes.{longer}
use Rattle.term_unify.proofs.Forest.{shortened_forest, leads_back, root_before}
use Rattle.term_unify.proofs.Together.{shortened_along}
use Rattle.term_unify.specs.Graph.Shortened.{same}
use Rattle.term_unify.proofs.graph.Graph.labels.Goals as goal

pub loop-node-init : goal.loop-node-init
loop-node-init g c = record {
  shortened = same;
  all = ap length c.new-labels.ensures.items;
  leads = λ i h. absurd (omega arith);
  root = λ i h. absurd (omega arith);
  within = λ i h. absurd (omega arith);
}

pub find-root-requires-clause-forest : goal.find-root-requires-clause-forest
find-root-requires-clause-forest g c = shortened_forest g.T.Term (nodes c.args.self.now.terms.items) c.args.parent.now c.requires c.loop-node.invariant.shortened

pub loop-node-preserved : goal.loop-node-preserved
loop-node-preserved g c =
    let ts = nodes c.args.self.now.terms.items in
    let old = c.args.parent.now in
    let I = c.loop-node.invariant in
    let new = c.in_ok-push.ensures.items in
    let F = shortened_forest g.T.Term ts old c.requires I.shortened in
    let root = root_before g.T.Term ts old c.requires (shortened_along old I.shortened c.find-root.ensures.shortened) c.find-root.result c.find-root.ensures.root in
    let n : length c.loop-node.parent ≡ length old = F.all ∙ sym c.requires.all in
    record {
      shortened = shortened_along old I.shortened c.find-root.ensures.shortened;
      all = longer _ _ _ _ I.all new;
      leads =
          each_more (λ i x. Leads old i x) c.loop-node.labels.items _ c.find-root.result c.loop-node.node I.all new I.leads
          (leads_back g.T.Term ts old c.requires I.shortened c.find-root.ensures.leads);
      root = each_more (λ i x. slice_index old x ≡ x) c.loop-node.labels.items _ c.find-root.result c.loop-node.node I.all new I.root root;
      within = each_more (λ i x. x < length old) c.loop-node.labels.items _ c.find-root.result c.loop-node.node I.all new I.within (omega (arith, n, c.find-root.ensures.inside));
    }
