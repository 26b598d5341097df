use Rattle.std.proofs.Common.{◌<◌, sym, subst}
use Rattle.std.specs.List.{slice_index}
use Rattle.std.proofs.lemmas.List.{length-set}
use Rattle.term_unify.specs.Graph.{nodes}
use Rattle.term_unify.specs.Graph.Leads.{here}
use Rattle.term_unify.specs.Graph.Shortened.{same, halved}
use Rattle.term_unify.proofs.Forest.{halved_forest, link_leads, leads_along, lower, inside}
use Rattle.term_unify.proofs.graph.Graph.find.Goals as goal

pub loop-parent-init : goal.loop-parent-init
loop-parent-init g c = record { forest = c.requires.forest; inside = c.requires.inside; shortened = same; leads = here }

pub loop-parent-smaller : goal.loop-parent-smaller
loop-parent-smaller g c =
    lower g.T.Term (nodes c.args.self.now.terms.items) c.loop-parent.parent c.loop-parent.at c.loop-parent.invariant.forest c.loop-parent.invariant.inside c.loop-parent-test.true

pub loop-parent-preserved : goal.loop-parent-preserved
loop-parent-preserved g c =
    let ts = nodes c.args.self.now.terms.items in
    let ps = c.loop-parent.parent in
    let at = c.loop-parent.at in
    let F = c.loop-parent.invariant.forest in
    let h = c.loop-parent.invariant.inside in
    let v = inside g.T.Term ts ps F at h in
    let w = inside g.T.Term ts ps F (slice_index ps at) v in
    let s = c.loop-parent.invariant.shortened in
    record {
      forest = halved_forest g.T.Term ts ps at h c.loop-parent-test.true F;
      inside = subst (λ n. slice_index ps (slice_index ps at) < n) (sym (length-set ps at (slice_index ps (slice_index ps at)))) w;
      shortened = halved at h c.loop-parent-test.true s;
      leads =
          leads_along c.args.parent.now c.loop-parent.invariant.leads
          (leads_along c.args.parent.now (link_leads g.T.Term ts c.args.parent.now c.requires.forest s at h) (link_leads g.T.Term ts c.args.parent.now c.requires.forest s (slice_index ps at) v));
    }
