use Rattle.std.proofs.Common.{◌≡◌, ◌++◌, ◌∷◌, [], ◌∙◌, ◌<◌, sym, ap, length, arith, length-append, Some}
use Rattle.std.specs.List.{slice_get}
use Rattle.std.proofs.lemmas.List.{length-map}
use Rattle.std.proofs.lemmas.Option.{slice_get_within}
use Rattle.term_unify.specs.Graph.{nodes}
use Rattle.term_unify.proofs.Nodes.{parts_added, rest_smaller, node_at, keeps_more, longer}
use Rattle.term_unify.proofs.graph.expand.Goals as goal

here : (g : _) (c : goal.In_ok-add_parts g) → slice_get (nodes c.loop-at.terms.items) c.loop-at.at ≡ Some c.index-term.result.now.now
here g c =
    let n = c.loop-at.terms.ok.0 in
    let below : c.loop-at.at < length c.loop-at.terms.items = omega (arith, c.len.ensures, n) in
    node_at c.loop-at.terms.items c.loop-at.at c.index-term.result.now below c.index-term.ensures

pub loop-at-smaller : goal.loop-at-smaller
loop-at-smaller g c =
    rest_smaller g.T.Term (nodes c.loop-at.terms.items) _ c.loop-at.at c.index-term.result.now.now (g.met.T.Term.size_is _) (here g c) c.in_ok-add_parts.ensures

pub loop-at-preserved : goal.loop-at-preserved
loop-at-preserved g c =
    let at = here g c in
    let within = slice_get_within (nodes c.loop-at.terms.items) c.loop-at.at _ at in
    let new = c.in_ok-add_parts.ensures in
    let start : c.len-in-loop-at.result ≡ length (nodes c.loop-at.terms.items) =
    c.len-in-loop-at.ensures ∙ c.loop-at.terms.ok.0 ∙ sym (length-map c.loop-at.terms.items _) in
    record {
      all = longer _ _ _ _ c.loop-at.invariant.all c.in_ok-push.ensures.items;
      some = omega (arith, within, ap length new, length-append (nodes c.loop-at.terms.items) (g.T.Term.kids c.index-term.result.now.now));
      kept = keeps_more _ _ _ _ c.loop-at.invariant.kept new;
      parts =
          parts_added g.T.Term (nodes c.loop-at.terms.items) _ c.loop-at.first.items _ c.loop-at.at _ c.loop-at.invariant.parts c.loop-at.invariant.all
          (c.in_ok-push.ensures.items ∙ ap (λ z. c.loop-at.first.items ++ z ∷ []) start) at new;
    }
