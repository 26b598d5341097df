use Rattle.std.specs.Prelude.{ℕ, List}
use Rattle.std.proofs.Common.{◌∙◌, ap, length, map, subst, sym}
use Rattle.digraph.specs.Graph.{reads as reads_of}
use Rattle.digraph.specs.Numbering.{Cycle}
use Rattle.digraph.specs.Order.{OrderOrCycle}
use Rattle.ls_places.specs.declared.definition.Definition.{Definition}
use Rattle.ls_sig.specs.declared.sigs.Item.{Item}
use Rattle.causality_rules.specs.Reads.{reads}
use Rattle.causality.specs.Cycles.{rows_in}
use Rattle.causality.specs.Items.{Rowed}
use Rattle.causality.specs.Nodes.{all_nodes, counts, total}
use Rattle.causality.specs.Ranks.{ArePlaces, ranked}
use Rattle.causality.proofs.Tabled.{order_ranks, rows_long}
use Rattle.causality.proofs.Ways.{rows_cycle}
use Rattle.causality.proofs.judge.judge.Goals as goal

abbrev numbered : Definition → List ℕ → List Rowed → List (Item × ℕ)
numbered d at = map {A = Rowed} {B = Item × ℕ} (ranked d at)

pub ranks-requires-clause-all : goal.ranks-requires-clause-all
ranks-requires-clause-all c =
    ap (λ (z : List ℕ). length z) c.deref-in-Ordered.ensures.value ∙ c.in_ok-at-in-Ordered.ensures.all ∙ c.nodes-in-Ordered.ensures.value
    ∙ ap (λ (z : List (List ℕ)). length z) c.in_ok-graph.ensures ∙ rows_long c.args.d.now ∙ sym (ap (λ (z : Definition). total (counts z)) c.definition-in-Ordered.ensures)

pub returns-in-Ordered : goal.returns-in-Ordered
returns-in-Ordered c =
    let d = c.args.d.now in
    let g = c.in_ok-graph.graph in
    let order = c.in-Ordered.order.items in
    let at = c.in_ok-at-in-Ordered.at.items in
    let rows = c.as_slice-in-Ordered.result.now in
    order_ranks d g order at c.in_ok-list-in-Ordered.list c.in_ok-graph.ensures (subst (OrderOrCycle g) c.in-Ordered.is c.in_ok-order.ensures)
    (subst (ArePlaces at) c.deref.ensures.value c.in_ok-at-in-Ordered.ensures.places)
    (c.in_ok-at-in-Ordered.ensures.all ∙ c.nodes-in-Ordered.ensures.value ∙ ap (λ (z : List (List ℕ)). length z) c.in_ok-graph.ensures ∙ rows_long d)
    (c.in_ok-list-in-Ordered.ensures ∙ ap (λ (z : Definition). numbered z c.deref-in-Ordered.result.now rows) c.definition-in-Ordered.ensures
    ∙ ap (λ z. numbered d z rows) c.deref-in-Ordered.ensures.value ∙ ap (numbered d at) (c.as_slice-in-Ordered.ensures.value ∙ c.in_ok-rows.ensures))

pub cyclic_items-requires-clause-cycle : goal.cyclic_items-requires-clause-cycle
cyclic_items-requires-clause-cycle c =
    let d = c.args.d.now in
    let g = c.in_ok-graph.graph in
    let cycle = c.in-Cycle.cycle.items in
    let links = subst (λ z. Cycle (reads_of z) cycle) c.in_ok-graph.ensures (subst (OrderOrCycle g) c.in-Cycle.is c.in_ok-order.ensures) in
    let nodes = c.as_slice-in-Cycle.ensures.value ∙ c.in_ok-nodes.ensures ∙ ap (λ (z : Definition). all_nodes (counts z)) c.definition.ensures in
    let found = c.as_slice-in-Cycle-3.ensures.value ∙ c.in_ok-found-in-Cycle.ensures ∙ ap (λ z. rows_in z c.deref-in-Cycle.result.now) nodes
    ∙ ap (rows_in (all_nodes (counts d))) c.deref-in-Cycle.ensures.value in
    subst (λ (z : Definition). Cycle (reads z) c.as_slice-in-Cycle-3.result.now) (sym c.definition-in-Cycle.ensures) (subst (Cycle (reads d)) (sym found) (rows_cycle d cycle links))
