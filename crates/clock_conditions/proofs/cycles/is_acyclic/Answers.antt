use Rattle.std.proofs.Common.{sym, subst}
use Rattle.digraph.specs.Graph.{reads}
use Rattle.digraph.specs.Numbering.{Rising, place, same_number}
use Rattle.digraph.specs.Order.{OrderOrCycle}
use Rattle.digraph.proofs.Numbering.{order_numbers, cycles_exclude}
use Rattle.clock_conditions.proofs.Ranking.{ranked, rising}
use Rattle.clock_conditions.proofs.cycles.is_acyclic.Goals as goal

pub returns-in-Ordered-clause-ranked : goal.returns-in-Ordered-clause-ranked
returns-in-Ordered-clause-ranked c = λ t.
    let order = subst (OrderOrCycle c.in_ok-graph.graph) c.in-Ordered.is c.in_ok-order.ensures in
    ranked c.args.marks.now c.args.notes.now (place same_number c.in-Ordered.field-0.items)
    (subst (λ g. Rising (reads g) (place same_number c.in-Ordered.field-0.items)) c.in_ok-graph.ensures (order_numbers c.in_ok-graph.graph c.in-Ordered.field-0.items order))

pub returns-clause-turning : goal.returns-clause-turning
returns-clause-turning c = λ f r.
    let cycle = subst (OrderOrCycle c.in_ok-graph.graph) c.in-Cycle.is c.in_ok-order.ensures in
    cycles_exclude (reads c.in_ok-graph.graph) r.rank c.in-Cycle.field-0.items cycle
    (subst (λ g. Rising (reads g) r.rank) (sym c.in_ok-graph.ensures) (rising c.args.marks.now c.args.notes.now r))
