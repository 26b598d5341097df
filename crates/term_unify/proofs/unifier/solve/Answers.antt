use Rattle.std.proofs.Common.{length, get_or, sym, ap, subst, Err}
use Rattle.std.specs.List.{slice_index}
use Rattle.std.proofs.lemmas.List.{length-map}
use Rattle.std.proofs.lemmas.Option.{slice_get-get_or}
use Rattle.term_unify.specs.Terms.{first}
use Rattle.term_unify.specs.Graph.{nodes, AreWithin, JoinsVariables}
use Rattle.term_unify.specs.Order.{IsOrder}
use Rattle.term_unify.specs.Binding.{IsBinding}
use Rattle.term_unify.proofs.Algebra.{laws_of}
use Rattle.term_unify.proofs.Together.{err_is}
use Rattle.term_unify.proofs.Solved.{solves, entry_size, entry_stands, entry_done, general}
use Rattle.term_unify.proofs.unifier.solve.Goals as goal

pub returns-in_err-classes-clause-clash : goal.returns-in_err-classes-clause-clash
returns-in_err-classes-clause-clash g c err by u ok =
    let is = err_is c.from_residual-in_err-classes.result _ _ c.from_residual-in_err-classes.ensures.1 err in
    c.in_err-classes.ensures.clash (ap Err (sym is)) by (c.in_ok-graph.ensures.sound by u)

pub bindings-requires-clause-joined : goal.bindings-requires-clause-joined
bindings-requires-clause-joined g c =
    subst (λ cls. JoinsVariables g.T.Term (nodes c.in_ok-graph.graph.terms.items) (length c.in_ok-graph.graph.terms.items) (slice_index cls)) (sym c.deref-3.ensures.value)
    (c.in_ok-graph.ensures.joined (slice_index c.in_ok-classes.classes.items) c.in_ok-classes.ensures.solved)

pub returns-clause-unifier : goal.returns-clause-unifier
returns-clause-unifier g c =
    let A = g.T.Term in
    let L = laws_of g.met.T.Term in
    let ts = nodes c.in_ok-graph.graph.terms.items in
    let firsts = c.in_ok-graph.graph.first.items in
    let n = length-map c.in_ok-graph.graph.terms.items (λ t. t.now) in
    let cls = c.in_ok-classes.classes.items in
    let order = c.in_ok-order.order.items in
    let list = c.in_ok-bindings.field-0.list in
    let G = c.in_ok-graph.ensures.graph in
    let K = c.in_ok-classes.ensures.classes in
    let J : JoinsVariables g.T.Term (nodes c.in_ok-graph.graph.terms.items) (length (nodes c.in_ok-graph.graph.terms.items)) (slice_index c.in_ok-classes.classes.items) =
    subst (λ m. JoinsVariables g.T.Term (nodes c.in_ok-graph.graph.terms.items) m (slice_index c.in_ok-classes.classes.items)) (sym n)
    (c.in_ok-graph.ensures.joined (slice_index c.in_ok-classes.classes.items) c.in_ok-classes.ensures.solved) in
    let O : IsOrder g.T.Term (nodes c.in_ok-graph.graph.terms.items) c.in_ok-graph.graph.first.items c.in_ok-classes.classes.items c.args.free c.args.limit c.in_ok-order.order.items =
    subst (λ z. IsOrder g.T.Term (nodes c.in_ok-graph.graph.terms.items) c.in_ok-graph.graph.first.items z c.args.free c.args.limit c.in_ok-order.order.items) c.deref.ensures.value c.in_ok-order.ensures.order in
    let B : IsBinding g.T.Term (nodes c.in_ok-graph.graph.terms.items) c.in_ok-classes.classes.items c.in_ok-order.order.items (length c.in_ok-order.order.items) c.in_ok-bindings.field-0.list =
    subst (λ z. IsBinding g.T.Term (nodes c.in_ok-graph.graph.terms.items) z c.in_ok-order.order.items (length c.in_ok-order.order.items) c.in_ok-bindings.field-0.list) c.deref-3.ensures.value
    (subst (λ z. IsBinding g.T.Term (nodes c.in_ok-graph.graph.terms.items) c.deref-3.result.now z (length z) c.in_ok-bindings.field-0.list) c.deref-4.ensures.value c.in_ok-bindings.ensures) in
    let w : AreWithin (length ts) c.in_ok-graph.equal.items = subst (λ m. AreWithin m c.in_ok-graph.equal.items) (sym n) c.in_ok-graph.ensures.within in
    c.in_ok-graph.ensures.kept (first list) (solves A L ts firsts cls order c.args.free c.args.limit list G K J O B c.in_ok-graph.equal.items w c.in_ok-classes.ensures.solved)

pub returns-clause-general : goal.returns-clause-general
returns-clause-general g c by u =
    let A = g.T.Term in
    let L = laws_of g.met.T.Term in
    let ts = nodes c.in_ok-graph.graph.terms.items in
    let firsts = c.in_ok-graph.graph.first.items in
    let n = length-map c.in_ok-graph.graph.terms.items (λ t. t.now) in
    let cls = c.in_ok-classes.classes.items in
    let order = c.in_ok-order.order.items in
    let list = c.in_ok-bindings.field-0.list in
    let G = c.in_ok-graph.ensures.graph in
    let K = c.in_ok-classes.ensures.classes in
    let J : JoinsVariables g.T.Term (nodes c.in_ok-graph.graph.terms.items) (length (nodes c.in_ok-graph.graph.terms.items)) (slice_index c.in_ok-classes.classes.items) =
    subst (λ m. JoinsVariables g.T.Term (nodes c.in_ok-graph.graph.terms.items) m (slice_index c.in_ok-classes.classes.items)) (sym n)
    (c.in_ok-graph.ensures.joined (slice_index c.in_ok-classes.classes.items) c.in_ok-classes.ensures.solved) in
    let O : IsOrder g.T.Term (nodes c.in_ok-graph.graph.terms.items) c.in_ok-graph.graph.first.items c.in_ok-classes.classes.items c.args.free c.args.limit c.in_ok-order.order.items =
    subst (λ z. IsOrder g.T.Term (nodes c.in_ok-graph.graph.terms.items) c.in_ok-graph.graph.first.items z c.args.free c.args.limit c.in_ok-order.order.items) c.deref.ensures.value c.in_ok-order.ensures.order in
    let B : IsBinding g.T.Term (nodes c.in_ok-graph.graph.terms.items) c.in_ok-classes.classes.items c.in_ok-order.order.items (length c.in_ok-order.order.items) c.in_ok-bindings.field-0.list =
    subst (λ z. IsBinding g.T.Term (nodes c.in_ok-graph.graph.terms.items) z c.in_ok-order.order.items (length c.in_ok-order.order.items) c.in_ok-bindings.field-0.list) c.deref-3.ensures.value
    (subst (λ z. IsBinding g.T.Term (nodes c.in_ok-graph.graph.terms.items) c.deref-3.result.now z (length z) c.in_ok-bindings.field-0.list) c.deref-4.ensures.value c.in_ok-bindings.ensures) in
    general A L ts firsts cls order c.args.free c.args.limit list G K J O B by (c.in_ok-classes.ensures.sound by (c.in_ok-graph.ensures.sound by u))

pub returns-clause-done : goal.returns-clause-done
returns-clause-done g c by spared k d below =
    let A = g.T.Term in
    let L = laws_of g.met.T.Term in
    let ts = nodes c.in_ok-graph.graph.terms.items in
    let firsts = c.in_ok-graph.graph.first.items in
    let n = length-map c.in_ok-graph.graph.terms.items (λ t. t.now) in
    let cls = c.in_ok-classes.classes.items in
    let order = c.in_ok-order.order.items in
    let list = c.in_ok-bindings.field-0.list in
    let G = c.in_ok-graph.ensures.graph in
    let K = c.in_ok-classes.ensures.classes in
    let J : JoinsVariables g.T.Term (nodes c.in_ok-graph.graph.terms.items) (length (nodes c.in_ok-graph.graph.terms.items)) (slice_index c.in_ok-classes.classes.items) =
    subst (λ m. JoinsVariables g.T.Term (nodes c.in_ok-graph.graph.terms.items) m (slice_index c.in_ok-classes.classes.items)) (sym n)
    (c.in_ok-graph.ensures.joined (slice_index c.in_ok-classes.classes.items) c.in_ok-classes.ensures.solved) in
    let O : IsOrder g.T.Term (nodes c.in_ok-graph.graph.terms.items) c.in_ok-graph.graph.first.items c.in_ok-classes.classes.items c.args.free c.args.limit c.in_ok-order.order.items =
    subst (λ z. IsOrder g.T.Term (nodes c.in_ok-graph.graph.terms.items) c.in_ok-graph.graph.first.items z c.args.free c.args.limit c.in_ok-order.order.items) c.deref.ensures.value c.in_ok-order.ensures.order in
    let B : IsBinding g.T.Term (nodes c.in_ok-graph.graph.terms.items) c.in_ok-classes.classes.items c.in_ok-order.order.items (length c.in_ok-order.order.items) c.in_ok-bindings.field-0.list =
    subst (λ z. IsBinding g.T.Term (nodes c.in_ok-graph.graph.terms.items) z c.in_ok-order.order.items (length c.in_ok-order.order.items) c.in_ok-bindings.field-0.list) c.deref-3.ensures.value
    (subst (λ z. IsBinding g.T.Term (nodes c.in_ok-graph.graph.terms.items) c.deref-3.result.now z (length z) c.in_ok-bindings.field-0.list) c.deref-4.ensures.value c.in_ok-bindings.ensures) in
    entry_done A L ts firsts cls order c.args.free c.args.limit list G K J O B by spared k (get_or list k d) (slice_get-get_or list k d below)

pub returns-clause-small : goal.returns-clause-small
returns-clause-small g c k d below =
    let A = g.T.Term in
    let L = laws_of g.met.T.Term in
    let ts = nodes c.in_ok-graph.graph.terms.items in
    let firsts = c.in_ok-graph.graph.first.items in
    let n = length-map c.in_ok-graph.graph.terms.items (λ t. t.now) in
    let cls = c.in_ok-classes.classes.items in
    let order = c.in_ok-order.order.items in
    let list = c.in_ok-bindings.field-0.list in
    let G = c.in_ok-graph.ensures.graph in
    let K = c.in_ok-classes.ensures.classes in
    let J : JoinsVariables g.T.Term (nodes c.in_ok-graph.graph.terms.items) (length (nodes c.in_ok-graph.graph.terms.items)) (slice_index c.in_ok-classes.classes.items) =
    subst (λ m. JoinsVariables g.T.Term (nodes c.in_ok-graph.graph.terms.items) m (slice_index c.in_ok-classes.classes.items)) (sym n)
    (c.in_ok-graph.ensures.joined (slice_index c.in_ok-classes.classes.items) c.in_ok-classes.ensures.solved) in
    let O : IsOrder g.T.Term (nodes c.in_ok-graph.graph.terms.items) c.in_ok-graph.graph.first.items c.in_ok-classes.classes.items c.args.free c.args.limit c.in_ok-order.order.items =
    subst (λ z. IsOrder g.T.Term (nodes c.in_ok-graph.graph.terms.items) c.in_ok-graph.graph.first.items z c.args.free c.args.limit c.in_ok-order.order.items) c.deref.ensures.value c.in_ok-order.ensures.order in
    let B : IsBinding g.T.Term (nodes c.in_ok-graph.graph.terms.items) c.in_ok-classes.classes.items c.in_ok-order.order.items (length c.in_ok-order.order.items) c.in_ok-bindings.field-0.list =
    subst (λ z. IsBinding g.T.Term (nodes c.in_ok-graph.graph.terms.items) z c.in_ok-order.order.items (length c.in_ok-order.order.items) c.in_ok-bindings.field-0.list) c.deref-3.ensures.value
    (subst (λ z. IsBinding g.T.Term (nodes c.in_ok-graph.graph.terms.items) c.deref-3.result.now z (length z) c.in_ok-bindings.field-0.list) c.deref-4.ensures.value c.in_ok-bindings.ensures) in
    entry_size A L ts firsts cls order c.args.free c.args.limit list G K J O B k (get_or list k d) (slice_get-get_or list k d below)

pub returns-clause-stand : goal.returns-clause-stand
returns-clause-stand g c k d below =
    let A = g.T.Term in
    let L = laws_of g.met.T.Term in
    let ts = nodes c.in_ok-graph.graph.terms.items in
    let firsts = c.in_ok-graph.graph.first.items in
    let n = length-map c.in_ok-graph.graph.terms.items (λ t. t.now) in
    let cls = c.in_ok-classes.classes.items in
    let order = c.in_ok-order.order.items in
    let list = c.in_ok-bindings.field-0.list in
    let G = c.in_ok-graph.ensures.graph in
    let K = c.in_ok-classes.ensures.classes in
    let J : JoinsVariables g.T.Term (nodes c.in_ok-graph.graph.terms.items) (length (nodes c.in_ok-graph.graph.terms.items)) (slice_index c.in_ok-classes.classes.items) =
    subst (λ m. JoinsVariables g.T.Term (nodes c.in_ok-graph.graph.terms.items) m (slice_index c.in_ok-classes.classes.items)) (sym n)
    (c.in_ok-graph.ensures.joined (slice_index c.in_ok-classes.classes.items) c.in_ok-classes.ensures.solved) in
    let O : IsOrder g.T.Term (nodes c.in_ok-graph.graph.terms.items) c.in_ok-graph.graph.first.items c.in_ok-classes.classes.items c.args.free c.args.limit c.in_ok-order.order.items =
    subst (λ z. IsOrder g.T.Term (nodes c.in_ok-graph.graph.terms.items) c.in_ok-graph.graph.first.items z c.args.free c.args.limit c.in_ok-order.order.items) c.deref.ensures.value c.in_ok-order.ensures.order in
    let B : IsBinding g.T.Term (nodes c.in_ok-graph.graph.terms.items) c.in_ok-classes.classes.items c.in_ok-order.order.items (length c.in_ok-order.order.items) c.in_ok-bindings.field-0.list =
    subst (λ z. IsBinding g.T.Term (nodes c.in_ok-graph.graph.terms.items) z c.in_ok-order.order.items (length c.in_ok-order.order.items) c.in_ok-bindings.field-0.list) c.deref-3.ensures.value
    (subst (λ z. IsBinding g.T.Term (nodes c.in_ok-graph.graph.terms.items) c.deref-3.result.now z (length z) c.in_ok-bindings.field-0.list) c.deref-4.ensures.value c.in_ok-bindings.ensures) in
    entry_stands A L ts firsts cls order c.args.free c.args.limit list G K J O B k (get_or list k d) (slice_get-get_or list k d below)
