use Rattle.std.proofs.Common.{◌≡◌, ◌<◌, arith, length, get_or, sym, ap, subst, ◌∙◌, Some}
use Rattle.std.specs.List.{slice_get, slice_index}
use Rattle.std.proofs.lemmas.List.{length-map}
use Rattle.std.proofs.lemmas.Option.{slice_get-get_or, slice_get_within}
use Rattle.term_unify.specs.Graph.{nodes}
use Rattle.term_unify.specs.Binding.{IsBinding}
use Rattle.term_unify.proofs.Bindings.{binding_next}
use Rattle.term_unify.proofs.Lists.{same_item}
use Rattle.term_unify.proofs.graph.Graph.bindings.Goals as goal

pub index-requires : goal.index-requires
index-requires g c =
    let p = c.loop-root.root-index in
    let place = slice_get-get_or c.args.order.now p 0 c.loop-root-test.true in
    let k = c.requires.order.walk.known p (slice_index c.args.order.now p) place in
    omega (arith, k.1, c.requires.groups.all)

pub bind-requires-clause-root : goal.bind-requires-clause-root
bind-requires-clause-root g c =
    let n = length-map c.args.self.now.terms.items (λ t. t.now) in
    let p = c.loop-root.root-index in
    let k = c.requires.order.walk.known p (slice_index c.args.order.now p) (slice_get-get_or c.args.order.now p 0 c.loop-root-test.true) in
    omega (arith, k.1, n)

pub bind-requires-clause-group : goal.bind-requires-clause-group
bind-requires-clause-group g c k d below =
    let ts = nodes c.args.self.now.terms.items in
    let n = length-map c.args.self.now.terms.items (λ t. t.now) in
    let p = c.loop-root.root-index in
    let root = slice_index c.args.order.now p in
    let place = slice_get-get_or c.args.order.now p 0 c.loop-root-test.true in
    let W = c.requires.order.walk in
    let k0 = W.known p root place in
    let h : root < length c.args.groups.now.items = omega (arith, k0.1, c.requires.groups.all) in
    let v = c.index.result.now in
    let group : slice_get c.args.groups.now.items root ≡ Some v = slice_get-get_or c.args.groups.now.items root v h ∙ ap Some (sym c.index.ensures) in
    let items = c.as_slice.ensures.value in
    let at = slice_get-get_or c.as_slice.result.now k d below in
    let r = c.requires.groups.known root k (get_or c.as_slice.result.now k d) v group (ap (λ z. slice_get z k) (sym items) ∙ at) in
    let w = slice_get_within ts (get_or c.as_slice.result.now k d) r.1.0 r.1.2 in
    omega (arith, w, n)

pub loop-root-preserved : goal.loop-root-preserved
loop-root-preserved g c =
    let ts = nodes c.args.self.now.terms.items in
    let n = length-map c.args.self.now.terms.items (λ t. t.now) in
    let p = c.loop-root.root-index in
    let root = slice_index c.args.order.now p in
    let place = slice_get-get_or c.args.order.now p 0 c.loop-root-test.true in
    let W = c.requires.order.walk in
    let k0 = W.known p root place in
    let h : root < length c.args.groups.now.items = omega (arith, k0.1, c.requires.groups.all) in
    let v = c.index.result.now in
    let group : slice_get c.args.groups.now.items root ≡ Some v = slice_get-get_or c.args.groups.now.items root v h ∙ ap Some (sym c.index.ensures) in
    let items = c.as_slice.ensures.value in
    let r = c.in_ok-bind.ensures c.args.classes.now c.requires.order.sizes c.args.order.now p c.requires.classes c.requires.joined c.requires.graph W place
    (λ k i at. (c.requires.groups.known root k i v group (ap (λ z. slice_get z k) (sym items) ∙ at)).0) c.loop-root.invariant in
    binding_next g.T.Term ts c.args.classes.now c.args.order.now p root c.bind.new.done.list place r.0
    (λ i x t s at var mine at-s.
    let w = slice_get_within ts i t at in
    let q = c.requires.groups.whole i x t (omega (arith, w, n)) at var in
    let same : q.0 ≡ v = same_item c.args.groups.now.items root q.0 v (ap (slice_get c.args.groups.now.items) (sym mine) ∙ q.2) group in
    r.1 q.1 i x t s (ap (λ z. slice_get z q.1) items ∙ ap (λ z. slice_get z.items q.1) (sym same) ∙ q.3) at var at-s)

pub returns : goal.returns
returns g c =
    let m : c.loop-root.root-index ≡ length c.args.order.now = omega (arith, c.loop-root-test.false, c.loop-root.auto) in
    subst (λ p. IsBinding g.T.Term (nodes c.args.self.now.terms.items) c.args.classes.now c.args.order.now p c.loop-root.done.list) m c.loop-root.invariant
