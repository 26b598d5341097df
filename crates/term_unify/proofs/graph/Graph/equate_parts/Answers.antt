use Rattle.std.proofs.Common.{◌≡◌, [], ◌++◌, ◌<◌, ◌∙◌, ap, length, arith}
use Rattle.std.specs.List.{slice_index}
use Rattle.std.proofs.lemmas.List.{length-map}
use Rattle.term_unify.specs.Graph.{nodes, pair_up}
use Rattle.term_unify.proofs.Algebra.{laws_of}
use Rattle.term_unify.proofs.Nodes.{node_at, number_at}
use Rattle.term_unify.proofs.Lists.{same_item, got_some}
use Rattle.term_unify.proofs.Closing.{part_inside}
use Rattle.term_unify.proofs.graph.Graph.equate_parts.Goals as goal

upper : (g : _) (c : goal.After-push-arg-1 g) → c.index.result.now ≡ slice_index c.args.self.now.first.items c.args.over
upper g c =
    let a = c.requires.graph.all in
    let n = length-map c.args.self.now.terms.items (λ t. t.now) in
    let h : c.args.over < length c.args.self.now.first.items = omega (arith, a, n, c.requires.upper) in
    number_at c.args.self.now.first.items c.args.over c.index.result.now h c.index.ensures

lower : (g : _) (c : goal.After-push-arg-1 g) → c.index-2.result.now ≡ slice_index c.args.self.now.first.items c.args.under
lower g c =
    let a = c.requires.graph.all in
    let n = length-map c.args.self.now.terms.items (λ t. t.now) in
    let h : c.args.under < length c.args.self.now.first.items = omega (arith, a, n, c.requires.lower) in
    number_at c.args.self.now.first.items c.args.under c.index-2.result.now h c.index-2.ensures

pub overflow_add-m : goal.overflow_add-m
overflow_add-m g c =
    let ts = nodes c.args.self.now.terms.items in
    let n = length-map c.args.self.now.terms.items (λ t. t.now) in
    let h : c.args.over < length ts = omega (arith, n, c.requires.upper) in
    let s = got_some ts c.args.over h in
    let t = node_at c.args.self.now.terms.items c.args.under c.index-3.result.now c.requires.lower c.index-3.ensures in
    let k = c.requires.same s.0 c.index-3.result.now.now s.1 t in
    let below : c.loop-at.at < length (g.T.Term.kids s.0) = omega (arith, k, c.parts-at-end.ensures) in
    let r = part_inside g.T.Term (laws_of g.met.T.Term) ts c.args.self.now.first.items [] c.requires.graph c.args.over c.loop-at.at s.0 s.1 below in
    omega (arith, r, n, upper g c, c.args.self.now.terms.ok.0, c.args.self.now.terms.ok.1, c.args.self.now.terms.small)

pub overflow_add-n : goal.overflow_add-n
overflow_add-n g c =
    let ts = nodes c.args.self.now.terms.items in
    let n = length-map c.args.self.now.terms.items (λ t. t.now) in
    let t = node_at c.args.self.now.terms.items c.args.under c.index-3.result.now c.requires.lower c.index-3.ensures in
    let below : c.loop-at.at < length (g.T.Term.kids c.index-3.result.now.now) = omega (arith, c.parts-at-end.ensures) in
    let r = part_inside g.T.Term (laws_of g.met.T.Term) ts c.args.self.now.first.items [] c.requires.graph c.args.under c.loop-at.at c.index-3.result.now.now t below in
    omega (arith, r, n, lower g c, c.args.self.now.terms.ok.0, c.args.self.now.terms.ok.1, c.args.self.now.terms.small)

pub returns : goal.returns
returns g c t at =
    let ts = nodes c.args.self.now.terms.items in
    let a = c.requires.graph.all in
    let n = length-map c.args.self.now.terms.items (λ t. t.now) in
    let h : c.args.over < length c.args.self.now.first.items = omega (arith, a, n, c.requires.upper) in
    let k : c.args.under < length c.args.self.now.first.items = omega (arith, a, n, c.requires.lower) in
    let over = number_at c.args.self.now.first.items c.args.over c.index.result.now h c.index.ensures in
    let under = number_at c.args.self.now.first.items c.args.under c.index-2.result.now k c.index-2.ensures in
    let here = node_at c.args.self.now.terms.items c.args.under c.index-3.result.now c.requires.lower c.index-3.ensures in
    let is : t ≡ c.index-3.result.now.now = same_item ts c.args.under t c.index-3.result.now.now at here in
    let d = ap (λ z. length (g.T.Term.kids z)) is in
    let count : c.loop-at.at ≡ length (g.T.Term.kids t) = omega (arith, d, c.parts-at-end.ensures, c.loop-at-test.false) in
    c.loop-at.invariant ∙ (λ i. c.args.pending.now.items ++ pair_up (over i) (under i) (count i))
