use Rattle.std.proofs.Common.{◌≡◌, ◌≢◌, ◌+◌, ◌<◌, ◌∙◌, sym, ap, subst, refl, length, arith, Some, true, false, inl, inr}
use Rattle.std.specs.List.{slice_get, slice_index, slice_set}
use Rattle.std.proofs.lemmas.List.{length-map, length-set}
use Rattle.term_unify.specs.Graph.{nodes}
use Rattle.term_unify.proofs.Algebra.{laws_of}
use Rattle.std.proofs.lemmas.Option.{slice_get-get_or}
use Rattle.term_unify.specs.Order.{sum_below}
use Rattle.term_unify.proofs.Lists.{same_or_not, got_set_here, got_set_other, set_back}
use Rattle.term_unify.proofs.Forest.{set_here, set_there}
use Rattle.term_unify.proofs.Nodes.{node_at, number_at}
use Rattle.term_unify.proofs.Walking.{walk_finishes, part_place, part_clash, sum_clash, done_more, size_more}
use Rattle.term_unify.proofs.Together.{err_is}
use Rattle.std.proofs.Common.{Err}
use Rattle.term_unify.proofs.graph.Graph.+visit.Goals as goal

pub overflow_add-below : goal.overflow_add-below
overflow_add-below g t c =
    let place = part_place g.T.Term (laws_of g.met.T.Term) c.args.self.now.terms.items c.args.self.now.first.items c.args.root c.loop-at.at c.index-in-loop-at.result.now c.parts-at-end.result
    c.index-2.result.now c.requires.graph c.requires.inside c.index-2.ensures c.index-in-loop-at.ensures c.parts-at-end.ensures c.loop-at-test.true in
    omega (arith, place.1, c.args.self.now.terms.ok.0, c.args.self.now.terms.ok.1, c.args.self.now.terms.small)

pub offset_bounds-classes-index : goal.offset_bounds-classes-index
offset_bounds-classes-index g t c =
    let place = part_place g.T.Term (laws_of g.met.T.Term) c.args.self.now.terms.items c.args.self.now.first.items c.args.root c.loop-at.at c.index-in-loop-at.result.now c.parts-at-end.result
    c.index-2.result.now c.requires.graph c.requires.inside c.index-2.ensures c.index-in-loop-at.ensures c.parts-at-end.ensures c.loop-at-test.true in
    let n = length-map c.args.self.now.terms.items (λ t. t.now) in
    omega (arith, place.1, n, c.requires.classes.all, c.args.self.now.terms.ok.0, c.args.self.now.terms.ok.1, c.args.self.now.terms.small)

pub bounds-classes-index : goal.bounds-classes-index
bounds-classes-index g t c =
    let place = part_place g.T.Term (laws_of g.met.T.Term) c.args.self.now.terms.items c.args.self.now.first.items c.args.root c.loop-at.at c.index-in-loop-at.result.now c.parts-at-end.result
    c.index-2.result.now c.requires.graph c.requires.inside c.index-2.ensures c.index-in-loop-at.ensures c.parts-at-end.ensures c.loop-at-test.true in
    let n = length-map c.args.self.now.terms.items (λ t. t.now) in
    omega (arith, place.1, n, c.requires.classes.all)

pub visit-requires : goal.visit-requires
visit-requires g t c κs within =
    let place = part_place g.T.Term (laws_of g.met.T.Term) c.args.self.now.terms.items c.args.self.now.first.items c.args.root c.loop-at.at c.index-in-loop-at.result.now c.parts-at-end.result
    c.index-2.result.now c.requires.graph c.requires.inside c.index-2.ensures c.index-in-loop-at.ensures c.parts-at-end.ensures c.loop-at-test.true in
    let n = length-map c.args.self.now.terms.items (λ t. t.now) in
    let b : c.index-in-loop-at.result.now + c.loop-at.at < length (nodes c.args.self.now.terms.items) = omega (arith, place.1, n) in
    let w = c.requires.classes.within (c.index-in-loop-at.result.now + c.loop-at.at) b in
    let m = ap length c.loop-at.invariant.entered in
    let k = length-set c.args.walk.now.entered.items c.args.root true in (
      omega (arith, c.decreases, c.if-limit-eq0.false),
      (
        within,
        (
          c.requires.graph,
          (
            c.requires.classes,
            (
              c.loop-at.invariant.walk,
              (m ∙ k ∙ c.requires.marked, (omega (arith, w, n), c.requires.classes.root (c.index-in-loop-at.result.now + c.loop-at.at) b)),
            ),
          ),
        ),
      ),
    )

pub returns-in_err-visit-clause-clash : goal.returns-in_err-visit-clause-clash
returns-in_err-visit-clause-clash g t c err by v R at-v small opens =
    let place = part_place g.T.Term (laws_of g.met.T.Term) c.args.self.now.terms.items c.args.self.now.first.items c.args.root c.loop-at.at c.index-in-loop-at.result.now c.parts-at-end.result
    c.index-2.result.now c.requires.graph c.requires.inside c.index-2.ensures c.index-in-loop-at.ensures c.parts-at-end.ensures c.loop-at-test.true in
    let is = err_is c.from_residual.result _ _ c.from_residual.ensures.1 err in
    part_clash g.T.Term (laws_of g.met.T.Term) (nodes c.args.self.now.terms.items) c.args.self.now.first.items c.args.classes.now c.requires.graph by R
    c.args.root c.loop-at.at c.index-in-loop-at.result.now c.args.limit c.index-2.result.now.now v c.args.walk.now.entered.items c.loop-at.walk.entered.items
    place.3 place.2 place.0 at-v small c.loop-at.invariant.entered opens
    (λ u. c.in_err-visit.ensures.clash (ap Err (sym is)) by u R)

pub returns-then-index-limit-clause-clash : goal.returns-then-index-limit-clause-clash
returns-then-index-limit-clause-clash g t c err by v R at-v small opens =
    let place = part_place g.T.Term (laws_of g.met.T.Term) c.args.self.now.terms.items c.args.self.now.first.items c.args.root c.loop-at.at c.index-in-loop-at.result.now c.parts-at-end.result
    c.index-2.result.now c.requires.graph c.requires.inside c.index-2.ensures c.index-in-loop-at.ensures c.parts-at-end.ensures c.loop-at-test.true in
    let n = length-map c.args.self.now.terms.items (λ t. t.now) in
    let V = c.in_ok-visit.ensures in
    let I = c.loop-at.invariant in
    let sizes = c.visit.new.walk.sizes.items in
    let below = slice_index c.args.classes.now (c.index-in-loop-at.result.now + c.loop-at.at) in
    let b : c.index-in-loop-at.result.now + c.loop-at.at < length (nodes c.args.self.now.terms.items) = omega (arith, place.1, n) in
    let w = c.requires.classes.within (c.index-in-loop-at.result.now + c.loop-at.at) b in
    let h : below < length sizes = omega (arith, w, V.walk.sized) in
    let x2 = number_at sizes below c.index-in-loop-at-2.result.now h c.index-in-loop-at-2.ensures in
    sum_clash g.T.Term (laws_of g.met.T.Term) (nodes c.args.self.now.terms.items) c.args.self.now.first.items c.args.classes.now c.requires.graph by R
    c.loop-at.walk.sizes.items sizes c.visit.new.walk.order.items c.args.root c.loop-at.at c.index-in-loop-at.result.now c.loop-at.size c.args.limit c.index-in-loop-at-2.result.now
    c.index-2.result.now.now v place.3 place.2 place.0 at-v small V.walk V.kept I.done I.size I.bound x2 c.if-index-limit.true

pub loop-at-preserved : goal.loop-at-preserved
loop-at-preserved g t c =
    let place = part_place g.T.Term (laws_of g.met.T.Term) c.args.self.now.terms.items c.args.self.now.first.items c.args.root c.loop-at.at c.index-in-loop-at.result.now c.parts-at-end.result
    c.index-2.result.now c.requires.graph c.requires.inside c.index-2.ensures c.index-in-loop-at.ensures c.parts-at-end.ensures c.loop-at-test.true in
    let n = length-map c.args.self.now.terms.items (λ t. t.now) in
    let V = c.in_ok-visit.ensures in
    let I = c.loop-at.invariant in
    let sizes = c.visit.new.walk.sizes.items in
    let below = slice_index c.args.classes.now (c.index-in-loop-at.result.now + c.loop-at.at) in
    let b : c.index-in-loop-at.result.now + c.loop-at.at < length (nodes c.args.self.now.terms.items) = omega (arith, place.1, n) in
    let w = c.requires.classes.within (c.index-in-loop-at.result.now + c.loop-at.at) b in
    let h : below < length sizes = omega (arith, w, V.walk.sized) in
    let x2 = number_at sizes below c.index-in-loop-at-2.result.now h c.index-in-loop-at-2.ensures in
    let x3 = number_at sizes below c.index-in-loop-at-3.result.now h c.index-in-loop-at-3.ensures in
    let start = ap (λ k. slice_index sizes (slice_index c.args.classes.now (k + c.loop-at.at))) place.0 in
    record {
      walk = V.walk;
      entered = V.entered ∙ I.entered;
      kept = λ r pos. let q = I.kept r pos in let p : 0 < slice_index c.loop-at.walk.sizes.items r = omega (arith, q, pos) in V.kept r p ∙ q;
      idle = λ r on none. V.idle r (ap (λ z. slice_get z r) I.entered ∙ on) (I.idle r on none);
      small = λ most le each. V.small most (omega (arith, le)) (I.small most le each);
      done = done_more c.args.self.now.first.items c.args.classes.now c.loop-at.walk.sizes.items sizes c.args.root c.loop-at.at V.kept I.done (subst (λ m. 0 < m) start V.done);
      size = size_more c.args.self.now.first.items c.args.classes.now c.loop-at.walk.sizes.items sizes c.args.root c.loop-at.at c.loop-at.size c.index-in-loop-at-3.result.now V.kept I.done I.size (x3 ∙ start);
      bound = omega (arith, x2, x3, c.if-index-limit.false, I.bound);
    }

pub returns-clause-walk : goal.returns-clause-walk
returns-clause-walk g t c =
    let I = c.loop-at.invariant in
    let ts = nodes c.args.self.now.terms.items in
    let here = node_at c.args.self.now.terms.items c.args.root c.index-2.result.now c.requires.inside c.index-2.ensures in
    let n = length-map c.args.self.now.terms.items (λ t. t.now) in
    let h : c.args.root < length c.args.walk.now.sizes.items = omega (arith, c.requires.inside, c.requires.walk.sized, n) in
    let k : c.args.root < length c.args.walk.now.entered.items = omega (arith, c.requires.inside, c.requires.marked) in
    let was = number_at c.args.walk.now.sizes.items c.args.root c.index.result.now h c.index.ensures in
    let zero : slice_index c.args.walk.now.sizes.items c.args.root ≡ 0 = omega (arith, was, c.if-index-gt0.false) in
    let none = I.idle c.args.root (got_set_here c.args.walk.now.entered.items c.args.root true k) zero in
    let count : c.loop-at.at ≡ length (g.T.Term.kids c.index-2.result.now.now) = omega (arith, c.parts-at-end.ensures, c.loop-at-test.false) in
    walk_finishes g.T.Term (laws_of g.met.T.Term) ts c.args.self.now.first.items c.args.classes.now c.loop-at.walk.sizes.items c.loop-at.walk.order.items _ _
    c.requires.graph c.requires.classes I.walk c.args.root c.loop-at.size c.index-2.result.now.now here c.requires.root none
    (I.size ∙ ap (λ k. 1 + sum_below (λ n. slice_index c.loop-at.walk.sizes.items (slice_index c.args.classes.now (slice_index c.args.self.now.first.items c.args.root + n))) k) count)
    (λ n b. I.done n (omega (arith, count, b))) refl c.in_ok-push.ensures.items

pub returns-clause-entered : goal.returns-clause-entered
returns-clause-entered g t c =
    let I = c.loop-at.invariant in
    let k : c.args.root < length c.args.walk.now.entered.items = omega (arith, c.requires.inside, c.requires.marked) in
    let was : slice_get c.args.walk.now.entered.items c.args.root ≡ Some false =
    slice_get-get_or c.args.walk.now.entered.items c.args.root c.index-else-limit-eq0.result.now k ∙ ap Some (sym c.index-else-limit-eq0.ensures ∙ c.if-index.false) in
    ap (λ z. slice_set z c.args.root false) I.entered ∙ set_back c.args.walk.now.entered.items c.args.root true false was

pub returns-clause-idle : goal.returns-clause-idle
returns-clause-idle g t c r on none =
    let I = c.loop-at.invariant in
    let k : c.args.root < length c.args.walk.now.entered.items = omega (arith, c.requires.inside, c.requires.marked) in
    let was : slice_get c.args.walk.now.entered.items c.args.root ≡ Some false =
    slice_get-get_or c.args.walk.now.entered.items c.args.root c.index-else-limit-eq0.result.now k ∙ ap Some (sym c.index-else-limit-eq0.ensures ∙ c.if-index.false) in
    let apart : r ≢ c.args.root = λ e. (let a : slice_get c.args.walk.now.entered.items r ≡ slice_get c.args.walk.now.entered.items c.args.root = ap (slice_get c.args.walk.now.entered.items) e in cc) in
    set_there c.loop-at.walk.sizes.items c.args.root c.loop-at.size r apart ∙ I.idle r (got_set_other c.args.walk.now.entered.items c.args.root r true apart ∙ on) none

pub returns-clause-small : goal.returns-clause-small
returns-clause-small g t c most le each r =
    let I = c.loop-at.invariant in
    elim (same_or_not r c.args.root) [
      | inl e ↦
          let n = length-map c.args.self.now.terms.items (λ t. t.now) in
          let h : c.args.root < length c.loop-at.walk.sizes.items = omega (arith, I.walk.sized, n, c.requires.inside) in
          let q = set_here c.loop-at.walk.sizes.items c.args.root c.loop-at.size r h e in omega (arith, q, I.bound, le)
      | inr d ↦ let q = set_there c.loop-at.walk.sizes.items c.args.root c.loop-at.size r d in let p = I.small most le each r in omega (arith, q, p)
    ]
