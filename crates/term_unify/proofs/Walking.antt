use Rattle.std.proofs.Common.{◌≡◌, ◌≢◌, ℕ, zero, suc, ◌+◌, ◌<◌, ◌≤◌, ◌-◌, Bool, true, false, List, [], ◌∷◌, ◌++◌, Option, Some, None, ◌⊎◌, inl, inr, length, get_or, set, map, take, refl, ap, sym, ◌∙◌, subst, arith, add-one, Bor}
use Rattle.std.specs.List.{slice_get, slice_index, slice_set}
use Rattle.std.specs.Option.{option_map}
use Rattle.std.specs.Prelude.{◌||◌, replicate, unwrap_or}
use Rattle.std.proofs.lemmas.List.{length-replicate}
use Rattle.std.proofs.lemmas.List.{length-set, length-map}
use Rattle.std.proofs.lemmas.Option.{slice_get_within, slice_get-map}
use Rattle.term_unify.specs.Terms.{total}
use Rattle.term_unify.specs.Graph.{nodes, value, taken, IsGraph, AreClasses, Respects, IsAllowed}
use Rattle.term_unify.specs.Order.{IsWalk, sum_below}
use Rattle.term_unify.specs.declared.laws.Term.{Ghosts}
use Rattle.term_unify.proofs.Algebra.{Laws}
use Rattle.term_unify.proofs.Lists.{same_or_not, less_or_same, got_set_other, same_item, got_some, got_front, got_cases, got_next, take_more, total-append, total_at}
use Rattle.term_unify.proofs.Nodes.{node_at, number_at}
use Rattle.term_unify.proofs.Closing.{part_inside}
use Rattle.term_unify.proofs.Forest.{set_here, set_there}

pub sum_same : (f h : ℕ → ℕ) (n : ℕ) → ((i : ℕ) → i < n → f i ≡ h i) → sum_below f n ≡ sum_below h n
sum_same f h zero each = refl
sum_same f h (suc n) each = let a = sum_same f h n (λ i b. each i (omega arith)) in let b = each n (omega arith) in λ k. a k + b k

-- the sizes of the first items
pub total_take : {X : Type 0} (f : X → ℕ) (xs : List X) (n : ℕ) → total f (take n xs) ≤ total f xs
total_take f xs zero = omega arith
total_take f [] (suc n) = omega arith
total_take f (x ∷ xs) (suc n) = omega (arith, total_take f xs n)

pub sum_total : {X : Type 0} (f : X → ℕ) (h : ℕ → ℕ) (xs : List X) (n : ℕ) → n ≤ length xs → ((i : ℕ) (x : X) → i < n → slice_get xs i ≡ Some x → h i ≤ f x)
    → sum_below h n ≤ total f (take n xs)
sum_total f h xs zero most each = omega arith
sum_total f h xs (suc n) most each =
    let r = got_some xs n (omega arith) in
    let e : take (suc n) xs ≡ take n xs ++ r.0 ∷ [] = ap (λ k. take k xs) (sym (add-one n)) ∙ take_more xs n r.0 r.1 in
    let t = ap (total f) e ∙ total-append f (take n xs) (r.0 ∷ []) in
    let a = sum_total f h xs n (omega arith) (λ i x b s. each i x (omega arith) s) in
    let b = each n r.0 (omega arith) r.1 in
    omega (arith, t, a, b)

module _ {T : Type 0} (A : Ghosts T) (L : Laws A) (ts : List T) (first cls : List ℕ) where
  pub value_is : (by : ℕ → Option T) (r : ℕ) (t v : T) → slice_get ts r ≡ Some t → value A ts by r ≡ Some v → v ≡ A.apply by t
  value_is by r t v at e = let f : Some (A.apply by t) ≡ Some v = sym (ap (option_map (A.apply by)) at) ∙ e in cc

  -- the value of a part's class
  pub part_value : IsGraph A ts first → (by : ℕ → Option T) → Respects A ts cls by → (r n : ℕ) (t u : T) → slice_get ts r ≡ Some t → slice_get (A.kids t) n ≡ Some u
      → value A ts by (slice_index cls (slice_index first r + n)) ≡ Some (A.apply by u)
  part_value G by R r n t u at kid =
      let here = G.parts r n t u (slice_get_within ts r t at) at kid in
      sym (R (slice_index first r + n) (slice_get_within ts (slice_index first r + n) u here)) ∙ ap (option_map (A.apply by)) here

  nothing_below : (t : T) (x n : ℕ) → A.var_of t ≡ Some x → n < length (A.kids t) → ⊥
  nothing_below t x n e b = let k = ap length (L.var_kids t x e) in omega (arith, k, b)

  -- a value has one node more than the values of its parts
  pub value_size : (by : ℕ → Option T) (t : T) (n : ℕ) → n < length (A.kids t) → A.size (A.apply by t) ≡ 1 + total A.size (map (A.apply by) (A.kids t))
  value_size by t n b = go (A.var_of t) refl
    where
      go : (o : Option ℕ) → A.var_of t ≡ o → A.size (A.apply by t) ≡ 1 + total A.size (map (A.apply by) (A.kids t))
      go None e = L.size_is (A.apply by t) ∙ ap (λ ks. 1 + total A.size ks) (L.apply_kids by t e)
      go (Some x) e = absurd (nothing_below t x n e b)

  pub smaller_below : IsGraph A ts first → (by : ℕ → Option T) → Respects A ts cls by → (r n : ℕ) (t v : T) → slice_get ts r ≡ Some t → n < length (A.kids t) → value A ts by r ≡ Some v
      → (u : T) × (value A ts by (slice_index cls (slice_index first r + n)) ≡ Some u) × (A.size u < A.size v)
  smaller_below G by R r n t v at b e =
      let kid = got_some (A.kids t) n b in
      let same = value_is by r t v at e in
      let s = value_size by t n b in
      let k = total_at A.size (map (A.apply by) (A.kids t)) n (A.apply by kid.0) (slice_get-map (A.apply by) (A.kids t) n ∙ ap (option_map (A.apply by)) kid.1) in
      let q = ap A.size same in
      (A.apply by kid.0, part_value G by R r n t kid.0 at kid.1, omega (arith, s, k, q))

  pub low_sum : (sizes order : List ℕ) → IsGraph A ts first → IsWalk A ts first cls sizes order → (by : ℕ → Option T) → Respects A ts cls by
      → (r k : ℕ) (t v : T) → slice_get ts r ≡ Some t → value A ts by r ≡ Some v → k ≤ length (A.kids t)
      → 1 + sum_below (λ n. slice_index sizes (slice_index cls (slice_index first r + n))) k ≤ A.size v
  low_sum sizes order G W by R r zero t v at e most = let s = L.size_is v in omega (arith, s)
  low_sum sizes order G W by R r (suc k) t v at e most =
      let same = ap A.size (value_is by r t v at e) in
      let s = value_size by t k (omega arith) in
      let n = length-map (A.kids t) (A.apply by) in
      let a = sum_total A.size (λ n. slice_index sizes (slice_index cls (slice_index first r + n))) (map (A.apply by) (A.kids t)) (suc k) (omega (arith, n, most))
      (λ i x b here.
      let kid = got_some (A.kids t) i (omega (arith, most, b)) in
      let is : Some (A.apply by kid.0) ≡ Some x = sym (ap (option_map (A.apply by)) kid.1) ∙ sym (slice_get-map (A.apply by) (A.kids t) i) ∙ here in
      W.low by R (slice_index cls (slice_index first r + i)) x (part_value G by R r i t kid.0 at kid.1 ∙ is)) in
      let b = total_take A.size (map (A.apply by) (A.kids t)) (suc k) in
      omega (arith, same, s, a, b)

  pub walk_finishes : (sizes order sizes' order' : List ℕ) → IsGraph A ts first → AreClasses A ts first cls → IsWalk A ts first cls sizes order → (root size : ℕ) (t : T)
      → slice_get ts root ≡ Some t → slice_index cls root ≡ root → slice_index sizes root ≡ 0
      → size ≡ 1 + sum_below (λ n. slice_index sizes (slice_index cls (slice_index first root + n))) (length (A.kids t))
      → ((n : ℕ) → n < length (A.kids t) → 0 < slice_index sizes (slice_index cls (slice_index first root + n)))
      → sizes' ≡ slice_set sizes root size → order' ≡ order ++ root ∷ [] → IsWalk A ts first cls sizes' order'
  walk_finishes sizes order sizes' order' G K W root size t at self none sum done s-is o-is =
      let inside = slice_get_within ts root t at in
      let n = W.sized in
      let h : root < length sizes = omega (arith, n, inside) in
      let here : slice_index sizes' root ≡ size = ap (λ z. slice_index z root) s-is ∙ set_here sizes root size root h refl in
      let there : (r : ℕ) → r ≢ root → slice_index sizes' r ≡ slice_index sizes r = λ r d. ap (λ z. slice_index z r) s-is ∙ set_there sizes root size r d in
      let other : (r : ℕ) → 0 < slice_index sizes r → r ≢ root = λ r pos e. let q = ap (slice_index sizes) e in omega (arith, q, none, pos) in
      let stays : (r : ℕ) → 0 < slice_index sizes r → slice_index sizes' r ≡ slice_index sizes r = λ r pos. there r (other r pos) in
      let old : (p r : ℕ) → slice_get order' p ≡ Some r → (slice_get order p ≡ Some r) ⊎ ((p ≡ length order) × (r ≡ root)) =
      λ p r e. got_cases order root p r (ap (λ z. slice_get z p) (sym o-is) ∙ e) in
      let grown : (p r : ℕ) → slice_get order p ≡ Some r → slice_get order' p ≡ Some r = λ p r e. ap (λ z. slice_get z p) o-is ∙ got_front order (root ∷ []) p r e in
      let last : slice_get order' (length order) ≡ Some root = ap (λ z. slice_get z (length order)) o-is ∙ got_next order root in
      let sums : (r k : ℕ) → ((m : ℕ) → m < k → 0 < slice_index sizes (slice_index cls (slice_index first r + m)))
      → sum_below (λ m. slice_index sizes (slice_index cls (slice_index first r + m))) k ≡ sum_below (λ m. slice_index sizes' (slice_index cls (slice_index first r + m))) k =
      λ r k pos. sum_same _ _ k (λ m b. sym (stays (slice_index cls (slice_index first r + m)) (pos m b))) in
      record {
        sized = ap length s-is ∙ length-set sizes root size ∙ n;
        seen = λ r pos. elim (same_or_not r root) [
          | inl e ↦ (length order, last ∙ ap Some (sym e))
          | inr d ↦ let c = there r d in let q = W.seen r (omega (arith, c, pos)) in (q.0, grown q.0 r q.1)
        ];
        known = λ p r e. elim (old p r e) [
          | inl o ↦ let k = W.known p r o in let c = stays r k.0 in (omega (arith, c, k.0), k.1, k.2)
          | inr l ↦
              let c = ap (slice_index sizes') l.1 ∙ here in
              (omega (arith, c, sum), subst (λ m. m < length ts) (sym l.1) inside, ap (slice_index cls) l.1 ∙ self ∙ sym l.1)
        ];
        once = λ p q r e f. elim (old p r e) [
          | inl o ↦ elim (old q r f) [ inl o' ↦ W.once p q r o o' | inr l ↦ absurd (other r (W.known p r o).0 l.1) ]
          | inr l ↦ elim (old q r f) [ inl o' ↦ absurd (other r (W.known q r o').0 l.1) | inr l' ↦ l.0 ∙ sym l'.0 ]
        ];
        size = λ p r u e at'. elim (old p r e) [
          | inl o ↦
              let k = W.known p r o in
              stays r k.0 ∙ W.size p r u o at'
              ∙ ap (λ m. 1 + m) (sums r (length (A.kids u)) (λ m b. let q = W.parts p r m u o at' b in (W.known q.0 _ q.2).0))
          | inr l ↦
              let d : u ≡ t = same_item ts root u t (ap (slice_get ts) (sym l.1) ∙ at') at in
              ap (slice_index sizes') l.1 ∙ here ∙ sum ∙ ap (λ m. 1 + m) (sums root (length (A.kids t)) done)
              ∙ (λ i. 1 + sum_below (λ m. slice_index sizes' (slice_index cls (slice_index first (sym l.1 i) + m))) (length (A.kids (sym d i))))
        ];
        parts = λ p r m u e at' b. elim (old p r e) [
          | inl o ↦ let q = W.parts p r m u o at' b in (q.0, q.1, grown q.0 _ q.2)
          | inr l ↦
              let d : u ≡ t = same_item ts root u t (ap (slice_get ts) (sym l.1) ∙ at') at in
              let dn = ap (λ v. length (A.kids v)) d in
              let q = W.seen (slice_index cls (slice_index first root + m)) (done m (omega (arith, dn, b))) in
              let w = slice_get_within order q.0 _ q.1 in
              (q.0, omega (arith, w, l.0), grown q.0 _ q.1 ∙ ap (λ v. Some (slice_index cls (slice_index first v + m))) (sym l.1))
        ];
        low = λ by R r v e. elim (same_or_not r root) [
          | inl same ↦
              let a = low_sum sizes order G W by R root (length (A.kids t)) t v at (ap (value A ts by) (sym same) ∙ e) (omega arith) in
              let c = ap (slice_index sizes') same ∙ here in
              omega (arith, a, c, sum)
          | inr d ↦ let c = there r d in let a = W.low by R r v e in omega (arith, a, c)
        ];
      }

-- where a part of a node stands
pub part_place : {T : Type 0} (A : Ghosts T) (L : Laws A) (terms : List (Bor T)) (first : List ℕ) (root at idx arity : ℕ) (b : Bor T) → IsGraph A (nodes terms) first → root < length terms
    → b ≡ get_or terms root b → idx ≡ get_or first root idx → arity ≡ length (A.kids b.now) → at < arity
    → (idx ≡ slice_index first root) × (idx + at < length terms) × (at < length (A.kids b.now)) × (slice_get (nodes terms) root ≡ Some b.now)
part_place {T} A L terms first root at idx arity b G h is-b is-idx is-arity below =
    let n = length-map terms (λ (t : Bor T). t.now) in
    let a = G.all in
    let k : root < length first = omega (arith, a, n, h) in
    let here = node_at terms root b h is-b in
    let same = number_at first root idx k is-idx in
    let inner : at < length (A.kids b.now) = omega (arith, is-arity, below) in
    let p = part_inside A L (nodes terms) first [] G root at b.now here inner in
    (same, omega (arith, same, p, n), inner, here)

-- the sizes that are known stay as they are
pub sum_kept : (first cls sizes sizes' : List ℕ) (r k : ℕ) → ((m : ℕ) → 0 < slice_index sizes m → slice_index sizes' m ≡ slice_index sizes m)
    → ((n : ℕ) → n < k → 0 < slice_index sizes (slice_index cls (slice_index first r + n)))
    → sum_below (λ n. slice_index sizes' (slice_index cls (slice_index first r + n))) k ≡ sum_below (λ n. slice_index sizes (slice_index cls (slice_index first r + n))) k
sum_kept first cls sizes sizes' r k kept done = sum_same _ _ k (λ n b. kept (slice_index cls (slice_index first r + n)) (done n b))

pub done_more : (first cls sizes sizes' : List ℕ) (r k : ℕ) → ((m : ℕ) → 0 < slice_index sizes m → slice_index sizes' m ≡ slice_index sizes m)
    → ((n : ℕ) → n < k → 0 < slice_index sizes (slice_index cls (slice_index first r + n))) → 0 < slice_index sizes' (slice_index cls (slice_index first r + k))
    → (n : ℕ) → n < k + 1 → 0 < slice_index sizes' (slice_index cls (slice_index first r + n))
done_more first cls sizes sizes' r k kept done new n b =
    elim (less_or_same n k b) [
      | inl lt ↦ let d = done n lt in let e = kept (slice_index cls (slice_index first r + n)) d in omega (arith, d, e)
      | inr eq ↦ subst (λ m. 0 < slice_index sizes' (slice_index cls (slice_index first r + m))) (sym eq) new
    ]

pub size_more : (first cls sizes sizes' : List ℕ) (r k size x : ℕ) → ((m : ℕ) → 0 < slice_index sizes m → slice_index sizes' m ≡ slice_index sizes m)
    → ((n : ℕ) → n < k → 0 < slice_index sizes (slice_index cls (slice_index first r + n)))
    → size ≡ 1 + sum_below (λ n. slice_index sizes (slice_index cls (slice_index first r + n))) k → x ≡ slice_index sizes' (slice_index cls (slice_index first r + k))
    → size + x ≡ 1 + sum_below (λ n. slice_index sizes' (slice_index cls (slice_index first r + n))) (k + 1)
size_more first cls sizes sizes' r k size x kept done is now =
    let a = sum_kept first cls sizes sizes' r k kept done in
    let b : sum_below (λ n. slice_index sizes' (slice_index cls (slice_index first r + n))) (k + 1)
    ≡ sum_below (λ n. slice_index sizes' (slice_index cls (slice_index first r + n))) k + slice_index sizes' (slice_index cls (slice_index first r + k)) =
    ap (sum_below (λ n. slice_index sizes' (slice_index cls (slice_index first r + n)))) (add-one k) in
    omega (arith, a, b, is, now)

module _ {T : Type 0} (A : Ghosts T) (L : Laws A) (ts : List T) (first cls : List ℕ) (G : IsGraph A ts first) (by : ℕ → Option T) (R : Respects A ts cls by) where
  -- the value of a part is too large, or lies within itself
  pub part_clash : (root at idx limit : ℕ) (t v : T) (old entered : List Bool) → slice_get ts root ≡ Some t → at < length (A.kids t) → idx ≡ slice_index first root
      → value A ts by root ≡ Some v → A.size v ≤ limit → entered ≡ set old root true
      → ((r : ℕ) (w : T) → slice_get old r ≡ Some true → value A ts by r ≡ Some w → A.size v < A.size w)
      → ((u : T) → value A ts by (slice_index cls (idx + at)) ≡ Some u → A.size u ≤ limit - 1 → ((r : ℕ) (w : T) → slice_get entered r ≡ Some true → value A ts by r ≡ Some w → A.size u < A.size w) → ⊥)
      → ⊥
  part_clash root at idx limit t v old entered here below start at-v small marked opens clash =
      let q = smaller_below A L ts first cls G by R root at t v here below at-v in
      let u = q.0 in
      let less = q.2 in
      clash u (ap (λ k. value A ts by (slice_index cls (k + at))) start ∙ q.1) (omega (arith, less, small))
      (λ r w on at-w. elim (same_or_not r root) [
        | inl e ↦
            let same : Some v ≡ Some w = sym at-v ∙ ap (value A ts by) (sym e) ∙ at-w in
            let vw : v ≡ w = cc in
            let z = ap A.size vw in omega (arith, less, z)
        | inr d ↦
            let was : slice_get old r ≡ Some true = sym (got_set_other old root r true d) ∙ ap (λ z. slice_get z r) (sym marked) ∙ on in
            let k = opens r w was at-w in omega (arith, less, k)
      ])

  pub sum_clash : (sizes sizes' order' : List ℕ) (root at idx size limit x : ℕ) (t v : T) → slice_get ts root ≡ Some t → at < length (A.kids t) → idx ≡ slice_index first root
      → value A ts by root ≡ Some v → A.size v ≤ limit → IsWalk A ts first cls sizes' order'
      → ((m : ℕ) → 0 < slice_index sizes m → slice_index sizes' m ≡ slice_index sizes m)
      → ((n : ℕ) → n < at → 0 < slice_index sizes (slice_index cls (slice_index first root + n)))
      → size ≡ 1 + sum_below (λ n. slice_index sizes (slice_index cls (slice_index first root + n))) at → size ≤ limit
      → x ≡ slice_index sizes' (slice_index cls (idx + at)) → limit - size < x → ⊥
  sum_clash sizes sizes' order' root at idx size limit x t v here below start at-v small W kept done is fits now over =
      let m = size_more first cls sizes sizes' root at size x kept done is (now ∙ ap (λ k. slice_index sizes' (slice_index cls (k + at))) start) in
      let l = low_sum A L ts first cls sizes' order' G W by R root (at + 1) t v here at-v (omega (arith, below)) in
      omega (arith, m, l, small, over, fits)

-- a variable may take a variable's place
pub taken_var : {T : Type 0} (A : Ghosts T) (L : Laws A) (free : Bool) (t : T) (x : ℕ) → A.var_of t ≡ Some x → taken A free t ≡ true
taken_var A L true t x var = refl
taken_var A L false t x var = L.var_stands t x var

-- one head, one answer
pub taken_alike : {T : Type 0} (A : Ghosts T) (L : Laws A) (free : Bool) (s t : T) → A.alike s t ≡ true → taken A free s ≡ taken A free t
taken_alike A L free s t same = ap (λ b. free || b) (L.alike_stands s t same)

-- the classes of the first nodes have their sizes
pub record Ordered {T : Type 0} (A : Ghosts T) (ts : List T) (cls sizes : List ℕ) (free : Bool) (limit most : ℕ) : Type 0 where
  pub small : (r : ℕ) → slice_index sizes r ≤ limit
  pub all : (i x : ℕ) (t : T) → i < most → slice_get ts i ≡ Some t → A.var_of t ≡ Some x → 0 < slice_index sizes (slice_index cls i)
  pub stands : (i x : ℕ) (t s : T) → i < most → slice_get ts i ≡ Some t → A.var_of t ≡ Some x → slice_get ts (slice_index cls i) ≡ Some s → taken A free s ≡ true

pub zero_at : (n r : ℕ) → slice_index (replicate n 0) r ≡ 0
zero_at zero r = refl
zero_at (suc n) zero = refl
zero_at (suc n) (suc r) = zero_at n r

pub no_true : (n r : ℕ) → slice_get (replicate n false) r ≡ Some true → ⊥
no_true zero r e = cc
no_true (suc n) zero e = cc
no_true (suc n) (suc r) e = no_true n r e

pub walk_starts : {T : Type 0} (A : Ghosts T) (ts : List T) (first cls sizes : List ℕ) (n : ℕ) → sizes ≡ replicate n 0 → n ≡ length ts → IsWalk A ts first cls sizes []
walk_starts A ts first cls sizes n is many =
    let zero_s : (r : ℕ) → slice_index sizes r ≡ 0 = λ r. ap (λ z. slice_index z r) is ∙ zero_at n r in
    record {
      sized = ap length is ∙ length-replicate n 0 ∙ many;
      seen = λ r pos. let z = zero_s r in absurd (omega (arith, z, pos));
      known = λ p r e. absurd (cc);
      once = λ p q r e f. absurd (cc);
      size = λ p r t e at. absurd (cc);
      parts = λ p r m t e at b. absurd (cc);
      low = λ by R r v e. let z = zero_s r in omega (arith, z);
    }

pub ordered_starts : {T : Type 0} (A : Ghosts T) (ts : List T) (cls sizes : List ℕ) (free : Bool) (n limit : ℕ) → sizes ≡ replicate n 0 → Ordered A ts cls sizes free limit 0
ordered_starts A ts cls sizes free n limit is = record {
  small = λ r. let z : slice_index sizes r ≡ 0 = ap (λ z. slice_index z r) is ∙ zero_at n r in omega (arith, z);
  all = λ i x t b at var. absurd (omega arith);
  stands = λ i x t s b at var at'. absurd (omega arith);
}

module _ {T : Type 0} (A : Ghosts T) (L : Laws A) (ts : List T) where
  -- a node that is no variable
  pub ordered_other : (cls sizes : List ℕ) (free : Bool) (limit n : ℕ) (t : T) → slice_get ts n ≡ Some t → A.var_of t ≡ None → Ordered A ts cls sizes free limit n → Ordered A ts cls sizes free limit (n + 1)
  ordered_other cls sizes free limit n t at none O = record {
    small = O.small;
    all = λ i x u b at' var. elim (less_or_same i n b) [
      | inl lt ↦ O.all i x u lt at' var
      | inr eq ↦ let d : u ≡ t = same_item ts n u t (ap (slice_get ts) (sym eq) ∙ at') at in let e = ap A.var_of d in absurd (cc)
    ];
    stands = λ i x u s b at' var at-s. elim (less_or_same i n b) [
      | inl lt ↦ O.stands i x u s lt at' var at-s
      | inr eq ↦ let d : u ≡ t = same_item ts n u t (ap (slice_get ts) (sym eq) ∙ at') at in let e = ap A.var_of d in absurd (cc)
    ];
  }

  pub ordered_more : (cls sizes sizes' : List ℕ) (free : Bool) (limit n : ℕ) (s : T) → slice_get ts (slice_index cls n) ≡ Some s → taken A free s ≡ true
      → ((r : ℕ) → slice_index sizes' r ≤ limit) → ((m : ℕ) → 0 < slice_index sizes m → slice_index sizes' m ≡ slice_index sizes m) → 0 < slice_index sizes' (slice_index cls n)
      → Ordered A ts cls sizes free limit n → Ordered A ts cls sizes' free limit (n + 1)
  ordered_more cls sizes sizes' free limit n s at may small kept done O = record {
    small = small;
    all = λ i x u b at' var. elim (less_or_same i n b) [
      | inl lt ↦ let p = O.all i x u lt at' var in let k = kept (slice_index cls i) p in omega (arith, p, k)
      | inr eq ↦ subst (λ m. 0 < slice_index sizes' (slice_index cls m)) (sym eq) done
    ];
    stands = λ i x u s' b at' var at-s. elim (less_or_same i n b) [
      | inl lt ↦ O.stands i x u s' lt at' var at-s
      | inr eq ↦ let d : s' ≡ s = same_item ts (slice_index cls n) s' s (ap (λ m. slice_get ts (slice_index cls m)) (sym eq) ∙ at-s) at in ap (taken A free) d ∙ may
    ];
  }

  -- the value of a variable under a substitution that is allowed
  pub allowed_value : (free : Bool) (limit : ℕ) (by : ℕ → Option T) (t : T) (x : ℕ) → 1 ≤ limit → IsAllowed A free limit by → A.var_of t ≡ Some x → (A.size (A.apply by t) ≤ limit) × (taken A free (A.apply by t) ≡ true)
  allowed_value free limit by t x some ok var = go (by x) refl
    where
      go : (o : Option T) → by x ≡ o → (A.size (A.apply by t) ≤ limit) × (taken A free (A.apply by t) ≡ true)
      go None e =
          let same : A.apply by t ≡ t = L.apply_var by t x var ∙ ap (λ o. unwrap_or o t) e in
          let a = ap A.size same in let b = L.size_is t in let c = ap (total A.size) (L.var_kids t x var) in
          (omega (arith, a, b, c, some), ap (taken A free) same ∙ taken_var A L free t x var)
      go (Some u) e =
          let same : A.apply by t ≡ u = L.apply_var by t x var ∙ ap (λ o. unwrap_or o t) e in
          let a = ap A.size same in let r = ok x u e in
          (omega (arith, a, r.0), ap (taken A free) same ∙ r.1)

  pub taken_before : (free : Bool) (by : ℕ → Option T) (s : T) → taken A free (A.apply by s) ≡ true → taken A free s ≡ true
  taken_before free by s may = go (A.var_of s) refl
    where
      go : (o : Option ℕ) → A.var_of s ≡ o → taken A free s ≡ true
      go None e = sym (taken_alike A L free (A.apply by s) s (L.apply_alike by s e)) ∙ may
      go (Some x) e = taken_var A L free s x e

  module _ (first cls : List ℕ) (by : ℕ → Option T) (R : Respects A ts cls by) (free : Bool) (limit : ℕ) (some : 1 ≤ limit) (ok : IsAllowed A free limit by)
      (n x : ℕ) (t s : T) (at : slice_get ts n ≡ Some t) (var : A.var_of t ≡ Some x) (at-s : slice_get ts (slice_index cls n) ≡ Some s) where
    same_value : A.apply by t ≡ A.apply by s
    same_value =
        let e : Some (A.apply by t) ≡ Some (A.apply by s) =
        sym (ap (option_map (A.apply by)) at) ∙ R n (slice_get_within ts n t at) ∙ ap (option_map (A.apply by)) at-s in cc

    pub stands_clash : taken A free s ≡ false → ⊥
    stands_clash off =
        let a = taken_before free by s (sym (ap (taken A free) same_value) ∙ (allowed_value free limit by t x some ok var).1) in cc

    pub root_small : A.size (A.apply by s) ≤ limit
    root_small = let e = ap A.size same_value in let a = (allowed_value free limit by t x some ok var).0 in omega (arith, e, a)
