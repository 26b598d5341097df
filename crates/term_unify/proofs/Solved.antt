use Rattle.std.proofs.Common.{◌≡◌, ℕ, zero, suc, ◌+◌, ◌<◌, ◌≤◌, Bool, true, List, [], ◌∷◌, ◌++◌, Option, Some, None, inl, inr, length, map, take, refl, ap, sym, ◌∙◌, subst, arith, add-one}
use Rattle.std.specs.Prelude.{unwrap_or}
use Rattle.std.specs.List.{slice_get, slice_index}
use Rattle.std.specs.Option.{option_map}
use Rattle.std.proofs.lemmas.List.{length-map}
use Rattle.std.proofs.lemmas.Option.{slice_get_within, slice_get-map}
use Rattle.term_unify.specs.Terms.{total, first}
use Rattle.term_unify.specs.Graph.{value, taken, IsGraph, AreClasses, JoinsVariables, Respects, Solves, AreWithin}
use Rattle.term_unify.specs.Order.{IsOrder, sum_below}
use Rattle.term_unify.specs.Binding.{IsBinding}
use Rattle.term_unify.specs.declared.laws.Term.{Ghosts}
use Rattle.term_unify.proofs.Algebra.{Laws}
use Rattle.term_unify.proofs.Lists.{same_item, got_some, take_more, total-append, total_at, same_list}
use Rattle.term_unify.proofs.Walking.{taken_alike}
use Rattle.term_unify.proofs.Bindings.{first_entry}

pub total_sum : {X : Type 0} (f : X → ℕ) (h : ℕ → ℕ) (xs : List X) (n : ℕ) → n ≤ length xs → ((i : ℕ) (x : X) → i < n → slice_get xs i ≡ Some x → f x ≡ h i)
    → total f (take n xs) ≡ sum_below h n
total_sum f h xs zero most each = refl
total_sum f h xs (suc n) most each =
    let r = got_some xs n (omega arith) in
    let e : take (suc n) xs ≡ take n xs ++ r.0 ∷ [] = ap (λ k. take k xs) (sym (add-one n)) ∙ take_more xs n r.0 r.1 in
    let t = ap (total f) e ∙ total-append f (take n xs) (r.0 ∷ []) in
    let a = total_sum f h xs n (omega arith) (λ i x b s. each i x (omega arith) s) in
    let b = each n r.0 (omega arith) r.1 in
    omega (arith, t, a, b)

take_all : {X : Type 0} (xs : List X) → take (length xs) xs ≡ xs
take_all [] = refl
take_all (x ∷ xs) = ap (λ z. x ∷ z) (take_all xs)

-- ---- terms with the same head and equal values of their parts

module _ {T : Type 0} (A : Ghosts T) (L : Laws A) where
  same_maps : (f g : T → T) (xs ys : List T) → length xs ≡ length ys → ((n : ℕ) (x y : T) → slice_get xs n ≡ Some x → slice_get ys n ≡ Some y → f x ≡ g y) → map f xs ≡ map g ys
  same_maps f g xs ys n each =
      let m = length-map xs f in
      let k = length-map ys g in
      same_list (map f xs) (map g ys) (m ∙ n ∙ sym k)
      (λ i a b e e'.
      let h : i < length xs = (let z = slice_get_within (map f xs) i a e in omega (arith, z, m)) in
      let h' : i < length ys = omega (arith, h, n) in
      let x = got_some xs i h in
      let y = got_some ys i h' in
      let ea : Some (f x.0) ≡ Some a = sym (slice_get-map f xs i ∙ ap (option_map f) x.1) ∙ e in
      let eb : Some (g y.0) ≡ Some b = sym (slice_get-map g ys i ∙ ap (option_map g) y.1) ∙ e' in
      let fg = each i x.0 y.0 x.1 y.1 in cc)

  pub same_applied : (by by' : ℕ → Option T) (s t : T) → A.var_of s ≡ None → A.var_of t ≡ None → A.alike s t ≡ true
      → ((n : ℕ) (u v : T) → slice_get (A.kids s) n ≡ Some u → slice_get (A.kids t) n ≡ Some v → A.apply by u ≡ A.apply by' v) → A.apply by s ≡ A.apply by' t
  same_applied by by' s t none none' heads each =
      L.alike_same (A.apply by s) (A.apply by' t)
      (L.alike_along (A.apply by s) s (A.apply by' t) (L.apply_alike by s none) (L.alike_along s t (A.apply by' t) heads (L.alike_back (A.apply by' t) t (L.apply_alike by' t none'))))
      (L.apply_kids by s none ∙ same_maps (A.apply by) (A.apply by') (A.kids s) (A.kids t) (L.alike_kids s t heads) each ∙ sym (L.apply_kids by' t none'))

  pub applied_none : (by : ℕ → Option T) (t : T) → A.var_of t ≡ None → A.var_of (A.apply by t) ≡ None
  applied_none by t none = L.alike_var (A.apply by t) t (L.apply_alike by t none) ∙ none

  pub applied_kid : (by : ℕ → Option T) (t : T) (n : ℕ) (v : T) → A.var_of t ≡ None → slice_get (A.kids (A.apply by t)) n ≡ Some v → (u : T) × (slice_get (A.kids t) n ≡ Some u) × (v ≡ A.apply by u)
  applied_kid by t n v none at =
      let e : slice_get (map (A.apply by) (A.kids t)) n ≡ Some v = ap (λ z. slice_get z n) (sym (L.apply_kids by t none)) ∙ at in
      let m = length-map (A.kids t) (A.apply by) in
      let h : n < length (A.kids t) = (let z = slice_get_within (map (A.apply by) (A.kids t)) n v e in omega (arith, z, m)) in
      let u = got_some (A.kids t) n h in
      let f : Some (A.apply by u.0) ≡ Some v = sym (slice_get-map (A.apply by) (A.kids t) n ∙ ap (option_map (A.apply by)) u.1) ∙ e in
      let d : v ≡ A.apply by u.0 = cc in
      (u.0, u.1, d)

  kid_smaller : (by : ℕ → Option T) (t : T) (n : ℕ) (u : T) → A.var_of t ≡ None → slice_get (A.kids t) n ≡ Some u → A.size (A.apply by u) < A.size (A.apply by t)
  kid_smaller by t n u none at =
      let s = L.size_is (A.apply by t) in
      let k = ap (total A.size) (L.apply_kids by t none) in
      let z = total_at A.size (map (A.apply by) (A.kids t)) n (A.apply by u) (slice_get-map (A.apply by) (A.kids t) n ∙ ap (option_map (A.apply by)) at) in
      omega (arith, s, k, z)

  -- ---- a finished substitution

  module _ (ts : List T) (firsts cls order : List ℕ) (free : Bool) (limit : ℕ) (list : List (ℕ × T)) (G : IsGraph A ts firsts) (K : AreClasses A ts firsts cls)
      (J : JoinsVariables A ts (length ts) (slice_index cls)) (O : IsOrder A ts firsts cls free limit order) (B : IsBinding A ts cls order (length order) list) where
    abbrev rho : ℕ → Option T
    rho = first list

    agree : (i x : ℕ) (t s : T) → slice_get ts i ≡ Some t → A.var_of t ≡ Some x → slice_get ts (slice_index cls i) ≡ Some s → A.apply rho t ≡ A.apply rho s
    agree i x t s at var at-s =
        let p = O.all i x t at var in
        elim (B.handled i x p.0 t s at var at-s (slice_get_within order p.0 _ p.1) p.1) [
          | inl own ↦ ap (A.apply rho) (L.var_same t s x var own)
          | inr has ↦ L.apply_var rho t x var ∙ ap (λ o. unwrap_or o t) has
        ]

    own_stays : (r y : ℕ) (s : T) → slice_get ts r ≡ Some s → slice_index cls r ≡ r → A.var_of s ≡ Some y → A.apply rho s ≡ s
    own_stays r y s at self var = L.apply_var rho s y var ∙ ap (λ o. unwrap_or o s) (B.free r y s at self var)

    -- two terms of one class that are no variables
    core : (fuel i j : ℕ) (t u : T) → ((i' j' : ℕ) (t' u' : T) → A.size (A.apply rho t') + A.size (A.apply rho u') < fuel → slice_get ts i' ≡ Some t' → slice_get ts j' ≡ Some u'
        → slice_index cls i' ≡ slice_index cls j' → A.apply rho t' ≡ A.apply rho u')
        → A.size (A.apply rho t) + A.size (A.apply rho u) < suc fuel → slice_get ts i ≡ Some t → slice_get ts j ≡ Some u → A.var_of t ≡ None → A.var_of u ≡ None
        → slice_index cls i ≡ slice_index cls j → A.apply rho t ≡ A.apply rho u
    core fuel i j t u below small at at' none none' c =
        let r = K.heads i t at none in
        let q = K.heads j u at' none' in
        let rq : r.0 ≡ q.0 = same_item ts (slice_index cls j) r.0 q.0 (ap (slice_get ts) (sym c) ∙ r.1) q.1 in
        let heads : A.alike t u ≡ true = L.alike_along t r.0 u r.3 (L.alike_back u r.0 (subst (λ z. A.alike u z ≡ true) (sym rq) q.3)) in
        same_applied rho rho t u none none' heads
        (λ n v w kv kw.
        let hv = slice_get_within (A.kids t) n v kv in
        let hw = slice_get_within (A.kids u) n w kw in
        let a = kid_smaller rho t n v none kv in
        let b = kid_smaller rho u n w none' kw in
        below (slice_index firsts i + n) (slice_index firsts j + n) v w (omega (arith, a, b, small))
        (G.parts i n t v (slice_get_within ts i t at) at kv) (G.parts j n u w (slice_get_within ts j u at') at' kw)
        (K.parts i n t at none hv ∙ ap (λ k. slice_index cls (slice_index firsts k + n)) c ∙ sym (K.parts j n u at' none' hw)))

    root_term : (i : ℕ) (t : T) → slice_get ts i ≡ Some t → (s : T) × (slice_get ts (slice_index cls i) ≡ Some s)
    root_term i t at = got_some ts (slice_index cls i) (K.within i (slice_get_within ts i t at))

    same_values : (fuel i j : ℕ) (t u : T) → A.size (A.apply rho t) + A.size (A.apply rho u) < fuel → slice_get ts i ≡ Some t → slice_get ts j ≡ Some u
        → slice_index cls i ≡ slice_index cls j → A.apply rho t ≡ A.apply rho u
    same_values zero i j t u small at at' c = absurd (omega arith)
    same_values (suc fuel) i j t u small at at' c = go (λ i' j' t' u'. same_values fuel i' j' t' u') (A.var_of t) refl (A.var_of u) refl
      where
        go : ((i' j' : ℕ) (t' u' : T) → A.size (A.apply rho t') + A.size (A.apply rho u') < fuel → slice_get ts i' ≡ Some t' → slice_get ts j' ≡ Some u'
            → slice_index cls i' ≡ slice_index cls j' → A.apply rho t' ≡ A.apply rho u')
            → (o : Option ℕ) → A.var_of t ≡ o → (o' : Option ℕ) → A.var_of u ≡ o' → A.apply rho t ≡ A.apply rho u
        go below None e None e' = core fuel i j t u below small at at' e e' c
        go below (Some x) e (Some y) e' =
            let s = root_term i t at in
            agree i x t s.0 at e s.1 ∙ sym (agree j y u s.0 at' e' (ap (slice_get ts) (sym c) ∙ s.1))
        go below (Some x) e None e' =
            let q = K.heads j u at' e' in
            let s-at = ap (slice_get ts) c ∙ q.1 in
            let a = agree i x t q.0 at e s-at in
            let z = ap A.size a in
            a ∙ core fuel (slice_index cls i) j q.0 u below (omega (arith, z, small)) s-at at' q.2 e' (K.root i (slice_get_within ts i t at) ∙ c)
        go below None e (Some y) e' =
            let q = K.heads i t at e in
            let s-at = ap (slice_get ts) (sym c) ∙ q.1 in
            let a = agree j y u q.0 at' e' s-at in
            let z = ap A.size a in
            core fuel i (slice_index cls j) t q.0 below (omega (arith, z, small)) at s-at e q.2 (c ∙ sym (K.root j (slice_get_within ts j u at'))) ∙ sym a

    pub one_value : (i j : ℕ) (t u : T) → slice_get ts i ≡ Some t → slice_get ts j ≡ Some u → slice_index cls i ≡ slice_index cls j → A.apply rho t ≡ A.apply rho u
    one_value i j t u at at' c = same_values (suc (A.size (A.apply rho t) + A.size (A.apply rho u))) i j t u (omega arith) at at' c

    pub solves : (es : List (ℕ × ℕ)) → AreWithin (length ts) es → Solves (slice_index cls) es → Solves (value A ts rho) es
    solves [] w z = tt
    solves (e ∷ es) w z =
        let a = got_some ts e.0 w.0 in
        let b = got_some ts e.1 w.1 in
        (ap (option_map (A.apply rho)) a.1 ∙ ap Some (one_value e.0 e.1 a.0 b.0 a.1 b.1 z.0) ∙ sym (ap (option_map (A.apply rho)) b.1), solves es w.2 z.1)

    -- what holds of the values of classes, where it holds of each value if it holds of those of its parts
    module _ (P : ℕ → T → Type 0)
        (own : (r y : ℕ) (s : T) → slice_get ts r ≡ Some s → slice_index cls r ≡ r → A.var_of s ≡ Some y → first list y ≡ None → P r s)
        (made : (r : ℕ) (s : T) → slice_get ts r ≡ Some s → slice_index cls r ≡ r → A.var_of s ≡ None
        → ((n : ℕ) (u : T) → slice_get (A.kids s) n ≡ Some u → P (slice_index cls (slice_index firsts r + n)) (A.apply rho u)) → P r (A.apply rho s)) where
      values_by : (fuel i : ℕ) (t : T) → A.size (A.apply rho t) < fuel → slice_get ts i ≡ Some t → P (slice_index cls i) (A.apply rho t)
      values_by zero i t small at = absurd (omega arith)
      values_by (suc fuel) i t small at = go (λ i' t'. values_by fuel i' t') (A.var_of s) refl
        where
          r : ℕ
          r = slice_index cls i

          root : (s : T) × (slice_get ts (slice_index cls i) ≡ Some s)
          root = root_term i t at

          s : T
          s = root.0

          self : slice_index cls (slice_index cls i) ≡ slice_index cls i
          self = K.root i (slice_get_within ts i t at)

          same : A.apply rho t ≡ A.apply rho root.0
          same = one_value i (slice_index cls i) t root.0 at root.1 (sym self)

          go : ((i' : ℕ) (t' : T) → A.size (A.apply rho t') < fuel → slice_get ts i' ≡ Some t' → P (slice_index cls i') (A.apply rho t')) → (o : Option ℕ) → A.var_of root.0 ≡ o → P (slice_index cls i) (A.apply rho t)
          go below (Some y) e =
              subst (P (slice_index cls i)) (sym (same ∙ own_stays (slice_index cls i) y root.0 root.1 self e)) (own (slice_index cls i) y root.0 root.1 self e (B.free (slice_index cls i) y root.0 root.1 self e))
          go below None e =
              subst (P (slice_index cls i)) (sym same)
              (made (slice_index cls i) root.0 root.1 self e
              (λ n u kid.
              let k = kid_smaller rho root.0 n u e kid in
              let z = ap A.size same in
              below (slice_index firsts (slice_index cls i) + n) u (omega (arith, k, z, small))
              (G.parts (slice_index cls i) n root.0 u (slice_get_within ts (slice_index cls i) root.0 root.1) root.1 kid)))

      pub by_values : (i : ℕ) (t : T) → slice_get ts i ≡ Some t → P (slice_index cls i) (A.apply rho t)
      by_values i t at = values_by (suc (A.size (A.apply rho t))) i t (omega arith) at

    -- ---- the values are small and may stand

    pub entry_size : (k : ℕ) (e : ℕ × T) → slice_get list k ≡ Some e → A.size e.1 ≤ limit
    entry_size k e at =
        let r = B.listed k e at in
        let s = by_values (λ c v. (q : ℕ) → slice_get order q ≡ Some c → A.size v ≡ slice_index O.sizes c)
        (λ r y s at-s self var none q place.
        let z = O.walk.size q r s place at-s in
        let l = L.size_is s in
        let ks = L.var_kids s y var in
        let n = ap length ks in
        let t = ap (total A.size) ks in
        let w = ap (sum_below (λ n. slice_index O.sizes (slice_index cls (slice_index firsts r + n)))) n in
        omega (arith, z, l, t, w))
        (λ r s at-s self none below q place.
        let z = O.walk.size q r s place at-s in
        let l = L.size_is (A.apply rho s) in
        let ks = ap (total A.size) (L.apply_kids rho s none) in
        let n = length-map (A.kids s) (A.apply rho) in
        let sum = total_sum A.size (λ n. slice_index O.sizes (slice_index cls (slice_index firsts r + n))) (map (A.apply rho) (A.kids s)) (length (map (A.apply rho) (A.kids s))) (omega arith)
        (λ i x b here.
        let u = got_some (A.kids s) i (omega (arith, n, b)) in
        let is : Some (A.apply rho u.0) ≡ Some x = sym (slice_get-map (A.apply rho) (A.kids s) i ∙ ap (option_map (A.apply rho)) u.1) ∙ here in
        let ux : A.apply rho u.0 ≡ x = cc in
        let q' = O.walk.parts q r i s place at-s (omega (arith, n, b)) in
        sym (ap A.size ux) ∙ below i u.0 u.1 q'.0 q'.2) in
        let all = ap (total A.size) (take_all (map (A.apply rho) (A.kids s))) in
        let w = ap (sum_below (λ n. slice_index O.sizes (slice_index cls (slice_index firsts r + n)))) n in
        omega (arith, z, l, ks, sum, all, w))
        r.0 r.2 r.4 in
        let same = one_value r.0 (slice_index cls r.0) r.2 r.3 r.4 r.6 (sym (K.root r.0 (slice_get_within ts r.0 r.2 r.4))) in
        let a = s r.1 r.8 in
        let b = ap A.size (r.10 ∙ sym same) in
        let m = O.small (slice_index cls r.0) in
        omega (arith, a, b, m)

    pub entry_stands : (k : ℕ) (e : ℕ × T) → slice_get list k ≡ Some e → taken A free e.1 ≡ true
    entry_stands k e at =
        let r = B.listed k e at in
        let may = O.stands r.0 e.0 r.2 r.3 r.4 r.5 r.6 in
        ap (taken A free) r.10 ∙ go r.3 may (slice_index cls r.0) r.6 (K.root r.0 (slice_get_within ts r.0 r.2 r.4)) (A.var_of r.3) refl
      where
        go : (s : T) → taken A free s ≡ true → (c : ℕ) → slice_get ts c ≡ Some s → slice_index cls c ≡ c → (o : Option ℕ) → A.var_of s ≡ o → taken A free (A.apply rho s) ≡ true
        go s may c at-s self None e = taken_alike A L free (A.apply rho s) s (L.apply_alike rho s e) ∙ may
        go s may c at-s self (Some y) e = ap (taken A free) (own_stays c y s at-s self e) ∙ may

    -- ---- no value holds a listed variable

    pub entry_done : (by : ℕ → Option T) → ((x : ℕ) → first list x ≡ None → by x ≡ None) → (k : ℕ) (e : ℕ × T) → slice_get list k ≡ Some e → A.apply by e.1 ≡ e.1
    entry_done by spared k e at =
        let r = B.listed k e at in
        let same = one_value r.0 (slice_index cls r.0) r.2 r.3 r.4 r.6 (sym (K.root r.0 (slice_get_within ts r.0 r.2 r.4))) in
        let v = by_values (λ c v. A.apply by v ≡ v)
        (λ r y s at-s self var none. L.apply_var by s y var ∙ ap (λ o. unwrap_or o s) (spared y none))
        (λ r s at-s self none below.
        L.alike_same (A.apply by (A.apply rho s)) (A.apply rho s) (L.apply_alike by (A.apply rho s) (applied_none rho s none))
        (L.apply_kids by (A.apply rho s) (applied_none rho s none)
        ∙ same_maps (A.apply by) (λ z. z) (A.kids (A.apply rho s)) (A.kids (A.apply rho s)) refl
        (λ n x y ex ey. (let u = applied_kid rho s n x none ex in let xy : x ≡ y = cc in ap (A.apply by) u.2 ∙ below n u.0 u.1 ∙ sym u.2 ∙ xy))
        ∙ map_id (A.kids (A.apply rho s))))
        r.0 r.2 r.4 in
        let w = r.10 ∙ sym same in
        ap (A.apply by) w ∙ v ∙ sym w
      where
        map_id : (xs : List T) → map (λ z. z) xs ≡ xs
        map_id [] = refl
        map_id (x ∷ xs) = ap (λ z. x ∷ z) (map_id xs)

    -- ---- every unifier is an instance

    module _ (by : ℕ → Option T) (R : Respects A ts cls by) where
      through : (i : ℕ) (t s : T) → slice_get ts i ≡ Some t → slice_get ts (slice_index cls i) ≡ Some s → A.apply by t ≡ A.apply by s
      through i t s at at-s =
          let e : Some (A.apply by t) ≡ Some (A.apply by s) = sym (ap (option_map (A.apply by)) at) ∙ R i (slice_get_within ts i t at) ∙ ap (option_map (A.apply by)) at-s in cc

      of_kids : (t : T) → A.var_of t ≡ None → ((n : ℕ) (u : T) → slice_get (A.kids t) n ≡ Some u → A.apply by (A.apply rho u) ≡ A.apply by u) → A.apply by (A.apply rho t) ≡ A.apply by t
      of_kids t none each =
          same_applied by by (A.apply rho t) t (applied_none rho t none) none (L.apply_alike rho t none)
          (λ n u v ku kv. (let w = applied_kid rho t n u none ku in let wv : w.0 ≡ v = same_item (A.kids t) n w.0 v w.1 kv in ap (A.apply by) w.2 ∙ each n w.0 w.1 ∙ ap (A.apply by) wv))

      absorbed_node : (i : ℕ) (t : T) → slice_get ts i ≡ Some t → A.apply by (A.apply rho t) ≡ A.apply by t
      absorbed_node i t at =
          by_values (λ c v. (j : ℕ) (u : T) → slice_get ts j ≡ Some u → slice_index cls j ≡ c → A.apply by v ≡ A.apply by u)
          (λ r y s at-s self var none j u at-u c. sym (through j u s at-u (ap (slice_get ts) c ∙ at-s)))
          (λ r s at-s self none below j u at-u c.
          of_kids s none (λ n w kid. below n w kid (slice_index firsts r + n) w (G.parts r n s w (slice_get_within ts r s at-s) at-s kid) refl)
          ∙ sym (through j u s at-u (ap (slice_get ts) c ∙ at-s)))
          i t at i t at refl

      absorbed : (fuel : ℕ) (t : T) → A.size t < fuel → A.apply by (A.apply rho t) ≡ A.apply by t
      absorbed zero t small = absurd (omega arith)
      absorbed (suc fuel) t small = go (λ u. absorbed fuel u) (A.var_of t) refl
        where
          var_case : (x : ℕ) → A.var_of t ≡ Some x → (o : Option T) → first list x ≡ o → A.apply by (A.apply rho t) ≡ A.apply by t
          var_case x e None f = ap (A.apply by) (L.apply_var rho t x e ∙ ap (λ o. unwrap_or o t) f)
          var_case x e (Some u) f =
              let en = first_entry list x u f in
              let r = B.listed en.0 en.1 en.2 in
              let same : r.2 ≡ t = L.var_same r.2 t x (r.5 ∙ ap Some en.3) e in
              subst (λ z. A.apply by (A.apply rho z) ≡ A.apply by z) same (absorbed_node r.0 r.2 r.4)

          go : ((u : T) → A.size u < fuel → A.apply by (A.apply rho u) ≡ A.apply by u) → (o : Option ℕ) → A.var_of t ≡ o → A.apply by (A.apply rho t) ≡ A.apply by t
          go below (Some x) e = var_case x e (first list x) refl
          go below None e = of_kids t e (λ n u kid. (let s = L.size_is t in let z = total_at A.size (A.kids t) n u kid in below u (omega (arith, s, z, small))))

      pub general : (t : T) → A.apply by (A.apply rho t) ≡ A.apply by t
      general t = absorbed (suc (A.size t)) t (omega arith)
