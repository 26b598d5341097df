-- A cycle leaves nodes that wait for one another, where some nodes stand between the others: those that do not, in its order.
use Rattle.std.specs.Prelude.{◌≡◌, refl, Bool, true, false, List, [], ◌∷◌, ◌++◌, ◌⊎◌, if◌then◌else◌}
use Rattle.std.proofs.Common.{ap, sym, subst, ◌∙◌, inl, inr}
use Rattle.digraph.specs.Graph.{In, first, later}
use Rattle.digraph.specs.Numbering.{Cycle, Items, Links, Through, Waiting, WaitCycle, Within, at_once, on, here, further, reads_it}
use Rattle.digraph.proofs.Marks.{none_in, in_left, in_right, in_either, in_cons}
use Rattle.digraph.proofs.Numbering.{links_join}
use Rattle.causality.specs.Cycles.{others}

module _ {K : Type 0} (between : K → Bool) where
  others_then : (x : K) (xs : List K) (c : Bool) → between x ≡ c → others between (x ∷ xs) ≡ (if c then others between xs else x ∷ others between xs)
  others_then x xs c e = ap (λ z. if z then others between xs else x ∷ others between xs) e

  cons_append : (c : Bool) (x : K) (ys zs : List K) → (if c then ys ++ zs else x ∷ (ys ++ zs)) ≡ (if c then ys else x ∷ ys) ++ zs
  cons_append true x ys zs = refl
  cons_append false x ys zs = refl

  others_append : (xs ys : List K) → others between (xs ++ ys) ≡ others between xs ++ others between ys
  others_append [] ys = refl
  others_append (x ∷ xs) ys =
      ap (λ z. if between x then z else x ∷ z) (others_append xs ys) ∙ cons_append (between x) x (others between xs) (others between ys)

  -- a list that has such a node has a first one
  abbrev First : List K → Type 0
  First xs = (ps : List K) × (y : K) × (qs : List K) × (xs ≡ ps ++ y ∷ qs) × (others between ps ≡ []) × (between y ≡ false)

  first_then : (x : K) (xs : List K) (c : Bool) → between x ≡ c → (others between xs ≡ [] → ⊥) ⊎ (c ≡ false) → ((others between xs ≡ [] → ⊥) → First xs) → First (x ∷ xs)
  first_then x xs false e h f = ([], x, xs, refl, refl, e)
  first_then x xs true e (inr h) f = absurd (cc h)
  first_then x xs true e (inl h) f = let p = f h in (x ∷ p.0, p.1, p.2, ap (λ z. x ∷ z) p.3, others_then x p.0 true e ∙ p.4, p.5)

  not_both : (c : Bool) (x : K) (ys : List K) → ((if c then ys else x ∷ ys) ≡ [] → ⊥) → (ys ≡ [] → ⊥) ⊎ (c ≡ false)
  not_both true x ys h = inl h
  not_both false x ys h = inr refl

  pub first_of_others : (xs : List K) → (others between xs ≡ [] → ⊥) → First xs
  first_of_others [] h = absurd (h refl)
  first_of_others (x ∷ xs) h = first_then x xs (between x) refl (not_both (between x) x (others between xs) h) (first_of_others xs)

module _ {K : Type 0} (reads : K → List K) where
  -- a way in two parts
  pub links_part : (x : K) (ps : List K) (y : K) (qs : List K) (z : K) → Links reads x (ps ++ y ∷ qs) z → Links reads x ps y × Links reads y qs z
  links_part x [] y qs z l = (l.0, l.1)
  links_part x (p ∷ ps) y qs z l = let r = links_part p ps y qs z l.1 in ((l.0, r.0), r.1)

  pub parted : (x : K) (xs : List K) → In x xs → (ps : List K) × (qs : List K) × (xs ≡ ps ++ x ∷ qs)
  parted x _ (first xs) = ([], xs, refl)
  parted x _ (later y xs h) = let p = parted x xs h in (y ∷ p.0, p.1, ap (λ z. y ∷ z) p.2)

  -- a cycle may begin at each of its nodes
  pub turned : (x : K) (xs : List K) (r : K) → Links reads x xs x → In r (x ∷ xs) → (ys : List K) × Links reads r ys r × ((k : K) → In k ys → In k (x ∷ xs))
  turned x xs r l h = elim (in_cons r x xs h) [
    | inl e ↦ (xs, subst (λ z. Links reads z xs z) (sym e) l, (λ k i. later x xs i))
    | inr i ↦ let p = parted r xs i in
        let q = links_part x p.0 r p.1 x (subst (λ z. Links reads x z x) p.2 l) in (
          p.1 ++ x ∷ p.0,
          links_join reads r p.1 x p.0 r q.1 q.0,
          λ k j. elim (in_either k p.1 (x ∷ p.0) j) [
            | inl a ↦ later x xs (subst (In k) (sym p.2) (in_right k p.0 (r ∷ p.1) (later r p.1 a)))
            | inr b ↦ elim (in_cons k x p.0 b) [
              | inl e ↦ subst (λ z. In z (x ∷ xs)) (sym e) (first xs)
              | inr c ↦ later x xs (subst (In k) (sym p.2) (in_left k p.0 (r ∷ p.1) c))
            ]
          ],
        )
  ]

module _ {K : Type 0} (between : K → Bool) (reads : K → List K) where
  -- through what stands between to the next of the others
  abbrev Runs : K → List K → K → Type 0
  Runs n [] z = Through between reads n z
  Runs n (y ∷ ys) z = Through between reads n y × Waiting between reads y ys z

  runs_waiting : (y : K) (ys : List K) (z : K) → Runs y ys z → Waiting between reads y ys z
  runs_waiting y [] z r = reads_it z r
  runs_waiting y (w ∷ ws) z r = (reads_it w r.0, r.1)

  on_runs : (n m : K) (ys : List K) (z : K) → In m (reads n) → between m ≡ true → Runs m ys z → Runs n ys z
  on_runs n m [] z h e r = on n m z h e r
  on_runs n m (y ∷ ys) z h e r = (on n m y h e r.0, r.1)

  step_runs : (n m : K) (ys : List K) (z : K) (c : Bool) → between m ≡ c → In m (reads n) → Runs m ys z → Runs n (if c then ys else m ∷ ys) z
  step_runs n m ys z true e h r = on_runs n m ys z h e r
  step_runs n m ys z false e h r = (at_once n m h e, runs_waiting m ys z r)

  runs : (n : K) (xs : List K) (z : K) → between z ≡ false → Links reads n xs z → Runs n (others between xs) z
  runs n [] z e l = at_once n z l e
  runs n (m ∷ ms) z e l = step_runs n m (others between ms) z (between m) refl l.0 (runs m ms z e l.1)

  waits_from : (x : K) (xs : List K) → between x ≡ false → Links reads x xs x → Waiting between reads x (others between xs) x
  waits_from x xs e l = runs_waiting x (others between xs) x (runs x xs x e l)

  nothing_after : (xs : List K) → xs ++ [] ≡ xs
  nothing_after [] = refl
  nothing_after (x ∷ xs) = ap (λ z. x ∷ z) (nothing_after xs)

  by_first : (x : K) (xs : List K) (c : Bool) → between x ≡ c → Links reads x xs x → (others between (x ∷ xs) ≡ [] → ⊥) → WaitCycle between reads (others between (x ∷ xs))
  by_first x xs false e l h = subst (WaitCycle between reads) (sym (others_then between x xs false e)) (waits_from x xs e l)
  by_first x xs true e l h =
      let here = others_then between x xs true e in
      let f = first_of_others between xs (λ q. h (here ∙ q)) in
      let ps = f.0 in
      let y = f.1 in
      let qs = f.2 in
      let l2 = links_part reads x ps y qs x (subst (λ z. Links reads x z x) f.3 l) in
      let w = waits_from y (qs ++ x ∷ ps) f.5 (links_join reads y qs x ps y l2.1 l2.0) in
      let same = others_append between qs (x ∷ ps) ∙ ap (λ z. others between qs ++ z) (others_then between x ps true e ∙ f.4) ∙ nothing_after (others between qs) in
      let whole = here ∙ ap (others between) f.3 ∙ others_append between ps (y ∷ qs) ∙ ap (λ z. z ++ others between (y ∷ qs)) f.4 ∙ others_then between y qs false f.5 in
      subst (WaitCycle between reads) (sym whole) (subst (λ z. Waiting between reads y z y) same w)

  -- the nodes of a cycle that do not stand between others wait for one another
  pub others_wait : (c : List K) → Cycle reads c → (others between c ≡ [] → ⊥) → WaitCycle between reads (others between c)
  others_wait [] l h = absurd l
  others_wait (x ∷ xs) l h = by_first x xs (between x) refl l h

  items_cons : (c : Bool) (x : K) (xs : List K) → between x ≡ c → Items between reads xs → Items between reads (if c then xs else x ∷ xs)
  items_cons true x xs e i = i
  items_cons false x xs e i = (e, i)

  pub others_items : (xs : List K) → Items between reads (others between xs)
  others_items [] = tt
  others_items (x ∷ xs) = items_cons (between x) x (others between xs) refl (others_items xs)

  none_other : (x : K) (xs : List K) (c : Bool) → between x ≡ c → (if c then others between xs else x ∷ others between xs) ≡ [] → (c ≡ true) × (others between xs ≡ [])
  none_other x xs true e h = (refl, h)
  none_other x xs false e h = absurd (cc h)

  -- where there is no other node, all stand between
  pub all_between : (xs : List K) → others between xs ≡ [] → (k : K) → In k xs → between k ≡ true
  all_between [] h k i = absurd (none_in i)
  all_between (x ∷ xs) h k i =
      let n = none_other x xs (between x) refl h in
      elim (in_cons k x xs i) [ inl e ↦ ap between e ∙ n.0 | inr j ↦ all_between xs n.1 k j ]

  within : (n : K) (xs : List K) (z : K) → between z ≡ true → ((k : K) → In k xs → between k ≡ true) → Links reads n xs z → Within between reads n z
  within n [] z e all l = here n z l e
  within n (m ∷ ms) z e all l = further n m z l.0 (all m (first ms)) (within m ms z e (λ k i. all k (later m ms i)) l.1)

  -- and then each waits for itself
  pub within_itself : (c : List K) (r : K) → Cycle reads c → others between c ≡ [] → In r c → Within between reads r r
  within_itself [] r l h i = absurd l
  within_itself (x ∷ xs) r l h i =
      let t = turned reads x xs r l i in
      within r t.0 r (all_between (x ∷ xs) h r i) (λ k j. all_between (x ∷ xs) h k (t.2 k j)) t.1
