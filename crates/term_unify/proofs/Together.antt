use Rattle.std.proofs.Common.{◌≡◌, ◌≢◌, ℕ, ◌+◌, ◌<◌, ◌≤◌, true, false, List, [], ◌∷◌, ◌++◌, Option, Some, None, length, refl, sym, ◌∙◌, subst, arith, Result, Ok, Err}
use Rattle.std.specs.Prelude.{OnOk, IsErrAnd}
use Rattle.std.specs.List.{slice_get, slice_index, slice_set}
use Rattle.std.proofs.lemmas.Option.{slice_get_within}
use Rattle.term_unify.specs.Graph.{value, rank, Follows, Leads, Shortened, IsForest, IsClosing, Solves, pair_up, work, IsGraph, AreLabels, AreClasses, Respects}
use Rattle.term_unify.specs.Graph.Leads.{here, up}
use Rattle.term_unify.specs.Graph.Shortened.{same, halved}
use Rattle.term_unify.specs.declared.laws.Term.{Ghosts}
use Rattle.term_unify.proofs.Algebra.{Laws}
use Rattle.term_unify.proofs.Lists.{got_some}
use Rattle.term_unify.proofs.Forest.{leads_follow, leads_back, follows_halved, inside, shortened_forest, root_kept, root_stays, one_root}
use Rattle.term_unify.proofs.Closing.{linked_closing, dropped_closing, shortened_closing, roots_same, same_alike, upper_term, live_shortened, work_linked}

pub ok_then : {V E : Type 0} (r : Result V E) (P Q : Type 0) → OnOk r P → (P → Q) → OnOk r Q
ok_then (Ok v) P Q p f = f p
ok_then (Err e) P Q p f = tt

pub ok_both : {V E : Type 0} (r : Result V E) (P Q : Type 0) → OnOk r P → OnOk r Q → OnOk r (P × Q)
ok_both (Ok v) P Q p q = (p, q)
ok_both (Err e) P Q p q = tt

pub shortened_along : (old : List ℕ) {ps qs : List ℕ} → Shortened old ps → Shortened ps qs → Shortened old qs
shortened_along old s same = s
shortened_along old s (halved i h apart t) = halved i h apart (shortened_along old s t)

pub follows_before : {T X : Type 0} (A : Ghosts T) (ts : List T) (f : ℕ → X) (old : List ℕ) {ps : List ℕ} → IsForest A ts old → Shortened old ps → Follows f ps → Follows f old
follows_before A ts f old F same follows = follows
follows_before A ts f old F (halved {links = ps} i h apart s) follows =
    follows_before A ts f old F s (follows_halved f ps i h apart (inside A ts ps (shortened_forest A ts old F s)) follows)

module _ {T : Type 0} (A : Ghosts T) (L : Laws A) (ts : List T) (first : List ℕ) where
  module _ (ps0 ps1 ps2 : List ℕ) (es : List (ℕ × ℕ)) (a b one other : ℕ) (F : IsForest A ts ps0) (s1 : Shortened ps0 ps1) (s2 : Shortened ps1 ps2)
      (la : Leads ps0 a one) (lb : Leads ps1 b other) (r1 : slice_index ps1 one ≡ one) (r2 : slice_index ps2 other ≡ other) where
    s : Shortened ps0 ps2
    s = shortened_along ps0 s1 s2

    lb0 : Leads ps0 b other
    lb0 = leads_back A ts ps0 F s1 lb

    pub forest_after : IsForest A ts ps2
    forest_after = shortened_forest A ts ps0 F s

    root_one : slice_index ps2 one ≡ one
    root_one = root_kept A ts ps1 (shortened_forest A ts ps0 F s1) s2 one r1

    to_a : (X : Type 0) (f : ℕ → X) → Follows f ps2 → f a ≡ f one
    to_a X f follows = leads_follow f ps0 (follows_before A ts f ps0 F s follows) la

    to_b : (X : Type 0) (f : ℕ → X) → Follows f ps2 → f b ≡ f other
    to_b X f follows = leads_follow f ps0 (follows_before A ts f ps0 F s follows) lb0

    -- both were in one class
    pub met_closing : one ≡ other → (goal : List (ℕ × ℕ)) → IsClosing A ts first goal ps0 (es ++ (a, b) ∷ []) → IsClosing A ts first goal ps2 es
    met_closing e goal C =
        shortened_closing A L ts first goal ps0 es (dropped_closing A L ts first goal ps0 es a b one la (subst (Leads ps0 b) (sym e) lb0) C) s

    pub met_work : work A ts ps2 es ≤ work A ts ps0 es
    met_work = let e = live_shortened A L ts first [] ps0 ps2 F s in omega (arith, e)

    module _ (G : IsGraph A ts first) (qs : List ℕ) (fs : List (ℕ × ℕ)) where
      one_over_closing : (s' t' : T) → slice_get ts one ≡ Some s' → slice_get ts other ≡ Some t' → rank A ts one < rank A ts other → (A.var_of t' ≡ None → A.alike s' t' ≡ true)
          → (goal : List (ℕ × ℕ)) → IsClosing A ts first goal ps0 (es ++ (a, b) ∷ [])
          → IsClosing A ts first goal (slice_set ps2 other one) (es ++ pair_up (slice_index first one) (slice_index first other) (length (A.kids t')))
      one_over_closing s' t' at at' low heads goal C =
          linked_closing A L ts first goal G ps2 es a b one other s' t' at at' r2 low heads
          (λ X f follows e. sym (to_b X f follows) ∙ sym e ∙ to_a X f follows)
          (λ X f follows e. to_a X f follows ∙ sym e ∙ sym (to_b X f follows))
          (shortened_closing A L ts first goal ps0 (es ++ (a, b) ∷ []) C s)

      other_over_closing : (s' t' : T) → slice_get ts other ≡ Some s' → slice_get ts one ≡ Some t' → rank A ts other < rank A ts one → (A.var_of t' ≡ None → A.alike s' t' ≡ true)
          → (goal : List (ℕ × ℕ)) → IsClosing A ts first goal ps0 (es ++ (a, b) ∷ [])
          → IsClosing A ts first goal (slice_set ps2 one other) (es ++ pair_up (slice_index first other) (slice_index first one) (length (A.kids t')))
      other_over_closing s' t' at at' low heads goal C =
          linked_closing A L ts first goal G ps2 es a b other one s' t' at at' root_one low heads
          (λ X f follows e. sym (to_a X f follows) ∙ e ∙ to_b X f follows)
          (λ X f follows e. to_a X f follows ∙ e ∙ sym (to_b X f follows))
          (shortened_closing A L ts first goal ps0 (es ++ (a, b) ∷ []) C s)

      abbrev Equated : ℕ → ℕ → Type 0
      Equated over under = (t : T) → slice_get ts under ≡ Some t → fs ≡ es ++ pair_up (slice_index first over) (slice_index first under) (length (A.kids t))

      abbrev Alike : ℕ → ℕ → Type 0
      Alike over under = (s t : T) → slice_get ts over ≡ Some s → slice_get ts under ≡ Some t → A.var_of t ≡ None → A.alike s t ≡ true

      pub one_over : one < length ts → other < length ts → rank A ts one < rank A ts other → qs ≡ slice_set ps2 other one → Equated one other → Alike one other
          → (goal : List (ℕ × ℕ)) → IsClosing A ts first goal ps0 (es ++ (a, b) ∷ []) → IsClosing A ts first goal qs fs
      one_over h k low linked equated alike goal C =
          let s' = got_some ts one h in
          let t' = got_some ts other k in
          subst (λ q. IsClosing A ts first goal q fs) (sym linked) (subst (IsClosing A ts first goal (slice_set ps2 other one)) (sym (equated t'.0 t'.1))
          (one_over_closing s'.0 t'.0 s'.1 t'.1 low (alike s'.0 t'.0 s'.1 t'.1) goal C))

      pub other_over : one < length ts → other < length ts → rank A ts other < rank A ts one → qs ≡ slice_set ps2 one other → Equated other one → Alike other one
          → (goal : List (ℕ × ℕ)) → IsClosing A ts first goal ps0 (es ++ (a, b) ∷ []) → IsClosing A ts first goal qs fs
      other_over h k low linked equated alike goal C =
          let s' = got_some ts other k in
          let t' = got_some ts one h in
          subst (λ q. IsClosing A ts first goal q fs) (sym linked) (subst (IsClosing A ts first goal (slice_set ps2 one other)) (sym (equated t'.0 t'.1))
          (other_over_closing s'.0 t'.0 s'.1 t'.1 low (alike s'.0 t'.0 s'.1 t'.1) goal C))

      pub one_over_work : other < length ts → one ≢ other → qs ≡ slice_set ps2 other one → Equated one other → work A ts qs fs ≤ work A ts ps0 es
      one_over_work k apart linked equated =
          let t' = got_some ts other k in
          let n = (forest_after).all in
          let h : other < length ps2 = omega arith in
          let w = work_linked A L ts first [] ps2 es (slice_index first one) (slice_index first other) one other t'.0 n h t'.1 r2 apart in
          let e : work A ts qs fs ≡ work A ts (slice_set ps2 other one) (es ++ pair_up (slice_index first one) (slice_index first other) (length (A.kids t'.0))) =
          (λ i. work A ts (linked i) (equated t'.0 t'.1 i)) in
          omega (arith, w, e, met_work)

      pub other_over_work : one < length ts → one ≢ other → qs ≡ slice_set ps2 one other → Equated other one → work A ts qs fs ≤ work A ts ps0 es
      other_over_work k apart linked equated =
          let t' = got_some ts one k in
          let n = (forest_after).all in
          let h : one < length ps2 = omega arith in
          let w = work_linked A L ts first [] ps2 es (slice_index first other) (slice_index first one) other one t'.0 n h t'.1 root_one (λ e. apart (sym e)) in
          let e : work A ts qs fs ≡ work A ts (slice_set ps2 one other) (es ++ pair_up (slice_index first other) (slice_index first one) (length (A.kids t'.0))) =
          (λ i. work A ts (linked i) (equated t'.0 t'.1 i)) in
          omega (arith, w, e, met_work)

    -- two heads that differ: no substitution solves what was asked
    abbrev Differ : ℕ → ℕ → Type 0
    Differ over under = (s t : T) → slice_get ts over ≡ Some s → slice_get ts under ≡ Some t → (A.var_of t ≡ None) × (A.alike s t ≡ false)

    pub one_over_clash : one < length ts → other < length ts → rank A ts one < rank A ts other → Differ one other
        → (goal : List (ℕ × ℕ)) → IsClosing A ts first goal ps0 (es ++ (a, b) ∷ []) → (by : ℕ → Option T) → Solves (value A ts by) goal → ⊥
    one_over_clash h k low differ goal C by z =
        let s' = got_some ts one h in
        let t' = got_some ts other k in
        let d = differ s'.0 t'.0 s'.1 t'.1 in
        let e = roots_same A L ts first goal ps0 es a b one other s'.0 t'.0 la lb0 C by z s'.1 t'.1 in
        let yes = same_alike A L ts first goal by s'.0 t'.0 (upper_term A L ts first goal one other s'.0 t'.0 s'.1 t'.1 low d.0) d.0 e in
        let no = d.1 in cc

    pub other_over_clash : one < length ts → other < length ts → rank A ts other < rank A ts one → Differ other one
        → (goal : List (ℕ × ℕ)) → IsClosing A ts first goal ps0 (es ++ (a, b) ∷ []) → (by : ℕ → Option T) → Solves (value A ts by) goal → ⊥
    other_over_clash h k low differ goal C by z =
        let s' = got_some ts other k in
        let t' = got_some ts one h in
        let d = differ s'.0 t'.0 s'.1 t'.1 in
        let e = sym (roots_same A L ts first goal ps0 es a b one other t'.0 s'.0 la lb0 C by z t'.1 s'.1) in
        let yes = same_alike A L ts first goal by s'.0 t'.0 (upper_term A L ts first goal other one s'.0 t'.0 s'.1 t'.1 low d.0) d.0 e in
        let no = d.1 in cc

  -- ---- the classes at the end

  module _ (goal : List (ℕ × ℕ)) (ps cls : List ℕ) (C : IsClosing A ts first goal ps []) (N : AreLabels ps cls) where
    short : (i : ℕ) → i < length ts → i < length ps
    short i b = let n = C.forest.all in omega (arith, n, b)

    labels_follow : Follows (slice_index cls) ps
    labels_follow i b =
        let v = inside A ts ps C.forest i b in
        one_root ps (N.root i b) (N.root (slice_index ps i) v) (N.leads i b) (up b (N.leads (slice_index ps i) v))

    heads_along : {i j : ℕ} → Leads ps i j → (s : T) → slice_get ts i ≡ Some s → A.var_of s ≡ None → (t : T) × (slice_get ts j ≡ Some t) × (A.var_of t ≡ None) × (A.alike s t ≡ true)
    heads_along here s at none = (s, at, none, L.alike_self s)
    heads_along (up {i} b d) s at none =
        let q = C.heads i s at none in
        let r = heads_along d q.0 q.1 q.2 in
        (r.0, r.1, r.2, L.alike_along s q.0 r.0 q.3 r.3)

    parts_along : {i j : ℕ} → Leads ps i j → (n : ℕ) (s : T) → slice_get ts i ≡ Some s → A.var_of s ≡ None → n < length (A.kids s)
        → slice_index cls (slice_index first i + n) ≡ slice_index cls (slice_index first j + n)
    parts_along here n s at none below = refl
    parts_along (up {i} b d) n s at none below =
        let q = C.heads i s at none in
        let m = L.alike_kids s q.0 q.3 in
        C.parts (slice_index cls) labels_follow tt i n s at none below ∙ parts_along d n q.0 q.1 q.2 (omega (arith, m, below))

    pub classes_made : AreClasses A ts first cls
    classes_made =
        let m = C.forest.all in
        record {
          all = N.all ∙ m;
          within = λ i b. let w = N.within i (short i b) in omega (arith, w, m);
          root = λ i b. let c = short i b in let w = N.within i c in root_stays ps (N.root i c) (N.leads (slice_index cls i) w);
          heads = λ i s at none. heads_along (N.leads i (short i (slice_get_within ts i s at))) s at none;
          parts = λ i n s at none below. parts_along (N.leads i (short i (slice_get_within ts i s at))) n s at none below;
        }

    pub classes_solve : Solves (slice_index cls) goal
    classes_solve = C.complete (slice_index cls) labels_follow tt

    pub classes_respected : (by : ℕ → Option T) → Solves (value A ts by) goal → Respects A ts cls by
    classes_respected by z i b = leads_follow (value A ts by) ps ((C.sound by z).0) (N.leads i (short i b))

pub err_is : {V E : Type 0} (r : Result V E) (P : E → Type 0) (x : E) → IsErrAnd r P → r ≡ Err x → P x
err_is r P x a e = subst (λ q. IsErrAnd q P) e a
