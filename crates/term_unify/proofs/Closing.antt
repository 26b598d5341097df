use Rattle.std.proofs.Common.{◌≡◌, ◌≢◌, ℕ, zero, suc, ◌+◌, ◌<◌, true, false, List, [], ◌∷◌, ◌++◌, Option, Some, None, inl, inr, length, map, refl, ap, sym, ◌∙◌, subst, arith, add_assoc, length-append}
use Rattle.std.specs.Prelude.{◌==◌, if◌then◌else◌}
use Rattle.std.specs.List.{slice_get, slice_index, slice_set}
use Rattle.std.specs.Option.{option_map, option_map_or, option_and_then, is_some}
use Rattle.std.proofs.lemmas.List.{length-set}
use Rattle.std.proofs.lemmas.Bool.Decides.{eqb_tells}
use Rattle.std.proofs.lemmas.Option.{slice_get_within, slice_get-map}
use Rattle.term_unify.specs.Graph.{value, rank, Follows, Leads, Shortened, IsForest, IsClosing, AreWithin, Solves, pair_up, live, work, IsGraph}
use Rattle.term_unify.specs.Graph.Shortened.{same, halved}
use Rattle.term_unify.specs.declared.laws.Term.{Ghosts}
use Rattle.term_unify.proofs.Algebra.{Laws}
use Rattle.term_unify.proofs.Lists.{same_or_not, same_item, got_some}
use Rattle.term_unify.proofs.Nodes.{solves-append, solves_front, solves_last, within-append, within_front}
use Rattle.term_unify.proofs.Forest.{set_here, set_there, leads_follow, halved_follows, follows_halved, halved_forest, inside, root_kept, root_before}

pub solves_join : {X : Type 0} (h : ℕ → X) (es fs : List (ℕ × ℕ)) → Solves h es → Solves h fs → Solves h (es ++ fs)
solves_join h [] fs z y = y
solves_join h (e ∷ es) fs z y = (z.0, solves_join h es fs z.1 y)

pub solves_left : {X : Type 0} (h : ℕ → X) (es fs : List (ℕ × ℕ)) → Solves h (es ++ fs) → Solves h es
solves_left h [] fs z = tt
solves_left h (e ∷ es) fs z = (z.0, solves_left h es fs z.1)

pub solves_right : {X : Type 0} (h : ℕ → X) (es fs : List (ℕ × ℕ)) → Solves h (es ++ fs) → Solves h fs
solves_right h [] fs z = z
solves_right h (e ∷ es) fs z = solves_right h es fs z.1

pub within_join : (n : ℕ) (es fs : List (ℕ × ℕ)) → AreWithin n es → AreWithin n fs → AreWithin n (es ++ fs)
within_join n [] fs z y = y
within_join n (e ∷ es) fs z y = (z.0, z.1, within_join n es fs z.2 y)

pub pairs_solve : {X : Type 0} (h : ℕ → X) (m n k : ℕ) → ((i : ℕ) → i < k → h (m + i) ≡ h (n + i)) → Solves h (pair_up m n k)
pairs_solve h m n zero each = tt
pairs_solve h m n (suc k) each = solves-append h (pair_up m n k) (m + k, n + k) (pairs_solve h m n k (λ i b. each i (omega arith))) (each k (omega arith))

pub pairs_say : {X : Type 0} (h : ℕ → X) (m n k : ℕ) → Solves h (pair_up m n k) → (i : ℕ) → i < k → h (m + i) ≡ h (n + i)
pairs_say h m n zero z i b = absurd (omega arith)
pairs_say h m n (suc k) z i b =
    elim (same_or_not i k) [
      | inl e ↦ let l : h (m + k) ≡ h (n + k) = solves_last h (pair_up m n k) (m + k, n + k) z in ap (λ j. h (m + j)) e ∙ l ∙ ap (λ j. h (n + j)) (sym e)
      | inr d ↦ let c : i < k = omega arith in pairs_say h m n k (solves_front h (pair_up m n k) (m + k, n + k) z) i c
    ]

pub pairs_within : (most m n k : ℕ) → ((i : ℕ) → i < k → (m + i < most) × (n + i < most)) → AreWithin most (pair_up m n k)
pairs_within most m n zero each = tt
pairs_within most m n (suc k) each =
    let l = each k (omega arith) in within-append most (pair_up m n k) (m + k, n + k) (pairs_within most m n k (λ i b. each i (omega arith))) l.0 l.1

pub pairs_many : (m n k : ℕ) → length (pair_up m n k) ≡ k
pairs_many m n zero = refl
pairs_many m n (suc k) = length-append (pair_up m n k) ((m + k, n + k) ∷ []) ∙ ap (λ j. j + 1) (pairs_many m n k) ∙ omega arith

module _ {T : Type 0} (A : Ghosts T) (L : Laws A) (ts : List T) (first : List ℕ) (goal : List (ℕ × ℕ)) where
  -- ---- the start

  pub closing_starts : (ps : List ℕ) → length ps ≡ length ts → ((i : ℕ) → i < length ts → slice_index ps i ≡ i) → AreWithin (length ts) goal → IsClosing A ts first goal ps goal
  closing_starts ps n self within = record {
    forest = record {
      all = n;
      within = λ i b. subst (λ k. k < length ts) (sym (self i b)) b;
      down = λ i b moves. absurd (moves (self i b));
    };
    within = within;
    heads = λ i s at is. let b = slice_get_within ts i s at in (s, ap (slice_get ts) (self i b) ∙ at, is, L.alike_self s);
    parts = λ f follows solves i k s at is below. let b = slice_get_within ts i s at in ap (λ j. f (slice_index first j + k)) (sym (self i b));
    sound = λ by z. ((λ i b. let c : i < length ts = omega (arith, n) in ap (value A ts by) (sym (self i c))), z);
    complete = λ f follows z. z;
  }

  -- ---- a link is replaced by two

  pub halved_closing : (ps : List ℕ) (es : List (ℕ × ℕ)) (i : ℕ) → i < length ps → slice_index ps i ≢ i → IsClosing A ts first goal ps es
      → IsClosing A ts first goal (slice_set ps i (slice_index ps (slice_index ps i))) es
  halved_closing ps es i h apart C =
      let far = slice_index ps (slice_index ps i) in
      let ins = inside A ts ps C.forest in
      record {
        forest = halved_forest A ts ps i h apart C.forest;
        within = C.within;
        heads = λ j s at is. elim (same_or_not j i) [
          | inl e ↦
              let q = C.heads j s at is in
              let at' : slice_get ts (slice_index ps i) ≡ Some q.0 = ap (λ k. slice_get ts (slice_index ps k)) (sym e) ∙ q.1 in
              let r = C.heads (slice_index ps i) q.0 at' q.2 in
              (r.0, ap (slice_get ts) (set_here ps i far j h e) ∙ r.1, r.2, L.alike_along s q.0 r.0 q.3 r.3)
          | inr d ↦ let q = C.heads j s at is in (q.0, ap (slice_get ts) (set_there ps i far j d) ∙ q.1, q.2, q.3)
        ];
        parts = λ f follows z j k s at is below.
            let old = follows_halved f ps i h apart ins follows in
            elim (same_or_not j i) [
              | inl e ↦
                  let q = C.heads j s at is in
                  let at' : slice_get ts (slice_index ps i) ≡ Some q.0 = ap (λ k. slice_get ts (slice_index ps k)) (sym e) ∙ q.1 in
                  let n = L.alike_kids s q.0 q.3 in
                  let below' : k < length (A.kids q.0) = omega (arith, n, below) in
                  C.parts f old z j k s at is below ∙ ap (λ m. f (slice_index first (slice_index ps m) + k)) e
                  ∙ C.parts f old z (slice_index ps i) k q.0 at' q.2 below' ∙ ap (λ m. f (slice_index first m + k)) (sym (set_here ps i far j h e))
              | inr d ↦ C.parts f old z j k s at is below ∙ ap (λ m. f (slice_index first m + k)) (sym (set_there ps i far j d))
            ];
        sound = λ by z. let q = C.sound by z in (halved_follows (value A ts by) ps i h apart ins q.0, q.1);
        complete = λ f follows z. C.complete f (follows_halved f ps i h apart ins follows) z;
      }

  pub shortened_closing : (old : List ℕ) {ps : List ℕ} (es : List (ℕ × ℕ)) → IsClosing A ts first goal old es → Shortened old ps → IsClosing A ts first goal ps es
  shortened_closing old es C same = C
  shortened_closing old es C (halved {links = ps} i h apart s) = halved_closing ps es i h apart (shortened_closing old es C s)

  -- ---- two classes are put together

  pub part_inside : IsGraph A ts first → (i n : ℕ) (s : T) → slice_get ts i ≡ Some s → n < length (A.kids s) → slice_index first i + n < length ts
  part_inside G i n s at below =
      let r = got_some (A.kids s) n below in
      slice_get_within ts (slice_index first i + n) r.0 (G.parts i n s r.0 (slice_get_within ts i s at) at r.1)

  -- the values of the parts of two nodes of one value
  pub parts_same : IsGraph A ts first → (by : ℕ → Option T) (i j : ℕ) (s t : T) → slice_get ts i ≡ Some s → slice_get ts j ≡ Some t
      → A.var_of s ≡ None → A.var_of t ≡ None → A.apply by s ≡ A.apply by t → (n : ℕ) → n < length (A.kids s) → n < length (A.kids t)
      → value A ts by (slice_index first i + n) ≡ value A ts by (slice_index first j + n)
  parts_same G by i j s t at at' is is' one n below below' =
      let r = got_some (A.kids s) n below in
      let q = got_some (A.kids t) n below' in
      let ks : map (A.apply by) (A.kids s) ≡ map (A.apply by) (A.kids t) = sym (L.apply_kids by s is) ∙ ap A.kids one ∙ L.apply_kids by t is' in
      ap (option_map (A.apply by)) (G.parts i n s r.0 (slice_get_within ts i s at) at r.1)
      ∙ sym (slice_get-map (A.apply by) (A.kids s) n ∙ ap (option_map (A.apply by)) r.1)
      ∙ ap (λ z. slice_get z n) ks
      ∙ (slice_get-map (A.apply by) (A.kids t) n ∙ ap (option_map (A.apply by)) q.1)
      ∙ sym (ap (option_map (A.apply by)) (G.parts j n t q.0 (slice_get_within ts j t at') at' q.1))

  pub linked_follows : {X : Type 0} (f : ℕ → X) (ps : List ℕ) (over under : ℕ) → slice_index ps under ≡ under → Follows f (slice_set ps under over) → Follows f ps
  linked_follows f ps over under root follows j b =
      let n : length (slice_set ps under over) ≡ length ps = length-set ps under over in
      let c : j < length (slice_set ps under over) = omega (arith, n) in
      elim (same_or_not j under) [
        | inl e ↦ ap f (sym (ap (slice_index ps) e ∙ root ∙ sym e))
        | inr d ↦ follows j c ∙ ap f (set_there ps under over j d)
      ]

  pub follows_linked : {X : Type 0} (f : ℕ → X) (ps : List ℕ) (over under : ℕ) → under < length ps → f under ≡ f over → Follows f ps → Follows f (slice_set ps under over)
  follows_linked f ps over under h one follows j b =
      let n : length (slice_set ps under over) ≡ length ps = length-set ps under over in
      let c : j < length ps = omega (arith, n) in
      elim (same_or_not j under) [
        | inl e ↦ ap f e ∙ one ∙ ap f (sym (set_here ps under over j h e))
        | inr d ↦ follows j c ∙ ap f (sym (set_there ps under over j d))
      ]

  -- an equation whose sides are in one class already
  pub dropped_closing : (ps : List ℕ) (es : List (ℕ × ℕ)) (a b r : ℕ) → Leads ps a r → Leads ps b r → IsClosing A ts first goal ps (es ++ (a, b) ∷ []) → IsClosing A ts first goal ps es
  dropped_closing ps es a b r la lb C =
      let more : (f : ℕ → ℕ) → Follows f ps → Solves f es → Solves f (es ++ (a, b) ∷ []) =
      λ f follows z. solves-append f es (a, b) z (leads_follow f ps follows la ∙ sym (leads_follow f ps follows lb)) in
      record {
        forest = C.forest;
        within = within_front (length ts) es (a, b) C.within;
        heads = C.heads;
        parts = λ f follows z. C.parts f follows (more f follows z);
        sound = λ by z. let q = C.sound by z in (q.0, solves_front (value A ts by) es (a, b) q.1);
        complete = λ f follows z. C.complete f follows (more f follows z);
      }

  -- both roots have one value under each unifier
  pub roots_same : (ps : List ℕ) (es : List (ℕ × ℕ)) (a b r q : ℕ) (s t : T) → Leads ps a r → Leads ps b q → IsClosing A ts first goal ps (es ++ (a, b) ∷ [])
      → (by : ℕ → Option T) → Solves (value A ts by) goal → slice_get ts r ≡ Some s → slice_get ts q ≡ Some t → A.apply by s ≡ A.apply by t
  roots_same ps es a b r q s t la lb C by z at at' =
      let p = C.sound by z in
      let one : value A ts by r ≡ value A ts by q =
      sym (leads_follow (value A ts by) ps p.0 la) ∙ solves_last (value A ts by) es (a, b) p.1 ∙ leads_follow (value A ts by) ps p.0 lb in
      let two : Some (A.apply by s) ≡ Some (A.apply by t) = sym (ap (option_map (A.apply by)) at) ∙ one ∙ ap (option_map (A.apply by)) at' in
      cc

  pub same_alike : (by : ℕ → Option T) (s t : T) → A.var_of s ≡ None → A.var_of t ≡ None → A.apply by s ≡ A.apply by t → A.alike s t ≡ true
  same_alike by s t is is' one =
      L.alike_along s (A.apply by s) t (L.alike_back (A.apply by s) s (L.apply_alike by s is)) (ap (λ z. A.alike z t) one ∙ L.apply_alike by t is')

  pub var_no_parts : (t : T) → is_some (A.var_of t) ≡ true → A.kids t ≡ []
  var_no_parts t is = go (A.var_of t) refl
    where
      go : (o : Option ℕ) → A.var_of t ≡ o → A.kids t ≡ []
      go None e = let f : is_some (A.var_of t) ≡ false = ap is_some e in absurd (cc)
      go (Some x) e = L.var_kids t x e

  pub upper_term : (over under : ℕ) (s t : T) → slice_get ts over ≡ Some s → slice_get ts under ≡ Some t → rank A ts over < rank A ts under → A.var_of t ≡ None → A.var_of s ≡ None
  upper_term over under s t at at' low is = none_below (A.var_of s) refl
    where
      none_below : (o : Option ℕ) → A.var_of s ≡ o → A.var_of s ≡ None
      none_below None e = e
      none_below (Some x) e =
          let h = slice_get_within ts under t at' in
          let r1 : rank A ts over ≡ length ts + over = ap (λ o. (if is_some (option_and_then A.var_of o) then length ts else 0) + over) at ∙ ap (λ o. (if is_some o then length ts else 0) + over) e in
          let r2 : rank A ts under ≡ 0 + under = ap (λ o. (if is_some (option_and_then A.var_of o) then length ts else 0) + under) at' ∙ ap (λ o. (if is_some o then length ts else 0) + under) is in
          absurd (omega (arith, r1, r2))

  pub linked_forest : (ps : List ℕ) (over under : ℕ) → IsForest A ts ps → under < length ts → over < length ts → rank A ts over < rank A ts under
      → IsForest A ts (slice_set ps under over)
  linked_forest ps over under F h k low =
      let n = F.all in
      let b : under < length ps = omega arith in
      record {
        all = length-set ps under over ∙ n;
        within = λ j c. elim (same_or_not j under) [
          | inl e ↦ subst (λ m. m < length ts) (sym (set_here ps under over j b e)) k
          | inr d ↦ subst (λ m. m < length ts) (sym (set_there ps under over j d)) (F.within j c)
        ];
        down = λ j c moves. elim (same_or_not j under) [
          | inl e ↦ subst (λ m. rank A ts m < rank A ts j) (sym (set_here ps under over j b e)) (subst (λ m. rank A ts over < rank A ts m) (sym e) low)
          | inr d ↦ subst (λ m. rank A ts m < rank A ts j) (sym (set_there ps under over j d)) (F.down j c (λ q. moves (set_there ps under over j d ∙ q)))
        ];
      }

  values_same : (by : ℕ → Option T) (over under : ℕ) (s t : T) → slice_get ts over ≡ Some s → slice_get ts under ≡ Some t → value A ts by over ≡ value A ts by under → A.apply by s ≡ A.apply by t
  values_same by over under s t at at' e =
      let two : Some (A.apply by s) ≡ Some (A.apply by t) = sym (ap (option_map (A.apply by)) at) ∙ e ∙ ap (option_map (A.apply by)) at' in cc

  pub no_var : (t : T) (i : ℕ) → i < length (A.kids t) → A.var_of t ≡ None
  no_var t i b = go (A.var_of t) refl
    where
      go : (o : Option ℕ) → A.var_of t ≡ o → A.var_of t ≡ None
      go None e = e
      go (Some x) e = let n = ap length (L.var_kids t x e) in absurd (omega (arith, n, b))

  new_within : IsGraph A ts first → (over under : ℕ) (s t : T) → slice_get ts over ≡ Some s → slice_get ts under ≡ Some t → rank A ts over < rank A ts under → (A.var_of t ≡ None → A.alike s t ≡ true)
      → AreWithin (length ts) (pair_up (slice_index first over) (slice_index first under) (length (A.kids t)))
  new_within G over under s t at at' low heads =
      pairs_within (length ts) (slice_index first over) (slice_index first under) (length (A.kids t))
      (λ i b.
      let none = no_var t i b in
      let n = L.alike_kids s t (heads none) in
      (part_inside G over i s at (omega (arith, n, b)), part_inside G under i t at' b))

  new_solved : IsGraph A ts first → (by : ℕ → Option T) (over under : ℕ) (s t : T) → slice_get ts over ≡ Some s → slice_get ts under ≡ Some t → rank A ts over < rank A ts under
      → (A.var_of t ≡ None → A.alike s t ≡ true) → A.apply by s ≡ A.apply by t
      → Solves (value A ts by) (pair_up (slice_index first over) (slice_index first under) (length (A.kids t)))
  new_solved G by over under s t at at' low heads one =
      pairs_solve (value A ts by) (slice_index first over) (slice_index first under) (length (A.kids t))
      (λ i b.
      let none = no_var t i b in
      let n = L.alike_kids s t (heads none) in
      parts_same G by over under s t at at' (upper_term over under s t at at' low none) none one i (omega (arith, n, b)) b)

  -- the class of one root goes below another
  pub linked_closing : IsGraph A ts first → (ps : List ℕ) (es : List (ℕ × ℕ)) (a b over under : ℕ) (s t : T)
      → slice_get ts over ≡ Some s → slice_get ts under ≡ Some t → slice_index ps under ≡ under → rank A ts over < rank A ts under
      → (A.var_of t ≡ None → A.alike s t ≡ true)
      → ((X : Type 0) (f : ℕ → X) → Follows f ps → f a ≡ f b → f under ≡ f over)
      → ((X : Type 0) (f : ℕ → X) → Follows f ps → f under ≡ f over → f a ≡ f b)
      → IsClosing A ts first goal ps (es ++ (a, b) ∷ [])
      → IsClosing A ts first goal (slice_set ps under over) (es ++ pair_up (slice_index first over) (slice_index first under) (length (A.kids t)))
  linked_closing G ps es a b over under s t at at' root low heads down back C =
      let h = slice_get_within ts under t at' in
      let k = slice_get_within ts over s at in
      let F = C.forest in
      let n = F.all in
      let c : under < length ps = omega arith in
      let new = pair_up (slice_index first over) (slice_index first under) (length (A.kids t)) in
      let was : (f : ℕ → ℕ) → Follows f (slice_set ps under over) → Follows f ps = λ f follows. linked_follows f ps over under root follows in
      let is : (f : ℕ → ℕ) → Follows f (slice_set ps under over) → f under ≡ f over =
      λ f follows. follows under (omega (arith, length-set ps under over)) ∙ ap f (set_here ps under over under c refl) in
      let more : (f : ℕ → ℕ) → Follows f (slice_set ps under over) → Solves f (es ++ new) → Solves f (es ++ (a, b) ∷ []) =
      λ f follows z. solves-append f es (a, b) (solves_left f es new z) (back ℕ f (was f follows) (is f follows)) in
      record {
        forest = linked_forest ps over under F h k low;
        within = within_join (length ts) es new (within_front (length ts) es (a, b) C.within) (new_within G over under s t at at' low heads);
        heads = λ j u here none. elim (same_or_not j under) [
          | inl e ↦
              let d : t ≡ u = same_item ts under t u at' (ap (slice_get ts) (sym e) ∙ here) in
              let none' : A.var_of t ≡ None = ap A.var_of d ∙ none in (
                s,
                ap (slice_get ts) (set_here ps under over j c e) ∙ at,
                upper_term over under s t at at' low none',
                L.alike_back s u (subst (λ z. A.alike s z ≡ true) d (heads none')),
              )
          | inr d ↦ let q = C.heads j u here none in (q.0, ap (slice_get ts) (set_there ps under over j d) ∙ q.1, q.2, q.3)
        ];
        parts = λ f follows z j m u here none below. elim (same_or_not j under) [
          | inl e ↦
              let d : t ≡ u = same_item ts under t u at' (ap (slice_get ts) (sym e) ∙ here) in
              let dn = ap (λ v. length (A.kids v)) d in
              let below' : m < length (A.kids t) = omega (arith, dn) in
              ap (λ v. f (slice_index first v + m)) e
              ∙ sym (pairs_say f (slice_index first over) (slice_index first under) (length (A.kids t)) (solves_right f es new z) m below')
              ∙ ap (λ v. f (slice_index first v + m)) (sym (set_here ps under over j c e))
          | inr d ↦ C.parts f (was f follows) (more f follows z) j m u here none below ∙ ap (λ v. f (slice_index first v + m)) (sym (set_there ps under over j d))
        ];
        sound = λ by z.
            let q = C.sound by z in
            let V = value A ts by in
            let eq : V under ≡ V over = down (Option T) V q.0 (solves_last V es (a, b) q.1) in (
              follows_linked V ps over under c eq q.0,
              solves_join V es new (solves_front V es (a, b) q.1)
                  (new_solved G by over under s t at at' low heads (values_same by over under s t at at' (sym eq))),
            );
        complete = λ f follows z. C.complete f (was f follows) (more f follows z);
      }

  -- ---- how many steps are left

  less_not : (i n : ℕ) → i < n → i ≢ n
  less_not i n h e = omega (arith, h, e)

  live_kept : (ps qs : List ℕ) (n : ℕ) → ((i : ℕ) → i < n → (slice_index ps i == i) ≡ (slice_index qs i == i)) → live A ts ps n ≡ live A ts qs n
  live_kept ps qs zero each = refl
  live_kept ps qs (suc n) each =
      let here = each n (omega arith) in
      let rest = live_kept ps qs n (λ i b. each i (omega arith)) in
      λ k. (if here k then 1 + option_map_or (λ t. length (A.kids t)) (slice_get ts n) 0 else 0) + rest k

  same_test : (a b c d : ℕ) → (a ≡ b → c ≡ d) → (c ≡ d → a ≡ b) → (a == b) ≡ (c == d)
  same_test a b c d f g =
      elim (eqb_tells a b) [
        | inl p ↦ elim (eqb_tells c d) [ inl q ↦ p.0 ∙ sym q.0 | inr q ↦ absurd (q.1 (f p.1)) ]
        | inr p ↦ elim (eqb_tells c d) [ inl q ↦ absurd (p.1 (g q.1)) | inr q ↦ p.0 ∙ sym q.0 ]
      ]

  pub live_shortened : (old ps : List ℕ) → IsForest A ts old → Shortened old ps → live A ts ps (length ts) ≡ live A ts old (length ts)
  live_shortened old ps F s =
      live_kept ps old (length ts) (λ i b. same_test (slice_index ps i) i (slice_index old i) i (root_before A ts old F s i) (root_kept A ts old F s i))

  pub live_linked : (ps : List ℕ) (over under : ℕ) (t : T) (n : ℕ) → under < length ps → slice_get ts under ≡ Some t → slice_index ps under ≡ under → over ≢ under → under < n
      → live A ts (slice_set ps under over) n + (1 + length (A.kids t)) ≡ live A ts ps n
  live_linked ps over under t zero h at root apart b = absurd (omega arith)
  live_linked ps over under t (suc n) h at root apart b =
      elim (same_or_not n under) [
        | inl e ↦
            let off : (slice_index (slice_set ps under over) n == n) ≡ false =
            elim (eqb_tells (slice_index (slice_set ps under over) n) n) [
              | inl p ↦ absurd (apart (sym (set_here ps under over n h e) ∙ p.1 ∙ e))
              | inr p ↦ p.0
            ] in
            let on : (slice_index ps n == n) ≡ true =
            elim (eqb_tells (slice_index ps n) n) [ inl p ↦ p.0 | inr p ↦ absurd (p.1 (ap (slice_index ps) e ∙ root ∙ sym e)) ] in
            let rest : live A ts (slice_set ps under over) n ≡ live A ts ps n =
            live_kept (slice_set ps under over) ps n (λ i c. ap (λ v. v == i) (set_there ps under over i (λ q. absurd (less_not i n c (q ∙ sym e))))) in
            let size : option_map_or (λ t. length (A.kids t)) (slice_get ts n) 0 ≡ length (A.kids t) = ap (λ o. option_map_or (λ t. length (A.kids t)) o 0) (ap (slice_get ts) e ∙ at) in
            let l : live A ts (slice_set ps under over) (suc n) ≡ 0 + live A ts ps n = (λ k. (if off k then 1 + option_map_or (λ t. length (A.kids t)) (slice_get ts n) 0 else 0) + rest k) in
            let r : live A ts ps (suc n) ≡ (1 + length (A.kids t)) + live A ts ps n = (λ k. (if on k then 1 + size k else 0) + live A ts ps n) in
            omega (arith, l, r)
        | inr d ↦
            let c : under < n = omega arith in
            let rest = live_linked ps over under t n h at root apart c in
            let same1 : (slice_index (slice_set ps under over) n == n) ≡ (slice_index ps n == n) = ap (λ v. v == n) (set_there ps under over n d) in
            let l : live A ts (slice_set ps under over) (suc n) ≡ (if slice_index ps n == n then 1 + option_map_or (λ t. length (A.kids t)) (slice_get ts n) 0 else 0) + live A ts (slice_set ps under over) n =
            (λ k. (if same1 k then 1 + option_map_or (λ t. length (A.kids t)) (slice_get ts n) 0 else 0) + live A ts (slice_set ps under over) n) in
            ap (λ z. z + (1 + length (A.kids t))) l ∙ add_assoc _ _ _ ∙ ap (λ z. (if slice_index ps n == n then 1 + option_map_or (λ t. length (A.kids t)) (slice_get ts n) 0 else 0) + z) rest
      ]

  pub work_linked : (ps : List ℕ) (es : List (ℕ × ℕ)) (m k over under : ℕ) (t : T) → length ps ≡ length ts → under < length ps → slice_get ts under ≡ Some t → slice_index ps under ≡ under → over ≢ under
      → work A ts (slice_set ps under over) (es ++ pair_up m k (length (A.kids t))) < work A ts ps es
  work_linked ps es m k over under t n h at root apart =
      let b : under < length ts = omega arith in
      let a = live_linked ps over under t (length ts) h at root apart b in
      let c = length-append es (pair_up m k (length (A.kids t))) in
      let d = pairs_many m k (length (A.kids t)) in
      omega (arith, a, c, d)
