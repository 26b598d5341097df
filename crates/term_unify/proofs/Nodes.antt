use Rattle.std.proofs.Common.{◌≡◌, ◌≢◌, ℕ, ◌+◌, ◌<◌, ◌≤◌, List, [], ◌∷◌, ◌++◌, Option, Some, None, inl, inr, length, get_or, take, drop, ap, sym, ◌∙◌, subst, arith, length-append, append_assoc, Bor}
use Rattle.std.specs.List.{slice_get, slice_index, AllZip}
use Rattle.std.specs.Option.{option_map}
use Rattle.std.specs.BTreeMap.{is_at}
use Rattle.std.specs.Ordering.{nat_cmp}
use Rattle.std.specs.Prelude.{false}
use Rattle.std.proofs.lemmas.Grind.{common_steps, get_or_default_zero}
use Rattle.std.proofs.Math.ListN.{get_or-append}
use Rattle.std.proofs.lemmas.List.{map-append, length-map}
use Rattle.std.proofs.lemmas.Option.{slice_get_within, get_or_from_slice_get, slice_get-map, slice_get-get_or}
use Rattle.std.proofs.lemmas.List.Elements.{All-nil, All-cons, All-head, All-tail}
use Rattle.term_unify.specs.Terms.{total}
use Rattle.term_unify.specs.Graph.{nodes, value, Keeps, PartsFollow, Solves, AreWithin, Pose, JoinsVariables, Unifies}
use Rattle.term_unify.specs.declared.laws.Term.{Ghosts}
use Rattle.term_unify.proofs.Algebra.{Laws}
use Rattle.term_unify.proofs.Lists.{got_front, got_front_back, got_back, got_next, less_or_same, same_or_not, take_more, same_item, AllZip_then, AllZip_push, total-drop, total_drop-append}

-- one pair more
pub posed : {T : Type 0} (ts us vs : List (Bor T)) (es fs : List (ℕ × ℕ)) (ps : List (T × T)) (i at : ℕ) (p : T × T) (a b : Bor T)
    → Pose (nodes ts) es (take i ps) → us ≡ ts ++ a ∷ [] → vs ≡ us ++ b ∷ [] → fs ≡ es ++ (at, at + 1) ∷ [] → at ≡ length ts
    → a.now ≡ p.0 → b.now ≡ p.1 → i < length ps → p ≡ get_or ps i p → Pose (nodes vs) fs (take (i + 1) ps)
posed {T} ts us vs es fs ps i at p a b was one two more here first second below is =
    let item : slice_get ps i ≡ Some p = slice_get-get_or ps i p below ∙ ap Some (sym is) in
    let now : nodes vs ≡ (nodes ts ++ p.0 ∷ []) ++ p.1 ∷ [] =
    ap nodes two ∙ map-append (λ (t : Bor T). t.now) us (b ∷ []) ∙ ap (λ z. z ++ b.now ∷ []) (ap nodes one ∙ map-append (λ (t : Bor T). t.now) ts (a ∷ []))
    ∙ (λ k. (nodes ts ++ first k ∷ []) ++ second k ∷ []) in
    let n : length (nodes ts) ≡ at = length-map ts (λ (t : Bor T). t.now) ∙ sym here in
    let left : slice_get (nodes vs) at ≡ Some p.0 =
    ap (λ z. slice_get z at) now ∙ got_front (nodes ts ++ p.0 ∷ []) (p.1 ∷ []) at p.0 (ap (slice_get (nodes ts ++ p.0 ∷ [])) (sym n) ∙ got_next (nodes ts) p.0) in
    let m : length (nodes ts ++ p.0 ∷ []) ≡ at + 1 = length-append (nodes ts) (p.0 ∷ []) ∙ ap (λ k. k + 1) n in
    let right : slice_get (nodes vs) (at + 1) ≡ Some p.1 =
    ap (λ z. slice_get z (at + 1)) now ∙ ap (slice_get ((nodes ts ++ p.0 ∷ []) ++ p.1 ∷ [])) (sym m) ∙ got_next (nodes ts ++ p.0 ∷ []) p.1 in
    let keep : (j : ℕ) (t : T) → slice_get (nodes ts) j ≡ Some t → slice_get (nodes vs) j ≡ Some t =
    λ j t e. ap (λ z. slice_get z j) now ∙ got_front (nodes ts ++ p.0 ∷ []) (p.1 ∷ []) j t (got_front (nodes ts) (p.0 ∷ []) j t e) in
    let P : ℕ × ℕ → T × T → Type 0 = λ e q. (slice_get (nodes ts) e.0 ≡ Some q.0) × (slice_get (nodes ts) e.1 ≡ Some q.1) in
    let Q : ℕ × ℕ → T × T → Type 0 = λ e q. (slice_get (nodes vs) e.0 ≡ Some q.0) × (slice_get (nodes vs) e.1 ≡ Some q.1) in
    let old : AllZip Q es (take i ps) = AllZip_then P Q (λ e q z. (keep e.0 q.0 z.0, keep e.1 q.1 z.1)) es (take i ps) was in
    let new : AllZip Q (es ++ (at, at + 1) ∷ []) (take i ps ++ p ∷ []) = AllZip_push Q es (take i ps) (at, at + 1) p old (left, right) in
    subst (λ z. AllZip Q z (take (i + 1) ps)) (sym more) (subst (λ z. AllZip Q (es ++ (at, at + 1) ∷ []) z) (sym (take_more ps i p item)) new)

-- one part more
pub part_added : {T : Type 0} (ts us : List (Bor T)) (old ks : List T) (i : ℕ) (p : Bor T)
    → nodes ts ≡ old ++ take i ks → us ≡ ts ++ p ∷ [] → slice_get ks i ≡ Some p.now → nodes us ≡ old ++ take (i + 1) ks
part_added {T} ts us old ks i p was more item =
    ap nodes more ∙ map-append (λ (t : Bor T). t.now) ts (p ∷ []) ∙ ap (λ z. z ++ p.now ∷ []) was
    ∙ append_assoc old (take i ks) (p.now ∷ []) ∙ ap (λ z. old ++ z) (sym (take_more ks i p.now item))

-- one node more has its parts
module _ {T : Type 0} (A : Ghosts T) where
  pub parts_added : (ts us : List T) (fs gs : List ℕ) (i : ℕ) (t : T)
      → PartsFollow A ts fs i → length fs ≡ i → gs ≡ fs ++ length ts ∷ [] → slice_get ts i ≡ Some t
      → us ≡ ts ++ A.kids t → PartsFollow A us gs (i + 1)
  parts_added ts us fs gs i t was n more here new j k s u below at kid =
      let within : i < length ts = slice_get_within ts i t here in
      let inside : j < length ts = omega arith in
      let old : slice_get ts j ≡ Some s = got_front_back ts (A.kids t) j s inside (ap (λ z. slice_get z j) (sym new) ∙ at) in
      elim (less_or_same j i below) [
        | inl lt ↦
            let short : j < length fs = omega arith in
            let start : slice_index gs j ≡ slice_index fs j = ap (λ z. slice_index z j) more ∙ get_or-append fs (length ts ∷ []) 0 j short in
            ap (λ z. slice_get us (z + k)) start ∙ ap (λ z. slice_get z (slice_index fs j + k)) new
            ∙ got_front ts (A.kids t) (slice_index fs j + k) u (was j k s u lt old kid)
        | inr eq ↦
            let is : s ≡ t = same_item ts i s t (ap (slice_get ts) (sym eq) ∙ old) here in
            let start : slice_index gs j ≡ length ts =
            ap (slice_index gs) (eq ∙ sym n) ∙ ap (λ z. slice_index z (length fs)) more
            ∙ get_or_from_slice_get (fs ++ length ts ∷ []) (length fs) (length ts) 0 (got_next fs (length ts)) in
            ap (λ z. slice_get us (z + k)) start ∙ ap (λ z. slice_get z (length ts + k)) new
            ∙ got_back ts (A.kids t) k ∙ ap (λ z. slice_get (A.kids z) k) (sym is) ∙ kid
      ]

  -- the terms of the nodes that are still to be looked at get smaller
  pub rest_smaller : (ts us : List T) (i : ℕ) (t : T) → A.size t ≡ 1 + total A.size (A.kids t) → slice_get ts i ≡ Some t → us ≡ ts ++ A.kids t
      → total A.size (drop (i + 1) us) < total A.size (drop i ts)
  rest_smaller ts us i t law here new =
      let within : i < length ts = slice_get_within ts i t here in
      let some : i + 1 ≤ length ts = omega arith in
      let a : total A.size (drop (i + 1) us) ≡ total A.size (drop (i + 1) ts) + total A.size (A.kids t) =
      ap (λ z. total A.size (drop (i + 1) z)) new ∙ total_drop-append A.size ts (A.kids t) (i + 1) some in
      omega (arith, a, law, total-drop A.size ts i t here)

-- a node by a reference to its term
pub node_at : {T : Type 0} (ts : List (Bor T)) (i : ℕ) (b : Bor T) → i < length ts → b ≡ get_or ts i b → slice_get (nodes ts) i ≡ Some b.now
node_at {T} ts i b within is =
    slice_get-map (λ (t : Bor T). t.now) ts i ∙ ap (option_map (λ (t : Bor T). t.now)) (slice_get-get_or ts i b within ∙ ap Some (sym is))

pub number_at : (xs : List ℕ) (i x : ℕ) → i < length xs → x ≡ get_or xs i x → x ≡ slice_index xs i
number_at xs i x h e = e ∙ get_or_default_zero xs i x h

pub keeps_more : {T : Type 0} (old ts us ks : List T) → Keeps old ts → us ≡ ts ++ ks → Keeps old us
keeps_more old ts us ks was new i t e = ap (λ z. slice_get z i) new ∙ got_front ts ks i t (was i t e)

pub longer : {X : Type 0} (xs ys : List X) (x : X) (n : ℕ) → length xs ≡ n → ys ≡ xs ++ x ∷ [] → length ys ≡ n + 1
longer xs ys x n e new = ap length new ∙ length-append xs (x ∷ []) ∙ ap (λ k. k + 1) e

-- ---- one value for all nodes of a variable

-- the equations so far: f is what is known of the first node of each variable
pub record Joining {T : Type 0} (A : Ghosts T) (ts : List T) (old new : List (ℕ × ℕ)) (most : ℕ) (f : ℕ → Option ℕ) : Type 0 where
  pub within : AreWithin (length ts) old → AreWithin (length ts) new
  pub sound : (by : ℕ → Option T) → Solves (value A ts by) old → Solves (value A ts by) new
  pub kept : (by : ℕ → Option T) → Solves (value A ts by) new → Solves (value A ts by) old
  pub known : (x i : ℕ) → f x ≡ Some i → (i < most) × ((t : T) × (slice_get ts i ≡ Some t) × (A.var_of t ≡ Some x))
  pub met : (h : ℕ → ℕ) → Solves h new → (i x : ℕ) (t : T) → i < most → slice_get ts i ≡ Some t → A.var_of t ≡ Some x → (j : ℕ) × (f x ≡ Some j) × (h i ≡ h j)

pub solves-append : {X : Type 0} (h : ℕ → X) (es : List (ℕ × ℕ)) (e : ℕ × ℕ) → Solves h es → h e.0 ≡ h e.1 → Solves h (es ++ e ∷ [])
solves-append h [] e z p = (p, tt)
solves-append h (d ∷ es) e z p = (z.0, solves-append h es e z.1 p)

pub solves_front : {X : Type 0} (h : ℕ → X) (es : List (ℕ × ℕ)) (e : ℕ × ℕ) → Solves h (es ++ e ∷ []) → Solves h es
solves_front h [] e z = tt
solves_front h (d ∷ es) e z = (z.0, solves_front h es e z.1)

pub solves_last : {X : Type 0} (h : ℕ → X) (es : List (ℕ × ℕ)) (e : ℕ × ℕ) → Solves h (es ++ e ∷ []) → h e.0 ≡ h e.1
solves_last h [] e z = z.0
solves_last h (d ∷ es) e z = solves_last h es e z.1

pub within-append : (n : ℕ) (es : List (ℕ × ℕ)) (e : ℕ × ℕ) → AreWithin n es → e.0 < n → e.1 < n → AreWithin n (es ++ e ∷ [])
within-append n [] e z p q = (p, q, tt)
within-append n (d ∷ es) e z p q = (z.0, z.1, within-append n es e z.2 p q)

pub within_front : (n : ℕ) (es : List (ℕ × ℕ)) (e : ℕ × ℕ) → AreWithin n (es ++ e ∷ []) → AreWithin n es
within_front n [] e z = tt
within_front n (d ∷ es) e z = (z.0, z.1, within_front n es e z.2)

pub within_last : (n : ℕ) (es : List (ℕ × ℕ)) (e : ℕ × ℕ) → AreWithin n (es ++ e ∷ []) → (e.0 < n) × (e.1 < n)
within_last n [] e z = (z.0, z.1)
within_last n (d ∷ es) e z = within_last n es e z.2

module _ {T : Type 0} (A : Ghosts T) (L : Laws A) (ts : List T) (old : List (ℕ × ℕ)) where
  pub joining_starts : (f : ℕ → Option ℕ) → ((x : ℕ) → f x ≡ None) → Joining A ts old old 0 f
  joining_starts f none = record {
    within = λ w. w;
    sound = λ by z. z;
    kept = λ by z. z;
    known = λ x i e. let n = none x in absurd (cc);
    met = λ h z i x t below at is. absurd (omega arith);
  }

  -- a node that is no variable
  pub joining_other : (new : List (ℕ × ℕ)) (i : ℕ) (f : ℕ → Option ℕ) (t : T) → slice_get ts i ≡ Some t → A.var_of t ≡ None → Joining A ts old new i f → Joining A ts old new (i + 1) f
  joining_other new i f t at is J = record {
    within = J.within;
    sound = J.sound;
    kept = J.kept;
    known = λ x k e. let r = J.known x k e in (omega (arith, r.0), r.1);
    met = λ h z k x s below here var. elim (less_or_same k i below) [
      | inl lt ↦ J.met h z k x s lt here var
      | inr eq ↦ let d : s ≡ t = same_item ts i s t (ap (slice_get ts) (sym eq) ∙ here) at in let e : A.var_of s ≡ A.var_of t = ap A.var_of d in absurd (cc)
    ];
  }

  -- a variable that was met before, at node j
  pub joining_again : (new more : List (ℕ × ℕ)) (i x j : ℕ) (f : ℕ → Option ℕ) (t : T) → slice_get ts i ≡ Some t → A.var_of t ≡ Some x → f x ≡ Some j
      → more ≡ new ++ (j, i) ∷ [] → Joining A ts old new i f → Joining A ts old more (i + 1) f
  joining_again new more i x j f t at is seen grown J =
      let r = J.known x j seen in
      let s = r.1.0 in
      let same : s ≡ t = L.var_same s t x r.1.2 is in
      let inside = slice_get_within ts i t at in
      let inside' = slice_get_within ts j s r.1.1 in
      record {
        within = λ w. subst (AreWithin (length ts)) (sym grown) (within-append (length ts) new (j, i) (J.within w) inside' inside);
        sound = λ by z. subst (Solves (value A ts by)) (sym grown) (solves-append (value A ts by) new (j, i) (J.sound by z) (ap (option_map (A.apply by)) (r.1.1 ∙ ap Some same ∙ sym at)));
        kept = λ by z. J.kept by (solves_front (value A ts by) new (j, i) (subst (Solves (value A ts by)) grown z));
        known = λ y k e. let q = J.known y k e in (omega (arith, q.0), q.1);
        met = λ h z k y u below here var.
            let z' : Solves h (new ++ (j, i) ∷ []) = subst (Solves h) grown z in
            elim (less_or_same k i below) [
              | inl lt ↦ J.met h (solves_front h new (j, i) z') k y u lt here var
              | inr eq ↦
                  let d : u ≡ t = same_item ts i u t (ap (slice_get ts) (sym eq) ∙ here) at in
                  let e : A.var_of u ≡ A.var_of t = ap A.var_of d in
                  let xy : x ≡ y = cc in
                  let last : h j ≡ h i = solves_last h new (j, i) z' in
                  (j, ap f (sym xy) ∙ seen, ap h eq ∙ sym last)
            ];
      }

  -- a variable that is met for the first time
  pub joining_first : (new : List (ℕ × ℕ)) (i x : ℕ) (f k : ℕ → Option ℕ) (t : T) → slice_get ts i ≡ Some t → A.var_of t ≡ Some x → f x ≡ None
      → k x ≡ Some i → ((y : ℕ) → y ≢ x → k y ≡ f y) → Joining A ts old new i f → Joining A ts old new (i + 1) k
  joining_first new i x f k t at is unseen here others J = record {
    within = J.within;
    sound = J.sound;
    kept = J.kept;
    known = λ y m e. elim (same_or_not y x) [
      | inl same ↦ let mi : m ≡ i = (let a : k y ≡ k x = ap k same in cc) in (omega (arith, mi), (t, ap (slice_get ts) mi ∙ at, is ∙ ap Some (sym same)))
      | inr apart ↦ let r = J.known y m (sym (others y apart) ∙ e) in (omega (arith, r.0), r.1)
    ];
    met = λ h z m y u below there var. elim (same_or_not y x) [
      | inl same ↦ elim (less_or_same m i below) [
        | inl lt ↦ let r = J.met h z m y u lt there var in let a : f y ≡ f x = ap f same in absurd (let b = r.1 in cc)
        | inr eq ↦ (i, ap k same ∙ here, ap h eq)
      ]
      | inr apart ↦ elim (less_or_same m i below) [
        | inl lt ↦ let r = J.met h z m y u lt there var in (r.0, others y apart ∙ r.1, r.2)
        | inr eq ↦
            let d : u ≡ t = same_item ts i u t (ap (slice_get ts) (sym eq) ∙ there) at in
            let e : A.var_of u ≡ A.var_of t = ap A.var_of d in
            let xy : y ≡ x = cc in absurd (apart xy)
      ]
    ];
  }

  pub joined : (new : List (ℕ × ℕ)) (n : ℕ) (f : ℕ → Option ℕ) → Joining A ts old new n f → (h : ℕ → ℕ) → Solves h new → JoinsVariables A ts n h
  joined new n f J h z i j s t x bi bj at at' is is' =
      let p = J.met h z i x s bi at is in
      let q = J.met h z j x t bj at' is' in
      let same : p.0 ≡ q.0 = (let a = p.1 in let b = q.1 in cc) in
      p.2 ∙ ap h same ∙ sym q.2

pub apart_cmp : (x y : ℕ) → y ≢ x → is_at (nat_cmp x) y ≡ false
apart_cmp x y apart = grind (arith, common_steps)

-- ---- the equations of the pairs

pub pose_kept : {T : Type 0} (old new : List T) (es : List (ℕ × ℕ)) (ps : List (T × T)) → Keeps old new → Pose old es ps → Pose new es ps
pose_kept {T} old new es ps kept z =
    let P : ℕ × ℕ → T × T → Type 0 = λ e q. (slice_get old e.0 ≡ Some q.0) × (slice_get old e.1 ≡ Some q.1) in
    let Q : ℕ × ℕ → T × T → Type 0 = λ e q. (slice_get new e.0 ≡ Some q.0) × (slice_get new e.1 ≡ Some q.1) in
    AllZip_then P Q (λ e q y. (kept e.0 q.0 y.0, kept e.1 q.1 y.1)) es ps z

pub pose_within : {T : Type 0} (ts : List T) (es : List (ℕ × ℕ)) (ps : List (T × T)) → Pose ts es ps → AreWithin (length ts) es
pose_within ts [] ps z = tt
pose_within ts (e ∷ es) [] z = absurd z
pose_within ts (e ∷ es) (p ∷ ps) z = (slice_get_within ts e.0 p.0 z.0.0, slice_get_within ts e.1 p.1 z.0.1, pose_within ts es ps z.1)

module _ {T : Type 0} (A : Ghosts T) (ts : List T) (by : ℕ → Option T) where
  abbrev One : T × T → Type 0
  One p = A.apply by p.0 ≡ A.apply by p.1

  pub pose_sound : (es : List (ℕ × ℕ)) (ps : List (T × T)) → Pose ts es ps → Unifies A by ps → Solves (value A ts by) es
  pose_sound [] ps z u = tt
  pose_sound (e ∷ es) [] z u = absurd z
  pose_sound (e ∷ es) (p ∷ ps) z u =
      (ap (option_map (A.apply by)) z.0.0 ∙ ap Some (All-head One p ps u) ∙ sym (ap (option_map (A.apply by)) z.0.1), pose_sound es ps z.1 (All-tail One p ps u))

  pub pose_back : (es : List (ℕ × ℕ)) (ps : List (T × T)) → Pose ts es ps → Solves (value A ts by) es → Unifies A by ps
  pose_back [] [] z u = All-nil One
  pose_back [] (p ∷ ps) z u = absurd z
  pose_back (e ∷ es) [] z u = absurd z
  pose_back (e ∷ es) (p ∷ ps) z u =
      let same : Some (A.apply by p.0) ≡ Some (A.apply by p.1) = sym (ap (option_map (A.apply by)) z.0.0) ∙ u.0 ∙ ap (option_map (A.apply by)) z.0.1 in
      let one : A.apply by p.0 ≡ A.apply by p.1 = cc in
      All-cons One p ps one (pose_back es ps z.1 u.1)
