use Rattle.std.proofs.Common.{◌≡◌, ◌≢◌, ℕ, zero, suc, ◌+◌, ◌<◌, ◌≤◌, List, [], ◌∷◌, ◌++◌, Option, Some, None, inl, inr, length, set, map, refl, ap, sym, ◌∙◌, subst, arith, Vec, Global}
use Rattle.std.specs.Prelude.{unwrap_or, ◌==◌, if◌then◌else◌}
use Rattle.std.specs.List.{slice_get, slice_index}
use Rattle.std.specs.Option.{option_map}
use Rattle.std.proofs.lemmas.List.{length-set, length-map}
use Rattle.std.proofs.lemmas.Bool.Decides.{eqb_tells}
use Rattle.std.proofs.lemmas.Option.{slice_get_within, slice_get-map}
use Rattle.term_unify.specs.Terms.{first}
use Rattle.term_unify.specs.Graph.{IsGraph, AreClasses, JoinsVariables}
use Rattle.term_unify.specs.Order.{IsWalk}
use Rattle.term_unify.specs.Binding.{AreGroups, IsBinding, IsHandled}
use Rattle.term_unify.specs.declared.laws.Term.{Ghosts}
use Rattle.term_unify.proofs.Algebra.{Laws}
use Rattle.term_unify.proofs.Lists.{same_or_not, less_or_same, same_item, got_some, got_front, got_cases, got_next, got_set_here, got_set_other, total_at, same_list}

module _ {T : Type 0} (A : Ghosts T) (L : Laws A) (ts : List T) (cls : List ℕ) where
  pub groups_other : (n : ℕ) (gs : List (Vec ℕ Global)) (t : T) → slice_get ts n ≡ Some t → A.var_of t ≡ None → AreGroups A ts cls n gs → AreGroups A ts cls (n + 1) gs
  groups_other n gs t at none R = record {
    all = R.all;
    known = R.known;
    whole = λ i x u b at' var. elim (less_or_same i n b) [
      | inl lt ↦ R.whole i x u lt at' var
      | inr eq ↦ let d : u ≡ t = same_item ts n u t (ap (slice_get ts) (sym eq) ∙ at') at in let e = ap A.var_of d in absurd (cc)
    ];
  }

  pub groups_more : (n x : ℕ) (gs gs' : List (Vec ℕ Global)) (v v' : Vec ℕ Global) (t : T) → slice_get ts n ≡ Some t → A.var_of t ≡ Some x
      → slice_get gs (slice_index cls n) ≡ Some v → gs' ≡ set gs (slice_index cls n) v' → v'.items ≡ v.items ++ n ∷ [] → AreGroups A ts cls n gs → AreGroups A ts cls (n + 1) gs'
  groups_more n x gs gs' v v' t at var old new more R =
      let c0 = slice_index cls n in
      let h = slice_get_within gs c0 v old in
      let here : slice_get gs' c0 ≡ Some v' = ap (λ z. slice_get z c0) new ∙ got_set_here gs c0 v' h in
      let there : (c : ℕ) → c ≢ c0 → slice_get gs' c ≡ slice_get gs c = λ c d. ap (λ z. slice_get z c) new ∙ got_set_other gs c0 c v' d in
      record {
        all = ap length new ∙ length-set gs c0 v' ∙ R.all;
        known = λ c k i g at-g at-i. elim (same_or_not c c0) [
          | inl e ↦
              let d : g ≡ v' = same_item gs' c0 g v' (ap (slice_get gs') (sym e) ∙ at-g) here in
              elim (got_cases v.items n k i (ap (λ z. slice_get z k) (sym more) ∙ ap (λ z. slice_get z.items k) (sym d) ∙ at-i)) [
                | inl o ↦ R.known c k i v (ap (slice_get gs) e ∙ old) o
                | inr l ↦ (ap (slice_index cls) l.1 ∙ sym e, (t, x, ap (slice_get ts) l.1 ∙ at, var))
              ]
          | inr d ↦ R.known c k i g (sym (there c d) ∙ at-g) at-i
        ];
        whole = λ i y u b at' var'. elim (less_or_same i n b) [
          | inl lt ↦
              let r = R.whole i y u lt at' var' in
              elim (same_or_not (slice_index cls i) c0) [
                | inl e ↦
                    let d : r.0 ≡ v = same_item gs c0 r.0 v (ap (slice_get gs) (sym e) ∙ r.2) old in
                    (v', r.1, ap (slice_get gs') e ∙ here, ap (λ z. slice_get z r.1) more ∙ got_front v.items (n ∷ []) r.1 i (ap (λ z. slice_get z.items r.1) (sym d) ∙ r.3))
                | inr d ↦ (r.0, r.1, there (slice_index cls i) d ∙ r.2, r.3)
              ]
          | inr eq ↦ (v', length v.items, ap (λ m. slice_get gs' (slice_index cls m)) eq ∙ here, ap (λ z. slice_get z (length v.items)) more ∙ got_next v.items n ∙ ap Some (sym eq))
        ];
      }

-- ---- the entries of one class

-- what listing the first nodes of a class does
abbrev pub Binds : {T : Type 0} → Ghosts T → List T → List ℕ → ℕ → List ℕ → ℕ → List (ℕ × T) → List (ℕ × T) → Type 0
Binds {T} A ts firsts root group n old new =
    (cls sizes order : List ℕ) (p : ℕ) → AreClasses A ts firsts cls → JoinsVariables A ts (length ts) (slice_index cls) → IsGraph A ts firsts → IsWalk A ts firsts cls sizes order →
    slice_get order p ≡ Some root → ((k i : ℕ) → slice_get group k ≡ Some i → slice_index cls i ≡ root) → IsBinding A ts cls order p old →
    IsBinding A ts cls order p new × ((k i x : ℕ) (t s : T) → k < n → slice_get group k ≡ Some i → slice_get ts i ≡ Some t → A.var_of t ≡ Some x → slice_get ts root ≡ Some s → IsHandled A new x s)

-- an entry more
pub first_more : {T : Type 0} (list : List (ℕ × T)) (y : ℕ) (v : T) (x : ℕ) → x ≢ y → first (list ++ (y, v) ∷ []) x ≡ first list x
first_more [] y v x apart =
    elim (eqb_tells y x) [ inl t ↦ absurd (apart (sym t.1)) | inr f ↦ ap (λ b. if b then Some v else None) f.0 ]
first_more (e ∷ list) y v x apart = ap (λ z. if e.0 == x then Some e.1 else z) (first_more list y v x apart)

pub first_new : {T : Type 0} (list : List (ℕ × T)) (y : ℕ) (v : T) → first list y ≡ None → first (list ++ (y, v) ∷ []) y ≡ Some v
first_new [] y v none = elim (eqb_tells y y) [ inl t ↦ ap (λ b. if b then Some v else None) t.0 | inr f ↦ absurd (f.1 refl) ]
first_new (e ∷ list) y v none =
    elim (eqb_tells e.0 y) [
      | inl t ↦ let a : Some e.1 ≡ None = sym (ap (λ b. if b then Some e.1 else first list y) t.0) ∙ none in absurd (cc)
      | inr f ↦
          let rest : first list y ≡ None = sym (ap (λ b. if b then Some e.1 else first list y) f.0) ∙ none in
          ap (λ b. if b then Some e.1 else first (list ++ (y, v) ∷ []) y) f.0 ∙ first_new list y v rest
    ]

-- a listed variable has an entry
pub first_listed : {T : Type 0} (list : List (ℕ × T)) (k : ℕ) (e : ℕ × T) → slice_get list k ≡ Some e → first list e.0 ≡ None → ⊥
first_listed [] k e at none = cc
first_listed (d ∷ list) zero e at none =
    elim (eqb_tells d.0 e.0) [
      | inl t ↦ let a : Some d.1 ≡ None = sym (ap (λ b. if b then Some d.1 else first list e.0) t.0) ∙ none in cc
      | inr f ↦ let same : d ≡ e = cc in f.1 (ap (λ z. z.0) same)
    ]
first_listed (d ∷ list) (suc k) e at none =
    elim (eqb_tells d.0 e.0) [
      | inl t ↦ let a : Some d.1 ≡ None = sym (ap (λ b. if b then Some d.1 else first list e.0) t.0) ∙ none in cc
      | inr f ↦ first_listed list k e at (sym (ap (λ b. if b then Some d.1 else first list e.0) f.0) ∙ none)
    ]

module _ {T : Type 0} (A : Ghosts T) (L : Laws A) (ts : List T) (firsts cls sizes order : List ℕ)
    (K : AreClasses A ts firsts cls) (J : JoinsVariables A ts (length ts) (slice_index cls)) (G : IsGraph A ts firsts) (W : IsWalk A ts firsts cls sizes order) where
  -- two substitutions that agree on all variables but one
  abbrev Agree : ℕ → (ℕ → Option T) → (ℕ → Option T) → Type 0
  Agree y by by' = (x : ℕ) → x ≢ y → by x ≡ by' x

  module _ (y : ℕ) (by by' : ℕ → Option T) (same-by : Agree y by by') where
    kids_same : (t : T) → A.var_of t ≡ None → ((n : ℕ) (u : T) → slice_get (A.kids t) n ≡ Some u → A.apply by u ≡ A.apply by' u) → A.apply by t ≡ A.apply by' t
    kids_same t none each =
        let ks : A.kids (A.apply by t) ≡ A.kids (A.apply by' t) =
        L.apply_kids by t none
        ∙ same_list (map (A.apply by) (A.kids t)) (map (A.apply by') (A.kids t)) (length-map (A.kids t) (A.apply by) ∙ sym (length-map (A.kids t) (A.apply by')))
        (λ i a b e f.
        let h : i < length (A.kids t) = (let z = slice_get_within (map (A.apply by) (A.kids t)) i a e in let n = length-map (A.kids t) (A.apply by) in omega (arith, z, n)) in
        let u = got_some (A.kids t) i h in
        let ea : Some (A.apply by u.0) ≡ Some a = sym (slice_get-map (A.apply by) (A.kids t) i ∙ ap (option_map (A.apply by)) u.1) ∙ e in
        let eb : Some (A.apply by' u.0) ≡ Some b = sym (slice_get-map (A.apply by') (A.kids t) i ∙ ap (option_map (A.apply by')) u.1) ∙ f in
        let ab = each i u.0 u.1 in cc)
        ∙ sym (L.apply_kids by' t none) in
        L.alike_same (A.apply by t) (A.apply by' t)
        (L.alike_along (A.apply by t) t (A.apply by' t) (L.apply_alike by t none) (L.alike_back (A.apply by' t) t (L.apply_alike by' t none))) ks

    -- the variable y is of a class at place m: no term of an earlier class holds it
    module _ (m : ℕ) (earlier : (i x q : ℕ) (t : T) → slice_get ts i ≡ Some t → A.var_of t ≡ Some x → q < m → slice_get order q ≡ Some (slice_index cls i) → x ≢ y) where
      lacks : (fuel i q : ℕ) (t : T) → A.size t < fuel → slice_get ts i ≡ Some t → q < m → slice_get order q ≡ Some (slice_index cls i) → A.apply by t ≡ A.apply by' t
      lacks zero i q t small at before place = absurd (omega arith)
      lacks (suc fuel) i q t small at before place = go (λ i' q' u. lacks fuel i' q' u) (A.var_of t) refl
        where
          go : ((i' q' : ℕ) (u : T) → A.size u < fuel → slice_get ts i' ≡ Some u → q' < m → slice_get order q' ≡ Some (slice_index cls i') → A.apply by u ≡ A.apply by' u)
              → (o : Option ℕ) → A.var_of t ≡ o → A.apply by t ≡ A.apply by' t
          go below (Some x) e = L.apply_var by t x e ∙ ap (λ o. unwrap_or o t) (same-by x (earlier i x q t at e before place)) ∙ sym (L.apply_var by' t x e)
          go below None e =
              kids_same t e (λ n u kid.
              let h = slice_get_within (A.kids t) n u kid in
              let s = L.size_is t in
              let z = total_at A.size (A.kids t) n u kid in
              let here = G.parts i n t u (slice_get_within ts i t at) at kid in
              let root = K.heads i t at e in
              let k = L.alike_kids t root.0 root.3 in
              let q' = W.parts q (slice_index cls i) n root.0 place root.1 (omega (arith, k, h)) in
              below (slice_index firsts i + n) q'.0 u (omega (arith, s, z, small)) here (omega (arith, q'.1, before)) (q'.2 ∙ ap Some (sym (K.parts i n t at e h))))

      -- nor does the class's own term, where it is not y itself
      pub lacks_root : (q r : ℕ) (s : T) → slice_get ts r ≡ Some s → q ≤ m → slice_get order q ≡ Some r → A.var_of s ≢ Some y → A.apply by s ≡ A.apply by' s
      lacks_root q r s at before place other = go (A.var_of s) refl
        where
          go : (o : Option ℕ) → A.var_of s ≡ o → A.apply by s ≡ A.apply by' s
          go (Some x) e = L.apply_var by s x e ∙ ap (λ o. unwrap_or o s) (same-by x (λ d. other (e ∙ ap Some d))) ∙ sym (L.apply_var by' s x e)
          go None e =
              kids_same s e (λ n u kid.
              let h = slice_get_within (A.kids s) n u kid in
              let here = G.parts r n s u (slice_get_within ts r s at) at kid in
              let q' = W.parts q r n s place at h in
              lacks (suc (A.size u)) (slice_index firsts r + n) q'.0 u (omega arith) here (omega (arith, q'.1, before)) q'.2)

  -- one entry more: a variable of the class at place p that has none
  module _ (p root : ℕ) (place : slice_get order p ≡ Some root) (old : List (ℕ × T)) (B : IsBinding A ts cls order p old)
      (i x : ℕ) (t s : T) (at : slice_get ts i ≡ Some t) (var : A.var_of t ≡ Some x) (mine : slice_index cls i ≡ root) (at-s : slice_get ts root ≡ Some s)
      (none : first old x ≡ None) (other : A.var_of s ≢ Some x) (new : List (ℕ × T)) (more : new ≡ old ++ (x, A.apply (first old) s) ∷ []) where
    agree : Agree x (first old) (first new)
    agree y apart = sym (ap (λ z. first z y) more ∙ first_more old x (A.apply (first old) s) y apart)

    -- no variable of an earlier class is this one
    earlier : (j y q : ℕ) (u : T) → slice_get ts j ≡ Some u → A.var_of u ≡ Some y → q < p → slice_get order q ≡ Some (slice_index cls j) → y ≢ x
    earlier j y q u at-u var-u before place-u same =
        let c : slice_index cls j ≡ slice_index cls i = J j i u t x (slice_get_within ts j u at-u) (slice_get_within ts i t at) at-u at (var-u ∙ ap Some same) var in
        let e : slice_get order q ≡ Some root = place-u ∙ ap Some (c ∙ mine) in
        let qp = W.once q p root e place in
        omega (arith, qp, before)

    stays : (q r : ℕ) (u : T) → slice_get ts r ≡ Some u → q ≤ p → slice_get order q ≡ Some r → A.var_of u ≢ Some x → A.apply (first old) u ≡ A.apply (first new) u
    stays = lacks_root x (first old) (first new) agree p earlier

    here : first new x ≡ Some (A.apply (first new) s)
    here = ap (λ z. first z x) more ∙ first_new old x (A.apply (first old) s) none ∙ ap Some (stays p root s at-s (omega arith) place other)

    -- what was handled stays so
    pub still : (y q r : ℕ) (u : T) → slice_get ts r ≡ Some u → q ≤ p → slice_get order q ≡ Some r → IsHandled A old y u → (A.var_of u ≡ Some x → (q ≡ p) × (u ≡ s)) → IsHandled A new y u
    still y q r u at-u le place-u (inl own) rep = inl own
    still y q r u at-u le place-u (inr has) rep =
        let apart : y ≢ x = λ e. (let z : first old y ≡ None = ap (first old) e ∙ none in cc) in
        let free : A.var_of u ≢ Some x = λ e. other (ap A.var_of (sym (rep e).1) ∙ e) in
        inr (sym (agree y apart) ∙ has ∙ ap Some (stays q r u at-u le place-u free))

    -- a class whose own term is this variable is this class
    own_class : (q j : ℕ) (u : T) → slice_get ts (slice_index cls j) ≡ Some u → j < length ts → slice_get order q ≡ Some (slice_index cls j) → A.var_of u ≡ Some x → (q ≡ p) × (u ≡ s)
    own_class q j u at-u b place-u is =
        let r = K.within j b in
        let c : slice_index cls (slice_index cls j) ≡ slice_index cls i = J (slice_index cls j) i u t x r (slice_get_within ts i t at) at-u at is var in
        let d : slice_index cls j ≡ root = sym (K.root j b) ∙ c ∙ mine in
        (W.once q p root (place-u ∙ ap Some d) place, same_item ts root u s (ap (slice_get ts) (sym d) ∙ at-u) at-s)

    pub binding_more : IsBinding A ts cls order p new
    binding_more = record {
      handled = λ j y q u v at-u var-u at-v before place-v.
          still y q (slice_index cls j) v at-v (omega (arith, before)) place-v (B.handled j y q u v at-u var-u at-v before place-v)
          (own_class q j v at-v (slice_get_within ts j u at-u) place-v);
      free = λ j y u at-u self var-u.
          let apart : y ≢ x = λ e.
          (let c : slice_index cls j ≡ slice_index cls i = J j i u t x (slice_get_within ts j u at-u) (slice_get_within ts i t at) at-u at (var-u ∙ ap Some e) var in
          other (ap A.var_of (same_item ts root s u at-s (ap (slice_get ts) (sym (sym self ∙ c ∙ mine)) ∙ at-u)) ∙ var-u ∙ ap Some e)) in
          sym (agree y apart) ∙ B.free j y u at-u self var-u;
      listed = λ k e at-e. elim (got_cases old (x, A.apply (first old) s) k e (ap (λ z. slice_get z k) (sym more) ∙ at-e)) [
        | inl o ↦
            let r = B.listed k e o in
            let apart : A.var_of r.3 ≢ Some x = λ is. other (ap A.var_of (sym (own_class r.1 r.0 r.3 r.6 (slice_get_within ts r.0 r.2 r.4) r.8 is).1) ∙ is) in
            (r.0, r.1, r.2, r.3, r.4, r.5, r.6, r.7, r.8, r.9, r.10 ∙ stays r.1 (slice_index cls r.0) r.3 r.6 r.7 r.8 apart)
        | inr l ↦
            let x-is = ap (λ z. z.0) l.1 in (
              i,
              p,
              t,
              s,
              at,
              var ∙ ap Some (sym x-is),
              ap (slice_get ts) mine ∙ at-s,
              omega arith,
              place ∙ ap Some (sym mine),
              (λ is. other (is ∙ ap Some x-is)),
              ap (λ z. z.1) l.1 ∙ stays p root s at-s (omega arith) place other,
            )
      ];
      once = λ k l e f at-e at-f same. elim (got_cases old (x, A.apply (first old) s) k e (ap (λ z. slice_get z k) (sym more) ∙ at-e)) [
        | inl o ↦ elim (got_cases old (x, A.apply (first old) s) l f (ap (λ z. slice_get z l) (sym more) ∙ at-f)) [
          | inl o' ↦ B.once k l e f o o' same
          | inr n' ↦ absurd (first_listed old k e o (ap (first old) (same ∙ ap (λ z. z.0) n'.1) ∙ none))
        ]
        | inr n ↦ elim (got_cases old (x, A.apply (first old) s) l f (ap (λ z. slice_get z l) (sym more) ∙ at-f)) [
          | inl o' ↦ absurd (first_listed old l f o' (ap (first old) (sym same ∙ ap (λ z. z.0) n.1) ∙ none))
          | inr n' ↦ n.0 ∙ sym n'.0
        ]
      ];
    }

    pub now_handled : IsHandled A new x s
    now_handled = inr here

pub first_entry : {T : Type 0} (list : List (ℕ × T)) (x : ℕ) (u : T) → first list x ≡ Some u → (k : ℕ) × (e : ℕ × T) × (slice_get list k ≡ Some e) × (e.0 ≡ x) × (e.1 ≡ u)
first_entry [] x u is = absurd (cc)
first_entry (d ∷ list) x u is =
    elim (eqb_tells d.0 x) [
      | inl t ↦ let a : Some d.1 ≡ Some u = sym (ap (λ b. if b then Some d.1 else first list x) t.0) ∙ is in let b : d.1 ≡ u = cc in (0, d, refl, t.1, b)
      | inr f ↦ let r = first_entry list x u (sym (ap (λ b. if b then Some d.1 else first list x) f.0) ∙ is) in (suc r.0, r.1, r.2, r.3, r.4)
    ]

module _ {T : Type 0} (A : Ghosts T) (L : Laws A) (ts : List T) (firsts : List ℕ) (root : ℕ) (group : List ℕ) where
  pub binds_starts : (old : List (ℕ × T)) → Binds A ts firsts root group 0 old old
  binds_starts old cls sizes order p K J G W place mine B = (B, λ k i x t s below at-k at var at-s. absurd (omega arith))

  -- a node whose variable needs no entry any more
  pub binds_kept : (n i : ℕ) (old cur : List (ℕ × T)) → slice_get group n ≡ Some i
      → ((cls sizes order : List ℕ) (p : ℕ) → AreClasses A ts firsts cls → JoinsVariables A ts (length ts) (slice_index cls) → slice_index cls i ≡ root → IsBinding A ts cls order p cur
      → (x : ℕ) (t s : T) → slice_get ts i ≡ Some t → A.var_of t ≡ Some x → slice_get ts root ≡ Some s → IsHandled A cur x s)
      → Binds A ts firsts root group n old cur → Binds A ts firsts root group (n + 1) old cur
  binds_kept n i old cur item now prev cls sizes order p K J G W place mine B =
      let r = prev cls sizes order p K J G W place mine B in (
        r.0,
        λ k j x t s below at-k at var at-s.
            elim (less_or_same k n below) [
              | inl lt ↦ r.1 k j x t s lt at-k at var at-s
              | inr eq ↦
                  let same : j ≡ i = same_item group n j i (ap (slice_get group) (sym eq) ∙ at-k) item in
                  now cls sizes order p K J (mine n i item) r.0 x t s (ap (slice_get ts) (sym same) ∙ at) var at-s
            ],
      )

  pub binds_other : (n i : ℕ) (old cur : List (ℕ × T)) (t : T) → slice_get group n ≡ Some i → slice_get ts i ≡ Some t → A.var_of t ≡ None
      → Binds A ts firsts root group n old cur → Binds A ts firsts root group (n + 1) old cur
  binds_other n i old cur t item at none =
      binds_kept n i old cur item (λ cls sizes order p K J mine B x u s at-u var at-s. (let e = ap A.var_of (same_item ts i u t at-u at) in absurd (cc)))

  pub binds_own : (n i x : ℕ) (old cur : List (ℕ × T)) (t s : T) → slice_get group n ≡ Some i → slice_get ts i ≡ Some t → A.var_of t ≡ Some x → slice_get ts root ≡ Some s → A.var_of s ≡ Some x
      → Binds A ts firsts root group n old cur → Binds A ts firsts root group (n + 1) old cur
  binds_own n i x old cur t s item at var at-s own =
      binds_kept n i old cur item (λ cls sizes order p K J mine B y u v at-u var-u at-v.
      (let a = ap A.var_of (same_item ts i u t at-u at) in
      inl (ap A.var_of (same_item ts root v s at-v at-s) ∙ own ∙ sym var ∙ sym a ∙ var-u)))

  pub binds_listed : (n i x : ℕ) (old cur : List (ℕ × T)) (t w : T) → slice_get group n ≡ Some i → slice_get ts i ≡ Some t → A.var_of t ≡ Some x → first cur x ≡ Some w
      → Binds A ts firsts root group n old cur → Binds A ts firsts root group (n + 1) old cur
  binds_listed n i x old cur t w item at var has =
      binds_kept n i old cur item (λ cls sizes order p K J mine B y u v at-u var-u at-v.
      (let same : Some y ≡ Some x = sym var-u ∙ ap A.var_of (same_item ts i u t at-u at) ∙ var in
      let yx : y ≡ x = cc in
      let f = first_entry cur x w has in
      let r = B.listed f.0 f.1 f.2 in
      let c : slice_index cls r.0 ≡ slice_index cls i = J r.0 i r.2 t x (slice_get_within ts r.0 r.2 r.4) (slice_get_within ts i t at) r.4 at (r.5 ∙ ap Some f.3) var in
      let d : r.3 ≡ v = same_item ts root r.3 v (ap (slice_get ts) (sym (c ∙ mine)) ∙ r.6) at-v in
      inr (ap (first cur) yx ∙ has ∙ ap Some (sym f.4 ∙ r.10 ∙ ap (A.apply (first cur)) d))))

  pub binds_added : (n i x : ℕ) (old cur new : List (ℕ × T)) (t s : T) → slice_get group n ≡ Some i → slice_get ts i ≡ Some t → A.var_of t ≡ Some x → slice_get ts root ≡ Some s
      → first cur x ≡ None → A.var_of s ≢ Some x → new ≡ cur ++ (x, A.apply (first cur) s) ∷ []
      → Binds A ts firsts root group n old cur → Binds A ts firsts root group (n + 1) old new
  binds_added n i x old cur new t s item at var at-s none other more prev cls sizes order p K J G W place mine B =
      let r = prev cls sizes order p K J G W place mine B in
      let m = mine n i item in (
        binding_more A L ts firsts cls sizes order K J G W p root place cur r.0 i x t s at var m at-s none other new more,
        λ k j y u v below at-k at-u var-u at-v.
            elim (less_or_same k n below) [
              | inl lt ↦
                  still A L ts firsts cls sizes order K J G W p root place cur r.0 i x t s at var m at-s none other new more y p root v at-v (omega arith) place
                  (r.1 k j y u v lt at-k at-u var-u at-v) (λ e. (refl, same_item ts root v s at-v at-s))
              | inr eq ↦
                  let same : j ≡ i = same_item group n j i (ap (slice_get group) (sym eq) ∙ at-k) item in
                  let ut : u ≡ t = same_item ts i u t (ap (slice_get ts) (sym same) ∙ at-u) at in
                  let yx0 : Some y ≡ Some x = sym var-u ∙ ap A.var_of ut ∙ var in
                  let yx : y ≡ x = cc in
                  let vs : v ≡ s = same_item ts root v s at-v at-s in
                  subst (λ z. IsHandled A new z v) (sym yx) (subst (IsHandled A new x) (sym vs)
                  (now_handled A L ts firsts cls sizes order K J G W p root place cur r.0 i x t s at var m at-s none other new more))
            ],
      )

-- ---- one place more

module _ {T : Type 0} (A : Ghosts T) (ts : List T) (cls order : List ℕ) where
  pub binding_starts : (list : List (ℕ × T)) → list ≡ [] → IsBinding A ts cls order 0 list
  binding_starts list none = record {
    handled = λ i x q t s at var at-s before place. absurd (omega arith);
    free = λ i x s at self var. ap (λ z. first z x) none;
    listed = λ k e at. let a : slice_get [] k ≡ Some e = ap (λ z. slice_get z k) (sym none) ∙ at in absurd (cc);
    once = λ k l e f at at' is. let a : slice_get [] k ≡ Some e = ap (λ z. slice_get z k) (sym none) ∙ at in absurd (cc);
  }

  pub binding_next : (p root : ℕ) (list : List (ℕ × T)) → slice_get order p ≡ Some root → IsBinding A ts cls order p list
      → ((i x : ℕ) (t s : T) → slice_get ts i ≡ Some t → A.var_of t ≡ Some x → slice_index cls i ≡ root → slice_get ts root ≡ Some s → IsHandled A list x s)
      → IsBinding A ts cls order (p + 1) list
  binding_next p root list place B now = record {
    handled = λ i x q t s at var at-s before place-q.
        elim (less_or_same q p before) [
          | inl lt ↦ B.handled i x q t s at var at-s lt place-q
          | inr eq ↦
              let a : Some (slice_index cls i) ≡ Some root = sym place-q ∙ ap (slice_get order) eq ∙ place in
              let c : slice_index cls i ≡ root = cc in
              now i x t s at var c (ap (slice_get ts) (sym c) ∙ at-s)
        ];
    free = B.free;
    listed = λ k e at. let r = B.listed k e at in (r.0, r.1, r.2, r.3, r.4, r.5, r.6, omega (arith, r.7), r.8, r.9, r.10);
    once = B.once;
  }
