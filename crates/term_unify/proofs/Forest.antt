use Rattle.std.proofs.Common.{◌≡◌, ◌≢◌, ℕ, ◌<◌, List, inl, inr, length, refl, ap, sym, ◌∙◌, subst, arith}
use Rattle.std.specs.List.{slice_index, slice_set}
use Rattle.std.proofs.lemmas.List.{get_or-set_same, get_or-set_other, length-set}
use Rattle.term_unify.specs.Graph.{rank, Follows, Leads, Shortened, IsForest}
use Rattle.term_unify.specs.Graph.Leads.{here, up}
use Rattle.term_unify.specs.Graph.Shortened.{same, halved}
use Rattle.term_unify.specs.declared.laws.Term.{Ghosts}
use Rattle.term_unify.proofs.Lists.{same_or_not}

pub set_here : (ps : List ℕ) (i x j : ℕ) → i < length ps → j ≡ i → slice_index (slice_set ps i x) j ≡ x
set_here ps i x j h e = ap (slice_index (slice_set ps i x)) e ∙ get_or-set_same ps i x 0 h

pub set_there : (ps : List ℕ) (i x j : ℕ) → j ≢ i → slice_index (slice_set ps i x) j ≡ slice_index ps j
set_there ps i x j apart = get_or-set_other ps i j x 0 apart

-- ---- where links lead

pub leads_along : (ps : List ℕ) {i j k : ℕ} → Leads ps i j → Leads ps j k → Leads ps i k
leads_along ps here d = d
leads_along ps (up h c) d = up h (leads_along ps c d)

pub leads_follow : {X : Type 0} (f : ℕ → X) (ps : List ℕ) → Follows f ps → {i j : ℕ} → Leads ps i j → f i ≡ f j
leads_follow f ps follows here = refl
leads_follow f ps follows (up {i} h d) = follows i h ∙ leads_follow f ps follows d

-- a root leads to itself alone
pub root_stays : (ps : List ℕ) {i j : ℕ} → slice_index ps i ≡ i → Leads ps i j → j ≡ i
root_stays ps is here = refl
root_stays ps is (up h d) = root_stays ps (ap (slice_index ps) is) d ∙ is

pub one_root : (ps : List ℕ) {i j k : ℕ} → slice_index ps j ≡ j → slice_index ps k ≡ k → Leads ps i j → Leads ps i k → j ≡ k
one_root ps rj rk here d = sym (root_stays ps rj d)
one_root ps rj rk (up h c) here = root_stays ps rk (up h c)
one_root ps rj rk (up h c) (up k d) = one_root ps rj rk c d

-- ---- a link is replaced by two

pub halved_follows : {X : Type 0} (f : ℕ → X) (ps : List ℕ) (i : ℕ) → i < length ps → slice_index ps i ≢ i
    → ((j : ℕ) → j < length ps → slice_index ps j < length ps)
    → Follows f ps → Follows f (slice_set ps i (slice_index ps (slice_index ps i)))
halved_follows f ps i h apart within follows j below =
    let n : length (slice_set ps i (slice_index ps (slice_index ps i))) ≡ length ps = length-set ps i _ in
    let b : j < length ps = omega (arith, n) in
    elim (same_or_not j i) [
      | inl e ↦ ap f e ∙ follows i h ∙ follows (slice_index ps i) (within i h) ∙ ap f (sym (set_here ps i _ j h e))
      | inr d ↦ follows j b ∙ ap f (sym (set_there ps i _ j d))
    ]

pub follows_halved : {X : Type 0} (f : ℕ → X) (ps : List ℕ) (i : ℕ) → i < length ps → slice_index ps i ≢ i
    → ((j : ℕ) → j < length ps → slice_index ps j < length ps)
    → Follows f (slice_set ps i (slice_index ps (slice_index ps i))) → Follows f ps
follows_halved f ps i h apart within follows j below =
    let n : length (slice_set ps i (slice_index ps (slice_index ps i))) ≡ length ps = length-set ps i _ in
    let b : j < length (slice_set ps i (slice_index ps (slice_index ps i))) = omega (arith, n) in
    elim (same_or_not j i) [
      | inl e ↦
          let w = within i h in
          let v : slice_index ps i < length (slice_set ps i (slice_index ps (slice_index ps i))) = omega (arith, n, w) in
          let far : f j ≡ f (slice_index ps (slice_index ps i)) = follows j b ∙ ap f (set_here ps i _ j h e) in
          let near : f (slice_index ps i) ≡ f (slice_index ps (slice_index ps i)) = follows (slice_index ps i) v ∙ ap f (set_there ps i _ (slice_index ps i) apart) in
          far ∙ sym near ∙ ap (λ k. f (slice_index ps k)) (sym e)
      | inr d ↦ follows j b ∙ ap f (set_there ps i _ j d)
    ]

module _ {T : Type 0} (A : Ghosts T) (ts : List T) where
  pub halved_forest : (ps : List ℕ) (i : ℕ) → i < length ps → slice_index ps i ≢ i → IsForest A ts ps
      → IsForest A ts (slice_set ps i (slice_index ps (slice_index ps i)))
  halved_forest ps i h apart F =
      let n = F.all in
      let w : i < length ts = omega arith in
      let up1 = F.within i w in
      let far = slice_index ps (slice_index ps i) in
      let low : rank A ts far < rank A ts i =
      elim (same_or_not far (slice_index ps i)) [
        | inl e ↦ subst (λ k. rank A ts k < rank A ts i) (sym e) (F.down i w apart)
        | inr d ↦ let a = F.down (slice_index ps i) up1 d in let b = F.down i w apart in omega (arith, a, b)
      ] in
      record {
        all = length-set ps i _ ∙ n;
        within = λ j b. elim (same_or_not j i) [
          | inl e ↦ subst (λ k. k < length ts) (sym (set_here ps i far j h e)) (F.within (slice_index ps i) up1)
          | inr d ↦ subst (λ k. k < length ts) (sym (set_there ps i far j d)) (F.within j b)
        ];
        down = λ j b moves. elim (same_or_not j i) [
          | inl e ↦ subst (λ k. rank A ts k < rank A ts j) (sym (set_here ps i far j h e)) (subst (λ k. rank A ts far < rank A ts k) (sym e) low)
          | inr d ↦ subst (λ k. rank A ts k < rank A ts j) (sym (set_there ps i far j d)) (F.down j b (λ same. moves (set_there ps i far j d ∙ same)))
        ];
      }

  pub inside : (ps : List ℕ) → IsForest A ts ps → (j : ℕ) → j < length ps → slice_index ps j < length ps
  inside ps F j b = let n = F.all in let c : j < length ts = omega arith in let d = F.within j c in omega (arith, n, d)

  pub shortened_forest : (old : List ℕ) {ps : List ℕ} → IsForest A ts old → Shortened old ps → IsForest A ts ps
  shortened_forest old F same = F
  shortened_forest old F (halved {links = ps} i h apart s) = halved_forest ps i h apart (shortened_forest old F s)

  -- each new link stands for old ones
  pub link_leads : (old : List ℕ) {ps : List ℕ} → IsForest A ts old → Shortened old ps → (j : ℕ) → j < length ps → Leads old j (slice_index ps j)
  link_leads old F same j b = up b here
  link_leads old F (halved {links = ps} i h apart s) j b =
      let n : length (slice_set ps i (slice_index ps (slice_index ps i))) ≡ length ps = length-set ps i _ in
      let c : j < length ps = omega (arith, n) in
      let G = shortened_forest old F s in
      elim (same_or_not j i) [
        | inl e ↦
            subst (Leads old j) (sym (set_here ps i _ j h e))
            (subst (λ k. Leads old k (slice_index ps (slice_index ps i))) (sym e)
            (leads_along old (link_leads old F s i h) (link_leads old F s (slice_index ps i) (inside ps G i h))))
        | inr d ↦ subst (Leads old j) (sym (set_there ps i _ j d)) (link_leads old F s j c)
      ]

  pub leads_back : (old : List ℕ) {ps : List ℕ} → IsForest A ts old → Shortened old ps → {i j : ℕ} → Leads ps i j → Leads old i j
  leads_back old F s here = here
  leads_back old F s (up {i} h d) = leads_along old (link_leads old F s i h) (leads_back old F s d)

  -- a root stays one, and no other node becomes one
  pub root_kept : (old : List ℕ) {ps : List ℕ} → IsForest A ts old → Shortened old ps → (j : ℕ) → slice_index old j ≡ j → slice_index ps j ≡ j
  root_kept old F same j is = is
  root_kept old F (halved {links = ps} i h apart s) j is =
      let r = root_kept old F s j is in
      let d : j ≢ i = λ e. apart (ap (slice_index ps) (sym e) ∙ r ∙ e) in
      set_there ps i _ j d ∙ r

  pub root_before : (old : List ℕ) {ps : List ℕ} → IsForest A ts old → Shortened old ps → (j : ℕ) → slice_index ps j ≡ j → slice_index old j ≡ j
  root_before old F same j is = is
  root_before old F (halved {links = ps} i h apart s) j is =
      let G = shortened_forest old F s in
      let n = G.all in
      let H = halved_forest ps i h apart G in
      let w : i < length ts = omega arith in
      let v = G.within i w in
      elim (same_or_not j i) [
        | inl e ↦
            let far = slice_index ps (slice_index ps i) in
            let back : far ≡ i = sym (set_here ps i far j h e) ∙ is ∙ e in
            let a = G.down i w apart in
            let moves : far ≢ slice_index ps i = λ k. apart (sym k ∙ back) in
            let b = G.down (slice_index ps i) v moves in
            let c : rank A ts far ≡ rank A ts i = ap (rank A ts) back in
            absurd (omega (arith, a, b, c))
        | inr d ↦ root_before old F s j (sym (set_there ps i _ j d) ∙ is)
      ]

  -- a node that is no root is above its link
  pub lower : (ps : List ℕ) (i : ℕ) → IsForest A ts ps → i < length ps → slice_index ps i ≢ i → rank A ts (slice_index ps (slice_index ps i)) < rank A ts i
  lower ps i F h apart =
      let n = F.all in
      let w : i < length ts = omega arith in
      let v = F.within i w in
      elim (same_or_not (slice_index ps (slice_index ps i)) (slice_index ps i)) [
        | inl e ↦ subst (λ k. rank A ts k < rank A ts i) (sym e) (F.down i w apart)
        | inr d ↦ let a = F.down (slice_index ps i) v d in let b = F.down i w apart in omega (arith, a, b)
      ]
