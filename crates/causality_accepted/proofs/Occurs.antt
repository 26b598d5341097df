-- Where a clock variable occurs, and the smallest arm that holds all its occurrences.
use Rattle.std.specs.Prelude.{◌≡◌, refl, ◌⊎◌, ℕ, ◌==◌, ◌&&◌, ◌||◌, Bool, true, false, List, [], ◌∷◌, ◌++◌, map, length, Option, Some, None, if◌then◌else◌}
use Rattle.std.proofs.Common.{ap, ap₂, sym, ◌∙◌, subst, inl, inr, arith, append_assoc}
use Rattle.std.proofs.lemmas.Bool.{and_parts, eqb-true, eq-eqb}
use Rattle.ls_terms.specs.declared.clocks.ClockTerm.{ClockTerm, fold-roll-ClockTerm, map-ClockTerm, roll-ClockTerm}
use Rattle.ls_terms.specs.declared.clocks.ClockTerm.TheOpen.{ClockTerm-F}
use Rattle.ls_sig.specs.declared.binder.Note.{Note}
use Rattle.ls_places.specs.Clocks.{any, clocks_in, mentions, mentions_step}
use Rattle.ls_places.specs.Places.{InnerArm, arms}
use Rattle.ls_places.specs.Search.{Occurring, all_occurring, common, home_of, narrow, occurrences, occurs_step, outside, places_of, starts_with, term_places}
use Rattle.ls_places.specs.declared.places.Variable.{Variable}
use Rattle.ls_places.specs.declared.places.Whole.{Whole}
use Rattle.digraph.specs.Graph.{In, first as here, later}
use Rattle.kahn_model.specs.Reads.{arm_key, arm_keys}
use Rattle.clock_rules.specs.Rules.{sampled}
use Rattle.clock_rules.specs.Terms.{on}
use Rattle.clock_rules.proofs.Substitution.{With, bottoms, induct}
use Rattle.causality_links.specs.Close.{Sub}
pub use Rattle.causality_accepted.proofs.Placed.{in_left, in_right}
use Rattle.causality_accepted.proofs.Placed as Pl

-- ---- lists

pub none_in : {A : Type 0} {x : A} → In x [] → ⊥
none_in h = elim h [ ]

pub in_cons : {A : Type 0} (x z : A) (zs : List A) → In x (z ∷ zs) → (z ≡ x) ⊎ In x zs
in_cons x _ _ (here zs) = inl refl
in_cons x _ _ (later z zs h) = inr h

pub in_split : {A : Type 0} (x : A) (xs ys : List A) → In x (xs ++ ys) → In x xs ⊎ In x ys
in_split x [] ys h = inr h
in_split x (z ∷ xs) ys h = elim (in_cons x z (xs ++ ys) h) [
  | inl e ↦ inl (subst (λ w. In w (z ∷ xs)) e (here xs))
  | inr i ↦ elim (in_split x xs ys i) [ inl g ↦ inl (later z xs g) | inr g ↦ inr g ]
]

-- ---- beginnings

pub begins : (p h : List InnerArm) → starts_with p h ≡ true → (r : List InnerArm) × (p ≡ h ++ r)
begins p [] e = (p, refl)
begins [] (a ∷ h) e = absurd (cc)
begins (a ∷ p) (c ∷ h) e =
    let x = and_parts (a.0 == c.0 && a.1 == c.1) (starts_with p h) e in
    let y = and_parts (a.0 == c.0) (a.1 == c.1) x.0 in
    let r = begins p h x.1 in
    (r.0, λ i. (eqb-true a.0 c.0 y.0 i, eqb-true a.1 c.1 y.1 i) ∷ r.1 i)

same_arm : (a : InnerArm) → (a.0 == a.0 && a.1 == a.1) ≡ true
same_arm a = ap₂ (λ x y. x && y) (eq-eqb a.0 a.0 refl) (eq-eqb a.1 a.1 refl)

pub starts_on : (h r : List InnerArm) → starts_with (h ++ r) h ≡ true
starts_on [] r = refl
starts_on (a ∷ h) r = ap₂ (λ x y. x && y) (same_arm a) (starts_on h r)

pub starts_then : (p q r : List InnerArm) → starts_with p q ≡ true → starts_with q r ≡ true → starts_with p r ≡ true
starts_then p q r a c =
    let x = begins p q a in
    let y = begins q r c in
    ap (λ z. starts_with z r) (x.1 ∙ ap (λ z. z ++ x.0) y.1 ∙ append_assoc r y.0 x.0) ∙ starts_on r (y.0 ++ x.0)

starts_if : (t : Bool) (a c : InnerArm) (p r : List InnerArm) → (t ≡ true → (a.0 == c.0 && a.1 == c.1) ≡ true) → starts_with p r ≡ true → starts_with (a ∷ p) (if t then c ∷ r else []) ≡ true
starts_if true a c p r e h = ap₂ (λ x y. x && y) (e refl) h
starts_if false a c p r e h = refl

starts_unless : (t : Bool) (a : InnerArm) (p r : List InnerArm) → starts_with p r ≡ true → starts_with (a ∷ p) (if t then [] else a ∷ r) ≡ true
starts_unless true a p r h = refl
starts_unless false a p r h = ap₂ (λ x y. x && y) (same_arm a) h

common_left : (p q : List InnerArm) → starts_with p (common p q) ≡ true
common_left [] q = refl
common_left (a ∷ p) [] = refl
common_left (a ∷ p) (c ∷ q) = starts_if (a.0 == c.0 && a.1 == c.1) a a p (common p q) (λ e. same_arm a) (common_left p q)

turned : (a c : InnerArm) → (a.0 == c.0 && a.1 == c.1) ≡ true → (c.0 == a.0 && c.1 == a.1) ≡ true
turned a c e =
    let y = and_parts (a.0 == c.0) (a.1 == c.1) e in
    ap₂ (λ x y. x && y) (eq-eqb c.0 a.0 (sym (eqb-true a.0 c.0 y.0))) (eq-eqb c.1 a.1 (sym (eqb-true a.1 c.1 y.1)))

common_right : (p q : List InnerArm) → starts_with q (common p q) ≡ true
common_right [] q = refl
common_right (a ∷ p) [] = refl
common_right (a ∷ p) (c ∷ q) = starts_if (a.0 == c.0 && a.1 == c.1) c a q (common p q) (turned a c) (common_right p q)

-- the smallest arm that holds several places stands around each
pub narrow_begins : (x : List InnerArm) (ps : List (List InnerArm)) → In x ps → starts_with x (narrow ps) ≡ true
narrow_begins x [] i = absurd (none_in i)
narrow_begins x (p ∷ []) i = elim (in_cons x p [] i) [ inl e ↦ subst (λ z. starts_with z p ≡ true) e (self p) | inr g ↦ absurd (none_in g) ]
  where
    self : (p : List InnerArm) → starts_with p p ≡ true
    self [] = refl
    self (a ∷ p) = ap₂ (λ x y. x && y) (same_arm a) (self p)
narrow_begins x (p ∷ q ∷ ps) i = elim (in_cons x p (q ∷ ps) i) [
  | inl e ↦ subst (λ z. starts_with z (common p (narrow (q ∷ ps))) ≡ true) e (common_left p (narrow (q ∷ ps)))
  | inr g ↦ starts_then x (narrow (q ∷ ps)) (common p (narrow (q ∷ ps))) (narrow_begins x (q ∷ ps) g) (common_right p (narrow (q ∷ ps)))
]

pub outside_begins : (m : ℕ) (p : List InnerArm) → starts_with p (outside m p) ≡ true
outside_begins m [] = refl
outside_begins m (a ∷ p) = starts_unless (a.0 == m) a p (outside m p) (outside_begins m p)

pub keys_on : (p q : List InnerArm) → arm_keys (p ++ q) ≡ arm_keys p ++ arm_keys q
keys_on [] q = refl
keys_on (a ∷ p) q = ap (λ z. arm_key a ∷ z) (keys_on p q)

pub keys_begin : (p h : List InnerArm) → starts_with p h ≡ true → Sub (arm_keys h) (arm_keys p)
keys_begin p h e =
    let r = begins p h e in
    λ l i. subst (λ z. In l z) (sym (ap arm_keys r.1 ∙ keys_on h r.0)) (in_left l (arm_keys h) (arm_keys r.0) i)

-- ---- all of several places begin with an arm

abbrev pub deep : List InnerArm → List (List InnerArm) → Bool
deep h [] = true
deep h (p ∷ ps) = starts_with p h && deep h ps

pub deep_all : (h : List InnerArm) (ps : List (List InnerArm)) → ((q : List InnerArm) → In q ps → starts_with q h ≡ true) → deep h ps ≡ true
deep_all h [] f = refl
deep_all h (p ∷ ps) f = ap₂ (λ x y. x && y) (f p (here ps)) (deep_all h ps (λ q i. f q (later p ps i)))

pub deep_each : (h q : List InnerArm) (ps : List (List InnerArm)) → deep h ps ≡ true → In q ps → starts_with q h ≡ true
deep_each h q [] e i = absurd (none_in i)
deep_each h q (p ∷ ps) e i =
    let x = and_parts (starts_with p h) (deep h ps) e in
    elim (in_cons q p ps i) [ inl s ↦ subst (λ z. starts_with z h ≡ true) s x.0 | inr g ↦ deep_each h q ps x.1 g ]

module _ (w : ℕ) where
  -- ---- the occurrences of a variable

  occ_roll : (x : ClockTerm-F ClockTerm) (p : List InnerArm) → occurrences w (roll-ClockTerm x) p ≡ occurs_step w (map-ClockTerm ClockTerm Occurring (occurrences w) x) p
  occ_roll x p = ap (λ (f : Occurring). f p) (fold-roll-ClockTerm Occurring (occurs_step w) x)

  men_roll : (x : ClockTerm-F ClockTerm) → mentions w (roll-ClockTerm x) ≡ mentions_step w (map-ClockTerm ClockTerm Bool (mentions w) x)
  men_roll x = fold-roll-ClockTerm Bool (mentions_step w) x

  pub occ_on : (t : ClockTerm) (m k : ℕ) (p : List InnerArm) → occurrences w (on t m k) p ≡ occurrences w t (outside m p)
  occ_on t m k p = occ_roll (ClockTerm-F.On t m k) p

  record Seen (t : ClockTerm) (p : List InnerArm) : Type 0 where
    pub place : List InnerArm
    pub among : In place (occurrences w t p)
    pub around : starts_with p place ≡ true

  abbrev There : ClockTerm → Type 0
  There t = (p : List InnerArm) → mentions w t ≡ true → Seen t p

  abbrev Gone : ClockTerm → Type 0
  Gone t = (p : List InnerArm) → mentions w t ≡ false → occurrences w t p ≡ []

  abbrev Both : ClockTerm → Type 0
  Both t = There t × Gone t

  abbrev terms : List (With Both) → List ClockTerm
  terms = map {A = With Both} {B = ClockTerm} (λ q. q.0)

  record SeenOf (ts : List ClockTerm) (p : List InnerArm) : Type 0 where
    pub place : List InnerArm
    pub among : In place (all_occurring (map (occurrences w) ts) p)
    pub around : starts_with p place ≡ true

  all_there : (qs : List (With Both)) (p : List InnerArm) → any (map (mentions w) (terms qs)) ≡ true → SeenOf (terms qs) p
  all_there [] p e = absurd (cc)
  all_there (q ∷ qs) p e = by_case (mentions w q.0) refl e (λ g. all_there qs p g)
    where
      by_case : (b : Bool) → mentions w q.0 ≡ b → (b || any (map (mentions w) (terms qs))) ≡ true → (any (map (mentions w) (terms qs)) ≡ true → SeenOf (terms qs) p) → SeenOf (terms (q ∷ qs)) p
      by_case true f g more =
          let s = q.1.0 p f in record { place = s.place; among = in_left s.place (occurrences w q.0 p) (all_occurring (map (occurrences w) (terms qs)) p) s.among; around = s.around }
      by_case false f g more =
          let s = more g in record { place = s.place; among = in_right s.place (occurrences w q.0 p) (all_occurring (map (occurrences w) (terms qs)) p) s.among; around = s.around }

  neither : (a c : Bool) → (a || c) ≡ false → (a ≡ false) × (c ≡ false)
  neither true c e = absurd (cc)
  neither false c e = (refl, e)

  all_gone : (qs : List (With Both)) (p : List InnerArm) → any (map (mentions w) (terms qs)) ≡ false → all_occurring (map (occurrences w) (terms qs)) p ≡ []
  all_gone [] p e = refl
  all_gone (q ∷ qs) p e =
      let x = neither (mentions w q.0) (any (map (mentions w) (terms qs))) e in
      ap₂ (λ a c. a ++ c) (q.1.1 p x.0) (all_gone qs p x.1)

  there_at : (y : ClockTerm-F (With Both)) → There (roll-ClockTerm (bottoms Both y))
  there_at (ClockTerm-F.Var v) p e =
      let f : (w == v) ≡ true = sym (men_roll (ClockTerm-F.Var v)) ∙ e in
      let g : (v == w) ≡ true = eq-eqb v w (sym (eqb-true w v f)) in
      record {
        place = p;
        among = subst (λ z. In p z) (sym (occ_roll (ClockTerm-F.Var v) p ∙ ap (λ t. if t then p ∷ [] else []) g)) (here []);
        around = subst (λ z. starts_with z p ≡ true) (Pl.end_nil p) (starts_on p []);
      }
  there_at (ClockTerm-F.On q m k) p e =
      let s = q.1.0 (outside m p) (sym (men_roll (ClockTerm-F.On q.0 m k)) ∙ e) in
      record { place = s.place; among = subst (λ z. In s.place z) (sym (occ_roll (ClockTerm-F.On q.0 m k) p)) s.among; around = starts_then p (outside m p) s.place (outside_begins m p) s.around }
  there_at ClockTerm-F.Pointwise p e = absurd (let f : false ≡ true = sym (men_roll ClockTerm-F.Pointwise) ∙ e in cc)
  there_at (ClockTerm-F.Arrow qs q) p e = by_case (any (map (mentions w) (terms qs))) refl (sym (men_roll (ClockTerm-F.Arrow (terms qs) q.0)) ∙ e)
    where
      by_case : (b : Bool) → any (map (mentions w) (terms qs)) ≡ b → (b || mentions w q.0) ≡ true → Seen (roll-ClockTerm (ClockTerm-F.Arrow (terms qs) q.0)) p
      by_case true f g =
          let s = all_there qs p f in
          record {
            place = s.place;
            among = subst (λ z. In s.place z) (sym (occ_roll (ClockTerm-F.Arrow (terms qs) q.0) p)) (in_left s.place (all_occurring (map (occurrences w) (terms qs)) p) (occurrences w q.0 p) s.among);
            around = s.around;
          }
      by_case false f g =
          let s = q.1.0 p g in
          record {
            place = s.place;
            among = subst (λ z. In s.place z) (sym (occ_roll (ClockTerm-F.Arrow (terms qs) q.0) p)) (in_right s.place (all_occurring (map (occurrences w) (terms qs)) p) (occurrences w q.0 p) s.among);
            around = s.around;
          }

  gone_at : (y : ClockTerm-F (With Both)) → Gone (roll-ClockTerm (bottoms Both y))
  gone_at (ClockTerm-F.Var v) p e = occ_roll (ClockTerm-F.Var v) p ∙ by_case (v == w) refl
    where
      by_case : (b : Bool) → (v == w) ≡ b → (if b then p ∷ [] else []) ≡ []
      by_case true f = let g : true ≡ false = sym (eq-eqb w v (sym (eqb-true v w f))) ∙ sym (men_roll (ClockTerm-F.Var v)) ∙ e in absurd (cc)
      by_case false f = refl
  gone_at (ClockTerm-F.On q m k) p e = occ_roll (ClockTerm-F.On q.0 m k) p ∙ q.1.1 (outside m p) (sym (men_roll (ClockTerm-F.On q.0 m k)) ∙ e)
  gone_at ClockTerm-F.Pointwise p e = occ_roll ClockTerm-F.Pointwise p
  gone_at (ClockTerm-F.Arrow qs q) p e =
      let x = neither (any (map (mentions w) (terms qs))) (mentions w q.0) (sym (men_roll (ClockTerm-F.Arrow (terms qs) q.0)) ∙ e) in
      occ_roll (ClockTerm-F.Arrow (terms qs) q.0) p ∙ ap₂ (λ a c. a ++ c) (all_gone qs p x.0) (q.1.1 p x.1)

  both : (t : ClockTerm) → Both t
  both = induct Both (λ y. (there_at y, gone_at y))

  -- where a clock does not mention the variable, it occurs nowhere in it
  pub occurs_not : (t : ClockTerm) (p : List InnerArm) → mentions w t ≡ false → occurrences w t p ≡ []
  occurs_not t = (both t).1

  -- where it does, what begins all its occurrences stands around the place
  pub deep_around : (h : List InnerArm) (t : ClockTerm) (p : List InnerArm) → mentions w t ≡ true → deep h (occurrences w t p) ≡ true → starts_with p h ≡ true
  deep_around h t p e f = let s = (both t).0 p e in starts_then p s.place h s.around (deep_each h s.place (occurrences w t p) f s.among)

  -- ---- at home

  in_terms : (p q : List InnerArm) (t : ClockTerm) (ts : List ClockTerm) → In t ts → In q (occurrences w t p) → In q (term_places w p ts)
  in_terms p q t [] i h = absurd (none_in i)
  in_terms p q t (u ∷ ts) i h = elim (in_cons t u ts i) [
    | inl e ↦ in_left q (occurrences w u p) (term_places w p ts) (subst (λ z. In q (occurrences w z p)) (sym e) h)
    | inr g ↦ in_right q (occurrences w u p) (term_places w p ts) (in_terms p q t ts g h)
  ]

  in_places : (x : Whole Note) (all : List (Whole Note)) (q : List InnerArm) (t : ClockTerm) → In x all → In t (clocks_in x.expr) → In q (occurrences w t (arms x.place)) → In q (places_of w all)
  in_places x [] q t i j h = absurd (none_in i)
  in_places x (y ∷ all) q t i j h = elim (in_cons x y all i) [
    | inl e ↦ in_left q (term_places w (arms y.place) (clocks_in y.expr)) (places_of w all)
        (subst (λ (z : Whole Note). In q (term_places w (arms z.place) (clocks_in z.expr))) (sym e) (in_terms (arms x.place) q t (clocks_in x.expr) j h))
    | inr g ↦ in_right q (term_places w (arms y.place) (clocks_in y.expr)) (places_of w all) (in_places x all q t g j h)
  ]

  -- all occurrences in a noted clock begin with the variable's home
  pub deep_noted : (all : List (Whole Note)) (x : Whole Note) (t : ClockTerm) → In x all → In t (clocks_in x.expr) → deep (home_of w all) (occurrences w t (arms x.place)) ≡ true
  deep_noted all x t i j = deep_all (home_of w all) (occurrences w t (arms x.place)) (λ q h. narrow_begins q (places_of w all) (in_places x all q t i j h))

  -- ---- in arms that are of the blocks just outside

  module _ (first : ℕ) (E : List (Whole Note)) (V : List Variable) (S : List (Option (List InnerArm))) where
    abbrev spot : ℕ → Option (List InnerArm)
    spot = Pl.spot_of first E V S

    abbrev HomedFrom : List InnerArm → List InnerArm → Type 0
    HomedFrom = Pl.HomedFrom first E V S

    pub homed_split : (around l r : List InnerArm) (a : InnerArm) → HomedFrom around (l ++ a ∷ r) → HomedFrom around l × (spot a.0 ≡ Some (around ++ l))
    homed_split around [] r a h = (tt, h.0 ∙ ap Some (sym (Pl.end_nil around)))
    homed_split around (c ∷ l) r a h =
        let x = homed_split (around ++ c ∷ []) l r a h.1 in
        ((h.0, x.0), x.1 ∙ ap Some (append_assoc around (c ∷ []) l))

    some_is : (p q : List InnerArm) → Some p ≡ Some q → p ≡ q
    some_is p q e = ap or_p e
      where
        or_p : Option (List InnerArm) → List InnerArm
        or_p None = p
        or_p (Some x) = x

    longer : (around l : List InnerArm) (a : InnerArm) → around ≡ around ++ a ∷ l → ⊥
    longer around l a e = let n = ap length e ∙ Pl.length_on around (a ∷ l) in omega (arith, n)

    outside_if : (b : Bool) (a : InnerArm) (l r : List InnerArm) → (b ≡ true → ⊥) → r ≡ l → (if b then [] else a ∷ r) ≡ a ∷ l
    outside_if true a l r n e = absurd (n refl)
    outside_if false a l r n e = ap (λ z. a ∷ z) e

    -- the arms around a block are those outside of it
    pub outside_is : (around l r : List InnerArm) (m j : ℕ) → HomedFrom around l → spot m ≡ Some (around ++ l) → outside m (l ++ (m, j) ∷ r) ≡ l
    outside_is around [] r m j h e = ap (λ t. if t then [] else (m, j) ∷ outside m r) (eq-eqb m m refl)
    outside_is around (a ∷ l) r m j h e = outside_if (a.0 == m) a l (outside m (l ++ (m, j) ∷ r))
        (λ f. longer around l a (some_is around (around ++ a ∷ l) (sym h.0 ∙ ap spot (eqb-true a.0 m f) ∙ e)))
        (outside_is (around ++ a ∷ []) l r m j h.1 (e ∙ ap Some (sym (append_assoc around (a ∷ []) l))))

    pub occ_arm : (t : ClockTerm) (l r : List InnerArm) (m j k : ℕ) → HomedFrom [] l → spot m ≡ Some l → occurrences w (on t m k) (l ++ (m, j) ∷ r) ≡ occurrences w t l
    occ_arm t l r m j k h e = occ_on t m k (l ++ (m, j) ∷ r) ∙ ap (occurrences w t) (outside_is [] l r m j h e)

    -- a clock inside arms occurs as it does outside
    pub occ_sampled : (t : ClockTerm) (l p : List InnerArm) → HomedFrom [] (l ++ p) → occurrences w (sampled t p) (l ++ p) ≡ occurrences w t l
    occ_sampled t l [] h = ap (occurrences w t) (Pl.end_nil l)
    occ_sampled t l (a ∷ p) h =
        let s = homed_split [] l p a h in
        let same : l ++ a ∷ p ≡ (l ++ a ∷ []) ++ p = sym (append_assoc l (a ∷ []) p) in
        ap (occurrences w (sampled (on t a.0 a.1) p)) same ∙ occ_sampled (on t a.0 a.1) (l ++ a ∷ []) p (subst (HomedFrom []) same h)
        ∙ occ_arm t l [] a.0 a.1 a.1 s.0 s.1
