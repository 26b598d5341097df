-- Maps that are filled step by step, as functions of the key.
use Rattle.std.specs.Prelude.{◌≡◌, refl, ℕ, ◌+◌, ◌<◌, ◌==◌, ◌&&◌, ◌||◌, Bool, true, false, cond, List, [], ◌∷◌, ◌++◌, length, nat_eq, Option, Some, None, unwrap_or, if◌then◌else◌}
use Rattle.std.proofs.Common.{ap, sym, ◌∙◌, arith, drop, get_or}
use Rattle.ls_places.specs.Clocks.{or_else}
use Rattle.ls_places.specs.Places.{InnerArm}
use Rattle.ls_places.specs.Search.{common, narrow}
use Rattle.kahn_cells.specs.Homes.{meet, occurs}
use Rattle.kahn_cells.proofs.Binds.{one_on}

pub equal_keys : (k q : ℕ) → nat_eq k q ≡ true → k ≡ q
equal_keys k q e = grind arith

-- ---- the first that counts

pub or_else_assoc : {A : Type 0} (a b c : Option A) → or_else (or_else a b) c ≡ or_else a (or_else b c)
or_else_assoc None b c = refl
or_else_assoc (Some x) b c = refl

pub or_else_none : {A : Type 0} (a : Option A) → or_else a None ≡ a
or_else_none None = refl
or_else_none (Some x) = refl

-- one more entry, for a key that had none
at_key : {A : Type 0} (old F : ℕ → Option A) (k q : ℕ) (v : A) (t : Bool) → old k ≡ None → F k ≡ Some v → nat_eq k q ≡ t → cond t (Some v) (old q) ≡ or_else (old q) (if t then F q else None)
at_key old F k q v true none some e =
    sym (ap F (sym (equal_keys k q e)) ∙ some) ∙ sym (ap (λ z. or_else z (F q)) (ap old (sym (equal_keys k q e)) ∙ none))
at_key old F k q v false none some e = sym (or_else_none (old q))

pub entry_added : {A : Type 0} (old new F : ℕ → Option A) (k : ℕ) (v : A) → old k ≡ None → F k ≡ Some v → ((q : ℕ) → new q ≡ cond (nat_eq k q) (Some v) (old q))
    → (q : ℕ) → new q ≡ or_else (old q) (if k == q then F q else None)
entry_added old new F k v none some more q = more q ∙ at_key old F k q v (nat_eq k q) none some refl

-- for a key that had one
kept_key : {A : Type 0} (old F : ℕ → Option A) (k q : ℕ) (w : A) (t : Bool) → old k ≡ Some w → nat_eq k q ≡ t → old q ≡ or_else (old q) (if t then F q else None)
kept_key old F k q w true some e = let is = ap old (sym (equal_keys k q e)) ∙ some in is ∙ sym (ap (λ z. or_else z (F q)) is)
kept_key old F k q w false some e = sym (or_else_none (old q))

pub entry_kept : {A : Type 0} (old F : ℕ → Option A) (k : ℕ) (w : A) → old k ≡ Some w → (q : ℕ) → old q ≡ or_else (old q) (if k == q then F q else None)
entry_kept old F k w some q = kept_key old F k q w (nat_eq k q) some refl

-- for a key that gets none
none_key : {A : Type 0} (old F : ℕ → Option A) (k q : ℕ) (t : Bool) → F k ≡ None → nat_eq k q ≡ t → old q ≡ or_else (old q) (if t then F q else None)
none_key old F k q true none e = sym (ap (or_else (old q)) (ap F (sym (equal_keys k q e)) ∙ none) ∙ or_else_none (old q))
none_key old F k q false none e = sym (or_else_none (old q))

pub entry_none : {A : Type 0} (old F : ℕ → Option A) (k : ℕ) → F k ≡ None → (q : ℕ) → old q ≡ or_else (old q) (if k == q then F q else None)
entry_none old F k none q = none_key old F k q (nat_eq k q) none refl

pub if_then : {A : Type 0} (t : Bool) (v : A) (r : Option A) → (if t then Some v else r) ≡ or_else (if t then Some v else None) r
if_then true v r = refl
if_then false v r = refl

pub either_if : {A : Type 0} (t u : Bool) (f : Option A) → (if t || u then f else None) ≡ or_else (if t then f else None) (if u then f else None)
either_if true true None = refl
either_if true true (Some x) = refl
either_if true false f = sym (or_else_none f)
either_if false u f = refl

-- item by item: `F` is what some items give, and `f` what one does
pub first_walk : {A X : Type 0} (f : X → ℕ → Option A) (F : List X → ℕ → Option A) → ((x : X) (xs : List X) (q : ℕ) → F (x ∷ xs) q ≡ or_else (f x q) (F xs q))
    → (all : List X) (i : ℕ) (x : X) (old new whole : ℕ → Option A) → i < length all → get_or all i x ≡ x → ((q : ℕ) → new q ≡ or_else (old q) (f x q))
    → ((q : ℕ) → or_else (old q) (F (drop i all) q) ≡ whole q) → (q : ℕ) → or_else (new q) (F (drop (i + 1) all) q) ≡ whole q
first_walk f F one all i x old new whole below is more so_far q =
    ap (λ z. or_else z (F (drop (i + 1) all) q)) (more q) ∙ or_else_assoc (old q) (f x q) (F (drop (i + 1) all) q)
    ∙ ap (or_else (old q)) (sym (ap (λ z. F z q) (one_on all i x below is) ∙ one x (drop (i + 1) all) q)) ∙ so_far q

-- ---- the common beginning of places

abbrev same : InnerArm → InnerArm → Bool
same a c = a.0 == c.0 && a.1 == c.1

same_number : (m n k : ℕ) → (m == n) ≡ true → (m == k) ≡ (n == k)
same_number m n k e = ap (λ z. z == k) (equal_keys m n e)

left_true : (a b : Bool) → (a && b) ≡ true → a ≡ true
left_true true b e = refl
left_true false b e = absurd (cc)

right_true : (a b : Bool) → (a && b) ≡ true → b ≡ true
right_true true b e = e
right_true false b e = absurd (cc)

same_arm : (a c e : InnerArm) → same a c ≡ true → same a e ≡ same c e
same_arm a c e t =
    ap (λ z. z && a.1 == e.1) (same_number a.0 c.0 e.0 (left_true (a.0 == c.0) (a.1 == c.1) t))
    ∙ ap (λ z. c.0 == e.0 && z) (same_number a.1 c.1 e.1 (right_true (a.0 == c.0) (a.1 == c.1) t))

no_common : (p : List InnerArm) → common p [] ≡ []
no_common [] = refl
no_common (a ∷ p) = refl

nothing_after : {A : Type 0} (xs : List A) → xs ++ [] ≡ xs
nothing_after [] = refl
nothing_after (x ∷ xs) = ap (λ z. x ∷ z) (nothing_after xs)

pub common_ended : (done p rest whole : List InnerArm) → length rest < 1 → done ++ common p rest ≡ whole → done ≡ whole
common_ended done p [] whole l e = sym (nothing_after done) ∙ sym (ap (λ z. done ++ z) (no_common p)) ∙ e
common_ended done p (c ∷ rest) whole l e = absurd (omega (arith, l))

common_if : (t : Bool) (a e : InnerArm) (s r : List InnerArm) → common (if t then a ∷ s else []) (e ∷ r) ≡ (if t then (if same a e then a ∷ common s r else []) else [])
common_if true a e s r = refl
common_if false a e s r = refl

if_common : (u : Bool) (a c : InnerArm) (p s : List InnerArm) → common (a ∷ p) (if u then c ∷ s else []) ≡ (if u then (if same a c then a ∷ common p s else []) else [])
if_common true a c p s = refl
if_common false a c p s = refl

choose : (t u v : Bool) (a : InnerArm) (x y : List InnerArm) → x ≡ y → (t ≡ true → v ≡ u) → (if t then (if v then a ∷ x else []) else []) ≡ (if u then (if t then a ∷ y else []) else [])
choose true true v a x y e f = ap (λ z. if z then a ∷ x else []) (f refl) ∙ ap (λ z. a ∷ z) e
choose true false v a x y e f = ap (λ z. if z then a ∷ x else []) (f refl)
choose false true v a x y e f = refl
choose false false v a x y e f = refl

pub common_assoc : (p q r : List InnerArm) → common (common p q) r ≡ common p (common q r)
common_assoc [] q r = refl
common_assoc (a ∷ p) [] r = refl
common_assoc (a ∷ p) (c ∷ q) [] = no_common (common (a ∷ p) (c ∷ q))
common_assoc (a ∷ p) (c ∷ q) (e ∷ r) =
    common_if (same a c) a e (common p q) r
    ∙ choose (same a c) (same c e) (same a e) a (common (common p q) r) (common p (common q r)) (common_assoc p q r) (same_arm a c e)
    ∙ sym (if_common (same c e) a c p (common q r))

pub meet_append : (h : Option (List InnerArm)) (xs ys : List (List InnerArm)) → meet h (xs ++ ys) ≡ meet (meet h xs) ys
meet_append h [] ys = refl
meet_append None (p ∷ ps) ys = meet_append (Some p) ps ys
meet_append (Some q) (p ∷ ps) ys = meet_append (Some (common q p)) ps ys

met_with : (q p : List InnerArm) (ps : List (List InnerArm)) → meet (Some q) (p ∷ ps) ≡ Some (common q (narrow (p ∷ ps)))
met_with q p [] = refl
met_with q p (r ∷ ps) = met_with (common q p) r ps ∙ ap Some (common_assoc q p (narrow (r ∷ ps)))

pub narrow_is : (ps : List (List InnerArm)) → narrow ps ≡ unwrap_or (meet None ps) []
narrow_is [] = refl
narrow_is (p ∷ []) = refl
narrow_is (p ∷ r ∷ ps) = sym (ap (λ z. unwrap_or z []) (met_with p r ps))

occurs_at : (old : ℕ → Option (List InnerArm)) (w q : ℕ) (p home : List InnerArm) (t : Bool) → Some home ≡ meet (old w) (p ∷ []) → nat_eq w q ≡ t
    → cond t (Some home) (old q) ≡ meet (old q) (if t then p ∷ [] else [])
occurs_at old w q p home true is e = is ∙ ap (λ z. meet (old z) (p ∷ [])) (equal_keys w q e)
occurs_at old w q p home false is e = refl

pub occurrence_added : (old new : ℕ → Option (List InnerArm)) (w : ℕ) (p home : List InnerArm) → Some home ≡ meet (old w) (p ∷ []) → ((q : ℕ) → new q ≡ cond (nat_eq w q) (Some home) (old q))
    → (q : ℕ) → new q ≡ meet (old q) (occurs w p q)
occurrence_added old new w p home is more q = more q ∙ occurs_at old w q p home (nat_eq w q) is refl

pub places_then : (f g : ℕ → List (List InnerArm)) (old mid new : ℕ → Option (List InnerArm)) → ((q : ℕ) → mid q ≡ meet (old q) (f q)) → ((q : ℕ) → new q ≡ meet (mid q) (g q))
    → (q : ℕ) → new q ≡ meet (old q) (f q ++ g q)
places_then f g old mid new first second q = second q ∙ ap (λ z. meet z (g q)) (first q) ∙ sym (meet_append (old q) (f q) (g q))

pub places_walk : {X : Type 0} (f : X → ℕ → List (List InnerArm)) (F : List X → ℕ → List (List InnerArm)) → ((x : X) (xs : List X) (q : ℕ) → F (x ∷ xs) q ≡ f x q ++ F xs q)
    → (all : List X) (i : ℕ) (x : X) (old new whole : ℕ → Option (List InnerArm)) → i < length all → get_or all i x ≡ x → ((q : ℕ) → new q ≡ meet (old q) (f x q))
    → ((q : ℕ) → meet (old q) (F (drop i all) q) ≡ whole q) → (q : ℕ) → meet (new q) (F (drop (i + 1) all) q) ≡ whole q
places_walk f F one all i x old new whole below is more so_far q =
    ap (λ z. meet z (F (drop (i + 1) all) q)) (more q) ∙ sym (meet_append (old q) (f x q) (F (drop (i + 1) all) q))
    ∙ ap (meet (old q)) (sym (ap (λ z. F z q) (one_on all i x below is) ∙ one x (drop (i + 1) all) q)) ∙ so_far q
