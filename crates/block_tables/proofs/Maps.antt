-- Maps that are filled step by step, as functions of the key.
use Rattle.std.specs.Prelude.{◌≡◌, refl, ℕ, ◌+◌, ◌<◌, ◌==◌, ◌&&◌, ◌||◌, Bool, true, false, cond, List, [], ◌∷◌, ◌++◌, length, nat_eq, Option, Some, None, unwrap_or, if◌then◌else◌}
use Rattle.std.proofs.Common.{ap, sym, ◌∙◌, arith, drop, get_or}
use Rattle.ls_places.specs.Clocks.{or_else}
use Rattle.place_tables.proofs.Lists.{one_on}

pub equal_keys : (k q : ℕ) → nat_eq k q ≡ true → k ≡ q
equal_keys k q e = grind arith

-- ---- the first that counts

pub or_else_assoc : {A : Type 0} (a b c : Option A) → or_else (or_else a b) c ≡ or_else a (or_else b c)
or_else_assoc None b c = refl
or_else_assoc (Some x) b c = refl

pub or_else_none : {A : Type 0} (a : Option A) → or_else a None ≡ a
or_else_none None = refl
or_else_none (Some x) = refl

-- one more entry, for a key that had none
at_key : {A : Type 0} (old F : ℕ → Option A) (k q : ℕ) (v : A) (t : Bool) → old k ≡ None → F k ≡ Some v → nat_eq k q ≡ t → cond t (Some v) (old q) ≡ or_else (old q) (if t then F q else None)
at_key old F k q v true none some e =
    sym (ap F (sym (equal_keys k q e)) ∙ some) ∙ sym (ap (λ z. or_else z (F q)) (ap old (sym (equal_keys k q e)) ∙ none))
at_key old F k q v false none some e = sym (or_else_none (old q))

pub entry_added : {A : Type 0} (old new F : ℕ → Option A) (k : ℕ) (v : A) → old k ≡ None → F k ≡ Some v → ((q : ℕ) → new q ≡ cond (nat_eq k q) (Some v) (old q))
    → (q : ℕ) → new q ≡ or_else (old q) (if k == q then F q else None)
entry_added old new F k v none some more q = more q ∙ at_key old F k q v (nat_eq k q) none some refl

-- for a key that had one
kept_key : {A : Type 0} (old F : ℕ → Option A) (k q : ℕ) (w : A) (t : Bool) → old k ≡ Some w → nat_eq k q ≡ t → old q ≡ or_else (old q) (if t then F q else None)
kept_key old F k q w true some e = let is = ap old (sym (equal_keys k q e)) ∙ some in is ∙ sym (ap (λ z. or_else z (F q)) is)
kept_key old F k q w false some e = sym (or_else_none (old q))

pub entry_kept : {A : Type 0} (old F : ℕ → Option A) (k : ℕ) (w : A) → old k ≡ Some w → (q : ℕ) → old q ≡ or_else (old q) (if k == q then F q else None)
entry_kept old F k w some q = kept_key old F k q w (nat_eq k q) some refl

-- for a key that gets none
none_key : {A : Type 0} (old F : ℕ → Option A) (k q : ℕ) (t : Bool) → F k ≡ None → nat_eq k q ≡ t → old q ≡ or_else (old q) (if t then F q else None)
none_key old F k q true none e = sym (ap (or_else (old q)) (ap F (sym (equal_keys k q e)) ∙ none) ∙ or_else_none (old q))
none_key old F k q false none e = sym (or_else_none (old q))

pub entry_none : {A : Type 0} (old F : ℕ → Option A) (k : ℕ) → F k ≡ None → (q : ℕ) → old q ≡ or_else (old q) (if k == q then F q else None)
entry_none old F k none q = none_key old F k q (nat_eq k q) none refl

pub if_then : {A : Type 0} (t : Bool) (v : A) (r : Option A) → (if t then Some v else r) ≡ or_else (if t then Some v else None) r
if_then true v r = refl
if_then false v r = refl

pub either_if : {A : Type 0} (t u : Bool) (f : Option A) → (if t || u then f else None) ≡ or_else (if t then f else None) (if u then f else None)
either_if true true None = refl
either_if true true (Some x) = refl
either_if true false f = sym (or_else_none f)
either_if false u f = refl

-- item by item: `F` is what some items give, and `f` what one does
pub first_walk : {A X : Type 0} (f : X → ℕ → Option A) (F : List X → ℕ → Option A) → ((x : X) (xs : List X) (q : ℕ) → F (x ∷ xs) q ≡ or_else (f x q) (F xs q))
    → (all : List X) (i : ℕ) (x : X) (old new whole : ℕ → Option A) → i < length all → get_or all i x ≡ x → ((q : ℕ) → new q ≡ or_else (old q) (f x q))
    → ((q : ℕ) → or_else (old q) (F (drop i all) q) ≡ whole q) → (q : ℕ) → or_else (new q) (F (drop (i + 1) all) q) ≡ whole q
first_walk f F one all i x old new whole below is more so_far q =
    ap (λ z. or_else z (F (drop (i + 1) all) q)) (more q) ∙ or_else_assoc (old q) (f x q) (F (drop (i + 1) all) q)
    ∙ ap (or_else (old q)) (sym (ap (λ z. F z q) (one_on all i x below is) ∙ one x (drop (i + 1) all) q)) ∙ so_far q
