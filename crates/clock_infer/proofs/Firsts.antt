-- Variables that are numbered as they appear have the numbers of their first places.
use Rattle.std.specs.Prelude.{◌≡◌, refl, ℕ, suc, ◌+◌, ◌==◌, ◌||◌, Bool, true, false, List, [], ◌∷◌, ◌++◌, map, length, Option, Some, None, if◌then◌else◌}
use Rattle.std.proofs.Common.{ap, ap₂, sym, ◌∙◌, arith}
use Rattle.std.proofs.lemmas.Bool.{eqb-true, eq-eqb}
use Rattle.ls_ast.specs.declared.tree.Mark.{Mark}
use Rattle.ls_terms.specs.declared.clocks.ClockTerm.{ClockTerm}
use Rattle.ls_terms.specs.declared.clocks.ClockTerm.TheVariants as clock
use Rattle.ls_sig.specs.declared.binder.Note.{Note}
use Rattle.ls_places.specs.Definitions.{note_clocks}
use Rattle.ls_places.specs.Patterns.{has_name}
use Rattle.term_unify.specs.Terms.{first}
use Rattle.ls_terms.specs.Clocks.{apply}
use Rattle.tree_notes.specs.Order.{joined}
use Rattle.clock_rules.specs.declared.scheme.ClockScheme.{ClockScheme}
use Rattle.clock_rules.specs.Files.{clock_marks, firsts, place_from, place_option, scheme, variables_in, without}
use Rattle.clock_infer.specs.Schemes.{Seen, seen_all, seen_at, seen_one}

same_back : (x y : ℕ) → (x == y) ≡ (y == x)
same_back x y = go (x == y) refl (y == x) refl
  where
    go : (a : Bool) → (x == y) ≡ a → (c : Bool) → (y == x) ≡ c → (x == y) ≡ (y == x)
    go true e true f = e ∙ sym f
    go false e false f = e ∙ sym f
    go true e false f = let g = eq-eqb y x (sym (eqb-true x y e)) in absurd (cc)
    go false e true f = let g = eq-eqb x y (sym (eqb-true y x f)) in absurd (cc)

abbrev pub numbered : List ℕ → ℕ → Seen
numbered [] j = []
numbered (k ∷ ks) j = (k, clock.Var j) ∷ numbered ks (suc j)

-- ---- where a variable stands

option_if : (c : Bool) (j : ℕ) (o : Option ℕ) → (if c then Some (clock.Var j) else place_option o) ≡ place_option (if c then Some j else o)
option_if true j o = ap Some (sym (clock.rolls-Var j))
option_if false j o = refl

pub placed : (ks : List ℕ) (x j : ℕ) → first (numbered ks j) x ≡ place_option (place_from x ks j)
placed [] x j = refl
placed (k ∷ ks) x j = ap (λ o. if k == x then Some (clock.Var j) else o) (placed ks x (suc j)) ∙ option_if (k == x) j (place_from x ks (suc j))

abbrev Found : Bool → Option ClockTerm → Type 0
Found true o = (t : ClockTerm) × (o ≡ Some t)
Found false o = o ≡ None

found : (ks : List ℕ) (x j : ℕ) → Found (has_name x ks) (first (numbered ks j) x)
found [] x j = refl
found (k ∷ ks) x j = go (x == k) (k == x) (same_back x k) (found ks x (suc j))
  where
    go : (a c : Bool) → a ≡ c → Found (has_name x ks) (first (numbered ks (suc j)) x) → Found (a || has_name x ks) (if c then Some (clock.Var j) else first (numbered ks (suc j)) x)
    go true true e h = (clock.Var j, refl)
    go true false e h = absurd (cc)
    go false true e h = absurd (cc)
    go false false e h = h

long : (ks : List ℕ) (j : ℕ) → length (numbered ks j) ≡ length ks
long [] j = refl
long (k ∷ ks) j = ap suc (long ks (suc j))

one_more : (ks : List ℕ) (x j : ℕ) → numbered ks j ++ (x, clock.Var (j + length ks)) ∷ [] ≡ numbered (ks ++ x ∷ []) j
one_more [] x j = let e : j + 0 ≡ j = omega arith in ap (λ n. (x, clock.Var n) ∷ []) e
one_more (k ∷ ks) x j = let e : j + suc (length ks) ≡ suc j + length ks = omega arith in
    ap (λ z. (k, clock.Var j) ∷ z) (ap (λ n. numbered ks (suc j) ++ (x, clock.Var n) ∷ []) e ∙ one_more ks x (suc j))

-- ---- as they appear

abbrev added : List ℕ → ℕ → List ℕ
added ks x = if has_name x ks then ks else ks ++ x ∷ []

ended : (ks : List ℕ) (x : ℕ) → numbered ks 0 ++ (x, clock.Var (length ks)) ∷ [] ≡ numbered (ks ++ x ∷ []) 0
ended ks x = let e : length ks ≡ 0 + length ks = omega arith in ap (λ n. numbered ks 0 ++ (x, clock.Var n) ∷ []) e ∙ one_more ks x 0

seen_added : (ks : List ℕ) (x : ℕ) → seen_one (numbered ks 0) x ≡ numbered (added ks x) 0
seen_added ks x = go (has_name x ks) (first (numbered ks 0) x) (found ks x 0)
  where
    go : (c : Bool) (o : Option ClockTerm) → Found c o → seen_at (numbered ks 0) x o ≡ numbered (if c then ks else ks ++ x ∷ []) 0
    go true o h = ap (seen_at (numbered ks 0) x) h.1
    go false o h = ap (seen_at (numbered ks 0) x) h ∙ ap (λ n. numbered ks 0 ++ (x, clock.Var n) ∷ []) (long ks 0) ∙ ended ks x

abbrev added_all : List ℕ → List ℕ → List ℕ
added_all ks [] = ks
added_all ks (x ∷ xs) = added_all (added ks x) xs

all_added : (xs ks : List ℕ) → seen_all (numbered ks 0) xs ≡ numbered (added_all ks xs) 0
all_added [] ks = refl
all_added (x ∷ xs) ks = ap (λ s. seen_all s xs) (seen_added ks x) ∙ all_added xs (added ks x)

-- ---- those that are not there yet

abbrev left : List ℕ → List ℕ → List ℕ
left ks [] = []
left ks (y ∷ ys) = if has_name y ks then left ks ys else y ∷ left ks ys

left_none : (ys : List ℕ) → left [] ys ≡ ys
left_none [] = refl
left_none (y ∷ ys) = ap (λ z. y ∷ z) (left_none ys)

known_cases : (ks ys : List ℕ) (x y : ℕ) → has_name x ks ≡ true → (c : Bool) → (x == y) ≡ c → left ks (without x ys) ≡ left ks ys
    → left ks (if c then without x ys else y ∷ without x ys) ≡ left ks (y ∷ ys)
known_cases ks ys x y e true d more =
    more ∙ sym (ap (λ z. if z then left ks ys else y ∷ left ks ys) (ap (λ k. has_name k ks) (sym (eqb-true x y d)) ∙ e))
known_cases ks ys x y e false d more = ap (λ z. if has_name y ks then z else y ∷ z) more

left_known : (ks : List ℕ) (x : ℕ) → has_name x ks ≡ true → (ys : List ℕ) → left ks (without x ys) ≡ left ks ys
left_known ks x e [] = refl
left_known ks x e (y ∷ ys) = known_cases ks ys x y e (x == y) refl (left_known ks x e ys)

has_last : (ks : List ℕ) (x y : ℕ) → has_name y (ks ++ x ∷ []) ≡ (has_name y ks || (y == x))
has_last [] x y = or_false (y == x)
  where
    or_false : (c : Bool) → (c || false) ≡ c
    or_false true = refl
    or_false false = refl
has_last (k ∷ ks) x y = ap (λ z. (y == k) || z) (has_last ks x y) ∙ sym (or_assoc (y == k) (has_name y ks) (y == x))
  where
    or_assoc : (a c d : Bool) → ((a || c) || d) ≡ (a || (c || d))
    or_assoc true c d = refl
    or_assoc false c d = refl

left_last : (ks : List ℕ) (x : ℕ) (ys : List ℕ) → left (ks ++ x ∷ []) ys ≡ left ks (without x ys)
left_last ks x [] = refl
left_last ks x (y ∷ ys) = ap (λ z. if z then left (ks ++ x ∷ []) ys else y ∷ left (ks ++ x ∷ []) ys) (has_last ks x y) ∙ ap (λ z. if has_name y ks || (y == x) then z else y ∷ z) (left_last ks x ys)
    ∙ go (has_name y ks) refl (y == x) (x == y) (same_back y x)
  where
    rest : List ℕ
    rest = left ks (without x ys)

    go : (h : Bool) → has_name y ks ≡ h → (a c : Bool) → a ≡ c → (if h || a then rest else y ∷ rest) ≡ left ks (if c then without x ys else y ∷ without x ys)
    go true e true true d = refl
    go true e false false d = sym (ap (λ z. if z then rest else y ∷ rest) e)
    go false e true true d = refl
    go false e false false d = sym (ap (λ z. if z then rest else y ∷ rest) e)
    go h e true false d = absurd (cc)
    go h e false true d = absurd (cc)

grouped : (xs ys zs : List ℕ) → (xs ++ ys) ++ zs ≡ xs ++ (ys ++ zs)
grouped [] ys zs = refl
grouped (x ∷ xs) ys zs = ap (λ z. x ∷ z) (grouped xs ys zs)

no_more : (xs : List ℕ) → xs ≡ xs ++ []
no_more [] = refl
no_more (x ∷ xs) = ap (λ z. x ∷ z) (no_more xs)

added_cases : (x : ℕ) (xs ks : List ℕ) → ((known : List ℕ) → added_all known xs ≡ known ++ left known (firsts xs)) → (c : Bool) → has_name x ks ≡ c
    → added_all (if c then ks else ks ++ x ∷ []) xs ≡ ks ++ (if c then left ks (without x (firsts xs)) else x ∷ left ks (without x (firsts xs)))
added_cases x xs ks more true e = more ks ∙ ap (λ z. ks ++ z) (sym (left_known ks x e (firsts xs)))
added_cases x xs ks more false e = more (ks ++ x ∷ []) ∙ ap (λ z. (ks ++ x ∷ []) ++ z) (left_last ks x (firsts xs)) ∙ grouped ks (x ∷ []) (left ks (without x (firsts xs)))

added_are : (xs ks : List ℕ) → added_all ks xs ≡ ks ++ left ks (firsts xs)
added_are [] ks = no_more ks
added_are (x ∷ xs) ks = added_cases x xs ks (added_are xs) (has_name x ks) refl

-- the number of a variable is its place among the first ones
pub first_seen : (xs : List ℕ) (x : ℕ) → first (seen_all [] xs) x ≡ place_option (place_from x (firsts xs) 0)
first_seen xs x = ap (λ s. first s x) (all_added xs [] ∙ ap (λ ks. numbered ks 0) (added_are xs [] ∙ left_none (firsts xs))) ∙ placed (firsts xs) x 0

pub seen_numbers : (xs : List ℕ) → first (seen_all [] xs) ≡ (λ x. place_option (place_from x (firsts xs) 0))
seen_numbers xs = λ i x. first_seen xs x i

pub seen_more : (s : Seen) (xs ys : List ℕ) → seen_all s (xs ++ ys) ≡ seen_all (seen_all s xs) ys
seen_more s [] ys = refl
seen_more s (x ∷ xs) ys = seen_more (seen_one s x) xs ys

-- ---- a scheme

-- the scheme of a definition, where its variables are numbered as they appear
pub scheme_seen : (marks : List Mark) (notes : List Note) (ck : ClockTerm) (s : Seen) (all own clocks : List ClockTerm) (result : ClockTerm) (names : List ℕ)
    → all ≡ note_clocks notes ++ ck ∷ [] → s ≡ seen_all [] (joined (map variables_in all)) → own ≡ note_clocks notes
    → clocks ≡ map (apply (first s)) own → result ≡ apply (first s) ck → names ≡ clock_marks marks 0
    → ◌≡◌ {A = ClockScheme} (record { clocks = clocks; result = result; names = names }) (scheme marks notes ck)
scheme_seen marks notes ck s all own clocks result names a n o c r m =
    let by : first s ≡ (λ x. place_option (place_from x (firsts (joined (map variables_in (note_clocks notes ++ ck ∷ [])))) 0)) =
    ap first n ∙ ap (λ z. first (seen_all [] (joined (map variables_in z)))) a ∙ seen_numbers (joined (map variables_in (note_clocks notes ++ ck ∷ []))) in λ i. record {
      clocks = (c ∙ ap₂ (λ f z. map (apply f) z) by o) i;
      result = (r ∙ ap (λ f. apply f ck) by) i;
      names = m i;
    }
