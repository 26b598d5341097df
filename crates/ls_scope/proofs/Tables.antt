-- Tables of constructors and of marks.
use Rattle.std.specs.Prelude.{◌≡◌, ℕ, suc, ◌+◌, ◌==◌, ◌||◌, ◌&&◌, not, Bool, true, false, List, [], ◌∷◌, ◌++◌, map, length, Option, Some, None, is_some, if◌then◌else◌, nat_eq, refl, cond, slice_get}
use Rattle.std.proofs.Common.{ap, ap₂, sym, ◌∙◌, arith, zero-add}
use Rattle.std.proofs.lemmas.Bool.{eqb-true}
use Rattle.scope_rules.specs.File.{type_names}
use Rattle.scope_rules.specs.Faults.{place_of, place_from, or_later, or_next, case_place}
use Rattle.ls_scope.proofs.Lists.{place_more, later_none, later_assoc}

none_some : (o : Option (ℕ × ℕ)) (p : ℕ × ℕ) → o ≡ Some p → is_some o ≡ false → ⊥
none_some o p e f = absurd (cc)

none_none : (o : Option (ℕ × ℕ)) → o ≡ None → is_some o ≡ true → ⊥
none_none o e f = absurd (cc)

-- a key that is there stays, whatever comes for it
pub old_stays : {V : Type 0} (told : ℕ → Option V) (name : ℕ) (v : V) → is_some (told name) ≡ true → (c : ℕ) → told c ≡ or_later (told c) (if name == c then Some v else None)
old_stays {V} told name v h c = by_test (name == c) refl (told c) refl
  where
    lost : (o : Option V) → o ≡ None → is_some o ≡ true → ⊥
    lost o e f = absurd (cc)

    by_test : (b : Bool) → name == c ≡ b → (o : Option V) → told c ≡ o → o ≡ or_later o (if b then Some v else None)
    by_test b e (Some x) s = refl
    by_test false e None s = refl
    by_test true e None s = absurd (lost (told name) (ap told (eqb-true name c e) ∙ s) h)

-- a key that is not there takes its value
pub new_put : {V : Type 0} (told : ℕ → Option V) (name : ℕ) (v : V) → is_some (told name) ≡ false → (c : ℕ) → cond (nat_eq name c) (Some v) (told c) ≡ or_later (told c) (if name == c then Some v else None)
new_put {V} told name v h c = by_test (name == c) refl (told c) refl
  where
    there : (o : Option V) (x : V) → o ≡ Some x → is_some o ≡ false → ⊥
    there o x e f = absurd (cc)

    by_test : (b : Bool) → name == c ≡ b → (o : Option V) → told c ≡ o → cond b (Some v) o ≡ or_later o (if b then Some v else None)
    by_test true e None s = refl
    by_test false e None s = refl
    by_test false e (Some x) s = refl
    by_test true e (Some x) s = absurd (there (told name) x (ap told (eqb-true name c e) ∙ s) h)

next_more : (t : ℕ) (o : Option ℕ) (b : Bool) (k : ℕ) → or_next t (or_later o (if b then Some k else None)) None ≡ or_later (or_next t o None) (if b then Some (t, k) else None)
next_more t (Some x) b k = refl
next_more t None true k = refl
next_more t None false k = refl

-- one more constructor of an enumeration
pub case_added : (t k name c : ℕ) (done more : List ℕ) (old mid new : Option (ℕ × ℕ)) → more ≡ done ++ name ∷ [] → k ≡ length done
    → mid ≡ or_later old (or_next t (place_of c done) None) → new ≡ or_later mid (if name == c then Some (t, k) else None)
    → new ≡ or_later old (or_next t (place_of c more) None)
case_added t k name c done more old mid new added at' before now =
    now ∙ ap (λ z. or_later z (if name == c then Some (t, k) else None)) before
    ∙ later_assoc old (or_next t (place_of c done) None) (if name == c then Some (t, k) else None)
    ∙ ap (λ n. or_later old (or_later (or_next t (place_of c done) None) (if name == c then Some (t, n) else None))) at'
    ∙ ap (or_later old) (sym (next_more t (place_of c done) (name == c) (length done)))
    ∙ ap (λ o. or_later old (or_next t o None)) (sym (ap (place_of c) added ∙ place_more (λ y. y == c) done name 0 ∙ ap (λ n. or_later (place_of c done) (if name == c then Some n else None)) (zero-add (length done))))

next_rest : (t : ℕ) (o : Option ℕ) (a b : Option (ℕ × ℕ)) → or_next t o (or_later a b) ≡ or_later (or_next t o a) b
next_rest t (Some k) a b = refl
next_rest t None a b = refl

-- one more enumeration
places_more : (t : ℕ) (es : List (ℕ × List ℕ)) (e : ℕ × List ℕ) (c : ℕ) → case_place t (es ++ e ∷ []) c ≡ or_later (case_place t es c) (or_next (t + length es) (place_of c e.1) None)
places_more t [] e c = ap (λ n. or_next n (place_of c e.1) None) (omega arith)
places_more t (f ∷ es) e c =
    ap (λ z. or_next t (place_of c f.1) z) (places_more (suc t) es e c ∙ ap (λ n. or_later (case_place (suc t) es c) (or_next n (place_of c e.1) None)) (omega arith))
    ∙ next_rest t (place_of c f.1) (case_place (suc t) es c) (or_next (t + suc (length es)) (place_of c e.1) None)

pub enum_added : (t c : ℕ) (es more : List (ℕ × List ℕ)) (name : ℕ) (names : List ℕ) (old new : Option (ℕ × ℕ)) → more ≡ es ++ (name, names) ∷ [] → t ≡ length es
    → old ≡ case_place 0 es c → new ≡ or_later old (or_next t (place_of c names) None) → new ≡ case_place 0 more c
enum_added t c es more name names old new added at' before now =
    now ∙ ap₂ (λ o n. or_later o (or_next n (place_of c names) None)) before at'
    ∙ sym (ap (λ z. case_place 0 z c) added ∙ places_more 0 es (name, names) c ∙ ap (λ n. or_later (case_place 0 es c) (or_next n (place_of c names) None)) (zero-add (length es)))

-- the names of types

pub types_more : (es more : List (ℕ × List ℕ)) (name : ℕ) (names : List ℕ) (old new : List ℕ) → more ≡ es ++ (name, names) ∷ [] → old ≡ type_names es → new ≡ old ++ name ∷ [] → new ≡ type_names more
types_more es more name names old new added before now = now ∙ ap (λ l. l ++ name ∷ []) before ∙ at_end es ∙ ap type_names (sym added)
  where
    at_end : (xs : List (ℕ × List ℕ)) → type_names xs ++ name ∷ [] ≡ type_names (xs ++ (name, names) ∷ [])
    at_end [] = refl
    at_end (x ∷ xs) = ap (λ l. x.0 ∷ l) (at_end xs)
