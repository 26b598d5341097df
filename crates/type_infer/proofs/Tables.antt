-- Tables of constructors, and the numbers of spellings.
use Rattle.std.specs.Prelude.{◌≡◌, refl, ℕ, zero, suc, ◌+◌, ◌<◌, ◌==◌, Bool, true, false, List, [], ◌∷◌, length, slice_get, Option, Some, None, is_some, if◌then◌else◌, nat_eq, cond, slice_index_or}
use Rattle.std.proofs.Common.{ap, ap₂, sym, ◌∙◌, arith}
use Rattle.std.proofs.lemmas.Bool.{eqb-true}
use Rattle.std.proofs.lemmas.Slice.Eq.{bytes_eq-Decides}
use Rattle.std.specs.List.{Contains}
use Rattle.std.specs.Str.{bytes_eq}
use Rattle.ls_ast.specs.declared.tree.DefOf.{DefOf}
use Rattle.ls_ast.specs.declared.tree.DefOf.TheVariants as d
use Rattle.ls_base.specs.Names.{Distinct}
use Rattle.ls_base.specs.declared.Name.{Name}
use Rattle.ls_sig.specs.declared.binder.Use.{Use}
use Rattle.type_infer.specs.Constructors.{or_later, enumeration_in, next_enumeration, spelling_at}
use Rattle.type_rules.specs.Files.{has_name, enumeration_of}

pub later_none : {A : Type 0} (o : Option A) → or_later o None ≡ o
later_none (Some x) = refl
later_none None = refl

later_assoc : {A : Type 0} (a b c : Option A) → or_later (or_later a b) c ≡ or_later a (or_later b c)
later_assoc (Some x) b c = refl
later_assoc None b c = refl

-- ---- one more constructor

-- a key that is there stays, whatever comes for it
pub old_stays : {V : Type 0} (told : ℕ → Option V) (name : ℕ) (v : V) → is_some (told name) ≡ true → (c : ℕ) → told c ≡ or_later (told c) (if name == c then Some v else None)
old_stays {V} told name v h c = by_test (name == c) refl (told c) refl
  where
    lost : (o : Option V) → o ≡ None → is_some o ≡ true → ⊥
    lost o e f = absurd (cc)

    by_test : (b : Bool) → name == c ≡ b → (o : Option V) → told c ≡ o → o ≡ or_later o (if b then Some v else None)
    by_test b e (Some x) s = refl
    by_test false e None s = refl
    by_test true e None s = absurd (lost (told name) (ap told (eqb-true name c e) ∙ s) h)

-- a key that is not there takes its value
pub new_put : {V : Type 0} (told : ℕ → Option V) (name : ℕ) (v : V) → is_some (told name) ≡ false → (c : ℕ) → cond (nat_eq name c) (Some v) (told c) ≡ or_later (told c) (if name == c then Some v else None)
new_put {V} told name v h c = by_test (name == c) refl (told c) refl
  where
    there : (o : Option V) (x : V) → o ≡ Some x → is_some o ≡ false → ⊥
    there o x e f = absurd (cc)

    by_test : (b : Bool) → name == c ≡ b → (o : Option V) → told c ≡ o → cond b (Some v) o ≡ or_later o (if b then Some v else None)
    by_test true e None s = refl
    by_test false e None s = refl
    by_test false e (Some x) s = refl
    by_test true e (Some x) s = absurd (there (told name) x (ap told (eqb-true name c e) ∙ s) h)

either_name : (b c : Bool) (k : ℕ) → or_later (if b then Some k else None) (if c then Some k else None) ≡ (if (if b then true else c) then Some k else None)
either_name true c k = refl
either_name false c k = refl

-- a turn of the loop over the constructors of an enumeration
pub name_turn : (k : ℕ) (n : Name) (front all rest : List Name) (x : ℕ) (old mid new : Option ℕ) → front ≡ n ∷ rest → new ≡ or_later mid (if n.0 == x then Some k else None)
    → or_later mid (if has_name x front then Some k else None) ≡ or_later old (if has_name x all then Some k else None)
    → or_later new (if has_name x rest then Some k else None) ≡ or_later old (if has_name x all then Some k else None)
name_turn k n front all rest x old mid new split now before =
    ap (λ z. or_later z (if has_name x rest then Some k else None)) now
    ∙ later_assoc mid (if n.0 == x then Some k else None) (if has_name x rest then Some k else None)
    ∙ ap (or_later mid) (either_name (n.0 == x) (has_name x rest) k)
    ∙ ap (λ l. or_later mid (if has_name x l then Some k else None)) (sym split)
    ∙ before

first_or : (b : Bool) (k : ℕ) (o : Option ℕ) → or_later (if b then Some k else None) o ≡ (if b then Some k else o)
first_or true k o = refl
first_or false k o = refl

-- a turn of the loop over the enumerations of an environment
pub enum_turn : (k k' : ℕ) (e : Name × List Name) (names : List Name) (front rest : List (Name × List Name)) (x : ℕ) (whole mid new : Option ℕ) → front ≡ e ∷ rest → k' ≡ k + 1 → names ≡ e.1
    → new ≡ or_later mid (if has_name x names then Some k else None)
    → or_later mid (enumeration_in k front x) ≡ whole → or_later new (enumeration_in k' rest x) ≡ whole
enum_turn k k' e names front rest x whole mid new split next same now before =
    let on : k' ≡ suc k = omega (arith, next) in
    ap₂ (λ z i. or_later z (enumeration_in i rest x)) (now ∙ ap (λ l. or_later mid (if has_name x l then Some k else None)) same) on
    ∙ later_assoc mid (if has_name x e.1 then Some k else None) (enumeration_in (suc k) rest x)
    ∙ ap (or_later mid) (first_or (has_name x e.1) k (enumeration_in (suc k) rest x))
    ∙ ap (λ l. or_later mid (enumeration_in k l x)) (sym split)
    ∙ before

one_definition : (k : ℕ) (def : DefOf Use) (rest : List (DefOf Use)) (x : ℕ) → or_later (enumeration_of k (def ∷ []) x) (enumeration_of (next_enumeration k def) rest x) ≡ enumeration_of k (def ∷ rest) x
one_definition k (d.Let line node name params marks notes body) rest x = refl
one_definition k (d.Cases line name cases) rest x =
    let on : k + 1 ≡ suc k = omega arith in
    first_or (has_name x cases) k (enumeration_of (k + 1) rest x) ∙ ap (λ i. if has_name x cases then Some k else enumeration_of i rest x) on

-- a turn of the loop over the definitions of a file
pub definition_turn : (k k' : ℕ) (def : DefOf Use) (front rest : List (DefOf Use)) (x : ℕ) (whole mid new : Option ℕ) → front ≡ def ∷ rest → k' ≡ next_enumeration k def
    → new ≡ or_later mid (enumeration_of k (def ∷ []) x)
    → or_later mid (enumeration_of k front x) ≡ whole → or_later new (enumeration_of k' rest x) ≡ whole
definition_turn k k' def front rest x whole mid new split next now before =
    ap₂ (λ z i. or_later z (enumeration_of i rest x)) now next
    ∙ later_assoc mid (enumeration_of k (def ∷ []) x) (enumeration_of (next_enumeration k def) rest x)
    ∙ ap (or_later mid) (one_definition k def rest x)
    ∙ ap (λ l. or_later mid (enumeration_of k l x)) (sym split)
    ∙ before

-- ---- the number of a spelling

abbrev item_or : List ℕ → Option (List ℕ) → List ℕ
item_or d (Some x) = x
item_or d None = d

not_true : (b : Bool) → (b ≡ true → ⊥) → b ≡ false
not_true true h = absurd (h refl)
not_true false h = refl

below : (names : List (List ℕ)) (k : ℕ) (t : List ℕ) → slice_get names k ≡ Some t → k < length names
below [] k t e = absurd (cc)
below (n ∷ ns) zero t e = omega arith
below (n ∷ ns) (suc k) t e = let h = below ns k t e in omega (arith, h)

item : (names : List (List ℕ)) (k : ℕ) (t e : List ℕ) → slice_get names k ≡ Some t → slice_index_or names k e ≡ t
item [] k t e h = absurd (cc)
item (n ∷ ns) zero t e h = ap (item_or n) h
item (n ∷ ns) (suc k) t e h = item ns k t e h

nowhere : (names : List (List ℕ)) (i : ℕ) (text : List ℕ) → ((k : ℕ) → slice_get names k ≡ Some text → ⊥) → spelling_at i names text ≡ None
nowhere [] i text h = refl
nowhere (n ∷ ns) i text h =
    ap (λ b. if b then Some i else spelling_at (suc i) ns text) (not_true (bytes_eq n text) (λ q. h 0 (ap (λ z. Some z) ((bytes_eq-Decides n text).0 q))))
    ∙ nowhere ns (suc i) text (λ k e. h (suc k) e)

first_at : (names : List (List ℕ)) (i k : ℕ) (text : List ℕ) → slice_get names k ≡ Some text → ((j : ℕ) → slice_get names j ≡ Some text → j ≡ k) → spelling_at i names text ≡ Some (i + k)
first_at [] i k text e u = absurd (cc)
first_at (n ∷ ns) i zero text e u =
    ap (λ b. if b then Some i else spelling_at (suc i) ns text) ((bytes_eq-Decides n text).1 (ap (item_or n) e)) ∙ ap (λ m. Some m) (omega arith)
first_at (n ∷ ns) i (suc k) text e u =
    let further : suc i + k ≡ i + suc k = omega arith in
    let later : bytes_eq n text ≡ false = not_true (bytes_eq n text) (λ q. let z = u 0 (ap (λ w. Some w) ((bytes_eq-Decides n text).0 q)) in absurd (omega (arith, z))) in
    ap (λ b. if b then Some i else spelling_at (suc i) ns text) later
    ∙ first_at ns (suc i) k text e (λ j q. let z = u (suc j) q in omega (arith, z)) ∙ ap (λ m. Some m) further

pub spelling_absent : (names : List (List ℕ)) (text : List ℕ) → (Contains names text → ⊥) → spelling_at 0 names text ≡ None
spelling_absent names text absent = nowhere names 0 text (λ k e. absent (k, below names k text e, item names k text text e))

pub spelling_found : (names : List (List ℕ)) (text : List ℕ) (k : ℕ) → Distinct names → slice_get names k ≡ Some text → spelling_at 0 names text ≡ Some k
spelling_found names text k distinct e =
    let from : 0 + k ≡ k = omega arith in
    first_at names 0 k text e (λ j q. distinct j k text q e) ∙ ap (λ m. Some m) from
