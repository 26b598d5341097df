-- Phrases at the front of tokens: how they come from their parts, and how what was read is taken apart.
use Rattle.std.proofs.Common.{◌≡◌, ℕ, zero, suc, ◌+◌, ◌≤◌, ◌⊎◌, inl, inr, Bool, true, false, List, [], ◌∷◌, ◌++◌, Option, Some, None, max, refl, sym, ◌∙◌, ap, subst, arith, append_assoc, if◌then◌else◌}
use Rattle.std.specs.Prelude.{nat_lt}
use denote.Enum.Bare.{same_true}
use Rattle.ls_base.specs.declared.Name.{Name}
use Rattle.ls_lexer.specs.contracts.token.Fixed.{the_type}
use Rattle.ls_lexer.specs.declared.token.Fixed.{Fixed}
use Rattle.ls_lexer.specs.declared.token.Token.{Token}
use Rattle.ls_lexer.specs.declared.token.Token.TheVariants.{Fixed as Word, Id, Cons, Int, Char, Text, Prefix}
use Rattle.ls_parser.specs.Notation.{Phrase, ◌▷◌, ◌◁◌, ◌⊗◌, ◌⇒◌, ◌or◌, many, separated, identifier, constructor}
use Rattle.ls_parser.specs.Reading.{Reader, ◌>>=◌, uncons, is_word, word, name, constructor as constructor_read, name_of, constructor_of, taller, behind, both, form_of, collect}

-- a phrase stands at the front, before what is left
abbrev pub At : {A : Type 0} → Phrase A → A → List Token → List Token → Type 0
At p x ts m = (used : List Token) × (ts ≡ used ++ m) × p x used

-- what was read is taken apart

pub some_of : {A B : Type 0} (o : Option A) (f : A → Option B) (y : B) → (o >>= f) ≡ Some y → (x : A) × (o ≡ Some x) × (f x ≡ Some y)
some_of None f y e = absurd (cc)
some_of (Some x) f y e = (x, refl, e)

pub branch_of : {A : Type 0} (b : Bool) (x y z : A) → (if b then x else y) ≡ z → ((b ≡ true) × (x ≡ z)) ⊎ ((b ≡ false) × (y ≡ z))
branch_of true x y z e = inl (refl, e)
branch_of false x y z e = inr (refl, e)

pub some_one : {A : Type 0} (x y : A) → Some x ≡ Some y → x ≡ y
some_one x y e = cc

pub none_some : {A : Type 0} (x : A) → None ≡ Some x → ⊥
none_some x e = cc

pub taller_is : (h k : ℕ) → taller h ≡ Some k → k ≡ h + 1
taller_is h k e = elim (branch_of (nat_lt h 200) (Some (h + 1)) None (Some k) e) [ inl p ↦ sym (some_one (h + 1) k p.1) | inr p ↦ absurd (none_some k p.1) ]

pub cons_of : (ts : List Token) (p : Token × List Token) → uncons ts ≡ Some p → ts ≡ p.0 ∷ p.1
cons_of [] p e = absurd (none_some p e)
cons_of (t ∷ ts) p e = ap (λ (q : Token × List Token). q.0 ∷ q.1) (some_one (t, ts) p e)

pub word_one : (w : Fixed) (t : Token) → is_word w t ≡ true → t ≡ Word w
word_one w (Word v) e = ap Word (same_true the_type tt v w e)
word_one w (Id x) e = absurd (cc)
word_one w (Cons x) e = absurd (cc)
word_one w (Int x) e = absurd (cc)
word_one w (Char x) e = absurd (cc)
word_one w (Text x) e = absurd (cc)
word_one w (Prefix x) e = absurd (cc)

pub word_of : (w : Fixed) (ts m : List Token) → word w ts ≡ Some m → ts ≡ Word w ∷ m
unfolding word
word_of w ts m e =
    let p = some_of (uncons ts) (λ p. if is_word w p.0 then Some p.1 else None) m e in
    elim (branch_of (is_word w p.0.0) (Some p.0.1) None (Some m) p.2) [
      | inl q ↦ cons_of ts p.0 p.1 ∙ (λ i. word_one w p.0.0 q.0 i ∷ some_one p.0.1 m q.1 i)
      | inr q ↦ absurd (none_some m q.1)
    ]

pub id_of : (t : Token) (x : Name) → name_of t ≡ Some x → t ≡ Id x
id_of (Id y) x e = ap Id (some_one y x e)
id_of (Word v) x e = absurd (cc)
id_of (Cons v) x e = absurd (cc)
id_of (Int v) x e = absurd (cc)
id_of (Char v) x e = absurd (cc)
id_of (Text v) x e = absurd (cc)
id_of (Prefix v) x e = absurd (cc)

pub cons_token : (t : Token) (x : Name) → constructor_of t ≡ Some x → t ≡ Cons x
cons_token (Cons y) x e = ap Cons (some_one y x e)
cons_token (Word v) x e = absurd (cc)
cons_token (Id v) x e = absurd (cc)
cons_token (Int v) x e = absurd (cc)
cons_token (Char v) x e = absurd (cc)
cons_token (Text v) x e = absurd (cc)
cons_token (Prefix v) x e = absurd (cc)

pub name_at : (ts : List Token) (p : Name × List Token) → name ts ≡ Some p → At identifier p.0 ts p.1
unfolding name
name_at ts p e =
    let q = some_of (uncons ts) (λ p. name_of p.0 >>= λ x. Some (x, p.1)) p e in
    let r = some_of (name_of q.0.0) (λ x. Some (x, q.0.1)) p q.2 in
    let same = some_one (r.0, q.0.1) p r.2 in
    (Id p.0 ∷ [], cons_of ts q.0 q.1 ∙ (λ i. id_of q.0.0 r.0 r.1 i ∷ q.0.1) ∙ (λ i. Id (same i).0 ∷ (same i).1), refl)

pub constructor_at : (ts : List Token) (p : Name × List Token) → constructor_read ts ≡ Some p → At constructor p.0 ts p.1
unfolding constructor_read
constructor_at ts p e =
    let q = some_of (uncons ts) (λ p. constructor_of p.0 >>= λ x. Some (x, p.1)) p e in
    let r = some_of (constructor_of q.0.0) (λ x. Some (x, q.0.1)) p q.2 in
    let same = some_one (r.0, q.0.1) p r.2 in
    (Cons p.0 ∷ [], cons_of ts q.0 q.1 ∙ (λ i. cons_token q.0.0 r.0 r.1 i ∷ q.0.1) ∙ (λ i. Cons (same i).0 ∷ (same i).1), refl)

pub true_false : true ≡ false → ⊥
true_false e = cc

pub le_refl : (n : ℕ) → n ≤ n
le_refl n = omega arith

pub le_trans : (a b c : ℕ) → a ≤ b → b ≤ c → a ≤ c
le_trans a b c p q = omega arith

pub max_left : (a b c : ℕ) → max a b ≤ c → a ≤ c
max_left a b c p = omega arith

pub max_right : (a b c : ℕ) → max a b ≤ c → b ≤ c
max_right a b c p = omega arith

pub one_more : (h k : ℕ) → taller h ≡ Some k → 1 ≤ k
one_more h k e = let p = taller_is h k e in omega arith

pub less_high : (h k D : ℕ) → taller h ≡ Some k → k ≤ suc D → h ≤ D
less_high h k D e le = let p = taller_is h k e in omega arith

pub append_nil : {A : Type 0} (xs : List A) → xs ++ [] ≡ xs
append_nil [] = refl
append_nil (x ∷ xs) = ap (λ ys. x ∷ ys) (append_nil xs)

-- phrases come from their parts

module _ {A : Type 0} where
  pub at_word : (p : Phrase A) (w : Fixed) (x : A) (ts m r : List Token) → ts ≡ Word w ∷ m → At p x m r → At (w ▷ p) x ts r
  at_word p w x ts m r is a = (Word w ∷ a.0, is ∙ ap (λ u. Word w ∷ u) a.1, (a.0, refl, a.2))

  pub at_end : (p : Phrase A) (w : Fixed) (x : A) (ts m r : List Token) → At p x ts m → m ≡ Word w ∷ r → At (p ◁ w) x ts r
  at_end p w x ts m r a is = (a.0 ++ Word w ∷ [], a.1 ∙ ap (λ u. a.0 ++ u) is ∙ sym (append_assoc a.0 (Word w ∷ []) r), (a.0, refl, a.2))

  pub at_made : {B : Type 0} (p : Phrase A) (f : A → B) (x : A) (y : B) (ts r : List Token) → y ≡ f x → At p x ts r → At (p ⇒ f) y ts r
  at_made p f x y ts r is a = (a.0, a.1, (x, is, a.2))

  pub at_left : (p q : Phrase A) (x : A) (ts r : List Token) → At p x ts r → At (p or q) x ts r
  at_left p q x ts r a = (a.0, a.1, inl a.2)

  pub at_right : (p q : Phrase A) (x : A) (ts r : List Token) → At q x ts r → At (p or q) x ts r
  at_right p q x ts r a = (a.0, a.1, inr a.2)

  pub at_both : {B : Type 0} (p : Phrase A) (q : Phrase B) (x : A) (y : B) (ts m r : List Token) → At p x ts m → At q y m r → At (p ⊗ q) (x, y) ts r
  at_both p q x y ts m r a b = (a.0 ++ b.0, a.1 ∙ ap (λ u. a.0 ++ u) b.1 ∙ sym (append_assoc a.0 b.0 r), (a.0, b.0, refl, a.2, b.2))

  pub at_none : (p : Phrase A) (ts : List Token) → At (many p) [] ts ts
  at_none p ts = ([], refl, refl)

  pub at_more : (p : Phrase A) (x : A) (xs : List A) (ts m r : List Token) → At p x ts m → At (many p) xs m r → At (many p) (x ∷ xs) ts r
  at_more p x xs ts m r a b = (a.0 ++ b.0, a.1 ∙ ap (λ u. a.0 ++ u) b.1 ∙ sym (append_assoc a.0 b.0 r), (a.0, b.0, refl, a.2, b.2))

-- What was read: a value, its height and the tokens behind.
abbrev pub Got : Type 0 → Type 0
Got A = A × ℕ × List Token

-- it is a phrase up to each height from its own on
abbrev pub Reads : {A : Type 0} → (ℕ → Phrase A) → List Token → Got A → Type 0
Reads p ts z = (D : ℕ) → z.1 ≤ D → At (p D) z.0 ts z.2

-- it is higher than its parts
abbrev pub Stands : {A : Type 0} → (ℕ → Phrase A) → List Token → Got A → Type 0
Stands p ts z = (1 ≤ z.1) × ((D : ℕ) → z.1 ≤ suc D → At (p D) z.0 ts z.2)

-- what a reader reads is a phrase up to each height from its own on
pub record Sound (A : Type 0) (r : Reader A) (p : ℕ → Phrase A) : Type 0 where
  pub reads : (ts : List Token) (z : Got A) → r ts ≡ Some z → Reads p ts z

-- what a reader reads is higher than its parts
pub record Tall (A : Type 0) (r : Reader A) (p : ℕ → Phrase A) : Type 0 where
  pub stands : (ts : List Token) (z : Got A) → r ts ≡ Some z → Stands p ts z

pub give : {Z : Type 0} (P : Z → Type 0) (u v : Z) → Some u ≡ Some v → P u → P v
give P u v e a = subst P (some_one u v e) a

pub sound_behind : {A : Type 0} {r : Reader A} {p : ℕ → Phrase A} (w : Fixed) → Sound A r p → Sound A (behind w r) (λ D. w ▷ p D)
sound_behind {A} {r} {p} w s = record {
  reads = λ ts z e D le.
      let q = some_of (word w ts) r z e in
      at_word (p D) w z.0 ts q.0 z.2 (word_of w ts q.0 q.1) (s.reads q.0 z q.2 D le);
}

pub sound_both : {A B : Type 0} {r : Reader A} {s : Reader B} {p : ℕ → Phrase A} {q : ℕ → Phrase B} → Sound A r p → Sound B s q → Sound (A × B) (both r s) (λ D. p D ⊗ q D)
sound_both {A} {B} {r} {s} {p} {q} f g = record {
  reads = λ ts z e.
      let a = some_of (r ts) (λ x. s x.2 >>= λ y. Some ((x.0, y.0), max x.1 y.1, y.2)) z e in
      let b = some_of (s a.0.2) (λ y. Some ((a.0.0, y.0), max a.0.1 y.1, y.2)) z a.2 in
      give (Reads (λ D. p D ⊗ q D) ts) ((a.0.0, b.0.0), max a.0.1 b.0.1, b.0.2) z b.2
      (λ D le. at_both (p D) (q D) a.0.0 b.0.0 ts a.0.2 b.0.2 (f.reads ts a.0 a.1 D (max_left a.0.1 b.0.1 D le)) (g.reads a.0.2 b.0 b.1 D (max_right a.0.1 b.0.1 D le)));
}

pub tall_form : {A B : Type 0} {r : Reader A} {p : ℕ → Phrase A} (f : A → B) → Sound A r p → Tall B (form_of f r) (λ D. p D ⇒ f)
tall_form {A} {B} {r} {p} f s = record {
  stands = λ ts z e.
      let a = some_of (r ts) (λ x. taller x.1 >>= λ h. Some (f x.0, h, x.2)) z e in
      let b = some_of (taller a.0.1) (λ h. Some (f a.0.0, h, a.0.2)) z a.2 in
      give (Stands (λ D. p D ⇒ f) ts) (f a.0.0, b.0, a.0.2) z b.2
      (one_more a.0.1 b.0 b.1, λ D le. at_made (p D) f a.0.0 (f a.0.0) ts a.0.2 refl (s.reads ts a.0 a.1 D (less_high a.0.1 b.0 D b.1 le)));
}

-- what is higher than its parts
pub whole : {A : Type 0} (p : ℕ → Phrase A) (ts : List Token) (z : Got A) → Stands (λ D. p (suc D)) ts z → Reads p ts z
whole p ts z s zero le = absurd (none_at z.1 s.0 le)
  where
    none_at : (h : ℕ) → 1 ≤ h → h ≤ 0 → ⊥
    none_at h one le = omega arith
whole p ts z s (suc D) le = s.1 D le

module _ {A : Type 0} where
  abbrev pub Behind : (ℕ → Phrase A) → List A → ℕ → List Token → Got (List A) → Type 0
  Behind p done g ts z = (g ≤ z.1) × ((ys : List A) × (z.0 ≡ done ++ ys) × ((D : ℕ) → z.1 ≤ D → At (many (p D)) ys ts z.2))

  -- a row of phrases is read behind what was read so far
  pub sound_collect : (k : ℕ) (test : List Token → Bool) (r : Reader A) (p : ℕ → Phrase A) → Sound A r p → (done : List A) (g : ℕ) (ts : List Token) (z : Got (List A))
      → collect k test r done g ts ≡ Some z → Behind p done g ts z
  sound_collect zero test r p s done g ts z e = give (Behind p done g ts) (done, g, ts) z e (le_refl g, ([], sym (append_nil done), λ D le. at_none (p D) ts))
  sound_collect (suc k) test r p s done g ts z e =
      let stop : Behind p done g ts (done, g, ts) = (le_refl g, ([], sym (append_nil done), λ D le. at_none (p D) ts)) in
      elim (branch_of (test ts) (r ts >>= λ x. collect k test r (done ++ x.0 ∷ []) (max g x.1) x.2) (Some (done, g, ts)) (Some z) e) [
        | inl q ↦
            let a = some_of (r ts) (λ x. collect k test r (done ++ x.0 ∷ []) (max g x.1) x.2) z q.1 in
            let b = sound_collect k test r p s (done ++ a.0.0 ∷ []) (max g a.0.1) a.0.2 z a.2 in (
              max_left g a.0.1 z.1 b.0,
              (
                a.0.0 ∷ b.1.0,
                b.1.1 ∙ append_assoc done (a.0.0 ∷ []) b.1.0,
                λ D le. at_more (p D) a.0.0 b.1.0 ts a.0.2 z.2 (s.reads ts a.0 a.1 D (le_trans a.0.1 z.1 D (max_right g a.0.1 z.1 b.0) le)) (b.1.2 D le),
              ),
            )
        | inr q ↦ give (Behind p done g ts) (done, g, ts) z q.1 stop
      ]

  -- the same where one begins, and at least one turn is left
  abbrev pub Begins : (ℕ → Phrase A) → List A → ℕ → List Token → Got (List A) → Type 0
  Begins p done g ts z = (g ≤ z.1) × ((x : A) × (ys : List A) × (z.0 ≡ done ++ x ∷ ys) × ((D : ℕ) → z.1 ≤ D → At (many (p D)) (x ∷ ys) ts z.2))

  begins_suc : (k : ℕ) (test : List Token → Bool) (r : Reader A) (p : ℕ → Phrase A) → Sound A r p → (done : List A) (g : ℕ) (ts : List Token) (z : Got (List A))
      → test ts ≡ true → collect (suc k) test r done g ts ≡ Some z → Begins p done g ts z
  begins_suc k test r p s done g ts z begun e =
      elim (branch_of (test ts) (r ts >>= λ x. collect k test r (done ++ x.0 ∷ []) (max g x.1) x.2) (Some (done, g, ts)) (Some z) e) [
        | inl q ↦
            let a = some_of (r ts) (λ x. collect k test r (done ++ x.0 ∷ []) (max g x.1) x.2) z q.1 in
            let b = sound_collect k test r p s (done ++ a.0.0 ∷ []) (max g a.0.1) a.0.2 z a.2 in (
              max_left g a.0.1 z.1 b.0,
              (
                a.0.0,
                b.1.0,
                b.1.1 ∙ append_assoc done (a.0.0 ∷ []) b.1.0,
                λ D le. at_more (p D) a.0.0 b.1.0 ts a.0.2 z.2 (s.reads ts a.0 a.1 D (le_trans a.0.1 z.1 D (max_right g a.0.1 z.1 b.0) le)) (b.1.2 D le),
              ),
            )
        | inr q ↦ absurd (true_false (sym begun ∙ q.0))
      ]

  pub sound_begins : (n : ℕ) → 1 ≤ n → (test : List Token → Bool) (r : Reader A) (p : ℕ → Phrase A) → Sound A r p → (done : List A) (g : ℕ) (ts : List Token) (z : Got (List A))
      → test ts ≡ true → collect n test r done g ts ≡ Some z → Begins p done g ts z
  sound_begins zero pos test r p s done g ts z begun e = absurd (omega arith)
  sound_begins (suc k) pos test r p s done g ts z begun e = begins_suc k test r p s done g ts z begun e

-- phrases between which a word stands
pub sound_separated : {A : Type 0} (n : ℕ) (test : List Token → Bool) (w : Fixed) (r : Reader A) (p : ℕ → Phrase A) → Sound A r p → (ts : List Token) (z : Got (List A))
    → (r ts >>= λ x. collect n test (behind w r) (x.0 ∷ []) x.1 x.2) ≡ Some z → Reads (λ D. separated w (p D)) ts z
sound_separated n test w r p s ts z e D le =
    let a = some_of (r ts) (λ x. collect n test (behind w r) (x.0 ∷ []) x.1 x.2) z e in
    let b = sound_collect n test (behind w r) (λ D. w ▷ p D) (sound_behind w s) (a.0.0 ∷ []) a.0.1 a.0.2 z a.2 in
    subst (λ xs. At (separated w (p D)) xs ts z.2) (sym b.1.1)
    (at_both (p D) (many (w ▷ p D)) a.0.0 b.1.0 ts a.0.2 z.2 (s.reads ts a.0 a.1 D (le_trans a.0.1 z.1 D b.0 le)) (b.1.2 D le))
