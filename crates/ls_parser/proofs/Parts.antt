-- Phrases at the front of tokens are taken apart, and their parts are read.
use Rattle.std.proofs.Common.{◌≡◌, ℕ, zero, suc, ◌+◌, ◌<◌, ◌≤◌, ◌⊎◌, inl, inr, Bool, true, false, List, [], ◌∷◌, ◌++◌, Option, Some, None, max, length, length-append, refl, sym, ◌∙◌, ap, subst, arith, append_assoc, if◌then◌else◌}
use Rattle.std.specs.Prelude.{nat_lt}
use Rattle.std.proofs.lemmas.Bool.{lt-ltb}
use denote.Enum.Bare.{true_same}
use Rattle.ls_base.specs.declared.Name.{Name}
use Rattle.ls_lexer.specs.contracts.token.Fixed.{the_type}
use Rattle.ls_lexer.specs.declared.token.Fixed.{Fixed}
use Rattle.ls_lexer.specs.declared.token.Token.{Token}
use Rattle.ls_lexer.specs.declared.token.Token.TheVariants.{Fixed as Word}
use Rattle.ls_parser.specs.Notation.{Phrase, ◌▷◌, ◌◁◌, ◌⊗◌, ◌⇒◌, many, identifier, constructor}
use Rattle.ls_parser.specs.Reading.{Reader, ◌>>=◌, is_word, starts, word, name, constructor as constructor_read, taller, behind, both, form_of, collect}
use Rattle.ls_parser.proofs.Front.{At, append_nil, le_trans}

module _ {A : Type 0} where
  pub of_word : (p : Phrase A) (w : Fixed) (x : A) (ts r : List Token) → At (w ▷ p) x ts r → (m : List Token) × (ts ≡ Word w ∷ m) × At p x m r
  of_word p w x ts r a = (a.2.0 ++ r, a.1 ∙ ap (λ u. u ++ r) a.2.1, (a.2.0, refl, a.2.2))

  pub of_end : (p : Phrase A) (w : Fixed) (x : A) (ts r : List Token) → At (p ◁ w) x ts r → At p x ts (Word w ∷ r)
  of_end p w x ts r a = (a.2.0, a.1 ∙ ap (λ u. u ++ r) a.2.1 ∙ append_assoc a.2.0 (Word w ∷ []) r, a.2.2)

  pub of_both : {B : Type 0} (p : Phrase A) (q : Phrase B) (x : A × B) (ts r : List Token) → At (p ⊗ q) x ts r → (m : List Token) × At p x.0 ts m × At q x.1 m r
  of_both p q x ts r a = (a.2.1 ++ r, (a.2.0, a.1 ∙ ap (λ u. u ++ r) a.2.2 ∙ append_assoc a.2.0 a.2.1 r, a.2.3), (a.2.1, refl, a.2.4))

  pub of_made : {B : Type 0} (p : Phrase A) (f : A → B) (y : B) (ts r : List Token) → At (p ⇒ f) y ts r → (x : A) × (y ≡ f x) × At p x ts r
  of_made p f y ts r a = (a.2.0, a.2.1, (a.0, a.1, a.2.2))

  pub of_none : (p : Phrase A) (ts r : List Token) → At (many p) [] ts r → ts ≡ r
  of_none p ts r a = a.1 ∙ ap (λ u. u ++ r) a.2

  pub of_more : (p : Phrase A) (x : A) (xs : List A) (ts r : List Token) → At (many p) (x ∷ xs) ts r → (m : List Token) × At p x ts m × At (many p) xs m r
  of_more p x xs ts r a = (a.2.1 ++ r, (a.2.0, a.1 ∙ ap (λ u. u ++ r) a.2.2 ∙ append_assoc a.2.0 a.2.1 r, a.2.3), (a.2.1, refl, a.2.4))

  pub not_longer : (p : Phrase A) (x : A) (ts m : List Token) → At p x ts m → length m ≤ length ts
  not_longer p x ts m a = let e : length ts ≡ length a.0 + length m = ap length a.1 ∙ length-append a.0 m in omega arith

pub one_longer : (t : Token) (ts m : List Token) → ts ≡ t ∷ m → length ts ≡ length m + 1
one_longer t ts m e = ap length e ∙ (let l : length (t ∷ m) ≡ length m + 1 = omega arith in l)

-- what is read

pub then_some : {A B : Type 0} (f : A → Option B) (o : Option A) (x : A) (z : Option B) → o ≡ Some x → f x ≡ z → (o >>= f) ≡ z
then_some f o x z e g = ap (λ o. o >>= f) e ∙ g

pub if_yes : {B : Type 0} (b : Bool) (x y z : B) → b ≡ true → x ≡ z → (if b then x else y) ≡ z
if_yes b x y z e g = ap (λ b. if b then x else y) e ∙ g

pub if_no : {B : Type 0} (b : Bool) (x y z : B) → b ≡ false → y ≡ z → (if b then x else y) ≡ z
if_no b x y z e g = ap (λ b. if b then x else y) e ∙ g

pub itself : (w : Fixed) → is_word w (Word w) ≡ true
itself w = true_same the_type w w refl

pub word_reads : (w : Fixed) (ts m : List Token) → ts ≡ Word w ∷ m → word w ts ≡ Some m
unfolding word
word_reads w ts m is = ap (word w) is ∙ if_yes (is_word w (Word w)) (Some m) None (Some m) (itself w) refl

pub starts_yes : (w : Fixed) (ts m : List Token) → ts ≡ Word w ∷ m → starts w ts ≡ true
unfolding starts
starts_yes w ts m is = ap (starts w) is ∙ itself w

pub starts_no : (w : Fixed) (t : Token) (ts m : List Token) → ts ≡ t ∷ m → is_word w t ≡ false → starts w ts ≡ false
unfolding starts
starts_no w t ts m is other = ap (starts w) is ∙ other

pub name_reads : (x : Name) (ts m : List Token) → At identifier x ts m → name ts ≡ Some (x, m)
unfolding name
name_reads x ts m a = ap name (a.1 ∙ ap (λ u. u ++ m) a.2)

pub constructor_reads : (x : Name) (ts m : List Token) → At constructor x ts m → constructor_read ts ≡ Some (x, m)
unfolding constructor_read
constructor_reads x ts m a = ap constructor_read (a.1 ∙ ap (λ u. u ++ m) a.2)

pub taller_reads : (h d : ℕ) → h ≤ d → suc d ≤ 200 → taller h ≡ Some (h + 1)
taller_reads h d le small = let less : h < 200 = omega arith in if_yes (nat_lt h 200) (Some (h + 1)) None (Some (h + 1)) (lt-ltb h 200 less) refl

pub max_le : (a b c : ℕ) → a ≤ c → b ≤ c → max a b ≤ c
max_le a b c p q = omega arith

pub suc_le : (h d : ℕ) → h ≤ d → h + 1 ≤ suc d
suc_le h d le = omega arith

-- A reader finds each phrase up to a height, in no more tokens than a number, where what follows is as F says.
pub record Sure (A : Type 0) (n D : ℕ) (r : Reader A) (p : Phrase A) (F : List Token → Type 0) : Type 0 where
  pub finds : (ts m : List Token) (x : A) → length ts ≤ n → F m → At p x ts m → (h : ℕ) × (h ≤ D) × (r ts ≡ Some (x, h, m))

pub sure_behind : {A : Type 0} {n D : ℕ} {r : Reader A} {p : Phrase A} {F : List Token → Type 0} (w : Fixed) → Sure A n D r p F → Sure A n D (behind w r) (w ▷ p) F
sure_behind {A} {n} {D} {r} {p} {F} w s = record {
  finds = λ ts m x few follow a.
      let b = of_word p w x ts m a in
      let c = s.finds b.0 m x (le_trans (length b.0) (length ts) n (let e = one_longer (Word w) ts b.0 b.1 in omega arith) few) follow b.2 in
      (c.0, c.1, then_some r (word w ts) b.0 (Some (x, c.0, m)) (word_reads w ts b.0 b.1) c.2);
}

pub sure_both : {A B : Type 0} {n D : ℕ} {r : Reader A} {s : Reader B} {p : Phrase A} {q : Phrase B} {F G : List Token → Type 0} → Sure A n D r p F → Sure B n D s q G
    → ((x : B) (ts m : List Token) → At q x ts m → F ts) → Sure (A × B) n D (both r s) (p ⊗ q) G
sure_both {A} {B} {n} {D} {r} {s} {p} {q} {F} {G} f g next = record {
  finds = λ ts m x few follow a.
      let b = of_both p q x ts m a in
      let c = f.finds ts b.0 x.0 few (next x.1 b.0 m b.2) b.1 in
      let d = g.finds b.0 m x.1 (le_trans (length b.0) (length ts) n (not_longer p x.0 ts b.0 b.1) few) follow b.2 in (
        max c.0 d.0,
        max_le c.0 d.0 D c.1 d.1,
        then_some (λ x. s x.2 >>= λ y. Some ((x.0, y.0), max x.1 y.1, y.2)) (r ts) (x.0, c.0, b.0) (Some (x, max c.0 d.0, m)) c.2
            (then_some (λ y. Some ((x.0, y.0), max c.0 y.1, y.2)) (s b.0) (x.1, d.0, m) (Some (x, max c.0 d.0, m)) d.2 refl),
      );
}

pub sure_form : {A B : Type 0} {n D : ℕ} {r : Reader A} {p : Phrase A} {F : List Token → Type 0} (f : A → B) → suc D ≤ 200 → Sure A n D r p F → Sure B n (suc D) (form_of f r) (p ⇒ f) F
sure_form {A} {B} {n} {D} {r} {p} {F} f small s = record {
  finds = λ ts m y few follow a.
      let b = of_made p f y ts m a in
      let c = s.finds ts m b.0 few follow b.2 in (
        c.0 + 1,
        suc_le c.0 D c.1,
        then_some (λ x. taller x.1 >>= λ h. Some (f x.0, h, x.2)) (r ts) (b.0, c.0, m) (Some (y, c.0 + 1, m)) c.2
            (then_some (λ h. Some (f b.0, h, m)) (taller c.0) (c.0 + 1) (Some (y, c.0 + 1, m)) (taller_reads c.0 D c.1 small) (λ i. Some (sym b.1 i, c.0 + 1, m))),
      );
}

-- A row of phrases is found: each of them begins as the test says, and is followed as F says by the next one and by what stands behind the row.
module _ {A : Type 0} (n D : ℕ) (test : List Token → Bool) (r : Reader A) (p : Phrase A) (F : List Token → Type 0) (s : Sure A n D r p F)
    (begins : (x : A) (ts m : List Token) → At p x ts m → test ts ≡ true) (next : (x : A) (ts m : List Token) → At p x ts m → F ts) where
  after_row : (xs : List A) (ts m : List Token) → F m → At (many p) xs ts m → F ts
  after_row [] ts m follow a = subst F (sym (of_none p ts m a)) follow
  after_row (x ∷ xs) ts m follow a = let b = of_more p x xs ts m a in next x ts b.0 b.1

  pub row_found : (k : ℕ) (done xs : List A) (g : ℕ) (ts m : List Token) → length xs ≤ k → (length xs ≡ k) ⊎ (test m ≡ false) → g ≤ D → length ts ≤ n → F m → At (many p) xs ts m
      → (h : ℕ) × (h ≤ D) × (collect k test r done g ts ≡ Some (done ++ xs, h, m))
  row_found zero done [] g ts m le stop low few follow a = (g, low, (λ i. Some (sym (append_nil done) i, g, of_none p ts m a i)))
  row_found zero done (x ∷ xs) g ts m le stop low few follow a = absurd (let e : length (x ∷ xs) ≡ length xs + 1 = omega arith in omega arith)
  row_found (suc k) done [] g ts m le stop low few follow a =
      let no : test m ≡ false = elim stop [ inl e ↦ absurd (omega arith) | inr e ↦ e ] in (
        g,
        low,
        if_no (test ts) (r ts >>= λ x. collect k test r (done ++ x.0 ∷ []) (max g x.1) x.2) (Some (done, g, ts)) (Some (done ++ [], g, m)) (ap test (of_none p ts m a) ∙ no)
            (λ i. Some (sym (append_nil done) i, g, of_none p ts m a i)),
      )
  row_found (suc k) done (x ∷ xs) g ts m le stop low few follow a =
      let b = of_more p x xs ts m a in
      let c = s.finds ts b.0 x few (after_row xs b.0 m follow b.2) b.1 in
      let l : length (x ∷ xs) ≡ length xs + 1 = omega arith in
      let stop2 : (length xs ≡ k) ⊎ (test m ≡ false) = elim stop [ inl e ↦ inl (omega arith) | inr e ↦ inr e ] in
      let d = row_found k (done ++ x ∷ []) xs (max g c.0) b.0 m (omega arith) stop2 (max_le g c.0 D low c.1) (le_trans (length b.0) (length ts) n (not_longer p x ts b.0 b.1) few) follow b.2 in (
        d.0,
        d.1,
        if_yes (test ts) (r ts >>= λ x. collect k test r (done ++ x.0 ∷ []) (max g x.1) x.2) (Some (done, g, ts)) (Some (done ++ x ∷ xs, d.0, m)) (begins x ts b.0 b.1)
            (then_some (λ x. collect k test r (done ++ x.0 ∷ []) (max g x.1) x.2) (r ts) (x, c.0, b.0) (Some (done ++ x ∷ xs, d.0, m)) c.2
            (d.2 ∙ (λ i. Some (append_assoc done (x ∷ []) xs i, d.0, m)))),
      )

  -- a row has no more phrases than tokens
  pub row_short : ((x : A) (ts m : List Token) → At p x ts m → length m + 1 ≤ length ts) → (xs : List A) (ts m : List Token) → At (many p) xs ts m → length xs ≤ length ts
  row_short one [] ts m a = let e : length {A = A} [] ≡ 0 = refl in omega arith
  row_short one (x ∷ xs) ts m a =
      let b = of_more p x xs ts m a in
      let l : length (x ∷ xs) ≡ length xs + 1 = omega arith in
      let i = row_short one xs b.0 m b.2 in
      let o = one x ts b.0 b.1 in
      omega arith
