-- Each pattern, equation and handler is read.
use Rattle.std.proofs.Common.{◌≡◌, ℕ, zero, suc, ◌+◌, ◌≤◌, ◌⊎◌, inl, inr, Bool, true, false, List, [], ◌∷◌, ◌++◌, Option, Some, None, max, length, length-append, refl, sym, ◌∙◌, ap, subst, arith, append_assoc, if◌then◌else◌}
use Rattle.std.specs.Prelude.{not, ◌&&◌, ◌||◌}
use Rattle.ls_ast.specs.declared.tree.Arm.{Arm}
use Rattle.ls_ast.specs.declared.tree.Equation.{Equation}
use Rattle.ls_ast.specs.declared.tree.Equation.TheVariants as eq
use Rattle.ls_ast.specs.declared.tree.Guard.{Guard}
use Rattle.ls_ast.specs.declared.tree.Handler.{Handler}
use Rattle.ls_ast.specs.declared.tree.Pat.{Pat}
use Rattle.ls_ast.specs.declared.tree.Pat.TheVariants as pat
use Rattle.ls_ast.specs.declared.tree.Plain.{Plain}
use Rattle.ls_ast.specs.declared.tree.State.{State}
use Rattle.ls_ast.specs.declared.tree.Test.{Test}
use Rattle.ls_base.specs.declared.Name.{Name}
use Rattle.ls_lexer.specs.declared.token.Fixed.{Fixed}
use Rattle.ls_lexer.specs.declared.token.Fixed.TheVariants.{KwAnd, KwAutomaton, KwClock, KwContinue, KwDo, KwDone, KwElse, KwEmit, KwEnd, KwEvery, KwFalse, KwIn, KwLast, KwLet, KwMatch, KwPresent, KwRec, KwReset, KwThen, KwTrue, KwUnless, KwUntil, KwWith, ParenLeft, ParenRight, Comma, Equal, Arrow, Bar, Underscore}
use Rattle.ls_lexer.specs.declared.token.Token.{Token}
use Rattle.ls_lexer.specs.declared.token.Token.TheVariants.{Fixed as Word, Id, Cons}
use Rattle.ls_parser.specs.declared.level.Level.TheVariants.{Expr}
use Rattle.ls_parser.specs.Making.{Tree, guard, arm_of, arms_of, test_of, state_of, handler_of, guards_that, with_strong, with_weak, or_none}
use Rattle.ls_parser.specs.Notation.{Phrase, ◌▷◌, ◌◁◌, ◌⊗◌, ◌⇒◌, many, some, separated, maybe, after, identifier, constructor}
use Rattle.ls_parser.specs.Grammar as g
use Rattle.ls_parser.specs.Grammar.{IsExpr, IsPat, IsEquation, IsHandler}
use Rattle.ls_parser.specs.Patterns as rp
use Rattle.ls_parser.specs.Equations as r
use Rattle.ls_parser.specs.Expressions.{expression}
use Rattle.ls_parser.specs.Reading.{Reader, ◌>>=◌, is_word, starts, behind, collect}
use Rattle.ls_parser.proofs.Front.{At, Got, append_nil, le_refl, le_trans}
use Rattle.ls_parser.proofs.Parts.{of_word, of_end, of_both, of_made, of_none, of_more, not_longer, one_longer, then_some, if_yes, if_no, itself, word_reads, starts_yes, starts_no, name_reads, constructor_reads, taller_reads, max_le, suc_le, Sure, sure_behind, row_found, row_short}
use Rattle.ls_parser.proofs.FindExpr.{Quiet, quiet_word, sure_expression, rest_few}

abbrev pub Any : List Token → Type 0
Any m = Unit {0}

-- patterns

-- the tokens that begin patterns
abbrev pub OpensPattern : Token → Type 0
OpensPattern t = ((x : Name) × (t ≡ Id x)) ⊎ ((t ≡ Word Underscore) ⊎ (t ≡ Word ParenLeft))

pub pat_first : (D : ℕ) (x : Pat) (u : List Token) → IsPat D x u → (t : Token) × (l : List Token) × (u ≡ t ∷ l) × OpensPattern t
pat_first zero x u a = absurd a
pat_first (suc D) x u (inl b) = (Id b.0, [], b.2, inl (b.0, refl))
pat_first (suc D) x u (inr (inl b)) = (Word Underscore, [], b.1, inr (inl refl))
pat_first (suc D) x u (inr (inr (inl b))) = (Word ParenLeft, Word ParenRight ∷ [], b.1, inr (inr refl))
pat_first (suc D) x u (inr (inr (inr (inl b)))) = (Word ParenLeft, b.0, b.1, inr (inr refl))
pat_first (suc D) x u (inr (inr (inr (inr b)))) = (Word ParenLeft, b.2.0, b.2.1, inr (inr refl))

pub pat_head : (D : ℕ) (x : Pat) (ts m : List Token) → At (IsPat D) x ts m → (t : Token) × (l : List Token) × (ts ≡ t ∷ l) × OpensPattern t
pat_head D x ts m a = let b = pat_first D x a.0 a.2 in (b.0, b.1 ++ m, a.1 ∙ ap (λ u. u ++ m) b.2, b.3)

pub not_right : (D : ℕ) (x : Pat) (ts m : List Token) → At (IsPat D) x ts m → starts ParenRight ts ≡ false
not_right D x ts m a =
    let b = pat_head D x ts m a in
    starts_no ParenRight b.0 ts b.1 b.2 (elim b.3 [
      | inl p ↦ ap (is_word ParenRight) p.1
      | inr q ↦ elim q [ inl e ↦ ap (is_word ParenRight) e | inr e ↦ ap (is_word ParenRight) e ]
    ])

pub pat_takes : (D : ℕ) (x : Pat) (ts m : List Token) → At (IsPat D) x ts m → length m + 1 ≤ length ts
pat_takes D x ts m a =
    let b = pat_first D x a.0 a.2 in
    let e : length ts ≡ length a.0 + length m = ap length a.1 ∙ length-append a.0 m in
    let f = one_longer b.0 a.0 b.1 b.2 in
    omega arith

module _ (n d : ℕ) (small : suc d ≤ 200) (P : Reader Pat) (sp : Sure Pat n d P (IsPat d) Any) where
  comma_begins : (x : Pat) (ts m : List Token) → At (Comma ▷ IsPat d) x ts m → starts Comma ts ≡ true
  comma_begins x ts m a = let b = of_word (IsPat d) Comma x ts m a in starts_yes Comma ts b.0 b.1

  comma_takes : (x : Pat) (ts m : List Token) → At (Comma ▷ IsPat d) x ts m → length m + 1 ≤ length ts
  comma_takes x ts m a =
      let b = of_word (IsPat d) Comma x ts m a in
      let e = one_longer (Word Comma) ts b.0 b.1 in
      let l = not_longer (IsPat d) x b.0 m b.2 in
      omega arith

  abbrev pub PatFound : Pat → List Token → List Token → Type 0
  PatFound x ts m = (h : ℕ) × (h ≤ suc d) × (rp.layer n P ts ≡ Some (x, h, m))

  one_low : 1 ≤ suc d
  one_low = omega arith

  inside_found : (x : Pat) (h : ℕ) (ts l m : List Token) → ts ≡ Word ParenLeft ∷ l → h ≤ suc d → rp.inner n P l ≡ Some (x, h, m) → PatFound x ts m
  unfolding rp.layer
  inside_found x h ts l m is low read = (h, low, if_yes _ _ _ _ (starts_yes ParenLeft ts l is) (then_some _ _ _ _ (word_reads ParenLeft ts l is) read))

  some_first : (p : Phrase Pat) (w : Fixed) (xs : List Pat) (q m : List Token) → At (some (w ▷ p)) xs q m → ((k : List Token) × (q ≡ Word w ∷ k)) × At (many (w ▷ p)) xs q m
  some_first p w [] q m a = absurd a.2
  some_first p w (x ∷ xs) q m a = let b = of_more (w ▷ p) x xs q m a in let c = of_word p w x q b.0 b.1 in ((c.0, c.1), a)

  group_found : (x : Pat) (ts m : List Token) → length ts ≤ n → At (ParenLeft ▷ (IsPat d ◁ ParenRight)) x ts m → PatFound x ts m
  unfolding rp.inner
  group_found x ts m few a =
      let b1 = of_word (IsPat d ◁ ParenRight) ParenLeft x ts m a in
      let b2 = of_end (IsPat d) ParenRight x b1.0 m b1.2 in
      let c = sp.finds b1.0 (Word ParenRight ∷ m) x (rest_few n (Word ParenLeft) ts b1.0 b1.1 few) tt b2 in
      inside_found x (c.0 + 1) ts b1.0 m b1.1 (suc_le c.0 d c.1)
      (if_no _ _ _ _ (not_right d x b1.0 (Word ParenRight ∷ m) b2)
      (then_some _ _ _ _ c.2
      (if_no _ _ _ _ (starts_no Comma (Word ParenRight) (Word ParenRight ∷ m) m refl refl)
      (then_some _ _ _ _ (word_reads ParenRight (Word ParenRight ∷ m) m refl)
      (then_some _ _ _ _ (taller_reads c.0 d c.1 small) refl)))))

  tuple_found : (x : Pat) (ts m : List Token) → length ts ≤ n → At ((ParenLeft ▷ ((IsPat d ⊗ some (Comma ▷ IsPat d)) ◁ ParenRight)) ⇒ (λ p. pat.Tuple (p.0 ∷ p.1))) x ts m → PatFound x ts m
  unfolding rp.inner rp.parts_from
  tuple_found x ts m few a =
      let made = of_made (ParenLeft ▷ ((IsPat d ⊗ some (Comma ▷ IsPat d)) ◁ ParenRight)) (λ p. pat.Tuple (p.0 ∷ p.1)) x ts m a in
      let p = made.0 in
      let q = Word ParenRight ∷ m in
      let b1 = of_word ((IsPat d ⊗ some (Comma ▷ IsPat d)) ◁ ParenRight) ParenLeft p ts m made.2 in
      let b2 = of_end (IsPat d ⊗ some (Comma ▷ IsPat d)) ParenRight p b1.0 m b1.2 in
      let b3 = of_both (IsPat d) (some (Comma ▷ IsPat d)) p b1.0 (Word ParenRight ∷ m) b2 in
      let b4 = some_first (IsPat d) Comma p.1 b3.0 (Word ParenRight ∷ m) b3.2 in
      let few1 = rest_few n (Word ParenLeft) ts b1.0 b1.1 few in
      let few2 = le_trans (length b3.0) (length b1.0) n (not_longer (IsPat d) p.0 b1.0 b3.0 b3.1) few1 in
      let c = sp.finds b1.0 b3.0 p.0 few1 tt b3.1 in
      let short = row_short n d (starts Comma) (behind Comma P) (Comma ▷ IsPat d) Any (sure_behind Comma sp) comma_begins (λ x ts m a. tt) comma_takes p.1 b3.0 (Word ParenRight ∷ m) b4.1 in
      let e = row_found n d (starts Comma) (behind Comma P) (Comma ▷ IsPat d) Any (sure_behind Comma sp) comma_begins (λ x ts m a. tt) n (p.0 ∷ []) p.1 c.0 b3.0 (Word ParenRight ∷ m)
      (le_trans (length p.1) (length b3.0) n short few2) (inr (starts_no Comma (Word ParenRight) (Word ParenRight ∷ m) m refl refl)) c.1 few2 tt b4.1 in
      inside_found x (e.0 + 1) ts b1.0 m b1.1 (suc_le e.0 d e.1)
      (if_no _ _ _ _ (not_right d p.0 b1.0 b3.0 b3.1)
      (then_some _ _ _ _ c.2
      (if_yes _ _ _ _ (starts_yes Comma b3.0 b4.0.0 b4.0.1)
      (then_some _ _ _ _ e.2
      (then_some _ _ _ _ (word_reads ParenRight (Word ParenRight ∷ m) m refl)
      (then_some _ _ _ _ (taller_reads e.0 d e.1 small) (λ i. Some (sym made.1 i, e.0 + 1, m))))))))

  layer_found : (x : Pat) (ts m : List Token) → length ts ≤ n → At (g.pattern (IsPat d)) x ts m → PatFound x ts m
  unfolding rp.layer rp.inner
  layer_found x ts m few a = which a.2
    where
      which : g.pattern (IsPat d) x a.0 → PatFound x ts m
      which (inl b) =
          let first : ts ≡ Id b.0 ∷ m = a.1 ∙ ap (λ u. u ++ m) b.2 in (
            1,
            one_low,
            if_no _ _ _ _ (starts_no ParenLeft (Id b.0) ts m first refl)
                (if_no _ _ _ _ (starts_no Underscore (Id b.0) ts m first refl)
                (then_some _ _ _ _ (name_reads b.0 ts m (a.0, a.1, b.2)) (λ i. Some (sym b.1 i, 1, m)))),
          )
      which (inr (inl b)) =
          let first : ts ≡ Word Underscore ∷ m = a.1 ∙ ap (λ u. u ++ m) b.1 in (
            1,
            one_low,
            if_no _ _ _ _ (starts_no ParenLeft (Word Underscore) ts m first refl)
                (if_yes _ _ _ _ (starts_yes Underscore ts m first)
                (then_some _ _ _ _ (word_reads Underscore ts m first) (λ i. Some (sym b.0 i, 1, m)))),
          )
      which (inr (inr (inl b))) =
          let first : ts ≡ Word ParenLeft ∷ Word ParenRight ∷ m = a.1 ∙ ap (λ u. u ++ m) b.1 in
          inside_found x 1 ts (Word ParenRight ∷ m) m first one_low
          (if_yes _ _ _ _ (starts_yes ParenRight (Word ParenRight ∷ m) m refl)
          (then_some _ _ _ _ (word_reads ParenRight (Word ParenRight ∷ m) m refl) (λ i. Some (sym b.0 i, 1, m))))
      which (inr (inr (inr (inl b)))) = group_found x ts m few (a.0, a.1, b)
      which (inr (inr (inr (inr b)))) = tuple_found x ts m few (a.0, a.1, b)

pub sure_pattern : (n f D : ℕ) → D ≤ f → D ≤ 200 → Sure Pat n D (rp.pattern n f) (IsPat D) Any
unfolding rp.pattern
sure_pattern n zero zero le small = record { finds = λ ts m x few follow a. absurd a.2 }
sure_pattern n zero (suc D) le small = absurd (omega arith)
sure_pattern n (suc f) zero le small = record { finds = λ ts m x few follow a. absurd a.2 }
sure_pattern n (suc f) (suc D) le small = record {
  finds = λ ts m x few follow a.
      layer_found n D small (rp.pattern n f) (sure_pattern n f D (let lower : D ≤ f = omega arith in lower) (let low : D ≤ 200 = omega arith in low)) x ts m few a;
}

-- phrases between which a word stands

abbrev pub SeparatedRead : {A : Type 0} → ℕ → (List Token → Bool) → Fixed → Reader A → List Token → Option (Got (List A))
SeparatedRead n test w r ts = r ts >>= λ x. collect n test (behind w r) (x.0 ∷ []) x.1 x.2

pub separated_found : {A : Type 0} (n d : ℕ) (test : List Token → Bool) (w : Fixed) (r : Reader A) (p : Phrase A) (F : List Token → Type 0) → Sure A n d r p F
    → ((x : A) (ts m : List Token) → At (w ▷ p) x ts m → test ts ≡ true) → ((ts m : List Token) → ts ≡ Word w ∷ m → F ts)
    → (xs : List A) (ts m : List Token) → test m ≡ false → F m → length ts ≤ n → At (separated w p) xs ts m → (h : ℕ) × (h ≤ d) × (SeparatedRead n test w r ts ≡ Some (xs, h, m))
separated_found n d test w r p F s begins next [] ts m stop follow few a = absurd a.2
separated_found {A} n d test w r p F s begins next (x ∷ xs) ts m stop follow few a =
    let b = of_both p (many (w ▷ p)) (x, xs) ts m a in
    let few2 = le_trans (length b.0) (length ts) n (not_longer p x ts b.0 b.1) few in
    let quiet = row_start xs b.0 m b.2 follow in
    let c = s.finds ts b.0 x few quiet b.1 in
    let short = row_short n d test (behind w r) (w ▷ p) F (sure_behind w s) begins goes_on takes xs b.0 m b.2 in
    let e = row_found n d test (behind w r) (w ▷ p) F (sure_behind w s) begins goes_on n (x ∷ []) xs c.0 b.0 m (le_trans (length xs) (length b.0) n short few2) (inr stop) c.1 few2 follow b.2 in
    (e.0, e.1, then_some _ _ _ _ c.2 e.2)
  where
    goes_on : (x : A) (ts m : List Token) → At (w ▷ p) x ts m → F ts
    goes_on x ts m a = let b = of_word p w x ts m a in next ts b.0 b.1

    takes : (x : A) (ts m : List Token) → At (w ▷ p) x ts m → length m + 1 ≤ length ts
    takes x ts m a =
        let b = of_word p w x ts m a in
        let e = one_longer (Word w) ts b.0 b.1 in
        let l = not_longer p x b.0 m b.2 in
        omega arith

    row_start : (xs : List A) (ts m : List Token) → At (many (w ▷ p)) xs ts m → F m → F ts
    row_start [] ts m a follow = subst F (sym (of_none (w ▷ p) ts m a)) follow
    row_start (x ∷ xs) ts m a follow = let b = of_more (w ▷ p) x xs ts m a in goes_on x ts b.0 b.1

-- a phrase before which a word may stand, and does not begin with it
pub of_after : {A : Type 0} (w : Fixed) (p : Phrase A) (x : A) (ts m : List Token) → ((ts m : List Token) → At p x ts m → starts w ts ≡ false) → At (after w p) x ts m → At p x (r.skip w ts) m
unfolding r.skip starts
of_after w p x ts m other a = which a.2
  where
    unskipped : (ts : List Token) → starts w ts ≡ false → r.skip w ts ≡ ts
    unskipped [] e = refl
    unskipped (t ∷ ts) e = if_no _ _ _ _ e refl

    skipped : (ts k : List Token) → ts ≡ Word w ∷ k → r.skip w ts ≡ k
    skipped ts k is = ap (r.skip w) is ∙ if_yes _ _ _ _ (itself w) refl

    which : after w p x a.0 → At p x (r.skip w ts) m
    which (inl b) = subst (λ u. At p x u m) (sym (unskipped ts (other ts m (a.0, a.1, b)))) (a.0, a.1, b)
    which (inr b) = let c = of_word p w x ts m (a.0, a.1, b) in subst (λ u. At p x u m) (sym (skipped ts c.0 c.1)) c.2

-- what may follow equations, and handlers without their end
abbrev pub EqsEnd : List Token → Type 0
EqsEnd m = Quiet Expr m × (starts KwAnd m ≡ false)

abbrev pub DoEnd : List Token → Type 0
DoEnd m = EqsEnd m × (r.begins_equation m ≡ false)

abbrev pub StateEnd : List Token → Type 0
StateEnd m = (r.begins_guard m ≡ false) × (starts KwDone m ≡ false)

not_equation : (w : Fixed) (m k : List Token) → m ≡ Word w ∷ k → r.opens w ≡ false → r.begins_equation m ≡ false
unfolding r.begins_equation
not_equation w m k is e = ap r.begins_equation is ∙ e

is_equation : (w : Fixed) (m k : List Token) → m ≡ Word w ∷ k → r.opens w ≡ true → r.begins_equation m ≡ true
unfolding r.begins_equation
is_equation w m k is e = ap r.begins_equation is ∙ e

not_guard : (w : Fixed) (m k : List Token) → m ≡ Word w ∷ k → is_word KwUnless (Word w) ≡ false → is_word KwUntil (Word w) ≡ false → r.begins_guard m ≡ false
unfolding r.begins_guard
not_guard w m k is e f = (λ i. starts_no KwUnless (Word w) m k is e i || starts_no KwUntil (Word w) m k is f i)

case_reads : (x : Name) (ts m : List Token) → At g.case_name x ts m → r.case_name ts ≡ Some (x, m)
unfolding r.case_name
case_reads x ts m a = which a.2
  where
    which : g.case_name x a.0 → r.case_name ts ≡ Some (x, m)
    which (inl b) = ap r.case_name (a.1 ∙ ap (λ u. u ++ m) b)
    which (inr (inl b)) = ap r.case_name (a.1 ∙ ap (λ u. u ++ m) b.1) ∙ (λ i. Some (sym b.0 i, m))
    which (inr (inr b)) = ap r.case_name (a.1 ∙ ap (λ u. u ++ m) b.1) ∙ (λ i. Some (sym b.0 i, m))

case_first : (x : Name) (ts m : List Token) → At g.case_name x ts m → (starts Underscore ts ≡ false) × (starts Bar ts ≡ false)
case_first x ts m a = which a.2
  where
    which : g.case_name x a.0 → (starts Underscore ts ≡ false) × (starts Bar ts ≡ false)
    which (inl b) = let is = a.1 ∙ ap (λ u. u ++ m) b in (starts_no Underscore (Cons x) ts m is refl, starts_no Bar (Cons x) ts m is refl)
    which (inr (inl b)) = let is = a.1 ∙ ap (λ u. u ++ m) b.1 in (starts_no Underscore (Word KwTrue) ts m is refl, starts_no Bar (Word KwTrue) ts m is refl)
    which (inr (inr b)) = let is = a.1 ∙ ap (λ u. u ++ m) b.1 in (starts_no Underscore (Word KwFalse) ts m is refl, starts_no Bar (Word KwFalse) ts m is refl)

arm_begins : (ts m : List Token) → ts ≡ Word Bar ∷ m → starts Underscore m ≡ false → r.begins_arm ts ≡ true
unfolding r.begins_arm
arm_begins ts m is e = ap r.begins_arm is ∙ (λ i. itself Bar i && not (e i))

no_arm : (t : Token) (ts m : List Token) → ts ≡ t ∷ m → is_word Bar t ≡ false → r.begins_arm ts ≡ false
unfolding r.begins_arm
no_arm t ts m is e = ap r.begins_arm is ∙ ap (λ b. b && not (starts Underscore m)) e

other_arm_first : (ts m k : List Token) → ts ≡ Word Bar ∷ m → m ≡ Word Underscore ∷ k → r.begins_arm ts ≡ false
unfolding r.begins_arm
other_arm_first ts m k is e = ap r.begins_arm is ∙ (λ i. itself Bar i && not (starts_yes Underscore m k e i))

left_either : (v w : Fixed) (ts m : List Token) → ts ≡ Word v ∷ m → r.either v w ts ≡ Some (true, m)
unfolding r.either
left_either v w ts m is = if_yes _ _ _ _ (starts_yes v ts m is) (then_some _ _ _ _ (word_reads v ts m is) refl)

right_either : (v w : Fixed) (ts m : List Token) → ts ≡ Word w ∷ m → is_word v (Word w) ≡ false → r.either v w ts ≡ Some (false, m)
unfolding r.either
right_either v w ts m is e = if_no _ _ _ _ (starts_no v (Word w) ts m is e) (then_some _ _ _ _ (word_reads w ts m is) refl)

pub skip_short : (w : Fixed) (ts : List Token) → length (r.skip w ts) ≤ length ts
unfolding r.skip
skip_short w [] = le_refl 0
skip_short w (t ∷ ts) = which (is_word w t)
  where
    which : (b : Bool) → length (if b then ts else t ∷ ts) ≤ length (t ∷ ts)
    which true = let l : length (t ∷ ts) ≡ length ts + 1 = omega arith in omega arith
    which false = le_refl (length (t ∷ ts))

pub unskipped : (w : Fixed) (ts : List Token) → starts w ts ≡ false → r.skip w ts ≡ ts
unfolding r.skip starts
unskipped w [] e = refl
unskipped w (t ∷ ts) e = if_no _ _ _ _ e refl

pub skips : (w : Fixed) (ts k : List Token) → ts ≡ Word w ∷ k → r.skip w ts ≡ k
unfolding r.skip
skips w ts k is = ap (r.skip w) is ∙ if_yes _ _ _ _ (itself w) refl

-- an equation begins as one, and with no `rec`
eq_words : (w : Fixed) (ts l : List Token) → ts ≡ Word w ∷ l → r.opens w ≡ true → is_word KwRec (Word w) ≡ false → (r.begins_equation ts ≡ true) × (starts KwRec ts ≡ false)
eq_words w ts l is e f = (is_equation w ts l is e, starts_no KwRec (Word w) ts l is f)

pub eq_start : (D : ℕ) (b : Bool) (x : Equation Plain) (ts m : List Token) → At (IsEquation D b) x ts m → (r.begins_equation ts ≡ true) × (starts KwRec ts ≡ false)
unfolding r.begins_equation
eq_start zero b x ts m a = absurd a.2
eq_start (suc D) b x ts m a = start b a.2
  where
    by_word : (w : Fixed) → r.opens w ≡ true → is_word KwRec (Word w) ≡ false → (l : List Token) → a.0 ≡ Word w ∷ l → (r.begins_equation ts ≡ true) × (starts KwRec ts ≡ false)
    by_word w e f l is = eq_words w ts (l ++ m) (a.1 ∙ ap (λ u. u ++ m) is) e f

    inner_start : (b : Bool) → g.inner (IsExpr D Expr) (IsPat D) (IsEquation D) (IsHandler D) (g.IsGuard D) b x a.0 → (r.begins_equation ts ≡ true) × (starts KwRec ts ≡ false)
    inner_start b (inl c) =
        let b1 = of_both (IsPat D) (Equal ▷ IsExpr D Expr) c.0 ts m (a.0, a.1, c.2) in
        let f = pat_head D c.0.0 ts b1.0 b1.1 in
        elim f.3 [
          | inl p ↦ let is = f.2 ∙ ap (λ t. t ∷ f.1) p.1 in (ap r.begins_equation is, starts_no KwRec (Id p.0) ts f.1 is refl)
          | inr q ↦ elim q [ inl e ↦ eq_words Underscore ts f.1 (f.2 ∙ ap (λ t. t ∷ f.1) e) refl refl | inr e ↦ eq_words ParenLeft ts f.1 (f.2 ∙ ap (λ t. t ∷ f.1) e) refl refl ]
        ]
    inner_start b (inr (inl c)) = by_word KwEmit refl refl c.2.0 c.2.1
    inner_start b (inr (inr (inl c))) = by_word KwReset refl refl c.2.0 c.2.1
    inner_start b (inr (inr (inr (inl c)))) = by_word KwMatch refl refl c.2.0 c.2.1
    inner_start b (inr (inr (inr (inr (inl c))))) = by_word KwPresent refl refl c.2.0 c.2.1
    inner_start b (inr (inr (inr (inr (inr c))))) = by_word KwAutomaton refl refl c.2.0 c.2.1

    start : (b : Bool) → IsEquation (suc D) b x a.0 → (r.begins_equation ts ≡ true) × (starts KwRec ts ≡ false)
    start true c = inner_start true c
    start false (inl (inl c)) = by_word KwClock refl refl c.2.0 c.2.1
    start false (inl (inr c)) = by_word KwLast refl refl c.2.0 c.2.1
    start false (inr c) = inner_start false c

module _ (n d : ℕ) (small : suc d ≤ 200) (E : Reader Tree) (P : Reader Pat) (Q : Bool → Reader (Equation Plain)) (H : Reader (Handler Plain))
    (se : Sure Tree n d E (IsExpr d Expr) (Quiet Expr)) (sp : Sure Pat n d P (IsPat d) Any) (sq : (b : Bool) → Sure (Equation Plain) n d (Q b) (IsEquation d b) (Quiet Expr)) (sh : Sure (Handler Plain) n d H (IsHandler d) DoEnd)
    (lower : (D : ℕ) → D ≤ d → Sure Tree n D E (IsExpr D Expr) (Quiet Expr)) where
  abbrev pub Ex : Phrase Tree
  Ex = IsExpr d Expr

  abbrev pub Han : Phrase (Handler Plain)
  Han = IsHandler d ◁ KwDone

  abbrev pub EqFound : (A : Type 0) → Reader A → A → List Token → List Token → Type 0
  EqFound A read x ts m = (h : ℕ) × (h ≤ suc d) × (read ts ≡ Some (x, h, m))

  -- equations between which `and` stands
  pub equations_found : (b : Bool) (xs : List (Equation Plain)) (ts m : List Token) → EqsEnd m → length ts ≤ n → At (g.equations (IsEquation d b)) xs ts m → (h : ℕ) × (h ≤ d) × (r.equations n E P Q H b ts ≡ Some (xs, h, m))
  unfolding r.equations
  equations_found b xs ts m end few a =
      separated_found n d (starts KwAnd) KwAnd (Q b) (IsEquation d b) (Quiet Expr) (sq b) (λ x ts m a. let c = of_word (IsEquation d b) KwAnd x ts m a in starts_yes KwAnd ts c.0 c.1)
      (λ ts m is. quiet_word KwAnd refl refl Expr ts m is) xs ts m end.1 end.0 few a

  abbrev pub Binds : Fixed → Phrase (Name × Tree)
  Binds w = w ▷ (identifier ⊗ (Equal ▷ Ex))

  bound_found : (w : Fixed) (p : Name × Tree) (ts m : List Token) → Quiet Expr m → length ts ≤ n → At (Binds w) p ts m → EqFound (Name × Tree) (r.bound n E P Q H w) p ts m
  unfolding r.bound
  bound_found w p ts m quiet few a =
      let b1 = of_word (identifier ⊗ (Equal ▷ Ex)) w p ts m a in
      let b2 = of_both identifier (Equal ▷ Ex) p b1.0 m b1.2 in
      let b3 = of_word Ex Equal p.1 b2.0 m b2.2 in
      let few1 = rest_few n (Word w) ts b1.0 b1.1 few in
      let few2 = le_trans (length b2.0) (length b1.0) n (not_longer identifier p.0 b1.0 b2.0 b2.1) few1 in
      let c = se.finds b3.0 m p.1 (rest_few n (Word Equal) b2.0 b3.0 b3.1 few2) quiet b3.2 in (
        c.0 + 1,
        suc_le c.0 d c.1,
        then_some _ _ _ _ (word_reads w ts b1.0 b1.1)
            (then_some _ _ _ _ (name_reads p.0 b1.0 b2.0 b2.1)
            (then_some _ _ _ _ (word_reads Equal b2.0 b3.0 b3.1)
            (then_some _ _ _ _ c.2
            (then_some _ _ _ _ (taller_reads c.0 d c.1 small) refl)))),
      )

  plain_found : (x : Equation Plain) (ts m : List Token) → Quiet Expr m → length ts ≤ n → At ((IsPat d ⊗ (Equal ▷ Ex)) ⇒ (λ p. eq.Plain p.0 p.1)) x ts m → EqFound (Equation Plain) (r.plain_equation n E P Q H) x ts m
  unfolding r.plain_equation
  plain_found x ts m quiet few a =
      let made = of_made (IsPat d ⊗ (Equal ▷ Ex)) (λ p. eq.Plain p.0 p.1) x ts m a in
      let p = made.0 in
      let b1 = of_both (IsPat d) (Equal ▷ Ex) p ts m made.2 in
      let b2 = of_word Ex Equal p.1 b1.0 m b1.2 in
      let few1 = le_trans (length b1.0) (length ts) n (not_longer (IsPat d) p.0 ts b1.0 b1.1) few in
      let c = sp.finds ts b1.0 p.0 few tt b1.1 in
      let e = se.finds b2.0 m p.1 (rest_few n (Word Equal) b1.0 b2.0 b2.1 few1) quiet b2.2 in
      let high = max_le c.0 e.0 d c.1 e.1 in (
        max c.0 e.0 + 1,
        suc_le (max c.0 e.0) d high,
        then_some _ _ _ _ c.2 (then_some _ _ _ _ (word_reads Equal b1.0 b2.0 b2.1) (then_some _ _ _ _ e.2 (then_some _ _ _ _ (taller_reads (max c.0 e.0) d high small) (λ i. Some (sym made.1 i, max c.0 e.0 + 1, m))))),
      )

  reset_found : (b : Bool) (x : Equation Plain) (ts m : List Token) → Quiet Expr m → length ts ≤ n → At ((KwReset ▷ (g.equations (IsEquation d b) ⊗ (KwEvery ▷ Ex))) ⇒ (λ p. eq.Reset p.0 p.1)) x ts m → EqFound (Equation Plain) (r.reset n E P Q H b) x ts m
  unfolding r.reset
  reset_found b x ts m quiet few a =
      let made = of_made (KwReset ▷ (g.equations (IsEquation d b) ⊗ (KwEvery ▷ Ex))) (λ p. eq.Reset p.0 p.1) x ts m a in
      let p = made.0 in
      let b1 = of_word (g.equations (IsEquation d b) ⊗ (KwEvery ▷ Ex)) KwReset p ts m made.2 in
      let b2 = of_both (g.equations (IsEquation d b)) (KwEvery ▷ Ex) p b1.0 m b1.2 in
      let b3 = of_word Ex KwEvery p.1 b2.0 m b2.2 in
      let few1 = rest_few n (Word KwReset) ts b1.0 b1.1 few in
      let few2 = le_trans (length b2.0) (length b1.0) n (not_longer (g.equations (IsEquation d b)) p.0 b1.0 b2.0 b2.1) few1 in
      let c = equations_found b p.0 b1.0 b2.0 (quiet_word KwEvery refl refl Expr b2.0 b3.0 b3.1, starts_no KwAnd (Word KwEvery) b2.0 b3.0 b3.1 refl) few1 b2.1 in
      let e = se.finds b3.0 m p.1 (rest_few n (Word KwEvery) b2.0 b3.0 b3.1 few2) quiet b3.2 in
      let high = max_le c.0 e.0 d c.1 e.1 in (
        max c.0 e.0 + 1,
        suc_le (max c.0 e.0) d high,
        then_some _ _ _ _ (word_reads KwReset ts b1.0 b1.1) (then_some _ _ _ _ c.2 (then_some _ _ _ _ (word_reads KwEvery b2.0 b3.0 b3.1) (then_some _ _ _ _ e.2 (then_some _ _ _ _ (taller_reads (max c.0 e.0) d high small) (λ i. Some (sym made.1 i, max c.0 e.0 + 1, m)))))),
      )

  do_end : (w : Fixed) (m k : List Token) → m ≡ Word w ∷ k → (l : (Quiet Expr m) × (starts KwAnd m ≡ false)) → r.opens w ≡ false → DoEnd m
  do_end w m k is l e = (l, not_equation w m k is e)

  handler_sure : Sure (Handler Plain) n d (r.handler n E P Q H) Han Any
  unfolding r.handler
  handler_sure = record {
    finds = λ ts m x few follow a.
        let b = of_end (IsHandler d) KwDone x ts m a in
        let k = Word KwDone ∷ m in
        let c = sh.finds ts (Word KwDone ∷ m) x few (do_end KwDone (Word KwDone ∷ m) m refl (quiet_word KwDone refl refl Expr (Word KwDone ∷ m) m refl, starts_no KwAnd (Word KwDone) (Word KwDone ∷ m) m refl refl) refl) b in
        (c.0, c.1, then_some _ _ _ _ c.2 (then_some _ _ _ _ (word_reads KwDone (Word KwDone ∷ m) m refl) refl));
  }

  abbrev pub Arms : Phrase (Arm Plain)
  Arms = g.arm Ex (IsPat d) (IsEquation d) (IsHandler d) (g.IsGuard d)

  arm_sure : Sure (Arm Plain) n d (r.arm n E P Q H) Arms Any
  unfolding r.arm
  arm_sure = record {
    finds = λ ts m x few follow a.
        let made = of_made (g.case_name ⊗ (Arrow ▷ Han)) (λ p. arm_of (Some p.0) p.1) x ts m a in
        let p = made.0 in
        let b1 = of_both g.case_name (Arrow ▷ Han) p ts m made.2 in
        let b2 = of_word Han Arrow p.1 b1.0 m b1.2 in
        let few1 = le_trans (length b1.0) (length ts) n (not_longer g.case_name p.0 ts b1.0 b1.1) few in
        let c = handler_sure.finds b2.0 m p.1 (rest_few n (Word Arrow) b1.0 b2.0 b2.1 few1) tt b2.2 in
        (c.0, c.1, then_some _ _ _ _ (case_reads p.0 ts b1.0 b1.1) (then_some _ _ _ _ (word_reads Arrow b1.0 b2.0 b2.1) (then_some _ _ _ _ c.2 (λ i. Some (sym made.1 i, c.0, m)))));
  }

  arm_first : (x : Arm Plain) (ts m : List Token) → At Arms x ts m → (starts Underscore ts ≡ false) × (starts Bar ts ≡ false)
  arm_first x ts m a =
      let made = of_made (g.case_name ⊗ (Arrow ▷ Han)) (λ p. arm_of (Some p.0) p.1) x ts m a in
      let b1 = of_both g.case_name (Arrow ▷ Han) made.0 ts m made.2 in
      case_first made.0.0 ts b1.0 b1.1

  arms_found : (xs : List (Arm Plain)) (ts m : List Token) → r.begins_arm m ≡ false → length ts ≤ n → At (separated Bar Arms) xs ts m → (h : ℕ) × (h ≤ d) × (r.arms n E P Q H ts ≡ Some (xs, h, m))
  unfolding r.arms
  arms_found xs ts m stop few a =
      separated_found n d r.begins_arm Bar (r.arm n E P Q H) Arms Any arm_sure
      (λ x ts m a. let b = of_word Arms Bar x ts m a in arm_begins ts b.0 b.1 (arm_first x b.0 m b.2).0) (λ ts m is. tt) xs ts m stop tt few a

  abbrev pub Other : Phrase (Arm Plain)
  Other = g.other_arm Ex (IsPat d) (IsEquation d) (IsHandler d) (g.IsGuard d)

  -- the arm for all other cases, if any, before `end`
  other_found : (o : Option (Arm Plain)) (xs : List (Arm Plain)) (h : ℕ) (ts m : List Token) → h ≤ d → length ts ≤ n → At (maybe Other) o ts (Word KwEnd ∷ m)
      → (r.begins_arm ts ≡ false) × ((k : ℕ) × (k ≤ d) × (r.other_arm n E P Q H xs h ts ≡ Some (arms_of xs o, k, Word KwEnd ∷ m)))
  unfolding r.other_arm
  other_found None xs h ts m low few a =
      let is : ts ≡ Word KwEnd ∷ m = a.1 ∙ ap (λ u. u ++ Word KwEnd ∷ m) a.2 in
      (no_arm (Word KwEnd) ts m is refl, (h, low, if_no _ _ _ _ (starts_no Bar (Word KwEnd) ts m is refl) (λ i. Some (xs, h, is i))))
  other_found (Some x) xs h ts m low few a =
      let k = Word KwEnd ∷ m in
      let made = of_made (Bar ▷ (Underscore ▷ (Arrow ▷ Han))) (arm_of None) x ts (Word KwEnd ∷ m) a in
      let b1 = of_word (Underscore ▷ (Arrow ▷ Han)) Bar made.0 ts (Word KwEnd ∷ m) made.2 in
      let b2 = of_word (Arrow ▷ Han) Underscore made.0 b1.0 (Word KwEnd ∷ m) b1.2 in
      let b3 = of_word Han Arrow made.0 b2.0 (Word KwEnd ∷ m) b2.2 in
      let c = handler_sure.finds b3.0 (Word KwEnd ∷ m) made.0 (rest_few n (Word Arrow) b2.0 b3.0 b3.1 (rest_few n (Word Underscore) b1.0 b2.0 b2.1 (rest_few n (Word Bar) ts b1.0 b1.1 few))) tt b3.2 in (
        other_arm_first ts b1.0 b2.0 b1.1 b2.1,
        (
          max h c.0,
          max_le h c.0 d low c.1,
          if_yes _ _ _ _ (starts_yes Bar ts b1.0 b1.1)
              (then_some _ _ _ _ (word_reads Bar ts b1.0 b1.1) (then_some _ _ _ _ (word_reads Underscore b1.0 b2.0 b2.1) (then_some _ _ _ _ (word_reads Arrow b2.0 b3.0 b3.1) (then_some _ _ _ _ c.2 (λ i. Some (xs ++ sym made.1 i ∷ [], max h c.0, Word KwEnd ∷ m)))))),
        ),
      )

  abbrev pub MatchTail : Phrase (List (Arm Plain) × Option (Arm Plain))
  MatchTail = separated Bar Arms ⊗ (maybe Other ◁ KwEnd)

  separated_first : {A : Type 0} (w : Fixed) (p : Phrase A) (xs : List A) (ts m : List Token) → At (separated w p) xs ts m → (x : A) × (k : List Token) × At p x ts k
  separated_first w p [] ts m a = absurd a.2
  separated_first w p (x ∷ xs) ts m a = let b = of_both p (many (w ▷ p)) (x, xs) ts m a in (x, b.0, b.1)

  matching_found : (x : Equation Plain) (ts m : List Token) → length ts ≤ n → At ((KwMatch ▷ (Ex ⊗ (KwWith ▷ after Bar MatchTail))) ⇒ (λ p. eq.Match p.0 (arms_of p.1.0 p.1.1))) x ts m → EqFound (Equation Plain) (r.matching n E P Q H) x ts m
  unfolding r.matching
  matching_found x ts m few a =
      let made = of_made (KwMatch ▷ (Ex ⊗ (KwWith ▷ after Bar MatchTail))) (λ p. eq.Match p.0 (arms_of p.1.0 p.1.1)) x ts m a in
      let p = made.0 in
      let b1 = of_word (Ex ⊗ (KwWith ▷ after Bar MatchTail)) KwMatch p ts m made.2 in
      let b2 = of_both Ex (KwWith ▷ after Bar MatchTail) p b1.0 m b1.2 in
      let b3 = of_word (after Bar MatchTail) KwWith p.1 b2.0 m b2.2 in
      let b4 = of_after Bar MatchTail p.1 b3.0 m (λ ts m a. let b = of_both (separated Bar Arms) (maybe Other ◁ KwEnd) p.1 ts m a in let f = separated_first Bar Arms p.1.0 ts b.0 b.1 in (arm_first f.0 ts f.1 f.2).1) b3.2 in
      let s = r.skip Bar b3.0 in
      let b5 = of_both (separated Bar Arms) (maybe Other ◁ KwEnd) p.1 (r.skip Bar b3.0) m b4 in
      let b6 = of_end (maybe Other) KwEnd p.1.1 b5.0 m b5.2 in
      let few1 = rest_few n (Word KwMatch) ts b1.0 b1.1 few in
      let few2 = le_trans (length b2.0) (length b1.0) n (not_longer Ex p.0 b1.0 b2.0 b2.1) few1 in
      let few3 = rest_few n (Word KwWith) b2.0 b3.0 b3.1 few2 in
      let few4 = le_trans (length (r.skip Bar b3.0)) (length b3.0) n (skip_short Bar b3.0) few3 in
      let few5 = le_trans (length b5.0) (length (r.skip Bar b3.0)) n (not_longer (separated Bar Arms) p.1.0 (r.skip Bar b3.0) b5.0 b5.1) few4 in
      let c = se.finds b1.0 b2.0 p.0 few1 (quiet_word KwWith refl refl Expr b2.0 b3.0 b3.1) b2.1 in
      let low : 0 ≤ d = omega arith in
      let o0 = other_found p.1.1 p.1.0 0 b5.0 m low few5 b6 in
      let e = arms_found p.1.0 (r.skip Bar b3.0) b5.0 o0.0 few4 b5.1 in
      let o = other_found p.1.1 p.1.0 e.0 b5.0 m e.1 few5 b6 in
      let k = max c.0 o.1.0 in
      let high = max_le c.0 o.1.0 d c.1 o.1.1 in (
        max c.0 o.1.0 + 1,
        suc_le (max c.0 o.1.0) d high,
        then_some _ _ _ _ (word_reads KwMatch ts b1.0 b1.1) (then_some _ _ _ _ c.2 (then_some _ _ _ _ (word_reads KwWith b2.0 b3.0 b3.1) (then_some _ _ _ _ e.2 (then_some _ _ _ _ o.1.2
            (then_some _ _ _ _ (word_reads KwEnd (Word KwEnd ∷ m) m refl) (then_some _ _ _ _ (taller_reads (max c.0 o.1.0) d high small) (λ i. Some (sym made.1 i, max c.0 o.1.0 + 1, m)))))))),
      )

  tested_found : (o : Option Pat) (ts k m : List Token) → m ≡ Word Arrow ∷ k → length ts ≤ n → At (maybe (ParenLeft ▷ (IsPat d ◁ ParenRight))) o ts m → (h : ℕ) × (h ≤ d) × (r.tested n E P Q H ts ≡ Some (o, h, m))
  unfolding r.tested
  tested_found None ts k m end few a =
      let is : ts ≡ m = a.1 ∙ ap (λ u. u ++ m) a.2 in
      let low : 0 ≤ d = omega arith in
      (0, low, if_no _ _ _ _ (starts_no ParenLeft (Word Arrow) ts k (is ∙ end) refl) (λ i. Some (None, 0, is i)))
  tested_found (Some x) ts k m end few a =
      let b1 = of_word (IsPat d ◁ ParenRight) ParenLeft x ts m a in
      let b2 = of_end (IsPat d) ParenRight x b1.0 m b1.2 in
      let c = sp.finds b1.0 (Word ParenRight ∷ m) x (rest_few n (Word ParenLeft) ts b1.0 b1.1 few) tt b2 in
      (c.0, c.1, if_yes _ _ _ _ (starts_yes ParenLeft ts b1.0 b1.1) (then_some _ _ _ _ (word_reads ParenLeft ts b1.0 b1.1) (then_some _ _ _ _ c.2 (then_some _ _ _ _ (word_reads ParenRight (Word ParenRight ∷ m) m refl) refl))))

  abbrev pub Tests : Phrase (Test Plain)
  Tests = g.test Ex (IsPat d) (IsEquation d) (IsHandler d) (g.IsGuard d)

  test_sure : Sure (Test Plain) n d (r.one_test n E P Q H) Tests Any
  unfolding r.one_test
  test_sure = record {
    finds = λ ts m x few follow a.
        let made = of_made (identifier ⊗ (maybe (ParenLeft ▷ (IsPat d ◁ ParenRight)) ⊗ (Arrow ▷ Han))) (λ p. test_of p.0 p.1.0 p.1.1) x ts m a in
        let p = made.0 in
        let b1 = of_both identifier (maybe (ParenLeft ▷ (IsPat d ◁ ParenRight)) ⊗ (Arrow ▷ Han)) p ts m made.2 in
        let b2 = of_both (maybe (ParenLeft ▷ (IsPat d ◁ ParenRight))) (Arrow ▷ Han) p.1 b1.0 m b1.2 in
        let b3 = of_word Han Arrow p.1.1 b2.0 m b2.2 in
        let few1 = le_trans (length b1.0) (length ts) n (not_longer identifier p.0 ts b1.0 b1.1) few in
        let few2 = le_trans (length b2.0) (length b1.0) n (not_longer (maybe (ParenLeft ▷ (IsPat d ◁ ParenRight))) p.1.0 b1.0 b2.0 b2.1) few1 in
        let c = tested_found p.1.0 b1.0 b3.0 b2.0 b3.1 few1 b2.1 in
        let e = handler_sure.finds b3.0 m p.1.1 (rest_few n (Word Arrow) b2.0 b3.0 b3.1 few2) tt b3.2 in
        (max c.0 e.0, max_le c.0 e.0 d c.1 e.1, then_some _ _ _ _ (name_reads p.0 ts b1.0 b1.1) (then_some _ _ _ _ c.2 (then_some _ _ _ _ (word_reads Arrow b2.0 b3.0 b3.1) (then_some _ _ _ _ e.2 (λ i. Some (sym made.1 i, max c.0 e.0, m))))));
  }

  test_first : (x : Test Plain) (ts m : List Token) → At Tests x ts m → starts Bar ts ≡ false
  test_first x ts m a =
      let made = of_made (identifier ⊗ (maybe (ParenLeft ▷ (IsPat d ◁ ParenRight)) ⊗ (Arrow ▷ Han))) (λ p. test_of p.0 p.1.0 p.1.1) x ts m a in
      let b1 = of_both identifier (maybe (ParenLeft ▷ (IsPat d ◁ ParenRight)) ⊗ (Arrow ▷ Han)) made.0 ts m made.2 in
      starts_no Bar (Id made.0.0) ts b1.0 (b1.1.1 ∙ ap (λ u. u ++ b1.0) b1.1.2) refl

  tests_found : (xs : List (Test Plain)) (ts m : List Token) → starts Bar m ≡ false → length ts ≤ n → At (separated Bar Tests) xs ts m → (h : ℕ) × (h ≤ d) × (r.tests n E P Q H ts ≡ Some (xs, h, m))
  unfolding r.tests
  tests_found xs ts m stop few a =
      separated_found n d (starts Bar) Bar (r.one_test n E P Q H) Tests Any test_sure (λ x ts m a. let b = of_word Tests Bar x ts m a in starts_yes Bar ts b.0 b.1) (λ ts m is. tt) xs ts m stop tt few a

  otherwise_found : (o : Option (Handler Plain)) (ts m : List Token) → length ts ≤ n → At (maybe (KwElse ▷ Han)) o ts (Word KwEnd ∷ m) → (starts Bar ts ≡ false) × ((h : ℕ) × (h ≤ d) × (r.otherwise n E P Q H ts ≡ Some (o, h, Word KwEnd ∷ m)))
  unfolding r.otherwise
  otherwise_found None ts m few a =
      let is : ts ≡ Word KwEnd ∷ m = a.1 ∙ ap (λ u. u ++ Word KwEnd ∷ m) a.2 in
      let low : 0 ≤ d = omega arith in
      (starts_no Bar (Word KwEnd) ts m is refl, (0, low, if_no _ _ _ _ (starts_no KwElse (Word KwEnd) ts m is refl) (λ i. Some (None, 0, is i))))
  otherwise_found (Some x) ts m few a =
      let b = of_word Han KwElse x ts (Word KwEnd ∷ m) a in
      let c = handler_sure.finds b.0 (Word KwEnd ∷ m) x (rest_few n (Word KwElse) ts b.0 b.1 few) tt b.2 in
      (starts_no Bar (Word KwElse) ts b.0 b.1 refl, (c.0, c.1, if_yes _ _ _ _ (starts_yes KwElse ts b.0 b.1) (then_some _ _ _ _ (word_reads KwElse ts b.0 b.1) (then_some _ _ _ _ c.2 refl))))

  abbrev pub PresentTail : Phrase (List (Test Plain) × Option (Handler Plain))
  PresentTail = separated Bar Tests ⊗ (maybe (KwElse ▷ Han) ◁ KwEnd)

  presence_found : (x : Equation Plain) (ts m : List Token) → length ts ≤ n → At ((KwPresent ▷ after Bar PresentTail) ⇒ (λ p. eq.Present p.0 p.1)) x ts m → EqFound (Equation Plain) (r.presence n E P Q H) x ts m
  unfolding r.presence
  presence_found x ts m few a =
      let made = of_made (KwPresent ▷ after Bar PresentTail) (λ p. eq.Present p.0 p.1) x ts m a in
      let p = made.0 in
      let b1 = of_word (after Bar PresentTail) KwPresent p ts m made.2 in
      let b2 = of_after Bar PresentTail p b1.0 m (λ ts m a. let b = of_both (separated Bar Tests) (maybe (KwElse ▷ Han) ◁ KwEnd) p ts m a in let f = separated_first Bar Tests p.0 ts b.0 b.1 in test_first f.0 ts f.1 f.2) b1.2 in
      let b3 = of_both (separated Bar Tests) (maybe (KwElse ▷ Han) ◁ KwEnd) p (r.skip Bar b1.0) m b2 in
      let b4 = of_end (maybe (KwElse ▷ Han)) KwEnd p.1 b3.0 m b3.2 in
      let few1 = rest_few n (Word KwPresent) ts b1.0 b1.1 few in
      let few2 = le_trans (length (r.skip Bar b1.0)) (length b1.0) n (skip_short Bar b1.0) few1 in
      let few3 = le_trans (length b3.0) (length (r.skip Bar b1.0)) n (not_longer (separated Bar Tests) p.0 (r.skip Bar b1.0) b3.0 b3.1) few2 in
      let o = otherwise_found p.1 b3.0 m few3 b4 in
      let c = tests_found p.0 (r.skip Bar b1.0) b3.0 o.0 few2 b3.1 in
      let high = max_le c.0 o.1.0 d c.1 o.1.1 in (
        max c.0 o.1.0 + 1,
        suc_le (max c.0 o.1.0) d high,
        then_some _ _ _ _ (word_reads KwPresent ts b1.0 b1.1) (then_some _ _ _ _ c.2 (then_some _ _ _ _ o.1.2 (then_some _ _ _ _ (word_reads KwEnd (Word KwEnd ∷ m) m refl)
            (then_some _ _ _ _ (taller_reads (max c.0 o.1.0) d high small) (λ i. Some (sym made.1 i, max c.0 o.1.0 + 1, m)))))),
      )

  guard_found : (D : ℕ) → suc D ≤ d → (b s : Bool) (v w : Fixed) → ((ts m : List Token) → ts ≡ Word v ∷ m → r.either KwUnless KwUntil ts ≡ Some (b, m)) → ((ts m : List Token) → ts ≡ Word w ∷ m → r.either KwThen KwContinue ts ≡ Some (s, m))
      → ((ts m : List Token) → ts ≡ Word w ∷ m → Quiet Expr ts) → (p : Tree × Name) (ts m : List Token) → length ts ≤ n → At (v ▷ (IsExpr D Expr ⊗ (w ▷ constructor))) p ts m
      → (h : ℕ) × (h ≤ suc D) × (r.transition n E P Q H ts ≡ Some ((b, guard p.0 s p.1), h, m))
  unfolding r.transition
  guard_found D le b s v w first second quiet p ts m few a =
      let b1 = of_word (IsExpr D Expr ⊗ (w ▷ constructor)) v p ts m a in
      let b2 = of_both (IsExpr D Expr) (w ▷ constructor) p b1.0 m b1.2 in
      let b3 = of_word constructor w p.1 b2.0 m b2.2 in
      let low : D ≤ d = omega arith in
      let small2 : suc D ≤ 200 = omega arith in
      let c = (lower D low).finds b1.0 b2.0 p.0 (rest_few n (Word v) ts b1.0 b1.1 few) (quiet b2.0 b3.0 b3.1) b2.1 in (
        c.0 + 1,
        suc_le c.0 D c.1,
        then_some _ _ _ _ (first ts b1.0 b1.1) (then_some _ _ _ _ c.2 (then_some _ _ _ _ (taller_reads c.0 D c.1 small2) (then_some _ _ _ _ (second b2.0 b3.0 b3.1) (then_some _ _ _ _ (constructor_reads p.1 b3.0 m b3.2) refl)))),
      )

  transition_found : (D : ℕ) → D ≤ d → (x : Bool × Guard Plain) (ts m : List Token) → length ts ≤ n → At (g.IsGuard D) x ts m → (h : ℕ) × (h ≤ D) × (r.transition n E P Q H ts ≡ Some (x, h, m))
  transition_found zero le x ts m few a = absurd a.2
  transition_found (suc D) le x ts m few a = which a.2
    where
      quiet_then : (ts m : List Token) → ts ≡ Word KwThen ∷ m → Quiet Expr ts
      quiet_then ts m is = quiet_word KwThen refl refl Expr ts m is

      quiet_continue : (ts m : List Token) → ts ≡ Word KwContinue ∷ m → Quiet Expr ts
      quiet_continue ts m is = quiet_word KwContinue refl refl Expr ts m is

      inside : (b : Bool) (v : Fixed) → ((ts m : List Token) → ts ≡ Word v ∷ m → r.either KwUnless KwUntil ts ≡ Some (b, m)) → (y : Guard Plain) → g.guarded (IsExpr D Expr) v y a.0 → x ≡ (b, y) → (h : ℕ) × (h ≤ suc D) × (r.transition n E P Q H ts ≡ Some (x, h, m))
      inside b v first y (inl c) is =
          let f = guard_found D le b true v KwThen first (left_either KwThen KwContinue) quiet_then c.0 ts m few (a.0, a.1, c.2) in
          (f.0, f.1, f.2 ∙ (λ i. Some ((b, sym c.1 i), f.0, m)) ∙ (λ i. Some (sym is i, f.0, m)))
      inside b v first y (inr c) is =
          let f = guard_found D le b false v KwContinue first (λ ts m is. right_either KwThen KwContinue ts m is refl) quiet_continue c.0 ts m few (a.0, a.1, c.2) in
          (f.0, f.1, f.2 ∙ (λ i. Some ((b, sym c.1 i), f.0, m)) ∙ (λ i. Some (sym is i, f.0, m)))

      which : g.IsGuard (suc D) x a.0 → (h : ℕ) × (h ≤ suc D) × (r.transition n E P Q H ts ≡ Some (x, h, m))
      which (inl b) = inside true KwUnless (left_either KwUnless KwUntil) b.0 b.2 b.1
      which (inr b) = inside false KwUntil (λ ts m is. right_either KwUnless KwUntil ts m is refl) b.0 b.2 b.1

  guard_first : (D : ℕ) (x : Bool × Guard Plain) (ts m : List Token) → At (g.IsGuard D) x ts m → (l : List Token) × ((ts ≡ Word KwUnless ∷ l) ⊎ (ts ≡ Word KwUntil ∷ l))
  guard_first zero x ts m a = absurd a.2
  guard_first (suc D) x ts m a = which a.2
    where
      inside : (v : Fixed) (y : Guard Plain) → g.guarded (IsExpr D Expr) v y a.0 → (l : List Token) × (ts ≡ Word v ∷ l)
      inside v y (inl c) = let w = of_word (IsExpr D Expr ⊗ (KwThen ▷ constructor)) v c.0 ts m (a.0, a.1, c.2) in (w.0, w.1)
      inside v y (inr c) = let w = of_word (IsExpr D Expr ⊗ (KwContinue ▷ constructor)) v c.0 ts m (a.0, a.1, c.2) in (w.0, w.1)

      which : g.IsGuard (suc D) x a.0 → (l : List Token) × ((ts ≡ Word KwUnless ∷ l) ⊎ (ts ≡ Word KwUntil ∷ l))
      which (inl b) = let i = inside KwUnless b.0 b.2 in (i.0, inl i.1)
      which (inr b) = let i = inside KwUntil b.0 b.2 in (i.0, inr i.1)

  guard_begins : (x : Bool × Guard Plain) (ts m : List Token) → At (g.IsGuard d) x ts m → (r.begins_guard ts ≡ true) × (starts KwDone ts ≡ false) × (length m + 1 ≤ length ts) × DoEnd ts
  unfolding r.begins_guard
  guard_begins x ts m a =
      let f = guard_first d x ts m a in
      let l = not_longer (g.IsGuard d) x ts m a in
      elim f.1 [
        | inl is ↦ (
          ap (λ b. b || starts KwUntil ts) (starts_yes KwUnless ts f.0 is),
          starts_no KwDone (Word KwUnless) ts f.0 is refl,
          guard_takes x ts m a,
          ((quiet_word KwUnless refl refl Expr ts f.0 is, starts_no KwAnd (Word KwUnless) ts f.0 is refl), not_equation KwUnless ts f.0 is refl),
        )
        | inr is ↦ (
          (λ i. starts_no KwUnless (Word KwUntil) ts f.0 is refl i || starts_yes KwUntil ts f.0 is i),
          starts_no KwDone (Word KwUntil) ts f.0 is refl,
          guard_takes x ts m a,
          ((quiet_word KwUntil refl refl Expr ts f.0 is, starts_no KwAnd (Word KwUntil) ts f.0 is refl), not_equation KwUntil ts f.0 is refl),
        )
      ]
    where
      nonempty : (D : ℕ) (x : Bool × Guard Plain) (u : List Token) → g.IsGuard D x u → (t : Token) × (l : List Token) × (u ≡ t ∷ l)
      nonempty D x u b =
          let f = guard_first D x u [] (u, sym (append_nil u), b) in
          elim f.1 [ inl is ↦ (Word KwUnless, f.0, is) | inr is ↦ (Word KwUntil, f.0, is) ]

      guard_takes : (x : Bool × Guard Plain) (ts m : List Token) → At (g.IsGuard d) x ts m → length m + 1 ≤ length ts
      guard_takes x ts m a =
          let b = nonempty d x a.0 a.2 in
          let e : length ts ≡ length a.0 + length m = ap length a.1 ∙ length-append a.0 m in
          let f = one_longer b.0 a.0 b.1 b.2 in
          omega arith

  strong_last : (g : Bool × Guard Plain) (strong : List (Guard Plain)) (gs : List (Bool × Guard Plain)) → with_strong g strong ++ guards_that true gs ≡ strong ++ guards_that true (g ∷ gs)
  strong_last (true, g) strong gs = append_assoc strong (g ∷ []) (guards_that true gs)
  strong_last (false, g) strong gs = refl

  weak_last : (g : Bool × Guard Plain) (weak : List (Guard Plain)) (gs : List (Bool × Guard Plain)) → with_weak g weak ++ guards_that false gs ≡ weak ++ guards_that false (g ∷ gs)
  weak_last (true, g) weak gs = refl
  weak_last (false, g) weak gs = append_assoc weak (g ∷ []) (guards_that false gs)

  gather_found : (k : ℕ) (gs : List (Bool × Guard Plain)) (strong weak : List (Guard Plain)) (h : ℕ) (ts m : List Token) → length ts ≤ k → r.begins_guard m ≡ false → h ≤ d → length ts ≤ n → At (many (g.IsGuard d)) gs ts m
      → (j : ℕ) × (j ≤ d) × (r.gather n E P Q H k strong weak h ts ≡ Some ((strong ++ guards_that true gs, weak ++ guards_that false gs), j, m))
  gather_found zero [] strong weak h ts m le stop low few a = (h, low, (λ i. Some ((sym (append_nil strong) i, sym (append_nil weak) i), h, of_none (g.IsGuard d) ts m a i)))
  gather_found zero (x ∷ gs) strong weak h ts m le stop low few a =
      let b = of_more (g.IsGuard d) x gs ts m a in
      let l = (guard_begins x ts b.0 b.1).2 in
      absurd (omega arith)
  gather_found (suc k) [] strong weak h ts m le stop low few a =
      (h, low, if_no _ _ _ _ (ap r.begins_guard (of_none (g.IsGuard d) ts m a) ∙ stop) (λ i. Some ((sym (append_nil strong) i, sym (append_nil weak) i), h, of_none (g.IsGuard d) ts m a i)))
  gather_found (suc k) (x ∷ gs) strong weak h ts m le stop low few a =
      let b = of_more (g.IsGuard d) x gs ts m a in
      let f = guard_begins x ts b.0 b.1 in
      let l = f.2 in
      let c = transition_found d (le_refl d) x ts b.0 few b.1 in
      let less : length b.0 ≤ k = omega arith in
      let few2 : length b.0 ≤ n = omega arith in
      let e = gather_found k gs (with_strong x strong) (with_weak x weak) (max h c.0) b.0 m less stop (max_le h c.0 d low c.1) few2 b.2 in
      (e.0, e.1, if_yes _ _ _ _ f.0 (then_some _ _ _ _ c.2 (e.2 ∙ (λ i. Some ((strong_last x strong gs i, weak_last x weak gs i), e.0, m)))))

  guards_found : (gs : List (Bool × Guard Plain)) (ts m : List Token) → r.begins_guard m ≡ false → length ts ≤ n → At (some (g.IsGuard d)) gs ts m
      → (r.begins_guard ts ≡ true) × (starts KwDone ts ≡ false) × DoEnd ts × ((j : ℕ) × (j ≤ d) × (r.guards n E P Q H ts ≡ Some ((guards_that true gs, guards_that false gs), j, m)))
  unfolding r.guards
  guards_found [] ts m stop few a = absurd a.2
  guards_found (x ∷ gs) ts m stop few a =
      let b = of_more (g.IsGuard d) x gs ts m a in
      let f = guard_begins x ts b.0 b.1 in
      let l = f.2 in
      let few2 : length b.0 ≤ n = omega arith in
      let c = transition_found d (le_refl d) x ts b.0 few b.1 in
      let e = gather_found n gs (with_strong x []) (with_weak x []) c.0 b.0 m few2 stop c.1 few2 b.2 in
      (f.0, f.1, f.3, (e.0, e.1, then_some _ _ _ _ c.2 (e.2 ∙ (λ i. Some ((strong_last x [] gs i, weak_last x [] gs i), e.0, m)))))

  exits_found : (gs : List (Bool × Guard Plain)) (ts m : List Token) → StateEnd m → length ts ≤ n → At (g.exits (g.IsGuard d)) gs ts m → DoEnd ts × ((j : ℕ) × (j ≤ d) × (r.exits n E P Q H ts ≡ Some ((guards_that true gs, guards_that false gs), j, m)))
  unfolding r.exits
  exits_found gs ts m end few a = which a.2
    where
      low : 0 ≤ d
      low = omega arith

      which : g.exits (g.IsGuard d) gs a.0 → DoEnd ts × ((j : ℕ) × (j ≤ d) × (r.exits n E P Q H ts ≡ Some ((guards_that true gs, guards_that false gs), j, m)))
      which (inl b) =
          let is : ts ≡ Word KwDone ∷ m = a.1 ∙ ap (λ u. u ++ m) b.1 in (
            do_end KwDone ts m is (quiet_word KwDone refl refl Expr ts m is, starts_no KwAnd (Word KwDone) ts m is refl) refl,
            (0, low, if_yes _ _ _ _ (starts_yes KwDone ts m is) (then_some _ _ _ _ (word_reads KwDone ts m is) (λ i. Some ((guards_that true (sym b.0 i), guards_that false (sym b.0 i)), 0, m)))),
          )
      which (inr (inl b)) =
          let f = guards_found gs ts m end.0 few (a.0, a.1, b) in
          (f.2, (f.3.0, f.3.1, if_no _ _ _ _ f.1 (if_yes _ _ _ _ f.0 (then_some _ _ _ _ f.3.2 (λ i. Some ((guards_that true gs, guards_that false gs), f.3.0, unskipped KwDone m end.1 i))))))
      which (inr (inr b)) =
          let c = of_end (some (g.IsGuard d)) KwDone gs ts m (a.0, a.1, b) in
          let k = Word KwDone ∷ m in
          let f = guards_found gs ts (Word KwDone ∷ m) (not_guard KwDone (Word KwDone ∷ m) m refl refl refl) few c in
          (f.2, (f.3.0, f.3.1, if_no _ _ _ _ f.1 (if_yes _ _ _ _ f.0 (then_some _ _ _ _ f.3.2 (λ i. Some ((guards_that true gs, guards_that false gs), f.3.0, skips KwDone (Word KwDone ∷ m) m refl i))))))

  abbrev pub States : Phrase (State Plain)
  States = g.state Ex (IsPat d) (IsEquation d) (IsHandler d) (g.IsGuard d)

  state_sure : Sure (State Plain) n d (r.state n E P Q H) States StateEnd
  unfolding r.state
  state_sure = record {
    finds = λ ts m x few end a.
        let made = of_made (constructor ⊗ (Arrow ▷ (IsHandler d ⊗ g.exits (g.IsGuard d)))) (λ p. state_of p.0 p.1.0 p.1.1) x ts m a in
        let p = made.0 in
        let b1 = of_both constructor (Arrow ▷ (IsHandler d ⊗ g.exits (g.IsGuard d))) p ts m made.2 in
        let b2 = of_word (IsHandler d ⊗ g.exits (g.IsGuard d)) Arrow p.1 b1.0 m b1.2 in
        let b3 = of_both (IsHandler d) (g.exits (g.IsGuard d)) p.1 b2.0 m b2.2 in
        let few1 = le_trans (length b1.0) (length ts) n (not_longer constructor p.0 ts b1.0 b1.1) few in
        let few2 = rest_few n (Word Arrow) b1.0 b2.0 b2.1 few1 in
        let few3 = le_trans (length b3.0) (length b2.0) n (not_longer (IsHandler d) p.1.0 b2.0 b3.0 b3.1) few2 in
        let e = exits_found p.1.1 b3.0 m end few3 b3.2 in
        let c = sh.finds b2.0 b3.0 p.1.0 few2 e.0 b3.1 in
        (max c.0 e.1.0, max_le c.0 e.1.0 d c.1 e.1.1, then_some _ _ _ _ (constructor_reads p.0 ts b1.0 b1.1) (then_some _ _ _ _ (word_reads Arrow b1.0 b2.0 b2.1) (then_some _ _ _ _ c.2 (then_some _ _ _ _ e.1.2 (λ i. Some (sym made.1 i, max c.0 e.1.0, m))))));
  }

  state_first : (x : State Plain) (ts m : List Token) → At States x ts m → starts Bar ts ≡ false
  state_first x ts m a =
      let made = of_made (constructor ⊗ (Arrow ▷ (IsHandler d ⊗ g.exits (g.IsGuard d)))) (λ p. state_of p.0 p.1.0 p.1.1) x ts m a in
      let b1 = of_both constructor (Arrow ▷ (IsHandler d ⊗ g.exits (g.IsGuard d))) made.0 ts m made.2 in
      starts_no Bar (Cons made.0.0) ts b1.0 (b1.1.1 ∙ ap (λ u. u ++ b1.0) b1.1.2) refl

  state_end : (w : Fixed) → is_word KwUnless (Word w) ≡ false → is_word KwUntil (Word w) ≡ false → is_word KwDone (Word w) ≡ false → (ts m : List Token) → ts ≡ Word w ∷ m → StateEnd ts
  state_end w e f h ts m is = (not_guard w ts m is e f, starts_no KwDone (Word w) ts m is h)

  automaton_found : (x : Equation Plain) (ts m : List Token) → length ts ≤ n → At ((KwAutomaton ▷ after Bar (separated Bar States ◁ KwEnd)) ⇒ eq.Automaton) x ts m → EqFound (Equation Plain) (r.automaton n E P Q H) x ts m
  unfolding r.automaton r.states
  automaton_found x ts m few a =
      let made = of_made (KwAutomaton ▷ after Bar (separated Bar States ◁ KwEnd)) eq.Automaton x ts m a in
      let p = made.0 in
      let b1 = of_word (after Bar (separated Bar States ◁ KwEnd)) KwAutomaton p ts m made.2 in
      let b2 = of_after Bar (separated Bar States ◁ KwEnd) p b1.0 m (λ ts m a. let b = of_end (separated Bar States) KwEnd p ts m a in let f = separated_first Bar States p ts (Word KwEnd ∷ m) b in state_first f.0 ts f.1 f.2) b1.2 in
      let b3 = of_end (separated Bar States) KwEnd p (r.skip Bar b1.0) m b2 in
      let k = Word KwEnd ∷ m in
      let few1 = rest_few n (Word KwAutomaton) ts b1.0 b1.1 few in
      let few2 = le_trans (length (r.skip Bar b1.0)) (length b1.0) n (skip_short Bar b1.0) few1 in
      let c = separated_found n d (starts Bar) Bar (r.state n E P Q H) States StateEnd state_sure (λ x ts m a. let b = of_word States Bar x ts m a in starts_yes Bar ts b.0 b.1) (λ ts m is. state_end Bar refl refl refl ts m is)
      p (r.skip Bar b1.0) (Word KwEnd ∷ m) (starts_no Bar (Word KwEnd) (Word KwEnd ∷ m) m refl refl) (state_end KwEnd refl refl refl (Word KwEnd ∷ m) m refl) few2 b3 in
      (c.0 + 1, suc_le c.0 d c.1, then_some _ _ _ _ (word_reads KwAutomaton ts b1.0 b1.1) (then_some _ _ _ _ c.2 (then_some _ _ _ _ (word_reads KwEnd (Word KwEnd ∷ m) m refl) (then_some _ _ _ _ (taller_reads c.0 d c.1 small) (λ i. Some (sym made.1 i, c.0 + 1, m))))))

  off : (b s : Bool) → s ≡ false → (not b && s) ≡ false
  off true s e = refl
  off false s e = e

  -- the words that begin equations do not stand first
  abbrev pub Unnamed : List Token → Type 0
  Unnamed ts = (starts KwClock ts ≡ false) × (starts KwLast ts ≡ false)

  word_unnamed : (t : Token) (ts l : List Token) → ts ≡ t ∷ l → is_word KwClock t ≡ false → is_word KwLast t ≡ false → Unnamed ts
  word_unnamed t ts l is e f = (starts_no KwClock t ts l is e, starts_no KwLast t ts l is f)

  abbrev pub NamedRead : (w : Fixed) (make : Name → Tree → Equation Plain) (ts : List Token) → Option (Got (Equation Plain))
  NamedRead w make ts = r.bound n E P Q H w ts >>= λ x. Some (make x.0.0 x.0.1, x.1, x.2)

  named_found : (w : Fixed) (make : Name → Tree → Equation Plain) (x : Equation Plain) (ts m : List Token) → Quiet Expr m → length ts ≤ n → At (Binds w ⇒ (λ p. make p.0 p.1)) x ts m
      → (l : List Token) × (ts ≡ Word w ∷ l) × (h : ℕ) × (h ≤ suc d) × (NamedRead w make ts ≡ Some (x, h, m))
  named_found w make x ts m quiet few a =
      let made = of_made (Binds w) (λ p. make p.0 p.1) x ts m a in
      let b = of_word (identifier ⊗ (Equal ▷ Ex)) w made.0 ts m made.2 in
      let c = bound_found w made.0 ts m quiet few made.2 in
      (b.0, b.1, c.0, c.1, then_some _ _ _ _ c.2 (λ i. Some (sym made.1 i, c.0, m)))

  inner_found : (b : Bool) (x : Equation Plain) (ts m : List Token) → Quiet Expr m → length ts ≤ n → At (g.inner Ex (IsPat d) (IsEquation d) (IsHandler d) (g.IsGuard d) b) x ts m → EqFound (Equation Plain) (r.equation n E P Q H b) x ts m
  unfolding r.equation
  inner_found b x ts m quiet few a = which a.2
    where
      clock : Unnamed ts → (not b && starts KwClock ts) ≡ false
      clock u = off b (starts KwClock ts) u.0

      last : Unnamed ts → (not b && starts KwLast ts) ≡ false
      last u = off b (starts KwLast ts) u.1

      plain : (t : Token) (l : List Token) → ts ≡ t ∷ l → (Unnamed ts × (is_word KwEmit t ≡ false) × (is_word KwReset t ≡ false) × (is_word KwMatch t ≡ false) × (is_word KwPresent t ≡ false) × (is_word KwAutomaton t ≡ false)) → EqFound (Equation Plain) (r.plain_equation n E P Q H) x ts m → EqFound (Equation Plain) (r.equation n E P Q H b) x ts m
      plain t l is u f = (
        f.0,
        f.1,
        if_no _ _ _ _ (clock u.0) (if_no _ _ _ _ (last u.0) (if_no _ _ _ _ (starts_no KwEmit t ts l is u.1) (if_no _ _ _ _ (starts_no KwReset t ts l is u.2) (if_no _ _ _ _ (starts_no KwMatch t ts l is u.3)
            (if_no _ _ _ _ (starts_no KwPresent t ts l is u.4) (if_no _ _ _ _ (starts_no KwAutomaton t ts l is u.5) f.2)))))),
      )

      which : g.inner Ex (IsPat d) (IsEquation d) (IsHandler d) (g.IsGuard d) b x a.0 → EqFound (Equation Plain) (r.equation n E P Q H b) x ts m
      which (inl c) =
          let at : At ((IsPat d ⊗ (Equal ▷ Ex)) ⇒ (λ p. eq.Plain p.0 p.1)) x ts m = (a.0, a.1, c) in
          let made = of_made (IsPat d ⊗ (Equal ▷ Ex)) (λ p. eq.Plain p.0 p.1) x ts m at in
          let b1 = of_both (IsPat d) (Equal ▷ Ex) made.0 ts m made.2 in
          let f = pat_head d made.0.0 ts b1.0 b1.1 in
          let found = plain_found x ts m quiet few at in
          elim f.3 [
            | inl p ↦ let is = f.2 ∙ ap (λ t. t ∷ f.1) p.1 in plain (Id p.0) f.1 is (word_unnamed (Id p.0) ts f.1 is refl refl, refl, refl, refl, refl, refl) found
            | inr q ↦ elim q [
              | inl e ↦ let is = f.2 ∙ ap (λ t. t ∷ f.1) e in plain (Word Underscore) f.1 is (word_unnamed (Word Underscore) ts f.1 is refl refl, refl, refl, refl, refl, refl) found
              | inr e ↦ let is = f.2 ∙ ap (λ t. t ∷ f.1) e in plain (Word ParenLeft) f.1 is (word_unnamed (Word ParenLeft) ts f.1 is refl refl, refl, refl, refl, refl, refl) found
            ]
          ]
      which (inr (inl c)) =
          let f = named_found KwEmit eq.Emit x ts m quiet few (a.0, a.1, c) in
          let u = word_unnamed (Word KwEmit) ts f.0 f.1 refl refl in
          (f.2, f.3, if_no _ _ _ _ (clock u) (if_no _ _ _ _ (last u) (if_yes _ _ _ _ (starts_yes KwEmit ts f.0 f.1) f.4)))
      which (inr (inr (inl c))) =
          let w = of_word (g.equations (IsEquation d b) ⊗ (KwEvery ▷ Ex)) KwReset c.0 ts m (a.0, a.1, c.2) in
          let f = reset_found b x ts m quiet few (a.0, a.1, c) in
          let u = word_unnamed (Word KwReset) ts w.0 w.1 refl refl in
          (f.0, f.1, if_no _ _ _ _ (clock u) (if_no _ _ _ _ (last u) (if_no _ _ _ _ (starts_no KwEmit (Word KwReset) ts w.0 w.1 refl) (if_yes _ _ _ _ (starts_yes KwReset ts w.0 w.1) f.2))))
      which (inr (inr (inr (inl c)))) =
          let w = of_word (Ex ⊗ (KwWith ▷ after Bar MatchTail)) KwMatch c.0 ts m (a.0, a.1, c.2) in
          let f = matching_found x ts m few (a.0, a.1, c) in
          let u = word_unnamed (Word KwMatch) ts w.0 w.1 refl refl in
          (f.0, f.1, if_no _ _ _ _ (clock u) (if_no _ _ _ _ (last u) (if_no _ _ _ _ (starts_no KwEmit (Word KwMatch) ts w.0 w.1 refl) (if_no _ _ _ _ (starts_no KwReset (Word KwMatch) ts w.0 w.1 refl) (if_yes _ _ _ _ (starts_yes KwMatch ts w.0 w.1) f.2)))))
      which (inr (inr (inr (inr (inl c))))) =
          let w = of_word (after Bar PresentTail) KwPresent c.0 ts m (a.0, a.1, c.2) in
          let f = presence_found x ts m few (a.0, a.1, c) in
          let u = word_unnamed (Word KwPresent) ts w.0 w.1 refl refl in
          (f.0, f.1, if_no _ _ _ _ (clock u) (if_no _ _ _ _ (last u) (if_no _ _ _ _ (starts_no KwEmit (Word KwPresent) ts w.0 w.1 refl) (if_no _ _ _ _ (starts_no KwReset (Word KwPresent) ts w.0 w.1 refl) (if_no _ _ _ _ (starts_no KwMatch (Word KwPresent) ts w.0 w.1 refl) (if_yes _ _ _ _ (starts_yes KwPresent ts w.0 w.1) f.2))))))
      which (inr (inr (inr (inr (inr c))))) =
          let w = of_word (after Bar (separated Bar States ◁ KwEnd)) KwAutomaton c.0 ts m (a.0, a.1, c.2) in
          let f = automaton_found x ts m few (a.0, a.1, c) in
          let u = word_unnamed (Word KwAutomaton) ts w.0 w.1 refl refl in (
            f.0,
            f.1,
            if_no _ _ _ _ (clock u) (if_no _ _ _ _ (last u) (if_no _ _ _ _ (starts_no KwEmit (Word KwAutomaton) ts w.0 w.1 refl) (if_no _ _ _ _ (starts_no KwReset (Word KwAutomaton) ts w.0 w.1 refl) (if_no _ _ _ _ (starts_no KwMatch (Word KwAutomaton) ts w.0 w.1 refl)
                (if_no _ _ _ _ (starts_no KwPresent (Word KwAutomaton) ts w.0 w.1 refl) (if_yes _ _ _ _ (starts_yes KwAutomaton ts w.0 w.1) f.2)))))),
          )

  equation_found : (b : Bool) (x : Equation Plain) (ts m : List Token) → Quiet Expr m → length ts ≤ n → At (g.equation Ex (IsPat d) (IsEquation d) (IsHandler d) (g.IsGuard d) b) x ts m → EqFound (Equation Plain) (r.equation n E P Q H b) x ts m
  unfolding r.equation
  equation_found true x ts m quiet few a = inner_found true x ts m quiet few a
  equation_found false x ts m quiet few a = which a.2
    where
      which : g.equation Ex (IsPat d) (IsEquation d) (IsHandler d) (g.IsGuard d) false x a.0 → EqFound (Equation Plain) (r.equation n E P Q H false) x ts m
      which (inl (inl c)) =
          let f = named_found KwClock eq.Clock x ts m quiet few (a.0, a.1, c) in
          (f.2, f.3, if_yes _ _ _ _ (starts_yes KwClock ts f.0 f.1) f.4)
      which (inl (inr c)) =
          let f = named_found KwLast eq.Initial x ts m quiet few (a.0, a.1, c) in
          (f.2, f.3, if_no _ _ _ _ (starts_no KwClock (Word KwLast) ts f.0 f.1 refl) (if_yes _ _ _ _ (starts_yes KwLast ts f.0 f.1) f.4))
      which (inr c) = inner_found false x ts m quiet few (a.0, a.1, c)

  abbrev pub Locals : Phrase (List (Equation Plain))
  Locals = g.locals Ex (IsPat d) (IsEquation d) (IsHandler d) (g.IsGuard d)

  locals_found : (o : Option (List (Equation Plain))) (ts k m : List Token) → m ≡ Word KwDo ∷ k → length ts ≤ n → At (maybe Locals) o ts m → (h : ℕ) × (h ≤ d) × (r.locals n E P Q H ts ≡ Some (or_none o, h, m))
  unfolding r.locals
  locals_found None ts k m end few a =
      let is : ts ≡ m = a.1 ∙ ap (λ u. u ++ m) a.2 in
      let low : 0 ≤ d = omega arith in
      (0, low, if_no _ _ _ _ (starts_no KwLet (Word KwDo) ts k (is ∙ end) refl) (λ i. Some ([], 0, is i)))
  locals_found (Some xs) ts k m end few a =
      let b1 = of_word (after KwRec (g.equations (IsEquation d false) ◁ KwIn)) KwLet xs ts m a in
      let b2 = of_after KwRec (g.equations (IsEquation d false) ◁ KwIn) xs b1.0 m (λ ts m a. let b = of_end (g.equations (IsEquation d false)) KwIn xs ts m a in let f = separated_first KwAnd (IsEquation d false) xs ts (Word KwIn ∷ m) b in (eq_start d false f.0 ts f.1 f.2).1) b1.2 in
      let b3 = of_end (g.equations (IsEquation d false)) KwIn xs (r.skip KwRec b1.0) m b2 in
      let few1 = le_trans (length (r.skip KwRec b1.0)) (length b1.0) n (skip_short KwRec b1.0) (rest_few n (Word KwLet) ts b1.0 b1.1 few) in
      let c = equations_found false xs (r.skip KwRec b1.0) (Word KwIn ∷ m) (quiet_word KwIn refl refl Expr (Word KwIn ∷ m) m refl, starts_no KwAnd (Word KwIn) (Word KwIn ∷ m) m refl refl) few1 b3 in
      (c.0, c.1, if_yes _ _ _ _ (starts_yes KwLet ts b1.0 b1.1) (then_some _ _ _ _ (word_reads KwLet ts b1.0 b1.1) (then_some _ _ _ _ c.2 (then_some _ _ _ _ (word_reads KwIn (Word KwIn ∷ m) m refl) refl))))

  within_found : (o : Option (List (Equation Plain))) (ts m : List Token) → DoEnd m → length ts ≤ n → At (maybe (g.equations (IsEquation d true))) o ts m → (h : ℕ) × (h ≤ d) × (r.within n E P Q H ts ≡ Some (or_none o, h, m))
  unfolding r.within
  within_found None ts m end few a =
      let is : ts ≡ m = a.1 ∙ ap (λ u. u ++ m) a.2 in
      let low : 0 ≤ d = omega arith in
      (0, low, if_no _ _ _ _ (ap r.begins_equation is ∙ end.1) (λ i. Some ([], 0, is i)))
  within_found (Some xs) ts m end few a =
      let f = separated_first KwAnd (IsEquation d true) xs ts m a in
      let c = equations_found true xs ts m end.0 few a in
      (c.0, c.1, if_yes _ _ _ _ (eq_start d true f.0 ts f.1 f.2).0 c.2)

  doing_found : (x : Handler Plain) (ts m : List Token) → DoEnd m → length ts ≤ n → At (g.doing Ex (IsPat d) (IsEquation d) (IsHandler d) (g.IsGuard d)) x ts m → EqFound (Handler Plain) (r.doing n E P Q H) x ts m
  unfolding r.doing
  doing_found x ts m end few a =
      let made = of_made (maybe Locals ⊗ (KwDo ▷ maybe (g.equations (IsEquation d true)))) (λ p. handler_of p.0 p.1) x ts m a in
      let p = made.0 in
      let b1 = of_both (maybe Locals) (KwDo ▷ maybe (g.equations (IsEquation d true))) p ts m made.2 in
      let b2 = of_word (maybe (g.equations (IsEquation d true))) KwDo p.1 b1.0 m b1.2 in
      let few1 = le_trans (length b1.0) (length ts) n (not_longer (maybe Locals) p.0 ts b1.0 b1.1) few in
      let c = locals_found p.0 ts b2.0 b1.0 b2.1 few b1.1 in
      let e = within_found p.1 b2.0 m end (rest_few n (Word KwDo) b1.0 b2.0 b2.1 few1) b2.2 in
      let high = max_le c.0 e.0 d c.1 e.1 in
      (max c.0 e.0 + 1, suc_le (max c.0 e.0) d high, then_some _ _ _ _ c.2 (then_some _ _ _ _ (word_reads KwDo b1.0 b2.0 b2.1) (then_some _ _ _ _ e.2 (then_some _ _ _ _ (taller_reads (max c.0 e.0) d high small) (λ i. Some (sym made.1 i, max c.0 e.0 + 1, m))))))

-- each equation and each handler is read
abbrev pub BothKinds : ℕ → ℕ → ℕ → Type 0
BothKinds n f D = ((b : Bool) → Sure (Equation Plain) n D (r.equation_at n f b) (λ x ts. IsEquation D b x ts) (Quiet Expr)) × Sure (Handler Plain) n D (r.doing_at n f) (IsHandler D) DoEnd

pub sure_both_kinds : (n f D : ℕ) → D ≤ f → D ≤ 200 → BothKinds n f D
unfolding r.equation_at r.doing_at
sure_both_kinds n zero zero le small = ((λ b. record { finds = λ ts m x few q a. absurd a.2 }), record { finds = λ ts m x few q a. absurd a.2 })
sure_both_kinds n zero (suc D) le small = absurd (omega arith)
sure_both_kinds n (suc f) zero le small = ((λ b. record { finds = λ ts m x few q a. absurd a.2 }), record { finds = λ ts m x few q a. absurd a.2 })
sure_both_kinds n (suc f) (suc D) le small =
    let under : D ≤ f = omega arith in
    let low : D ≤ 200 = omega arith in
    let s = sure_both_kinds n f D under low in
    let e = sure_expression n f D under low Expr in
    let p = sure_pattern n f D under low in
    let l : (C : ℕ) → C ≤ D → Sure Tree n C (expression n f Expr) (IsExpr C Expr) (Quiet Expr) = λ C c. sure_expression n f C (le_trans C D f c under) (le_trans C D 200 c low) Expr in (
      (λ b. record { finds = λ ts m x few q a. equation_found n D small (expression n f Expr) (rp.pattern n f) (r.equation_at n f) (r.doing_at n f) e p s.0 s.1 l b x ts m q few a }),
      record { finds = λ ts m x few q a. doing_found n D small (expression n f Expr) (rp.pattern n f) (r.equation_at n f) (r.doing_at n f) e p s.0 s.1 l x ts m q few a },
    )
