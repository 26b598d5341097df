-- What is read of patterns and of equations are patterns and equations.
use Rattle.std.proofs.Common.{◌≡◌, ℕ, zero, suc, ◌≤◌, ◌⊎◌, inl, inr, Bool, true, false, List, [], ◌∷◌, ◌++◌, Option, Some, None, max, refl, sym, ◌∙◌, ap, subst, append_assoc, if◌then◌else◌}
use Rattle.std.specs.Prelude.{not, ◌&&◌}
use Rattle.ls_ast.specs.declared.tree.Arm.{Arm}
use Rattle.ls_ast.specs.declared.tree.Equation.{Equation}
use Rattle.ls_ast.specs.declared.tree.Equation.TheVariants as eq
use Rattle.ls_ast.specs.declared.tree.Guard.{Guard}
use Rattle.ls_ast.specs.declared.tree.Handler.{Handler}
use Rattle.ls_ast.specs.declared.tree.Pat.{Pat}
use Rattle.ls_ast.specs.declared.tree.Pat.TheVariants as pat
use Rattle.ls_ast.specs.declared.tree.Plain.{Plain}
use Rattle.ls_ast.specs.declared.tree.State.{State}
use Rattle.ls_ast.specs.declared.tree.Test.{Test}
use Rattle.ls_base.specs.declared.Name.{Name}
use Rattle.ls_base.specs.declared.TheConstants.Name.{FALSE, TRUE}
use Rattle.ls_lexer.specs.declared.token.Fixed.{Fixed}
use Rattle.ls_lexer.specs.declared.token.Fixed.TheVariants.{KwAnd, KwAutomaton, KwClock, KwContinue, KwDo, KwDone, KwElse, KwEmit, KwEnd, KwEvery, KwFalse, KwIn, KwLast, KwLet, KwMatch, KwPresent, KwRec, KwReset, KwThen, KwTrue, KwUnless, KwUntil, KwWith, ParenLeft, ParenRight, Comma, Equal, Arrow, Bar, Underscore}
use Rattle.ls_lexer.specs.declared.token.Token.{Token}
use Rattle.ls_lexer.specs.declared.token.Token.TheVariants.{Fixed as Word, Cons}
use Rattle.ls_parser.specs.declared.level.Level.TheVariants.{Expr}
use Rattle.ls_parser.specs.Making.{Tree, guard, arm_of, arms_of, test_of, state_of, state_with, handler_of, handler_with, guards_that, with_strong, with_weak, or_none}
use Rattle.ls_parser.specs.Notation.{Phrase, ◌▷◌, ◌◁◌, ◌⊗◌, ◌⇒◌, many, some, separated, maybe, after, identifier, constructor}
use Rattle.ls_parser.specs.Grammar as g
use Rattle.ls_parser.specs.Grammar.{IsExpr, IsPat, IsEquation, IsHandler}
use Rattle.ls_parser.specs.Patterns as rp
use Rattle.ls_parser.specs.Equations as r
use Rattle.ls_parser.specs.Expressions.{expression}
use Rattle.ls_parser.specs.Reading.{Reader, ◌>>=◌, uncons, is_word, starts, word, name, constructor as constructor_read, taller, behind, collect}
use Rattle.ls_parser.proofs.Front.{At, append_nil, true_false, sound_begins, some_of, branch_of, some_one, none_some, cons_of, word_one, word_of, name_at, constructor_at, le_refl, le_trans, max_left, max_right, one_more, less_high, at_word, at_end, at_made, at_both, at_none, at_more, Got, Reads, Stands, Sound, give, sound_behind, whole, sound_separated}
use Rattle.ls_parser.proofs.SoundExpr.{sound_expression}

-- patterns

module _ (n : ℕ) (pos : 1 ≤ n) (P : Reader Pat) (sp : Sound Pat P IsPat) where
  abbrev pub NextPat : ℕ → Phrase Pat
  NextPat D = IsPat (suc D)

  parts_stand : (ts m : List Token) → ts ≡ Word ParenLeft ∷ m → (p : Pat) (h : ℕ) (k : List Token) → Reads IsPat m (p, h, k) → starts Comma k ≡ true → (z : Got Pat) → rp.parts_from n P p h k ≡ Some z → Stands NextPat ts z
  unfolding rp.parts_from
  parts_stand ts m first p h k inner comma z read =
      let a = some_of (collect n (starts Comma) (behind Comma P) (p ∷ []) h k) (λ x. word ParenRight x.2 >>= λ m. taller x.1 >>= λ k. Some (pat.Tuple x.0, k, m)) z read in
      let b = some_of (word ParenRight a.0.2) (λ m. taller a.0.1 >>= λ k. Some (pat.Tuple a.0.0, k, m)) z a.2 in
      let c = some_of (taller a.0.1) (λ k. Some (pat.Tuple a.0.0, k, b.0)) z b.2 in
      let more = sound_begins n pos (starts Comma) (behind Comma P) (λ D. Comma ▷ IsPat D) (sound_behind Comma sp) (p ∷ []) h k a.0 comma a.1 in
      let ys = more.1.0 ∷ more.1.1 in
      give (Stands NextPat ts) (pat.Tuple a.0.0, c.0, b.0) z c.2 (
        one_more a.0.1 c.0 c.1,
        λ D le.
            let high = less_high a.0.1 c.0 D c.1 le in
            let x = pat.Tuple a.0.0 in
            let a = at_made (ParenLeft ▷ ((IsPat D ⊗ some (Comma ▷ IsPat D)) ◁ ParenRight)) (λ p. pat.Tuple (p.0 ∷ p.1)) (p, ys) x ts b.0 (ap pat.Tuple more.1.2)
            (at_word ((IsPat D ⊗ some (Comma ▷ IsPat D)) ◁ ParenRight) ParenLeft (p, ys) ts m b.0 first
            (at_end (IsPat D ⊗ some (Comma ▷ IsPat D)) ParenRight (p, ys) m a.0.2 b.0
            (at_both (IsPat D) (some (Comma ▷ IsPat D)) p ys m k a.0.2 (inner D (le_trans h a.0.1 D more.0 high)) (more.1.3 D high))
            (word_of ParenRight a.0.2 b.0 b.1))) in
            (a.0, a.1, inr (inr (inr (inr a.2)))),
      )

  inner_stands : (ts m : List Token) → ts ≡ Word ParenLeft ∷ m → (z : Got Pat) → rp.inner n P m ≡ Some z → Stands NextPat ts z
  unfolding rp.inner
  inner_stands ts m first z read =
      elim (branch_of (starts ParenRight m) (word ParenRight m >>= λ m. Some (pat.Unit, 1, m))
      (P m >>= λ p. if starts Comma p.2 then rp.parts_from n P p.0 p.1 p.2 else (word ParenRight p.2 >>= λ m. taller p.1 >>= λ k. Some (p.0, k, m))) (Some z) read) [
        | inl q ↦
            let a = some_of (word ParenRight m) (λ m. Some (pat.Unit, 1, m)) z q.1 in
            give (Stands NextPat ts) (pat.Unit, 1, a.0) z a.2
            (le_refl 1, λ D le. (Word ParenLeft ∷ Word ParenRight ∷ [], first ∙ ap (λ u. Word ParenLeft ∷ u) (word_of ParenRight m a.0 a.1), inr (inr (inl (refl, refl)))))
        | inr q ↦
            let a = some_of (P m) (λ p. if starts Comma p.2 then rp.parts_from n P p.0 p.1 p.2 else (word ParenRight p.2 >>= λ m. taller p.1 >>= λ k. Some (p.0, k, m))) z q.1 in
            elim (branch_of (starts Comma a.0.2) (rp.parts_from n P a.0.0 a.0.1 a.0.2) (word ParenRight a.0.2 >>= λ m. taller a.0.1 >>= λ k. Some (a.0.0, k, m)) (Some z) a.2) [
              | inl s ↦ parts_stand ts m first a.0.0 a.0.1 a.0.2 (sp.reads m a.0 a.1) s.0 z s.1
              | inr s ↦
                  let b = some_of (word ParenRight a.0.2) (λ m. taller a.0.1 >>= λ k. Some (a.0.0, k, m)) z s.1 in
                  let c = some_of (taller a.0.1) (λ k. Some (a.0.0, k, b.0)) z b.2 in
                  give (Stands NextPat ts) (a.0.0, c.0, b.0) z c.2 (
                    one_more a.0.1 c.0 c.1,
                    λ D le.
                        let a = at_word (IsPat D ◁ ParenRight) ParenLeft a.0.0 ts m b.0 first
                        (at_end (IsPat D) ParenRight a.0.0 m a.0.2 b.0 (sp.reads m a.0 a.1 D (less_high a.0.1 c.0 D c.1 le)) (word_of ParenRight a.0.2 b.0 b.1)) in
                        (a.0, a.1, inr (inr (inr (inl a.2)))),
                  )
            ]
      ]

  layer_stands : (ts : List Token) (z : Got Pat) → rp.layer n P ts ≡ Some z → Stands NextPat ts z
  unfolding rp.layer
  layer_stands ts z read =
      elim (branch_of (starts ParenLeft ts) (word ParenLeft ts >>= rp.inner n P)
      (if starts Underscore ts then (word Underscore ts >>= λ m. Some (pat.Any, 1, m)) else (name ts >>= λ p. Some (pat.Var p.0, 1, p.1))) (Some z) read) [
        | inl q ↦ let a = some_of (word ParenLeft ts) (rp.inner n P) z q.1 in inner_stands ts a.0 (word_of ParenLeft ts a.0 a.1) z a.2
        | inr q ↦
            elim (branch_of (starts Underscore ts) (word Underscore ts >>= λ m. Some (pat.Any, 1, m)) (name ts >>= λ p. Some (pat.Var p.0, 1, p.1)) (Some z) q.1) [
              | inl s ↦
                  let a = some_of (word Underscore ts) (λ m. Some (pat.Any, 1, m)) z s.1 in
                  give (Stands NextPat ts) (pat.Any, 1, a.0) z a.2 (le_refl 1, λ D le. (Word Underscore ∷ [], word_of Underscore ts a.0 a.1, inr (inl (refl, refl))))
              | inr s ↦
                  let a = some_of (name ts) (λ p. Some (pat.Var p.0, 1, p.1)) z s.1 in
                  give (Stands NextPat ts) (pat.Var a.0.0, 1, a.0.1) z a.2
                  (le_refl 1, λ D le. let b = at_made identifier pat.Var a.0.0 (pat.Var a.0.0) ts a.0.1 refl (name_at ts a.0 a.1) in (b.0, b.1, inl b.2))
            ]
      ]

pub sound_pattern : (n : ℕ) → 1 ≤ n → (depth : ℕ) → Sound Pat (rp.pattern n depth) IsPat
unfolding rp.pattern
sound_pattern n pos zero = record { reads = λ ts z e. absurd (none_some z e) }
sound_pattern n pos (suc depth) = record { reads = λ ts z e. whole IsPat ts z (layer_stands n pos (rp.pattern n depth) (sound_pattern n pos depth) ts z e) }

-- equations

-- a word that may stand before a phrase
skipped : {A : Type 0} (w : Fixed) (p : Phrase A) (x : A) (t : Token) (ts m : List Token) (b : Bool) → is_word w t ≡ b → At p x (if b then ts else t ∷ ts) m → At (after w p) x (t ∷ ts) m
skipped w p x t ts m true is a = let b = at_word p w x (t ∷ ts) ts m (ap (λ u. u ∷ ts) (word_one w t is)) a in (b.0, b.1, inr b.2)
skipped w p x t ts m false is a = (a.0, a.1, inl a.2)

pub at_skip : {A : Type 0} (w : Fixed) (p : Phrase A) (x : A) (ts m : List Token) → At p x (r.skip w ts) m → At (after w p) x ts m
unfolding r.skip
at_skip w p x [] m a = (a.0, a.1, inl a.2)
at_skip w p x (t ∷ ts) m a = skipped w p x t ts m (is_word w t) refl a

-- nothing, or a phrase
pub at_nothing : {A : Type 0} (p : Phrase A) (ts : List Token) → At (maybe p) None ts ts
at_nothing p ts = ([], refl, refl)

pub at_something : {A : Type 0} (p : Phrase A) (x : A) (ts m : List Token) → At p x ts m → At (maybe p) (Some x) ts m
at_something p x ts m a = a

-- the guards with one more in front
strong_first : (g : Bool × Guard Plain) (strong : List (Guard Plain)) (gs : List (Bool × Guard Plain)) → with_strong g strong ++ guards_that true gs ≡ strong ++ guards_that true (g ∷ gs)
strong_first (true, g) strong gs = append_assoc strong (g ∷ []) (guards_that true gs)
strong_first (false, g) strong gs = refl

weak_first : (g : Bool × Guard Plain) (weak : List (Guard Plain)) (gs : List (Bool × Guard Plain)) → with_weak g weak ++ guards_that false gs ≡ weak ++ guards_that false (g ∷ gs)
weak_first (true, g) weak gs = refl
weak_first (false, g) weak gs = append_assoc weak (g ∷ []) (guards_that false gs)

either_of : (v w : Fixed) (ts : List Token) (p : Bool × List Token) → r.either v w ts ≡ Some p → ((p.0 ≡ true) × (ts ≡ Word v ∷ p.1)) ⊎ ((p.0 ≡ false) × (ts ≡ Word w ∷ p.1))
unfolding r.either
either_of v w ts p e =
    elim (branch_of (starts v ts) (word v ts >>= λ m. Some (true, m)) (word w ts >>= λ m. Some (false, m)) (Some p) e) [
      | inl q ↦
          let a = some_of (word v ts) (λ m. Some (true, m)) p q.1 in
          let same = some_one (true, a.0) p a.2 in
          inl ((λ i. (sym same i).0), word_of v ts a.0 a.1 ∙ (λ i. Word v ∷ (same i).1))
      | inr q ↦
          let a = some_of (word w ts) (λ m. Some (false, m)) p q.1 in
          let same = some_one (false, a.0) p a.2 in
          inr ((λ i. (sym same i).0), word_of w ts a.0 a.1 ∙ (λ i. Word w ∷ (same i).1))
    ]

case_of_token : (t : Token) (x : Name) (ts m : List Token) → ts ≡ t ∷ m → r.case_of t ≡ Some x → At g.case_name x ts m
case_of_token t x ts m is e = (t ∷ [], is, named t x e)
  where
    named : (t : Token) (x : Name) → r.case_of t ≡ Some x → g.case_name x (t ∷ [])
    named (Cons k) x e = inl (ap (λ y. Cons y ∷ []) (some_one k x e))
    named (Word KwTrue) x e = inr (inl (sym (some_one TRUE x e), refl))
    named (Word KwFalse) x e = inr (inr (sym (some_one FALSE x e), refl))
    named _ x e = absurd (none_some x e)

case_name_at : (ts : List Token) (p : Name × List Token) → r.case_name ts ≡ Some p → At g.case_name p.0 ts p.1
unfolding r.case_name
case_name_at ts p e =
    let a = some_of (uncons ts) (λ p. r.case_of p.0 >>= λ x. Some (x, p.1)) p e in
    let b = some_of (r.case_of a.0.0) (λ x. Some (x, a.0.1)) p a.2 in
    give (λ (p : Name × List Token). At g.case_name p.0 ts p.1) (b.0, a.0.1) p b.2 (case_of_token a.0.0 b.0 ts a.0.1 (cons_of ts a.0 a.1) b.1)

module _ (n : ℕ) (pos : 1 ≤ n) (E : Reader Tree) (P : Reader Pat) (Q : Bool → Reader (Equation Plain)) (H : Reader (Handler Plain))
    (se : Sound Tree E (λ D. IsExpr D Expr)) (sp : Sound Pat P IsPat) (sq : (b : Bool) → Sound (Equation Plain) (Q b) (λ D. IsEquation D b)) (sh : Sound (Handler Plain) H IsHandler) where
  abbrev pub Ex : ℕ → Phrase Tree
  Ex D = IsExpr D Expr

  abbrev pub Han : ℕ → Phrase (Handler Plain)
  Han D = IsHandler D ◁ KwDone

  abbrev pub Eqs : ℕ → Bool → Phrase (List (Equation Plain))
  Eqs D b = g.equations (IsEquation D b)

  abbrev pub NextEq : Bool → ℕ → Phrase (Equation Plain)
  NextEq b D = IsEquation (suc D) b

  at_inner : (b : Bool) (D : ℕ) (x : Equation Plain) (ts m : List Token) → At (g.inner (Ex D) (IsPat D) (IsEquation D) (IsHandler D) (g.IsGuard D) b) x ts m → At (NextEq b D) x ts m
  at_inner true D x ts m a = a
  at_inner false D x ts m a = (a.0, a.1, inr a.2)

  pub equations_read : (b : Bool) (ts : List Token) (z : Got (List (Equation Plain))) → r.equations n E P Q H b ts ≡ Some z → Reads (λ D. Eqs D b) ts z
  unfolding r.equations
  equations_read b ts z e = sound_separated n (starts KwAnd) KwAnd (Q b) (λ D. IsEquation D b) (sq b) ts z e

  -- a word, a name, `=` and an expression
  abbrev pub Binds : Fixed → ℕ → Phrase (Name × Tree)
  Binds w D = w ▷ (identifier ⊗ (Equal ▷ Ex D))

  bound_stands : (w : Fixed) (ts : List Token) (z : Got (Name × Tree)) → r.bound n E P Q H w ts ≡ Some z → Stands (Binds w) ts z
  unfolding r.bound
  bound_stands w ts z read =
      let a = some_of (word w ts) (λ m. name m >>= λ p. word Equal p.1 >>= λ m. E m >>= λ e. taller e.1 >>= λ h. Some ((p.0, e.0), h, e.2)) z read in
      let b = some_of (name a.0) (λ p. word Equal p.1 >>= λ m. E m >>= λ e. taller e.1 >>= λ h. Some ((p.0, e.0), h, e.2)) z a.2 in
      let c = some_of (word Equal b.0.1) (λ m. E m >>= λ e. taller e.1 >>= λ h. Some ((b.0.0, e.0), h, e.2)) z b.2 in
      let d = some_of (E c.0) (λ e. taller e.1 >>= λ h. Some ((b.0.0, e.0), h, e.2)) z c.2 in
      let f = some_of (taller d.0.1) (λ h. Some ((b.0.0, d.0.0), h, d.0.2)) z d.2 in
      give (Stands (Binds w) ts) ((b.0.0, d.0.0), f.0, d.0.2) z f.2 (
        one_more d.0.1 f.0 f.1,
        λ D le.
            at_word (identifier ⊗ (Equal ▷ Ex D)) w (b.0.0, d.0.0) ts a.0 d.0.2 (word_of w ts a.0 a.1)
            (at_both identifier (Equal ▷ Ex D) b.0.0 d.0.0 a.0 b.0.1 d.0.2 (name_at a.0 b.0 b.1)
            (at_word (Ex D) Equal d.0.0 b.0.1 c.0 d.0.2 (word_of Equal b.0.1 c.0 c.1) (se.reads c.0 d.0 d.1 D (less_high d.0.1 f.0 D f.1 le)))),
      )

  plain_stands : (b : Bool) (ts : List Token) (z : Got (Equation Plain)) → r.plain_equation n E P Q H ts ≡ Some z → Stands (NextEq b) ts z
  unfolding r.plain_equation
  plain_stands w ts z read =
      let a = some_of (P ts) (λ p. word Equal p.2 >>= λ m. E m >>= λ e. taller (max p.1 e.1) >>= λ h. Some (eq.Plain p.0 e.0, h, e.2)) z read in
      let b = some_of (word Equal a.0.2) (λ m. E m >>= λ e. taller (max a.0.1 e.1) >>= λ h. Some (eq.Plain a.0.0 e.0, h, e.2)) z a.2 in
      let c = some_of (E b.0) (λ e. taller (max a.0.1 e.1) >>= λ h. Some (eq.Plain a.0.0 e.0, h, e.2)) z b.2 in
      let d = some_of (taller (max a.0.1 c.0.1)) (λ h. Some (eq.Plain a.0.0 c.0.0, h, c.0.2)) z c.2 in
      let x = eq.Plain a.0.0 c.0.0 in
      give (Stands (NextEq w) ts) (x, d.0, c.0.2) z d.2 (
        one_more (max a.0.1 c.0.1) d.0 d.1,
        λ D le.
            let high = less_high (max a.0.1 c.0.1) d.0 D d.1 le in
            let k = at_made (IsPat D ⊗ (Equal ▷ Ex D)) (λ p. eq.Plain p.0 p.1) (a.0.0, c.0.0) x ts c.0.2 refl
            (at_both (IsPat D) (Equal ▷ Ex D) a.0.0 c.0.0 ts a.0.2 c.0.2 (sp.reads ts a.0 a.1 D (max_left a.0.1 c.0.1 D high))
            (at_word (Ex D) Equal c.0.0 a.0.2 b.0 c.0.2 (word_of Equal a.0.2 b.0 b.1) (se.reads b.0 c.0 c.1 D (max_right a.0.1 c.0.1 D high)))) in
            at_inner w D x ts c.0.2 (k.0, k.1, inl k.2),
      )

  reset_stands : (w : Bool) (ts : List Token) (z : Got (Equation Plain)) → r.reset n E P Q H w ts ≡ Some z → Stands (NextEq w) ts z
  unfolding r.reset
  reset_stands w ts z read =
      let a = some_of (word KwReset ts) (λ m. r.equations n E P Q H w m >>= λ qs. word KwEvery qs.2 >>= λ m. E m >>= λ e. taller (max qs.1 e.1) >>= λ h. Some (eq.Reset qs.0 e.0, h, e.2)) z read in
      let b = some_of (r.equations n E P Q H w a.0) (λ qs. word KwEvery qs.2 >>= λ m. E m >>= λ e. taller (max qs.1 e.1) >>= λ h. Some (eq.Reset qs.0 e.0, h, e.2)) z a.2 in
      let c = some_of (word KwEvery b.0.2) (λ m. E m >>= λ e. taller (max b.0.1 e.1) >>= λ h. Some (eq.Reset b.0.0 e.0, h, e.2)) z b.2 in
      let d = some_of (E c.0) (λ e. taller (max b.0.1 e.1) >>= λ h. Some (eq.Reset b.0.0 e.0, h, e.2)) z c.2 in
      let f = some_of (taller (max b.0.1 d.0.1)) (λ h. Some (eq.Reset b.0.0 d.0.0, h, d.0.2)) z d.2 in
      let x = eq.Reset b.0.0 d.0.0 in
      give (Stands (NextEq w) ts) (x, f.0, d.0.2) z f.2 (
        one_more (max b.0.1 d.0.1) f.0 f.1,
        λ D le.
            let high = less_high (max b.0.1 d.0.1) f.0 D f.1 le in
            let k = at_made (KwReset ▷ (Eqs D w ⊗ (KwEvery ▷ Ex D))) (λ p. eq.Reset p.0 p.1) (b.0.0, d.0.0) x ts d.0.2 refl
            (at_word (Eqs D w ⊗ (KwEvery ▷ Ex D)) KwReset (b.0.0, d.0.0) ts a.0 d.0.2 (word_of KwReset ts a.0 a.1)
            (at_both (Eqs D w) (KwEvery ▷ Ex D) b.0.0 d.0.0 a.0 b.0.2 d.0.2 (equations_read w a.0 b.0 b.1 D (max_left b.0.1 d.0.1 D high))
            (at_word (Ex D) KwEvery d.0.0 b.0.2 c.0 d.0.2 (word_of KwEvery b.0.2 c.0 c.1) (se.reads c.0 d.0 d.1 D (max_right b.0.1 d.0.1 D high))))) in
            at_inner w D x ts d.0.2 (k.0, k.1, inr (inr (inl k.2))),
      )

  handler_sound : Sound (Handler Plain) (r.handler n E P Q H) Han
  unfolding r.handler
  handler_sound = record {
    reads = λ ts z read D le.
        let a = some_of (H ts) (λ x. word KwDone x.2 >>= λ m. Some (x.0, x.1, m)) z read in
        let b = some_of (word KwDone a.0.2) (λ m. Some (a.0.0, a.0.1, m)) z a.2 in
        give (Reads Han ts) (a.0.0, a.0.1, b.0) z b.2 (λ D le. at_end (IsHandler D) KwDone a.0.0 ts a.0.2 b.0 (sh.reads ts a.0 a.1 D le) (word_of KwDone a.0.2 b.0 b.1)) D le;
  }

  abbrev pub Arms : ℕ → Phrase (Arm Plain)
  Arms D = g.arm (Ex D) (IsPat D) (IsEquation D) (IsHandler D) (g.IsGuard D)

  arm_sound : Sound (Arm Plain) (r.arm n E P Q H) Arms
  unfolding r.arm
  arm_sound = record {
    reads = λ ts z read D le.
        let a = some_of (r.case_name ts) (λ p. word Arrow p.1 >>= λ m. r.handler n E P Q H m >>= λ x. Some (arm_of (Some p.0) x.0, x.1, x.2)) z read in
        let b = some_of (word Arrow a.0.1) (λ m. r.handler n E P Q H m >>= λ x. Some (arm_of (Some a.0.0) x.0, x.1, x.2)) z a.2 in
        let c = some_of (r.handler n E P Q H b.0) (λ x. Some (arm_of (Some a.0.0) x.0, x.1, x.2)) z b.2 in
        give (Reads Arms ts) (arm_of (Some a.0.0) c.0.0, c.0.1, c.0.2) z c.2
        (λ D le. at_made (g.case_name ⊗ (Arrow ▷ Han D)) (λ p. arm_of (Some p.0) p.1) (a.0.0, c.0.0) (arm_of (Some a.0.0) c.0.0) ts c.0.2 refl
        (at_both g.case_name (Arrow ▷ Han D) a.0.0 c.0.0 ts a.0.1 c.0.2 (case_name_at ts a.0 a.1)
        (at_word (Han D) Arrow c.0.0 a.0.1 b.0 c.0.2 (word_of Arrow a.0.1 b.0 b.1) (handler_sound.reads b.0 c.0 c.1 D le)))) D le;
  }

  arms_read : (ts : List Token) (z : Got (List (Arm Plain))) → r.arms n E P Q H ts ≡ Some z → Reads (λ D. separated Bar (Arms D)) ts z
  unfolding r.arms
  arms_read ts z e = sound_separated n r.begins_arm Bar (r.arm n E P Q H) Arms arm_sound ts z e

  abbrev pub Other : ℕ → Phrase (Arm Plain)
  Other D = g.other_arm (Ex D) (IsPat D) (IsEquation D) (IsHandler D) (g.IsGuard D)

  -- the arm for all other cases, behind others
  abbrev pub Last : List (Arm Plain) → ℕ → List Token → Got (List (Arm Plain)) → Type 0
  Last xs h ts z = (h ≤ z.1) × ((o : Option (Arm Plain)) × (z.0 ≡ arms_of xs o) × ((D : ℕ) → z.1 ≤ D → At (maybe (Other D)) o ts z.2))

  other_read : (xs : List (Arm Plain)) (h : ℕ) (ts : List Token) (z : Got (List (Arm Plain))) → r.other_arm n E P Q H xs h ts ≡ Some z → Last xs h ts z
  unfolding r.other_arm
  other_read xs h ts z read =
      elim (branch_of (starts Bar ts) (word Bar ts >>= λ m. word Underscore m >>= λ m. word Arrow m >>= λ m. r.handler n E P Q H m >>= λ x. Some (xs ++ arm_of None x.0 ∷ [], max h x.1, x.2)) (Some (xs, h, ts)) (Some z) read) [
        | inl q ↦
            let a = some_of (word Bar ts) (λ m. word Underscore m >>= λ m. word Arrow m >>= λ m. r.handler n E P Q H m >>= λ x. Some (xs ++ arm_of None x.0 ∷ [], max h x.1, x.2)) z q.1 in
            let b = some_of (word Underscore a.0) (λ m. word Arrow m >>= λ m. r.handler n E P Q H m >>= λ x. Some (xs ++ arm_of None x.0 ∷ [], max h x.1, x.2)) z a.2 in
            let c = some_of (word Arrow b.0) (λ m. r.handler n E P Q H m >>= λ x. Some (xs ++ arm_of None x.0 ∷ [], max h x.1, x.2)) z b.2 in
            let d = some_of (r.handler n E P Q H c.0) (λ x. Some (xs ++ arm_of None x.0 ∷ [], max h x.1, x.2)) z c.2 in
            give (Last xs h ts) (xs ++ arm_of None d.0.0 ∷ [], max h d.0.1, d.0.2) z d.2 (
              max_left h d.0.1 (max h d.0.1) (le_refl (max h d.0.1)),
              (
                Some (arm_of None d.0.0),
                refl,
                λ D le.
                    at_made (Bar ▷ (Underscore ▷ (Arrow ▷ Han D))) (arm_of None) d.0.0 (arm_of None d.0.0) ts d.0.2 refl
                    (at_word (Underscore ▷ (Arrow ▷ Han D)) Bar d.0.0 ts a.0 d.0.2 (word_of Bar ts a.0 a.1)
                    (at_word (Arrow ▷ Han D) Underscore d.0.0 a.0 b.0 d.0.2 (word_of Underscore a.0 b.0 b.1)
                    (at_word (Han D) Arrow d.0.0 b.0 c.0 d.0.2 (word_of Arrow b.0 c.0 c.1) (handler_sound.reads c.0 d.0 d.1 D (max_right h d.0.1 D le))))),
              ),
            )
        | inr q ↦ give (Last xs h ts) (xs, h, ts) z q.1 (le_refl h, (None, refl, λ D le. at_nothing (Other D) ts))
      ]

  matching_stands : (w : Bool) (ts : List Token) (z : Got (Equation Plain)) → r.matching n E P Q H ts ≡ Some z → Stands (NextEq w) ts z
  unfolding r.matching
  matching_stands w ts z read =
      let a = some_of (word KwMatch ts) (λ m. E m >>= λ e. word KwWith e.2 >>= λ m. r.arms n E P Q H (r.skip Bar m) >>= λ x. r.other_arm n E P Q H x.0 x.1 x.2 >>= λ y. word KwEnd y.2 >>= λ m. taller (max e.1 y.1) >>= λ h. Some (eq.Match e.0 y.0, h, m)) z read in
      let b = some_of (E a.0) (λ e. word KwWith e.2 >>= λ m. r.arms n E P Q H (r.skip Bar m) >>= λ x. r.other_arm n E P Q H x.0 x.1 x.2 >>= λ y. word KwEnd y.2 >>= λ m. taller (max e.1 y.1) >>= λ h. Some (eq.Match e.0 y.0, h, m)) z a.2 in
      let c = some_of (word KwWith b.0.2) (λ m. r.arms n E P Q H (r.skip Bar m) >>= λ x. r.other_arm n E P Q H x.0 x.1 x.2 >>= λ y. word KwEnd y.2 >>= λ m. taller (max b.0.1 y.1) >>= λ h. Some (eq.Match b.0.0 y.0, h, m)) z b.2 in
      let d = some_of (r.arms n E P Q H (r.skip Bar c.0)) (λ x. r.other_arm n E P Q H x.0 x.1 x.2 >>= λ y. word KwEnd y.2 >>= λ m. taller (max b.0.1 y.1) >>= λ h. Some (eq.Match b.0.0 y.0, h, m)) z c.2 in
      let f = some_of (r.other_arm n E P Q H d.0.0 d.0.1 d.0.2) (λ y. word KwEnd y.2 >>= λ m. taller (max b.0.1 y.1) >>= λ h. Some (eq.Match b.0.0 y.0, h, m)) z d.2 in
      let i = some_of (word KwEnd f.0.2) (λ m. taller (max b.0.1 f.0.1) >>= λ h. Some (eq.Match b.0.0 f.0.0, h, m)) z f.2 in
      let j = some_of (taller (max b.0.1 f.0.1)) (λ h. Some (eq.Match b.0.0 f.0.0, h, i.0)) z i.2 in
      let last = other_read d.0.0 d.0.1 d.0.2 f.0 f.1 in
      let o = last.1.0 in
      let x = eq.Match b.0.0 f.0.0 in
      give (Stands (NextEq w) ts) (x, j.0, i.0) z j.2 (
        one_more (max b.0.1 f.0.1) j.0 j.1,
        λ D le.
            let high = less_high (max b.0.1 f.0.1) j.0 D j.1 le in
            let late = max_right b.0.1 f.0.1 D high in
            let rest = at_skip Bar (separated Bar (Arms D) ⊗ (maybe (Other D) ◁ KwEnd)) (d.0.0, o) c.0 i.0
            (at_both (separated Bar (Arms D)) (maybe (Other D) ◁ KwEnd) d.0.0 o (r.skip Bar c.0) d.0.2 i.0 (arms_read (r.skip Bar c.0) d.0 d.1 D (le_trans d.0.1 f.0.1 D last.0 late))
            (at_end (maybe (Other D)) KwEnd o d.0.2 f.0.2 i.0 (last.1.2 D late) (word_of KwEnd f.0.2 i.0 i.1))) in
            let k = at_made (KwMatch ▷ (Ex D ⊗ (KwWith ▷ after Bar (separated Bar (Arms D) ⊗ (maybe (Other D) ◁ KwEnd))))) (λ p. eq.Match p.0 (arms_of p.1.0 p.1.1)) (b.0.0, (d.0.0, o)) x ts i.0 (ap (eq.Match b.0.0) last.1.1)
            (at_word (Ex D ⊗ (KwWith ▷ after Bar (separated Bar (Arms D) ⊗ (maybe (Other D) ◁ KwEnd)))) KwMatch (b.0.0, (d.0.0, o)) ts a.0 i.0 (word_of KwMatch ts a.0 a.1)
            (at_both (Ex D) (KwWith ▷ after Bar (separated Bar (Arms D) ⊗ (maybe (Other D) ◁ KwEnd))) b.0.0 (d.0.0, o) a.0 b.0.2 i.0 (se.reads a.0 b.0 b.1 D (max_left b.0.1 f.0.1 D high))
            (at_word (after Bar (separated Bar (Arms D) ⊗ (maybe (Other D) ◁ KwEnd))) KwWith (d.0.0, o) b.0.2 c.0 i.0 (word_of KwWith b.0.2 c.0 c.1) rest))) in
            at_inner w D x ts i.0 (k.0, k.1, inr (inr (inr (inl k.2)))),
      )

  tested_read : (ts : List Token) (z : Got (Option Pat)) → r.tested n E P Q H ts ≡ Some z → Reads (λ D. maybe (ParenLeft ▷ (IsPat D ◁ ParenRight))) ts z
  unfolding r.tested
  tested_read ts z read =
      elim (branch_of (starts ParenLeft ts) (word ParenLeft ts >>= λ m. P m >>= λ p. word ParenRight p.2 >>= λ m. Some (Some p.0, p.1, m)) (Some (None, 0, ts)) (Some z) read) [
        | inl q ↦
            let a = some_of (word ParenLeft ts) (λ m. P m >>= λ p. word ParenRight p.2 >>= λ m. Some (Some p.0, p.1, m)) z q.1 in
            let b = some_of (P a.0) (λ p. word ParenRight p.2 >>= λ m. Some (Some p.0, p.1, m)) z a.2 in
            let c = some_of (word ParenRight b.0.2) (λ m. Some (Some b.0.0, b.0.1, m)) z b.2 in
            give (Reads (λ D. maybe (ParenLeft ▷ (IsPat D ◁ ParenRight))) ts) (Some b.0.0, b.0.1, c.0) z c.2
            (λ D le. at_something (ParenLeft ▷ (IsPat D ◁ ParenRight)) b.0.0 ts c.0
            (at_word (IsPat D ◁ ParenRight) ParenLeft b.0.0 ts a.0 c.0 (word_of ParenLeft ts a.0 a.1)
            (at_end (IsPat D) ParenRight b.0.0 a.0 b.0.2 c.0 (sp.reads a.0 b.0 b.1 D le) (word_of ParenRight b.0.2 c.0 c.1))))
        | inr q ↦ give (Reads (λ D. maybe (ParenLeft ▷ (IsPat D ◁ ParenRight))) ts) (None, 0, ts) z q.1 (λ D le. at_nothing (ParenLeft ▷ (IsPat D ◁ ParenRight)) ts)
      ]

  abbrev pub Tests : ℕ → Phrase (Test Plain)
  Tests D = g.test (Ex D) (IsPat D) (IsEquation D) (IsHandler D) (g.IsGuard D)

  test_sound : Sound (Test Plain) (r.one_test n E P Q H) Tests
  unfolding r.one_test
  test_sound = record {
    reads = λ ts z read.
        let a = some_of (name ts) (λ p. r.tested n E P Q H p.1 >>= λ t. word Arrow t.2 >>= λ m. r.handler n E P Q H m >>= λ x. Some (test_of p.0 t.0 x.0, max t.1 x.1, x.2)) z read in
        let b = some_of (r.tested n E P Q H a.0.1) (λ t. word Arrow t.2 >>= λ m. r.handler n E P Q H m >>= λ x. Some (test_of a.0.0 t.0 x.0, max t.1 x.1, x.2)) z a.2 in
        let c = some_of (word Arrow b.0.2) (λ m. r.handler n E P Q H m >>= λ x. Some (test_of a.0.0 b.0.0 x.0, max b.0.1 x.1, x.2)) z b.2 in
        let d = some_of (r.handler n E P Q H c.0) (λ x. Some (test_of a.0.0 b.0.0 x.0, max b.0.1 x.1, x.2)) z c.2 in
        give (Reads Tests ts) (test_of a.0.0 b.0.0 d.0.0, max b.0.1 d.0.1, d.0.2) z d.2
        (λ D le. at_made (identifier ⊗ (maybe (ParenLeft ▷ (IsPat D ◁ ParenRight)) ⊗ (Arrow ▷ Han D))) (λ p. test_of p.0 p.1.0 p.1.1) (a.0.0, (b.0.0, d.0.0)) (test_of a.0.0 b.0.0 d.0.0) ts d.0.2 refl
        (at_both identifier (maybe (ParenLeft ▷ (IsPat D ◁ ParenRight)) ⊗ (Arrow ▷ Han D)) a.0.0 (b.0.0, d.0.0) ts a.0.1 d.0.2 (name_at ts a.0 a.1)
        (at_both (maybe (ParenLeft ▷ (IsPat D ◁ ParenRight))) (Arrow ▷ Han D) b.0.0 d.0.0 a.0.1 b.0.2 d.0.2 (tested_read a.0.1 b.0 b.1 D (max_left b.0.1 d.0.1 D le))
        (at_word (Han D) Arrow d.0.0 b.0.2 c.0 d.0.2 (word_of Arrow b.0.2 c.0 c.1) (handler_sound.reads c.0 d.0 d.1 D (max_right b.0.1 d.0.1 D le))))));
  }

  tests_read : (ts : List Token) (z : Got (List (Test Plain))) → r.tests n E P Q H ts ≡ Some z → Reads (λ D. separated Bar (Tests D)) ts z
  unfolding r.tests
  tests_read ts z e = sound_separated n (starts Bar) Bar (r.one_test n E P Q H) Tests test_sound ts z e

  otherwise_read : (ts : List Token) (z : Got (Option (Handler Plain))) → r.otherwise n E P Q H ts ≡ Some z → Reads (λ D. maybe (KwElse ▷ Han D)) ts z
  unfolding r.otherwise
  otherwise_read ts z read =
      elim (branch_of (starts KwElse ts) (word KwElse ts >>= λ m. r.handler n E P Q H m >>= λ x. Some (Some x.0, x.1, x.2)) (Some (None, 0, ts)) (Some z) read) [
        | inl q ↦
            let a = some_of (word KwElse ts) (λ m. r.handler n E P Q H m >>= λ x. Some (Some x.0, x.1, x.2)) z q.1 in
            let b = some_of (r.handler n E P Q H a.0) (λ x. Some (Some x.0, x.1, x.2)) z a.2 in
            give (Reads (λ D. maybe (KwElse ▷ Han D)) ts) (Some b.0.0, b.0.1, b.0.2) z b.2
            (λ D le. at_something (KwElse ▷ Han D) b.0.0 ts b.0.2 (at_word (Han D) KwElse b.0.0 ts a.0 b.0.2 (word_of KwElse ts a.0 a.1) (handler_sound.reads a.0 b.0 b.1 D le)))
        | inr q ↦ give (Reads (λ D. maybe (KwElse ▷ Han D)) ts) (None, 0, ts) z q.1 (λ D le. at_nothing (KwElse ▷ Han D) ts)
      ]

  presence_stands : (w : Bool) (ts : List Token) (z : Got (Equation Plain)) → r.presence n E P Q H ts ≡ Some z → Stands (NextEq w) ts z
  unfolding r.presence
  presence_stands w ts z read =
      let a = some_of (word KwPresent ts) (λ m. r.tests n E P Q H (r.skip Bar m) >>= λ x. r.otherwise n E P Q H x.2 >>= λ y. word KwEnd y.2 >>= λ m. taller (max x.1 y.1) >>= λ h. Some (eq.Present x.0 y.0, h, m)) z read in
      let b = some_of (r.tests n E P Q H (r.skip Bar a.0)) (λ x. r.otherwise n E P Q H x.2 >>= λ y. word KwEnd y.2 >>= λ m. taller (max x.1 y.1) >>= λ h. Some (eq.Present x.0 y.0, h, m)) z a.2 in
      let c = some_of (r.otherwise n E P Q H b.0.2) (λ y. word KwEnd y.2 >>= λ m. taller (max b.0.1 y.1) >>= λ h. Some (eq.Present b.0.0 y.0, h, m)) z b.2 in
      let d = some_of (word KwEnd c.0.2) (λ m. taller (max b.0.1 c.0.1) >>= λ h. Some (eq.Present b.0.0 c.0.0, h, m)) z c.2 in
      let f = some_of (taller (max b.0.1 c.0.1)) (λ h. Some (eq.Present b.0.0 c.0.0, h, d.0)) z d.2 in
      let x = eq.Present b.0.0 c.0.0 in
      give (Stands (NextEq w) ts) (x, f.0, d.0) z f.2 (
        one_more (max b.0.1 c.0.1) f.0 f.1,
        λ D le.
            let high = less_high (max b.0.1 c.0.1) f.0 D f.1 le in
            let k = at_made (KwPresent ▷ after Bar (separated Bar (Tests D) ⊗ (maybe (KwElse ▷ Han D) ◁ KwEnd))) (λ p. eq.Present p.0 p.1) (b.0.0, c.0.0) x ts d.0 refl
            (at_word (after Bar (separated Bar (Tests D) ⊗ (maybe (KwElse ▷ Han D) ◁ KwEnd))) KwPresent (b.0.0, c.0.0) ts a.0 d.0 (word_of KwPresent ts a.0 a.1)
            (at_skip Bar (separated Bar (Tests D) ⊗ (maybe (KwElse ▷ Han D) ◁ KwEnd)) (b.0.0, c.0.0) a.0 d.0
            (at_both (separated Bar (Tests D)) (maybe (KwElse ▷ Han D) ◁ KwEnd) b.0.0 c.0.0 (r.skip Bar a.0) b.0.2 d.0 (tests_read (r.skip Bar a.0) b.0 b.1 D (max_left b.0.1 c.0.1 D high))
            (at_end (maybe (KwElse ▷ Han D)) KwEnd c.0.0 b.0.2 c.0.2 d.0 (otherwise_read b.0.2 c.0 c.1 D (max_right b.0.1 c.0.1 D high)) (word_of KwEnd c.0.2 d.0 d.1))))) in
            at_inner w D x ts d.0 (k.0, k.1, inr (inr (inr (inr (inl k.2))))),
      )

  -- a guard
  transition_of : (D : ℕ) (s : Bool) (e : Tree) (b : Bool) (x : Name) (ts m l k j : List Token)
      → ((s ≡ true) × (ts ≡ Word KwUnless ∷ m)) ⊎ ((s ≡ false) × (ts ≡ Word KwUntil ∷ m)) → At (Ex D) e m l → ((b ≡ true) × (l ≡ Word KwThen ∷ k)) ⊎ ((b ≡ false) × (l ≡ Word KwContinue ∷ k)) → At constructor x k j
      → At (g.transition (Ex D)) (s, guard e b x) ts j
  transition_of D s e b x ts m l k j first a second c = elim first [
    | inl p ↦ let r = guarded_of KwUnless p.1 in (r.0, r.1, inl (guard e b x, (λ i. (p.0 i, guard e b x)), r.2))
    | inr p ↦ let r = guarded_of KwUntil p.1 in (r.0, r.1, inr (guard e b x, (λ i. (p.0 i, guard e b x)), r.2))
  ]
    where
      guarded_of : (w : Fixed) → ts ≡ Word w ∷ m → At (g.guarded (Ex D) w) (guard e b x) ts j
      guarded_of w is = elim second [
        | inl p ↦ let r = at_made (w ▷ (Ex D ⊗ (KwThen ▷ constructor))) (λ p. guard p.0 true p.1) (e, x) (guard e b x) ts j (λ i. guard e (p.0 i) x)
            (at_word (Ex D ⊗ (KwThen ▷ constructor)) w (e, x) ts m j is (at_both (Ex D) (KwThen ▷ constructor) e x m l j a (at_word constructor KwThen x l k j p.1 c))) in (r.0, r.1, inl r.2)
        | inr p ↦ let r = at_made (w ▷ (Ex D ⊗ (KwContinue ▷ constructor))) (λ p. guard p.0 false p.1) (e, x) (guard e b x) ts j (λ i. guard e (p.0 i) x)
            (at_word (Ex D ⊗ (KwContinue ▷ constructor)) w (e, x) ts m j is (at_both (Ex D) (KwContinue ▷ constructor) e x m l j a (at_word constructor KwContinue x l k j p.1 c))) in (r.0, r.1, inr r.2)
      ]

  transition_sound : Sound (Bool × Guard Plain) (r.transition n E P Q H) g.IsGuard
  unfolding r.transition
  transition_sound = record {
    reads = λ ts z read. whole g.IsGuard ts z
        (let a = some_of (r.either KwUnless KwUntil ts) (λ s. E s.1 >>= λ e. taller e.1 >>= λ h. r.either KwThen KwContinue e.2 >>= λ r. constructor_read r.1 >>= λ p. Some ((s.0, guard e.0 r.0 p.0), h, p.1)) z read in
        let b = some_of (E a.0.1) (λ e. taller e.1 >>= λ h. r.either KwThen KwContinue e.2 >>= λ r. constructor_read r.1 >>= λ p. Some ((a.0.0, guard e.0 r.0 p.0), h, p.1)) z a.2 in
        let c = some_of (taller b.0.1) (λ h. r.either KwThen KwContinue b.0.2 >>= λ r. constructor_read r.1 >>= λ p. Some ((a.0.0, guard b.0.0 r.0 p.0), h, p.1)) z b.2 in
        let d = some_of (r.either KwThen KwContinue b.0.2) (λ r. constructor_read r.1 >>= λ p. Some ((a.0.0, guard b.0.0 r.0 p.0), c.0, p.1)) z c.2 in
        let f = some_of (constructor_read d.0.1) (λ p. Some ((a.0.0, guard b.0.0 d.0.0 p.0), c.0, p.1)) z d.2 in
        give (Stands (λ D. g.IsGuard (suc D)) ts) ((a.0.0, guard b.0.0 d.0.0 f.0.0), c.0, f.0.1) z f.2 (
          one_more b.0.1 c.0 c.1,
          λ D le. transition_of D a.0.0 b.0.0 d.0.0 f.0.0 ts a.0.1 b.0.2 d.0.1 f.0.1 (either_of KwUnless KwUntil ts a.0 a.1)
              (se.reads a.0.1 b.0 b.1 D (less_high b.0.1 c.0 D c.1 le)) (either_of KwThen KwContinue b.0.2 d.0 d.1) (constructor_at d.0.1 f.0 f.1),
        ));
  }

  -- the guards behind those that were read
  abbrev pub Gathered : List (Guard Plain) → List (Guard Plain) → ℕ → List Token → Got (List (Guard Plain) × List (Guard Plain)) → Type 0
  Gathered strong weak h ts z = (h ≤ z.1) × ((gs : List (Bool × Guard Plain)) × (z.0.0 ≡ strong ++ guards_that true gs) × (z.0.1 ≡ weak ++ guards_that false gs) × ((D : ℕ) → z.1 ≤ D → At (many (g.IsGuard D)) gs ts z.2))

  gather_read : (k : ℕ) (strong weak : List (Guard Plain)) (h : ℕ) (ts : List Token) (z : Got (List (Guard Plain) × List (Guard Plain))) → r.gather n E P Q H k strong weak h ts ≡ Some z → Gathered strong weak h ts z
  gather_read zero strong weak h ts z e =
      give (Gathered strong weak h ts) ((strong, weak), h, ts) z e (le_refl h, ([], sym (append_nil strong), sym (append_nil weak), λ D le. at_none (g.IsGuard D) ts))
  gather_read (suc k) strong weak h ts z e =
      elim (branch_of (r.begins_guard ts) (r.transition n E P Q H ts >>= λ x. r.gather n E P Q H k (with_strong x.0 strong) (with_weak x.0 weak) (max h x.1) x.2) (Some ((strong, weak), h, ts)) (Some z) e) [
        | inl q ↦
            let a = some_of (r.transition n E P Q H ts) (λ x. r.gather n E P Q H k (with_strong x.0 strong) (with_weak x.0 weak) (max h x.1) x.2) z q.1 in
            let b = gather_read k (with_strong a.0.0 strong) (with_weak a.0.0 weak) (max h a.0.1) a.0.2 z a.2 in (
              max_left h a.0.1 z.1 b.0,
              (
                a.0.0 ∷ b.1.0,
                b.1.1 ∙ strong_first a.0.0 strong b.1.0,
                b.1.2 ∙ weak_first a.0.0 weak b.1.0,
                λ D le. at_more (g.IsGuard D) a.0.0 b.1.0 ts a.0.2 z.2 (transition_sound.reads ts a.0 a.1 D (le_trans a.0.1 z.1 D (max_right h a.0.1 z.1 b.0) le)) (b.1.3 D le),
              ),
            )
        | inr q ↦ give (Gathered strong weak h ts) ((strong, weak), h, ts) z q.1 (le_refl h, ([], sym (append_nil strong), sym (append_nil weak), λ D le. at_none (g.IsGuard D) ts))
      ]

  -- guards, at least one, or none
  abbrev pub Split : (ℕ → Phrase (List (Bool × Guard Plain))) → List Token → Got (List (Guard Plain) × List (Guard Plain)) → Type 0
  Split p ts z = (gs : List (Bool × Guard Plain)) × (z.0.0 ≡ guards_that true gs) × (z.0.1 ≡ guards_that false gs) × ((D : ℕ) → z.1 ≤ D → At (p D) gs ts z.2)

  guards_read : (ts : List Token) (z : Got (List (Guard Plain) × List (Guard Plain))) → r.guards n E P Q H ts ≡ Some z → Split (λ D. some (g.IsGuard D)) ts z
  unfolding r.guards
  guards_read ts z read =
      let a = some_of (r.transition n E P Q H ts) (λ g. r.gather n E P Q H n (with_strong g.0 []) (with_weak g.0 []) g.1 g.2) z read in
      let b = gather_read n (with_strong a.0.0 []) (with_weak a.0.0 []) a.0.1 a.0.2 z a.2 in (
        a.0.0 ∷ b.1.0,
        b.1.1 ∙ strong_first a.0.0 [] b.1.0,
        b.1.2 ∙ weak_first a.0.0 [] b.1.0,
        λ D le. at_more (g.IsGuard D) a.0.0 b.1.0 ts a.0.2 z.2 (transition_sound.reads ts a.0 a.1 D (le_trans a.0.1 z.1 D b.0 le)) (b.1.3 D le),
      )

  -- `done` may stand behind guards
  ended : (D : ℕ) (gs : List (Bool × Guard Plain)) (ts m : List Token) → At (some (g.IsGuard D)) gs ts m → At (g.exits (g.IsGuard D)) gs ts (r.skip KwDone m)
  unfolding r.skip
  ended D gs ts [] a = (a.0, a.1, inr (inl a.2))
  ended D gs ts (t ∷ m) a = done (is_word KwDone t) refl
    where
      done : (b : Bool) → is_word KwDone t ≡ b → At (g.exits (g.IsGuard D)) gs ts (if b then m else t ∷ m)
      done true is = let b = at_end (some (g.IsGuard D)) KwDone gs ts (t ∷ m) m a (ap (λ u. u ∷ m) (word_one KwDone t is)) in (b.0, b.1, inr (inr b.2))
      done false is = (a.0, a.1, inr (inl a.2))

  exits_read : (ts : List Token) (z : Got (List (Guard Plain) × List (Guard Plain))) → r.exits n E P Q H ts ≡ Some z → Split (λ D. g.exits (g.IsGuard D)) ts z
  unfolding r.exits
  exits_read ts z read =
      elim (branch_of (starts KwDone ts) (word KwDone ts >>= λ m. Some (([], []), 0, m)) (if r.begins_guard ts then (r.guards n E P Q H ts >>= λ x. Some (x.0, x.1, r.skip KwDone x.2)) else None) (Some z) read) [
        | inl q ↦
            let a = some_of (word KwDone ts) (λ m. Some (([], []), 0, m)) z q.1 in
            give (Split (λ D. g.exits (g.IsGuard D)) ts) (([], []), 0, a.0) z a.2 ([], refl, refl, λ D le. (Word KwDone ∷ [], word_of KwDone ts a.0 a.1, inl (refl, refl)))
        | inr q ↦
            elim (branch_of (r.begins_guard ts) (r.guards n E P Q H ts >>= λ x. Some (x.0, x.1, r.skip KwDone x.2)) None (Some z) q.1) [
              | inl s ↦
                  let a = some_of (r.guards n E P Q H ts) (λ x. Some (x.0, x.1, r.skip KwDone x.2)) z s.1 in
                  let b = guards_read ts a.0 a.1 in
                  give (Split (λ D. g.exits (g.IsGuard D)) ts) (a.0.0, a.0.1, r.skip KwDone a.0.2) z a.2 (b.0, b.1, b.2, λ D le. ended D b.0 ts a.0.2 (b.3 D le))
              | inr s ↦ absurd (none_some z s.1)
            ]
      ]

  abbrev pub States : ℕ → Phrase (State Plain)
  States D = g.state (Ex D) (IsPat D) (IsEquation D) (IsHandler D) (g.IsGuard D)

  state_sound : Sound (State Plain) (r.state n E P Q H) States
  unfolding r.state
  state_sound = record {
    reads = λ ts z read.
        let a = some_of (constructor_read ts) (λ p. word Arrow p.1 >>= λ m. H m >>= λ x. r.exits n E P Q H x.2 >>= λ g. Some (state_with p.0 x.0 g.0.0 g.0.1, max x.1 g.1, g.2)) z read in
        let b = some_of (word Arrow a.0.1) (λ m. H m >>= λ x. r.exits n E P Q H x.2 >>= λ g. Some (state_with a.0.0 x.0 g.0.0 g.0.1, max x.1 g.1, g.2)) z a.2 in
        let c = some_of (H b.0) (λ x. r.exits n E P Q H x.2 >>= λ g. Some (state_with a.0.0 x.0 g.0.0 g.0.1, max x.1 g.1, g.2)) z b.2 in
        let d = some_of (r.exits n E P Q H c.0.2) (λ g. Some (state_with a.0.0 c.0.0 g.0.0 g.0.1, max c.0.1 g.1, g.2)) z c.2 in
        let s = exits_read c.0.2 d.0 d.1 in
        give (Reads States ts) (state_with a.0.0 c.0.0 d.0.0.0 d.0.0.1, max c.0.1 d.0.1, d.0.2) z d.2
        (λ D le. at_made (constructor ⊗ (Arrow ▷ (IsHandler D ⊗ g.exits (g.IsGuard D)))) (λ p. state_of p.0 p.1.0 p.1.1) (a.0.0, (c.0.0, s.0)) (state_with a.0.0 c.0.0 d.0.0.0 d.0.0.1) ts d.0.2
        (λ i. state_with a.0.0 c.0.0 (s.1 i) (s.2 i))
        (at_both constructor (Arrow ▷ (IsHandler D ⊗ g.exits (g.IsGuard D))) a.0.0 (c.0.0, s.0) ts a.0.1 d.0.2 (constructor_at ts a.0 a.1)
        (at_word (IsHandler D ⊗ g.exits (g.IsGuard D)) Arrow (c.0.0, s.0) a.0.1 b.0 d.0.2 (word_of Arrow a.0.1 b.0 b.1)
        (at_both (IsHandler D) (g.exits (g.IsGuard D)) c.0.0 s.0 b.0 c.0.2 d.0.2 (sh.reads b.0 c.0 c.1 D (max_left c.0.1 d.0.1 D le)) (s.3 D (max_right c.0.1 d.0.1 D le))))));
  }

  states_read : (ts : List Token) (z : Got (List (State Plain))) → r.states n E P Q H ts ≡ Some z → Reads (λ D. separated Bar (States D)) ts z
  unfolding r.states
  states_read ts z e = sound_separated n (starts Bar) Bar (r.state n E P Q H) States state_sound ts z e

  automaton_stands : (w : Bool) (ts : List Token) (z : Got (Equation Plain)) → r.automaton n E P Q H ts ≡ Some z → Stands (NextEq w) ts z
  unfolding r.automaton
  automaton_stands w ts z read =
      let a = some_of (word KwAutomaton ts) (λ m. r.states n E P Q H (r.skip Bar m) >>= λ x. word KwEnd x.2 >>= λ m. taller x.1 >>= λ h. Some (eq.Automaton x.0, h, m)) z read in
      let b = some_of (r.states n E P Q H (r.skip Bar a.0)) (λ x. word KwEnd x.2 >>= λ m. taller x.1 >>= λ h. Some (eq.Automaton x.0, h, m)) z a.2 in
      let c = some_of (word KwEnd b.0.2) (λ m. taller b.0.1 >>= λ h. Some (eq.Automaton b.0.0, h, m)) z b.2 in
      let d = some_of (taller b.0.1) (λ h. Some (eq.Automaton b.0.0, h, c.0)) z c.2 in
      let x = eq.Automaton b.0.0 in
      give (Stands (NextEq w) ts) (x, d.0, c.0) z d.2 (
        one_more b.0.1 d.0 d.1,
        λ D le.
            let k = at_made (KwAutomaton ▷ after Bar (separated Bar (States D) ◁ KwEnd)) eq.Automaton b.0.0 x ts c.0 refl
            (at_word (after Bar (separated Bar (States D) ◁ KwEnd)) KwAutomaton b.0.0 ts a.0 c.0 (word_of KwAutomaton ts a.0 a.1)
            (at_skip Bar (separated Bar (States D) ◁ KwEnd) b.0.0 a.0 c.0
            (at_end (separated Bar (States D)) KwEnd b.0.0 (r.skip Bar a.0) b.0.2 c.0 (states_read (r.skip Bar a.0) b.0 b.1 D (less_high b.0.1 d.0 D d.1 le)) (word_of KwEnd b.0.2 c.0 c.1)))) in
            at_inner w D x ts c.0 (k.0, k.1, inr (inr (inr (inr (inr k.2))))),
      )

  named_stands : (w : Fixed) (make : Name → Tree → Equation Plain) (ts : List Token) (z : Got (Equation Plain)) → (r.bound n E P Q H w ts >>= λ x. Some (make x.0.0 x.0.1, x.1, x.2)) ≡ Some z → Stands (λ D. Binds w D ⇒ λ p. make p.0 p.1) ts z
  named_stands w make ts z read =
      let a = some_of (r.bound n E P Q H w ts) (λ x. Some (make x.0.0 x.0.1, x.1, x.2)) z read in
      let s = bound_stands w ts a.0 a.1 in
      give (Stands (λ D. Binds w D ⇒ λ p. make p.0 p.1) ts) (make a.0.0.0 a.0.0.1, a.0.1, a.0.2) z a.2
      (s.0, λ D le. at_made (Binds w D) (λ p. make p.0 p.1) a.0.0 (make a.0.0.0 a.0.0.1) ts a.0.2 refl (s.1 D le))

  outer_only : (b s : Bool) → (not b && s) ≡ true → false ≡ b
  outer_only true s e = absurd (true_false (sym e))
  outer_only false s e = refl

  -- what is left of the choice between equations
  abbrev pub After4 : List Token → Option (Got (Equation Plain))
  After4 ts = if starts KwPresent ts then r.presence n E P Q H ts else if starts KwAutomaton ts then r.automaton n E P Q H ts else r.plain_equation n E P Q H ts

  abbrev pub After3 : List Token → Option (Got (Equation Plain))
  After3 ts = if starts KwMatch ts then r.matching n E P Q H ts else After4 ts

  abbrev pub After2 : Bool → List Token → Option (Got (Equation Plain))
  After2 b ts = if starts KwReset ts then r.reset n E P Q H b ts else After3 ts

  abbrev pub After1 : Bool → List Token → Option (Got (Equation Plain))
  After1 b ts = if starts KwEmit ts then (r.bound n E P Q H KwEmit ts >>= λ x. Some (eq.Emit x.0.0 x.0.1, x.1, x.2)) else After2 b ts

  equation_stands : (b : Bool) (ts : List Token) (z : Got (Equation Plain)) → r.equation n E P Q H b ts ≡ Some z → Stands (NextEq b) ts z
  unfolding r.equation
  equation_stands b ts z read =
      elim (branch_of (not b && starts KwClock ts) (r.bound n E P Q H KwClock ts >>= λ x. Some (eq.Clock x.0.0 x.0.1, x.1, x.2))
      (if not b && starts KwLast ts then (r.bound n E P Q H KwLast ts >>= λ x. Some (eq.Initial x.0.0 x.0.1, x.1, x.2)) else After1 b ts) (Some z) read) [
        | inl q ↦
            let s = named_stands KwClock eq.Clock ts z q.1 in
            subst (λ b. Stands (NextEq b) ts z) (outer_only b (starts KwClock ts) q.0) (s.0, λ D le. let a = s.1 D le in (a.0, a.1, inl (inl a.2)))
        | inr q1 ↦
            elim (branch_of (not b && starts KwLast ts) (r.bound n E P Q H KwLast ts >>= λ x. Some (eq.Initial x.0.0 x.0.1, x.1, x.2)) (After1 b ts) (Some z) q1.1) [
              | inl q ↦
                  let s = named_stands KwLast eq.Initial ts z q.1 in
                  subst (λ b. Stands (NextEq b) ts z) (outer_only b (starts KwLast ts) q.0) (s.0, λ D le. let a = s.1 D le in (a.0, a.1, inl (inr a.2)))
              | inr q2 ↦
                  elim (branch_of (starts KwEmit ts) (r.bound n E P Q H KwEmit ts >>= λ x. Some (eq.Emit x.0.0 x.0.1, x.1, x.2)) (After2 b ts) (Some z) q2.1) [
                    | inl q ↦
                        let s = named_stands KwEmit eq.Emit ts z q.1 in
                        (s.0, λ D le. let a = s.1 D le in at_inner b D z.0 ts z.2 (a.0, a.1, inr (inl a.2)))
                    | inr q3 ↦
                        elim (branch_of (starts KwReset ts) (r.reset n E P Q H b ts) (After3 ts) (Some z) q3.1) [
                          | inl q ↦ reset_stands b ts z q.1
                          | inr q4 ↦
                              elim (branch_of (starts KwMatch ts) (r.matching n E P Q H ts) (After4 ts) (Some z) q4.1) [
                                | inl q ↦ matching_stands b ts z q.1
                                | inr q5 ↦
                                    elim (branch_of (starts KwPresent ts) (r.presence n E P Q H ts) (if starts KwAutomaton ts then r.automaton n E P Q H ts else r.plain_equation n E P Q H ts) (Some z) q5.1) [
                                      | inl q ↦ presence_stands b ts z q.1
                                      | inr q6 ↦
                                          elim (branch_of (starts KwAutomaton ts) (r.automaton n E P Q H ts) (r.plain_equation n E P Q H ts) (Some z) q6.1) [
                                            | inl q ↦ automaton_stands b ts z q.1
                                            | inr q ↦ plain_stands b ts z q.1
                                          ]
                                    ]
                              ]
                        ]
                  ]
            ]
      ]

  -- equations that may be absent
  abbrev pub Some_or_none : (ℕ → Phrase (List (Equation Plain))) → List Token → Got (List (Equation Plain)) → Type 0
  Some_or_none p ts z = (o : Option (List (Equation Plain))) × (z.0 ≡ or_none o) × ((D : ℕ) → z.1 ≤ D → At (maybe (p D)) o ts z.2)

  abbrev pub Locals : ℕ → Phrase (List (Equation Plain))
  Locals D = g.locals (Ex D) (IsPat D) (IsEquation D) (IsHandler D) (g.IsGuard D)

  locals_read : (ts : List Token) (z : Got (List (Equation Plain))) → r.locals n E P Q H ts ≡ Some z → Some_or_none Locals ts z
  unfolding r.locals
  locals_read ts z read =
      elim (branch_of (starts KwLet ts) (word KwLet ts >>= λ m. r.equations n E P Q H false (r.skip KwRec m) >>= λ x. word KwIn x.2 >>= λ m. Some (x.0, x.1, m)) (Some ([], 0, ts)) (Some z) read) [
        | inl q ↦
            let a = some_of (word KwLet ts) (λ m. r.equations n E P Q H false (r.skip KwRec m) >>= λ x. word KwIn x.2 >>= λ m. Some (x.0, x.1, m)) z q.1 in
            let b = some_of (r.equations n E P Q H false (r.skip KwRec a.0)) (λ x. word KwIn x.2 >>= λ m. Some (x.0, x.1, m)) z a.2 in
            let c = some_of (word KwIn b.0.2) (λ m. Some (b.0.0, b.0.1, m)) z b.2 in
            give (Some_or_none Locals ts) (b.0.0, b.0.1, c.0) z c.2 (
              Some b.0.0,
              refl,
              λ D le. at_something (Locals D) b.0.0 ts c.0
                  (at_word (after KwRec (Eqs D false ◁ KwIn)) KwLet b.0.0 ts a.0 c.0 (word_of KwLet ts a.0 a.1)
                  (at_skip KwRec (Eqs D false ◁ KwIn) b.0.0 a.0 c.0
                  (at_end (Eqs D false) KwIn b.0.0 (r.skip KwRec a.0) b.0.2 c.0 (equations_read false (r.skip KwRec a.0) b.0 b.1 D le) (word_of KwIn b.0.2 c.0 c.1)))),
            )
        | inr q ↦ give (Some_or_none Locals ts) ([], 0, ts) z q.1 (None, refl, λ D le. at_nothing (Locals D) ts)
      ]

  within_read : (ts : List Token) (z : Got (List (Equation Plain))) → r.within n E P Q H ts ≡ Some z → Some_or_none (λ D. Eqs D true) ts z
  unfolding r.within
  within_read ts z read =
      elim (branch_of (r.begins_equation ts) (r.equations n E P Q H true ts) (Some ([], 0, ts)) (Some z) read) [
        | inl q ↦ (Some z.0, refl, λ D le. at_something (Eqs D true) z.0 ts z.2 (equations_read true ts z q.1 D le))
        | inr q ↦ give (Some_or_none (λ D. Eqs D true) ts) ([], 0, ts) z q.1 (None, refl, λ D le. at_nothing (Eqs D true) ts)
      ]

  doing_stands : (ts : List Token) (z : Got (Handler Plain)) → r.doing n E P Q H ts ≡ Some z → Stands (λ D. IsHandler (suc D)) ts z
  unfolding r.doing
  doing_stands ts z read =
      let a = some_of (r.locals n E P Q H ts) (λ l. word KwDo l.2 >>= λ m. r.within n E P Q H m >>= λ q. taller (max l.1 q.1) >>= λ h. Some (handler_with l.0 q.0, h, q.2)) z read in
      let b = some_of (word KwDo a.0.2) (λ m. r.within n E P Q H m >>= λ q. taller (max a.0.1 q.1) >>= λ h. Some (handler_with a.0.0 q.0, h, q.2)) z a.2 in
      let c = some_of (r.within n E P Q H b.0) (λ q. taller (max a.0.1 q.1) >>= λ h. Some (handler_with a.0.0 q.0, h, q.2)) z b.2 in
      let d = some_of (taller (max a.0.1 c.0.1)) (λ h. Some (handler_with a.0.0 c.0.0, h, c.0.2)) z c.2 in
      let l = locals_read ts a.0 a.1 in
      let q = within_read b.0 c.0 c.1 in
      give (Stands (λ D. IsHandler (suc D)) ts) (handler_with a.0.0 c.0.0, d.0, c.0.2) z d.2 (
        one_more (max a.0.1 c.0.1) d.0 d.1,
        λ D le.
            let high = less_high (max a.0.1 c.0.1) d.0 D d.1 le in
            at_made (maybe (Locals D) ⊗ (KwDo ▷ maybe (Eqs D true))) (λ p. handler_of p.0 p.1) (l.0, q.0) (handler_with a.0.0 c.0.0) ts c.0.2 (λ i. handler_with (l.1 i) (q.1 i))
            (at_both (maybe (Locals D)) (KwDo ▷ maybe (Eqs D true)) l.0 q.0 ts a.0.2 c.0.2 (l.2 D (max_left a.0.1 c.0.1 D high))
            (at_word (maybe (Eqs D true)) KwDo q.0 a.0.2 b.0 c.0.2 (word_of KwDo a.0.2 b.0 b.1) (q.2 D (max_right a.0.1 c.0.1 D high)))),
      )

-- equations and handlers
pub sound_both_kinds : (n : ℕ) → 1 ≤ n → (depth : ℕ) → ((b : Bool) → Sound (Equation Plain) (r.equation_at n depth b) (λ D. IsEquation D b)) × Sound (Handler Plain) (r.doing_at n depth) IsHandler
unfolding r.equation_at r.doing_at
sound_both_kinds n pos zero = ((λ b. record { reads = λ ts z e. absurd (none_some z e) }), record { reads = λ ts z e. absurd (none_some z e) })
sound_both_kinds n pos (suc depth) =
    let s = sound_both_kinds n pos depth in
    let e = sound_expression n pos depth Expr in
    let p = sound_pattern n pos depth in (
      (λ b. record {
        reads = λ ts z read. whole (λ D. IsEquation D b) ts z
            (equation_stands n pos (expression n depth Expr) (rp.pattern n depth) (r.equation_at n depth) (r.doing_at n depth) e p s.0 s.1 b ts z read);
      }),
      record {
        reads = λ ts z read. whole IsHandler ts z
            (doing_stands n pos (expression n depth Expr) (rp.pattern n depth) (r.equation_at n depth) (r.doing_at n depth) e p s.0 s.1 ts z read);
      },
    )
