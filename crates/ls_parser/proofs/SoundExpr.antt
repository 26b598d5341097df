-- What is read of an expression is one.
use Rattle.std.proofs.Common.{◌≡◌, ℕ, zero, suc, ◌≤◌, ◌⊎◌, inl, inr, Bool, true, false, List, [], ◌∷◌, ◌++◌, Option, Some, None, max, length, refl, sym, ◌∙◌, ap, subst, arith, if◌then◌else◌, unwrap_or}
use Rattle.std.specs.Prelude.{nat_lt, nat_eq, not, ◌&&◌}
use Rattle.std.specs.Option.{option_map}
use Rattle.std.proofs.lemmas.Bool.{eqb-true, ltb-false}
use Rattle.ls_ast.specs.declared.tree.Case.{Case}
use Rattle.ls_ast.specs.declared.tree.Case.TheVariants as case
use Rattle.ls_ast.specs.declared.tree.Form.TheVariants as form
use Rattle.ls_base.specs.declared.Name.{Name}
use Rattle.ls_lexer.specs.declared.token.Fixed.{Fixed}
use Rattle.ls_lexer.specs.declared.token.Fixed.TheVariants.{KwElse, KwEvery, KwFby, KwIf, KwLast, KwMerge, KwMod, KwNot, KwOr, KwPre, KwRun, KwThen, KwWhen, KwWhenot, KwXor, ParenLeft, ParenRight, Comma, Equal, Differ, Less, LessEq, Greater, GreaterEq, Plus, Minus, Star, Slash, Arrow, Ampersand, Question}
use Rattle.ls_lexer.specs.declared.token.Token.{Token}
use Rattle.ls_lexer.specs.declared.token.Token.TheVariants.{Fixed as Word, Id, Cons, Int, Char, Text, Prefix}
use Rattle.ls_ops.specs.declared.kinds.Op.{Op}
use Rattle.ls_ops.specs.declared.kinds.Op.TheVariants as op
use Rattle.ls_value.specs.declared.leaf.Leaf.TheVariants as leaf
use Rattle.ls_parser.specs.declared.level.Level.{Level}
use Rattle.ls_parser.specs.declared.level.Level.TheVariants.{Expr, Delay, Unary, App, Atom}
use Rattle.ls_parser.specs.declared.level.Infix.{Infix}
use Rattle.ls_parser.specs.declared.level.Infix.TheVariants as between
use Rattle.ls_parser.specs.Levels.{rank, left, right, infix_of, level_of}
use Rattle.ls_parser.specs.Making.{Tree, node, constant, chosen, unary, binary, previous, applied, called, merged, operands, simple}
use Rattle.ls_parser.specs.Notation.{Phrase, ◌▷◌, ◌◁◌, ◌⊗◌, ◌⇒◌, many, some, identifier, constructor}
use Rattle.ls_parser.specs.Grammar as g
use Rattle.ls_parser.specs.Grammar.{IsExpr}
use Rattle.ls_parser.specs.Reading.{Reader, ◌>>=◌, uncons, is_word, starts, word, name, constructor as constructor_read, taller, behind, form_of, collect}
use Rattle.ls_parser.specs.Expressions as r
use Rattle.ls_parser.proofs.Front.{At, append_nil, true_false, sound_begins, some_of, branch_of, some_one, none_some, cons_of, word_one, word_of, name_at, constructor_at, le_refl, le_trans, max_left, max_right, one_more, less_high, at_word, at_end, at_made, at_both, at_more, Got, Reads, Stands, Sound, Tall, give, sound_behind, sound_both, tall_form, whole, sound_collect}

-- a phrase of a level is one of each looser level
pub loosen : (D : ℕ) (l k : Level) (x : Tree) (ts m : List Token) → rank l ≤ rank k → At (IsExpr D k) x ts m → At (IsExpr D l) x ts m
loosen zero l k x ts m le a = absurd a.2
loosen (suc D) l k x ts m le a = (a.0, a.1, (a.2.0, le_trans (rank l) (rank k) (rank a.2.0) le a.2.1, a.2.2))

pub at_rule : (D : ℕ) (l k : Level) (x : Tree) (ts m : List Token) → rank l ≤ rank k → At (g.rule (IsExpr D) k) x ts m → At (IsExpr (suc D) l) x ts m
at_rule D l k x ts m le a = (a.0, a.1, (k, le, a.2))

-- the levels of the operators between operands
IsBetween : Option Infix → Type 0
IsBetween None = Unit {0}
IsBetween (Some o) = (1 ≤ rank (level_of o)) × (rank (level_of o) ≤ 8)

all_between : (w : Fixed) → IsBetween (infix_of w)
unfolding IsBetween
all_between Arrow = (omega arith, omega arith)
all_between KwFby = (omega arith, omega arith)
all_between KwWhen = (omega arith, omega arith)
all_between KwWhenot = (omega arith, omega arith)
all_between KwOr = (omega arith, omega arith)
all_between KwXor = (omega arith, omega arith)
all_between Ampersand = (omega arith, omega arith)
all_between Equal = (omega arith, omega arith)
all_between Differ = (omega arith, omega arith)
all_between Less = (omega arith, omega arith)
all_between LessEq = (omega arith, omega arith)
all_between Greater = (omega arith, omega arith)
all_between GreaterEq = (omega arith, omega arith)
all_between Plus = (omega arith, omega arith)
all_between Minus = (omega arith, omega arith)
all_between Star = (omega arith, omega arith)
all_between Slash = (omega arith, omega arith)
all_between KwMod = (omega arith, omega arith)
all_between _ = tt

pub between_at : (w : Fixed) (o : Infix) → infix_of w ≡ Some o → (1 ≤ rank (level_of o)) × (rank (level_of o) ≤ 8)
unfolding IsBetween
between_at w o e = subst IsBetween e (all_between w)

-- at those levels the rule is that of the operators
pub rule_between : (R : Level → Phrase Tree) (l : Level) (x : Tree) (ts : List Token) → 1 ≤ rank l → rank l ≤ 8 → g.operation R l x ts → g.rule R l x ts
rule_between R Expr x ts low high a = absurd (omega arith)
rule_between R Unary x ts low high a = absurd (omega arith)
rule_between R App x ts low high a = absurd (omega arith)
rule_between R Atom x ts low high a = absurd (omega arith)
rule_between R _ x ts low high a = a

-- the operator that stands first
pub infix_first : (ts : List Token) (p : Infix × List Token) → r.infix_at ts ≡ Some p → (w : Fixed) × (ts ≡ Word w ∷ p.1) × (infix_of w ≡ Some p.0)
unfolding r.infix_at
infix_first [] p e = absurd (none_some p e)
infix_first (Word w ∷ ts) p e =
    let q = some_of (infix_of w) (λ o. Some (o, ts)) p e in
    let same = some_one (q.0, ts) p q.2 in
    (w, (λ i. Word w ∷ (same i).1), q.1 ∙ (λ i. Some (same i).0))
infix_first (Id v ∷ ts) p e = absurd (none_some p e)
infix_first (Cons v ∷ ts) p e = absurd (none_some p e)
infix_first (Int v ∷ ts) p e = absurd (none_some p e)
infix_first (Char v ∷ ts) p e = absurd (none_some p e)
infix_first (Text v ∷ ts) p e = absurd (none_some p e)
infix_first (Prefix v ∷ ts) p e = absurd (none_some p e)

pub condition_read : (ts : List Token) (z : (Name × Case) × List Token) → r.condition ts ≡ Some z → At g.condition z.0 ts z.1
unfolding r.condition
condition_read ts z e =
    let q = some_of (uncons ts) (λ p. r.condition_at p.0 p.1) z e in
    at_token q.0.0 q.0.1 z (cons_of ts q.0 q.1) q.2
  where
    at_token : (t : Token) (m : List Token) (z : (Name × Case) × List Token) → ts ≡ t ∷ m → r.condition_at t m ≡ Some z → At g.condition z.0 ts z.1
    at_token (Id x) m z is e = give (λ (z : (Name × Case) × List Token). At g.condition z.0 ts z.1) ((x, case.True), m) z e
        (Id x ∷ [], is, inl (x, refl, refl))
    at_token (Cons k) m z is e =
        let a = some_of (word ParenLeft m) (λ m. name m >>= λ p. word ParenRight p.1 >>= λ m. Some ((p.0, case.Of k), m)) z e in
        let b = some_of (name a.0) (λ p. word ParenRight p.1 >>= λ m. Some ((p.0, case.Of k), m)) z a.2 in
        let c = some_of (word ParenRight b.0.1) (λ m. Some ((b.0.0, case.Of k), m)) z b.2 in
        let first : At constructor k ts m = (Cons k ∷ [], is, refl) in
        give (λ (z : (Name × Case) × List Token). At g.condition z.0 ts z.1) ((b.0.0, case.Of k), c.0) z c.2
        (let a = (at_made (constructor ⊗ (ParenLeft ▷ (identifier ◁ ParenRight))) (λ p. (p.1, case.Of p.0)) (k, b.0.0) (b.0.0, case.Of k) ts c.0 refl
        (at_both constructor (ParenLeft ▷ (identifier ◁ ParenRight)) k b.0.0 ts m c.0 first
        (at_word (identifier ◁ ParenRight) ParenLeft b.0.0 m a.0 c.0 (word_of ParenLeft m a.0 a.1)
        (at_end identifier ParenRight b.0.0 a.0 b.0.1 c.0 (name_at a.0 b.0 b.1) (word_of ParenRight b.0.1 c.0 c.1))))) in (a.0, a.1, inr a.2))
    at_token (Int v) m z is e = absurd (none_some z e)
    at_token (Char v) m z is e = absurd (none_some z e)
    at_token (Text v) m z is e = absurd (none_some z e)
    at_token (Prefix v) m z is e = absurd (none_some z e)
    at_token (Word v) m z is e = absurd (none_some z e)

none_less : (n : ℕ) → 0 ≤ n
none_less n = omega arith

ten_eleven : 10 ≤ 11
ten_eleven = omega arith

nine_ten : 9 ≤ 10
nine_ten = omega arith

and_first : (a b : Bool) → (a && b) ≡ true → a ≡ true
and_first true b e = refl
and_first false b e = e

and_second : (a b : Bool) → (a && b) ≡ true → b ≡ true
and_second true b e = e
and_second false b e = absurd (true_false (sym e))

not_true : (b : Bool) → not b ≡ true → b ≡ false
not_true true e = sym e
not_true false e = refl

-- R reads the parts, and what it reads are expressions.
module _ (n : ℕ) (pos : 1 ≤ n) (R : Level → Reader Tree) (sr : (l : Level) → Sound Tree (R l) (λ D. IsExpr D l)) where
  -- phrases of a level up to one more than a height
  abbrev pub Next : Level → ℕ → Phrase Tree
  Next l D = IsExpr (suc D) l

  tall_rule : (k : Level) (read : Reader Tree) → Tall Tree read (λ D. g.rule (IsExpr D) k) → (l : Level) → rank l ≤ rank k → Tall Tree read (Next l)
  tall_rule k read t l le = record { stands = λ ts z e. let s = t.stands ts z e in (s.0, λ D high. at_rule D l k z.0 ts z.2 le (s.1 D high)) }

  pub conditional_stands : Tall Tree (r.conditional n R) (λ D. g.rule (IsExpr D) Expr)
  unfolding r.conditional
  conditional_stands = tall_form chosen (sound_behind KwIf (sound_both (sr Expr) (sound_behind KwThen (sound_both (sr Expr) (sound_behind KwElse (sr Expr))))))

  pub arguments_read : (limit : ℕ) (ts : List Token) (z : Got (List Tree)) → r.arguments n R limit ts ≡ Some z → Reads (λ D. many (IsExpr D Atom)) ts z
  unfolding r.arguments
  arguments_read limit ts z e D le =
      let b = sound_collect limit r.begins_atom (R Atom) (λ D. IsExpr D Atom) (sr Atom) [] 0 ts z e in
      subst (λ xs. At (many (IsExpr D Atom)) xs ts z.2) (sym b.1.1) (b.1.2 D le)

  -- a name and atoms, or none
  abbrev pub Loose : List Token → Got (Bool × (Name × List Tree)) → Type 0
  Loose ts z = (D : ℕ) → z.1 ≤ D →
      ((z.0.0 ≡ false) × At (identifier ⊗ many (IsExpr D Atom)) z.0.1 ts z.2) ⊎ ((z.0.0 ≡ true) × At (KwRun ▷ (identifier ⊗ many (IsExpr D Atom))) z.0.1 ts z.2)

  pub call_read : (ts : List Token) (z : Got (Bool × (Name × List Tree))) → r.call n R ts ≡ Some z → Loose ts z
  unfolding r.call
  call_read ts z e = elim (branch_of (starts KwRun ts)
      (word KwRun ts >>= λ m. name m >>= λ p. r.arguments n R n p.1 >>= λ x. Some ((true, (p.0, x.0)), x.1, x.2))
      (name ts >>= λ p. r.arguments n R n p.1 >>= λ x. Some ((false, (p.0, x.0)), x.1, x.2)) (Some z) e) [
        | inl q ↦
            let a = some_of (word KwRun ts) (λ m. name m >>= λ p. r.arguments n R n p.1 >>= λ x. Some ((true, (p.0, x.0)), x.1, x.2)) z q.1 in
            let b = some_of (name a.0) (λ p. r.arguments n R n p.1 >>= λ x. Some ((true, (p.0, x.0)), x.1, x.2)) z a.2 in
            let c = some_of (r.arguments n R n b.0.1) (λ x. Some ((true, (b.0.0, x.0)), x.1, x.2)) z b.2 in
            give (Loose ts) ((true, (b.0.0, c.0.0)), c.0.1, c.0.2) z c.2
            (λ D le. inr (
              refl,
              at_word (identifier ⊗ many (IsExpr D Atom)) KwRun (b.0.0, c.0.0) ts a.0 c.0.2 (word_of KwRun ts a.0 a.1)
                  (at_both identifier (many (IsExpr D Atom)) b.0.0 c.0.0 a.0 b.0.1 c.0.2 (name_at a.0 b.0 b.1) (arguments_read n b.0.1 c.0 c.1 D le)),
            ))
        | inr q ↦
            let b = some_of (name ts) (λ p. r.arguments n R n p.1 >>= λ x. Some ((false, (p.0, x.0)), x.1, x.2)) z q.1 in
            let c = some_of (r.arguments n R n b.0.1) (λ x. Some ((false, (b.0.0, x.0)), x.1, x.2)) z b.2 in
            give (Loose ts) ((false, (b.0.0, c.0.0)), c.0.1, c.0.2) z c.2
            (λ D le. inl (refl, at_both identifier (many (IsExpr D Atom)) b.0.0 c.0.0 ts b.0.1 c.0.2 (name_at ts b.0 b.1) (arguments_read n b.0.1 c.0 c.1 D le)))
      ]

  -- a name and at least one atom
  pub tight : (D : ℕ) (run : Bool) (f : Name) (x : Tree) (xs : List Tree) (ts m : List Token)
      → ((run ≡ false) × At (identifier ⊗ many (IsExpr D Atom)) (f, x ∷ xs) ts m) ⊎ ((run ≡ true) × At (KwRun ▷ (identifier ⊗ many (IsExpr D Atom))) (f, x ∷ xs) ts m)
      → At (g.call (IsExpr D)) (run, (f, x ∷ xs)) ts m
  tight D run f x xs ts m a = elim a [
    | inl q ↦ (q.1.0, q.1.1, inl ((f, x ∷ xs), (λ i. (q.0 i, (f, x ∷ xs))), q.1.2))
    | inr q ↦ (q.1.0, q.1.1, inr ((f, x ∷ xs), (λ i. (q.0 i, (f, x ∷ xs))), q.1.2))
  ]

  alone : (D : ℕ) (f : Name) (ts m : List Token) → At (identifier ⊗ many (IsExpr D Atom)) (f, []) ts m → At identifier f ts m
  alone D f ts m a =
      let none : a.2.1 ≡ [] = a.2.4 in
      (a.2.0, a.1 ∙ ap (λ u. u ++ m) (a.2.2 ∙ ap (λ u. a.2.0 ++ u) none ∙ append_nil a.2.0), a.2.3)

  applied_call : (l : Level) → rank l ≤ 10 → (run : Bool) (f : Name) (x : Tree) (xs : List Tree) (e : Tree) (h k : ℕ) (ts m : List Token)
      → e ≡ called None (run, (f, x ∷ xs)) → taller h ≡ Some k → Loose ts ((run, (f, x ∷ xs)), h, m) → Stands (Next l) ts (e, k, m)
  applied_call l low run f x xs e h k ts m made high loose = (
    one_more h k high,
    λ D le. at_rule D l App e ts m low
        (let a = (at_made (g.call (IsExpr D)) (called None) (run, (f, x ∷ xs)) e ts m made (tight D run f x xs ts m (loose D (less_high h k D high le)))) in (a.0, a.1, inl a.2)),
  )

  -- what is made of a name and atoms
  pub applied_stands : (l : Level) → rank l ≤ 10 → (run : Bool) (f : Name) (xs : List Tree) (e : Tree) (h k : ℕ) (ts m : List Token)
      → applied run f xs ≡ Some e → taller h ≡ Some k → Loose ts ((run, (f, xs)), h, m) → Stands (Next l) ts (e, k, m)
  applied_stands l low false f [] e h k ts m made high loose = (
    one_more h k high,
    λ D le. at_rule D l Atom e ts m (le_trans (rank l) 10 11 low (omega arith))
        (elim (loose D (less_high h k D high le)) [
          | inl q ↦ let a = alone D f ts m q.1 in (a.0, a.1, inl (Id f, a.2, made))
          | inr q ↦ absurd (cc)
        ]),
  )
  applied_stands l low true f [] e h k ts m made high loose = absurd (none_some e made)
  applied_stands l low false f (x ∷ xs) e h k ts m made high loose = applied_call l low false f x xs e h k ts m (sym (some_one _ e made)) high loose
  applied_stands l low true f (x ∷ xs) e h k ts m made high loose = applied_call l low true f x xs e h k ts m (sym (some_one _ e made)) high loose

  pub named_stands : (l : Level) → rank l ≤ 10 → (ts : List Token) (z : Got Tree) → r.named n R ts ≡ Some z → Stands (Next l) ts z
  unfolding r.named
  named_stands l low ts z e =
      let a = some_of (r.call n R ts) (λ x. applied x.0.0 x.0.1.0 x.0.1.1 >>= λ e. taller x.1 >>= λ h. Some (e, h, x.2)) z e in
      let b = some_of (applied a.0.0.0 a.0.0.1.0 a.0.0.1.1) (λ e. taller a.0.1 >>= λ h. Some (e, h, a.0.2)) z a.2 in
      let c = some_of (taller a.0.1) (λ h. Some (b.0, h, a.0.2)) z b.2 in
      give (Stands (Next l) ts) (b.0, c.0, a.0.2) z c.2
      (applied_stands l low a.0.0.0 a.0.0.1.0 a.0.0.1.1 b.0 a.0.1 c.0 ts a.0.2 b.1 c.1 (call_read ts a.0 a.1))

  -- What an operator makes of what stands left, and the height of what stands right.
  abbrev pub Right : Infix → Tree → ℕ → List Token → Got Tree → Type 0
  Right o e h m z = (f : Tree → Tree) × (k : ℕ) × (z.0 ≡ f e) × (taller (max h k) ≡ Some z.1) × ((D : ℕ) → k ≤ D → At (g.operand (IsExpr D) o) f m z.2)

  right_phrase : (o : Infix) (l : Level) (make : Tree → Tree → Tree) → ((D : ℕ) (f : Tree → Tree) (ts m : List Token) → At (IsExpr D l ⇒ make) f ts m → At (g.operand (IsExpr D) o) f ts m)
      → (e : Tree) (h : ℕ) (m : List Token) (z : Got Tree) → (R l m >>= λ y. taller (max h y.1) >>= λ k. Some (make y.0 e, k, y.2)) ≡ Some z → Right o e h m z
  right_phrase o l make same e h m z read =
      let a = some_of (R l m) (λ y. taller (max h y.1) >>= λ k. Some (make y.0 e, k, y.2)) z read in
      let b = some_of (taller (max h a.0.1)) (λ k. Some (make a.0.0 e, k, a.0.2)) z a.2 in
      give (Right o e h m) (make a.0.0 e, b.0, a.0.2) z b.2
      (make a.0.0, a.0.1, refl, b.1, λ D le. same D (make a.0.0) m a.0.2 (at_made (IsExpr D l) make a.0.0 (make a.0.0) m a.0.2 refl ((sr l).reads m a.0 a.1 D le)))

  max_zero : (h : ℕ) → max h 0 ≡ h
  max_zero h = omega arith

  right_of : (o : Infix) (e : Tree) (h : ℕ) (m : List Token) (z : Got Tree) → r.suffix n R o e h m ≡ Some z → Right o e h m z
  unfolding r.suffix
  right_of between.Init e h m z read = right_phrase between.Init Expr (λ y x. node (form.Init x y)) (λ D f ts m a. a) e h m z read
  right_of between.Fby e h m z read = right_phrase between.Fby Delay (λ y x. node (form.Fby x y)) (λ D f ts m a. a) e h m z read
  right_of between.When e h m z read =
      let a = some_of (r.condition m) (λ c. taller h >>= λ k. Some (node (form.When e c.0.0 c.0.1), k, c.1)) z read in
      let b = some_of (taller h) (λ k. Some (node (form.When e a.0.0.0 a.0.0.1), k, a.0.1)) z a.2 in
      give (Right between.When e h m) (node (form.When e a.0.0.0 a.0.0.1), b.0, a.0.1) z b.2 (
        (λ x. node (form.When x a.0.0.0 a.0.0.1)),
        0,
        refl,
        ap taller (max_zero h) ∙ b.1,
        λ D le. at_made g.condition (λ c x. node (form.When x c.0 c.1)) a.0.0 (λ x. node (form.When x a.0.0.0 a.0.0.1)) m a.0.1 refl (condition_read m a.0 a.1),
      )
  right_of between.Whenot e h m z read =
      let a = some_of (name m) (λ c. taller h >>= λ k. Some (node (form.When e c.0 case.False), k, c.1)) z read in
      let b = some_of (taller h) (λ k. Some (node (form.When e a.0.0 case.False), k, a.0.1)) z a.2 in
      give (Right between.Whenot e h m) (node (form.When e a.0.0 case.False), b.0, a.0.1) z b.2 (
        (λ x. node (form.When x a.0.0 case.False)),
        0,
        refl,
        ap taller (max_zero h) ∙ b.1,
        λ D le. at_made identifier (λ c x. node (form.When x c case.False)) a.0.0 (λ x. node (form.When x a.0.0 case.False)) m a.0.1 refl (name_at m a.0 a.1),
      )
  right_of (between.Binary level o) e h m z read = right_phrase (between.Binary level o) (right level) (λ y x. binary o x y) (λ D f ts m a. a) e h m z read

  abbrev pub Around : ℕ → Infix → Fixed → Phrase (Tree × (Tree → Tree))
  Around D o w = IsExpr D (left (level_of o)) ⊗ (w ▷ g.operand (IsExpr D) o)

  pub suffix_stands : (o : Infix) (w : Fixed) → infix_of w ≡ Some o → (from : Level) → rank (left (level_of o)) ≤ rank from → (e : Tree) (h : ℕ) (start ts m : List Token)
      → Reads (λ D. IsExpr D from) start (e, h, ts) → ts ≡ Word w ∷ m → (z : Got Tree) → r.suffix n R o e h m ≡ Some z → Stands (Next (level_of o)) start z
  suffix_stands o w is from low e h start ts m before first z read =
      let right = right_of o e h m z read in
      let f = right.0 in
      let k = right.1 in
      let levels = between_at w o is in (
        one_more (max h k) z.1 right.3,
        λ D high.
            let le : max h k ≤ D = less_high (max h k) z.1 D right.3 high in
            let both : At (Around D o w) (e, f) start z.2 =
            at_both (IsExpr D (left (level_of o))) (w ▷ g.operand (IsExpr D) o) e f start ts z.2
            (loosen D (left (level_of o)) from e start ts low (before D (max_left h k D le)))
            (at_word (g.operand (IsExpr D) o) w f ts m z.2 first (right.4 D (max_right h k D le))) in
            let made = at_made (Around D o w) (λ p. p.1 p.0) (e, f) z.0 start z.2 right.2 both in
            at_rule D (level_of o) (level_of o) z.0 start z.2 (le_refl (rank (level_of o)))
            (made.0, made.1, rule_between (IsExpr D) (level_of o) z.0 made.0 levels.0 levels.1 (w, o, is, refl, made.2)),
      )

  goes_on_of : (least from : Level) (o : Infix) → r.goes_on least from o ≡ true → (rank least ≤ rank (level_of o)) × (rank (left (level_of o)) ≤ rank from)
  goes_on_of least from o e =
      let a = rank (level_of o) in
      let b = rank least in
      let c = rank from in
      let d = rank (left (level_of o)) in
      (ltb-false a b (not_true _ (and_first (not (nat_lt a b)) (not (nat_lt c d)) e)), ltb-false c d (not_true _ (and_second (not (nat_lt a b)) (not (nat_lt c d)) e)))

  -- the operators that follow a phrase
  abbrev pub Climbs : Level → ℕ → List Token → Type 0
  Climbs least k start = (from : Level) → rank least ≤ rank from → (e : Tree) (h : ℕ) (ts : List Token) → 1 ≤ h → Reads (λ D. IsExpr D from) start (e, h, ts)
      → (z : Got Tree) → r.climb n R k least from e h ts ≡ Some z → Stands (Next least) start z

  climb_step : (least : Level) (k : ℕ) (start : List Token) → Climbs least k start → (from : Level) → rank least ≤ rank from → (e : Tree) (h : ℕ) (ts : List Token) → 1 ≤ h → Reads (λ D. IsExpr D from) start (e, h, ts)
      → (p : Option (Infix × List Token)) → r.infix_at ts ≡ p → (z : Got Tree)
      → unwrap_or (option_map (λ p. if r.goes_on least from p.0 then (r.suffix n R p.0 e h p.1 >>= λ x. r.climb n R k least (level_of p.0) x.0 x.1 x.2) else Some (e, h, ts)) p) (Some (e, h, ts)) ≡ Some z
      → Stands (Next least) start z
  climb_step least k start ih from low e h ts one before None is z read =
      give (Stands (Next least) start) (e, h, ts) z read (one, λ D le. loosen (suc D) least from e start ts low (before (suc D) le))
  climb_step least k start ih from low e h ts one before (Some p) is z read =
      elim (branch_of (r.goes_on least from p.0) (r.suffix n R p.0 e h p.1 >>= λ x. r.climb n R k least (level_of p.0) x.0 x.1 x.2) (Some (e, h, ts)) (Some z) read) [
        | inl q ↦
            let a = some_of (r.suffix n R p.0 e h p.1) (λ x. r.climb n R k least (level_of p.0) x.0 x.1 x.2) z q.1 in
            let f = infix_first ts p is in
            let low2 = goes_on_of least from p.0 q.0 in
            let s = suffix_stands p.0 f.0 f.2 from low2.1 e h start ts p.1 before f.1 a.0 a.1 in
            ih (level_of p.0) low2.0 a.0.0 a.0.1 a.0.2 s.0 (whole (λ D. IsExpr D (level_of p.0)) start a.0 s) z a.2
        | inr q ↦ give (Stands (Next least) start) (e, h, ts) z q.1 (one, λ D le. loosen (suc D) least from e start ts low (before (suc D) le))
      ]

  pub climb_stands : (least : Level) (k : ℕ) (start : List Token) → Climbs least k start
  climb_stands least zero start from low e h ts one before z read =
      give (Stands (Next least) start) (e, h, ts) z read (one, λ D le. loosen (suc D) least from e start ts low (before (suc D) le))
  climb_stands least (suc k) start from low e h ts one before z read =
      climb_step least k start (climb_stands least k start) from low e h ts one before (r.infix_at ts) refl z read

  no_branch : (k : Name) (others m ts : List Token) → ts ≡ Word ParenLeft ∷ Cons k ∷ Word Arrow ∷ (others ++ m) → r.begins_branch ts ≡ false → ⊥
  unfolding r.begins_branch starts
  no_branch k others m ts is plain = true_false (sym (ap r.begins_branch is) ∙ plain)

  at_bare : (D : ℕ) (x : Tree) (ts m : List Token) → r.begins_branch ts ≡ false → At (IsExpr D Atom) x ts m → At (g.bare (IsExpr D)) x ts m
  at_bare D x ts m plain a = (a.0, a.1, (a.2, λ looks. no_branch looks.0 looks.1 m ts (a.1 ∙ ap (λ u. u ++ m) looks.2) plain))

  same_length : (a b : ℕ) → nat_eq a b ≡ true → a ≡ b
  same_length a b e = eqb-true a b e

  pub prefixed_stands : (l : Level) → rank l ≤ 10 → (o : Op) (ts m : List Token) → ts ≡ Prefix o ∷ m → (z : Got Tree) → r.prefixed n R o m ≡ Some z → Stands (Next l) ts z
  unfolding r.prefixed
  prefixed_stands l low o ts m first z read =
      let a = some_of (r.arguments n R (operands o) m) (λ x. if nat_eq (length x.0) (operands o) then (taller x.1 >>= λ h. Some (node (form.Op o x.0), h, x.2)) else None) z read in
      elim (branch_of (nat_eq (length a.0.0) (operands o)) (taller a.0.1 >>= λ h. Some (node (form.Op o a.0.0), h, a.0.2)) None (Some z) a.2) [
        | inl q ↦
            let b = some_of (taller a.0.1) (λ h. Some (node (form.Op o a.0.0), h, a.0.2)) z q.1 in
            give (Stands (Next l) ts) (node (form.Op o a.0.0), b.0, a.0.2) z b.2 (
              one_more a.0.1 b.0 b.1,
              λ D le.
                  let xs = arguments_read (operands o) m a.0 a.1 D (less_high a.0.1 b.0 D b.1 le) in
                  at_rule D l App (node (form.Op o a.0.0)) ts a.0.2 low
                  (Prefix o ∷ xs.0, first ∙ ap (λ u. Prefix o ∷ u) xs.1, inr (inl (o, a.0.0, xs.0, refl, same_length (length a.0.0) (operands o) q.0, xs.2, refl))),
            )
        | inr q ↦ absurd (none_some z q.1)
      ]

  branch_sound : Sound (Case × Tree) (r.branch n R) (λ D. g.branch (IsExpr D))
  unfolding r.branch
  branch_sound = record {
    reads = λ ts z e D le.
        let a = some_of (word ParenLeft ts) (λ m. constructor_read m >>= λ p. word Arrow p.1 >>= λ m. R Expr m >>= λ x. word ParenRight x.2 >>= λ m. Some ((case.Of p.0, x.0), x.1, m)) z e in
        let b = some_of (constructor_read a.0) (λ p. word Arrow p.1 >>= λ m. R Expr m >>= λ x. word ParenRight x.2 >>= λ m. Some ((case.Of p.0, x.0), x.1, m)) z a.2 in
        let c = some_of (word Arrow b.0.1) (λ m. R Expr m >>= λ x. word ParenRight x.2 >>= λ m. Some ((case.Of b.0.0, x.0), x.1, m)) z b.2 in
        let d = some_of (R Expr c.0) (λ x. word ParenRight x.2 >>= λ m. Some ((case.Of b.0.0, x.0), x.1, m)) z c.2 in
        let f = some_of (word ParenRight d.0.2) (λ m. Some ((case.Of b.0.0, d.0.0), d.0.1, m)) z d.2 in
        give (Reads (λ D. g.branch (IsExpr D)) ts) ((case.Of b.0.0, d.0.0), d.0.1, f.0) z f.2
        (λ D le. at_made (ParenLeft ▷ (constructor ⊗ (Arrow ▷ (IsExpr D Expr ◁ ParenRight)))) (λ p. (case.Of p.0, p.1)) (b.0.0, d.0.0) (case.Of b.0.0, d.0.0) ts f.0 refl
        (at_word (constructor ⊗ (Arrow ▷ (IsExpr D Expr ◁ ParenRight))) ParenLeft (b.0.0, d.0.0) ts a.0 f.0 (word_of ParenLeft ts a.0 a.1)
        (at_both constructor (Arrow ▷ (IsExpr D Expr ◁ ParenRight)) b.0.0 d.0.0 a.0 b.0.1 f.0 (constructor_at a.0 b.0 b.1)
        (at_word (IsExpr D Expr ◁ ParenRight) Arrow d.0.0 b.0.1 c.0 f.0 (word_of Arrow b.0.1 c.0 c.1)
        (at_end (IsExpr D Expr) ParenRight d.0.0 c.0 d.0.2 f.0 ((sr Expr).reads c.0 d.0 d.1 D le) (word_of ParenRight d.0.2 f.0 f.1)))))) D le;
  }

  branches_read : (ts : List Token) (z : Got (List (Case × Tree))) → r.branches n R ts ≡ Some z → Reads (λ D. some (g.branch (IsExpr D))) ts z
  unfolding r.branches
  branches_read ts z e D le =
      let a = some_of (r.branch n R ts) (λ b. collect n r.begins_branch (r.branch n R) (b.0 ∷ []) b.1 b.2) z e in
      let b = sound_collect n r.begins_branch (r.branch n R) (λ D. g.branch (IsExpr D)) branch_sound (a.0.0 ∷ []) a.0.1 a.0.2 z a.2 in
      subst (λ xs. At (some (g.branch (IsExpr D))) xs ts z.2) (sym b.1.1)
      (at_more (g.branch (IsExpr D)) a.0.0 b.1.0 ts a.0.2 z.2 (branch_sound.reads ts a.0 a.1 D (le_trans a.0.1 z.1 D b.0 le)) (b.1.2 D le))

  pub merge_stands : (l : Level) → rank l ≤ 10 → (ts m : List Token) → ts ≡ Word KwMerge ∷ m → (p : Name × List Token) → name m ≡ Some p → (z : Got Tree) → r.merge n R p.0 p.1 ≡ Some z → Stands (Next l) ts z
  unfolding r.merge
  merge_stands l low ts m first p named z read =
      elim (branch_of (r.begins_branch p.1) (r.branches n R p.1 >>= λ bs. taller bs.1 >>= λ h. Some (node (form.Merge p.0 bs.0), h, bs.2))
      (R Atom p.1 >>= λ a. if r.begins_branch a.2 then None else (R Atom a.2 >>= λ b. taller (max a.1 b.1) >>= λ h. Some (merged p.0 a.0 b.0, h, b.2))) (Some z) read) [
        | inl q ↦
            let a = some_of (r.branches n R p.1) (λ bs. taller bs.1 >>= λ h. Some (node (form.Merge p.0 bs.0), h, bs.2)) z q.1 in
            let b = some_of (taller a.0.1) (λ h. Some (node (form.Merge p.0 a.0.0), h, a.0.2)) z a.2 in
            give (Stands (Next l) ts) (node (form.Merge p.0 a.0.0), b.0, a.0.2) z b.2 (
              one_more a.0.1 b.0 b.1,
              λ D le. at_rule D l App (node (form.Merge p.0 a.0.0)) ts a.0.2 low
                  (let a = (at_made (KwMerge ▷ (identifier ⊗ some (g.branch (IsExpr D)))) (λ p. node (form.Merge p.0 p.1)) (p.0, a.0.0) (node (form.Merge p.0 a.0.0)) ts a.0.2 refl
                  (at_word (identifier ⊗ some (g.branch (IsExpr D))) KwMerge (p.0, a.0.0) ts m a.0.2 first
                  (at_both identifier (some (g.branch (IsExpr D))) p.0 a.0.0 m p.1 a.0.2 (name_at m p named) (branches_read p.1 a.0 a.1 D (less_high a.0.1 b.0 D b.1 le))))) in (a.0, a.1, inr (inr (inl a.2)))),
            )
        | inr q ↦
            let a = some_of (R Atom p.1) (λ a. if r.begins_branch a.2 then None else (R Atom a.2 >>= λ b. taller (max a.1 b.1) >>= λ h. Some (merged p.0 a.0 b.0, h, b.2))) z q.1 in
            elim (branch_of (r.begins_branch a.0.2) None (R Atom a.0.2 >>= λ b. taller (max a.0.1 b.1) >>= λ h. Some (merged p.0 a.0.0 b.0, h, b.2)) (Some z) a.2) [
              | inl s ↦ absurd (none_some z s.1)
              | inr s ↦
                  let b = some_of (R Atom a.0.2) (λ b. taller (max a.0.1 b.1) >>= λ h. Some (merged p.0 a.0.0 b.0, h, b.2)) z s.1 in
                  let c = some_of (taller (max a.0.1 b.0.1)) (λ h. Some (merged p.0 a.0.0 b.0.0, h, b.0.2)) z b.2 in
                  give (Stands (Next l) ts) (merged p.0 a.0.0 b.0.0, c.0, b.0.2) z c.2 (
                    one_more (max a.0.1 b.0.1) c.0 c.1,
                    λ D le.
                        let high = less_high (max a.0.1 b.0.1) c.0 D c.1 le in
                        at_rule D l App (merged p.0 a.0.0 b.0.0) ts b.0.2 low
                        (let a = (at_made (KwMerge ▷ (identifier ⊗ (g.bare (IsExpr D) ⊗ g.bare (IsExpr D)))) (λ p. merged p.0 p.1.0 p.1.1) (p.0, (a.0.0, b.0.0)) (merged p.0 a.0.0 b.0.0) ts b.0.2 refl
                        (at_word (identifier ⊗ (g.bare (IsExpr D) ⊗ g.bare (IsExpr D))) KwMerge (p.0, (a.0.0, b.0.0)) ts m b.0.2 first
                        (at_both identifier (g.bare (IsExpr D) ⊗ g.bare (IsExpr D)) p.0 (a.0.0, b.0.0) m p.1 b.0.2 (name_at m p named)
                        (at_both (g.bare (IsExpr D)) (g.bare (IsExpr D)) a.0.0 b.0.0 p.1 a.0.2 b.0.2
                        (at_bare D a.0.0 p.1 a.0.2 q.0 ((sr Atom).reads p.1 a.0 a.1 D (max_left a.0.1 b.0.1 D high)))
                        (at_bare D b.0.0 a.0.2 b.0.2 s.0 ((sr Atom).reads a.0.2 b.0 b.1 D (max_right a.0.1 b.0.1 D high))))))) in (a.0, a.1, inr (inr (inr a.2)))),
                  )
            ]
      ]

  -- what stands in parentheses after a first expression
  group_from_stands : (ts m : List Token) → ts ≡ Word ParenLeft ∷ m → (e : Tree) (h : ℕ) (k : List Token) → Reads (λ D. IsExpr D Expr) m (e, h, k) → (z : Got Tree) → r.group_from n R e h k ≡ Some z → Stands (Next Atom) ts z
  unfolding r.group_from r.tuple
  group_from_stands ts m first e h k inner z read =
      elim (branch_of (starts Comma k) (r.tuple n R e h k) (word ParenRight k >>= λ m. taller h >>= λ k. Some (e, k, m)) (Some z) read) [
        | inl q ↦
            let a = some_of (collect n (starts Comma) (behind Comma (R Expr)) (e ∷ []) h k) (λ x. word ParenRight x.2 >>= λ m. taller x.1 >>= λ k. Some (node (form.Tuple x.0), k, m)) z q.1 in
            let b = some_of (word ParenRight a.0.2) (λ m. taller a.0.1 >>= λ k. Some (node (form.Tuple a.0.0), k, m)) z a.2 in
            let c = some_of (taller a.0.1) (λ k. Some (node (form.Tuple a.0.0), k, b.0)) z b.2 in
            let more = sound_begins n pos (starts Comma) (behind Comma (R Expr)) (λ D. Comma ▷ IsExpr D Expr) (sound_behind Comma (sr Expr)) (e ∷ []) h k a.0 q.0 a.1 in
            let ys = more.1.0 ∷ more.1.1 in
            give (Stands (Next Atom) ts) (node (form.Tuple a.0.0), c.0, b.0) z c.2 (
              one_more a.0.1 c.0 c.1,
              λ D le.
                  let high = less_high a.0.1 c.0 D c.1 le in
                  let x = node (form.Tuple a.0.0) in
                  at_rule D Atom Atom x ts b.0 (le_refl 11)
                  (let a = (at_made (ParenLeft ▷ ((IsExpr D Expr ⊗ some (Comma ▷ IsExpr D Expr)) ◁ ParenRight)) (λ p. node (form.Tuple (p.0 ∷ p.1))) (e, ys) x ts b.0 (ap (λ xs. node (form.Tuple xs)) more.1.2)
                  (at_word ((IsExpr D Expr ⊗ some (Comma ▷ IsExpr D Expr)) ◁ ParenRight) ParenLeft (e, ys) ts m b.0 first
                  (at_end (IsExpr D Expr ⊗ some (Comma ▷ IsExpr D Expr)) ParenRight (e, ys) m a.0.2 b.0
                  (at_both (IsExpr D Expr) (some (Comma ▷ IsExpr D Expr)) e ys m k a.0.2 (inner D (le_trans h a.0.1 D more.0 high)) (more.1.3 D high))
                  (word_of ParenRight a.0.2 b.0 b.1)))) in (a.0, a.1, inr (inr (inr (inr (inr (inl a.2))))))),
            )
        | inr q ↦
            let b = some_of (word ParenRight k) (λ m. taller h >>= λ k. Some (e, k, m)) z q.1 in
            let c = some_of (taller h) (λ k. Some (e, k, b.0)) z b.2 in
            give (Stands (Next Atom) ts) (e, c.0, b.0) z c.2 (
              one_more h c.0 c.1,
              λ D le. at_rule D Atom Atom e ts b.0 (le_refl 11)
                  (let a = (at_word (IsExpr D Expr ◁ ParenRight) ParenLeft e ts m b.0 first
                  (at_end (IsExpr D Expr) ParenRight e m k b.0 (inner D (less_high h c.0 D c.1 le)) (word_of ParenRight k b.0 b.1))) in (a.0, a.1, inr (inr (inr (inr (inl a.2)))))),
            )
      ]

  every_stands : (ts m : List Token) → ts ≡ Word ParenLeft ∷ m → (run : Bool) (f : Name) (xs : List Tree) (h : ℕ) (k : List Token) → Loose m ((run, (f, xs)), h, k)
      → (z : Got Tree) → r.every n R run f xs h k ≡ Some z → Stands (Next Atom) ts z
  unfolding r.every
  every_stands ts m first run f [] h k loose z read =
      elim (branch_of (nat_eq (length {A = Tree} []) 0) None (word KwEvery k >>= λ m. R Expr m >>= λ c. word ParenRight c.2 >>= λ m. taller (max h c.1) >>= λ k. Some (node (form.Call run f [] (Some c.0)), k, m)) (Some z) read) [
        | inl q ↦ absurd (none_some z q.1)
        | inr q ↦ absurd (true_false q.0)
      ]
  every_stands ts m first run f (x ∷ xs) h k loose z read =
      elim (branch_of (nat_eq (length (x ∷ xs)) 0) None (word KwEvery k >>= λ m. R Expr m >>= λ c. word ParenRight c.2 >>= λ m. taller (max h c.1) >>= λ k. Some (node (form.Call run f (x ∷ xs) (Some c.0)), k, m)) (Some z) read) [
        | inl q ↦ absurd (none_some z q.1)
        | inr q ↦
            let a = some_of (word KwEvery k) (λ m. R Expr m >>= λ c. word ParenRight c.2 >>= λ m. taller (max h c.1) >>= λ k. Some (node (form.Call run f (x ∷ xs) (Some c.0)), k, m)) z q.1 in
            let b = some_of (R Expr a.0) (λ c. word ParenRight c.2 >>= λ m. taller (max h c.1) >>= λ k. Some (node (form.Call run f (x ∷ xs) (Some c.0)), k, m)) z a.2 in
            let c = some_of (word ParenRight b.0.2) (λ m. taller (max h b.0.1) >>= λ k. Some (node (form.Call run f (x ∷ xs) (Some b.0.0)), k, m)) z b.2 in
            let d = some_of (taller (max h b.0.1)) (λ k. Some (node (form.Call run f (x ∷ xs) (Some b.0.0)), k, c.0)) z c.2 in
            let e = node (form.Call run f (x ∷ xs) (Some b.0.0)) in
            give (Stands (Next Atom) ts) (e, d.0, c.0) z d.2 (
              one_more (max h b.0.1) d.0 d.1,
              λ D le.
                  let high = less_high (max h b.0.1) d.0 D d.1 le in
                  at_rule D Atom Atom e ts c.0 (le_refl 11)
                  (let a = (at_made (ParenLeft ▷ ((g.call (IsExpr D) ⊗ (KwEvery ▷ IsExpr D Expr)) ◁ ParenRight)) (λ p. called (Some p.1) p.0) ((run, (f, x ∷ xs)), b.0.0) e ts c.0 refl
                  (at_word ((g.call (IsExpr D) ⊗ (KwEvery ▷ IsExpr D Expr)) ◁ ParenRight) ParenLeft ((run, (f, x ∷ xs)), b.0.0) ts m c.0 first
                  (at_end (g.call (IsExpr D) ⊗ (KwEvery ▷ IsExpr D Expr)) ParenRight ((run, (f, x ∷ xs)), b.0.0) m b.0.2 c.0
                  (at_both (g.call (IsExpr D)) (KwEvery ▷ IsExpr D Expr) (run, (f, x ∷ xs)) b.0.0 m k b.0.2
                  (tight D run f x xs m k (loose D (max_left h b.0.1 D high)))
                  (at_word (IsExpr D Expr) KwEvery b.0.0 k a.0 b.0.2 (word_of KwEvery k a.0 a.1) ((sr Expr).reads a.0 b.0 b.1 D (max_right h b.0.1 D high))))
                  (word_of ParenRight b.0.2 c.0 c.1)))) in (a.0, a.1, inr (inr (inr (inr (inr (inr a.2))))))),
            )
      ]

  looser : (l k : Level) → rank l ≤ rank k → (ts : List Token) (z : Got Tree) → Stands (Next k) ts z → Stands (Next l) ts z
  looser l k low ts z s = (s.0, λ D le. loosen (suc D) l k z.0 ts z.2 low (s.1 D le))

  group_stands : (ts m : List Token) → ts ≡ Word ParenLeft ∷ m → (z : Got Tree) → r.group n R m ≡ Some z → Stands (Next Atom) ts z
  unfolding r.group
  group_stands ts m first z read =
      elim (branch_of (starts ParenRight m) (word ParenRight m >>= λ m. Some (constant leaf.Unit, 1, m))
      (if r.begins_call m then
      (r.call n R m >>= λ x. if starts KwEvery x.2 then r.every n R x.0.0 x.0.1.0 x.0.1.1 x.1 x.2 else (applied x.0.0 x.0.1.0 x.0.1.1 >>= λ e. taller x.1 >>= λ h. r.climb n R n Expr Unary e h x.2 >>= λ y. r.group_from n R y.0 y.1 y.2))
      else (R Expr m >>= λ y. r.group_from n R y.0 y.1 y.2)) (Some z) read) [
        | inl q ↦
            let a = some_of (word ParenRight m) (λ m. Some (constant leaf.Unit, 1, m)) z q.1 in
            give (Stands (Next Atom) ts) (constant leaf.Unit, 1, a.0) z a.2 (
              le_refl 1,
              λ D le. at_rule D Atom Atom (constant leaf.Unit) ts a.0 (le_refl 11)
                  (Word ParenLeft ∷ Word ParenRight ∷ [], first ∙ ap (λ u. Word ParenLeft ∷ u) (word_of ParenRight m a.0 a.1), inr (inr (inr (inl (refl, refl))))),
            )
        | inr q ↦
            elim (branch_of (r.begins_call m)
            (r.call n R m >>= λ x. if starts KwEvery x.2 then r.every n R x.0.0 x.0.1.0 x.0.1.1 x.1 x.2 else (applied x.0.0 x.0.1.0 x.0.1.1 >>= λ e. taller x.1 >>= λ h. r.climb n R n Expr Unary e h x.2 >>= λ y. r.group_from n R y.0 y.1 y.2))
            (R Expr m >>= λ y. r.group_from n R y.0 y.1 y.2) (Some z) q.1) [
              | inl s ↦
                  let a = some_of (r.call n R m) (λ x. if starts KwEvery x.2 then r.every n R x.0.0 x.0.1.0 x.0.1.1 x.1 x.2 else (applied x.0.0 x.0.1.0 x.0.1.1 >>= λ e. taller x.1 >>= λ h. r.climb n R n Expr Unary e h x.2 >>= λ y. r.group_from n R y.0 y.1 y.2)) z s.1 in
                  let loose = call_read m a.0 a.1 in
                  elim (branch_of (starts KwEvery a.0.2) (r.every n R a.0.0.0 a.0.0.1.0 a.0.0.1.1 a.0.1 a.0.2) (applied a.0.0.0 a.0.0.1.0 a.0.0.1.1 >>= λ e. taller a.0.1 >>= λ h. r.climb n R n Expr Unary e h a.0.2 >>= λ y. r.group_from n R y.0 y.1 y.2) (Some z) a.2) [
                    | inl t ↦ every_stands ts m first a.0.0.0 a.0.0.1.0 a.0.0.1.1 a.0.1 a.0.2 loose z t.1
                    | inr t ↦
                        let b = some_of (applied a.0.0.0 a.0.0.1.0 a.0.0.1.1) (λ e. taller a.0.1 >>= λ h. r.climb n R n Expr Unary e h a.0.2 >>= λ y. r.group_from n R y.0 y.1 y.2) z t.1 in
                        let c = some_of (taller a.0.1) (λ h. r.climb n R n Expr Unary b.0 h a.0.2 >>= λ y. r.group_from n R y.0 y.1 y.2) z b.2 in
                        let d = some_of (r.climb n R n Expr Unary b.0 c.0 a.0.2) (λ y. r.group_from n R y.0 y.1 y.2) z c.2 in
                        let s1 = applied_stands App (le_refl 10) a.0.0.0 a.0.0.1.0 a.0.0.1.1 b.0 a.0.1 c.0 m a.0.2 b.1 c.1 loose in
                        let s3 = looser Unary App nine_ten m (b.0, c.0, a.0.2) s1 in
                        let s2 = climb_stands Expr n m Unary (none_less 9) b.0 c.0 a.0.2 s3.0 (whole (λ D. IsExpr D Unary) m (b.0, c.0, a.0.2) s3) d.0 d.1 in
                        group_from_stands ts m first d.0.0 d.0.1 d.0.2 (whole (λ D. IsExpr D Expr) m d.0 s2) z d.2
                  ]
              | inr s ↦
                  let a = some_of (R Expr m) (λ y. r.group_from n R y.0 y.1 y.2) z s.1 in
                  group_from_stands ts m first a.0.0 a.0.1 a.0.2 ((sr Expr).reads m a.0 a.1) z a.2
            ]
      ]

  single_stands : (ts : List Token) (z : Got Tree) → r.single ts ≡ Some z → Stands (Next Atom) ts z
  unfolding r.single
  single_stands ts z read =
      let a = some_of (uncons ts) (λ p. simple p.0 >>= λ e. Some (e, 1, p.1)) z read in
      let b = some_of (simple a.0.0) (λ e. Some (e, 1, a.0.1)) z a.2 in
      give (Stands (Next Atom) ts) (b.0, 1, a.0.1) z b.2
      (le_refl 1, λ D le. at_rule D Atom Atom b.0 ts a.0.1 (le_refl 11) (a.0.0 ∷ [], cons_of ts a.0 a.1, inl (a.0.0, refl, b.1)))

  pub atom_stands : (ts : List Token) (z : Got Tree) → r.atom n R ts ≡ Some z → Stands (Next Atom) ts z
  unfolding r.atom
  atom_stands ts z read =
      elim (branch_of (starts ParenLeft ts) (word ParenLeft ts >>= r.group n R)
      (if starts KwLast ts then (word KwLast ts >>= λ m. name m >>= λ p. Some (node (form.Last p.0), 1, p.1))
      else if starts Question ts then (word Question ts >>= λ m. name m >>= λ p. Some (node (form.Asked p.0), 1, p.1))
      else r.single ts) (Some z) read) [
        | inl q ↦
            let a = some_of (word ParenLeft ts) (r.group n R) z q.1 in
            group_stands ts a.0 (word_of ParenLeft ts a.0 a.1) z a.2
        | inr q ↦
            elim (branch_of (starts KwLast ts) (word KwLast ts >>= λ m. name m >>= λ p. Some (node (form.Last p.0), 1, p.1))
            (if starts Question ts then (word Question ts >>= λ m. name m >>= λ p. Some (node (form.Asked p.0), 1, p.1)) else r.single ts) (Some z) q.1) [
              | inl s ↦
                  let a = some_of (word KwLast ts) (λ m. name m >>= λ p. Some (node (form.Last p.0), 1, p.1)) z s.1 in
                  let b = some_of (name a.0) (λ p. Some (node (form.Last p.0), 1, p.1)) z a.2 in
                  let x = node (form.Last b.0.0) in
                  give (Stands (Next Atom) ts) (x, 1, b.0.1) z b.2 (
                    le_refl 1,
                    λ D le. at_rule D Atom Atom x ts b.0.1 (le_refl 11)
                        (let a = (at_made (KwLast ▷ identifier) (λ x. node (form.Last x)) b.0.0 x ts b.0.1 refl
                        (at_word identifier KwLast b.0.0 ts a.0 b.0.1 (word_of KwLast ts a.0 a.1) (name_at a.0 b.0 b.1))) in (a.0, a.1, inr (inl a.2))),
                  )
              | inr s ↦
                  elim (branch_of (starts Question ts) (word Question ts >>= λ m. name m >>= λ p. Some (node (form.Asked p.0), 1, p.1)) (r.single ts) (Some z) s.1) [
                    | inl t ↦
                        let a = some_of (word Question ts) (λ m. name m >>= λ p. Some (node (form.Asked p.0), 1, p.1)) z t.1 in
                        let b = some_of (name a.0) (λ p. Some (node (form.Asked p.0), 1, p.1)) z a.2 in
                        let x = node (form.Asked b.0.0) in
                        give (Stands (Next Atom) ts) (x, 1, b.0.1) z b.2 (
                          le_refl 1,
                          λ D le. at_rule D Atom Atom x ts b.0.1 (le_refl 11)
                              (let a = (at_made (Question ▷ identifier) (λ x. node (form.Asked x)) b.0.0 x ts b.0.1 refl
                              (at_word identifier Question b.0.0 ts a.0 b.0.1 (word_of Question ts a.0 a.1) (name_at a.0 b.0 b.1))) in (a.0, a.1, inr (inr (inl a.2)))),
                        )
                    | inr t ↦ single_stands ts z t.1
                  ]
            ]
      ]

  application_at_stands : (t : Token) (m ts : List Token) → ts ≡ t ∷ m → (z : Got Tree) → r.application_at n R t m ts ≡ Some z → Stands (Next App) ts z
  application_at_stands (Prefix o) m ts is z read = prefixed_stands App (le_refl 10) o ts m is z read
  application_at_stands (Id x) m ts is z read = named_stands App (le_refl 10) ts z read
  application_at_stands (Word w) m ts is z read =
      elim (branch_of (is_word KwRun (Word w)) (r.named n R ts) (if is_word KwMerge (Word w) then (name m >>= λ p. r.merge n R p.0 p.1) else r.atom n R ts) (Some z) read) [
        | inl q ↦ named_stands App (le_refl 10) ts z q.1
        | inr q ↦
            elim (branch_of (is_word KwMerge (Word w)) (name m >>= λ p. r.merge n R p.0 p.1) (r.atom n R ts) (Some z) q.1) [
              | inl s ↦
                  let a = some_of (name m) (λ p. r.merge n R p.0 p.1) z s.1 in
                  merge_stands App (le_refl 10) ts m (is ∙ ap (λ u. u ∷ m) (word_one KwMerge (Word w) s.0)) a.0 a.1 z a.2
              | inr s ↦ looser App Atom (ten_eleven) ts z (atom_stands ts z s.1)
            ]
      ]
  application_at_stands (Cons x) m ts is z read = looser App Atom (ten_eleven) ts z (atom_stands ts z read)
  application_at_stands (Int x) m ts is z read = looser App Atom (ten_eleven) ts z (atom_stands ts z read)
  application_at_stands (Char x) m ts is z read = looser App Atom (ten_eleven) ts z (atom_stands ts z read)
  application_at_stands (Text x) m ts is z read = looser App Atom (ten_eleven) ts z (atom_stands ts z read)

  pub application_stands : (ts : List Token) (z : Got Tree) → r.application n R ts ≡ Some z → Stands (Next App) ts z
  unfolding r.application
  application_stands ts z read =
      let a = some_of (uncons ts) (λ p. r.application_at n R p.0 p.1 ts) z read in
      application_at_stands a.0.0 a.0.1 ts (cons_of ts a.0 a.1) z a.2

  prefix_stands : (w : Fixed) (f : Tree → Tree) → ((D : ℕ) (x : Tree) (ts m : List Token) → At ((w ▷ IsExpr D Unary) ⇒ f) x ts m → At (g.rule (IsExpr D) Unary) x ts m)
      → (ts : List Token) (z : Got Tree) → form_of f (behind w (R Unary)) ts ≡ Some z → Stands (Next Unary) ts z
  prefix_stands w f into ts z read =
      let s = (tall_form f (sound_behind w (sr Unary))).stands ts z read in
      (s.0, λ D le. at_rule D Unary Unary z.0 ts z.2 (le_refl 9) (into D z.0 ts z.2 (s.1 D le)))

  pub operand_stands : (ts : List Token) (z : Got Tree) → r.operand n R ts ≡ Some z → Stands (Next Unary) ts z
  unfolding r.operand
  operand_stands ts z read =
      elim (branch_of (starts Minus ts) (form_of (unary op.Neg) (behind Minus (R Unary)) ts)
      (if starts KwNot ts then form_of (unary op.Not) (behind KwNot (R Unary)) ts else if starts KwPre ts then form_of previous (behind KwPre (R Unary)) ts else r.application n R ts) (Some z) read) [
        | inl q ↦ prefix_stands Minus (unary op.Neg) (λ D x ts m a. (a.0, a.1, inl a.2)) ts z q.1
        | inr q ↦
            elim (branch_of (starts KwNot ts) (form_of (unary op.Not) (behind KwNot (R Unary)) ts) (if starts KwPre ts then form_of previous (behind KwPre (R Unary)) ts else r.application n R ts) (Some z) q.1) [
              | inl s ↦ prefix_stands KwNot (unary op.Not) (λ D x ts m a. (a.0, a.1, inr (inl a.2))) ts z s.1
              | inr s ↦
                  elim (branch_of (starts KwPre ts) (form_of previous (behind KwPre (R Unary)) ts) (r.application n R ts) (Some z) s.1) [
                    | inl t ↦ prefix_stands KwPre previous (λ D x ts m a. (a.0, a.1, inr (inr a.2))) ts z t.1
                    | inr t ↦ looser Unary App nine_ten ts z (application_stands ts z t.1)
                  ]
            ]
      ]

  climbing_stands : (l : Level) → rank l ≤ 9 → (ts : List Token) (z : Got Tree) → (r.operand n R ts >>= λ x. r.climb n R n l Unary x.0 x.1 x.2) ≡ Some z → Stands (Next l) ts z
  climbing_stands l low ts z read =
      let a = some_of (r.operand n R ts) (λ x. r.climb n R n l Unary x.0 x.1 x.2) z read in
      let s = operand_stands ts a.0 a.1 in
      climb_stands l n ts Unary low a.0.0 a.0.1 a.0.2 s.0 (whole (λ D. IsExpr D Unary) ts a.0 s) z a.2

  pub phrase_stands : (l : Level) (ts : List Token) (z : Got Tree) → r.phrase n R l ts ≡ Some z → Stands (Next l) ts z
  unfolding r.phrase
  phrase_stands Atom ts z read = atom_stands ts z read
  phrase_stands App ts z read = application_stands ts z read
  phrase_stands Expr ts z read =
      elim (branch_of (starts KwIf ts) (r.conditional n R ts) (r.operand n R ts >>= λ x. r.climb n R n Expr Unary x.0 x.1 x.2) (Some z) read) [
        | inl q ↦ (tall_rule Expr (r.conditional n R) conditional_stands Expr (le_refl 0)).stands ts z q.1
        | inr q ↦ climbing_stands Expr (none_less 9) ts z q.1
      ]
  phrase_stands level ts z read = climbing_stands level (omega arith) ts z read

-- What is read of an expression is one.
pub sound_expression : (n : ℕ) → 1 ≤ n → (depth : ℕ) (l : Level) → Sound Tree (r.expression n depth l) (λ D. IsExpr D l)
unfolding r.expression
sound_expression n pos zero l = record { reads = λ ts z e. absurd (none_some z e) }
sound_expression n pos (suc depth) l = record {
  reads = λ ts z e.
      whole (λ D. IsExpr D l) ts z (phrase_stands n pos (r.expression n depth) (sound_expression n pos depth) l ts z e);
}
