-- Each expression is read.
use Rattle.std.proofs.Common.{◌≡◌, ℕ, zero, suc, ◌+◌, ◌<◌, ◌≤◌, ◌⊎◌, inl, inr, Bool, true, false, List, [], ◌∷◌, ◌++◌, Option, Some, None, max, length, length-append, refl, sym, ◌∙◌, ap, subst, arith, if◌then◌else◌, unwrap_or}
use Rattle.std.specs.Prelude.{nat_lt, nat_eq, not, ◌&&◌}
use Rattle.std.specs.Option.{option_map}
use Rattle.std.proofs.lemmas.Bool.{eq-eqb, lt-ltb, le-ltb}
use Rattle.std.proofs.lemmas.Bool.Decides.{eqb_tells}
use Rattle.ls_ast.specs.declared.tree.Case.{Case}
use Rattle.ls_ast.specs.declared.tree.Case.TheVariants as case
use Rattle.ls_ast.specs.declared.tree.Form.TheVariants as form
use Rattle.ls_base.specs.declared.Name.{Name}
use Rattle.ls_lexer.specs.declared.token.Fixed.{Fixed}
use Rattle.ls_lexer.specs.declared.token.Fixed.TheVariants.{KwElse, KwEvery, KwFalse, KwIf, KwLast, KwMerge, KwMod, KwNot, KwOr, KwPre, KwRun, KwThen, KwTrue, KwXor, ParenLeft, ParenRight, Comma, Equal, Differ, Less, LessEq, Greater, GreaterEq, Plus, Minus, Star, Slash, Ampersand, Arrow, Question}
use Rattle.ls_lexer.specs.declared.token.Token.{Token}
use Rattle.ls_lexer.specs.declared.token.Token.TheVariants.{Fixed as Word, Id, Cons, Int, Char, Text, Prefix}
use Rattle.ls_ops.specs.declared.kinds.Op.{Op}
use Rattle.ls_ops.specs.declared.kinds.Op.TheVariants as op
use Rattle.ls_value.specs.declared.leaf.Leaf.TheVariants as leaf
use Rattle.ls_parser.specs.declared.level.Level.{Level}
use Rattle.ls_parser.specs.declared.level.Level.TheVariants.{Expr, Init, Delay, Samp, Disj, Conj, Comp, Sum, Prod, Unary, App, Atom}
use Rattle.ls_parser.specs.declared.level.Infix.{Infix}
use Rattle.ls_parser.specs.declared.level.Infix.TheVariants as between
use Rattle.ls_parser.specs.Levels.{rank, left, right, infix_of, level_of}
use Rattle.ls_parser.specs.Making.{Tree, node, constant, chosen, unary, binary, previous, applied, called, merged, operands, simple, truth}
use Rattle.ls_parser.specs.Notation.{Phrase, ◌▷◌, ◌◁◌, ◌⊗◌, ◌⇒◌, many, some, identifier, constructor}
use Rattle.ls_parser.specs.Grammar as g
use Rattle.ls_parser.specs.Grammar.{IsExpr}
use Rattle.ls_parser.specs.Reading.{Reader, ◌>>=◌, uncons, is_word, starts, word, name, constructor as constructor_read, taller, behind, form_of, collect}
use Rattle.ls_parser.specs.Expressions as r
use Rattle.ls_parser.proofs.Front.{At, Got, true_false, some_of, some_one, none_some, word_one, le_refl, le_trans}
use Rattle.ls_parser.proofs.Parts.{of_word, of_end, of_both, of_made, of_more, not_longer, one_longer, then_some, if_yes, if_no, itself, word_reads, starts_yes, starts_no, name_reads, constructor_reads, taller_reads, max_le, suc_le, Sure, sure_behind, sure_both, sure_form, row_found, row_short}
use Rattle.ls_parser.proofs.SoundExpr.{infix_first, between_at}

-- no operator goes on from a phrase of a level, and no atom begins
abbrev pub Quiet : Level → List Token → Type 0
Quiet l m = (r.begins_atom m ≡ false) × ((p : Infix × List Token) → r.infix_at m ≡ Some p → rank (level_of p.0) < rank l)

-- what may follow a phrase of a level
abbrev pub Follow : Level → List Token → Type 0
Follow Atom m = Unit {0}
Follow l m = Quiet l m

no_infix : (w : Fixed) (m k : List Token) → infix_of w ≡ None → m ≡ Word w ∷ k → r.infix_at m ≡ None
unfolding r.infix_at
no_infix w m k none is = ap r.infix_at is ∙ ap (λ o. o >>= λ o. Some (o, k)) none

pub quiet_word : (w : Fixed) → r.opens w ≡ false → infix_of w ≡ None → (l : Level) (m k : List Token) → m ≡ Word w ∷ k → Quiet l m
unfolding r.begins_atom
quiet_word w closed none l m k is = (ap r.begins_atom is ∙ closed, λ p e. absurd (none_some p (sym (no_infix w m k none is) ∙ e)))

pub quiet_follow : (l : Level) (m : List Token) → Quiet l m → Follow l m
quiet_follow Atom m q = tt
quiet_follow _ m q = q

-- a token that begins an atom is no word that does not
not_opening : (w : Fixed) (t : Token) → r.opens w ≡ false → r.opens_atom t ≡ true → is_word w t ≡ false
not_opening w (Word v) closed e = which (is_word w (Word v)) refl
  where
    which : (b : Bool) → is_word w (Word v) ≡ b → is_word w (Word v) ≡ false
    which true is = absurd (true_false (sym e ∙ ap r.opens_atom (word_one w (Word v) is) ∙ closed))
    which false is = is
not_opening w (Id x) closed e = refl
not_opening w (Cons x) closed e = refl
not_opening w (Int x) closed e = refl
not_opening w (Char x) closed e = refl
not_opening w (Text x) closed e = refl
not_opening w (Prefix x) closed e = refl

not_simple : (w : Fixed) (t : Token) (x : Tree) → truth w ≡ None → simple t ≡ Some x → is_word w t ≡ false
not_simple w (Word v) x none e = which (is_word w (Word v)) refl
  where
    which : (b : Bool) → is_word w (Word v) ≡ b → is_word w (Word v) ≡ false
    which true is = absurd (none_some x (sym (ap (option_map (λ b. constant (leaf.Bool b))) none) ∙ sym (ap simple (word_one w (Word v) is)) ∙ e))
    which false is = is
not_simple w (Id y) x none e = refl
not_simple w (Cons y) x none e = refl
not_simple w (Int y) x none e = refl
not_simple w (Char y) x none e = refl
not_simple w (Text y) x none e = refl
not_simple w (Prefix y) x none e = refl

simple_opens : (t : Token) (x : Tree) → simple t ≡ Some x → r.opens_atom t ≡ true
simple_opens (Word KwTrue) x e = refl
simple_opens (Word KwFalse) x e = refl
simple_opens (Word _) x e = absurd (none_some x e)
simple_opens (Prefix o) x e = absurd (none_some x e)
simple_opens (Id y) x e = refl
simple_opens (Cons y) x e = refl
simple_opens (Int y) x e = refl
simple_opens (Char y) x e = refl
simple_opens (Text y) x e = refl

-- an atom begins with a token that begins atoms
atom_first : (S : Level → Phrase Tree) (x : Tree) (u : List Token) → g.rule S Atom x u → (t : Token) × (l : List Token) × (u ≡ t ∷ l) × (r.opens_atom t ≡ true)
atom_first S x u (inl a) = (a.0, [], a.1, simple_opens a.0 x a.2)
atom_first S x u (inr (inl a)) = (Word KwLast, a.2.0, a.2.1, refl)
atom_first S x u (inr (inr (inl a))) = (Word Question, a.2.0, a.2.1, refl)
atom_first S x u (inr (inr (inr (inl a)))) = (Word ParenLeft, Word ParenRight ∷ [], a.1, refl)
atom_first S x u (inr (inr (inr (inr (inl a))))) = (Word ParenLeft, a.0, a.1, refl)
atom_first S x u (inr (inr (inr (inr (inr (inl a)))))) = (Word ParenLeft, a.2.0, a.2.1, refl)
atom_first S x u (inr (inr (inr (inr (inr (inr a)))))) = (Word ParenLeft, a.2.0, a.2.1, refl)

only_atom : (k : Level) → 11 ≤ rank k → k ≡ Atom
only_atom Atom le = refl
only_atom Expr le = absurd (omega arith)
only_atom Init le = absurd (omega arith)
only_atom Delay le = absurd (omega arith)
only_atom Samp le = absurd (omega arith)
only_atom Disj le = absurd (omega arith)
only_atom Conj le = absurd (omega arith)
only_atom Comp le = absurd (omega arith)
only_atom Sum le = absurd (omega arith)
only_atom Prod le = absurd (omega arith)
only_atom Unary le = absurd (omega arith)
only_atom App le = absurd (omega arith)

atom_head : (D : ℕ) (x : Tree) (u : List Token) → IsExpr D Atom x u → (t : Token) × (l : List Token) × (u ≡ t ∷ l) × (r.opens_atom t ≡ true)
atom_head zero x u a = absurd a
atom_head (suc D) x u a = atom_first (IsExpr D) x u (subst (λ k. g.rule (IsExpr D) k x u) (only_atom a.0 a.1) a.2)

pub atom_begins : (D : ℕ) (x : Tree) (ts m : List Token) → At (IsExpr D Atom) x ts m → r.begins_atom ts ≡ true
unfolding r.begins_atom
atom_begins D x ts m a = let b = atom_head D x a.0 a.2 in ap r.begins_atom (a.1 ∙ ap (λ u. u ++ m) b.2) ∙ b.3

pub atom_takes : (D : ℕ) (x : Tree) (ts m : List Token) → At (IsExpr D Atom) x ts m → length m + 1 ≤ length ts
atom_takes D x ts m a =
    let b = atom_head D x a.0 a.2 in
    let e : length ts ≡ length a.0 + length m = ap length a.1 ∙ length-append a.0 m in
    let f = one_longer b.0 a.0 b.1 b.2 in
    omega arith

pub rest_few : (n : ℕ) (t : Token) (ts m : List Token) → ts ≡ t ∷ m → length ts ≤ n → length m ≤ n
rest_few n t ts m is few = let e = one_longer t ts m is in omega arith

-- where a name or `run` stands first, the operand is a call or a name
call_phrase : (n : ℕ) (R : Level → Reader Tree) (l : List Token) → r.begins_call l ≡ true → r.phrase n R Expr l ≡ (r.named n R l >>= λ x. r.climb n R n Expr Unary x.0 x.1 x.2)
unfolding r.begins_call r.phrase r.operand r.application starts
call_phrase n R [] e = absurd (true_false (sym e))
call_phrase n R (Id x ∷ l) e = refl
call_phrase n R (Word w ∷ l) e = subst (λ t. r.phrase n R Expr (t ∷ l) ≡ (r.named n R (t ∷ l) >>= λ x. r.climb n R n Expr Unary x.0 x.1 x.2)) (sym (word_one KwRun (Word w) e)) refl
call_phrase n R (Cons x ∷ l) e = absurd (true_false (sym e))
call_phrase n R (Int x ∷ l) e = absurd (true_false (sym e))
call_phrase n R (Char x ∷ l) e = absurd (true_false (sym e))
call_phrase n R (Text x ∷ l) e = absurd (true_false (sym e))
call_phrase n R (Prefix x ∷ l) e = absurd (true_false (sym e))

no_phrase : (n : ℕ) (R : Level → Reader Tree) (l : List Token) → r.phrase n R Expr (Word ParenRight ∷ l) ≡ None
unfolding r.phrase r.operand r.application r.atom r.single starts
no_phrase n R l = refl

-- where no operator follows, climbing ends
climb_ends : (n : ℕ) (R : Level → Reader Tree) (k : ℕ) (least from : Level) (e : Tree) (h : ℕ) (ts : List Token) → ((p : Infix × List Token) → r.infix_at ts ≡ Some p → rank (level_of p.0) < rank least) → r.climb n R k least from e h ts ≡ Some (e, h, ts)
climb_ends n R zero least from e h ts quiet = refl
climb_ends n R (suc k) least from e h ts quiet = ended (r.infix_at ts) quiet
  where
    stays : (a b c d : ℕ) → a < b → (not (nat_lt a b) && not (nat_lt c d)) ≡ false
    stays a b c d less = ap (λ t. not t && not (nat_lt c d)) (lt-ltb a b less)

    ended : (o : Option (Infix × List Token)) → ((p : Infix × List Token) → o ≡ Some p → rank (level_of p.0) < rank least)
        → unwrap_or (option_map (λ p. if r.goes_on least from p.0 then (r.suffix n R p.0 e h p.1 >>= λ x. r.climb n R k least (level_of p.0) x.0 x.1 x.2) else Some (e, h, ts)) o) (Some (e, h, ts)) ≡ Some (e, h, ts)
    ended None quiet = refl
    ended (Some p) quiet = if_no (r.goes_on least from p.0) (r.suffix n R p.0 e h p.1 >>= λ x. r.climb n R k least (level_of p.0) x.0 x.1 x.2) (Some (e, h, ts)) (Some (e, h, ts))
        (stays (rank (level_of p.0)) (rank least) (rank from) (rank (left (level_of p.0))) (quiet p refl)) refl

-- what may follow what stands right of an operator
abbrev pub Ready : Infix → List Token → Type 0
Ready between.Init m = Quiet Expr m
Ready between.Fby m = Quiet Delay m
Ready between.When m = Unit {0}
Ready between.Whenot m = Unit {0}
Ready (between.Binary l o) m = Follow (right l) m

module _ (n d : ℕ) (small : suc d ≤ 200) (R : Level → Reader Tree) (ih : (l : Level) → Sure Tree n d (R l) (IsExpr d l) (Follow l)) (inner : Sure Tree n d (r.phrase n R Expr) (IsExpr d Expr) (Quiet Expr)) where
  abbrev pub Found : Reader Tree → Tree → List Token → List Token → Type 0
  Found read x ts m = (h : ℕ) × (h ≤ suc d) × (read ts ≡ Some (x, h, m))

  one_low : 1 ≤ suc d
  one_low = omega arith

  pub conditional_found : (ts m : List Token) (x : Tree) → length ts ≤ n → Quiet Expr m → At (g.rule (IsExpr d) Expr) x ts m → Found (r.conditional n R) x ts m
  unfolding r.conditional
  conditional_found ts m x few quiet a =
      (sure_form chosen small (sure_behind KwIf (sure_both (ih Expr) (sure_behind KwThen (sure_both (ih Expr) (sure_behind KwElse (ih Expr))
      (λ x ts m a. let b = of_word (IsExpr d Expr) KwElse x ts m a in quiet_word KwElse refl refl Expr ts b.0 b.1)))
      (λ x ts m a. let b = of_word (IsExpr d Expr ⊗ (KwElse ▷ IsExpr d Expr)) KwThen x ts m a in quiet_word KwThen refl refl Expr ts b.0 b.1)))).finds ts m x few quiet a

  pub arguments_found : (limit : ℕ) (xs : List Tree) (ts m : List Token) → length xs ≤ limit → (length xs ≡ limit) ⊎ (r.begins_atom m ≡ false) → length ts ≤ n → At (many (IsExpr d Atom)) xs ts m
      → (h : ℕ) × (h ≤ d) × (r.arguments n R limit ts ≡ Some (xs, h, m))
  unfolding r.arguments
  arguments_found limit xs ts m le stop few a =
      row_found n d r.begins_atom (R Atom) (IsExpr d Atom) (Follow Atom) (ih Atom) (λ x ts m a. atom_begins d x ts m a) (λ x ts m a. tt) limit [] xs 0 ts m le stop (none_less d) few tt a
    where
      none_less : (d : ℕ) → 0 ≤ d
      none_less d = omega arith

  arguments_all : (xs : List Tree) (ts m : List Token) → r.begins_atom m ≡ false → length ts ≤ n → At (many (IsExpr d Atom)) xs ts m → (h : ℕ) × (h ≤ d) × (r.arguments n R n ts ≡ Some (xs, h, m))
  arguments_all xs ts m closed few a =
      arguments_found n xs ts m (le_trans (length xs) (length ts) n (row_short n d r.begins_atom (R Atom) (IsExpr d Atom) (Follow Atom) (ih Atom) (λ x ts m a. atom_begins d x ts m a) (λ x ts m a. tt) (λ x ts m a. atom_takes d x ts m a) xs ts m a) few) (inr closed) few a

  -- a name and atoms, or none
  plain_call : (f : Name) (xs : List Tree) (ts m : List Token) → r.begins_atom m ≡ false → length ts ≤ n → At (identifier ⊗ many (IsExpr d Atom)) (f, xs) ts m
      → (h : ℕ) × (h ≤ d) × (r.call n R ts ≡ Some ((false, (f, xs)), h, m)) × (r.begins_call ts ≡ true) × (l : List Token) × (ts ≡ Id f ∷ l)
  unfolding r.call r.begins_call
  plain_call f xs ts m closed few a =
      let b = of_both identifier (many (IsExpr d Atom)) (f, xs) ts m a in
      let first : ts ≡ Id f ∷ b.0 = b.1.1 ∙ ap (λ u. u ++ b.0) b.1.2 in
      let c = arguments_all xs b.0 m closed (rest_few n (Id f) ts b.0 first few) b.2 in (
        c.0,
        c.1,
        if_no (starts KwRun ts) (word KwRun ts >>= λ m. name m >>= λ p. r.arguments n R n p.1 >>= λ x. Some ((true, (p.0, x.0)), x.1, x.2)) (name ts >>= λ p. r.arguments n R n p.1 >>= λ x. Some ((false, (p.0, x.0)), x.1, x.2)) (Some ((false, (f, xs)), c.0, m))
            (starts_no KwRun (Id f) ts b.0 first refl)
            (then_some (λ p. r.arguments n R n p.1 >>= λ x. Some ((false, (p.0, x.0)), x.1, x.2)) (name ts) (f, b.0) (Some ((false, (f, xs)), c.0, m)) (name_reads f ts b.0 b.1)
            (then_some (λ x. Some ((false, (f, x.0)), x.1, x.2)) (r.arguments n R n b.0) (xs, c.0, m) (Some ((false, (f, xs)), c.0, m)) c.2 refl)),
        ap r.begins_call first,
        b.0,
        first,
      )

  run_call : (f : Name) (xs : List Tree) (ts m : List Token) → r.begins_atom m ≡ false → length ts ≤ n → At (KwRun ▷ (identifier ⊗ many (IsExpr d Atom))) (f, xs) ts m
      → (h : ℕ) × (h ≤ d) × (r.call n R ts ≡ Some ((true, (f, xs)), h, m)) × (r.begins_call ts ≡ true) × (l : List Token) × (ts ≡ Word KwRun ∷ l)
  unfolding r.call r.begins_call
  run_call f xs ts m closed few a =
      let w = of_word (identifier ⊗ many (IsExpr d Atom)) KwRun (f, xs) ts m a in
      let b = of_both identifier (many (IsExpr d Atom)) (f, xs) w.0 m w.2 in
      let first : w.0 ≡ Id f ∷ b.0 = b.1.1 ∙ ap (λ u. u ++ b.0) b.1.2 in
      let c = arguments_all xs b.0 m closed (rest_few n (Id f) w.0 b.0 first (rest_few n (Word KwRun) ts w.0 w.1 few)) b.2 in (
        c.0,
        c.1,
        if_yes (starts KwRun ts) (word KwRun ts >>= λ m. name m >>= λ p. r.arguments n R n p.1 >>= λ x. Some ((true, (p.0, x.0)), x.1, x.2)) (name ts >>= λ p. r.arguments n R n p.1 >>= λ x. Some ((false, (p.0, x.0)), x.1, x.2)) (Some ((true, (f, xs)), c.0, m))
            (starts_yes KwRun ts w.0 w.1)
            (then_some (λ m. name m >>= λ p. r.arguments n R n p.1 >>= λ x. Some ((true, (p.0, x.0)), x.1, x.2)) (word KwRun ts) w.0 (Some ((true, (f, xs)), c.0, m)) (word_reads KwRun ts w.0 w.1)
            (then_some (λ p. r.arguments n R n p.1 >>= λ x. Some ((true, (p.0, x.0)), x.1, x.2)) (name w.0) (f, b.0) (Some ((true, (f, xs)), c.0, m)) (name_reads f w.0 b.0 b.1)
            (then_some (λ x. Some ((true, (f, x.0)), x.1, x.2)) (r.arguments n R n b.0) (xs, c.0, m) (Some ((true, (f, xs)), c.0, m)) c.2 refl))),
        ap r.begins_call w.1 ∙ itself KwRun,
        w.0,
        w.1,
      )

  -- a name that is applied to at least one atom
  abbrev pub CallFound : Bool × (Name × List Tree) → List Token → List Token → Type 0
  CallFound c ts m = (h : ℕ) × (h ≤ d) × (r.call n R ts ≡ Some (c, h, m)) × (r.begins_call ts ≡ true) × (x : Tree) × (xs : List Tree) × (c.1.1 ≡ x ∷ xs)

  some_many : (f : Name) (xs : List Tree) (ts m : List Token) → At (identifier ⊗ some (IsExpr d Atom)) (f, xs) ts m → At (identifier ⊗ many (IsExpr d Atom)) (f, xs) ts m × ((x : Tree) × (ys : List Tree) × (xs ≡ x ∷ ys))
  some_many f [] ts m a = absurd a.2.4
  some_many f (x ∷ xs) ts m a = (a, (x, xs, refl))

  pub call_found : (c : Bool × (Name × List Tree)) (ts m : List Token) → r.begins_atom m ≡ false → length ts ≤ n → At (g.call (IsExpr d)) c ts m → CallFound c ts m
  call_found c ts m closed few a = which a.2
    where
      which : g.call (IsExpr d) c a.0 → CallFound c ts m
      which (inl b) =
          let s = some_many b.0.0 b.0.1 ts m (a.0, a.1, b.2) in
          let p = plain_call b.0.0 b.0.1 ts m closed few s.0 in
          (p.0, p.1, p.2 ∙ (λ i. Some (sym b.1 i, p.0, m)), p.3, s.1.0, s.1.1, (λ i. (b.1 i).1.1) ∙ s.1.2)
      which (inr b) =
          let w = of_word (identifier ⊗ some (IsExpr d Atom)) KwRun b.0 ts m (a.0, a.1, b.2) in
          let s = some_many b.0.0 b.0.1 w.0 m w.2 in
          let back : At (KwRun ▷ (identifier ⊗ many (IsExpr d Atom))) (b.0.0, b.0.1) ts m = (Word KwRun ∷ s.0.0, w.1 ∙ ap (λ u. Word KwRun ∷ u) s.0.1, (s.0.0, refl, s.0.2)) in
          let p = run_call b.0.0 b.0.1 ts m closed few back in
          (p.0, p.1, p.2 ∙ (λ i. Some (sym b.1 i, p.0, m)), p.3, s.1.0, s.1.1, (λ i. (b.1 i).1.1) ∙ s.1.2)

  applied_some : (run : Bool) (f : Name) (xs : List Tree) (x : Tree) (ys : List Tree) → xs ≡ x ∷ ys → applied run f xs ≡ Some (called None (run, (f, xs)))
  applied_some true f xs x ys e = subst (λ xs. applied true f xs ≡ Some (called None (true, (f, xs)))) (sym e) refl
  applied_some false f xs x ys e = subst (λ xs. applied false f xs ≡ Some (called None (false, (f, xs)))) (sym e) refl

  named_found : (c : Bool × (Name × List Tree)) (ts m : List Token) → CallFound c ts m → Found (r.named n R) (called None c) ts m
  unfolding r.named
  named_found c ts m f = (
    f.0 + 1,
    suc_le f.0 d f.1,
    then_some (λ x. applied x.0.0 x.0.1.0 x.0.1.1 >>= λ e. taller x.1 >>= λ h. Some (e, h, x.2)) (r.call n R ts) (c, f.0, m) (Some (called None c, f.0 + 1, m)) f.2
        (then_some (λ e. taller f.0 >>= λ h. Some (e, h, m)) (applied c.0 c.1.0 c.1.1) (called None c) (Some (called None c, f.0 + 1, m)) (applied_some c.0 c.1.0 c.1.1 f.4 f.5 f.6)
        (then_some (λ h. Some (called None c, h, m)) (taller f.0) (f.0 + 1) (Some (called None c, f.0 + 1, m)) (taller_reads f.0 d f.1 small) refl)),
  )

  call_application : (ts : List Token) → r.begins_call ts ≡ true → r.application n R ts ≡ r.named n R ts
  unfolding r.begins_call r.application
  call_application [] e = absurd (true_false (sym e))
  call_application (Id x ∷ l) e = refl
  call_application (Word w ∷ l) e = subst (λ t. r.application n R (t ∷ l) ≡ r.named n R (t ∷ l)) (sym (word_one KwRun (Word w) e)) refl
  call_application (Cons x ∷ l) e = absurd (true_false (sym e))
  call_application (Int x ∷ l) e = absurd (true_false (sym e))
  call_application (Char x ∷ l) e = absurd (true_false (sym e))
  call_application (Text x ∷ l) e = absurd (true_false (sym e))
  call_application (Prefix x ∷ l) e = absurd (true_false (sym e))

  -- operators that are words before their operands
  prefixed_found : (x : Tree) (ts m : List Token) → length ts ≤ n → At (g.prefixed (IsExpr d)) x ts m → Found (r.application n R) x ts m
  unfolding r.application r.prefixed
  prefixed_found x ts m few a =
      let o = a.2.0 in
      let xs = a.2.1 in
      let l = a.2.2 ++ m in
      let first : ts ≡ Prefix o ∷ l = a.1 ∙ ap (λ u. u ++ m) a.2.3 in
      let le : length xs ≤ operands o = subst (λ k. length xs ≤ k) a.2.4 (le_refl (length xs)) in
      let c = arguments_found (operands o) xs l m le (inl a.2.4) (rest_few n (Prefix o) ts l first few) (a.2.2, refl, a.2.5) in (
        c.0 + 1,
        suc_le c.0 d c.1,
        ap (r.application n R) first
            ∙ then_some (λ x. if nat_eq (length x.0) (operands o) then (taller x.1 >>= λ h. Some (node (form.Op o x.0), h, x.2)) else None) (r.arguments n R (operands o) l) (xs, c.0, m) (Some (x, c.0 + 1, m)) c.2
            (if_yes (nat_eq (length xs) (operands o)) (taller c.0 >>= λ h. Some (node (form.Op o xs), h, m)) None (Some (x, c.0 + 1, m)) (eq-eqb (length xs) (operands o) a.2.4)
            (then_some (λ h. Some (node (form.Op o xs), h, m)) (taller c.0) (c.0 + 1) (Some (x, c.0 + 1, m)) (taller_reads c.0 d c.1 small) (λ i. Some (sym a.2.6 i, c.0 + 1, m)))),
      )

  -- branches of a merge
  branch_sure : Sure (Case × Tree) n d (r.branch n R) (g.branch (IsExpr d)) (λ m. Unit {0})
  unfolding r.branch
  branch_sure = record {
    finds = λ ts m x few follow a.
        let made = of_made (ParenLeft ▷ (constructor ⊗ (Arrow ▷ (IsExpr d Expr ◁ ParenRight)))) (λ p. (case.Of p.0, p.1)) x ts m a in
        let p = made.0 in
        let b1 = of_word (constructor ⊗ (Arrow ▷ (IsExpr d Expr ◁ ParenRight))) ParenLeft p ts m made.2 in
        let b2 = of_both constructor (Arrow ▷ (IsExpr d Expr ◁ ParenRight)) p b1.0 m b1.2 in
        let b3 = of_word (IsExpr d Expr ◁ ParenRight) Arrow p.1 b2.0 m b2.2 in
        let b4 = of_end (IsExpr d Expr) ParenRight p.1 b3.0 m b3.2 in
        let few1 = rest_few n (Word ParenLeft) ts b1.0 b1.1 few in
        let few2 = le_trans (length b2.0) (length b1.0) n (not_longer constructor p.0 b1.0 b2.0 b2.1) few1 in
        let few3 = rest_few n (Word Arrow) b2.0 b3.0 b3.1 few2 in
        let e = (ih Expr).finds b3.0 (Word ParenRight ∷ m) p.1 few3 (quiet_word ParenRight refl refl Expr (Word ParenRight ∷ m) m refl) b4 in (
          e.0,
          e.1,
          then_some (λ m. constructor_read m >>= λ p. word Arrow p.1 >>= λ m. R Expr m >>= λ x. word ParenRight x.2 >>= λ m. Some ((case.Of p.0, x.0), x.1, m)) (word ParenLeft ts) b1.0 (Some (x, e.0, m)) (word_reads ParenLeft ts b1.0 b1.1)
              (then_some (λ p. word Arrow p.1 >>= λ m. R Expr m >>= λ x. word ParenRight x.2 >>= λ m. Some ((case.Of p.0, x.0), x.1, m)) (constructor_read b1.0) (p.0, b2.0) (Some (x, e.0, m)) (constructor_reads p.0 b1.0 b2.0 b2.1)
              (then_some (λ m. R Expr m >>= λ x. word ParenRight x.2 >>= λ m. Some ((case.Of p.0, x.0), x.1, m)) (word Arrow b2.0) b3.0 (Some (x, e.0, m)) (word_reads Arrow b2.0 b3.0 b3.1)
              (then_some (λ x. word ParenRight x.2 >>= λ m. Some ((case.Of p.0, x.0), x.1, m)) (R Expr b3.0) (p.1, e.0, Word ParenRight ∷ m) (Some (x, e.0, m)) e.2
              (then_some (λ m. Some ((case.Of p.0, p.1), e.0, m)) (word ParenRight (Word ParenRight ∷ m)) m (Some (x, e.0, m)) (word_reads ParenRight (Word ParenRight ∷ m) m refl) (λ i. Some (sym made.1 i, e.0, m)))))),
        );
  }

  branch_begins : (x : Case × Tree) (ts m : List Token) → At (g.branch (IsExpr d)) x ts m → r.begins_branch ts ≡ true
  unfolding r.begins_branch starts
  branch_begins x ts m a =
      let made = of_made (ParenLeft ▷ (constructor ⊗ (Arrow ▷ (IsExpr d Expr ◁ ParenRight)))) (λ p. (case.Of p.0, p.1)) x ts m a in
      let p = made.0 in
      let b1 = of_word (constructor ⊗ (Arrow ▷ (IsExpr d Expr ◁ ParenRight))) ParenLeft p ts m made.2 in
      let b2 = of_both constructor (Arrow ▷ (IsExpr d Expr ◁ ParenRight)) p b1.0 m b1.2 in
      let b3 = of_word (IsExpr d Expr ◁ ParenRight) Arrow p.1 b2.0 m b2.2 in
      ap r.begins_branch (b1.1 ∙ ap (λ u. Word ParenLeft ∷ u) (b2.1.1 ∙ ap (λ u. u ++ b2.0) b2.1.2 ∙ ap (λ u. Cons p.0 ∷ u) b3.1))

  branch_takes : (x : Case × Tree) (ts m : List Token) → At (g.branch (IsExpr d)) x ts m → length m + 1 ≤ length ts
  branch_takes x ts m a =
      let made = of_made (ParenLeft ▷ (constructor ⊗ (Arrow ▷ (IsExpr d Expr ◁ ParenRight)))) (λ p. (case.Of p.0, p.1)) x ts m a in
      let b1 = of_word (constructor ⊗ (Arrow ▷ (IsExpr d Expr ◁ ParenRight))) ParenLeft made.0 ts m made.2 in
      let e = one_longer (Word ParenLeft) ts b1.0 b1.1 in
      let l = not_longer (constructor ⊗ (Arrow ▷ (IsExpr d Expr ◁ ParenRight))) made.0 b1.0 m b1.2 in
      omega arith

  closed_word : (t : Token) → r.opens_atom t ≡ false → is_word ParenLeft t ≡ false
  closed_word (Word v) e = which (is_word ParenLeft (Word v)) refl
    where
      which : (b : Bool) → is_word ParenLeft (Word v) ≡ b → is_word ParenLeft (Word v) ≡ false
      which true is = absurd (true_false (sym (ap r.opens_atom (word_one ParenLeft (Word v) is)) ∙ e))
      which false is = is
  closed_word (Id x) e = refl
  closed_word (Cons x) e = refl
  closed_word (Int x) e = refl
  closed_word (Char x) e = refl
  closed_word (Text x) e = refl
  closed_word (Prefix x) e = refl

  closed_branch : (m : List Token) → r.begins_atom m ≡ false → r.begins_branch m ≡ false
  unfolding r.begins_atom r.begins_branch
  closed_branch [] e = refl
  closed_branch (t ∷ m) e = ap (λ b. b && r.begins_case m) (closed_word t e)

  branches_found : (xs : List (Case × Tree)) (ts m : List Token) → r.begins_atom m ≡ false → length ts ≤ n → At (some (g.branch (IsExpr d))) xs ts m → (r.begins_branch ts ≡ true) × ((h : ℕ) × (h ≤ d) × (r.branches n R ts ≡ Some (xs, h, m)))
  unfolding r.branches
  branches_found [] ts m closed few a = absurd a.2
  branches_found (x ∷ xs) ts m closed few a =
      let b = of_more (g.branch (IsExpr d)) x xs ts m a in
      let c = branch_sure.finds ts b.0 x few tt b.1 in
      let few2 = le_trans (length b.0) (length ts) n (not_longer (g.branch (IsExpr d)) x ts b.0 b.1) few in
      let short = row_short n d r.begins_branch (r.branch n R) (g.branch (IsExpr d)) (λ m. Unit {0}) branch_sure branch_begins (λ x ts m a. tt) branch_takes xs b.0 m b.2 in
      let e = row_found n d r.begins_branch (r.branch n R) (g.branch (IsExpr d)) (λ m. Unit {0}) branch_sure branch_begins (λ x ts m a. tt) n (x ∷ []) xs c.0 b.0 m (le_trans (length xs) (length b.0) n short few2) (inr (closed_branch m closed)) c.1 few2 tt b.2 in
      (branch_begins x ts b.0 b.1, (e.0, e.1, then_some (λ b. collect n r.begins_branch (r.branch n R) (b.0 ∷ []) b.1 b.2) (r.branch n R ts) (x, c.0, b.0) (Some (x ∷ xs, e.0, m)) c.2 e.2))

  merge_found : (x : Tree) (ts m : List Token) → r.begins_atom m ≡ false → length ts ≤ n → At ((KwMerge ▷ (identifier ⊗ some (g.branch (IsExpr d)))) ⇒ (λ p. node (form.Merge p.0 p.1))) x ts m → Found (r.application n R) x ts m
  unfolding r.application r.merge
  merge_found x ts m closed few a =
      let made = of_made (KwMerge ▷ (identifier ⊗ some (g.branch (IsExpr d)))) (λ p. node (form.Merge p.0 p.1)) x ts m a in
      let p = made.0 in
      let b1 = of_word (identifier ⊗ some (g.branch (IsExpr d))) KwMerge p ts m made.2 in
      let b2 = of_both identifier (some (g.branch (IsExpr d))) p b1.0 m b1.2 in
      let few1 = rest_few n (Word KwMerge) ts b1.0 b1.1 few in
      let few2 = le_trans (length b2.0) (length b1.0) n (not_longer identifier p.0 b1.0 b2.0 b2.1) few1 in
      let c = branches_found p.1 b2.0 m closed few2 b2.2 in (
        c.1.0 + 1,
        suc_le c.1.0 d c.1.1,
        ap (r.application n R) b1.1
            ∙ then_some (λ p. r.merge n R p.0 p.1) (name b1.0) (p.0, b2.0) (Some (x, c.1.0 + 1, m)) (name_reads p.0 b1.0 b2.0 b2.1)
            (if_yes (r.begins_branch b2.0) (r.branches n R b2.0 >>= λ bs. taller bs.1 >>= λ h. Some (node (form.Merge p.0 bs.0), h, bs.2))
            (R Atom b2.0 >>= λ a. if r.begins_branch a.2 then None else (R Atom a.2 >>= λ b. taller (max a.1 b.1) >>= λ h. Some (merged p.0 a.0 b.0, h, b.2))) (Some (x, c.1.0 + 1, m)) c.0
            (then_some (λ bs. taller bs.1 >>= λ h. Some (node (form.Merge p.0 bs.0), h, bs.2)) (r.branches n R b2.0) (p.1, c.1.0, m) (Some (x, c.1.0 + 1, m)) c.1.2
            (then_some (λ h. Some (node (form.Merge p.0 p.1), h, m)) (taller c.1.0) (c.1.0 + 1) (Some (x, c.1.0 + 1, m)) (taller_reads c.1.0 d c.1.1 small) (λ i. Some (sym made.1 i, c.1.0 + 1, m))))),
      )

  heads : (t u : Token) (ts us : List Token) → t ∷ ts ≡ u ∷ us → t ≡ u
  heads t u ts us e = cc

  tails : (t u : Token) (ts us : List Token) → t ∷ ts ≡ u ∷ us → ts ≡ us
  tails t u ts us e = cc

  not_last : Word ParenLeft ≡ Word KwLast → ⊥
  not_last e = cc

  not_question : Word ParenLeft ≡ Word Question → ⊥
  not_question e = cc

  -- an atom in parentheses ends with one
  first_left : (S : Level → Phrase Tree) (x : Tree) (l : List Token) → g.rule S Atom x (Word ParenLeft ∷ l) → (front : List Token) × (l ≡ front ++ Word ParenRight ∷ [])
  first_left S x l (inl a) = absurd (none_some x (ap simple (heads (Word ParenLeft) a.0 l [] a.1) ∙ a.2))
  first_left S x l (inr (inl a)) = absurd (not_last (heads (Word ParenLeft) (Word KwLast) l a.2.0 a.2.1))
  first_left S x l (inr (inr (inl a))) = absurd (not_question (heads (Word ParenLeft) (Word Question) l a.2.0 a.2.1))
  first_left S x l (inr (inr (inr (inl a)))) = ([], tails (Word ParenLeft) (Word ParenLeft) l (Word ParenRight ∷ []) a.1)
  first_left S x l (inr (inr (inr (inr (inl a))))) = (a.2.0, tails (Word ParenLeft) (Word ParenLeft) l a.0 a.1 ∙ a.2.1)
  first_left S x l (inr (inr (inr (inr (inr (inl a)))))) = (a.2.2.0, tails (Word ParenLeft) (Word ParenLeft) l a.2.0 a.2.1 ∙ a.2.2.1)
  first_left S x l (inr (inr (inr (inr (inr (inr a)))))) = (a.2.2.0, tails (Word ParenLeft) (Word ParenLeft) l a.2.0 a.2.1 ∙ a.2.2.1)

  begins_inside : (front m : List Token) → (g.LooksAsBranch (Word ParenLeft ∷ (front ++ Word ParenRight ∷ [])) → ⊥) → r.begins_case ((front ++ Word ParenRight ∷ []) ++ m) ≡ false
  unfolding starts
  begins_inside [] m never = refl
  begins_inside (Cons k ∷ []) m never = refl
  begins_inside (Cons k ∷ t ∷ front) m never = which (is_word Arrow t) refl
    where
      which : (b : Bool) → is_word Arrow t ≡ b → is_word Arrow t ≡ false
      which true is = absurd (never (k, front ++ Word ParenRight ∷ [], ap (λ t. Word ParenLeft ∷ Cons k ∷ t ∷ (front ++ Word ParenRight ∷ [])) (word_one Arrow t is)))
      which false is = is
  begins_inside (Id x ∷ front) m never = refl
  begins_inside (Int x ∷ front) m never = refl
  begins_inside (Char x ∷ front) m never = refl
  begins_inside (Text x ∷ front) m never = refl
  begins_inside (Prefix x ∷ front) m never = refl
  begins_inside (Word x ∷ front) m never = refl

  in_parentheses : (D : ℕ) (x : Tree) (u l : List Token) → u ≡ Word ParenLeft ∷ l → IsExpr D Atom x u → (front : List Token) × (l ≡ front ++ Word ParenRight ∷ [])
  in_parentheses zero x u l is e = absurd e
  in_parentheses (suc D) x u l is e = first_left (IsExpr D) x l (subst (λ u. g.rule (IsExpr D) Atom x u) is (subst (λ k. g.rule (IsExpr D) k x u) (only_atom e.0 e.1) e.2))

  closed_first : (x : Tree) (u m : List Token) → IsExpr d Atom x u → (g.LooksAsBranch u → ⊥) → (t : Token) (l : List Token) → u ≡ t ∷ l → (v : Bool) → is_word ParenLeft t ≡ v → (is_word ParenLeft t && r.begins_case (l ++ m)) ≡ false
  closed_first x u m e never t l is true w =
      let is2 : u ≡ Word ParenLeft ∷ l = is ∙ ap (λ t. t ∷ l) (word_one ParenLeft t w) in
      let f = in_parentheses d x u l is2 e in
      ap (λ b. b && r.begins_case (l ++ m)) w ∙ ap (λ l. r.begins_case (l ++ m)) f.1 ∙ begins_inside f.0 m (λ looks. never (subst (λ u. g.LooksAsBranch u) (sym (is2 ∙ ap (λ l. Word ParenLeft ∷ l) f.1)) looks))
  closed_first x u m e never t l is false w = ap (λ b. b && r.begins_case (l ++ m)) w

  bare_closed : (x : Tree) (ts m : List Token) → At (g.bare (IsExpr d)) x ts m → r.begins_branch ts ≡ false
  unfolding r.begins_branch
  bare_closed x ts m a =
      let b = atom_head d x a.0 a.2.0 in
      ap r.begins_branch (a.1 ∙ ap (λ u. u ++ m) b.2) ∙ closed_first x a.0 m a.2.0 a.2.1 b.0 b.1 b.2 (is_word ParenLeft b.0) refl

  merged_found : (x : Tree) (ts m : List Token) → length ts ≤ n → At ((KwMerge ▷ (identifier ⊗ (g.bare (IsExpr d) ⊗ g.bare (IsExpr d)))) ⇒ (λ p. merged p.0 p.1.0 p.1.1)) x ts m → Found (r.application n R) x ts m
  unfolding r.application r.merge
  merged_found x ts m few a =
      let made = of_made (KwMerge ▷ (identifier ⊗ (g.bare (IsExpr d) ⊗ g.bare (IsExpr d)))) (λ p. merged p.0 p.1.0 p.1.1) x ts m a in
      let p = made.0 in
      let b1 = of_word (identifier ⊗ (g.bare (IsExpr d) ⊗ g.bare (IsExpr d))) KwMerge p ts m made.2 in
      let b2 = of_both identifier (g.bare (IsExpr d) ⊗ g.bare (IsExpr d)) p b1.0 m b1.2 in
      let b3 = of_both (g.bare (IsExpr d)) (g.bare (IsExpr d)) p.1 b2.0 m b2.2 in
      let few1 = rest_few n (Word KwMerge) ts b1.0 b1.1 few in
      let few2 = le_trans (length b2.0) (length b1.0) n (not_longer identifier p.0 b1.0 b2.0 b2.1) few1 in
      let few3 = le_trans (length b3.0) (length b2.0) n (not_longer (g.bare (IsExpr d)) p.1.0 b2.0 b3.0 b3.1) few2 in
      let c = (ih Atom).finds b2.0 b3.0 p.1.0 few2 tt (b3.1.0, b3.1.1, b3.1.2.0) in
      let e = (ih Atom).finds b3.0 m p.1.1 few3 tt (b3.2.0, b3.2.1, b3.2.2.0) in
      let high = max_le c.0 e.0 d c.1 e.1 in
      let k = max c.0 e.0 in (
        k + 1,
        suc_le k d high,
        ap (r.application n R) b1.1
            ∙ then_some (λ p. r.merge n R p.0 p.1) (name b1.0) (p.0, b2.0) (Some (x, k + 1, m)) (name_reads p.0 b1.0 b2.0 b2.1)
            (if_no (r.begins_branch b2.0) (r.branches n R b2.0 >>= λ bs. taller bs.1 >>= λ h. Some (node (form.Merge p.0 bs.0), h, bs.2))
            (R Atom b2.0 >>= λ a. if r.begins_branch a.2 then None else (R Atom a.2 >>= λ b. taller (max a.1 b.1) >>= λ h. Some (merged p.0 a.0 b.0, h, b.2))) (Some (x, k + 1, m)) (bare_closed p.1.0 b2.0 b3.0 b3.1)
            (then_some (λ a. if r.begins_branch a.2 then None else (R Atom a.2 >>= λ b. taller (max a.1 b.1) >>= λ h. Some (merged p.0 a.0 b.0, h, b.2))) (R Atom b2.0) (p.1.0, c.0, b3.0) (Some (x, k + 1, m)) c.2
            (if_no (r.begins_branch b3.0) None (R Atom b3.0 >>= λ b. taller (max c.0 b.1) >>= λ h. Some (merged p.0 p.1.0 b.0, h, b.2)) (Some (x, k + 1, m)) (bare_closed p.1.1 b3.0 m b3.2)
            (then_some (λ b. taller (max c.0 b.1) >>= λ h. Some (merged p.0 p.1.0 b.0, h, b.2)) (R Atom b3.0) (p.1.1, e.0, m) (Some (x, k + 1, m)) e.2
            (then_some (λ h. Some (merged p.0 p.1.0 p.1.1, h, m)) (taller k) (k + 1) (Some (x, k + 1, m)) (taller_reads k d high small) (λ i. Some (sym made.1 i, k + 1, m))))))),
      )

  -- parentheses

  first_is : (w : Fixed) (q : List Token) → starts w q ≡ true → (k : List Token) × (q ≡ Word w ∷ k)
  unfolding starts
  first_is w [] e = absurd (true_false (sym e))
  first_is w (t ∷ k) e = (k, ap (λ t. t ∷ k) (word_one w t e))

  -- behind the first expression in parentheses stands no `every`
  no_every : (w : Fixed) → is_word KwEvery (Word w) ≡ false → (l : List Token) (e : Tree) (h : ℕ) (q : List Token) (z : Got Tree) → r.climb n R n Expr Unary e h q ≡ Some z → z.2 ≡ Word w ∷ l → (b : Bool) → starts KwEvery q ≡ b → starts KwEvery q ≡ false
  no_every w other l e h q z climbed is true so =
      let f = first_is KwEvery q so in
      let ends = climb_ends n R n Expr Unary e h q (λ p i. absurd (none_some p (sym (no_infix KwEvery q f.0 refl f.1) ∙ i))) in
      let same = some_one (e, h, q) z (sym ends ∙ climbed) in
      let both : Word w ∷ l ≡ Word KwEvery ∷ f.0 = sym is ∙ (λ i. (sym same i).2) ∙ f.1 in
      absurd (true_false (sym (itself KwEvery) ∙ ap (is_word KwEvery) (sym (heads (Word w) (Word KwEvery) l f.0 both)) ∙ other))
  no_every w other l e h q z climbed is false it = it

  call_group : (e : Tree) (h : ℕ) (l q : List Token) → starts ParenRight l ≡ false → r.begins_call l ≡ true → r.phrase n R Expr l ≡ Some (e, h, q)
      → (w : Fixed) → is_word KwEvery (Word w) ≡ false → (l2 : List Token) → q ≡ Word w ∷ l2 → r.group n R l ≡ r.group_from n R e h q
  unfolding r.group r.named
  call_group e h l q noparen begun read w other l2 is =
      let s1 = some_of (r.named n R l) (λ x. r.climb n R n Expr Unary x.0 x.1 x.2) (e, h, q) (sym (call_phrase n R l begun) ∙ read) in
      let s2 = some_of (r.call n R l) (λ x. applied x.0.0 x.0.1.0 x.0.1.1 >>= λ e. taller x.1 >>= λ h. Some (e, h, x.2)) s1.0 s1.1 in
      let s3 = some_of (applied s2.0.0.0 s2.0.0.1.0 s2.0.0.1.1) (λ e. taller s2.0.1 >>= λ h. Some (e, h, s2.0.2)) s1.0 s2.2 in
      let s4 = some_of (taller s2.0.1) (λ h. Some (s3.0, h, s2.0.2)) s1.0 s3.2 in
      let same = some_one (s3.0, s4.0, s2.0.2) s1.0 s4.2 in
      let climbed : r.climb n R n Expr Unary s3.0 s4.0 s2.0.2 ≡ Some (e, h, q) = (λ i. r.climb n R n Expr Unary (same i).0 (same i).1 (same i).2) ∙ s1.2 in
      if_no (starts ParenRight l) (word ParenRight l >>= λ m. Some (constant leaf.Unit, 1, m))
      (if r.begins_call l then
      (r.call n R l >>= λ x. if starts KwEvery x.2 then r.every n R x.0.0 x.0.1.0 x.0.1.1 x.1 x.2 else (applied x.0.0 x.0.1.0 x.0.1.1 >>= λ e. taller x.1 >>= λ h. r.climb n R n Expr Unary e h x.2 >>= λ y. r.group_from n R y.0 y.1 y.2))
      else (R Expr l >>= λ y. r.group_from n R y.0 y.1 y.2)) (r.group_from n R e h q) noparen
      (if_yes (r.begins_call l)
      (r.call n R l >>= λ x. if starts KwEvery x.2 then r.every n R x.0.0 x.0.1.0 x.0.1.1 x.1 x.2 else (applied x.0.0 x.0.1.0 x.0.1.1 >>= λ e. taller x.1 >>= λ h. r.climb n R n Expr Unary e h x.2 >>= λ y. r.group_from n R y.0 y.1 y.2))
      (R Expr l >>= λ y. r.group_from n R y.0 y.1 y.2) (r.group_from n R e h q) begun
      (then_some (λ x. if starts KwEvery x.2 then r.every n R x.0.0 x.0.1.0 x.0.1.1 x.1 x.2 else (applied x.0.0 x.0.1.0 x.0.1.1 >>= λ e. taller x.1 >>= λ h. r.climb n R n Expr Unary e h x.2 >>= λ y. r.group_from n R y.0 y.1 y.2)) (r.call n R l) s2.0 (r.group_from n R e h q) s2.1
      (if_no (starts KwEvery s2.0.2) (r.every n R s2.0.0.0 s2.0.0.1.0 s2.0.0.1.1 s2.0.1 s2.0.2) (applied s2.0.0.0 s2.0.0.1.0 s2.0.0.1.1 >>= λ e. taller s2.0.1 >>= λ h. r.climb n R n Expr Unary e h s2.0.2 >>= λ y. r.group_from n R y.0 y.1 y.2) (r.group_from n R e h q)
      (no_every w other l2 s3.0 s4.0 s2.0.2 (e, h, q) climbed is (starts KwEvery s2.0.2) refl)
      (then_some (λ e. taller s2.0.1 >>= λ h. r.climb n R n Expr Unary e h s2.0.2 >>= λ y. r.group_from n R y.0 y.1 y.2) (applied s2.0.0.0 s2.0.0.1.0 s2.0.0.1.1) s3.0 (r.group_from n R e h q) s3.1
      (then_some (λ h. r.climb n R n Expr Unary s3.0 h s2.0.2 >>= λ y. r.group_from n R y.0 y.1 y.2) (taller s2.0.1) s4.0 (r.group_from n R e h q) s4.1
      (then_some (λ y. r.group_from n R y.0 y.1 y.2) (r.climb n R n Expr Unary s3.0 s4.0 s2.0.2) (e, h, q) (r.group_from n R e h q) climbed refl))))))

  other_group : (e : Tree) (h : ℕ) (l q : List Token) → starts ParenRight l ≡ false → r.begins_call l ≡ false → R Expr l ≡ Some (e, h, q) → r.group n R l ≡ r.group_from n R e h q
  unfolding r.group
  other_group e h l q noparen begun read =
      if_no (starts ParenRight l) (word ParenRight l >>= λ m. Some (constant leaf.Unit, 1, m))
      (if r.begins_call l then
      (r.call n R l >>= λ x. if starts KwEvery x.2 then r.every n R x.0.0 x.0.1.0 x.0.1.1 x.1 x.2 else (applied x.0.0 x.0.1.0 x.0.1.1 >>= λ e. taller x.1 >>= λ h. r.climb n R n Expr Unary e h x.2 >>= λ y. r.group_from n R y.0 y.1 y.2))
      else (R Expr l >>= λ y. r.group_from n R y.0 y.1 y.2)) (r.group_from n R e h q) noparen
      (if_no (r.begins_call l)
      (r.call n R l >>= λ x. if starts KwEvery x.2 then r.every n R x.0.0 x.0.1.0 x.0.1.1 x.1 x.2 else (applied x.0.0 x.0.1.0 x.0.1.1 >>= λ e. taller x.1 >>= λ h. r.climb n R n Expr Unary e h x.2 >>= λ y. r.group_from n R y.0 y.1 y.2))
      (R Expr l >>= λ y. r.group_from n R y.0 y.1 y.2) (r.group_from n R e h q) begun
      (then_some (λ y. r.group_from n R y.0 y.1 y.2) (R Expr l) (e, h, q) (r.group_from n R e h q) read refl))

  no_paren : (l : List Token) (z : Got Tree) → r.phrase n R Expr l ≡ Some z → (b : Bool) → starts ParenRight l ≡ b → starts ParenRight l ≡ false
  no_paren l z read true so = let f = first_is ParenRight l so in absurd (none_some z (sym (no_phrase n R f.0) ∙ ap (r.phrase n R Expr) (sym f.1) ∙ read))
  no_paren l z read false it = it

  -- the first expression in parentheses
  content_found : (w : Fixed) → r.opens w ≡ false → infix_of w ≡ None → is_word KwEvery (Word w) ≡ false → (e : Tree) (l q l2 : List Token) → At (IsExpr d Expr) e l q → q ≡ Word w ∷ l2 → length l ≤ n
      → (h : ℕ) × (h ≤ d) × (r.group n R l ≡ r.group_from n R e h q)
  content_found w closed none other e l q l2 a is few = which (r.begins_call l) refl
    where
      which : (b : Bool) → r.begins_call l ≡ b → (h : ℕ) × (h ≤ d) × (r.group n R l ≡ r.group_from n R e h q)
      which true begun =
          let p = inner.finds l q e few (quiet_word w closed none Expr q l2 is) a in
          (p.0, p.1, call_group e p.0 l q (no_paren l (e, p.0, q) p.2 (starts ParenRight l) refl) begun p.2 w other l2 is)
      which false begun =
          let p = inner.finds l q e few (quiet_word w closed none Expr q l2 is) a in
          let i = (ih Expr).finds l q e few (quiet_word w closed none Expr q l2 is) a in
          (i.0, i.1, other_group e i.0 l q (no_paren l (e, p.0, q) p.2 (starts ParenRight l) refl) begun i.2)

  parenthesised : (ts l : List Token) → ts ≡ Word ParenLeft ∷ l → (z : Option (Got Tree)) → r.group n R l ≡ z → r.atom n R ts ≡ z
  unfolding r.atom
  parenthesised ts l is z read =
      if_yes (starts ParenLeft ts) (word ParenLeft ts >>= r.group n R)
      (if starts KwLast ts then (word KwLast ts >>= λ m. name m >>= λ p. Some (node (form.Last p.0), 1, p.1))
      else if starts Question ts then (word Question ts >>= λ m. name m >>= λ p. Some (node (form.Asked p.0), 1, p.1))
      else r.single ts) z (starts_yes ParenLeft ts l is)
      (then_some (r.group n R) (word ParenLeft ts) l z (word_reads ParenLeft ts l is) read)

  group_found : (x : Tree) (ts m : List Token) → length ts ≤ n → At (ParenLeft ▷ (IsExpr d Expr ◁ ParenRight)) x ts m → Found (r.atom n R) x ts m
  unfolding r.group_from
  group_found x ts m few a =
      let b1 = of_word (IsExpr d Expr ◁ ParenRight) ParenLeft x ts m a in
      let b2 = of_end (IsExpr d Expr) ParenRight x b1.0 m b1.2 in
      let q = Word ParenRight ∷ m in
      let c = content_found ParenRight refl refl refl x b1.0 (Word ParenRight ∷ m) m b2 refl (rest_few n (Word ParenLeft) ts b1.0 b1.1 few) in (
        c.0 + 1,
        suc_le c.0 d c.1,
        parenthesised ts b1.0 b1.1 (Some (x, c.0 + 1, m)) (c.2
            ∙ if_no (starts Comma (Word ParenRight ∷ m)) (r.tuple n R x c.0 (Word ParenRight ∷ m)) (word ParenRight (Word ParenRight ∷ m) >>= λ m. taller c.0 >>= λ k. Some (x, k, m)) (Some (x, c.0 + 1, m)) (starts_no Comma (Word ParenRight) (Word ParenRight ∷ m) m refl refl)
            (then_some (λ m. taller c.0 >>= λ k. Some (x, k, m)) (word ParenRight (Word ParenRight ∷ m)) m (Some (x, c.0 + 1, m)) (word_reads ParenRight (Word ParenRight ∷ m) m refl)
            (then_some (λ k. Some (x, k, m)) (taller c.0) (c.0 + 1) (Some (x, c.0 + 1, m)) (taller_reads c.0 d c.1 small) refl))),
      )

  comma_begins : (x : Tree) (ts m : List Token) → At (Comma ▷ IsExpr d Expr) x ts m → starts Comma ts ≡ true
  comma_begins x ts m a = let b = of_word (IsExpr d Expr) Comma x ts m a in starts_yes Comma ts b.0 b.1

  comma_quiet : (x : Tree) (ts m : List Token) → At (Comma ▷ IsExpr d Expr) x ts m → Quiet Expr ts
  comma_quiet x ts m a = let b = of_word (IsExpr d Expr) Comma x ts m a in quiet_word Comma refl refl Expr ts b.0 b.1

  comma_takes : (x : Tree) (ts m : List Token) → At (Comma ▷ IsExpr d Expr) x ts m → length m + 1 ≤ length ts
  comma_takes x ts m a =
      let b = of_word (IsExpr d Expr) Comma x ts m a in
      let e = one_longer (Word Comma) ts b.0 b.1 in
      let l = not_longer (IsExpr d Expr) x b.0 m b.2 in
      omega arith

  commas : (xs : List Tree) (q m : List Token) → At (some (Comma ▷ IsExpr d Expr)) xs q m → ((k : List Token) × (q ≡ Word Comma ∷ k)) × At (many (Comma ▷ IsExpr d Expr)) xs q m
  commas [] q m a = absurd a.2
  commas (x ∷ xs) q m a =
      let b = of_more (Comma ▷ IsExpr d Expr) x xs q m a in
      let c = of_word (IsExpr d Expr) Comma x q b.0 b.1 in
      ((c.0, c.1), a)

  tuple_found : (x : Tree) (ts m : List Token) → length ts ≤ n → At ((ParenLeft ▷ ((IsExpr d Expr ⊗ some (Comma ▷ IsExpr d Expr)) ◁ ParenRight)) ⇒ (λ p. node (form.Tuple (p.0 ∷ p.1)))) x ts m → Found (r.atom n R) x ts m
  unfolding r.group_from r.tuple
  tuple_found x ts m few a =
      let made = of_made (ParenLeft ▷ ((IsExpr d Expr ⊗ some (Comma ▷ IsExpr d Expr)) ◁ ParenRight)) (λ p. node (form.Tuple (p.0 ∷ p.1))) x ts m a in
      let p = made.0 in
      let b1 = of_word ((IsExpr d Expr ⊗ some (Comma ▷ IsExpr d Expr)) ◁ ParenRight) ParenLeft p ts m made.2 in
      let b2 = of_end (IsExpr d Expr ⊗ some (Comma ▷ IsExpr d Expr)) ParenRight p b1.0 m b1.2 in
      let b3 = of_both (IsExpr d Expr) (some (Comma ▷ IsExpr d Expr)) p b1.0 (Word ParenRight ∷ m) b2 in
      let b4 = commas p.1 b3.0 (Word ParenRight ∷ m) b3.2 in
      let few1 = rest_few n (Word ParenLeft) ts b1.0 b1.1 few in
      let few2 = le_trans (length b3.0) (length b1.0) n (not_longer (IsExpr d Expr) p.0 b1.0 b3.0 b3.1) few1 in
      let c = content_found Comma refl refl refl p.0 b1.0 b3.0 b4.0.0 b3.1 b4.0.1 few1 in
      let short = row_short n d (starts Comma) (behind Comma (R Expr)) (Comma ▷ IsExpr d Expr) (Quiet Expr) (sure_behind Comma (ih Expr)) comma_begins comma_quiet comma_takes p.1 b3.0 (Word ParenRight ∷ m) b4.1 in
      let e = row_found n d (starts Comma) (behind Comma (R Expr)) (Comma ▷ IsExpr d Expr) (Quiet Expr) (sure_behind Comma (ih Expr)) comma_begins comma_quiet n (p.0 ∷ []) p.1 c.0 b3.0 (Word ParenRight ∷ m)
      (le_trans (length p.1) (length b3.0) n short few2) (inr (starts_no Comma (Word ParenRight) (Word ParenRight ∷ m) m refl refl)) c.1 few2 (quiet_word ParenRight refl refl Expr (Word ParenRight ∷ m) m refl) b4.1 in (
        e.0 + 1,
        suc_le e.0 d e.1,
        parenthesised ts b1.0 b1.1 (Some (x, e.0 + 1, m)) (c.2
            ∙ if_yes (starts Comma b3.0) (r.tuple n R p.0 c.0 b3.0) (word ParenRight b3.0 >>= λ m. taller c.0 >>= λ k. Some (p.0, k, m)) (Some (x, e.0 + 1, m)) (starts_yes Comma b3.0 b4.0.0 b4.0.1)
            (then_some (λ x. word ParenRight x.2 >>= λ m. taller x.1 >>= λ k. Some (node (form.Tuple x.0), k, m)) (collect n (starts Comma) (behind Comma (R Expr)) (p.0 ∷ []) c.0 b3.0) (p.0 ∷ p.1, e.0, Word ParenRight ∷ m) (Some (x, e.0 + 1, m)) e.2
            (then_some (λ m. taller e.0 >>= λ k. Some (node (form.Tuple (p.0 ∷ p.1)), k, m)) (word ParenRight (Word ParenRight ∷ m)) m (Some (x, e.0 + 1, m)) (word_reads ParenRight (Word ParenRight ∷ m) m refl)
            (then_some (λ k. Some (node (form.Tuple (p.0 ∷ p.1)), k, m)) (taller e.0) (e.0 + 1) (Some (x, e.0 + 1, m)) (taller_reads e.0 d e.1 small) (λ i. Some (sym made.1 i, e.0 + 1, m)))))),
      )

  call_not : (l : List Token) → r.begins_call l ≡ true → starts ParenRight l ≡ false
  unfolding r.begins_call starts
  call_not [] e = refl
  call_not (Id x ∷ l) e = refl
  call_not (Word w ∷ l) e = subst (λ t. is_word ParenRight t ≡ false) (sym (word_one KwRun (Word w) e)) refl
  call_not (Cons x ∷ l) e = refl
  call_not (Int x ∷ l) e = refl
  call_not (Char x ∷ l) e = refl
  call_not (Text x ∷ l) e = refl
  call_not (Prefix x ∷ l) e = refl

  some_args : (xs : List Tree) (x : Tree) (ys : List Tree) → xs ≡ x ∷ ys → nat_eq (length xs) 0 ≡ false
  some_args xs x ys e = elim (eqb_tells (length xs) 0) [ inl p ↦ absurd (longer xs x ys e p.1) | inr p ↦ p.0 ]
    where
      longer : (xs : List Tree) (x : Tree) (ys : List Tree) → xs ≡ x ∷ ys → length xs ≡ 0 → ⊥
      longer xs x ys e z = let l : length xs ≡ length (x ∷ ys) = ap length e in let k : length (x ∷ ys) ≡ length ys + 1 = omega arith in omega arith

  every_found : (x : Tree) (ts m : List Token) → length ts ≤ n → At ((ParenLeft ▷ ((g.call (IsExpr d) ⊗ (KwEvery ▷ IsExpr d Expr)) ◁ ParenRight)) ⇒ (λ p. called (Some p.1) p.0)) x ts m → Found (r.atom n R) x ts m
  unfolding r.group r.every
  every_found x ts m few a =
      let made = of_made (ParenLeft ▷ ((g.call (IsExpr d) ⊗ (KwEvery ▷ IsExpr d Expr)) ◁ ParenRight)) (λ p. called (Some p.1) p.0) x ts m a in
      let p = made.0 in
      let b1 = of_word ((g.call (IsExpr d) ⊗ (KwEvery ▷ IsExpr d Expr)) ◁ ParenRight) ParenLeft p ts m made.2 in
      let b2 = of_end (g.call (IsExpr d) ⊗ (KwEvery ▷ IsExpr d Expr)) ParenRight p b1.0 m b1.2 in
      let b3 = of_both (g.call (IsExpr d)) (KwEvery ▷ IsExpr d Expr) p b1.0 (Word ParenRight ∷ m) b2 in
      let b4 = of_word (IsExpr d Expr) KwEvery p.1 b3.0 (Word ParenRight ∷ m) b3.2 in
      let few1 = rest_few n (Word ParenLeft) ts b1.0 b1.1 few in
      let few2 = le_trans (length b3.0) (length b1.0) n (not_longer (g.call (IsExpr d)) p.0 b1.0 b3.0 b3.1) few1 in
      let few3 = rest_few n (Word KwEvery) b3.0 b4.0 b4.1 few2 in
      let c = call_found p.0 b1.0 b3.0 (quiet_word KwEvery refl refl Expr b3.0 b4.0 b4.1).0 few1 b3.1 in
      let e = (ih Expr).finds b4.0 (Word ParenRight ∷ m) p.1 few3 (quiet_word ParenRight refl refl Expr (Word ParenRight ∷ m) m refl) b4.2 in
      let k = max c.0 e.0 in
      let high = max_le c.0 e.0 d c.1 e.1 in
      let l = b1.0 in (
        k + 1,
        suc_le k d high,
        parenthesised ts b1.0 b1.1 (Some (x, k + 1, m))
            (if_no (starts ParenRight l) (word ParenRight l >>= λ m. Some (constant leaf.Unit, 1, m))
            (if r.begins_call l then
            (r.call n R l >>= λ x. if starts KwEvery x.2 then r.every n R x.0.0 x.0.1.0 x.0.1.1 x.1 x.2 else (applied x.0.0 x.0.1.0 x.0.1.1 >>= λ e. taller x.1 >>= λ h. r.climb n R n Expr Unary e h x.2 >>= λ y. r.group_from n R y.0 y.1 y.2))
            else (R Expr l >>= λ y. r.group_from n R y.0 y.1 y.2)) (Some (x, k + 1, m)) (call_not l c.3)
            (if_yes (r.begins_call l)
            (r.call n R l >>= λ x. if starts KwEvery x.2 then r.every n R x.0.0 x.0.1.0 x.0.1.1 x.1 x.2 else (applied x.0.0 x.0.1.0 x.0.1.1 >>= λ e. taller x.1 >>= λ h. r.climb n R n Expr Unary e h x.2 >>= λ y. r.group_from n R y.0 y.1 y.2))
            (R Expr l >>= λ y. r.group_from n R y.0 y.1 y.2) (Some (x, k + 1, m)) c.3
            (then_some (λ x. if starts KwEvery x.2 then r.every n R x.0.0 x.0.1.0 x.0.1.1 x.1 x.2 else (applied x.0.0 x.0.1.0 x.0.1.1 >>= λ e. taller x.1 >>= λ h. r.climb n R n Expr Unary e h x.2 >>= λ y. r.group_from n R y.0 y.1 y.2)) (r.call n R l) (p.0, c.0, b3.0) (Some (x, k + 1, m)) c.2
            (if_yes (starts KwEvery b3.0) (r.every n R p.0.0 p.0.1.0 p.0.1.1 c.0 b3.0) (applied p.0.0 p.0.1.0 p.0.1.1 >>= λ e. taller c.0 >>= λ h. r.climb n R n Expr Unary e h b3.0 >>= λ y. r.group_from n R y.0 y.1 y.2) (Some (x, k + 1, m)) (starts_yes KwEvery b3.0 b4.0 b4.1)
            (if_no (nat_eq (length p.0.1.1) 0) None (word KwEvery b3.0 >>= λ m. R Expr m >>= λ y. word ParenRight y.2 >>= λ m. taller (max c.0 y.1) >>= λ k. Some (node (form.Call p.0.0 p.0.1.0 p.0.1.1 (Some y.0)), k, m)) (Some (x, k + 1, m)) (some_args p.0.1.1 c.4 c.5 c.6)
            (then_some (λ m. R Expr m >>= λ y. word ParenRight y.2 >>= λ m. taller (max c.0 y.1) >>= λ k. Some (node (form.Call p.0.0 p.0.1.0 p.0.1.1 (Some y.0)), k, m)) (word KwEvery b3.0) b4.0 (Some (x, k + 1, m)) (word_reads KwEvery b3.0 b4.0 b4.1)
            (then_some (λ y. word ParenRight y.2 >>= λ m. taller (max c.0 y.1) >>= λ k. Some (node (form.Call p.0.0 p.0.1.0 p.0.1.1 (Some y.0)), k, m)) (R Expr b4.0) (p.1, e.0, Word ParenRight ∷ m) (Some (x, k + 1, m)) e.2
            (then_some (λ m. taller k >>= λ k. Some (node (form.Call p.0.0 p.0.1.0 p.0.1.1 (Some p.1)), k, m)) (word ParenRight (Word ParenRight ∷ m)) m (Some (x, k + 1, m)) (word_reads ParenRight (Word ParenRight ∷ m) m refl)
            (then_some (λ k. Some (node (form.Call p.0.0 p.0.1.0 p.0.1.1 (Some p.1)), k, m)) (taller k) (k + 1) (Some (x, k + 1, m)) (taller_reads k d high small) (λ i. Some (sym made.1 i, k + 1, m))))))))))),
      )

  word_atom : (w : Fixed) → is_word KwRun (Word w) ≡ false → is_word KwMerge (Word w) ≡ false → (ts l : List Token) → ts ≡ Word w ∷ l → r.application n R ts ≡ r.atom n R ts
  unfolding r.application
  word_atom w run merge ts l is =
      ap (r.application n R) is
      ∙ if_no (is_word KwRun (Word w)) (r.named n R (Word w ∷ l)) (if is_word KwMerge (Word w) then (name l >>= λ p. r.merge n R p.0 p.1) else r.atom n R (Word w ∷ l)) (r.atom n R (Word w ∷ l)) run
      (if_no (is_word KwMerge (Word w)) (name l >>= λ p. r.merge n R p.0 p.1) (r.atom n R (Word w ∷ l)) (r.atom n R (Word w ∷ l)) merge refl)
      ∙ ap (r.atom n R) (sym is)

  -- a literal, a constructor or a name
  simple_found : (t : Token) (x : Tree) (ts m : List Token) → ts ≡ t ∷ m → simple t ≡ Some x → r.atom n R ts ≡ Some (x, 1, m)
  unfolding r.atom r.single
  simple_found t x ts m is e =
      if_no (starts ParenLeft ts) (word ParenLeft ts >>= r.group n R)
      (if starts KwLast ts then (word KwLast ts >>= λ m. name m >>= λ p. Some (node (form.Last p.0), 1, p.1))
      else if starts Question ts then (word Question ts >>= λ m. name m >>= λ p. Some (node (form.Asked p.0), 1, p.1))
      else r.single ts) (Some (x, 1, m)) (starts_no ParenLeft t ts m is (not_simple ParenLeft t x refl e))
      (if_no (starts KwLast ts) (word KwLast ts >>= λ m. name m >>= λ p. Some (node (form.Last p.0), 1, p.1))
      (if starts Question ts then (word Question ts >>= λ m. name m >>= λ p. Some (node (form.Asked p.0), 1, p.1)) else r.single ts) (Some (x, 1, m)) (starts_no KwLast t ts m is (not_simple KwLast t x refl e))
      (if_no (starts Question ts) (word Question ts >>= λ m. name m >>= λ p. Some (node (form.Asked p.0), 1, p.1)) (r.single ts) (Some (x, 1, m)) (starts_no Question t ts m is (not_simple Question t x refl e))
      (then_some (λ p. simple p.0 >>= λ e. Some (e, 1, p.1)) (uncons ts) (t, m) (Some (x, 1, m)) (ap uncons is)
      (then_some (λ e. Some (e, 1, m)) (simple t) x (Some (x, 1, m)) e refl))))

  last_found : (x : Tree) (ts m : List Token) → At ((KwLast ▷ identifier) ⇒ (λ x. node (form.Last x))) x ts m → r.atom n R ts ≡ Some (x, 1, m)
  unfolding r.atom
  last_found x ts m a =
      let made = of_made (KwLast ▷ identifier) (λ x. node (form.Last x)) x ts m a in
      let b = of_word identifier KwLast made.0 ts m made.2 in
      if_no (starts ParenLeft ts) (word ParenLeft ts >>= r.group n R)
      (if starts KwLast ts then (word KwLast ts >>= λ m. name m >>= λ p. Some (node (form.Last p.0), 1, p.1))
      else if starts Question ts then (word Question ts >>= λ m. name m >>= λ p. Some (node (form.Asked p.0), 1, p.1))
      else r.single ts) (Some (x, 1, m)) (starts_no ParenLeft (Word KwLast) ts b.0 b.1 refl)
      (if_yes (starts KwLast ts) (word KwLast ts >>= λ m. name m >>= λ p. Some (node (form.Last p.0), 1, p.1))
      (if starts Question ts then (word Question ts >>= λ m. name m >>= λ p. Some (node (form.Asked p.0), 1, p.1)) else r.single ts) (Some (x, 1, m)) (starts_yes KwLast ts b.0 b.1)
      (then_some (λ m. name m >>= λ p. Some (node (form.Last p.0), 1, p.1)) (word KwLast ts) b.0 (Some (x, 1, m)) (word_reads KwLast ts b.0 b.1)
      (then_some (λ p. Some (node (form.Last p.0), 1, p.1)) (name b.0) (made.0, m) (Some (x, 1, m)) (name_reads made.0 b.0 m b.2) (λ i. Some (sym made.1 i, 1, m)))))

  asked_found : (x : Tree) (ts m : List Token) → At ((Question ▷ identifier) ⇒ (λ x. node (form.Asked x))) x ts m → r.atom n R ts ≡ Some (x, 1, m)
  unfolding r.atom
  asked_found x ts m a =
      let made = of_made (Question ▷ identifier) (λ x. node (form.Asked x)) x ts m a in
      let b = of_word identifier Question made.0 ts m made.2 in
      if_no (starts ParenLeft ts) (word ParenLeft ts >>= r.group n R)
      (if starts KwLast ts then (word KwLast ts >>= λ m. name m >>= λ p. Some (node (form.Last p.0), 1, p.1))
      else if starts Question ts then (word Question ts >>= λ m. name m >>= λ p. Some (node (form.Asked p.0), 1, p.1))
      else r.single ts) (Some (x, 1, m)) (starts_no ParenLeft (Word Question) ts b.0 b.1 refl)
      (if_no (starts KwLast ts) (word KwLast ts >>= λ m. name m >>= λ p. Some (node (form.Last p.0), 1, p.1))
      (if starts Question ts then (word Question ts >>= λ m. name m >>= λ p. Some (node (form.Asked p.0), 1, p.1)) else r.single ts) (Some (x, 1, m)) (starts_no KwLast (Word Question) ts b.0 b.1 refl)
      (if_yes (starts Question ts) (word Question ts >>= λ m. name m >>= λ p. Some (node (form.Asked p.0), 1, p.1)) (r.single ts) (Some (x, 1, m)) (starts_yes Question ts b.0 b.1)
      (then_some (λ m. name m >>= λ p. Some (node (form.Asked p.0), 1, p.1)) (word Question ts) b.0 (Some (x, 1, m)) (word_reads Question ts b.0 b.1)
      (then_some (λ p. Some (node (form.Asked p.0), 1, p.1)) (name b.0) (made.0, m) (Some (x, 1, m)) (name_reads made.0 b.0 m b.2) (λ i. Some (sym made.1 i, 1, m))))))

  unit_found : (x : Tree) (ts m : List Token) → At (g.brackets (constant leaf.Unit)) x ts m → r.atom n R ts ≡ Some (x, 1, m)
  unfolding r.group
  unit_found x ts m a =
      let first : ts ≡ Word ParenLeft ∷ Word ParenRight ∷ m = a.1 ∙ ap (λ u. u ++ m) a.2.1 in
      let l = Word ParenRight ∷ m in
      parenthesised ts (Word ParenRight ∷ m) first (Some (x, 1, m))
      (if_yes (starts ParenRight l) (word ParenRight l >>= λ m. Some (constant leaf.Unit, 1, m))
      (if r.begins_call l then
      (r.call n R l >>= λ x. if starts KwEvery x.2 then r.every n R x.0.0 x.0.1.0 x.0.1.1 x.1 x.2 else (applied x.0.0 x.0.1.0 x.0.1.1 >>= λ e. taller x.1 >>= λ h. r.climb n R n Expr Unary e h x.2 >>= λ y. r.group_from n R y.0 y.1 y.2))
      else (R Expr l >>= λ y. r.group_from n R y.0 y.1 y.2)) (Some (x, 1, m)) (starts_yes ParenRight l m refl)
      (then_some (λ m. Some (constant leaf.Unit, 1, m)) (word ParenRight l) m (Some (x, 1, m)) (word_reads ParenRight l m refl) (λ i. Some (sym a.2.0 i, 1, m))))

  pub atom_found : (x : Tree) (ts m : List Token) → length ts ≤ n → At (g.rule (IsExpr d) Atom) x ts m → Found (r.atom n R) x ts m
  atom_found x ts m few a = which a.2
    where
      which : g.rule (IsExpr d) Atom x a.0 → Found (r.atom n R) x ts m
      which (inl b) = (1, one_low, simple_found b.0 x ts m (a.1 ∙ ap (λ u. u ++ m) b.1) b.2)
      which (inr (inl b)) = (1, one_low, last_found x ts m (a.0, a.1, b))
      which (inr (inr (inl b))) = (1, one_low, asked_found x ts m (a.0, a.1, b))
      which (inr (inr (inr (inl b)))) = (1, one_low, unit_found x ts m (a.0, a.1, b))
      which (inr (inr (inr (inr (inl b))))) = group_found x ts m few (a.0, a.1, b)
      which (inr (inr (inr (inr (inr (inl b)))))) = tuple_found x ts m few (a.0, a.1, b)
      which (inr (inr (inr (inr (inr (inr b)))))) = every_found x ts m few (a.0, a.1, b)

  by_atom : (x : Tree) (ts m : List Token) → r.application n R ts ≡ r.atom n R ts → Found (r.atom n R) x ts m → Found (r.application n R) x ts m
  by_atom x ts m same f = (f.0, f.1, same ∙ f.2)

  -- a name that no atom follows
  name_found : (f : Name) (x : Tree) (ts m : List Token) → r.begins_atom m ≡ false → length ts ≤ n → ts ≡ Id f ∷ m → simple (Id f) ≡ Some x → Found (r.application n R) x ts m
  unfolding r.named
  name_found f x ts m closed few is e =
      let a : At (identifier ⊗ many (IsExpr d Atom)) (f, []) ts m = (Id f ∷ [], is, (Id f ∷ [], [], refl, refl, refl)) in
      let c = plain_call f [] ts m closed few a in (
        c.0 + 1,
        suc_le c.0 d c.1,
        call_application ts c.3
            ∙ then_some (λ x. applied x.0.0 x.0.1.0 x.0.1.1 >>= λ e. taller x.1 >>= λ h. Some (e, h, x.2)) (r.call n R ts) ((false, (f, [])), c.0, m) (Some (x, c.0 + 1, m)) c.2
            (then_some (λ h. Some (node (form.Var f), h, m)) (taller c.0) (c.0 + 1) (Some (x, c.0 + 1, m)) (taller_reads c.0 d c.1 small) (λ i. Some (some_one (node (form.Var f)) x e i, c.0 + 1, m))),
      )

  token_found : (t : Token) (x : Tree) (ts m : List Token) → r.begins_atom m ≡ false → length ts ≤ n → ts ≡ t ∷ m → simple t ≡ Some x → Found (r.application n R) x ts m
  unfolding r.application
  token_found (Id f) x ts m closed few is e = name_found f x ts m closed few is e
  token_found (Word w) x ts m closed few is e = by_atom x ts m (word_atom w (not_simple KwRun (Word w) x refl e) (not_simple KwMerge (Word w) x refl e) ts m is) (1, one_low, simple_found (Word w) x ts m is e)
  token_found (Prefix o) x ts m closed few is e = absurd (none_some x e)
  token_found (Cons k) x ts m closed few is e = by_atom x ts m (ap (r.application n R) is ∙ ap (r.atom n R) (sym is)) (1, one_low, simple_found (Cons k) x ts m is e)
  token_found (Int k) x ts m closed few is e = by_atom x ts m (ap (r.application n R) is ∙ ap (r.atom n R) (sym is)) (1, one_low, simple_found (Int k) x ts m is e)
  token_found (Char k) x ts m closed few is e = by_atom x ts m (ap (r.application n R) is ∙ ap (r.atom n R) (sym is)) (1, one_low, simple_found (Char k) x ts m is e)
  token_found (Text k) x ts m closed few is e = by_atom x ts m (ap (r.application n R) is ∙ ap (r.atom n R) (sym is)) (1, one_low, simple_found (Text k) x ts m is e)

  -- an atom where an application may stand
  pub loose_atom : (x : Tree) (ts m : List Token) → r.begins_atom m ≡ false → length ts ≤ n → At (g.rule (IsExpr d) Atom) x ts m → Found (r.application n R) x ts m
  loose_atom x ts m closed few a = which a.2
    where
      by_word : (w : Fixed) → is_word KwRun (Word w) ≡ false → is_word KwMerge (Word w) ≡ false → (l : List Token) → a.0 ≡ Word w ∷ l → Found (r.application n R) x ts m
      by_word w run merge l is = by_atom x ts m (word_atom w run merge ts (l ++ m) (a.1 ∙ ap (λ u. u ++ m) is)) (atom_found x ts m few a)

      which : g.rule (IsExpr d) Atom x a.0 → Found (r.application n R) x ts m
      which (inl b) = token_found b.0 x ts m closed few (a.1 ∙ ap (λ u. u ++ m) b.1) b.2
      which (inr (inl b)) = by_word KwLast refl refl b.2.0 b.2.1
      which (inr (inr (inl b))) = by_word Question refl refl b.2.0 b.2.1
      which (inr (inr (inr (inl b)))) = by_word ParenLeft refl refl (Word ParenRight ∷ []) b.1
      which (inr (inr (inr (inr (inl b))))) = by_word ParenLeft refl refl b.0 b.1
      which (inr (inr (inr (inr (inr (inl b)))))) = by_word ParenLeft refl refl b.2.0 b.2.1
      which (inr (inr (inr (inr (inr (inr b)))))) = by_word ParenLeft refl refl b.2.0 b.2.1

  pub application_found : (x : Tree) (ts m : List Token) → r.begins_atom m ≡ false → length ts ≤ n → At (g.rule (IsExpr d) App) x ts m → Found (r.application n R) x ts m
  application_found x ts m closed few a = which a.2
    where
      which : g.rule (IsExpr d) App x a.0 → Found (r.application n R) x ts m
      which (inl b) =
          let c = call_found b.0 ts m closed few (a.0, a.1, b.2) in
          let f = named_found b.0 ts m c in
          (f.0, f.1, call_application ts c.3 ∙ f.2 ∙ (λ i. Some (sym b.1 i, f.0, m)))
      which (inr (inl b)) = prefixed_found x ts m few (a.0, a.1, b)
      which (inr (inr (inl b))) = merge_found x ts m closed few (a.0, a.1, b)
      which (inr (inr (inr b))) = merged_found x ts m few (a.0, a.1, b)

  -- what operators stand between

  abbrev pub Common : Token → Type 0
  Common t = (is_word Minus t ≡ false) × (is_word KwNot t ≡ false) × (is_word KwPre t ≡ false) × (is_word KwIf t ≡ false)

  opening_common : (t : Token) → r.opens_atom t ≡ true → Common t
  opening_common t e = (not_opening Minus t refl e, not_opening KwNot t refl e, not_opening KwPre t refl e, not_opening KwIf t refl e)

  app_first : (S : Level → Phrase Tree) (x : Tree) (u : List Token) → g.rule S App x u → (t : Token) × (l : List Token) × (u ≡ t ∷ l) × Common t
  app_first S x u (inl (c, is, inl b)) = (Id b.0.0, b.2.1, b.2.2 ∙ ap (λ f. f ++ b.2.1) b.2.3, (refl, refl, refl, refl))
  app_first S x u (inl (c, is, inr b)) = (Word KwRun, b.2.0, b.2.1, (refl, refl, refl, refl))
  app_first S x u (inr (inl b)) = (Prefix b.0, b.2, b.3, (refl, refl, refl, refl))
  app_first S x u (inr (inr (inl b))) = (Word KwMerge, b.2.0, b.2.1, (refl, refl, refl, refl))
  app_first S x u (inr (inr (inr b))) = (Word KwMerge, b.2.0, b.2.1, (refl, refl, refl, refl))

  abbrev pub OperandFound : Tree → List Token → List Token → Type 0
  OperandFound x ts m = (h : ℕ) × (h ≤ suc d) × (r.operand n R ts ≡ Some (x, h, m)) × (starts KwIf ts ≡ false)

  by_application : (x : Tree) (ts m : List Token) (t : Token) (l : List Token) → ts ≡ t ∷ l → Common t → Found (r.application n R) x ts m → OperandFound x ts m
  unfolding r.operand
  by_application x ts m t l is c f = (
    f.0,
    f.1,
    if_no (starts Minus ts) (form_of (unary op.Neg) (behind Minus (R Unary)) ts)
        (if starts KwNot ts then form_of (unary op.Not) (behind KwNot (R Unary)) ts else if starts KwPre ts then form_of previous (behind KwPre (R Unary)) ts else r.application n R ts) (Some (x, f.0, m)) (starts_no Minus t ts l is c.0)
        (if_no (starts KwNot ts) (form_of (unary op.Not) (behind KwNot (R Unary)) ts) (if starts KwPre ts then form_of previous (behind KwPre (R Unary)) ts else r.application n R ts) (Some (x, f.0, m)) (starts_no KwNot t ts l is c.1)
        (if_no (starts KwPre ts) (form_of previous (behind KwPre (R Unary)) ts) (r.application n R ts) (Some (x, f.0, m)) (starts_no KwPre t ts l is c.2) f.2)),
    starts_no KwIf t ts l is c.3,
  )

  quiet_unary : (m : List Token) → r.begins_atom m ≡ false → Quiet Unary m
  quiet_unary m closed = (closed, λ p e. let f = infix_first m p e in let b = between_at f.0 p.0 f.2 in less (rank (level_of p.0)) b.1)
    where
      less : (a : ℕ) → a ≤ 8 → a < 9
      less a le = omega arith

  unary_found : (x : Tree) (ts m : List Token) → r.begins_atom m ≡ false → length ts ≤ n → At (g.rule (IsExpr d) Unary) x ts m → OperandFound x ts m
  unfolding r.operand
  unary_found x ts m closed few a = which a.2
    where
      which : g.rule (IsExpr d) Unary x a.0 → OperandFound x ts m
      which (inl b) =
          let at : At ((Minus ▷ IsExpr d Unary) ⇒ unary op.Neg) x ts m = (a.0, a.1, b) in
          let made = of_made (Minus ▷ IsExpr d Unary) (unary op.Neg) x ts m at in
          let w = of_word (IsExpr d Unary) Minus made.0 ts m made.2 in
          let f = (sure_form (unary op.Neg) small (sure_behind Minus (ih Unary))).finds ts m x few (quiet_unary m closed) at in (
            f.0,
            f.1,
            if_yes (starts Minus ts) (form_of (unary op.Neg) (behind Minus (R Unary)) ts)
                (if starts KwNot ts then form_of (unary op.Not) (behind KwNot (R Unary)) ts else if starts KwPre ts then form_of previous (behind KwPre (R Unary)) ts else r.application n R ts) (Some (x, f.0, m)) (starts_yes Minus ts w.0 w.1) f.2,
            starts_no KwIf (Word Minus) ts w.0 w.1 refl,
          )
      which (inr (inl b)) =
          let at : At ((KwNot ▷ IsExpr d Unary) ⇒ unary op.Not) x ts m = (a.0, a.1, b) in
          let made = of_made (KwNot ▷ IsExpr d Unary) (unary op.Not) x ts m at in
          let w = of_word (IsExpr d Unary) KwNot made.0 ts m made.2 in
          let f = (sure_form (unary op.Not) small (sure_behind KwNot (ih Unary))).finds ts m x few (quiet_unary m closed) at in (
            f.0,
            f.1,
            if_no (starts Minus ts) (form_of (unary op.Neg) (behind Minus (R Unary)) ts)
                (if starts KwNot ts then form_of (unary op.Not) (behind KwNot (R Unary)) ts else if starts KwPre ts then form_of previous (behind KwPre (R Unary)) ts else r.application n R ts) (Some (x, f.0, m)) (starts_no Minus (Word KwNot) ts w.0 w.1 refl)
                (if_yes (starts KwNot ts) (form_of (unary op.Not) (behind KwNot (R Unary)) ts) (if starts KwPre ts then form_of previous (behind KwPre (R Unary)) ts else r.application n R ts) (Some (x, f.0, m)) (starts_yes KwNot ts w.0 w.1) f.2),
            starts_no KwIf (Word KwNot) ts w.0 w.1 refl,
          )
      which (inr (inr b)) =
          let at : At ((KwPre ▷ IsExpr d Unary) ⇒ previous) x ts m = (a.0, a.1, b) in
          let made = of_made (KwPre ▷ IsExpr d Unary) previous x ts m at in
          let w = of_word (IsExpr d Unary) KwPre made.0 ts m made.2 in
          let f = (sure_form previous small (sure_behind KwPre (ih Unary))).finds ts m x few (quiet_unary m closed) at in (
            f.0,
            f.1,
            if_no (starts Minus ts) (form_of (unary op.Neg) (behind Minus (R Unary)) ts)
                (if starts KwNot ts then form_of (unary op.Not) (behind KwNot (R Unary)) ts else if starts KwPre ts then form_of previous (behind KwPre (R Unary)) ts else r.application n R ts) (Some (x, f.0, m)) (starts_no Minus (Word KwPre) ts w.0 w.1 refl)
                (if_no (starts KwNot ts) (form_of (unary op.Not) (behind KwNot (R Unary)) ts) (if starts KwPre ts then form_of previous (behind KwPre (R Unary)) ts else r.application n R ts) (Some (x, f.0, m)) (starts_no KwNot (Word KwPre) ts w.0 w.1 refl)
                (if_yes (starts KwPre ts) (form_of previous (behind KwPre (R Unary)) ts) (r.application n R ts) (Some (x, f.0, m)) (starts_yes KwPre ts w.0 w.1) f.2)),
            starts_no KwIf (Word KwPre) ts w.0 w.1 refl,
          )

  -- what stands right of an operator

  abbrev pub Joined : (l : Level) (make : Tree → Tree → Tree) (e : Tree) (h : ℕ) (ts : List Token) → Option (Got Tree)
  Joined l make e h ts = R l ts >>= λ y. taller (max h y.1) >>= λ k. Some (make y.0 e, k, y.2)

  right_found : (l : Level) (make : Tree → Tree → Tree) (f : Tree → Tree) (e : Tree) (h : ℕ) (ts m : List Token) → h ≤ d → length ts ≤ n → Follow l m → At (IsExpr d l ⇒ make) f ts m
      → (k : ℕ) × (k ≤ suc d) × (Joined l make e h ts ≡ Some (f e, k, m))
  right_found l make f e h ts m low few follow a =
      let made = of_made (IsExpr d l) make f ts m a in
      let c = (ih l).finds ts m made.0 few follow made.2 in
      let high = max_le h c.0 d low c.1 in (
        max h c.0 + 1,
        suc_le (max h c.0) d high,
        then_some (λ y. taller (max h y.1) >>= λ k. Some (make y.0 e, k, y.2)) (R l ts) (made.0, c.0, m) (Some (f e, max h c.0 + 1, m)) c.2
            (then_some (λ k. Some (make made.0 e, k, m)) (taller (max h c.0)) (max h c.0 + 1) (Some (f e, max h c.0 + 1, m)) (taller_reads (max h c.0) d high small) (λ i. Some (sym made.1 i e, max h c.0 + 1, m))),
      )

  condition_found : (c : Name × Case) (ts m : List Token) → At g.condition c ts m → r.condition ts ≡ Some (c, m)
  unfolding r.condition
  condition_found c ts m a = which a.2
    where
      which : g.condition c a.0 → r.condition ts ≡ Some (c, m)
      which (inl b) = ap r.condition (a.1 ∙ ap (λ u. u ++ m) b.2) ∙ (λ i. Some (sym b.1 i, m))
      which (inr b) =
          let e = of_both constructor (ParenLeft ▷ (identifier ◁ ParenRight)) b.0 ts m (a.0, a.1, b.2) in
          let first : ts ≡ Cons b.0.0 ∷ e.0 = e.1.1 ∙ ap (λ u. u ++ e.0) e.1.2 in
          let w = of_word (identifier ◁ ParenRight) ParenLeft b.0.1 e.0 m e.2 in
          let v = of_end identifier ParenRight b.0.1 w.0 m w.2 in
          ap r.condition first
          ∙ then_some (λ m. name m >>= λ p. word ParenRight p.1 >>= λ m. Some ((p.0, case.Of b.0.0), m)) (word ParenLeft e.0) w.0 (Some (c, m)) (word_reads ParenLeft e.0 w.0 w.1)
          (then_some (λ p. word ParenRight p.1 >>= λ m. Some ((p.0, case.Of b.0.0), m)) (name w.0) (b.0.1, Word ParenRight ∷ m) (Some (c, m)) (name_reads b.0.1 w.0 (Word ParenRight ∷ m) v)
          (then_some (λ m. Some ((b.0.1, case.Of b.0.0), m)) (word ParenRight (Word ParenRight ∷ m)) m (Some (c, m)) (word_reads ParenRight (Word ParenRight ∷ m) m refl) (λ i. Some (sym b.1 i, m))))

  pub suffix_found : (o : Infix) (f : Tree → Tree) (e : Tree) (h : ℕ) (ts m : List Token) → h ≤ d → length ts ≤ n → Ready o m → At (g.operand (IsExpr d) o) f ts m
      → (k : ℕ) × (k ≤ suc d) × (r.suffix n R o e h ts ≡ Some (f e, k, m))
  unfolding r.suffix
  suffix_found between.Init f e h ts m low few ready a = right_found Expr (λ y x. node (form.Init x y)) f e h ts m low few ready a
  suffix_found between.Fby f e h ts m low few ready a = right_found Delay (λ y x. node (form.Fby x y)) f e h ts m low few ready a
  suffix_found (between.Binary l o) f e h ts m low few ready a = right_found (right l) (λ y x. binary o x y) f e h ts m low few ready a
  suffix_found between.When f e h ts m low few ready a =
      let made = of_made g.condition (λ c x. node (form.When x c.0 c.1)) f ts m a in (
        h + 1,
        suc_le h d low,
        then_some (λ c. taller h >>= λ k. Some (node (form.When e c.0.0 c.0.1), k, c.1)) (r.condition ts) (made.0, m) (Some (f e, h + 1, m)) (condition_found made.0 ts m made.2)
            (then_some (λ k. Some (node (form.When e made.0.0 made.0.1), k, m)) (taller h) (h + 1) (Some (f e, h + 1, m)) (taller_reads h d low small) (λ i. Some (sym made.1 i e, h + 1, m))),
      )
  suffix_found between.Whenot f e h ts m low few ready a =
      let made = of_made identifier (λ c x. node (form.When x c case.False)) f ts m a in (
        h + 1,
        suc_le h d low,
        then_some (λ c. taller h >>= λ k. Some (node (form.When e c.0 case.False), k, c.1)) (name ts) (made.0, m) (Some (f e, h + 1, m)) (name_reads made.0 ts m made.2)
            (then_some (λ k. Some (node (form.When e made.0 case.False), k, m)) (taller h) (h + 1) (Some (f e, h + 1, m)) (taller_reads h d low small) (λ i. Some (sym made.1 i e, h + 1, m))),
      )

-- operators

-- the level from which climbing goes on behind a phrase of a level
abbrev pub behind_level : Level → Level
behind_level App = Unary
behind_level Atom = Unary
behind_level l = l

-- the least level that an operator behind a phrase of a level does not reach
abbrev pub limit_of : Level → ℕ
limit_of Expr = 0
limit_of Init = 0
limit_of Delay = 2
limit_of Samp = 100
limit_of Disj = 5
limit_of Conj = 6
limit_of Comp = 7
limit_of Sum = 8
limit_of Prod = 9
limit_of _ = 100

-- no operator that follows belongs to the last operand of a phrase of a level
abbrev pub Stop : Level → List Token → Type 0
Stop k m = (r.begins_atom m ≡ false) × ((p : Infix × List Token) → r.infix_at m ≡ Some p → rank (level_of p.0) < limit_of k)

-- a phrase is read as an operand, and climbing goes on behind it
abbrev pub Climbed : (n : ℕ) (R : Level → Reader Tree) → ℕ → Level → Tree → List Token → List Token → Level → Type 0
Climbed n R D k x ts m least = (h : ℕ) × (h ≤ D) × (j : ℕ) × (length m ≤ j) × (starts KwIf ts ≡ false)
    × ((r.operand n R ts >>= λ y. r.climb n R n least Unary y.0 y.1 y.2) ≡ r.climb n R j least (behind_level k) x h m)

abbrev pub Climbs : (n : ℕ) (R : Level → Reader Tree) → ℕ → Level → Tree → List Token → List Token → Type 0
Climbs n R D l x ts m = (k : Level) × (rank l ≤ rank k) × (1 ≤ rank k) × (Stop k m → (least : Level) → rank least ≤ rank k → rank least ≤ 9 → Climbed n R D k x ts m least)

closed_infix : (w : Fixed) (o : Infix) → infix_of w ≡ Some o → r.opens w ≡ false
closed_infix KwTrue o e = absurd (none_some o e)
closed_infix KwFalse o e = absurd (none_some o e)
closed_infix KwLast o e = absurd (none_some o e)
closed_infix Question o e = absurd (none_some o e)
closed_infix ParenLeft o e = absurd (none_some o e)
closed_infix _ o e = refl

-- the operands of a level of operators
left_facts : (k : Level) → 1 ≤ rank k → rank k ≤ 8 → (rank k ≤ rank (left k)) × (rank (left k) ≤ 8) × (2 ≤ rank (left k)) × (rank (left k) ≤ 2 → rank k ≤ 1) × (rank (left k) ≤ 6 → rank k ≤ 6)
left_facts Expr a b = absurd (omega arith)
left_facts Unary a b = absurd (omega arith)
left_facts App a b = absurd (omega arith)
left_facts Atom a b = absurd (omega arith)
left_facts Init a b = (omega arith, omega arith, omega arith, λ e. omega arith, λ e. omega arith)
left_facts Delay a b = (omega arith, omega arith, omega arith, λ e. omega arith, λ e. omega arith)
left_facts Samp a b = (omega arith, omega arith, omega arith, λ e. omega arith, λ e. omega arith)
left_facts Disj a b = (omega arith, omega arith, omega arith, λ e. omega arith, λ e. omega arith)
left_facts Conj a b = (omega arith, omega arith, omega arith, λ e. omega arith, λ e. omega arith)
left_facts Comp a b = (omega arith, omega arith, omega arith, λ e. omega arith, λ e. omega arith)
left_facts Sum a b = (omega arith, omega arith, omega arith, λ e. omega arith, λ e. omega arith)
left_facts Prod a b = (omega arith, omega arith, omega arith, λ e. omega arith, λ e. omega arith)

-- an operator is not part of the last operand of what stands left of it
within_limit : (k1 : Level) (a c : ℕ) → c ≤ rank k1 → a ≤ c → a ≤ 8 → 2 ≤ c → (c ≤ 2 → a ≤ 1) → (c ≤ 6 → a ≤ 6) → a < limit_of k1
within_limit Expr a c l1 l2 l3 l4 f g = absurd (omega arith)
within_limit Init a c l1 l2 l3 l4 f g = absurd (omega arith)
within_limit Delay a c l1 l2 l3 l4 f g = let q : a ≤ 1 = f l1 in omega arith
within_limit Samp a c l1 l2 l3 l4 f g = omega arith
within_limit Disj a c l1 l2 l3 l4 f g = omega arith
within_limit Conj a c l1 l2 l3 l4 f g = omega arith
within_limit Comp a c l1 l2 l3 l4 f g = let q : a ≤ 6 = g l1 in omega arith
within_limit Sum a c l1 l2 l3 l4 f g = omega arith
within_limit Prod a c l1 l2 l3 l4 f g = omega arith
within_limit Unary a c l1 l2 l3 l4 f g = omega arith
within_limit App a c l1 l2 l3 l4 f g = omega arith
within_limit Atom a c l1 l2 l3 l4 f g = omega arith

reaches : (k1 : Level) (c : ℕ) → c ≤ rank k1 → c ≤ 8 → c ≤ rank (behind_level k1)
reaches App c a b = omega arith
reaches Atom c a b = omega arith
reaches _ c a b = a

chain_behind : (k : Level) → rank k ≤ 8 → behind_level k ≡ k
chain_behind App a = absurd (omega arith)
chain_behind Atom a = absurd (omega arith)
chain_behind _ a = refl

goes : (least from : Level) (o : Infix) → rank least ≤ rank (level_of o) → rank (left (level_of o)) ≤ rank from → r.goes_on least from o ≡ true
goes least from o a b = (λ i. not (le-ltb (rank (level_of o)) (rank least) a i) && not (le-ltb (rank from) (rank (left (level_of o))) b i))

-- which levels binary operators have
IsBinary : Option Infix → Type 0
IsBinary (Some (between.Binary l o)) = (4 ≤ rank l) × (rank l ≤ 8)
IsBinary _ = Unit {0}

all_binary : (w : Fixed) → IsBinary (infix_of w)
unfolding IsBinary
all_binary KwOr = (omega arith, omega arith)
all_binary KwXor = (omega arith, omega arith)
all_binary Ampersand = (omega arith, omega arith)
all_binary Equal = (omega arith, omega arith)
all_binary Differ = (omega arith, omega arith)
all_binary Less = (omega arith, omega arith)
all_binary LessEq = (omega arith, omega arith)
all_binary Greater = (omega arith, omega arith)
all_binary GreaterEq = (omega arith, omega arith)
all_binary Plus = (omega arith, omega arith)
all_binary Minus = (omega arith, omega arith)
all_binary Star = (omega arith, omega arith)
all_binary Slash = (omega arith, omega arith)
all_binary KwMod = (omega arith, omega arith)
all_binary _ = tt

binary_at : (w : Fixed) (l : Level) (o : Op) → infix_of w ≡ Some (between.Binary l o) → (4 ≤ rank l) × (rank l ≤ 8)
unfolding IsBinary
binary_at w l o e = subst IsBinary e (all_binary w)

stop_right : (l : Level) → 4 ≤ rank l → rank l ≤ 8 → (m : List Token) → Stop l m → Follow (right l) m
stop_right Disj a b m s = s
stop_right Conj a b m s = s
stop_right Comp a b m s = s
stop_right Sum a b m s = s
stop_right Prod a b m s = s
stop_right _ a b m s = absurd (omega arith)

ready : (w : Fixed) (o : Infix) → infix_of w ≡ Some o → (m : List Token) → Stop (level_of o) m → Ready o m
ready w between.Init is m s = s
ready w between.Fby is m s = s
ready w between.When is m s = tt
ready w between.Whenot is m s = tt
ready w (between.Binary l o) is m s = let b = binary_at w l o is in stop_right l b.0 b.1 m s

limit_below : (own : Level) (a c : ℕ) → a < c → c ≤ rank own → 1 ≤ a → a ≤ 8 → a < limit_of own
limit_below Expr a c l1 l2 l3 l4 = absurd (omega arith)
limit_below Init a c l1 l2 l3 l4 = absurd (omega arith)
limit_below Delay a c l1 l2 l3 l4 = omega arith
limit_below Samp a c l1 l2 l3 l4 = omega arith
limit_below Disj a c l1 l2 l3 l4 = omega arith
limit_below Conj a c l1 l2 l3 l4 = omega arith
limit_below Comp a c l1 l2 l3 l4 = omega arith
limit_below Sum a c l1 l2 l3 l4 = omega arith
limit_below Prod a c l1 l2 l3 l4 = omega arith
limit_below Unary a c l1 l2 l3 l4 = omega arith
limit_below App a c l1 l2 l3 l4 = omega arith
limit_below Atom a c l1 l2 l3 l4 = omega arith

quiet_stop : (l own : Level) → rank l ≤ rank own → (m : List Token) → Quiet l m → Stop own m
quiet_stop l own le m q = (
  q.0,
  λ p e.
      let f = infix_first m p e in
      let b = between_at f.0 p.0 f.2 in
      limit_below own (rank (level_of p.0)) (rank l) (q.1 p e) le b.0 b.1,
)

app_or_atom : (k : Level) → 10 ≤ rank k → (k ≡ App) ⊎ (k ≡ Atom)
app_or_atom App le = inl refl
app_or_atom Atom le = inr refl
app_or_atom _ le = absurd (omega arith)

infix_reads : (w : Fixed) (o : Infix) (ts m : List Token) → ts ≡ Word w ∷ m → infix_of w ≡ Some o → r.infix_at ts ≡ Some (o, m)
unfolding r.infix_at
infix_reads w o ts m is e = ap r.infix_at is ∙ ap (λ q. q >>= λ o. Some (o, m)) e

-- one operator, where climbing goes on
step_once : (n : ℕ) (R : Level → Reader Tree) (least from next : Level) (o : Infix) (e x : Tree) (h k : ℕ) (ts l m : List Token) → length l + 1 ≤ length ts → length m ≤ length l → r.infix_at ts ≡ Some (o, l) → r.goes_on least from o ≡ true
    → r.suffix n R o e h l ≡ Some (x, k, m) → level_of o ≡ next → (j : ℕ) → length ts ≤ j → (i : ℕ) × (length m ≤ i) × (r.climb n R j least from e h ts ≡ r.climb n R i least next x k m)
step_once n R least from next o e x h k ts l m one two found go read is zero few = absurd (omega arith)
step_once n R least from next o e x h k ts l m one two found go read is (suc j) few = (
  j,
  omega arith,
  ap (λ p. unwrap_or (option_map (λ p. if r.goes_on least from p.0 then (r.suffix n R p.0 e h p.1 >>= λ x. r.climb n R j least (level_of p.0) x.0 x.1 x.2) else Some (e, h, ts)) p) (Some (e, h, ts))) found
      ∙ if_yes (r.goes_on least from o) (r.suffix n R o e h l >>= λ x. r.climb n R j least (level_of o) x.0 x.1 x.2) (Some (e, h, ts)) (r.climb n R j least (level_of o) x k m) go
      (then_some (λ x. r.climb n R j least (level_of o) x.0 x.1 x.2) (r.suffix n R o e h l) (x, k, m) (r.climb n R j least (level_of o) x k m) read refl)
      ∙ (λ i. r.climb n R j least (is i) x k m),
)

module _ (n d : ℕ) (small : suc d ≤ 200) (R : Level → Reader Tree) (ih : (l : Level) → Sure Tree n d (R l) (IsExpr d l) (Follow l)) (inner : Sure Tree n d (r.phrase n R Expr) (IsExpr d Expr) (Quiet Expr))
    (before : (l : Level) (x : Tree) (ts m : List Token) → 1 ≤ rank l → length ts ≤ n → At (IsExpr d l) x ts m → Climbs n R d l x ts m) where
  operand_climbed : (k : Level) → behind_level k ≡ Unary → (x : Tree) (ts m : List Token) → length m ≤ n → OperandFound n d small R ih inner x ts m → (least : Level) → Climbed n R (suc d) k x ts m least
  operand_climbed k is x ts m few f least =
      (f.0, f.1, n, few, f.3, then_some (λ y. r.climb n R n least Unary y.0 y.1 y.2) (r.operand n R ts) (x, f.0, m) (r.climb n R n least (behind_level k) x f.0 m) f.2 (λ i. r.climb n R n least (sym is i) x f.0 m))

  operation_climbs : (k : Level) → 1 ≤ rank k → rank k ≤ 8 → (x : Tree) (ts m : List Token) → length ts ≤ n → At (g.operation (IsExpr d) k) x ts m → Stop k m → (least : Level) → rank least ≤ rank k → rank least ≤ 9 → Climbed n R (suc d) k x ts m least
  unfolding r.begins_atom
  operation_climbs k low high x ts m few a stop least le nine =
      let w = a.2.0 in
      let o = a.2.1 in
      let is = a.2.2 in
      let lev = a.2.3 in
      let p = a.2.4.0 in
      let b = of_both (IsExpr d (left k)) (w ▷ g.operand (IsExpr d) o) p ts m (a.0, a.1, a.2.4.2) in
      let c = of_word (g.operand (IsExpr d) o) w p.1 b.0 m b.2 in
      let facts = left_facts k low high in
      let one : 1 ≤ rank (left k) = le_trans 1 2 (rank (left k)) (omega arith) facts.2 in
      let before_left = before (left k) p.0 ts b.0 one few b.1 in
      let k1 = before_left.0 in
      let found = infix_reads w o b.0 c.0 c.1 is in
      let edge : rank k < limit_of k1 = within_limit k1 (rank k) (rank (left k)) before_left.1 facts.0 high facts.2 facts.3 facts.4 in
      let stop1 : Stop k1 b.0 = (
        ap r.begins_atom c.1 ∙ closed_infix w o is,
        λ q e.
            let same = some_one (o, c.0) q (sym found ∙ e) in
            subst (λ l. rank l < limit_of k1) (sym lev ∙ (λ i. level_of (same i).0)) edge,
      ) in
      let up : rank k ≤ rank k1 = le_trans (rank k) (rank (left k)) (rank k1) facts.0 before_left.1 in
      let climbed = before_left.3 stop1 least (le_trans (rank least) (rank k) (rank k1) le up) nine in
      let l1 = one_longer (Word w) b.0 c.0 c.1 in
      let l2 = not_longer (IsExpr d (left k)) p.0 ts b.0 b.1 in
      let l3 = not_longer (g.operand (IsExpr d) o) p.1 c.0 m c.2 in
      let few2 : length c.0 ≤ n = omega arith in
      let one_more : length c.0 + 1 ≤ length b.0 = omega arith in
      let right_side = suffix_found n d small R ih inner o p.1 p.0 climbed.0 c.0 m climbed.1 few2 (ready w o is m (subst (λ l. Stop l m) (sym lev) stop)) c.2 in
      let go = goes least (behind_level k1) o (subst (λ l. rank least ≤ rank l) (sym lev) le) (subst (λ l. rank (left l) ≤ rank (behind_level k1)) (sym lev) (reaches k1 (rank (left k)) before_left.1 facts.1)) in
      let next = step_once n R least (behind_level k1) (behind_level k) o p.0 (p.1 p.0) climbed.0 right_side.0 b.0 c.0 m one_more l3 found go right_side.2 (lev ∙ sym (chain_behind k high)) climbed.2 climbed.3 in
      (right_side.0, right_side.1, next.0, next.1, climbed.4, climbed.5 ∙ next.2 ∙ (λ i. r.climb n R next.0 least (behind_level k) (sym a.2.4.1 i) right_side.0 m))

  rule_climbs : (k : Level) → 1 ≤ rank k → (x : Tree) (ts m : List Token) → length ts ≤ n → At (g.rule (IsExpr d) k) x ts m → Stop k m → (least : Level) → rank least ≤ rank k → rank least ≤ 9 → Climbed n R (suc d) k x ts m least
  rule_climbs Expr low x ts m few a stop least le nine = absurd (omega arith)
  rule_climbs Unary low x ts m few a stop least le nine =
      operand_climbed Unary refl x ts m (le_trans (length m) (length ts) n (not_longer (g.rule (IsExpr d) Unary) x ts m a) few) (unary_found n d small R ih inner x ts m stop.0 few a) least
  rule_climbs App low x ts m few a stop least le nine =
      let f = app_first n d small R ih inner (IsExpr d) x a.0 a.2 in
      operand_climbed App refl x ts m (le_trans (length m) (length ts) n (not_longer (g.rule (IsExpr d) App) x ts m a) few)
      (by_application n d small R ih inner x ts m f.0 (f.1 ++ m) (a.1 ∙ ap (λ u. u ++ m) f.2) f.3 (application_found n d small R ih inner x ts m stop.0 few a)) least
  rule_climbs Atom low x ts m few a stop least le nine =
      let f = atom_first (IsExpr d) x a.0 a.2 in
      operand_climbed Atom refl x ts m (le_trans (length m) (length ts) n (not_longer (g.rule (IsExpr d) Atom) x ts m a) few)
      (by_application n d small R ih inner x ts m f.0 (f.1 ++ m) (a.1 ∙ ap (λ u. u ++ m) f.2) (opening_common n d small R ih inner f.0 f.3) (loose_atom n d small R ih inner x ts m stop.0 few a)) least
  rule_climbs k low x ts m few a stop least le nine = operation_climbs k low (omega arith) x ts m few a stop least le nine

  climb_all : (l : Level) → rank l ≤ 9 → (own : Level) → rank l ≤ rank own → 1 ≤ rank own → (x : Tree) (ts m : List Token) → length ts ≤ n → At (g.rule (IsExpr d) own) x ts m → Quiet l m
      → (h : ℕ) × (h ≤ suc d) × (starts KwIf ts ≡ false) × ((r.operand n R ts >>= λ y. r.climb n R n l Unary y.0 y.1 y.2) ≡ Some (x, h, m))
  climb_all l nine own le low x ts m few a quiet =
      let c = rule_climbs own low x ts m few a (quiet_stop l own le m quiet) l le nine in
      (c.0, c.1, c.4, c.5 ∙ climb_ends n R c.2 l (behind_level own) x c.0 m quiet.1)

  pub next_before : (l : Level) (x : Tree) (ts m : List Token) → 1 ≤ rank l → length ts ≤ n → At (IsExpr (suc d) l) x ts m → Climbs n R (suc d) l x ts m
  next_before l x ts m low few a =
      let up = le_trans 1 (rank l) (rank a.2.0) low a.2.1 in
      (a.2.0, a.2.1, up, λ stop least le nine. rule_climbs a.2.0 up x ts m few (a.0, a.1, a.2.2) stop least le nine)

  plain_level : (l : Level) → 1 ≤ rank l → rank l ≤ 9 → (x : Tree) (ts m : List Token) → length ts ≤ n → At (IsExpr (suc d) l) x ts m → Quiet l m → (h : ℕ) × (h ≤ suc d) × ((r.operand n R ts >>= λ y. r.climb n R n l Unary y.0 y.1 y.2) ≡ Some (x, h, m))
  plain_level l low nine x ts m few a quiet =
      let c = climb_all l nine a.2.0 a.2.1 (le_trans 1 (rank l) (rank a.2.0) low a.2.1) x ts m few (a.0, a.1, a.2.2) quiet in
      (c.0, c.1, c.3)

  whole_level : (x : Tree) (ts m : List Token) → length ts ≤ n → (own : Level) → At (g.rule (IsExpr d) own) x ts m → Quiet Expr m → (h : ℕ) × (h ≤ suc d) × (r.phrase n R Expr ts ≡ Some (x, h, m))
  unfolding r.phrase
  whole_level x ts m few Expr a quiet =
      let c = conditional_found n d small R ih inner ts m x few quiet a in
      let made = of_made (KwIf ▷ (IsExpr d Expr ⊗ (KwThen ▷ (IsExpr d Expr ⊗ (KwElse ▷ IsExpr d Expr))))) chosen x ts m a in
      let w = of_word (IsExpr d Expr ⊗ (KwThen ▷ (IsExpr d Expr ⊗ (KwElse ▷ IsExpr d Expr)))) KwIf made.0 ts m made.2 in
      (c.0, c.1, if_yes (starts KwIf ts) (r.conditional n R ts) (r.operand n R ts >>= λ x. r.climb n R n Expr Unary x.0 x.1 x.2) (Some (x, c.0, m)) (starts_yes KwIf ts w.0 w.1) c.2)
  whole_level x ts m few own a quiet =
      let c = climb_all Expr (omega arith) own (omega arith) (omega arith) x ts m few a quiet in
      (c.0, c.1, if_no (starts KwIf ts) (r.conditional n R ts) (r.operand n R ts >>= λ x. r.climb n R n Expr Unary x.0 x.1 x.2) (Some (x, c.0, m)) c.2 c.3)

  app_level : (x : Tree) (ts m : List Token) → length ts ≤ n → (own : Level) → 10 ≤ rank own → At (g.rule (IsExpr d) own) x ts m → Quiet App m → Found n d small R ih inner (r.application n R) x ts m
  app_level x ts m few own le a quiet = elim (app_or_atom own le) [
    | inl e ↦ application_found n d small R ih inner x ts m quiet.0 few (subst (λ k. At (g.rule (IsExpr d) k) x ts m) e a)
    | inr e ↦ loose_atom n d small R ih inner x ts m quiet.0 few (subst (λ k. At (g.rule (IsExpr d) k) x ts m) e a)
  ]

  pub phrase_sure : (l : Level) → Sure Tree n (suc d) (r.phrase n R l) (IsExpr (suc d) l) (Follow l)
  unfolding r.phrase
  phrase_sure Atom = record { finds = λ ts m x few follow a. atom_found n d small R ih inner x ts m few (subst (λ k. At (g.rule (IsExpr d) k) x ts m) (only_atom a.2.0 a.2.1) (a.0, a.1, a.2.2)) }
  phrase_sure App = record { finds = λ ts m x few follow a. app_level x ts m few a.2.0 a.2.1 (a.0, a.1, a.2.2) follow }
  phrase_sure Expr = record { finds = λ ts m x few follow a. whole_level x ts m few a.2.0 (a.0, a.1, a.2.2) follow }
  phrase_sure l = record { finds = λ ts m x few follow a. plain_level l (omega arith) (omega arith) x ts m few a follow }

-- what is found up to a height
abbrev pub Both : (n : ℕ) (R : Level → Reader Tree) → ℕ → Type 0
Both n R D = ((l : Level) → Sure Tree n D (r.phrase n R l) (IsExpr D l) (Follow l)) × ((l : Level) (x : Tree) (ts m : List Token) → 1 ≤ rank l → length ts ≤ n → At (IsExpr D l) x ts m → Climbs n R D l x ts m)

both_found : (n : ℕ) (R : Level → Reader Tree) (f : ℕ) → ((D : ℕ) → D ≤ f → D ≤ 200 → (l : Level) → Sure Tree n D (R l) (IsExpr D l) (Follow l)) → (D : ℕ) → D ≤ suc f → D ≤ 200 → Both n R D
both_found n R f ih zero le small = ((λ l. record { finds = λ ts m x few follow a. absurd a.2 }), λ l x ts m low few a. absurd a.2)
both_found n R f ih (suc d) le small =
    let lower : d ≤ f = omega arith in
    let low : d ≤ 200 = omega arith in
    let up : d ≤ suc f = omega arith in
    let b = both_found n R f ih d up low in
    (phrase_sure n d small R (ih d lower low) (b.0 Expr) b.1, next_before n d small R (ih d lower low) (b.0 Expr) b.1)

-- each expression is read
pub sure_expression : (n f D : ℕ) → D ≤ f → D ≤ 200 → (l : Level) → Sure Tree n D (r.expression n f l) (IsExpr D l) (Follow l)
unfolding r.expression
sure_expression n zero zero le small l = record { finds = λ ts m x few follow a. absurd a.2 }
sure_expression n zero (suc D) le small l = absurd (omega arith)
sure_expression n (suc f) D le small l = record { finds = λ ts m x few follow a. ((both_found n (r.expression n f) f (sure_expression n f) D le small).0 l).finds ts m x few follow a }
