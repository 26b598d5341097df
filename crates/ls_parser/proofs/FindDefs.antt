-- Each definition is read, and a file has one tree.
use Rattle.std.proofs.Common.{◌≡◌, ℕ, zero, suc, ◌+◌, ◌≤◌, inl, inr, Bool, true, false, List, [], ◌∷◌, ◌++◌, Option, Some, None, map, max, length, refl, sym, ◌∙◌, ap, subst, arith}
use Rattle.std.specs.Prelude.{nat_eq, ◌&&◌, ◌||◌}
use Rattle.std.proofs.lemmas.Bool.Decides.{eqb_tells}
use Rattle.ls_ast.specs.declared.tree.BodyOf.{BodyOf}
use Rattle.ls_ast.specs.declared.tree.DefOf.{DefOf}
use Rattle.ls_ast.specs.declared.tree.DefOf.TheVariants as def
use Rattle.ls_ast.specs.declared.tree.Equation.{Equation}
use Rattle.ls_ast.specs.declared.tree.Pat.{Pat}
use Rattle.ls_ast.specs.declared.tree.Plain.{Plain}
use Rattle.ls_base.specs.declared.Line.{Line}
use Rattle.ls_base.specs.declared.Name.{Name}
use Rattle.ls_lexer.specs.declared.token.Fixed.{Fixed}
use Rattle.ls_lexer.specs.declared.token.Fixed.TheVariants.{KwAnd, KwLet, KwNode, KwRec, KwType, KwWhere, Equal, Bar}
use Rattle.ls_lexer.specs.declared.token.Token.{Token}
use Rattle.ls_lexer.specs.declared.token.Token.TheVariants.{Fixed as Word, Id, Cons}
use Rattle.ls_parser.specs.declared.level.Level.TheVariants.{Expr}
use Rattle.ls_parser.specs.Levels.{infix_of}
use Rattle.ls_parser.specs.Making.{body_of, definition, or_none}
use Rattle.ls_parser.specs.Notation.{Phrase, ◌▷◌, ◌⊗◌, ◌⇒◌, many, some, separated, maybe, after, identifier, constructor}
use Rattle.ls_parser.specs.Grammar as g
use Rattle.ls_parser.specs.Grammar.{IsExpr, IsPat, IsEquation, IsBody, IsDef, IsDefinition, MayFollow}
use Rattle.ls_parser.specs.Definitions as r
use Rattle.ls_parser.specs.Equations as re
use Rattle.ls_parser.specs.Expressions as rx
use Rattle.ls_parser.specs.Expressions.{expression}
use Rattle.ls_parser.specs.Patterns.{pattern}
use Rattle.ls_parser.specs.Reading.{◌>>=◌, is_word, starts, behind, collect}
use Rattle.ls_parser.proofs.Front.{At, none_some, le_refl, le_trans}
use Rattle.ls_parser.proofs.Parts.{of_word, of_both, of_made, not_longer, then_some, if_yes, if_no, word_reads, starts_yes, starts_no, name_reads, constructor_reads, taller_reads, max_le, suc_le, Sure, row_found, row_short}
use Rattle.ls_parser.proofs.FindExpr.{Quiet, quiet_word, sure_expression, rest_few}
use Rattle.ls_parser.proofs.FindEqs.{Any, sure_pattern, pat_head, pat_takes, separated_found, of_after, eq_start, sure_both_kinds, skip_short, skips, unskipped}

-- what follows a definition
abbrev pub DefEnd : List Token → Type 0
DefEnd m = Quiet Expr m × (starts KwAnd m ≡ false) × (starts KwWhere m ≡ false) × (starts Bar m ≡ false)

word_end : (w : Fixed) → rx.opens w ≡ false → infix_of w ≡ None → is_word KwAnd (Word w) ≡ false → is_word KwWhere (Word w) ≡ false → is_word Bar (Word w) ≡ false → (m k : List Token) → m ≡ Word w ∷ k → DefEnd m
word_end w o i e f h m k is = (quiet_word w o i Expr m k is, starts_no KwAnd (Word w) m k is e, starts_no KwWhere (Word w) m k is f, starts_no Bar (Word w) m k is h)

nothing_end : DefEnd []
unfolding rx.begins_atom rx.infix_at starts
nothing_end = ((refl, λ p e. absurd (none_some p e)), refl, refl, refl)

abbrev pub words : List (Line × Token) → List Token
words = map (λ p. p.1)

pub follows_end : (ts : List (Line × Token)) → MayFollow ts → DefEnd (words ts) × (r.ends (words ts) ≡ true)
unfolding r.ends
follows_end [] f = (nothing_end, refl)
follows_end (t ∷ ts) (inl e) = (word_end KwLet refl refl refl refl refl (words (t ∷ ts)) (words ts) (ap (λ t. t ∷ words ts) e), ap (λ t. is_word KwLet t || is_word KwType t) e)
follows_end (t ∷ ts) (inr e) = (word_end KwType refl refl refl refl refl (words (t ∷ ts)) (words ts) (ap (λ t. t ∷ words ts) e), ap (λ t. is_word KwLet t || is_word KwType t) e)

module _ (n : ℕ) where
  case_sure : Sure Name n 0 r.case_alone constructor Any
  unfolding r.case_alone
  case_sure = record { finds = λ ts m x few follow a. (0, le_refl 0, then_some _ _ _ _ (constructor_reads x ts m a) refl) }

  constructor_first : (x : Name) (ts m : List Token) → At constructor x ts m → starts Bar ts ≡ false
  constructor_first x ts m a = starts_no Bar (Cons x) ts m (a.1 ∙ ap (λ u. u ++ m) a.2) refl

  cases_found : (xs : List Name) (ts m : List Token) → starts Bar m ≡ false → length ts ≤ n → At (separated Bar constructor) xs ts m → (h : ℕ) × (h ≤ 0) × (r.cases n ts ≡ Some (xs, h, m))
  unfolding r.cases
  cases_found xs ts m stop few a =
      separated_found n 0 (starts Bar) Bar r.case_alone constructor Any case_sure (λ x ts m a. let b = of_word constructor Bar x ts m a in starts_yes Bar ts b.0 b.1) (λ ts m is. tt) xs ts m stop tt few a

  enumeration_found : (line : Line) (x : DefOf Plain) (ts m : List Token) → DefEnd m → length ts ≤ n → At ((KwType ▷ (identifier ⊗ (Equal ▷ after Bar (separated Bar constructor)))) ⇒ (λ p. def.Cases line p.0 p.1)) x ts m
      → (h : ℕ) × (r.definition_at n 199 line ts ≡ Some (x, h, m))
  unfolding r.definition_at r.enumeration
  enumeration_found line x ts m end few a =
      let made = of_made (KwType ▷ (identifier ⊗ (Equal ▷ after Bar (separated Bar constructor)))) (λ p. def.Cases line p.0 p.1) x ts m a in
      let p = made.0 in
      let b1 = of_word (identifier ⊗ (Equal ▷ after Bar (separated Bar constructor))) KwType p ts m made.2 in
      let b2 = of_both identifier (Equal ▷ after Bar (separated Bar constructor)) p b1.0 m b1.2 in
      let b3 = of_word (after Bar (separated Bar constructor)) Equal p.1 b2.0 m b2.2 in
      let b4 = of_after Bar (separated Bar constructor) p.1 b3.0 m (λ ts m a. case_start p.1 ts m a) b3.2 in
      let few1 = le_trans (length b2.0) (length b1.0) n (not_longer identifier p.0 b1.0 b2.0 b2.1) (rest_few n (Word KwType) ts b1.0 b1.1 few) in
      let few2 = le_trans (length (re.skip Bar b3.0)) (length b3.0) n (skip_short Bar b3.0) (rest_few n (Word Equal) b2.0 b3.0 b3.1 few1) in
      let c = cases_found p.1 (re.skip Bar b3.0) m end.3 few2 b4 in
      let small : 1 ≤ 200 = omega arith in (
        c.0 + 1,
        if_yes _ _ _ _ (starts_yes KwType ts b1.0 b1.1) (then_some _ _ _ _ (word_reads KwType ts b1.0 b1.1) (then_some _ _ _ _ (name_reads p.0 b1.0 b2.0 b2.1) (then_some _ _ _ _ (word_reads Equal b2.0 b3.0 b3.1)
            (then_some _ _ _ _ c.2 (then_some _ _ _ _ (taller_reads c.0 0 c.1 small) (λ i. Some (sym made.1 i, c.0 + 1, m))))))),
      )
    where
      case_start : (xs : List Name) (ts m : List Token) → At (separated Bar constructor) xs ts m → starts Bar ts ≡ false
      case_start [] ts m a = absurd a.2
      case_start (x ∷ xs) ts m a = let b = of_both constructor (many (Bar ▷ constructor)) (x, xs) ts m a in constructor_first x ts b.0 b.1

  abbrev pub Conditions : ℕ → Phrase (List (Equation Plain))
  Conditions D = KwWhere ▷ after KwRec (g.equations (IsEquation D false))

  equations_is : (b : Bool) (ts : List Token) → re.equations n (expression n 198 Expr) (pattern n 198) (re.equation_at n 198) (re.doing_at n 198) b ts ≡ (re.equation_at n 198 b ts >>= λ e. collect n (starts KwAnd) (behind KwAnd (re.equation_at n 198 b)) (e.0 ∷ []) e.1 e.2)
  unfolding re.equations
  equations_is b ts = refl

  conditions_found : (D : ℕ) → D ≤ 198 → (o : Option (List (Equation Plain))) (ts m : List Token) → DefEnd m → length ts ≤ n → At (maybe (Conditions D)) o ts m
      → Quiet Expr ts × ((h : ℕ) × (h ≤ D) × (r.conditions n 198 ts ≡ Some (or_none o, h, m)))
  unfolding r.conditions
  conditions_found D le None ts m end few a =
      let is : ts ≡ m = a.1 ∙ ap (λ u. u ++ m) a.2 in
      let low : 0 ≤ D = omega arith in
      (subst (λ u. Quiet Expr u) (sym is) end.0, (0, low, if_no _ _ _ _ (ap (starts KwWhere) is ∙ end.2) (λ i. Some ([], 0, is i))))
  conditions_found D le (Some xs) ts m end few a =
      let b1 = of_word (after KwRec (g.equations (IsEquation D false))) KwWhere xs ts m a in
      let b2 = of_after KwRec (g.equations (IsEquation D false)) xs b1.0 m (λ ts m a. rec_start D xs ts m a) b1.2 in
      let few1 = le_trans (length (re.skip KwRec b1.0)) (length b1.0) n (skip_short KwRec b1.0) (rest_few n (Word KwWhere) ts b1.0 b1.1 few) in
      let low : D ≤ 200 = omega arith in
      let s = sure_both_kinds n 198 D le low in
      let c = separated_found n D (starts KwAnd) KwAnd (re.equation_at n 198 false) (IsEquation D false) (Quiet Expr) (s.0 false) (λ x ts m a. let c = of_word (IsEquation D false) KwAnd x ts m a in starts_yes KwAnd ts c.0 c.1)
      (λ ts m is. quiet_word KwAnd refl refl Expr ts m is) xs (re.skip KwRec b1.0) m end.1 end.0 few1 b2 in
      (quiet_word KwWhere refl refl Expr ts b1.0 b1.1, (c.0, c.1, if_yes _ _ _ _ (starts_yes KwWhere ts b1.0 b1.1) (then_some _ _ _ _ (word_reads KwWhere ts b1.0 b1.1) (equations_is false (re.skip KwRec b1.0) ∙ c.2))))
    where
      rec_start : (D : ℕ) (xs : List (Equation Plain)) (ts m : List Token) → At (g.equations (IsEquation D false)) xs ts m → starts KwRec ts ≡ false
      rec_start D [] ts m a = absurd a.2
      rec_start D (x ∷ xs) ts m a = let b = of_both (IsEquation D false) (many (KwAnd ▷ IsEquation D false)) (x, xs) ts m a in (eq_start D false x ts b.0 b.1).1

  body_found : (D : ℕ) → D ≤ 199 → (x : BodyOf Plain) (ts m : List Token) → DefEnd m → length ts ≤ n → At (IsBody D) x ts m → (h : ℕ) × (h ≤ D) × (r.body n 198 ts ≡ Some (x, h, m))
  unfolding r.body
  body_found zero le x ts m end few a = absurd a.2
  body_found (suc D) le x ts m end few a =
      let made = of_made (IsExpr D Expr ⊗ maybe (Conditions D)) (λ p. body_of p.0 p.1) x ts m a in
      let p = made.0 in
      let b = of_both (IsExpr D Expr) (maybe (Conditions D)) p ts m made.2 in
      let few1 = le_trans (length b.0) (length ts) n (not_longer (IsExpr D Expr) p.0 ts b.0 b.1) few in
      let low : D ≤ 198 = omega arith in
      let low2 : D ≤ 200 = omega arith in
      let small : suc D ≤ 200 = omega arith in
      let c = conditions_found D low p.1 b.0 m end few1 b.2 in
      let e = (sure_expression n 198 D low low2 Expr).finds ts b.0 p.0 few c.0 b.1 in
      let high = max_le e.0 c.1.0 D e.1 c.1.1 in
      (max e.0 c.1.0 + 1, suc_le (max e.0 c.1.0) D high, then_some _ _ _ _ e.2 (then_some _ _ _ _ c.1.2 (then_some _ _ _ _ (taller_reads (max e.0 c.1.0) D high small) (λ i. Some (sym made.1 i, max e.0 c.1.0 + 1, m)))))

  pattern_begins : (D : ℕ) (x : Pat) (ts m : List Token) → At (IsPat D) x ts m → r.begins_pattern ts ≡ true
  unfolding r.begins_pattern
  pattern_begins D x ts m a =
      let f = pat_head D x ts m a in
      ap r.begins_pattern f.2 ∙ elim f.3 [ inl p ↦ ap r.opens p.1 | inr q ↦ elim q [ inl e ↦ ap r.opens e | inr e ↦ ap r.opens e ] ]

  no_pattern : (ts m : List Token) → ts ≡ Word Equal ∷ m → r.begins_pattern ts ≡ false
  unfolding r.begins_pattern
  no_pattern ts m is = ap r.begins_pattern is

  params_found : (xs : List Pat) (ts m k : List Token) → m ≡ Word Equal ∷ k → length ts ≤ n → At (many (IsPat 199)) xs ts m → (h : ℕ) × (h ≤ 199) × (r.params n 199 ts ≡ Some (xs, h, m))
  unfolding r.params
  params_found xs ts m k is few a =
      let low : 199 ≤ 200 = omega arith in
      let s = sure_pattern n 199 199 (le_refl 199) low in
      let zero_low : 0 ≤ 199 = omega arith in
      let short = row_short n 199 r.begins_pattern (pattern n 199) (IsPat 199) Any s (λ x ts m a. pattern_begins 199 x ts m a) (λ x ts m a. tt) (λ x ts m a. pat_takes 199 x ts m a) xs ts m a in
      row_found n 199 r.begins_pattern (pattern n 199) (IsPat 199) Any s (λ x ts m a. pattern_begins 199 x ts m a) (λ x ts m a. tt) n [] xs 0 ts m (le_trans (length xs) (length ts) n short few) (inr (no_pattern m k is)) zero_low few tt a

  function_found : (node : Bool) (line : Line) (x : Name) (ps : List Pat) (b : BodyOf Plain) (ts m : List Token) → (node && nat_eq (length ps) 0) ≡ false → DefEnd m → length ts ≤ n → At (identifier ⊗ (many (IsPat 199) ⊗ (Equal ▷ IsBody 199))) (x, (ps, b)) ts m
      → (h : ℕ) × (r.function n 199 node line ts ≡ Some (definition line node x ps b, h, m))
  unfolding r.function
  function_found node line x ps b ts m some_ps end few a =
      let b1 = of_both identifier (many (IsPat 199) ⊗ (Equal ▷ IsBody 199)) (x, (ps, b)) ts m a in
      let b2 = of_both (many (IsPat 199)) (Equal ▷ IsBody 199) (ps, b) b1.0 m b1.2 in
      let b3 = of_word (IsBody 199) Equal b b2.0 m b2.2 in
      let few1 = le_trans (length b1.0) (length ts) n (not_longer identifier x ts b1.0 b1.1) few in
      let few2 = le_trans (length b2.0) (length b1.0) n (not_longer (many (IsPat 199)) ps b1.0 b2.0 b2.1) few1 in
      let c = params_found ps b1.0 b2.0 b3.0 b3.1 few1 b2.1 in
      let e = body_found 199 (le_refl 199) b b3.0 m end (rest_few n (Word Equal) b2.0 b3.0 b3.1 few2) b3.2 in
      let high = max_le c.0 e.0 199 c.1 e.1 in
      let small : 200 ≤ 200 = le_refl 200 in
      (max c.0 e.0 + 1, then_some _ _ _ _ (name_reads x ts b1.0 b1.1) (then_some _ _ _ _ c.2 (if_no _ _ _ _ some_ps (then_some _ _ _ _ (word_reads Equal b2.0 b3.0 b3.1) (then_some _ _ _ _ e.2 (then_some _ _ _ _ (taller_reads (max c.0 e.0) 199 high small) refl))))))

  some_params : (ps : List Pat) (x : Name) (b : BodyOf Plain) (ts m : List Token) → At (identifier ⊗ (some (IsPat 199) ⊗ (Equal ▷ IsBody 199))) (x, (ps, b)) ts m → (nat_eq (length ps) 0 ≡ false) × At (identifier ⊗ (many (IsPat 199) ⊗ (Equal ▷ IsBody 199))) (x, (ps, b)) ts m
  some_params [] x b ts m a = absurd a.2.4.3
  some_params (p ∷ ps) x b ts m a = (elim (eqb_tells (length (p ∷ ps)) 0) [ inl q ↦ absurd (longer p ps q.1) | inr q ↦ q.0 ], a)
    where
      longer : (p : Pat) (ps : List Pat) → length (p ∷ ps) ≡ 0 → ⊥
      longer p ps z = let k : length (p ∷ ps) ≡ length ps + 1 = omega arith in omega arith

  definition_found : (line : Line) (x : DefOf Plain) (ts m : List Token) → DefEnd m → length ts ≤ n → At (IsDef 200 line) x ts m → (h : ℕ) × (r.definition_at n 199 line ts ≡ Some (x, h, m))
  unfolding r.definition_at
  definition_found line x ts m end few a = which a.2
    where
      which : IsDef 200 line x a.0 → (h : ℕ) × (r.definition_at n 199 line ts ≡ Some (x, h, m))
      which (inl b) = enumeration_found line x ts m end few (a.0, a.1, b)
      which (inr (inl b)) =
          let p = b.0 in
          let w = of_word (identifier ⊗ (many (IsPat 199) ⊗ (Equal ▷ IsBody 199))) KwLet p ts m (a.0, a.1, b.2) in
          let i = of_both identifier (many (IsPat 199) ⊗ (Equal ▷ IsBody 199)) p w.0 m w.2 in
          let plain = starts_no KwNode (Id p.0) w.0 i.0 (i.1.1 ∙ ap (λ u. u ++ i.0) i.1.2) refl in
          let f = function_found false line p.0 p.1.0 p.1.1 w.0 m refl end (rest_few n (Word KwLet) ts w.0 w.1 few) w.2 in (
            f.0,
            if_no _ _ _ _ (starts_no KwType (Word KwLet) ts w.0 w.1 refl) (then_some _ _ _ _ (word_reads KwLet ts w.0 w.1)
                ((λ j. r.function n 199 (plain j) line (unskipped KwNode w.0 plain j)) ∙ f.1 ∙ (λ j. Some (sym b.1 j, f.0, m)))),
          )
      which (inr (inr b)) =
          let p = b.0 in
          let w = of_word (KwNode ▷ (identifier ⊗ (some (IsPat 199) ⊗ (Equal ▷ IsBody 199)))) KwLet p ts m (a.0, a.1, b.2) in
          let v = of_word (identifier ⊗ (some (IsPat 199) ⊗ (Equal ▷ IsBody 199))) KwNode p w.0 m w.2 in
          let s = some_params p.1.0 p.0 p.1.1 v.0 m v.2 in
          let f = function_found true line p.0 p.1.0 p.1.1 v.0 m s.0 end (rest_few n (Word KwNode) w.0 v.0 v.1 (rest_few n (Word KwLet) ts w.0 w.1 few)) s.1 in (
            f.0,
            if_no _ _ _ _ (starts_no KwType (Word KwLet) ts w.0 w.1 refl) (then_some _ _ _ _ (word_reads KwLet ts w.0 w.1)
                ((λ j. r.function n 199 (starts_yes KwNode w.0 v.0 v.1 j) line (skips KwNode w.0 v.0 v.1 j)) ∙ f.1 ∙ (λ j. Some (sym b.1 j, f.0, m)))),
          )

  pub followed_found : (line : Line) (x : DefOf Plain) (ts m : List Token) → DefEnd m → r.ends m ≡ true → length ts ≤ n → At (IsDef 200 line) x ts m → r.followed n line ts ≡ Some (x, m)
  unfolding r.followed
  followed_found line x ts m end ok few a = let f = definition_found line x ts m end few a in then_some _ _ _ _ f.1 (if_yes _ _ _ _ ok refl)
