-- What is read of definitions and of files is in the grammar.
use Rattle.std.proofs.Common.{◌≡◌, ℕ, zero, suc, ◌+◌, ◌-◌, ◌≤◌, ◌⊎◌, inl, inr, Bool, true, false, List, [], ◌∷◌, ◌++◌, Option, Some, None, Result, Ok, Err, map, take, drop, max, length, refl, sym, ◌∙◌, ap, subst, arith, append_assoc, if◌then◌else◌, unwrap_or, length-append, length-drop, add-one}
use Rattle.std.specs.Prelude.{nat_lt, nat_eq, ◌&&◌, ◌||◌, option_map, IfOk}
use Rattle.std.proofs.lemmas.List.{length-map, take-map, drop-map, take_at, drop_at, drop-drop, take-append-drop}
use Rattle.std.proofs.lemmas.Bool.{ltb-true}
use Rattle.ls_ast.specs.declared.tree.BodyOf.{BodyOf}
use Rattle.ls_ast.specs.declared.tree.DefOf.{DefOf}
use Rattle.ls_ast.specs.declared.tree.DefOf.TheVariants as def
use Rattle.ls_ast.specs.declared.tree.Equation.{Equation}
use Rattle.ls_ast.specs.declared.tree.Pat.{Pat}
use Rattle.ls_ast.specs.declared.tree.Plain.{Plain}
use Rattle.ls_base.specs.declared.Line.{Line}
use Rattle.ls_base.specs.declared.Name.{Name}
use Rattle.ls_lexer.specs.declared.token.Fixed.{Fixed}
use Rattle.ls_lexer.specs.declared.token.Fixed.TheVariants.{KwLet, KwNode, KwRec, KwType, KwWhere, Equal, Bar}
use Rattle.ls_lexer.specs.declared.token.Token.{Token}
use Rattle.ls_lexer.specs.declared.token.Token.TheVariants.{Fixed as Word}
use Rattle.ls_parser.specs.declared.level.Level.TheVariants.{Expr}
use Rattle.ls_parser.specs.Making.{body_of, body_with, definition, or_none}
use Rattle.ls_parser.specs.Notation.{Phrase, ◌▷◌, ◌⊗◌, many, some, separated, maybe, after, identifier, constructor}
use Rattle.ls_parser.specs.Grammar as g
use Rattle.ls_parser.specs.Grammar.{IsExpr, IsPat, IsEquation, IsBody, IsDef, IsDefinition, MayFollow, IsRow, IsFile, StopsAt}
use Rattle.ls_parser.specs.Definitions.{IsRead}
use Rattle.ls_parser.specs.declared.definitions.SyntaxFault.{SyntaxFault}
use Rattle.ls_parser.specs.Definitions as r
use Rattle.ls_parser.specs.Equations as re
use Rattle.ls_parser.specs.Expressions.{expression}
use Rattle.ls_parser.specs.Patterns.{pattern}
use Rattle.ls_parser.specs.Reading.{◌>>=◌, is_word, starts, word, name, constructor as constructor_read, taller}
use Rattle.ls_parser.proofs.Front.{At, append_nil, true_false, some_of, branch_of, some_one, none_some, word_one, word_of, name_at, constructor_at, le_refl, max_left, max_right, one_more, less_high, at_word, at_made, at_both, Got, Reads, Stands, Sound, give, whole, sound_collect, sound_separated}
use Rattle.ls_parser.proofs.SoundExpr.{sound_expression}
use Rattle.ls_parser.proofs.SoundEqs.{sound_pattern, sound_both_kinds, at_skip, at_nothing, at_something, equations_read}

pub low : (h k : ℕ) → taller h ≡ Some k → k ≤ 200
low h k e = elim (branch_of (nat_lt h 200) (Some (h + 1)) None (Some k) e) [ inl p ↦ below h k (some_one (h + 1) k p.1) p.0 | inr p ↦ absurd (none_some k p.1) ]
  where
    below : (h k : ℕ) → h + 1 ≡ k → nat_lt h 200 ≡ true → k ≤ 200
    below h k is lt = let less = ltb-true h 200 lt in omega arith

module _ (n : ℕ) (pos : 1 ≤ n) where
  case_sound : Sound Name r.case_alone (λ D. constructor)
  unfolding r.case_alone
  case_sound = record {
    reads = λ ts z read.
        let a = some_of (constructor_read ts) (λ p. Some (p.0, 0, p.1)) z read in
        give (Reads (λ D. constructor) ts) (a.0.0, 0, a.0.1) z a.2 (λ D le. constructor_at ts a.0 a.1);
  }

  cases_read : (ts : List Token) (z : Got (List Name)) → r.cases n ts ≡ Some z → Reads (λ D. separated Bar constructor) ts z
  unfolding r.cases
  cases_read ts z e = sound_separated n (starts Bar) Bar r.case_alone (λ D. constructor) case_sound ts z e

  -- a definition that was read
  abbrev pub Defines : Line → List Token → Got (DefOf Plain) → Type 0
  Defines line ts z = (z.1 ≤ 200) × Stands (λ D. IsDef (suc D) line) ts z

  enumeration_stands : (line : Line) (ts : List Token) (z : Got (DefOf Plain)) → r.enumeration n line ts ≡ Some z → Defines line ts z
  unfolding r.enumeration
  enumeration_stands line ts z read =
      let a = some_of (word KwType ts) (λ m. name m >>= λ p. word Equal p.1 >>= λ m. r.cases n (re.skip Bar m) >>= λ x. taller x.1 >>= λ h. Some (def.Cases line p.0 x.0, h, x.2)) z read in
      let b = some_of (name a.0) (λ p. word Equal p.1 >>= λ m. r.cases n (re.skip Bar m) >>= λ x. taller x.1 >>= λ h. Some (def.Cases line p.0 x.0, h, x.2)) z a.2 in
      let c = some_of (word Equal b.0.1) (λ m. r.cases n (re.skip Bar m) >>= λ x. taller x.1 >>= λ h. Some (def.Cases line b.0.0 x.0, h, x.2)) z b.2 in
      let d = some_of (r.cases n (re.skip Bar c.0)) (λ x. taller x.1 >>= λ h. Some (def.Cases line b.0.0 x.0, h, x.2)) z c.2 in
      let f = some_of (taller d.0.1) (λ h. Some (def.Cases line b.0.0 d.0.0, h, d.0.2)) z d.2 in
      let x = def.Cases line b.0.0 d.0.0 in
      give (Defines line ts) (x, f.0, d.0.2) z f.2 (
        low d.0.1 f.0 f.1,
        (
          one_more d.0.1 f.0 f.1,
          λ D le.
              let k = at_made (KwType ▷ (identifier ⊗ (Equal ▷ after Bar (separated Bar constructor)))) (λ p. def.Cases line p.0 p.1) (b.0.0, d.0.0) x ts d.0.2 refl
              (at_word (identifier ⊗ (Equal ▷ after Bar (separated Bar constructor))) KwType (b.0.0, d.0.0) ts a.0 d.0.2 (word_of KwType ts a.0 a.1)
              (at_both identifier (Equal ▷ after Bar (separated Bar constructor)) b.0.0 d.0.0 a.0 b.0.1 d.0.2 (name_at a.0 b.0 b.1)
              (at_word (after Bar (separated Bar constructor)) Equal d.0.0 b.0.1 c.0 d.0.2 (word_of Equal b.0.1 c.0 c.1)
              (at_skip Bar (separated Bar constructor) d.0.0 c.0 d.0.2 (cases_read (re.skip Bar c.0) d.0 d.1 D (less_high d.0.1 f.0 D f.1 le)))))) in
              (k.0, k.1, inl k.2),
        ),
      )

  abbrev pub Conditions : ℕ → Phrase (List (Equation Plain))
  Conditions D = KwWhere ▷ after KwRec (g.equations (IsEquation D false))

  abbrev pub Maybe_conditions : List Token → Got (List (Equation Plain)) → Type 0
  Maybe_conditions ts z = (o : Option (List (Equation Plain))) × (z.0 ≡ or_none o) × ((D : ℕ) → z.1 ≤ D → At (maybe (Conditions D)) o ts z.2)

  conditions_read : (depth : ℕ) (ts : List Token) (z : Got (List (Equation Plain))) → r.conditions n depth ts ≡ Some z → Maybe_conditions ts z
  unfolding r.conditions
  conditions_read depth ts z read =
      elim (branch_of (starts KwWhere ts) (word KwWhere ts >>= λ m. re.equations n (expression n depth Expr) (pattern n depth) (re.equation_at n depth) (re.doing_at n depth) false (re.skip KwRec m)) (Some ([], 0, ts)) (Some z) read) [
        | inl q ↦
            let a = some_of (word KwWhere ts) (λ m. re.equations n (expression n depth Expr) (pattern n depth) (re.equation_at n depth) (re.doing_at n depth) false (re.skip KwRec m)) z q.1 in
            let s = sound_both_kinds n pos depth in (
              Some z.0,
              refl,
              λ D le. at_something (Conditions D) z.0 ts z.2
                  (at_word (after KwRec (g.equations (IsEquation D false))) KwWhere z.0 ts a.0 z.2 (word_of KwWhere ts a.0 a.1)
                  (at_skip KwRec (g.equations (IsEquation D false)) z.0 a.0 z.2
                  (equations_read n pos (expression n depth Expr) (pattern n depth) (re.equation_at n depth) (re.doing_at n depth) (sound_expression n pos depth Expr) (sound_pattern n pos depth) s.0 s.1 false (re.skip KwRec a.0) z a.2 D le))),
            )
        | inr q ↦ give (Maybe_conditions ts) ([], 0, ts) z q.1 (None, refl, λ D le. at_nothing (Conditions D) ts)
      ]

  body_sound : (depth : ℕ) → Sound (BodyOf Plain) (r.body n depth) IsBody
  unfolding r.body
  body_sound depth = record {
    reads = λ ts z read. whole IsBody ts z
        (let a = some_of (expression n depth Expr ts) (λ e. r.conditions n depth e.2 >>= λ q. taller (max e.1 q.1) >>= λ h. Some (body_with e.0 q.0, h, q.2)) z read in
        let b = some_of (r.conditions n depth a.0.2) (λ q. taller (max a.0.1 q.1) >>= λ h. Some (body_with a.0.0 q.0, h, q.2)) z a.2 in
        let c = some_of (taller (max a.0.1 b.0.1)) (λ h. Some (body_with a.0.0 b.0.0, h, b.0.2)) z b.2 in
        let q = conditions_read depth a.0.2 b.0 b.1 in
        give (Stands (λ D. IsBody (suc D)) ts) (body_with a.0.0 b.0.0, c.0, b.0.2) z c.2 (
          one_more (max a.0.1 b.0.1) c.0 c.1,
          λ D le.
              let high = less_high (max a.0.1 b.0.1) c.0 D c.1 le in
              at_made (IsExpr D Expr ⊗ maybe (Conditions D)) (λ p. body_of p.0 p.1) (a.0.0, q.0) (body_with a.0.0 b.0.0) ts b.0.2 (λ i. body_with a.0.0 (q.1 i))
              (at_both (IsExpr D Expr) (maybe (Conditions D)) a.0.0 q.0 ts a.0.2 b.0.2 ((sound_expression n pos depth Expr).reads ts a.0 a.1 D (max_left a.0.1 b.0.1 D high)) (q.2 D (max_right a.0.1 b.0.1 D high))),
        ));
  }

  params_read : (depth : ℕ) (ts : List Token) (z : Got (List Pat)) → r.params n depth ts ≡ Some z → Reads (λ D. many (IsPat D)) ts z
  unfolding r.params
  params_read depth ts z e D le =
      let b = sound_collect n r.begins_pattern (pattern n depth) IsPat (sound_pattern n pos depth) [] 0 ts z e in
      subst (λ xs. At (many (IsPat D)) xs ts z.2) (sym b.1.1) (b.1.2 D le)

  -- a definition behind `let` and `node`
  abbrev pub Functions : Bool → Line → List Token → Got (DefOf Plain) → Type 0
  Functions node line ts z = (z.1 ≤ 200) × (1 ≤ z.1) × ((x : Name) × (ps : List Pat) × (b : BodyOf Plain) × (z.0 ≡ definition line node x ps b) × ((node && nat_eq (length ps) 0) ≡ false)
      × ((D : ℕ) → z.1 ≤ suc D → At (identifier ⊗ (many (IsPat D) ⊗ (Equal ▷ IsBody D))) (x, (ps, b)) ts z.2))

  function_read : (depth : ℕ) (node : Bool) (line : Line) (ts : List Token) (z : Got (DefOf Plain)) → r.function n depth node line ts ≡ Some z → Functions node line ts z
  unfolding r.function
  function_read depth node line ts z read =
      let a = some_of (name ts) (λ p. r.params n depth p.1 >>= λ x. if node && nat_eq (length x.0) 0 then None else (word Equal x.2 >>= λ m. r.body n (depth - 1) m >>= λ b. taller (max x.1 b.1) >>= λ h. Some (definition line node p.0 x.0 b.0, h, b.2))) z read in
      let b = some_of (r.params n depth a.0.1) (λ x. if node && nat_eq (length x.0) 0 then None else (word Equal x.2 >>= λ m. r.body n (depth - 1) m >>= λ b. taller (max x.1 b.1) >>= λ h. Some (definition line node a.0.0 x.0 b.0, h, b.2))) z a.2 in
      elim (branch_of (node && nat_eq (length b.0.0) 0) None (word Equal b.0.2 >>= λ m. r.body n (depth - 1) m >>= λ c. taller (max b.0.1 c.1) >>= λ h. Some (definition line node a.0.0 b.0.0 c.0, h, c.2)) (Some z) b.2) [
        | inl q ↦ absurd (none_some z q.1)
        | inr q ↦
            let c = some_of (word Equal b.0.2) (λ m. r.body n (depth - 1) m >>= λ c. taller (max b.0.1 c.1) >>= λ h. Some (definition line node a.0.0 b.0.0 c.0, h, c.2)) z q.1 in
            let d = some_of (r.body n (depth - 1) c.0) (λ c. taller (max b.0.1 c.1) >>= λ h. Some (definition line node a.0.0 b.0.0 c.0, h, c.2)) z c.2 in
            let f = some_of (taller (max b.0.1 d.0.1)) (λ h. Some (definition line node a.0.0 b.0.0 d.0.0, h, d.0.2)) z d.2 in
            give (Functions node line ts) (definition line node a.0.0 b.0.0 d.0.0, f.0, d.0.2) z f.2 (
              low (max b.0.1 d.0.1) f.0 f.1,
              one_more (max b.0.1 d.0.1) f.0 f.1,
              (
                a.0.0,
                b.0.0,
                d.0.0,
                refl,
                q.0,
                λ D le.
                    let high = less_high (max b.0.1 d.0.1) f.0 D f.1 le in
                    at_both identifier (many (IsPat D) ⊗ (Equal ▷ IsBody D)) a.0.0 (b.0.0, d.0.0) ts a.0.1 d.0.2 (name_at ts a.0 a.1)
                    (at_both (many (IsPat D)) (Equal ▷ IsBody D) b.0.0 d.0.0 a.0.1 b.0.2 d.0.2 (params_read depth a.0.1 b.0 b.1 D (max_left b.0.1 d.0.1 D high))
                    (at_word (IsBody D) Equal d.0.0 b.0.2 c.0 d.0.2 (word_of Equal b.0.2 c.0 c.1) ((body_sound (depth - 1)).reads c.0 d.0 d.1 D (max_right b.0.1 d.0.1 D high)))),
              ),
            )
      ]

  -- a node has a parameter
  nonempty : (D : ℕ) (x : Name) (ps : List Pat) (b : BodyOf Plain) (ts m : List Token) → (true && nat_eq (length ps) 0) ≡ false → At (identifier ⊗ (many (IsPat D) ⊗ (Equal ▷ IsBody D))) (x, (ps, b)) ts m → At (identifier ⊗ (some (IsPat D) ⊗ (Equal ▷ IsBody D))) (x, (ps, b)) ts m
  nonempty D x [] b ts m e a = absurd (true_false e)
  nonempty D x (p ∷ ps) b ts m e a = a

  plain_function : (line : Line) (ts m : List Token) → ts ≡ Word KwLet ∷ m → (z : Got (DefOf Plain)) → Functions false line m z → Defines line ts z
  plain_function line ts m first z f = (
    f.0,
    (
      f.1,
      λ D le.
          let k = at_made (KwLet ▷ (identifier ⊗ (many (IsPat D) ⊗ (Equal ▷ IsBody D)))) (λ p. definition line false p.0 p.1.0 p.1.1) (f.2.0, (f.2.1, f.2.2)) z.0 ts z.2 f.2.3
          (at_word (identifier ⊗ (many (IsPat D) ⊗ (Equal ▷ IsBody D))) KwLet (f.2.0, (f.2.1, f.2.2)) ts m z.2 first (f.2.5 D le)) in
          (k.0, k.1, inr (inl k.2)),
    ),
  )

  node_function : (line : Line) (ts l m : List Token) → ts ≡ Word KwLet ∷ l → l ≡ Word KwNode ∷ m → (z : Got (DefOf Plain)) → Functions true line m z → Defines line ts z
  node_function line ts l m first second z f = (
    f.0,
    (
      f.1,
      λ D le.
          let k = at_made (KwLet ▷ (KwNode ▷ (identifier ⊗ (some (IsPat D) ⊗ (Equal ▷ IsBody D))))) (λ p. definition line true p.0 p.1.0 p.1.1) (f.2.0, (f.2.1, f.2.2)) z.0 ts z.2 f.2.3
          (at_word (KwNode ▷ (identifier ⊗ (some (IsPat D) ⊗ (Equal ▷ IsBody D)))) KwLet (f.2.0, (f.2.1, f.2.2)) ts l z.2 first
          (at_word (identifier ⊗ (some (IsPat D) ⊗ (Equal ▷ IsBody D))) KwNode (f.2.0, (f.2.1, f.2.2)) l m z.2 second (nonempty D f.2.0 f.2.1 f.2.2 m z.2 f.2.4 (f.2.5 D le)))) in
          (k.0, k.1, inr (inr k.2)),
    ),
  )

  chosen_stands : (depth : ℕ) (line : Line) (ts m : List Token) (t : Token) → ts ≡ Word KwLet ∷ t ∷ m → (z : Got (DefOf Plain)) → (b : Bool) → is_word KwNode t ≡ b → r.function n depth b line (if b then m else t ∷ m) ≡ Some z → Defines line ts z
  chosen_stands depth line ts m t first z true is read = node_function line ts (t ∷ m) m first (ap (λ u. u ∷ m) (word_one KwNode t is)) z (function_read depth true line m z read)
  chosen_stands depth line ts m t first z false is read = plain_function line ts (t ∷ m) first z (function_read depth false line (t ∷ m) z read)

  let_stands : (depth : ℕ) (line : Line) (ts m : List Token) → ts ≡ Word KwLet ∷ m → (z : Got (DefOf Plain)) → r.function n depth (starts KwNode m) line (re.skip KwNode m) ≡ Some z → Defines line ts z
  unfolding starts re.skip
  let_stands depth line ts [] first z read = plain_function line ts [] first z (function_read depth false line [] z read)
  let_stands depth line ts (t ∷ m) first z read = chosen_stands depth line ts m t first z (is_word KwNode t) refl read

  definition_stands : (depth : ℕ) (line : Line) (ts : List Token) (z : Got (DefOf Plain)) → r.definition_at n depth line ts ≡ Some z → Defines line ts z
  unfolding r.definition_at
  definition_stands depth line ts z read =
      elim (branch_of (starts KwType ts) (r.enumeration n line ts) (word KwLet ts >>= λ m. r.function n depth (starts KwNode m) line (re.skip KwNode m)) (Some z) read) [
        | inl q ↦ enumeration_stands line ts z q.1
        | inr q ↦
            let a = some_of (word KwLet ts) (λ m. r.function n depth (starts KwNode m) line (re.skip KwNode m)) z q.1 in
            let_stands depth line ts a.0 (word_of KwLet ts a.0 a.1) z a.2
      ]

-- files

abbrev pub words : List (Line × Token) → List Token
words = map (λ p. p.1)

words_take : (k : ℕ) (ts : List (Line × Token)) (v w : List Token) → words ts ≡ v ++ w → k ≡ length v → words (take k ts) ≡ v
words_take k ts v w e is = sym (take-map (λ p. p.1) k ts) ∙ ap (take k) e ∙ take_at v w k (sym is)

words_drop : (k : ℕ) (ts : List (Line × Token)) (v w : List Token) → words ts ≡ v ++ w → k ≡ length v → words (drop k ts) ≡ w
words_drop k ts v w e is = sym (drop-map (λ p. p.1) k ts) ∙ ap (drop k) e ∙ drop_at v w k (sym is)

may_follow : (ts : List (Line × Token)) → r.ends (map (λ p. p.1) ts) ≡ true → MayFollow ts
unfolding r.ends
may_follow [] e = tt
may_follow (t ∷ ts) e = which (is_word KwLet t.1) refl e
  where
    which : (b : Bool) → is_word KwLet t.1 ≡ b → (b || is_word KwType t.1) ≡ true → (t.1 ≡ Word KwLet) ⊎ (t.1 ≡ Word KwType)
    which true is e = inl (word_one KwLet t.1 is)
    which false is e = inr (word_one KwType t.1 e)

-- a definition has a token
def_begins : (D : ℕ) (line : Line) (d : DefOf Plain) (u : List Token) → IsDef D line d u → (w : Fixed) × (v : List Token) × (u ≡ Word w ∷ v)
def_begins zero line d u a = absurd a
def_begins (suc D) line d u (inl a) = (KwType, a.2.0, a.2.1)
def_begins (suc D) line d u (inr (inl a)) = (KwLet, a.2.0, a.2.1)
def_begins (suc D) line d u (inr (inr a)) = (KwLet, a.2.0, a.2.1)

followed_read : (n : ℕ) → 1 ≤ n → (line : Line) (ts : List Token) (p : DefOf Plain × List Token) → r.followed n line ts ≡ Some p → At (IsDef 200 line) p.0 ts p.1 × (r.ends p.1 ≡ true)
unfolding r.followed
followed_read n pos line ts p e =
    let a = some_of (r.definition_at n 199 line ts) (λ z. if r.ends z.2 then Some (z.0, z.2) else None) p e in
    elim (branch_of (r.ends a.0.2) (Some (a.0.0, a.0.2)) None (Some p) a.2) [
      | inl q ↦
          let d = definition_stands n pos 199 line ts a.0 a.1 in
          give (λ (p : DefOf Plain × List Token). At (IsDef 200 line) p.0 ts p.1 × (r.ends p.1 ≡ true)) (a.0.0, a.0.2) p q.1 (d.1.1 199 d.0, q.0)
      | inr q ↦ absurd (none_some p q.1)
    ]

tail_is : (t u : Token) (ts us : List Token) → t ∷ ts ≡ u ∷ us → ts ≡ us
tail_is t u ts us e = cc

head_is : (t u : Token) (ts us : List Token) → t ∷ ts ≡ u ∷ us → t ≡ u
head_is t u ts us e = cc

module _ (all : List (Line × Token)) where
  -- what the rest of a file is, from some of its tokens on, behind definitions that were read
  abbrev pub Outcome : List (DefOf Plain) → List (Line × Token) → Result (List (DefOf Plain)) Line → Type 0
  Outcome done ts (Ok defs) = (ds : List (DefOf Plain)) × (defs ≡ done ++ ds) × IsRow ds ts []
  Outcome done ts (Err line) = (ds : List (DefOf Plain)) × (t : Line × Token) × (left : List (Line × Token)) × (t.0 ≡ line) × IsRow ds ts (t ∷ left) × (r.followed (length all) t.0 (words (t ∷ left)) ≡ None) × (length (t ∷ left) ≤ length all)

  extend : (done : List (DefOf Plain)) (d : DefOf Plain) (ts front back : List (Line × Token)) (out : Result (List (DefOf Plain)) Line)
      → ts ≡ front ++ back → IsDefinition d front → MayFollow back → Outcome (done ++ d ∷ []) back out → Outcome done ts out
  extend done d ts front back (Ok defs) is one next o = (d ∷ o.0, o.1 ∙ append_assoc done (d ∷ []) o.0, (front, back, is, one, next, o.2))
  extend done d ts front back (Err line) is one next o = (d ∷ o.0, o.1, o.2, o.3, (front, back, is, one, next, o.4), o.5, o.6)

  ended_at : (done : List (DefOf Plain)) (out : Result (List (DefOf Plain)) Line) → Ok done ≡ out → Outcome done [] out
  ended_at done out e = subst (Outcome done []) e ([], sym (append_nil done), refl)

  -- how the place behind a definition is found
  place : (a m : ℕ) (ts : List (Line × Token)) (t : Line × Token) (v w : List Token) → t ∷ ts ≡ drop a all → words ts ≡ v ++ w → m ≡ length v → drop (length all - length w) all ≡ drop m ts
  place a m ts t v w is e long =
      let l1 : length (t ∷ ts) ≡ length all - a = ap length is ∙ length-drop a all in
      let l2 : length ts ≡ length v + length w = sym (length-map ts (λ p. p.1)) ∙ ap length e ∙ length-append v w in
      let l3 : length (t ∷ ts) ≡ length ts + 1 = omega arith in
      let l4 : length all - length w ≡ a + (m + 1) = omega arith in
      ap (λ k. drop k all) l4 ∙ sym (drop-drop (m + 1) a all) ∙ ap (drop (m + 1)) (sym is) ∙ ap (λ k. drop k (t ∷ ts)) (add-one m)

  one_read : (k : ℕ) → ((done : List (DefOf Plain)) (ts : List (Line × Token)) (a : ℕ) → ts ≡ drop a all → length ts ≤ k → (out : Result (List (DefOf Plain)) Line) → r.file_from all k done ts ≡ out → Outcome done ts out)
      → (done : List (DefOf Plain)) (t : Line × Token) (ts : List (Line × Token)) (a : ℕ) → t ∷ ts ≡ drop a all → length (t ∷ ts) ≤ suc k → (out : Result (List (DefOf Plain)) Line)
      → (p : Option (DefOf Plain × List Token)) → r.followed (length all) t.0 (words (t ∷ ts)) ≡ p
      → unwrap_or (option_map (λ z. r.file_from all k (done ++ z.0 ∷ []) (drop (length all - length z.1) all)) p) (Err t.0) ≡ out → Outcome done (t ∷ ts) out
  one_read k ih done t ts a is few out None found e = subst (Outcome done (t ∷ ts)) e ([], t, ts, refl, refl, found, (let l : length (t ∷ ts) ≡ length all - a = ap length is ∙ length-drop a all in omega arith))
  one_read k ih done t ts a is few out (Some p) found e =
      let pos : 1 ≤ length all = nonempty_all t ts a is in
      let f = followed_read (length all) pos t.0 (words (t ∷ ts)) p found in
      let u = f.0.0 in
      let b = def_begins 200 t.0 p.0 u f.0.2 in
      let v = b.1 in
      let m = length v in
      let split : t.1 ∷ words ts ≡ Word b.0 ∷ (v ++ p.1) = f.0.1 ∙ ap (λ u. u ++ p.1) b.2 in
      let e1 = tail_is t.1 (Word b.0) (words ts) (v ++ p.1) split in
      let e2 = head_is t.1 (Word b.0) (words ts) (v ++ p.1) split in
      let back = place a m ts t v p.1 is e1 refl in
      let spelled : words (t ∷ take m ts) ≡ u = (λ i. e2 i ∷ words_take m ts v p.1 e1 refl i) ∙ sym b.2 in
      extend done p.0 (t ∷ ts) (t ∷ take m ts) (drop (length all - length p.1) all) out
      (ap (λ l. t ∷ l) (sym (take-append-drop m ts) ∙ ap (λ l. take m ts ++ l) (sym back)))
      (subst (λ u. IsDef 200 t.0 p.0 u) (sym spelled) f.0.2)
      (may_follow (drop (length all - length p.1) all) (ap r.ends (ap words back ∙ words_drop m ts v p.1 e1 refl) ∙ f.1))
      (ih (done ++ p.0 ∷ []) (drop (length all - length p.1) all) (length all - length p.1) refl (fewer k m ts (drop (length all - length p.1) all) back t few) out e)
    where
      nonempty_all : (t : Line × Token) (ts : List (Line × Token)) (a : ℕ) → t ∷ ts ≡ drop a all → 1 ≤ length all
      nonempty_all t ts a is =
          let l1 : length (t ∷ ts) ≡ length all - a = ap length is ∙ length-drop a all in
          let l3 : length (t ∷ ts) ≡ length ts + 1 = omega arith in
          omega arith

      fewer : (k m : ℕ) (ts back : List (Line × Token)) → back ≡ drop m ts → (t : Line × Token) → length (t ∷ ts) ≤ suc k → length back ≤ k
      fewer k m ts back is t few =
          let l1 : length back ≡ length ts - m = ap length is ∙ length-drop m ts in
          let l3 : length (t ∷ ts) ≡ length ts + 1 = omega arith in
          omega arith

  pub file_read : (k : ℕ) (done : List (DefOf Plain)) (ts : List (Line × Token)) (a : ℕ) → ts ≡ drop a all → length ts ≤ k → (out : Result (List (DefOf Plain)) Line) → r.file_from all k done ts ≡ out → Outcome done ts out
  file_read zero done [] a is few out e = ended_at done out e
  file_read zero done (t ∷ ts) a is few out e = absurd (let l3 : length (t ∷ ts) ≡ length ts + 1 = omega arith in omega arith)
  file_read (suc k) done [] a is few out e = ended_at done out e
  file_read (suc k) done (t ∷ ts) a is few out e = one_read k (file_read k) done t ts a is few out (r.followed (length all) t.0 (words (t ∷ ts))) refl e

  ok_file : (defs : List (DefOf Plain)) → Outcome [] all (Ok defs) → IsFile defs all
  ok_file defs o = subst (λ ds. IsRow ds all []) (sym o.1) o.2

  pub file_is : (result : Result (List (DefOf Plain)) SyntaxFault) → IsRead result (r.file_from all (length all) [] all) → IfOk result (λ defs. IsFile defs all)
  file_is (Ok defs) e = ok_file defs (file_read (length all) [] all 0 refl (le_refl (length all)) (Ok defs) e)
  file_is (Err f) e = tt
