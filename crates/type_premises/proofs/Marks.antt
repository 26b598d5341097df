-- The marks of the names in the parameters, and how many names a pattern has.
use Rattle.std.specs.Prelude.{◌≡◌, refl, ℕ, zero, suc, ◌+◌, ◌<◌, Bool, true, false, List, [], ◌∷◌, ◌++◌, map, length, slice_get, Option, Some}
use Rattle.std.proofs.Common.{ap, ap₂, sym, ◌∙◌, subst, arith, length-append}
use Rattle.ls_ast.specs.declared.tree.Mark.{Mark}
use Rattle.ls_ast.specs.declared.tree.Mark.TheVariants as mark
use Rattle.ls_ast.specs.declared.tree.Pat.{Pat, fold-Pat, ind-Pat, roll-Pat, fold-roll-Pat, out-roll-Pat, map-Pat}
use Rattle.ls_ast.specs.declared.tree.Pat.TheOpen.{Pat-F}
use Rattle.ls_places.specs.Patterns as FP
use Rattle.type_rules.specs.Bodies.{Shape, shape_of, shape_step, names_in}
use Rattle.type_rules.specs.Definitions.{name_marks, same_marks, mark_in}
use Rattle.type_rules.specs.Expressions.{is_functional}
use Rattle.scope_rules.specs.Places as P
use Rattle.scope_rules.specs.Claims.{is_function}
use Rattle.scope_rules.specs.declared.claims.Asked.{Asked}
use Rattle.scope_rules.specs.Faults.{mark_at, mark_from, marks_from}

-- names of patterns

joined_same : {A : Type 0} (xs : List (List A)) → P.joined xs ≡ FP.joined xs
joined_same [] = refl
joined_same (x ∷ xs) = ap (λ z. x ++ z) (joined_same xs)

pattern_same : (x : Pat-F (List ℕ)) → P.pattern_names x ≡ FP.pattern_names x
pattern_same Pat-F.Any = refl
pattern_same Pat-F.Unit = refl
pattern_same (Pat-F.Var x) = refl
pattern_same (Pat-F.Tuple parts) = joined_same parts

pub names_same : (p : Pat) → P.names_of p ≡ FP.names_of p
names_same p = λ i. fold-Pat (List ℕ) (λ x. pattern_same x i) p

-- as many as its shape has

abbrev Long : Pat → Type 0
Long p = (n : ℕ) → length ((shape_of p).names n) ≡ length (FP.names_of p)

abbrev WithLong : Type 0
WithLong = (p : Pat) × Long p

abbrev tops : Pat-F WithLong → Pat-F Pat
tops = map-Pat WithLong Pat (λ p. p.0)

all_long : (ps : List WithLong) (n : ℕ) → length (names_in (map shape_of (map (λ p. p.0) ps)) n) ≡ length (FP.joined (map FP.names_of (map (λ p. p.0) ps)))
all_long [] n = refl
all_long (p ∷ ps) n =
    let m = n + (shape_of p.0).leaves in
    length-append ((shape_of p.0).names n) (names_in (map shape_of (map (λ p. p.0) ps)) m)
    ∙ ap₂ (λ a b. a + b) (p.1 n) (all_long ps m)
    ∙ sym (length-append (FP.names_of p.0) (FP.joined (map FP.names_of (map (λ p. p.0) ps))))

long_layer : (y : Pat-F WithLong) (n : ℕ) → length ((shape_step (map-Pat Pat Shape shape_of (tops y))).names n) ≡ length (FP.pattern_names (map-Pat Pat (List ℕ) FP.names_of (tops y)))
long_layer Pat-F.Any n = refl
long_layer Pat-F.Unit n = refl
long_layer (Pat-F.Var x) n = refl
long_layer (Pat-F.Tuple ps) n = all_long ps n

pub names_long : (p : Pat) → Long p
names_long = ind-Pat Long (λ x y from. subst (λ z. Long (roll-Pat z)) from (λ n.
    ap (λ (s : Shape). length (s.names n)) (fold-roll-Pat Shape shape_step (tops y)) ∙ long_layer y n ∙ ap length (sym (fold-roll-Pat (List ℕ) FP.pattern_names (tops y)))))

-- one, where it is a name

abbrev One : Pat → Type 0
One p = P.is_name p ≡ true → length (FP.names_of p) ≡ 1

abbrev WithOne : Type 0
WithOne = (p : Pat) × One p

one_layer : (y : Pat-F Pat) → P.is_name_at y ≡ true → length (FP.pattern_names (map-Pat Pat (List ℕ) FP.names_of y)) ≡ 1
one_layer (Pat-F.Var x) e = refl
one_layer Pat-F.Any e = absurd (cc)
one_layer Pat-F.Unit e = absurd (cc)
one_layer (Pat-F.Tuple ps) e = absurd (cc)

pub one_name : (p : Pat) → One p
one_name = ind-Pat One (λ x y from. subst (λ z. One (roll-Pat z)) from (λ e.
    let z : Pat-F Pat = map-Pat WithOne Pat (λ p. p.0) y in
    ap length (fold-roll-Pat (List ℕ) FP.pattern_names z) ∙ one_layer z (ap P.is_name_at (sym (out-roll-Pat z)) ∙ e)))

abbrev Alone : Pat → Type 0
Alone p = (x : ℕ) → (shape_of p).alone ≡ Some x → length (FP.names_of p) ≡ 1

abbrev WithAlone : Type 0
WithAlone = (p : Pat) × Alone p

alone_layer : (y : Pat-F Pat) (x : ℕ) → (shape_step (map-Pat Pat Shape shape_of y)).alone ≡ Some x → length (FP.pattern_names (map-Pat Pat (List ℕ) FP.names_of y)) ≡ 1
alone_layer (Pat-F.Var z) x e = refl
alone_layer Pat-F.Any x e = absurd (cc)
alone_layer Pat-F.Unit x e = absurd (cc)
alone_layer (Pat-F.Tuple ps) x e = absurd (cc)

pub alone_name : (p : Pat) → Alone p
alone_name = ind-Pat Alone (λ x y from. subst (λ z. Alone (roll-Pat z)) from (λ v e.
    let z : Pat-F Pat = map-Pat WithAlone Pat (λ p. p.0) y in
    ap length (fold-roll-Pat (List ℕ) FP.pattern_names z) ∙ alone_layer z v (ap (λ (s : Shape). s.alone) (sym (fold-roll-Pat Shape shape_step z)) ∙ e)))

-- the marks of names

pub marks_later : (m : Mark) (xs : List ℕ) (after : List Mark) (i : ℕ) → slice_get (same_marks m xs ++ after) (length xs + i) ≡ slice_get after i
marks_later m [] after i = let e : 0 + i ≡ i = omega arith in ap (slice_get after) e
marks_later m (x ∷ xs) after i =
    let e : length (x ∷ xs) + i ≡ suc (length xs + i) = omega arith in
    ap (slice_get (m ∷ same_marks m xs ++ after)) e ∙ marks_later m xs after i

pub mark_first : (m : Mark) (xs : List ℕ) (after : List Mark) → length xs ≡ 1 → slice_get (same_marks m xs ++ after) 0 ≡ Some m
mark_first m [] after e = absurd (omega (arith, e))
mark_first m (x ∷ xs) after e = refl

-- a place is among the names of one pattern or behind them
either_place : (m : Mark) (xs : List ℕ) (after : List Mark) (i : ℕ) (Q : Option Mark → ℕ → Type 0) → ((j : ℕ) → j < length xs → Q (Some m) j) → ((j : ℕ) → Q (slice_get after j) (length xs + j))
    → Q (slice_get (same_marks m xs ++ after) i) i
either_place m [] after i Q here later = let e : 0 + i ≡ i = omega arith in subst (λ j. Q (slice_get after i) j) e (later i)
either_place m (x ∷ xs) after zero Q here later = here 0 (omega arith)
either_place m (x ∷ xs) after (suc i) Q here later = either_place m xs after i (λ o j. Q o (suc j)) (λ j l. here (suc j) (omega (arith, l)))
    (λ j. let e : length (x ∷ xs) + j ≡ suc (length xs + j) = omega arith in subst (λ n. Q (slice_get after j) n) e (later j))

function_is : (m : Mark) → is_functional m ≡ true → is_function m ≡ true
function_is mark.Unknown h = h
function_is mark.Data h = h
function_is mark.Clock h = h
function_is mark.Signal h = h
function_is mark.Comb h = h
function_is mark.Seq h = h

module _ (asks : List Asked) where
  abbrev Marked : ℕ → Option Mark → ℕ → Type 0
  Marked k o i = is_functional (mark_in o) ≡ true → is_function (mark_at asks (k + i)) ≡ true

  of_name : (b : Bool) (k n : ℕ) → (b ≡ true → n ≡ 1) → (i : ℕ) → i < n → Marked k (Some (mark_from asks b k)) i
  of_name true k n one i l e = let o = one refl in let z : k ≡ k + i = omega (arith, o, l) in subst (λ j. is_function (mark_at asks j) ≡ true) z (function_is (mark_at asks k) e)
  of_name false k n one i l e = absurd (cc)

  -- a name that has the mark of a function is used as one
  pub marked : (ps : List Pat) (k i : ℕ) → Marked k (slice_get (name_marks ps (marks_from asks ps k)) i) i
  marked [] k zero e = absurd (cc)
  marked [] k (suc i) e = absurd (cc)
  marked (p ∷ ps) k i e =
      let n = k + length (P.names_of p) in
      either_place (mark_from asks (P.is_name p) k) (FP.names_of p) (name_marks ps (marks_from asks ps n)) i (Marked k)
      (of_name (P.is_name p) k (length (FP.names_of p)) (one_name p))
      (λ j e. let l = ap length (names_same p) in let z : n + j ≡ k + (length (FP.names_of p) + j) = omega (arith, l) in subst (λ x. is_function (mark_at asks x) ≡ true) z (marked ps n j e))
      e
