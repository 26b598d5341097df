-- What a core promises of its clocks, and what slots know of cells: the guards of a clock all hold exactly where it is on.
use Rattle.std.specs.Prelude.{◌≡◌, refl, ℕ, ◌&&◌, Bool as Truth, true, false, List, [], ◌∷◌, ◌++◌, Option, None, Some, if◌then◌else◌, ◌⊎◌}
use Rattle.std.proofs.Common.{ap, ap₂, sym, ◌∙◌}
use Rattle.std.proofs.lemmas.Bool.{false≢true}
use Rattle.ls_value.specs.declared.leaf.Leaf.{Leaf}
use Rattle.ls_value.specs.declared.leaf.Leaf.TheVariants.{Nil, Int, Bool, Char, Text, Enum, Unit as Nothing}
use Rattle.step_code.specs.Leaves.{tested, is_true}
use Rattle.core_lang.specs.Leaves.{leaf_of, is_held}
use Rattle.core_lang.specs.Equations.{Cells, is_on}
use Rattle.compile_rules.specs.declared.places.Place.TheVariants.{Value as value, Guard as guard}
use Rattle.compile_rules.specs.Scheme.{Slots, all_true, guard_of, path, Plan}
use Rattle.compile_rules.proofs.Frames.{all_true_append}
use Rattle.core_lang.specs.Orders.{Has}
use Rattle.compile_rules.specs.Plans.{HasLeaf, IsAsked, IsClock, is_some}

pub present_leaf : (c : Option Leaf) → is_some c ≡ true → (x : Leaf) × (c ≡ Some x)
present_leaf None e = absurd (false≢true e)
present_leaf (Some x) e = (x, refl)

-- ---- what a core promises, in terms of a plan

module _ (plan : Plan) where
  -- What the slots know of the cells of known variables: where one is present, its leaf, and of each leaf that guards
  -- ask whether it is this one.
  pub record Knows (cells : Cells) (known : List ℕ) (s : Slots) : Type 0 where
    pub leaf : (v : ℕ) (x : Leaf) → Has known v → cells v ≡ Some x → s (value v) ≡ x
    pub holds : (v : ℕ) (l x : Leaf) → Has known v → HasLeaf (plan.leaves v) l → cells v ≡ Some x → s (guard v l) ≡ tested x l
    pub here : (v : ℕ) → Has known v → is_some (cells v) ≡ is_on cells (plan.clock v)

  -- slots that have the same at the places of known variables know the same
  pub knows_else : (cells : Cells) (known : List ℕ) (s s' : Slots) → Knows cells known s
      → ((v : ℕ) → Has known v → s' (value v) ≡ s (value v)) → ((v : ℕ) (l : Leaf) → Has known v → s' (guard v l) ≡ s (guard v l)) → Knows cells known s'
  knows_else cells known s s' k same same' = record {
    leaf = λ v x h e. same v h ∙ k.leaf v x h e;
    holds = λ v l x h m e. same' v l h ∙ k.holds v l x h m e;
    here = k.here;
  }

  -- ---- guards

  own_true : (x : Leaf) → is_true x ≡ is_true (tested x (Bool true))
  own_true Nil = refl
  own_true (Int n) = refl
  own_true (Bool true) = refl
  own_true (Bool false) = refl
  own_true (Char c) = refl
  own_true (Text t) = refl
  own_true (Enum t a) = refl
  own_true Nothing = refl

  pub guard_true : (cells : Cells) (known : List ℕ) (s : Slots) → Knows cells known s → (m : ℕ) (l x : Leaf) → Has known m → IsAsked plan m l → cells m ≡ Some x
      → is_true (s (guard_of m l)) ≡ is_true (tested x l)
  guard_true cells known s k m (Bool true) x h a e = ap is_true (k.leaf m x h e) ∙ own_true x
  guard_true cells known s k m (Bool false) x h a e = ap is_true (k.holds m (Bool false) x h a e)
  guard_true cells known s k m Nil x h a e = ap is_true (k.holds m Nil x h a e)
  guard_true cells known s k m (Int n) x h a e = ap is_true (k.holds m (Int n) x h a e)
  guard_true cells known s k m (Char c) x h a e = ap is_true (k.holds m (Char c) x h a e)
  guard_true cells known s k m (Text t) x h a e = ap is_true (k.holds m (Text t) x h a e)
  guard_true cells known s k m (Enum t p) x h a e = ap is_true (k.holds m (Enum t p) x h a e)
  guard_true cells known s k m Nothing x h a e = ap is_true (k.holds m Nothing x h a e)

  -- a guard whose variable is present says whether it is held
  pub guard_held : (cells : Cells) (known : List ℕ) (s : Slots) → Knows cells known s → (m : ℕ) (l : Leaf) → Has known m → IsAsked plan m l → is_some (cells m) ≡ true
      → is_true (s (guard_of m l)) ≡ is_held (cells m) l
  guard_held cells known s k m l h a e =
      let w = present_leaf (cells m) e in
      guard_true cells known s k m l w.0 h a w.1 ∙ sym (ap (λ c. is_held c l) w.1)

  if_and : (t u v : Truth) → (t ≡ true → u ≡ v) → (if t then u else false) ≡ (t && v)
  if_and true u v f = f refl
  if_and false u v f = refl

  on_append : (cells : Cells) (clock : List (ℕ × Leaf)) (asked : ℕ × Leaf) → is_on cells clock ≡ true → is_held (cells asked.0) asked.1 ≡ true → is_on cells (clock ++ asked ∷ []) ≡ true
  on_append cells [] asked on held = ap (λ t. t && true) held
  on_append cells (other ∷ clock) asked on held = go (is_held (cells other.0) other.1) on (λ e. on_append cells clock asked e held)
    where
      go : (t : Truth) → (t && is_on cells clock) ≡ true → (is_on cells clock ≡ true → is_on cells (clock ++ asked ∷ []) ≡ true) → (t && is_on cells (clock ++ asked ∷ [])) ≡ true
      go true e f = f e
      go false e f = absurd (false≢true e)

  pub on_front : (cells : Cells) (clock : List (ℕ × Leaf)) (asked : ℕ × Leaf) → is_on cells (clock ++ asked ∷ []) ≡ true → is_on cells clock ≡ true
  on_front cells [] asked on = refl
  on_front cells (other ∷ clock) asked on = go (is_held (cells other.0) other.1) on (λ e. on_front cells clock asked e)
    where
      go : (t : Truth) → (t && is_on cells (clock ++ asked ∷ [])) ≡ true → (is_on cells (clock ++ asked ∷ []) ≡ true → is_on cells clock ≡ true) → (t && is_on cells clock) ≡ true
      go true e f = f e
      go false e f = absurd (false≢true e)

  pub on_with : (cells : Cells) (clock : List (ℕ × Leaf)) (asked : ℕ × Leaf) → is_on cells clock ≡ true → is_held (cells asked.0) asked.1 ≡ true → is_on cells (clock ++ asked ∷ []) ≡ true
  on_with = on_append

  path_from : (cells : Cells) (known : List ℕ) (s : Slots) → Knows cells known s → (prefix clock : List (ℕ × Leaf)) → IsClock plan known prefix clock → is_on cells prefix ≡ true
      → all_true s (path clock) ≡ is_on cells clock
  path_from cells known s k prefix [] h on = refl
  path_from cells known s k prefix (asked ∷ rest) h on =
      ap (λ t. if t then all_true s (path rest) else false)
      (guard_held cells known s k asked.0 asked.1 h.0 h.2 (k.here asked.0 h.0 ∙ ap (is_on cells) h.1 ∙ on))
      ∙ if_and (is_held (cells asked.0) asked.1) (all_true s (path rest)) (is_on cells rest)
      (λ held. path_from cells known s k (prefix ++ asked ∷ []) rest h.3 (on_append cells prefix asked on held))

  -- the guards of a clock all hold exactly where it is on
  pub path_on : (cells : Cells) (known : List ℕ) (s : Slots) → Knows cells known s → (clock : List (ℕ × Leaf)) → IsClock plan known [] clock
      → all_true s (path clock) ≡ is_on cells clock
  path_on cells known s k clock h = path_from cells known s k [] clock h refl

  -- a known variable whose clock is on has its leaf
  pub leaf_at : (cells : Cells) (known : List ℕ) (s : Slots) → Knows cells known s → (a : ℕ) → Has known a → is_on cells (plan.clock a) ≡ true → s (value a) ≡ leaf_of (cells a)
  leaf_at cells known s k a h on =
      let w = present_leaf (cells a) (k.here a h ∙ on) in
      k.leaf a w.0 h w.1 ∙ sym (ap leaf_of w.1)

  -- a restart is noticed exactly where it is present and true
  pub restart_on : (cells : Cells) (known : List ℕ) (s : Slots) → Knows cells known s → (r : ℕ) → Has known r → IsClock plan known [] (plan.clock r)
      → all_true s (path (plan.clock r) ++ value r ∷ []) ≡ is_held (cells r) (Bool true)
  restart_on cells known s k r h c =
      all_true_append s (path (plan.clock r)) (value r ∷ [])
      ∙ ap (λ t. if t then (if is_true (s (value r)) then true else false) else false) (path_on cells known s k (plan.clock r) c ∙ sym (k.here r h))
      ∙ go (cells r) refl
    where
      same : (t : Truth) → (if t then true else false) ≡ t
      same true = refl
      same false = refl

      go : (c' : Option Leaf) → cells r ≡ c' → (if is_some c' then (if is_true (s (value r)) then true else false) else false) ≡ is_held c' (Bool true)
      go None e = refl
      go (Some x) e = same (is_true (s (value r))) ∙ ap is_true (k.leaf r x h e) ∙ own_true x

  -- the places of a clock's guards belong to known variables
  pub path_else : (known : List ℕ) (s s' : Slots) → ((v : ℕ) → Has known v → s' (value v) ≡ s (value v)) → ((v : ℕ) (l : Leaf) → Has known v → s' (guard v l) ≡ s (guard v l))
      → (prefix clock : List (ℕ × Leaf)) → IsClock plan known prefix clock → all_true s' (path clock) ≡ all_true s (path clock)
  path_else known s s' same same' prefix [] h = refl
  path_else known s s' same same' prefix (asked ∷ rest) h =
      ap₂ (λ leaf t. if is_true leaf then t else false) (guard_else asked.1) (path_else known s s' same same' (prefix ++ asked ∷ []) rest h.3)
    where
      guard_else : (l : Leaf) → s' (guard_of asked.0 l) ≡ s (guard_of asked.0 l)
      guard_else (Bool true) = same asked.0 h.0
      guard_else (Bool false) = same' asked.0 (Bool false) h.0
      guard_else Nil = same' asked.0 Nil h.0
      guard_else (Int n) = same' asked.0 (Int n) h.0
      guard_else (Char c) = same' asked.0 (Char c) h.0
      guard_else (Text t) = same' asked.0 (Text t) h.0
      guard_else (Enum t a) = same' asked.0 (Enum t a) h.0
      guard_else Nothing = same' asked.0 Nothing h.0
