-- What a run keeps: it starts from any number of ticks, and constructors in slots are there.
use Rattle.std.proofs.Common.{◌≡◌, ℕ, zero, suc, ◌+◌, ◌<◌, ◌≤◌, Bool as Truth, true, false, List, [], ◌∷◌, ◌++◌, length, refl, sym, ◌∙◌, ap, subst, arith, Option, Some, None, inl, inr}
use Rattle.std.specs.Prelude.{◌⊎◌, slice_get, slice_index_or, set, All, if◌then◌else◌}
use Rattle.std.specs.Option.{option_map_or}
use Rattle.std.proofs.lemmas.Bool.{cases_lt}
use Rattle.std.proofs.lemmas.List.Elements.{All-set}
use Rattle.std.proofs.Math.ListN.{get_or-eq_default}
use Rattle.ls_base.specs.declared.Name.{Name}
use Rattle.ls_value.specs.declared.leaf.Leaf.{Leaf}
use Rattle.ls_value.specs.declared.leaf.Leaf.TheVariants.{Nil, Int, Bool, Char, Text, Enum, Unit as Nothing}
use Rattle.ls_ops.specs.declared.kinds.Op.{Op}
use Rattle.ls_ops.specs.declared.kinds.Op.TheVariants.{Add, Sub, Mul, Div, Rem, Neg, Less, LessEq, Greater, GreaterEq, Equal, Differ, Not, And, Or, Xor, Choose, Min, Max, Sign, Odd, IntOfChar, IsDigit, IsLetter}
use Rattle.ls_ops.specs.Values.{value_of, one_int, two_ints, one_bool, two_bools, one_char, two_same, are_of_one_shape}
use Rattle.step_code.specs.declared.parts.CodeBody.{CodeBody}
use Rattle.step_code.specs.declared.parts.Instr.{Instr}
use Rattle.step_code.specs.declared.parts.Instr.TheVariants.{Const, Copy, Op1, Op2, Op3, Test, When, Call}
use Rattle.step_code.specs.Leaves.{tested}
use Rattle.step_code.specs.declared.parts.InLine.{InLine}
use Rattle.line_io.specs.declared.form.Cell.{Cell}
use Rattle.line_io.specs.declared.form.Cell.TheVariants.{Absent, NotEmitted, Leaf as Given}
use Rattle.step_code.specs.Steps.{Moment, moment, BodyStep, called, effect, skipped, run, body_steps, slot, ticked, operated, with_inputs, with_signal, input_leaf, is_emitted}
use Rattle.step_runner.specs.Ranges.{IsKnown}
use Rattle.step_runner.specs.Running.{later}
use Rattle.step_runner.proofs.Validity.{Each, LeafKnown, BodyKnown}

-- ---- a property of the steps of all bodies

abbrev pub AllSteps : (BodyStep → Type 0) → List BodyStep → Type 0
AllSteps P steps = (b : ℕ) → P (called (slice_get steps b))

module _ (P : BodyStep → Type 0) (idle : P (called None)) where
  more_steps : (done : List BodyStep) (s : BodyStep) → AllSteps P done → P s → AllSteps P (done ++ s ∷ [])
  more_steps [] s h p zero = p
  more_steps [] s h p (suc b) = idle
  more_steps (x ∷ done) s h p zero = h zero
  more_steps (x ∷ done) s h p (suc b) = more_steps done s (λ k. h (suc k)) p b

  pub all_bodies : (Q : CodeBody → Type 0) → ((done : List BodyStep) (body : CodeBody) → AllSteps P done → Q body → P (λ base. run done (λ k. base + k) 0 body.list))
      → (done : List BodyStep) (bodies : List CodeBody) → AllSteps P done → Each Q bodies → AllSteps P (body_steps done bodies)
  all_bodies Q gives done [] h q = h
  all_bodies Q gives done (body ∷ rest) h q =
      all_bodies Q gives (done ++ (λ base. run done (λ k. base + k) 0 body.list) ∷ []) rest
      (more_steps done (λ base. run done (λ k. base + k) 0 body.list) h (gives done body h q.0)) q.1

-- ---- ticks

abbrev pub Shifts : BodyStep → Type 0
Shifts s = (base t : ℕ) (m : Moment) → s base (later t m) ≡ later t (s base m)

assoc : (t n : ℕ) → t + n + 1 ≡ t + (n + 1)
assoc t n = omega arith

module _ (bodies : List BodyStep) (shift : AllSteps Shifts bodies) (place : ℕ → ℕ) where
  effect_later : (line : Instr) (t : ℕ) (m : Moment) → effect bodies place line (later t m) ≡ later t (effect bodies place line m)
  effect_later (Const d l) t m = ap (λ n. moment (set m.slots (place d) l) m.alarmed n) (assoc t m.ticks)
  effect_later (Copy d a) t m = ap (λ n. moment (set m.slots (place d) (slot m (place a))) m.alarmed n) (assoc t m.ticks)
  effect_later (Op1 op d a) t m = ap (λ n. record (operated m (place d) op (slot m (place a) ∷ [])) { ticks = n }) (assoc t m.ticks)
  effect_later (Op2 op d a b) t m = ap (λ n. record (operated m (place d) op (slot m (place a) ∷ slot m (place b) ∷ [])) { ticks = n }) (assoc t m.ticks)
  effect_later (Op3 op d a b c) t m = ap (λ n. record (operated m (place d) op (slot m (place a) ∷ slot m (place b) ∷ slot m (place c) ∷ [])) { ticks = n }) (assoc t m.ticks)
  effect_later (Test d a l) t m = ap (λ n. moment (set m.slots (place d) (tested (slot m (place a)) l)) m.alarmed n) (assoc t m.ticks)
  effect_later (When g size) t m = ap (λ n. moment m.slots m.alarmed n) (assoc t m.ticks)
  effect_later (Call body window) t m =
      ap (λ n. called (slice_get bodies body) (place window) (moment m.slots m.alarmed n)) (assoc t m.ticks)
      ∙ shift body (place window) t (moment m.slots m.alarmed (m.ticks + 1))

  skipped_later : (line : Instr) (t : ℕ) (m : Moment) → skipped bodies place line (later t m) ≡ skipped bodies place line m
  skipped_later (Const d l) t m = refl
  skipped_later (Copy d a) t m = refl
  skipped_later (Op1 op d a) t m = refl
  skipped_later (Op2 op d a b) t m = refl
  skipped_later (Op3 op d a b c) t m = refl
  skipped_later (Test d a l) t m = refl
  skipped_later (When g size) t m = refl
  skipped_later (Call body window) t m = refl

  pub run_later : (skip : ℕ) (lines : List Instr) (t : ℕ) (m : Moment) → run bodies place skip lines (later t m) ≡ later t (run bodies place skip lines m)
  run_later skip [] t m = refl
  run_later (suc skip) (line ∷ rest) t m = run_later skip rest t m
  run_later zero (line ∷ rest) t m =
      (λ i. run bodies place (skipped_later line t m i) rest (effect_later line t m i))
      ∙ run_later (skipped bodies place line m) rest t (effect bodies place line m)

pub bodies_shift : (bodies : List CodeBody) → Each (λ (b : CodeBody). Unit {0}) bodies → AllSteps Shifts (body_steps [] bodies)
bodies_shift bodies any =
    all_bodies Shifts (λ base t m. refl) (λ (b : CodeBody). Unit {0}) (λ done body h q base t m. run_later done h (λ k. base + k) 0 body.list t m) [] bodies (λ b base t m. refl) any

pub any_body : (bodies : List CodeBody) → Each (λ (b : CodeBody). Unit {0}) bodies
any_body [] = tt
any_body (b ∷ rest) = (tt, any_body rest)

-- ---- constructors

module _ (cases : List (List Name)) where
  K : Leaf → Type 0
  K leaf = IsKnown cases leaf

  known_map : {X : Type 0} (f : X → Leaf) (o : Option X) → ((x : X) → IsKnown cases (f x)) → IsKnown cases (option_map_or f o Nil)
  known_map f None h = refl
  known_map f (Some x) h = h x

  pick_known : (c : Truth) (a b : Leaf) → IsKnown cases a → IsKnown cases b → IsKnown cases (if c then a else b)
  pick_known true a b x y = x
  pick_known false a b x y = y

  choose_known : (same c : Truth) (a b : Leaf) → IsKnown cases a → IsKnown cases b → IsKnown cases (option_map_or (λ l. l) (if same then Some (if c then a else b) else None) Nil)
  choose_known true c a b x y = pick_known c a b x y
  choose_known false c a b x y = refl

  -- an operator's value has no constructor that its operands have not
  value_known : (op : Op) (args : List Leaf) → IsKnown cases (value_of Choose args) → IsKnown cases (value_of op args)
  value_known Add args h = known_map _ (two_ints args) (λ p. refl)
  value_known Sub args h = known_map _ (two_ints args) (λ p. refl)
  value_known Mul args h = known_map _ (two_ints args) (λ p. refl)
  value_known Div args h = known_map _ (two_ints args) (λ p. refl)
  value_known Rem args h = known_map _ (two_ints args) (λ p. refl)
  value_known Neg args h = known_map _ (one_int args) (λ p. refl)
  value_known Less args h = known_map _ (two_ints args) (λ p. refl)
  value_known LessEq args h = known_map _ (two_ints args) (λ p. refl)
  value_known Greater args h = known_map _ (two_ints args) (λ p. refl)
  value_known GreaterEq args h = known_map _ (two_ints args) (λ p. refl)
  value_known Equal args h = known_map _ (two_same args) (λ p. refl)
  value_known Differ args h = known_map _ (two_same args) (λ p. refl)
  value_known Not args h = known_map _ (one_bool args) (λ p. refl)
  value_known And args h = known_map _ (two_bools args) (λ p. refl)
  value_known Or args h = known_map _ (two_bools args) (λ p. refl)
  value_known Xor args h = known_map _ (two_bools args) (λ p. refl)
  value_known Min args h = known_map _ (two_ints args) (λ p. refl)
  value_known Max args h = known_map _ (two_ints args) (λ p. refl)
  value_known Sign args h = known_map _ (one_int args) (λ p. refl)
  value_known Odd args h = known_map _ (one_int args) (λ p. refl)
  value_known IntOfChar args h = known_map _ (one_char args) (λ p. refl)
  value_known IsDigit args h = known_map _ (one_char args) (λ p. refl)
  value_known IsLetter args h = known_map _ (one_char args) (λ p. refl)
  value_known Choose args h = h

  choose_one : (a : Leaf) → IsKnown cases (value_of Choose (a ∷ []))
  choose_one Nil = refl
  choose_one (Int n) = refl
  choose_one (Bool t) = refl
  choose_one (Char e) = refl
  choose_one (Text t) = refl
  choose_one (Enum t k) = refl
  choose_one Nothing = refl

  choose_two : (a b : Leaf) → IsKnown cases (value_of Choose (a ∷ b ∷ []))
  choose_two Nil b = refl
  choose_two (Int n) b = refl
  choose_two (Bool t) b = refl
  choose_two (Char e) b = refl
  choose_two (Text t) b = refl
  choose_two (Enum t k) b = refl
  choose_two Nothing b = refl

  choose_three : (a b c : Leaf) → IsKnown cases b → IsKnown cases c → IsKnown cases (value_of Choose (a ∷ b ∷ c ∷ []))
  choose_three Nil b c y z = refl
  choose_three (Int n) b c y z = refl
  choose_three (Bool t) b c y z = choose_known (are_of_one_shape b c) t b c y z
  choose_three (Char e) b c y z = refl
  choose_three (Text t) b c y z = refl
  choose_three (Enum t k) b c y z = refl
  choose_three Nothing b c y z = refl

  tested_known : (a l : Leaf) → IsKnown cases (tested a l)
  tested_known Nil l = refl
  tested_known (Int n) l = refl
  tested_known (Bool t) l = refl
  tested_known (Char e) l = refl
  tested_known (Text t) l = refl
  tested_known (Enum t k) l = refl
  tested_known Nothing l = refl

  AllKnown : List Leaf → Type 0
  AllKnown slots = All (λ leaf. IsKnown cases leaf) slots

  pub get_known : (slots : List Leaf) (k : ℕ) → All (λ leaf. IsKnown cases leaf) slots → IsKnown cases (slice_index_or slots k Nil)
  get_known slots k h = by_place (cases_lt k (length slots))
    where
      by_place : (k < length slots) ⊎ (length slots ≤ k) → IsKnown cases (slice_index_or slots k Nil)
      by_place (inl lt) = h k Nil lt
      by_place (inr le) = let P = λ (leaf : Leaf). IsKnown cases leaf in subst P (sym (get_or-eq_default slots Nil le)) refl

  put_known : (slots : List Leaf) (d : ℕ) (leaf : Leaf) → All (λ l. IsKnown cases l) slots → IsKnown cases leaf → All (λ l. IsKnown cases l) (set slots d leaf)
  put_known slots d leaf h k = All-set (λ l. IsKnown cases l) slots d leaf k h

  abbrev pub Keeps : BodyStep → Type 0
  Keeps s = (base : ℕ) (m : Moment) → All (λ l. IsKnown cases l) m.slots → All (λ l. IsKnown cases l) (s base m).slots

  module _ (bodies : List BodyStep) (keeps : AllSteps Keeps bodies) (place : ℕ → ℕ) where
    effect_known : (line : Instr) → LeafKnown cases line → (m : Moment) → All (λ l. IsKnown cases l) m.slots → All (λ l. IsKnown cases l) (effect bodies place line m).slots
    effect_known (Const d l) k m h = put_known m.slots (place d) l h k
    effect_known (Copy d a) k m h = put_known m.slots (place d) (slot m (place a)) h (get_known m.slots (place a) h)
    effect_known (Op1 op d a) k m h = put_known m.slots (place d) (value_of op (slot m (place a) ∷ [])) h (value_known op (slot m (place a) ∷ []) (choose_one (slot m (place a))))
    effect_known (Op2 op d a b) k m h =
        put_known m.slots (place d) (value_of op (slot m (place a) ∷ slot m (place b) ∷ [])) h
        (value_known op (slot m (place a) ∷ slot m (place b) ∷ []) (choose_two (slot m (place a)) (slot m (place b))))
    effect_known (Op3 op d a b c) k m h =
        put_known m.slots (place d) (value_of op (slot m (place a) ∷ slot m (place b) ∷ slot m (place c) ∷ [])) h
        (value_known op (slot m (place a) ∷ slot m (place b) ∷ slot m (place c) ∷ [])
        (choose_three (slot m (place a)) (slot m (place b)) (slot m (place c)) (get_known m.slots (place b) h) (get_known m.slots (place c) h)))
    effect_known (Test d a l) k m h = put_known m.slots (place d) (tested (slot m (place a)) l) h (tested_known (slot m (place a)) l)
    effect_known (When g size) k m h = h
    effect_known (Call body window) k m h = keeps body (place window) (ticked m) h

    pub run_known : (skip : ℕ) (lines : List Instr) → Each (LeafKnown cases) lines → (m : Moment) → All (λ l. IsKnown cases l) m.slots → All (λ l. IsKnown cases l) (run bodies place skip lines m).slots
    run_known skip [] k m h = h
    run_known (suc skip) (line ∷ rest) k m h = run_known skip rest k.1 m h
    run_known zero (line ∷ rest) k m h = run_known (skipped bodies place line m) rest k.1 (effect bodies place line m) (effect_known line k.0 m h)

  pub bodies_keep : (bodies : List CodeBody) → Each (BodyKnown cases) bodies → AllSteps Keeps (body_steps [] bodies)
  bodies_keep bodies known =
      all_bodies Keeps (λ base m h. h) (BodyKnown cases) (λ done body h q base m k. run_known done h (λ j. base + j) 0 body.list q m k) [] bodies (λ b base m h. h) known

  -- ---- inputs

  abbrev pub CellKnown : Cell → Type 0
  CellKnown Absent = Unit {0}
  CellKnown NotEmitted = Unit {0}
  CellKnown (Given leaf) = IsKnown cases leaf

  input_known : (c : Cell) → CellKnown c → IsKnown cases (input_leaf c)
  input_known Absent h = refl
  input_known NotEmitted h = refl
  input_known (Given leaf) h = h

  signal_known : (o : Option ℕ) (c : Cell) (slots : List Leaf) → All (λ l. IsKnown cases l) slots → All (λ l. IsKnown cases l) (with_signal o c slots)
  signal_known None c slots h = h
  signal_known (Some p) c slots h = put_known slots p (Bool (is_emitted c)) h refl

  pub inputs_known : (lines : List InLine) (cells : List Cell) (slots : List Leaf) → Each CellKnown cells → All (λ l. IsKnown cases l) slots → All (λ l. IsKnown cases l) (with_inputs lines cells slots)
  inputs_known [] cells slots k h = h
  inputs_known (line ∷ rest) [] slots k h = h
  inputs_known (line ∷ rest) (c ∷ cells) slots k h =
      inputs_known rest cells (with_signal line.signal c (set slots line.slot (input_leaf c))) k.1
      (signal_known line.signal c (set slots line.slot (input_leaf c)) (put_known slots line.slot (input_leaf c) h (input_known c k.0)))
