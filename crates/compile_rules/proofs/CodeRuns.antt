-- The code of a core: its slots after any number of steps are those of the scheme, and so its rows are a full solution of the
-- core and its alarms the core's.
use Rattle.std.specs.Prelude.{◌||◌, ◌≡◌, refl, ℕ, zero, suc, Bool as Truth, true, false, List, [], ◌∷◌, ◌++◌, Option, None, Some, length, slice_index_or, if◌then◌else◌}
use Rattle.std.proofs.Common.{ap, sym, ◌∙◌, subst, inl, inr}
use Rattle.std.proofs.lemmas.List.{append-nil}
use Rattle.std.proofs.lemmas.Bool.{false≢true}
use Rattle.ls_value.specs.declared.leaf.Leaf.{Leaf}
use Rattle.ls_value.specs.declared.leaf.Leaf.TheVariants.{Nil, Bool}
use Rattle.line_io.specs.declared.form.InputForm.{InputForm}
use Rattle.line_io.specs.declared.form.Cell.{Cell}
use Rattle.line_io.specs.declared.form.Cell.TheVariants.{Absent, NotEmitted, Leaf as Given}
use Rattle.core_lang.specs.declared.equations.CoreEq.{CoreEq}
use Rattle.core_lang.specs.declared.equations.CoreOut.{CoreOut}
use Rattle.step_code.specs.declared.code.Code.{Code}
use Rattle.step_code.specs.declared.parts.OutLine.{OutLine}
use Rattle.step_code.specs.Leaves.{is_true}
use Rattle.core_lang.specs.Leaves.{is_held}
use Rattle.core_lang.specs.Equations
use Rattle.core_lang.specs.Equations.{Table, is_on, at, is_alarmed, output, shown, right_leaf, previous_of}
use Rattle.core_lang.proofs.Instants.{rows}
use Rattle.compile_rules.specs.declared.places.Place.{Place}
use Rattle.compile_rules.specs.declared.places.Place.TheVariants.{Value as value, Present as present, Emitted as emitted}
use Rattle.compile_rules.specs.Scheme.{Slots, after_acts, acts_divide, Plan, step_acts}
use Rattle.compile_rules.proofs.OneEquation.{some_if}
use Rattle.compile_rules.proofs.Runs.{IsShown}
use Rattle.std.specs.Option.{option_map}
use Rattle.compile_rules.proofs.Theorem.{Feeds, slots_at, slots_have, alarms_same, equations_hold, outputs_shown}
use Rattle.step_code.specs.Steps.{Moment, run, step, first_slots, with_inputs, body_steps, out_cell, guarded_cell}
use Rattle.compile_rules.specs.Blocks.{joined, blocks_lines}
use Rattle.compile_rules.proofs.Joining.{joined_reach}
use Rattle.step_code.specs.declared.parts.Instr.{Instr}
use Rattle.compile_rules.proofs.Numbered.{IsNumbering, AreUsed, Matches, Does, Reaches}
use Rattle.core_lang.specs.Orders.{AllOf, Has, IsOf}
use Rattle.compile_rules.specs.Plans.{IsOrderedCore, grown, is_some}
use Rattle.compile_rules.specs.Coded.{still, slots_after, moment_at}

-- two cells are written alike
abbrev pub written : Cell → Cell
written NotEmitted = Absent
written c = c

module _ (plan : Plan) (form : InputForm) (inputs : List ℕ) (eqs : List CoreEq) (promised : IsOrderedCore plan inputs eqs) (line : ℕ → List Cell) (feed : List Cell → Slots → Slots) (start : Slots)
    (feeds : Feeds plan form inputs eqs promised line feed start) (number_of : Place → ℕ) (IsUsed : Place → Type 0) (code : Code) where
  -- lines that do what the acts of a step do, whatever their regions are
  abbrev pub DoAll : IsNumbering [] number_of IsUsed (length code.slots) → List Instr → Type 0
  DoAll numbering lines = (s : Slots) (m : Moment) → Matches [] number_of IsUsed (length code.slots) s m
      → Reaches [] number_of IsUsed (length code.slots) numbering lines [] m (after_acts (step_acts plan inputs eqs) s) (m.alarmed || acts_divide (step_acts plan inputs eqs) s)

  pub joined_do : (numbering : IsNumbering [] number_of IsUsed (length code.slots)) → AreUsed [] number_of IsUsed (length code.slots) (step_acts plan inputs eqs) → DoAll numbering (blocks_lines number_of (joined (step_acts plan inputs eqs)))
  joined_do numbering used s m k = joined_reach [] number_of IsUsed (length code.slots) numbering (step_acts plan inputs eqs) [] s m k used

  -- the code is that of the scheme under these numbers
  pub record IsCodeOf : Type 0 where
    pub bodies : code.bodies ≡ []
    pub numbering : IsNumbering [] number_of IsUsed (length code.slots)
    pub lines : DoAll numbering code.main
    pub begins : Matches [] number_of IsUsed (length code.slots) start (still (first_slots code))
    pub sets : (i : ℕ) (s : Slots) (slots : List Leaf) → Matches [] number_of IsUsed (length code.slots) s (still slots)
        → Matches [] number_of IsUsed (length code.slots) (feed (line i) s) (still (with_inputs code.inputs (line i) slots))

  module _ (is : IsCodeOf) where
    abbrev T : Table
    T = rows form eqs line

    abbrev named : ℕ → Slots
    named i = slots_at plan form inputs eqs promised line feed start i

    one_step : (i : ℕ) (s : Slots) (slots : List Leaf) → Matches [] number_of IsUsed (length code.slots) s (still slots)
        → Does [] number_of IsUsed (length code.slots) is.numbering (after_acts (step_acts plan inputs eqs) (feed (line i) s)) (acts_divide (step_acts plan inputs eqs) (feed (line i) s)) (step code (line i) slots)
    one_step i s slots m =
        let r = is.lines (feed (line i) s) (still (with_inputs code.inputs (line i) slots)) (is.sets i s slots m) in
        let lines : code.main ≡ code.main ++ [] = sym (append-nil code.main) in
        let whole : step code (line i) slots ≡ r.to =
        (λ j. run (body_steps [] (is.bodies j)) (λ k. k) 0 (lines j) (still (with_inputs code.inputs (line i) slots))) ∙ r.goes in
        subst (λ x. Does [] number_of IsUsed (length code.slots) is.numbering (after_acts (step_acts plan inputs eqs) (feed (line i) s)) (acts_divide (step_acts plan inputs eqs) (feed (line i) s)) x) (sym whole) r.does

    pub slots_match : (i : ℕ) → Matches [] number_of IsUsed (length code.slots) (named i) (still (slots_after code line i))
    slots_match zero = is.begins
    slots_match (suc i) =
        let m = (one_step i (named i) (slots_after code line i) (slots_match i)).matches in
        record { all = m.all; same = m.same }

    -- after step i the slot of a variable that is present at i has its leaf
    pub code_slots : (i v : ℕ) (x : Leaf) → Has (grown inputs eqs) v → IsUsed (value v) → T v i ≡ Some x → slice_index_or (slots_after code line (suc i)) (number_of (value v)) Nil ≡ x
    code_slots i v x h u e = (slots_match (suc i)).same (value v) u ∙ slots_have plan form inputs eqs promised line feed start feeds i v x h e

    -- a step notes an alarm exactly where the instant is alarmed
    pub code_alarms : (i : ℕ) → (moment_at code line i).alarmed ≡ is_alarmed (at T i) eqs
    code_alarms i = (one_step i (named i) (slots_after code line i) (slots_match i)).alarm_same ∙ alarms_same plan form inputs eqs promised line feed start feeds i

    -- ---- outputs

    -- the guard of an output line says where the output is shown: where it is present, and its signal is emitted
    abbrev pub when_of : ℕ → ℕ → Option ℕ → Truth
    when_of i var None = is_some (T var i)
    when_of i var (Some s) = is_held (T s i) (Bool true)

    abbrev pub shows_when : ℕ → CoreOut → Truth
    shows_when i out = when_of i out.var out.signal

    pub record IsOutOf (i : ℕ) (out : CoreOut) (o : OutLine) : Type 0 where
      pub place : o.slot ≡ number_of (value out.var)
      pub known : Has (grown inputs eqs) out.var
      pub is_used : IsUsed (value out.var)
      -- a signal that is emitted is present with its leaf
      pub with_leaf : shows_when i out ≡ true → is_some (T out.var i) ≡ true
      pub guarded : (leaf : Leaf) → guarded_cell (slots_after code line (suc i)) o.guard leaf ≡ (if shows_when i out then Given leaf else Absent)

    shown_leaf : (c : Option Leaf) → is_some c ≡ true → (x : Leaf) × (c ≡ Some x)
    shown_leaf None e = absurd (false≢true e)
    shown_leaf (Some x) e = (x, refl)

    -- the cell of an output line is written as the core's output is
    pub out_same : (i : ℕ) (out : CoreOut) (o : OutLine) → IsOutOf i out o → out_cell (slots_after code line (suc i)) o ≡ written (output (at T i) out)
    out_same i out o h = h.guarded leaf ∙ by_signal out.signal (shows_when i out) refl refl
      where
        leaf : Leaf
        leaf = slice_index_or (slots_after code line (suc i)) o.slot Nil

        there : is_some (T out.var i) ≡ true → T out.var i ≡ Some leaf
        there e =
            let w = shown_leaf (T out.var i) e in
            w.1 ∙ ap Some (sym (code_slots i out.var w.0 h.known h.is_used w.1) ∙ ap (λ k. slice_index_or (slots_after code line (suc i)) k Nil) (sym h.place))

        away : (c : Option Leaf) → is_some c ≡ false → Absent ≡ written (shown c)
        away None e = refl
        away (Some x) e = absurd (false≢true (sym e))

        by_signal : (signal : Option ℕ) (t : Truth) → signal ≡ out.signal → shows_when i out ≡ t → (if t then Given leaf else Absent) ≡ written (Equations.signalled (at T i) out.var signal)
        by_signal None true is' e = sym (ap (λ c. written (shown c)) (there (h.with_leaf e)))
        by_signal None false is' e = away (T out.var i) (subst (λ g. when_of i out.var g ≡ false) (sym is') e)
        by_signal (Some s) true is' e =
            sym (ap (λ t. written (if t then shown (T out.var i) else NotEmitted)) (subst (λ g. when_of i out.var g ≡ true) (sym is') e) ∙ ap (λ c. written (shown c)) (there (h.with_leaf e)))
        by_signal (Some s) false is' e = sym (ap (λ t. written (if t then shown (T out.var i) else NotEmitted)) (subst (λ g. when_of i out.var g ≡ false) (sym is') e))

    -- ---- the guards of outputs that are variables of equations

    abbrev pub out_place : List (ℕ × Leaf) → ℕ → Option ℕ → Option Place
    out_place [] v None = None
    out_place (asked ∷ clock) v None = Some (present v)
    out_place clock v (Some s) = Some (emitted s)

    all_at : (P : CoreEq → Type 0) (list : List CoreEq) (e : CoreEq) → AllOf P list → IsOf list e → P e
    all_at P [] e h is' = absurd is'
    all_at P (x ∷ rest) e h (inl same) = subst P same h.0
    all_at P (x ∷ rest) e h (inr more) = all_at P rest e h.1 more

    -- an equation's variable is present exactly where its clock is on
    present_on : (i : ℕ) (e : CoreEq) → IsOf eqs e → is_some (T e.var i) ≡ is_on (at T i) e.clock
    present_on i e h = ap is_some (equations_hold plan form inputs eqs promised line feed start feeds e h i)
        ∙ some_if (is_on (at T i) e.clock) (right_leaf e.right (at T i) (option_map (at T) (previous_of T e i)))

    pub plain_guarded : (i : ℕ) (e : CoreEq) → IsOf eqs e → ((asked : ℕ × Leaf) (clock : List (ℕ × Leaf)) → e.clock ≡ asked ∷ clock → (plan.shows e.var ≡ true) × IsUsed (present e.var)) → (leaf : Leaf)
        → guarded_cell (slots_after code line (suc i)) (option_map number_of (out_place e.clock e.var None)) leaf ≡ (if is_some (T e.var i) then Given leaf else Absent)
    plain_guarded i e h shows leaf = by_clock e.clock refl ∙ sym (ap (λ t. if t then Given leaf else Absent) (present_on i e h))
      where
        by_clock : (clock : List (ℕ × Leaf)) → e.clock ≡ clock
            → guarded_cell (slots_after code line (suc i)) (option_map number_of (out_place clock e.var None)) leaf ≡ (if is_on (at T i) clock then Given leaf else Absent)
        by_clock [] c = refl
        by_clock (asked ∷ clock) c =
            ap (λ x. if is_true x then Given leaf else Absent)
            ((slots_match (suc i)).same (present e.var) (shows asked clock c).1
            ∙ (all_at (IsShown plan inputs eqs promised.planned promised.led (at T i) (named (suc i))) eqs e (outputs_shown plan form inputs eqs promised line feed start feeds i) h).shown (shows asked clock c).0
            ∙ ap (λ k. Bool (is_on (at T i) k)) c)

    pub signal_guarded : (i : ℕ) (x : CoreEq) → IsOf eqs x → plan.tells x.var ≡ true → IsUsed (emitted x.var) → (leaf : Leaf)
        → guarded_cell (slots_after code line (suc i)) (Some (number_of (emitted x.var))) leaf ≡ (if is_held (T x.var i) (Bool true) then Given leaf else Absent)
    signal_guarded i x h tells u leaf =
        ap (λ t. if t then Given leaf else Absent)
        (ap is_true ((slots_match (suc i)).same (emitted x.var) u)
        ∙ (all_at (IsShown plan inputs eqs promised.planned promised.led (at T i) (named (suc i))) eqs x (outputs_shown plan form inputs eqs promised line feed start feeds i) h).told tells)
