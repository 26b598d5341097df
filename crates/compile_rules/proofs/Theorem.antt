-- The rows that the slots take in any number of steps are a full solution of the core, and a step divides by zero exactly
-- where an instant is alarmed.
use Rattle.std.specs.Prelude.{◌≡◌, refl, ℕ, zero, suc, ◌||◌, Bool as Truth, true, false, List, [], ◌∷◌, ◌++◌, Some, map, if◌then◌else◌}
use Rattle.std.specs.List.{flat_map}
use Rattle.std.proofs.Common.{ap, ap₂, sym, ◌∙◌, inl, inr}
use Rattle.ls_value.specs.declared.leaf.Leaf.{Leaf}
use Rattle.line_io.specs.declared.form.InputForm.{InputForm}
use Rattle.line_io.specs.declared.form.Cell.{Cell}
use Rattle.core_lang.specs.declared.equations.CoreEq.{CoreEq}
use Rattle.core_lang.specs.declared.equations.CoreRight.{CoreRight}
use Rattle.core_lang.specs.declared.equations.CoreRight.TheVariants.{Const, Copy, Op, Pre, Fby, Init, Sample, Choose}
use Rattle.core_lang.specs.Equations.{Cells, Table, is_on, restarts, given, at, cell, is_alarmed}
use Rattle.core_lang.specs.Reads.{operands, asked_vars}
use Rattle.core_lang.proofs.Instants.{Kept, Memory, is_first, delayed, memory_at, cells_at, rows}
use Rattle.core_lang.proofs.Solved.{solved_holds, on_same, rows_given, rows_hold}
use Rattle.compile_rules.specs.declared.places.Place.TheVariants.{Value as value, Memory as memory, First as first}
use Rattle.compile_rules.specs.Scheme.{Slots, after_acts, acts_divide, Plan, tests, equation_acts, update_acts, clear_acts, step_acts}
use Rattle.compile_rules.proofs.OneStep.{all_of}
use Rattle.compile_rules.proofs.WholeStep.{AreAlike, IsSolved, IsWhole, Next}
use Rattle.compile_rules.proofs.Runs.{Ready, HasKept, IsShown, step_knows, step_keeps, step_shows, fed_knows, fed_before}
use Rattle.compile_rules.proofs.Alarms.{divide_append, quiet_divides, quiet_clears, quiet_inputs, quiet_updates, equations_divide}
use Rattle.core_lang.specs.Orders.{AllOf, Has, HasAll, IsOf, IsOrdered}
use Rattle.compile_rules.specs.Plans.{Agrees, AreBranches, AreOperands, ArePlanned, AreRestarts, IsClock, IsKept, IsOrderedCore, grown, is_some}
use Rattle.compile_rules.specs.Setting

-- ---- planned equations are ordered

module _ (plan : Plan) where
  clock_vars : (known : List ℕ) (prefix clock : List (ℕ × Leaf)) → IsClock plan known prefix clock → HasAll known (asked_vars clock)
  clock_vars known prefix [] h = tt
  clock_vars known prefix (asked ∷ rest) h = (h.0, clock_vars known (prefix ++ asked ∷ []) rest h.3)

  restart_vars : (known : List ℕ) (rs : List ℕ) → AreRestarts plan known rs → HasAll known rs
  restart_vars known [] h = tt
  restart_vars known (r ∷ rs) h = (h.0.0, restart_vars known rs h.1)

  args_vars : (known : List ℕ) (clock : List (ℕ × Leaf)) (args : List ℕ) → AreOperands plan known clock args → HasAll known args
  args_vars known clock [] h = tt
  args_vars known clock (a ∷ args) h = (h.0.0, args_vars known clock args h.1)

  branch_vars : (known : List ℕ) (clock : List (ℕ × Leaf)) (c : ℕ) (branches : List (Leaf × ℕ)) → AreBranches plan known clock c branches → HasAll known (map (λ branch. branch.1) branches)
  branch_vars known clock c [] h = tt
  branch_vars known clock c (branch ∷ rest) h = (h.0.0, branch_vars known clock c rest h.2)

  right_vars : (known : List ℕ) (clock : List (ℕ × Leaf)) (right : CoreRight) → Agrees plan known clock right → HasAll known (operands right)
  right_vars known clock (Const leaf) h = tt
  right_vars known clock (Copy a) h = (h.0, tt)
  right_vars known clock (Op op args) h = args_vars known clock args h
  right_vars known clock (Pre a) h = tt
  right_vars known clock (Fby a b) h = (h.0, tt)
  right_vars known clock (Init a b) h = (h.0.0, (h.1.0, tt))
  right_vars known clock (Sample a) h = (h.0, tt)
  right_vars known clock (Choose c branches) h = (h.0.0, branch_vars known clock c branches h.1)

  has_append : (known vs ws : List ℕ) → HasAll known vs → HasAll known ws → HasAll known (vs ++ ws)
  has_append known [] ws h k = k
  has_append known (v ∷ vs) ws h k = (h.0, has_append known vs ws h.1 k)

  pub ordered : (known : List ℕ) (eqs : List CoreEq) → ArePlanned plan known eqs → IsOrdered known eqs
  ordered known [] h = tt
  ordered known (e ∷ rest) h = (
    has_append known (asked_vars e.clock) (e.restarts ++ operands e.right) (clock_vars known [] e.clock h.0.is_clock)
        (has_append known e.restarts (operands e.right) (restart_vars known e.restarts h.0.are_restarts) (right_vars known e.clock e.right h.0.agrees)),
    h.0.is_new,
    ordered (e.var ∷ known) rest h.1,
  )

-- ---- the run

module _ (plan : Plan) (form : InputForm) (inputs : List ℕ) (eqs : List CoreEq) (promised : IsOrderedCore plan inputs eqs) (line : ℕ → List Cell) (feed : List Cell → Slots → Slots) (start : Slots) where
  abbrev pub Feeds : Type 0
  Feeds = Setting.Feeds plan form inputs eqs line feed start

  abbrev Begins : CoreEq → Type 0
  Begins = Setting.Begins plan form inputs eqs line feed start

  abbrev pub slots_at : ℕ → Slots
  slots_at = Setting.slots_at plan form inputs eqs line feed start

  abbrev T : Table
  T = rows form eqs line

  abbrev cells : ℕ → Cells
  cells i = cells_at form eqs line i

  abbrev old : ℕ → Memory
  old i = memory_at form eqs line i

  module _ (feeds : Feeds) where
    is_given : (i v : ℕ) → Has inputs v → cells i v ≡ given form (line i) v
    is_given i v h = rows_given form eqs line inputs (ordered plan inputs eqs promised.planned) v i h

    here_at : (i v : ℕ) → Has inputs v → is_some (cells i v) ≡ is_on (cells i) (plan.clock v)
    here_at i v h = ap is_some (is_given i v h) ∙ feeds.here i v h
        ∙ sym (on_same inputs (cells i) (given form (line i)) (λ w k. is_given i w k) (plan.clock v) (promised.clocks v h))

    all_solved : (i : ℕ) (list : List CoreEq) → ((e : CoreEq) → IsOf list e → IsOf eqs e) → AllOf (IsSolved plan (cells i) (old i)) list
    all_solved i [] f = tt
    all_solved i (e ∷ rest) f =
        (solved_holds (old i) eqs inputs (given form (line i)) (ordered plan inputs eqs promised.planned) e (f e (inl refl)), all_solved i rest (λ x h. f x (inr h)))

    is_solved : (i : ℕ) → AllOf (IsSolved plan (cells i) (old i)) eqs
    is_solved i = all_solved i eqs (λ e h. h)

    -- equations of one clock and the same restarts have the same first instants
    alike : (i : ℕ) → AreAlike plan (cells i) (old i)
    alike zero x e is_clock is_restarts = refl
    alike (suc i) x e is_clock is_restarts =
        taken x ∙ ap₂ (λ c rs. if is_on (cells i) c then false else (if restarts (cells i) rs then true else (old i x).first)) is_clock is_restarts
        ∙ ap (λ f. if is_on (cells i) e.clock then false else (if restarts (cells i) e.restarts then true else f)) (alike i x e is_clock is_restarts) ∙ sym (taken e)
      where
        by_on : (t f : Truth) (m n : Leaf) → (if t then record { memory = m; first = false } else (let k : Kept = record { memory = n; first = f } in k)).first ≡ (if t then false else f)
        by_on true f m n = refl
        by_on false f m n = refl

        taken : (y : CoreEq) → (old (suc i) y).first ≡ (if is_on (cells i) y.clock then false else (if restarts (cells i) y.restarts then true else (old i y).first))
        taken y = by_on (is_on (cells i) y.clock) (is_first (old i y) (restarts (cells i) y.restarts)) (delayed y.right (cells i)) (old i y).memory

    is_whole : (i : ℕ) → AllOf (IsWhole plan (cells i) (old i) (grown inputs eqs)) eqs
    is_whole i = all_of (λ e. IsClock plan (grown inputs eqs) [] e.clock × IsKept plan (grown inputs eqs) e.clock e.right) (IsWhole plan (cells i) (old i) (grown inputs eqs))
        (λ e h. record { is_clock = h.0; is_kept = h.1 }) eqs promised.whole

    abbrev Keeps : Memory → Slots → CoreEq → Type 0
    Keeps m s e = HasKept plan inputs eqs promised.planned promised.led m s e

    not_inputs : (known : List ℕ) → ((v : ℕ) → Has inputs v → Has known v) → (list : List CoreEq) → ArePlanned plan known list → AllOf (λ e. ¬ Has inputs e.var) list
    not_inputs known f [] h = tt
    not_inputs known f (e ∷ rest) h = ((λ is. h.0.is_new (f e.var is)), not_inputs (e.var ∷ known) (λ v is. inr (f v is)) rest h.1)

    both_of : (P Q : CoreEq → Type 0) (list : List CoreEq) → AllOf P list → AllOf Q list → AllOf (λ e. P e × Q e) list
    both_of P Q [] h k = tt
    both_of P Q (e ∷ rest) h k = ((h.0, k.0), both_of P Q rest h.1 k.1)

    ready_of : (i : ℕ) (s : Slots) → AllOf (Keeps (old i) s) eqs → Ready plan inputs eqs promised.planned promised.led (cells i) (old i) (feed (line i) s)
    ready_of i s k = record {
      leaf = λ v x h e. feeds.leaf i s v x h (sym (is_given i v h) ∙ e);
      here = λ v h. here_at i v h;
      kept = all_of (λ e. Keeps (old i) s e × (¬ Has inputs e.var)) (Keeps (old i) (feed (line i) s)) (λ e g. record {
        memories = λ t. feeds.memories i s e.var ∙ g.0.memories t;
        firsts = λ t. feeds.firsts i s e.var ∙ g.0.firsts t;
        constants = λ l r. feeds.others i s e.var g.1 ∙ g.0.constants l r;
      }) eqs (both_of (Keeps (old i) s) (λ e. ¬ Has inputs e.var) eqs k (not_inputs inputs (λ v h. h) eqs promised.planned));
    }

    -- what the slots keep after so many steps is what the equations keep
    pub keeps : (i : ℕ) → AllOf (Keeps (old i) (slots_at i)) eqs
    keeps zero = all_of Begins (Keeps (old 0) start) (λ e b. record { memories = b.memories; firsts = b.firsts; constants = b.constants }) eqs feeds.begins
    keeps (suc i) = all_of (Next plan (cells i) (old i) (slots_at (suc i))) (Keeps (old (suc i)) (slots_at (suc i))) (λ e n. record { memories = n.is_kept; firsts = n.may_be_first; constants = n.is_constant }) eqs
        (step_keeps plan inputs eqs promised.planned promised.led (cells i) (old i) (is_solved i) (is_whole i) (alike i) (feed (line i) (slots_at i)) (ready_of i (slots_at i) (keeps i)))

    pub ready : (i : ℕ) → Ready plan inputs eqs promised.planned promised.led (cells i) (old i) (feed (line i) (slots_at i))
    ready i = ready_of i (slots_at i) (keeps i)

    -- ---- the theorem

    -- the table T is a full solution
    pub inputs_given : (v i : ℕ) → Has inputs v → T v i ≡ given form (line i) v
    inputs_given v i h = rows_given form eqs line inputs (ordered plan inputs eqs promised.planned) v i h

    pub equations_hold : (e : CoreEq) → IsOf eqs e → (i : ℕ) → T e.var i ≡ cell T e i
    equations_hold e h i = rows_hold form eqs line inputs (ordered plan inputs eqs promised.planned) e h i

    -- its rows are those of the slots: after step i the slot of a variable that is present at i has its leaf
    pub slots_have : (i v : ℕ) (x : Leaf) → Has (grown inputs eqs) v → T v i ≡ Some x → slots_at (suc i) (value v) ≡ x
    slots_have i v x h e = (step_knows plan inputs eqs promised.planned promised.led (cells i) (old i) (is_solved i) (is_whole i) (alike i) (feed (line i) (slots_at i)) (ready i)).leaf v x h e

    -- outputs are shown exactly where they are present
    pub outputs_shown : (i : ℕ) → AllOf (IsShown plan inputs eqs promised.planned promised.led (at T i) (slots_at (suc i))) eqs
    outputs_shown i = step_shows plan inputs eqs promised.planned promised.led (cells i) (old i) (is_solved i) (is_whole i) (alike i) (feed (line i) (slots_at i)) (ready i)

    -- and a step divides by zero exactly where the instant is alarmed
    pub alarms_same : (i : ℕ) → acts_divide (step_acts plan inputs eqs) (feed (line i) (slots_at i)) ≡ is_alarmed (at T i) eqs
    alarms_same i =
        let s : Slots = feed (line i) (slots_at i) in
        let s1 : Slots = after_acts (flat_map (clear_acts plan) eqs) s in
        let s2 : Slots = after_acts (flat_map (tests plan []) inputs) s1 in
        divide_append (flat_map (clear_acts plan) eqs) (flat_map (tests plan []) inputs ++ (flat_map (equation_acts plan) eqs ++ flat_map (update_acts plan) eqs)) s
        ∙ ap₂ (λ a b. a || b) (quiet_divides (flat_map (clear_acts plan) eqs) (quiet_clears plan (cells i) (old i) eqs) s)
        (divide_append (flat_map (tests plan []) inputs) (flat_map (equation_acts plan) eqs ++ flat_map (update_acts plan) eqs) s1
        ∙ ap₂ (λ a b. a || b) (quiet_divides (flat_map (tests plan []) inputs) (quiet_inputs plan (cells i) (old i) inputs) s1)
        (divide_append (flat_map (equation_acts plan) eqs) (flat_map (update_acts plan) eqs) s2
        ∙ ap₂ (λ a b. a || b)
        (equations_divide plan (cells i) (old i) (alike i) [] inputs eqs promised.led tt promised.planned (is_solved i) s2 tt (fed_knows plan inputs eqs promised.planned promised.led (cells i) (old i) (is_solved i) (is_whole i) (alike i) s (ready i))
        (fed_before plan inputs eqs promised.planned promised.led (cells i) (old i) (is_solved i) (is_whole i) (alike i) s (ready i)))
        (quiet_divides (flat_map (update_acts plan) eqs) (quiet_updates plan (cells i) (old i) eqs) (after_acts (flat_map (equation_acts plan) eqs) s2))
        ∙ or_false (is_alarmed (at T i) eqs)))
      where
        or_false : (t : Truth) → (t || false) ≡ t
        or_false true = refl
        or_false false = refl
