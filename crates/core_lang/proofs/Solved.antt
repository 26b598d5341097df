-- The rows of a core that is run instant by instant are a full solution of it.
use Rattle.std.specs.Prelude.{◌≡◌, refl, ℕ, zero, suc, ◌==◌, ◌&&◌, ◌||◌, Bool as Truth, true, false, List, [], ◌∷◌, ◌++◌, Option, None, Some, map, if◌then◌else◌}
use Rattle.std.specs.Option.{option_map}
use Rattle.std.proofs.Common.{ap, ap₂, sym, ◌∙◌, subst, arith, inl, inr}
use Rattle.std.proofs.lemmas.Bool.Decides.{nat_tests}
use Rattle.ls_value.specs.declared.leaf.Leaf.{Leaf}
use Rattle.ls_value.specs.declared.leaf.Leaf.TheVariants.{Nil, Bool}
use Rattle.ls_ops.specs.Values.{value_of}
use Rattle.line_io.specs.declared.form.InputForm.{InputForm}
use Rattle.line_io.specs.declared.form.Cell.{Cell}
use Rattle.core_lang.specs.declared.equations.CoreEq.{CoreEq}
use Rattle.core_lang.specs.declared.equations.CoreRight.{CoreRight}
use Rattle.core_lang.specs.declared.equations.CoreRight.TheVariants.{Const, Copy, Op, Pre, Fby, Init, Sample, Choose}
use Rattle.step_code.specs.Leaves.{tested, is_true}
use Rattle.core_lang.specs.Leaves.{leaf_of, is_held}
use Rattle.core_lang.specs.Reads.{reads, operands, asked_vars}
use Rattle.core_lang.specs.Equations.{Cells, Table, is_on, restarts, right_leaf, chosen, given, at, cell, before}
use Rattle.core_lang.specs.Orders.{Has, HasAll, IsOf, IsOrdered}
use Rattle.core_lang.proofs.Instants.{Kept, Memory, is_first, past_of, cell_now, with_cell, solved, delayed, memory_at, rows}

-- ---- lists

pub has_left : (vs ws : List ℕ) (known : List ℕ) → HasAll known (vs ++ ws) → HasAll known vs
has_left [] ws known h = tt
has_left (v ∷ vs) ws known h = (h.0, has_left vs ws known h.1)

pub has_right : (vs ws : List ℕ) (known : List ℕ) → HasAll known (vs ++ ws) → HasAll known ws
has_right [] ws known h = h
has_right (v ∷ vs) ws known h = has_right vs ws known h.1

-- ---- what an equation reads at once decides its cell

-- the two have the same cells at variables
abbrev pub Agree : List ℕ → Cells → Cells → Type 0
Agree known a b = (v : ℕ) → Has known v → a v ≡ b v

module _ (known : List ℕ) (a b : Cells) (agree : Agree known a b) where
  pub on_same : (clock : List (ℕ × Leaf)) → HasAll known (asked_vars clock) → is_on a clock ≡ is_on b clock
  on_same [] h = refl
  on_same (asked ∷ clock) h = ap₂ (λ c t. is_held c asked.1 && t) (agree asked.0 h.0) (on_same clock h.1)

  pub restarts_same : (rs : List ℕ) → HasAll known rs → restarts a rs ≡ restarts b rs
  restarts_same [] h = refl
  restarts_same (r ∷ rs) h = ap₂ (λ c t. is_held c (Bool true) || t) (agree r h.0) (restarts_same rs h.1)

  pub args_same : (args : List ℕ) → HasAll known args → map (λ v. leaf_of (a v)) args ≡ map (λ v. leaf_of (b v)) args
  args_same [] h = refl
  args_same (v ∷ args) h = ap₂ (λ (c : Option Leaf) cs. leaf_of c ∷ cs) (agree v h.0) (args_same args h.1)

  pub chosen_same : (branches : List (Leaf × ℕ)) (x y c : Leaf) → x ≡ y → HasAll known (map (λ branch. branch.1) branches) → chosen a x c branches ≡ chosen b y c branches
  chosen_same [] x y c e h = e
  chosen_same (branch ∷ rest) x y c e h =
      chosen_same rest (if is_true (tested c branch.0) then leaf_of (a branch.1) else x) (if is_true (tested c branch.0) then leaf_of (b branch.1) else y) c
      (λ i. if is_true (tested c branch.0) then leaf_of (agree branch.1 h.0 i) else e i) h.1

  pub right_same : (right : CoreRight) (past : Option Cells) → HasAll known (operands right) → (k : Leaf)
      → right_leaf right a (option_map (λ old. λ v. Some k) past) ≡ right_leaf right b (option_map (λ old. λ v. Some k) past)
  right_same (Const leaf) past h k = refl
  right_same (Copy x) past h k = ap leaf_of (agree x h.0)
  right_same (Op op args) past h k = ap (value_of op) (args_same args h)
  right_same (Pre x) None h k = refl
  right_same (Pre x) (Some old) h k = refl
  right_same (Fby x y) None h k = ap leaf_of (agree x h.0)
  right_same (Fby x y) (Some old) h k = refl
  right_same (Init x y) None h k = ap leaf_of (agree x h.0)
  right_same (Init x y) (Some old) h k = ap leaf_of (agree y h.1.0)
  right_same (Sample x) past h k = ap leaf_of (agree x h.0)
  right_same (Choose c branches) past h k =
      ap (λ (l : Option Leaf). chosen a Nil (leaf_of l) branches) (agree c h.0) ∙ chosen_same branches Nil Nil (leaf_of (b c)) refl h.1

  right_now_same : (right : CoreRight) (kept : Kept) (t : Truth) → HasAll known (operands right) → right_leaf right a (past_of kept t) ≡ right_leaf right b (past_of kept t)
  right_now_same right kept t h = by_first (is_first kept t)
    where
      by_first : (f : Truth) → right_leaf right a (if f then None else Some (λ v. Some kept.memory)) ≡ right_leaf right b (if f then None else Some (λ v. Some kept.memory))
      by_first true = right_same right None h Nil
      by_first false = right_same right (Some a) h kept.memory

  pub cell_same : (memory : Memory) (e : CoreEq) → HasAll known (reads e) → cell_now memory e a ≡ cell_now memory e b
  cell_same memory e h =
      let hc = has_left (asked_vars e.clock) (e.restarts ++ operands e.right) known h in
      let hm = has_right (asked_vars e.clock) (e.restarts ++ operands e.right) known h in
      let again = restarts_same e.restarts (has_left e.restarts (operands e.right) known hm) in
      ap₂ (λ t (leaf : Leaf). if t then Some leaf else None) (on_same e.clock hc)
      (right_now_same e.right (memory e) (restarts a e.restarts) (has_right e.restarts (operands e.right) known hm)
      ∙ ap (λ t. right_leaf e.right b (past_of (memory e) t)) again)

-- ---- solving in order

eqb_same : (x y : ℕ) → (x == y) ≡ true → x ≡ y
eqb_same x y e = grind (arith, e)

eqb_refl : (x : ℕ) → (x == x) ≡ true
eqb_refl x = grind (arith, nat_tests)

with_cell_there : (cells : Cells) (v : ℕ) (c : Option Leaf) → with_cell cells v c v ≡ c
with_cell_there cells v c = ap (λ t. if t then c else cells v) (eqb_refl v)

pub with_cell_else : (cells : Cells) (v : ℕ) (c : Option Leaf) (w : ℕ) → ¬ (v ≡ w) → with_cell cells v c w ≡ cells w
with_cell_else cells v c w other = go (v == w) refl
  where
    go : (t : Truth) → (v == w) ≡ t → (if v == w then c else cells w) ≡ cells w
    go true e = absurd (other (eqb_same v w e))
    go false e = ap (λ t. if t then c else cells w) e

not_known : (known : List ℕ) (v w : ℕ) → ¬ Has known v → Has known w → ¬ (v ≡ w)
not_known known v w fresh h e = fresh (subst (λ x. Has known x) (sym e) h)

-- what is known stays
pub solved_keeps : (memory : Memory) (eqs : List CoreEq) (known : List ℕ) (cells : Cells) → IsOrdered known eqs → (v : ℕ) → Has known v → solved memory eqs cells v ≡ cells v
solved_keeps memory [] known cells o v h = refl
solved_keeps memory (e ∷ rest) known cells o v h =
    solved_keeps memory rest (e.var ∷ known) (with_cell cells e.var (cell_now memory e cells)) o.2 v (inr h)
    ∙ with_cell_else cells e.var (cell_now memory e cells) v (not_known known e.var v o.1 h)

-- each equation holds of the cells that were solved
pub solved_holds : (memory : Memory) (eqs : List CoreEq) (known : List ℕ) (cells : Cells) → IsOrdered known eqs → (e : CoreEq) → IsOf eqs e
    → solved memory eqs cells e.var ≡ cell_now memory e (solved memory eqs cells)
solved_holds memory [] known cells o e h = absurd h
solved_holds memory (x ∷ rest) known cells o e (inl h) =
    subst (λ y. solved memory (x ∷ rest) cells y.var ≡ cell_now memory y (solved memory (x ∷ rest) cells)) h
    (solved_keeps memory rest (x.var ∷ known) (with_cell cells x.var (cell_now memory x cells)) o.2 x.var (inl refl)
    ∙ with_cell_there cells x.var (cell_now memory x cells)
    ∙ cell_same known cells (solved memory (x ∷ rest) cells) (λ v k. sym (solved_keeps memory (x ∷ rest) known cells o v k)) memory x o.0)
solved_holds memory (x ∷ rest) known cells o e (inr h) =
    solved_holds memory rest (x.var ∷ known) (with_cell cells x.var (cell_now memory x cells)) o.2 e h

-- ---- what is kept is the previous instant's

module _ (form : InputForm) (eqs : List CoreEq) (line : ℕ → List Cell) (e : CoreEq) where
  abbrev T : Table
  T = rows form eqs line

  abbrev on : ℕ → Truth
  on j = is_on (at T j) e.clock

  abbrev again : ℕ → Truth
  again j = restarts (at T j) e.restarts

  -- it keeps that there is no instant before, or what it delays of the last one before
  abbrev pub Keeps : Kept → Option ℕ → Type 0
  Keeps kept None = kept.first ≡ true
  Keeps kept (Some j) = (kept.first ≡ false) × (kept.memory ≡ delayed e.right (at T j))

  keeps_on : (i : ℕ) (kept : Kept) (t r : Truth) → on i ≡ t → again i ≡ r → Keeps kept (before on again i)
      → Keeps (if t then record { memory = delayed e.right (at T i); first = false } else record { memory = kept.memory; first = is_first kept r })
      (if t then Some i else (if r then None else before on again i))
  keeps_on i kept true r is_on_at is_again h = (refl, refl)
  keeps_on i kept false true is_on_at is_again h = refl
  keeps_on i kept false false is_on_at is_again h = same (before on again i) h
    where
      same : (p : Option ℕ) → Keeps kept p → Keeps (record { memory = kept.memory; first = kept.first }) p
      same None h' = h'
      same (Some j) h' = h'

  pub keeps : (i : ℕ) → Keeps (memory_at form eqs line i e) (before on again i)
  keeps zero = refl
  keeps (suc i) = keeps_on i (memory_at form eqs line i e) (on i) (again i) refl refl (keeps i)

  -- so it is asked for the same past
  past_same : (i : ℕ) (right : CoreRight) (cells : Cells) (kept : Kept) (p : Option ℕ) → right ≡ e.right → Keeps kept p
      → right_leaf right cells (past_of kept false) ≡ right_leaf right cells (option_map (at T) p)
  past_same i right cells kept None is h = ap (λ t. right_leaf right cells (if t then None else Some (λ v. Some kept.memory))) h
  past_same i right cells kept (Some j) is h =
      ap (λ t. right_leaf right cells (if t then None else Some (λ v. Some kept.memory))) h.0 ∙ by_right right is
    where
      m : (r : CoreRight) → r ≡ e.right → kept.memory ≡ delayed r (at T j)
      m r e' = h.1 ∙ ap (λ x. delayed x (at T j)) (sym e')

      by_right : (r : CoreRight) → r ≡ e.right → right_leaf r cells (Some (λ v. Some kept.memory)) ≡ right_leaf r cells (Some (at T j))
      by_right (Const leaf) e' = refl
      by_right (Copy a) e' = refl
      by_right (Op op args) e' = refl
      by_right (Pre a) e' = m (Pre a) e'
      by_right (Fby a b) e' = m (Fby a b) e'
      by_right (Init a b) e' = refl
      by_right (Sample a) e' = refl
      by_right (Choose c branches) e' = refl

  past_again : (i : ℕ) (r : Truth) (kept : Kept) → again i ≡ r → Keeps kept (before on again i)
      → right_leaf e.right (at T i) (past_of kept r) ≡ right_leaf e.right (at T i) (option_map (at T) (if r then None else before on again i))
  past_again i true kept is h = refl
  past_again i false kept is h = past_same i e.right (at T i) kept (before on again i) refl h

  pub cell_is : (i : ℕ) → cell_now (memory_at form eqs line i) e (at T i) ≡ cell T e i
  cell_is i = ap (λ (leaf : Leaf). if on i then Some leaf else None) (past_again i (again i) (memory_at form eqs line i e) refl (keeps i))

-- ---- the rows are a full solution: inputs are those given, and each equation holds at each instant

module _ (form : InputForm) (eqs : List CoreEq) (line : ℕ → List Cell) (known : List ℕ) (ordered : IsOrdered known eqs) where
  pub rows_given : (v i : ℕ) → Has known v → rows form eqs line v i ≡ given form (line i) v
  rows_given v i h = solved_keeps (memory_at form eqs line i) eqs known (given form (line i)) ordered v h

  pub rows_hold : (e : CoreEq) → IsOf eqs e → (i : ℕ) → rows form eqs line e.var i ≡ cell (rows form eqs line) e i
  rows_hold e h i = solved_holds (memory_at form eqs line i) eqs known (given form (line i)) ordered e h ∙ cell_is form eqs line e i
