-- The clocks of blocks, as a map that is filled step by step, and the clocks noted in forms.
use Rattle.std.specs.Prelude.{◌≡◌, ℕ, ◌==◌, List, map, nat_eq, Option, Some, None, if◌then◌else◌}
use Rattle.indexmap.specs.IndexMap.{IndexMap, get}
use Rattle.ls_ast.specs.declared.tree.Case.{Case}
use Rattle.ls_ast.specs.declared.tree.Expr.{Expr}
use Rattle.ls_ast.specs.declared.tree.Form.{Form, fold-Form}
use Rattle.ls_places.specs.Clocks as clocks
use Rattle.ls_places.specs.Clocks.{clocks_expr, clocks_form, clocks_in, or_else}
use Rattle.ls_places.specs.Search.{all_clocks}
use Rattle.ls_places.specs.declared.places.Whole.{Whole}
use Rattle.ls_sig.specs.declared.binder.Note.{Note}
use Rattle.ls_terms.specs.declared.clocks.ClockTerm.{ClockTerm}

-- the clocks noted in a form
abbrev pub clocks_of : Form Note → List ClockTerm
clocks_of = fold-Form Note (List ClockTerm) (List ClockTerm) clocks_form clocks_expr

abbrev pub choices_clocks : List (Case × Expr Note) → List (Case × List ClockTerm)
choices_clocks = map {A = Case × Expr Note} {B = Case × List ClockTerm} (λ c. (c.0, clocks_in c.1))

module _ {S : Type 0} where
  -- each name has a clock that is sampled on it, of which the first counts
  abbrev pub Notes : IndexMap ℕ ClockTerm S → (ℕ → Option ClockTerm) → IndexMap ℕ ClockTerm S → Type 0
  Notes old more new = (m : ℕ) → get nat_eq new m ≡ or_else (get nat_eq old m) (more m)

  abbrev pub AreBlockClocks : IndexMap ℕ ClockTerm S → List (Whole Note) → Type 0
  AreBlockClocks found all = (m : ℕ) → get nat_eq found m ≡ clocks.noted m (all_clocks all)

abbrev pub sampled : ℕ → ClockTerm → ℕ → Option ClockTerm
sampled n ck m = if n == m then Some ck else None

abbrev pub below : ClockTerm → ℕ → Option ClockTerm
below ck m = clocks.below (clocks.clock_depth ck) m ck

abbrev pub noted : List ClockTerm → ℕ → Option ClockTerm
noted ts m = clocks.noted m ts
