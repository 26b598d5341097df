-- Clock terms, after Colaço and Pouzet (EMSOFT 2003): what occurs in them, and the instance of a signature.
use Rattle.std.specs.Prelude.{ℕ, zero, suc, ◌==◌, ◌||◌, Bool, true, false, List, [], ◌∷◌, ◌++◌, map, Option, Some, None, if◌then◌else◌}
use Rattle.ls_ast.specs.declared.tree.Expr.{Expr, Expr-F, fold-Expr}
use Rattle.ls_ast.specs.declared.tree.Form.TheOpen.{Form-F}
use Rattle.ls_ast.specs.declared.tree.Case.{Case}
use Rattle.ls_terms.specs.declared.clocks.ClockTerm.{ClockTerm, fold-ClockTerm, out-ClockTerm}
use Rattle.ls_terms.specs.declared.clocks.ClockTerm.TheOpen.{ClockTerm-F}
use Rattle.ls_terms.specs.declared.types.TypeTerm.{out-TypeTerm}
use Rattle.ls_terms.specs.declared.types.TypeTerm.TheOpen.{TypeTerm-F}
use Rattle.ls_sig.specs.declared.binder.Note.{Note}
use Rattle.ls_sig.specs.Notes as notes
use Rattle.ls_places.specs.Patterns.{joined}

-- the first that is there
abbrev pub or_else : {A : Type 0} → Option A → Option A → Option A
or_else None b = b
or_else (Some x) b = Some x

abbrev pub any : List Bool → Bool
any [] = false
any (b ∷ bs) = b || any bs

-- whether a clock has the variable `v`
abbrev pub mentions_step : ℕ → ClockTerm-F Bool → Bool
mentions_step v (ClockTerm-F.Var w) = v == w
mentions_step v (ClockTerm-F.On ck m k) = ck
mentions_step v ClockTerm-F.Pointwise = false
mentions_step v (ClockTerm-F.Arrow cks ck) = any cks || ck

abbrev pub mentions : ℕ → ClockTerm → Bool
mentions v = fold-ClockTerm Bool (mentions_step v)

-- a clock without its outermost samplings, `n` of them
abbrev pub bare_step : ClockTerm → ClockTerm-F ClockTerm → ClockTerm
bare_step ck (ClockTerm-F.On inner m k) = inner
bare_step ck _ = ck

abbrev pub bare : ℕ → ClockTerm → ClockTerm
bare zero ck = ck
bare (suc n) ck = bare n (bare_step ck (out-ClockTerm ck))

-- the clock below a sampling on `m`: looked for from the outside in, at most `n` deep
abbrev pub below_open : ℕ → (ClockTerm → Option ClockTerm) → ClockTerm-F ClockTerm → Option ClockTerm
below_open m go (ClockTerm-F.On ck n k) = if n == m then Some ck else go ck
below_open m go _ = None

abbrev pub below : ℕ → ℕ → ClockTerm → Option ClockTerm
below zero m ck = None
below (suc n) m ck = below_open m (below n m) (out-ClockTerm ck)

abbrev pub clock_depth_step : ClockTerm-F ℕ → ℕ
clock_depth_step (ClockTerm-F.On ck m k) = suc ck
clock_depth_step _ = 0

abbrev pub clock_depth : ClockTerm → ℕ
clock_depth = fold-ClockTerm ℕ clock_depth_step

-- the clock of the block with the clock name `m`, by the first clock that is sampled on it
abbrev pub noted : ℕ → List ClockTerm → Option ClockTerm
noted m [] = None
noted m (ck ∷ cks) = or_else (below (clock_depth ck) m ck) (noted m cks)

-- ---- what a signature's clock variable is where the clock of the signature is met by another clock

abbrev pub Meets : Type 0
Meets = ClockTerm → ℕ → Option ClockTerm

abbrev pub meets_all : List Meets → List ClockTerm → ℕ → Option ClockTerm
meets_all [] ts v = None
meets_all (m ∷ ms) [] v = None
meets_all (m ∷ ms) (t ∷ ts) v = or_else (m t v) (meets_all ms ts v)

abbrev pub meets_on : Meets → ClockTerm-F ClockTerm → ℕ → Option ClockTerm
meets_on m (ClockTerm-F.On t n k) v = m t v
meets_on m _ v = None

abbrev pub meets_arrow : List Meets → Meets → ClockTerm-F ClockTerm → ℕ → Option ClockTerm
meets_arrow ms m (ClockTerm-F.Arrow ts t) v = or_else (meets_all ms ts v) (m t v)
meets_arrow ms m _ v = None

abbrev pub meets_step : ClockTerm-F Meets → Meets
meets_step (ClockTerm-F.Var w) t v = if v == w then Some t else None
meets_step (ClockTerm-F.On m n k) t v = meets_on m (out-ClockTerm t) v
meets_step ClockTerm-F.Pointwise t v = None
meets_step (ClockTerm-F.Arrow ms m) t v = meets_arrow ms m (out-ClockTerm t) v

abbrev pub meets : ClockTerm → Meets
meets = fold-ClockTerm Meets meets_step

-- ---- the clocks noted in an expression

-- the direct parts of a form
abbrev pub choice_parts : {X : Type 0} → List (Case × X) → List X
choice_parts {X} = map {A = Case × X} {B = X} (λ c. c.1)

abbrev pub option_part : {X : Type 0} → Option X → List X
option_part None = []
option_part (Some x) = x ∷ []

abbrev pub form_parts : {N X Y : Type 0} → Form-F N X Y → List Y
form_parts (Form-F.Leaf l) = []
form_parts (Form-F.Op o args) = args
form_parts (Form-F.Tuple all) = all
form_parts (Form-F.Pre e) = e ∷ []
form_parts (Form-F.Fby a b) = a ∷ b ∷ []
form_parts (Form-F.Init a b) = a ∷ b ∷ []
form_parts (Form-F.When e c k) = e ∷ []
form_parts (Form-F.Merge c choices) = choice_parts choices
form_parts (Form-F.Call run head args every) = args ++ option_part every
form_parts _ = []

abbrev pub clocks_form : Form-F Note (List ClockTerm) (List ClockTerm) → List ClockTerm
clocks_form x = joined (form_parts x)

abbrev pub clocks_expr : Expr-F Note (List ClockTerm) (List ClockTerm) → List ClockTerm
clocks_expr e = e.note.ck ∷ e.form

abbrev pub clocks_in : Expr Note → List ClockTerm
clocks_in = fold-Expr Note (List ClockTerm) (List ClockTerm) clocks_form clocks_expr

-- ---- types

abbrev pub arrow_type : {X : Type 0} → TypeTerm-F X → Bool
arrow_type (TypeTerm-F.Arrow k ts t) = true
arrow_type _ = false

abbrev pub is_function : Note → Bool
is_function n = arrow_type (out-TypeTerm n.ty)

abbrev pub is_signal : Note → Bool
is_signal n = notes.is_signal n.ty
