-- Clock terms: what occurs in them, their instances, and the forms that types ask of them.
use Rattle.std.specs.Prelude.{◌≡◌, ℕ, suc, ◌≤◌, ◌&&◌, Bool, true, false, List, [], ◌∷◌, ◌++◌, if◌then◌else◌, nat_lt}
use Rattle.ls_terms.specs.declared.clocks.ClockTerm.{ClockTerm, fold-ClockTerm, out-ClockTerm, roll-ClockTerm}
use Rattle.ls_terms.specs.declared.clocks.ClockTerm.TheOpen.{ClockTerm-F}
use Rattle.ls_terms.specs.declared.types.Kind.TheVariants as kind
use Rattle.ls_terms.specs.declared.types.TypeTerm.{TypeTerm, fold-TypeTerm, out-TypeTerm}
use Rattle.ls_terms.specs.declared.types.TypeTerm.TheOpen.{TypeTerm-F}
use Rattle.ls_terms.specs.Clocks.{size, stands}
use Rattle.ls_places.specs.Clocks.{arrow_type}
use Rattle.tree_notes.specs.Order.{joined}

abbrev pub var : ℕ → ClockTerm
var x = roll-ClockTerm (ClockTerm-F.Var x)

abbrev pub on : ClockTerm → ℕ → ℕ → ClockTerm
on ck m k = roll-ClockTerm (ClockTerm-F.On ck m k)

abbrev pub arrow : List ClockTerm → ClockTerm → ClockTerm
arrow cks ck = roll-ClockTerm (ClockTerm-F.Arrow cks ck)

abbrev pub pointwise : ClockTerm
pointwise = roll-ClockTerm ClockTerm-F.Pointwise

abbrev pub larger : ℕ → ℕ → ℕ
larger a b = if nat_lt a b then b else a

-- the greatest of some numbers, if it is greater than a number
abbrev pub greatest_from : List ℕ → ℕ → ℕ
greatest_from [] k = k
greatest_from (n ∷ ns) k = greatest_from ns (larger k n)

-- one more than the greatest variable
abbrev pub variables_step : ClockTerm-F ℕ → ℕ
variables_step (ClockTerm-F.Var v) = suc v
variables_step (ClockTerm-F.On n m k) = n
variables_step ClockTerm-F.Pointwise = 0
variables_step (ClockTerm-F.Arrow ns n) = larger n (greatest_from ns 0)

abbrev pub variables : ClockTerm → ℕ
variables = fold-ClockTerm ℕ variables_step

-- the names that a clock is sampled on
abbrev pub names_step : ClockTerm-F (List ℕ) → List ℕ
names_step (ClockTerm-F.On ck m k) = m ∷ ck
names_step (ClockTerm-F.Arrow cks ck) = joined cks ++ ck
names_step _ = []

abbrev pub names_in : ClockTerm → List ℕ
names_in = fold-ClockTerm (List ℕ) names_step

-- the clock of a signature with clocks for its variables, and the names that are given for those of its parameters
abbrev pub instance_step : (ℕ → ℕ) → (ℕ → ClockTerm) → ClockTerm-F ClockTerm → ClockTerm
instance_step named by (ClockTerm-F.Var v) = by v
instance_step named by (ClockTerm-F.On ck m k) = on ck (named m) k
instance_step named by x = roll-ClockTerm x

abbrev pub instance : (ℕ → ℕ) → (ℕ → ClockTerm) → ClockTerm → ClockTerm
instance named by = fold-ClockTerm ClockTerm (instance_step named by)

-- ---- the form of a clock: pointwise for a combinatorial function, an arrow for a sequential one, and a variable or a
-- sampled clock for all else

abbrev pub is_pointwise : {X : Type 0} → ClockTerm-F X → Bool
is_pointwise ClockTerm-F.Pointwise = true
is_pointwise _ = false

abbrev pub Form : Type 0
Form = ClockTerm → Bool

abbrev pub fit_all : List Form → List ClockTerm → Bool
fit_all [] [] = true
fit_all (f ∷ fs) (t ∷ ts) = f t && fit_all fs ts
fit_all _ _ = false

abbrev pub fit_arrow : List Form → ClockTerm-F ClockTerm → Bool
fit_arrow fs (ClockTerm-F.Arrow ts t) = fit_all fs ts && stands t
fit_arrow fs _ = false

abbrev pub fits_step : TypeTerm-F Form → Form
fits_step (TypeTerm-F.Arrow kind.Comb fs f) t = is_pointwise (out-ClockTerm t)
fits_step (TypeTerm-F.Arrow kind.Seq fs f) t = fit_arrow fs (out-ClockTerm t)
fits_step _ t = stands t

abbrev pub fits : TypeTerm → Form
fits = fold-TypeTerm Form fits_step

abbrev pub limit : ℕ
limit = 4096

-- a clock of a stream
pub record IsClock (t : ClockTerm) : Type 0 where
  pub stands : stands t ≡ true
  pub small : size t ≤ limit

-- a clock of what has this type
pub record IsClockOf (ty : TypeTerm) (t : ClockTerm) : Type 0 where
  pub form : fits ty t ≡ true
  pub small : size t ≤ limit

-- ---- types

abbrev pub is_function : TypeTerm → Bool
is_function t = arrow_type (out-TypeTerm t)

abbrev pub comb_type : {X : Type 0} → TypeTerm-F X → Bool
comb_type (TypeTerm-F.Arrow kind.Comb ts t) = true
comb_type _ = false

abbrev pub is_comb : TypeTerm → Bool
is_comb t = comb_type (out-TypeTerm t)
