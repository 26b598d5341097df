-- The form of the lines of a node: a field for each leaf of each parameter, in order.
use Rattle.std.specs.Prelude.{ℕ, ◌+◌, ◌==◌, if◌then◌else◌, List, [], ◌∷◌, ◌++◌, map, Option, None, Some, slice_get}
use Rattle.ls_base.specs.declared.Name.{Name}
use Rattle.ls_value.specs.declared.leaf.Leaf.{Leaf}
use Rattle.ls_value.specs.declared.leaf.Leaf.TheVariants.{Nil, Bool, Enum}
use Rattle.ls_value.specs.declared.leaf.Shape.{Shape}
use Rattle.line_io.specs.declared.form.Field.{Field}
use Rattle.line_io.specs.declared.form.InputForm.{InputForm}
use Rattle.ls_ast.specs.declared.tree.DefOf.{DefOf}
use Rattle.ls_ast.specs.declared.tree.DefOf.TheVariants as item
use Rattle.ls_terms.specs.declared.types.TypeTerm.{TypeTerm, out-TypeTerm}
use Rattle.ls_terms.specs.declared.types.TypeTerm.TheOpen.{TypeTerm-F}
use Rattle.ls_terms.specs.declared.clocks.ClockTerm.{ClockTerm, fold-ClockTerm}
use Rattle.ls_terms.specs.declared.clocks.ClockTerm.TheOpen.{ClockTerm-F}
use Rattle.ls_sig.specs.Notes.{is_signal}
use Rattle.ls_sig.specs.declared.sigs.Sig.{Sig}
use Rattle.node_lines.specs.Leaves.{input_leaves, field_of}

-- ---- clocks

abbrev pub case_at : {X : Type 0} → TypeTerm-F X → ℕ → Leaf
case_at TypeTerm-F.Bool k = Bool (k == 1)
case_at (TypeTerm-F.Enum e) k = Enum e k
case_at _ k = Nil

-- the leaf that is the case k of a type: of bool, false is 0 and true is 1; a type without cases has Nil, which no line holds
abbrev pub case_leaf : TypeTerm → ℕ → Leaf
case_leaf t k = case_at (out-TypeTerm t) k

-- what sampling at the case k of the parameter m asks, where there is such a parameter
abbrev pub asked_of : List TypeTerm → ℕ → ℕ → Option TypeTerm → List (ℕ × Leaf)
asked_of params m k None = []
asked_of params m k (Some t) = (field_of params m, case_leaf t k) ∷ []

abbrev pub asked_step : List TypeTerm → ClockTerm-F (List (ℕ × Leaf)) → List (ℕ × Leaf)
asked_step params (ClockTerm-F.On of m k) = of ++ asked_of params m k (slice_get params m)
asked_step params (ClockTerm-F.Var v) = []
asked_step params ClockTerm-F.Pointwise = []
asked_step params (ClockTerm-F.Arrow all to) = []

-- The fields that a clock asks of a line, with the leaves that they must hold: one for each sampling. The clock variables of a
-- node that runs are on at every instant, so they ask nothing.
abbrev pub asked : List TypeTerm → ClockTerm → List (ℕ × Leaf)
asked params = fold-ClockTerm (List (ℕ × Leaf)) (asked_step params)

-- ---- signals

-- the number of a parameter that is a signal: as many signals stand before it
abbrev pub signal_number : TypeTerm → ℕ → Option ℕ
signal_number t before = if is_signal t then Some before else None

abbrev pub signals_with : TypeTerm → ℕ → ℕ
signals_with t before = if is_signal t then before + 1 else before

-- ---- fields

abbrev pub field : List (ℕ × Leaf) → Option ℕ → Shape → Field
field on signal shape = record { shape = shape; on = on; signal = signal }

-- those of a parameter of a type, on a clock, behind so many signals
abbrev pub fields_of : List TypeTerm → TypeTerm → ClockTerm → ℕ → List Field
fields_of params t ck before = map (field (asked params ck) (signal_number t before)) (input_leaves t)

-- the fields of the parameters `ts` on the clocks `cks`, which are the last ones of `params`, behind so many signals
abbrev pub fields_from : List TypeTerm → List TypeTerm → List ClockTerm → ℕ → List Field
fields_from params (t ∷ ts) (ck ∷ cks) before =
    fields_of params t ck before ++ fields_from params ts cks (signals_with t before)
fields_from params _ _ before = []

abbrev pub fields : List TypeTerm → List ClockTerm → List Field
fields params clocks = fields_from params params clocks 0

-- the constructors of the enumerations of a file
abbrev pub constructors : {N : Type 0} → List (DefOf N) → List (List Name)
constructors [] = []
constructors (item.Cases line name all ∷ rest) = all ∷ constructors rest
constructors (item.Let line node name params marks notes body ∷ rest) = constructors rest

-- the form of the lines of a node with this signature, in a file with these enumerations and names
abbrev pub form : List (List Name) → List (List ℕ) → Sig → InputForm
form cases names sig = record { fields = fields sig.params sig.clocks; cases = cases; names = names }
