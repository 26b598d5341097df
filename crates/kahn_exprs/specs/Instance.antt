-- The instance of a signature's clocks, as pairs of a variable and the clock that stands for it.
use Rattle.std.specs.Prelude.{ℕ, Bool, List, [], ◌∷◌, ◌++◌, map, Option, Some, None}
use Rattle.ls_ast.specs.declared.tree.Expr.{Expr}
use Rattle.ls_terms.specs.declared.clocks.ClockTerm.{ClockTerm, fold-ClockTerm, out-ClockTerm}
use Rattle.ls_terms.specs.declared.clocks.ClockTerm.TheOpen.{ClockTerm-F}
use Rattle.ls_sig.specs.declared.binder.Note.{Note}
use Rattle.kahn_model.specs.Functions.{Arg}
use Rattle.ls_places.specs.Search.{nth}
use Rattle.kahn_model.specs.Table.{written_row}
use Rattle.kahn_exprs.specs.Context.{arg_of}
use Rattle.kahn_exprs.specs.Streams.{look}
use Rattle.ls_sig.specs.declared.binder.Binder.{Binder}
use Rattle.ls_sig.specs.declared.binder.Binder.TheVariants as binder
use Rattle.ls_places.specs.declared.definition.Definition.{Definition}
use Rattle.kahn_exprs.specs.declared.body.Body.{Body}
use Rattle.kahn_exprs.specs.declared.context.Argument.{Argument}
use Rattle.kahn_exprs.specs.declared.context.Argument.TheVariants as argument
use Rattle.kahn_exprs.specs.Body as spec

abbrev pub Pairs : Type 0
Pairs = ClockTerm → List (ℕ × ClockTerm)

abbrev pub pairs_all : List Pairs → List ClockTerm → List (ℕ × ClockTerm)
pairs_all [] ts = []
pairs_all (m ∷ ms) [] = []
pairs_all (m ∷ ms) (t ∷ ts) = m t ++ pairs_all ms ts

abbrev pub pairs_on : Pairs → ClockTerm-F ClockTerm → List (ℕ × ClockTerm)
pairs_on m (ClockTerm-F.On t n k) = m t
pairs_on m _ = []

abbrev pub pairs_arrow : List Pairs → Pairs → ClockTerm-F ClockTerm → List (ℕ × ClockTerm)
pairs_arrow ms m (ClockTerm-F.Arrow ts t) = pairs_all ms ts ++ m t
pairs_arrow ms m _ = []

abbrev pub pairs_step : ClockTerm-F Pairs → Pairs
pairs_step (ClockTerm-F.Var w) t = (w, t) ∷ []
pairs_step (ClockTerm-F.On m n k) t = pairs_on m (out-ClockTerm t)
pairs_step ClockTerm-F.Pointwise t = []
pairs_step (ClockTerm-F.Arrow ms m) t = pairs_arrow ms m (out-ClockTerm t)

-- the variables of a signature's clock, with what meets them
abbrev pub pairs : ClockTerm → Pairs
pairs = fold-ClockTerm Pairs pairs_step

abbrev pub clocks_noted : List (Expr Note) → List ClockTerm
clocks_noted = map {A = Expr Note} {B = ClockTerm} (λ e. e.note.ck)

abbrev pub signature_of : Definition → List ClockTerm
signature_of d = d.clocks ++ d.result.note.ck ∷ []

module _ (b : Body) where
  abbrev pub row_met : ℕ × ClockTerm → ℕ × List (Option Bool)
  row_met p = (p.0, written_row b.lines 0 (spec.on b p.1))

  abbrev pub rows_met : List (ℕ × ClockTerm) → List (ℕ × List (Option Bool))
  rows_met = map {A = ℕ × ClockTerm} {B = ℕ × List (Option Bool)} row_met

  abbrev pub instance : Option Definition → List ClockTerm → List (ℕ × List (Option Bool))
  instance None all = []
  instance (Some d) all = rows_met (pairs_all (map pairs (signature_of d)) all)

  abbrev pub function_at : ℕ → List ClockTerm → ClockTerm → ClockTerm-F ClockTerm → Argument
  function_at k cks ck ClockTerm-F.Pointwise = argument.Pointwise k
  function_at k cks ck (ClockTerm-F.Arrow more to) = argument.Function k (instance (nth b.defs.now k) ((cks ++ more) ++ to ∷ []))
  function_at k cks ck _ = argument.Function k (instance (nth b.defs.now k) (cks ++ ck ∷ []))

  abbrev pub function : ℕ → List ClockTerm → ClockTerm → Argument
  function k cks ck = function_at k cks ck (out-ClockTerm ck)

  abbrev pub head_at : Binder → ClockTerm → ℕ → List ClockTerm → Arg
  head_at (binder.Def k) ck x cks = arg_of (function k cks ck)
  head_at bound ck x cks = look b bound x

  -- what a call's head names
  abbrev pub head : Note → ℕ → List ClockTerm → Arg
  head note x cks = head_at note.bound note.ck x cks
