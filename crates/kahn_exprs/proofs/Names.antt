-- What stands for a name, below the number of lines.
use Rattle.std.specs.Prelude.{◌≡◌, refl, ℕ, Bool, true, false, List, [], ◌∷◌, Some, None, if◌then◌else◌}
use Rattle.std.proofs.Common.{sym, subst}
use Rattle.ls_ast.specs.declared.tree.Pat.{Pat}
use Rattle.ls_terms.specs.declared.clocks.ClockTerm.{ClockTerm}
use Rattle.ls_places.specs.Patterns.{has_name, names_of}
use Rattle.ls_sig.specs.declared.binder.Binder.{Binder}
use Rattle.ls_sig.specs.declared.binder.Binder.TheVariants as binder
use Rattle.ls_places.specs.declared.definition.Key.TheVariants as key
use Rattle.kahn_model.specs.Alike.{ArgAlike, RowAlike}
use Rattle.kahn_model.specs.Functions.{Arg, stream, def, given, nowhere, param_in, part_arg, row_of}
use Rattle.kahn_model.specs.Turn
use Rattle.kahn_model.proofs.Alike.{arg_refl, row_refl, written_alike}
use Rattle.kahn_exprs.specs.declared.body.Body.{Body}
use Rattle.kahn_exprs.specs.declared.context.Argument.{Argument, fold_out-Argument, map-Argument, out-Argument}
use Rattle.kahn_exprs.specs.declared.context.Argument.TheOpen.{Argument-F}
use Rattle.kahn_exprs.specs.Body as spec
use Rattle.kahn_exprs.specs.Context.{arg_of, arg_step, args_of, clock_in}
use Rattle.kahn_exprs.specs.Instance.{head_at}
use Rattle.kahn_exprs.specs.Streams.{look, param, part_of, part_open}
use Rattle.kahn_exprs.proofs.Found.{part_at}
use Rattle.kahn_exprs.proofs.Instances.{function_alike}

-- the rows of what is alike are alike
pub rows_alike : (n : ℕ) (f g : Arg) → ArgAlike n f g → RowAlike n (row_of f) (row_of g)
rows_alike n (stream r) (stream s) p = p
rows_alike n (def k c) (def l d) p = row_refl n nowhere
rows_alike n (given f x) (given g y) p = row_refl n nowhere
rows_alike n _ _ p = absurd p

by_part : (n : ℕ) (p : Pat) (x : ℕ) (f : Arg) (y : Argument-F Argument) → f ≡ arg_step (map-Argument Argument Arg arg_of y) → ArgAlike n (part_open p x f y) (part_arg p x f)
by_part n p x f (Argument-F.Stream cells) e = subst (λ z. ArgAlike n (part_open p x z (Argument-F.Stream cells)) (part_arg p x z)) (sym e) (λ i l. part_at p x cells i)
by_part n p x f (Argument-F.Function k rows) e = subst (λ z. ArgAlike n (part_open p x z (Argument-F.Function k rows)) (part_arg p x z)) (sym e) (arg_refl n (def k (Some (clock_in rows))))
by_part n p x f (Argument-F.Pointwise k) e = subst (λ z. ArgAlike n (part_open p x z (Argument-F.Pointwise k)) (part_arg p x z)) (sym e) (arg_refl n (def k None))
by_part n p x f (Argument-F.Given g y) e = subst (λ z. ArgAlike n (part_open p x z (Argument-F.Given g y)) (part_arg p x z)) (sym e) (arg_refl n (given (arg_of g) (arg_of y)))

part_alike : (n : ℕ) (p : Pat) (x : ℕ) (g : Argument) → ArgAlike n (part_of p x g) (part_arg p x (arg_of g))
part_alike n p x g = by_part n p x (arg_of g) (out-Argument g) (fold_out-Argument Arg arg_step g)

either_alike : (n : ℕ) (t : Bool) (f g f' g' : Arg) → ArgAlike n f f' → ArgAlike n g g' → ArgAlike n (if t then f else g) (if t then f' else g')
either_alike n true f g f' g' p q = p
either_alike n false f g f' g' p q = q

param_alike : (n x : ℕ) (ps : List Pat) (gs : List Argument) → ArgAlike n (param n x ps gs) (param_in x ps (args_of gs))
param_alike n x [] gs = written_alike n nowhere
param_alike n x (p ∷ ps) [] = written_alike n nowhere
param_alike n x (p ∷ ps) (g ∷ gs) = either_alike n (has_name x (names_of p)) _ _ _ _ (part_alike n p x g) (param_alike n x ps gs)

module _ (b : Body) where
  pub look_alike : (bound : Binder) (x : ℕ) → ArgAlike b.lines (look b bound x) (spec.look b bound x)
  look_alike (binder.Var k) x = λ i l. refl
  look_alike (binder.Param k) x = param_alike b.lines x b.def.now.params b.context.now.args
  look_alike binder.Nothing x = written_alike b.lines nowhere
  look_alike (binder.Def k) x = written_alike b.lines nowhere
  look_alike (binder.Case t k) x = written_alike b.lines nowhere

  pub head_alike : (bound : Binder) (ck : ClockTerm) (x : ℕ) (cks : List ClockTerm) → ArgAlike b.lines (head_at b bound ck x cks)
      (Turn.head_of (spec.cases b) b.defs.now (spec.call b) b.def.now (spec.around b) (spec.table b) bound ck x cks)
  head_alike (binder.Def k) ck x cks = function_alike b k cks ck
  head_alike (binder.Var k) ck x cks = look_alike (binder.Var k) x
  head_alike (binder.Param k) ck x cks = look_alike (binder.Param k) x
  head_alike binder.Nothing ck x cks = look_alike binder.Nothing x
  head_alike (binder.Case t k) ck x cks = look_alike (binder.Case t k) x
