-- What a function value calls, by its function and all its arguments.
use Rattle.std.specs.Prelude.{◌≡◌, refl, ℕ, Bool, List, [], ◌∷◌, ◌++◌, Option, Some, None}
use Rattle.std.proofs.Common.{ap, sym, ◌∙◌, subst}
use Rattle.kahn_exprs.specs.declared.context.Argument.{Argument, fold-roll-Argument}
use Rattle.kahn_exprs.specs.declared.context.Argument.TheOpen.{Argument-F}
use Rattle.kahn_exprs.specs.declared.context.Argument.TheVariants.{Stream, Function, Pointwise, Given as GivenTo, rolls-Stream, rolls-Function, rolls-Pointwise, rolls-Given}
use Rattle.kahn_exprs.specs.Context.{arg_of, arg_step, args_of, clock_in}
use Rattle.kahn_model.specs.Table.{cell_in}
use Rattle.kahn_model.specs.declared.cell.Cell.{Cell}
use Rattle.kahn_model.specs.Functions.{Arg, stream, def, given}
use Rattle.kahn_model.specs.Rows.{Row}
use Rattle.kahn_exprs.specs.Calls.{target}
use Rattle.kahn_exprs.specs.Given.{base_of, given_to}

grouped : {A : Type 0} (xs ys zs : List A) → (xs ++ ys) ++ zs ≡ xs ++ (ys ++ zs)
grouped [] ys zs = refl
grouped (x ∷ xs) ys zs = ap (λ z. x ∷ z) (grouped xs ys zs)

module _ (here active again : Row Bool) where
  pub from_base : (f : Arg) (args : List Arg) → target (base_of f) (given_to f ++ args) here active again ≡ target f args here active again
  from_base (stream row) args = refl
  from_base (def k clocks) args = refl
  from_base (given f x) args = ap (λ z. target (base_of f) z here active again) (grouped (given_to f) (x ∷ []) args) ∙ from_base f (x ∷ args)

-- ---- what stands for a parameter, by its form

pub arg_stream : (cells : List (Option Cell)) → arg_of (Stream cells) ≡ stream (cell_in cells)
arg_stream cells = ap arg_of (sym (rolls-Stream cells)) ∙ fold-roll-Argument Arg arg_step (Argument-F.Stream cells)

pub arg_function : (k : ℕ) (rows : List (ℕ × List (Option Bool))) → arg_of (Function k rows) ≡ def k (Some (clock_in rows))
arg_function k rows = ap arg_of (sym (rolls-Function k rows)) ∙ fold-roll-Argument Arg arg_step (Argument-F.Function k rows)

pub arg_pointwise : (k : ℕ) → arg_of (Pointwise k) ≡ def k None
arg_pointwise k = ap arg_of (sym (rolls-Pointwise k)) ∙ fold-roll-Argument Arg arg_step (Argument-F.Pointwise k)

pub arg_given : (f x : Argument) → arg_of (GivenTo f x) ≡ given (arg_of f) (arg_of x)
arg_given f x = ap arg_of (sym (rolls-Given f x)) ∙ fold-roll-Argument Arg arg_step (Argument-F.Given f x)

pub args_append : (xs ys : List Argument) → args_of (xs ++ ys) ≡ args_of xs ++ args_of ys
args_append [] ys = refl
args_append (x ∷ xs) ys = ap (λ z. arg_of x ∷ z) (args_append xs ys)

pub all_given : (f : Arg) (args none mid new : List Argument) → none ≡ [] → args_of mid ≡ args_of none ++ given_to f → new ≡ mid ++ args → args_of new ≡ given_to f ++ args_of args
all_given f args none mid new is first then =
    ap args_of then ∙ args_append mid args ∙ ap (λ z. z ++ args_of args) (first ∙ ap (λ z. args_of z ++ given_to f) is)

module _ (here active again : Row Bool) where
  pub from_parts : (f b : Arg) (args all : List Arg) → b ≡ base_of f → all ≡ given_to f ++ args → target b all here active again ≡ target f args here active again
  from_parts f b args all is parts =
      ap (λ z. target z all here active again) is ∙ ap (λ z. target (base_of f) z here active again) parts ∙ from_base here active again f args

abbrev Given : Arg → Type 0
Given (given f x) = Unit {0}
Given _ = ⊥

-- a base is given no argument
base_not_given : (f : Arg) → Given (base_of f) → ⊥
base_not_given (stream row) g = g
base_not_given (def k clocks) g = g
base_not_given (given f x) g = base_not_given f g

pub never_given : (f f' x' : Arg) → given f' x' ≡ base_of f → ⊥
never_given f f' x' e = base_not_given f (subst Given e tt)
