-- Acts as instructions, and the fields of a form as lines of input.
use Rattle.std.specs.Prelude.{ℕ, ◌+◌, List, [], ◌∷◌}
use Rattle.std.specs.Option.{option_map}
use Rattle.ls_value.specs.declared.leaf.Leaf.TheVariants.{Nil}
use Rattle.line_io.specs.declared.form.Field.{Field}
use Rattle.step_code.specs.declared.parts.InLine.{InLine}
use Rattle.step_code.specs.declared.parts.Instr.{Instr}
use Rattle.step_code.specs.declared.parts.Instr.TheVariants.{Const, Copy, Op1, Op2, Op3, Test}
use Rattle.compile_rules.specs.declared.places.Place.{Place}
use Rattle.compile_rules.specs.declared.places.Place.TheVariants.{Value as value}
use Rattle.compile_rules.specs.declared.places.Act.{Act}
use Rattle.compile_rules.specs.declared.places.Act.TheVariants.{Put as put, Copy as copy, Operate as operate, Test as test}

module _ (number_of : Place → ℕ) where
  -- an operator has one to three operands
  abbrev pub instruction : Act → Instr
  instruction (put d leaf) = Const (number_of d) leaf
  instruction (copy d a) = Copy (number_of d) (number_of a)
  instruction (operate d op (a ∷ [])) = Op1 op (number_of d) (number_of a)
  instruction (operate d op (a ∷ b ∷ [])) = Op2 op (number_of d) (number_of a) (number_of b)
  instruction (operate d op (a ∷ b ∷ c ∷ rest)) = Op3 op (number_of d) (number_of a) (number_of b) (number_of c)
  instruction (operate d op []) = Const (number_of d) Nil
  instruction (test d a leaf) = Test (number_of d) (number_of a) leaf

-- the lines of input of fields, numbered from a place on
abbrev pub in_lines : (Place → ℕ) → ℕ → ℕ → List Field → List InLine
in_lines number_of fields k [] = []
in_lines number_of fields k (f ∷ rest) =
    record { slot = number_of (value k); signal = option_map (λ s. number_of (value (fields + s))) f.signal; on = f.on } ∷ in_lines number_of fields (k + 1) rest
