-- What the operators give.
use Rattle.std.specs.Prelude.{ℕ, ◌==◌, ℤ, pos, int_lt, int_le, int_rem, Bool as Truth, true, false, not, ◌&&◌, ◌||◌, if◌then◌else◌, List, [], ◌∷◌, Option, Some, None, replicate}
use Rattle.std.specs.Char.{is_ascii_digit, is_ascii_alphabetic}
use Rattle.std.specs.Int.{w64, int_wrapping_add, int_wrapping_sub, int_wrapping_mul, int_wrapping_neg, int_wrapping_div, int_min, int_max, int_signum}
use Rattle.std.specs.List.{AllZip}
use Rattle.std.specs.Option.{option_map_or}
use Rattle.std.specs.Ordering.{int_eq}
use Rattle.std.specs.Str.{bytes_eq}
use Rattle.ls_value.specs.Spelling.{Fits}
use Rattle.ls_value.specs.declared.leaf.Leaf.{Leaf}
use Rattle.ls_value.specs.declared.leaf.Leaf.TheVariants.{Nil, Int, Bool, Char, Text, Enum, Unit as Nothing}
use Rattle.ls_value.specs.declared.leaf.Shape.{Shape}
use Rattle.ls_value.specs.declared.leaf.Shape.TheVariants.{Int as AnInt, Bool as ABool, Char as AChar}
use Rattle.ls_ops.specs.declared.kinds.Op.{Op}
use Rattle.ls_ops.specs.declared.kinds.Op.TheVariants.{Add, Sub, Mul, Div, Rem, Neg, Less, LessEq, Greater, GreaterEq, Equal, Differ, Not, And, Or, Xor, Choose, Min, Max, Sign, Odd, IntOfChar, IsDigit, IsLetter}
use Rattle.ls_ops.specs.declared.kinds.OpSign.{OpSign}
use Rattle.ls_ops.specs.declared.kinds.OpSign.TheVariants.{Ints, IntPred, Bools, CharPred, CharInt, Same, Choice}
use Rattle.ls_ops.specs.Signature.{signature_of}

-- ---- operands

-- the shapes of the operands, where those that may be of any one shape have this one
abbrev pub operand_shapes : OpSign → Shape → List Shape
operand_shapes (Ints n) shape = replicate n AnInt
operand_shapes (IntPred n) shape = replicate n AnInt
operand_shapes (Bools n) shape = replicate n ABool
operand_shapes CharPred shape = AChar ∷ []
operand_shapes CharInt shape = AChar ∷ []
operand_shapes Same shape = shape ∷ shape ∷ []
operand_shapes Choice shape = ABool ∷ shape ∷ shape ∷ []

-- the shape of the value
abbrev pub result_shape : OpSign → Shape → Shape
result_shape (Ints n) shape = AnInt
result_shape (IntPred n) shape = ABool
result_shape (Bools n) shape = ABool
result_shape CharPred shape = ABool
result_shape CharInt shape = AnInt
result_shape Same shape = ABool
result_shape Choice shape = shape

-- the operands are as many as the operator takes, and of the shapes that it takes, of which Nil is each
abbrev pub TakesAt : Op → Shape → List Leaf → Type 0
TakesAt op shape args = AllZip Fits args (operand_shapes (signature_of op) shape)

abbrev pub Takes : Op → List Leaf → Type 0
Takes op args = (shape : Shape) × TakesAt op shape args

-- ---- operands of a kind, None where one is Nil or they are not so

abbrev pub one_int : List Leaf → Option ℤ
one_int (Int a ∷ []) = Some a
one_int _ = None

abbrev pub two_ints : List Leaf → Option (ℤ × ℤ)
two_ints (Int a ∷ Int b ∷ []) = Some (a, b)
two_ints _ = None

abbrev pub one_bool : List Leaf → Option Truth
one_bool (Bool a ∷ []) = Some a
one_bool _ = None

abbrev pub two_bools : List Leaf → Option (Truth × Truth)
two_bools (Bool a ∷ Bool b ∷ []) = Some (a, b)
two_bools _ = None

abbrev pub one_char : List Leaf → Option ℕ
one_char (Char a ∷ []) = Some a
one_char _ = None

-- exactly one of the two
abbrev pub differ : Truth → Truth → Truth
differ a b = if a then not b else b

-- whether two leaves of one shape are the same
abbrev pub equality : Leaf → Leaf → Option Truth
equality (Int a) (Int b) = Some (int_eq a b)
equality (Bool a) (Bool b) = Some (not (differ a b))
equality (Char a) (Char b) = Some (a == b)
equality (Text a) (Text b) = Some (bytes_eq a b)
equality (Enum t a) (Enum u b) = if t == u then Some (a == b) else None
equality Nothing Nothing = Some true
equality _ _ = None

abbrev pub two_same : List Leaf → Option Truth
two_same (a ∷ b ∷ []) = equality a b
two_same _ = None

-- two leaves of one shape, neither of them Nil
abbrev pub are_of_one_shape : Leaf → Leaf → Truth
are_of_one_shape (Int a) (Int b) = true
are_of_one_shape (Bool a) (Bool b) = true
are_of_one_shape (Char a) (Char b) = true
are_of_one_shape (Text a) (Text b) = true
are_of_one_shape (Enum t a) (Enum u b) = t == u
are_of_one_shape Nothing Nothing = true
are_of_one_shape _ _ = false

-- the first of two leaves of one shape where true, and else the second
abbrev pub choice : List Leaf → Option Leaf
choice (Bool c ∷ a ∷ b ∷ []) = if are_of_one_shape a b then Some (if c then a else b) else None
choice _ = None

-- ---- values and alarms

abbrev pub on_int : List Leaf → (ℤ → Leaf) → Leaf
on_int args f = option_map_or f (one_int args) Nil

abbrev pub on_ints : List Leaf → (ℤ → ℤ → Leaf) → Leaf
on_ints args f = option_map_or (λ pair. f pair.0 pair.1) (two_ints args) Nil

abbrev pub on_bool : List Leaf → (Truth → Truth) → Leaf
on_bool args f = option_map_or (λ a. Bool (f a)) (one_bool args) Nil

abbrev pub on_bools : List Leaf → (Truth → Truth → Truth) → Leaf
on_bools args f = option_map_or (λ pair. Bool (f pair.0 pair.1)) (two_bools args) Nil

abbrev pub on_char : List Leaf → (ℕ → Leaf) → Leaf
on_char args f = option_map_or f (one_char args) Nil

abbrev pub on_same : List Leaf → (Truth → Truth) → Leaf
on_same args f = option_map_or (λ same. Bool (f same)) (two_same args) Nil

abbrev pub is_zero : ℤ → Truth
is_zero a = int_eq a (pos 0)

-- toward zero; the least integer by -1 gives the least integer, and 0 is the quotient by 0
abbrev pub quotient : ℤ → ℤ → ℤ
quotient a b = if is_zero b then pos 0 else int_wrapping_div w64 a b

-- with the sign of the dividend; 0 is the remainder by 0
abbrev pub remainder : ℤ → ℤ → ℤ
remainder a b = if is_zero b then pos 0 else int_rem a b

-- 2 does not divide it
abbrev pub is_odd : ℤ → Truth
is_odd a = not (is_zero (int_rem a (pos 2)))

-- the value of an operator; Nil where an operand is Nil, and where the operands are not what it takes
abbrev pub value_of : Op → List Leaf → Leaf
value_of Add args = on_ints args (λ a b. Int (int_wrapping_add w64 a b))
value_of Sub args = on_ints args (λ a b. Int (int_wrapping_sub w64 a b))
value_of Mul args = on_ints args (λ a b. Int (int_wrapping_mul w64 a b))
value_of Div args = on_ints args (λ a b. Int (quotient a b))
value_of Rem args = on_ints args (λ a b. Int (remainder a b))
value_of Neg args = on_int args (λ a. Int (int_wrapping_neg w64 a))
value_of Less args = on_ints args (λ a b. Bool (int_lt a b))
value_of LessEq args = on_ints args (λ a b. Bool (int_le a b))
value_of Greater args = on_ints args (λ a b. Bool (int_lt b a))
value_of GreaterEq args = on_ints args (λ a b. Bool (int_le b a))
value_of Equal args = on_same args (λ same. same)
value_of Differ args = on_same args (λ same. not same)
value_of Not args = on_bool args (λ a. not a)
value_of And args = on_bools args (λ a b. a && b)
value_of Or args = on_bools args (λ a b. a || b)
value_of Xor args = on_bools args differ
value_of Choose args = option_map_or (λ chosen. chosen) (choice args) Nil
value_of Min args = on_ints args (λ a b. Int (int_min a b))
value_of Max args = on_ints args (λ a b. Int (int_max a b))
value_of Sign args = on_int args (λ a. Int (int_signum a))
value_of Odd args = on_int args (λ a. Bool (is_odd a))
value_of IntOfChar args = on_char args (λ c. Int (pos c))
value_of IsDigit args = on_char args (λ c. Bool (is_ascii_digit c))
value_of IsLetter args = on_char args (λ c. Bool (is_ascii_alphabetic c))

-- the two operands are integers, and the second is 0
abbrev pub is_by_zero : List Leaf → Truth
is_by_zero args = option_map_or (λ pair. is_zero pair.1) (two_ints args) false

-- whether an operator gives the alarm of a division by zero
abbrev pub alarm_of : Op → List Leaf → Truth
alarm_of Div args = is_by_zero args
alarm_of Rem args = is_by_zero args
alarm_of _ args = false
