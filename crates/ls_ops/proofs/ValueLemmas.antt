-- What holds of the value of every operator: its shape, and Nil where an operand is Nil.
use Rattle.std.proofs.Common.{◌≡◌, ℕ, ℤ, Bool as Truth, true, false, cond, ◌⊎◌, inl, inr, List, [], ◌∷◌, Some, None, refl, ap, arith}
use Rattle.std.specs.List.{Contains, AllZip}
use Rattle.std.specs.Option.{option_map_or}
use Rattle.std.proofs.lemmas.List.Elements.{Contains-append_cases, Contains-push_cases}
use Rattle.ls_value.specs.Spelling.{Fits}
use Rattle.ls_value.specs.declared.leaf.Leaf.{Leaf}
use Rattle.ls_value.specs.declared.leaf.Leaf.TheVariants.{Nil, Int, Bool, Char, Text, Enum, Unit as Nothing}
use Rattle.ls_value.specs.declared.leaf.Shape.{Shape}
use Rattle.ls_value.specs.declared.leaf.Shape.TheVariants.{Int as AnInt, Bool as ABool}
use Rattle.ls_ops.specs.declared.kinds.Op.{Op}
use Rattle.ls_ops.specs.declared.kinds.Op.TheVariants.{Add, Sub, Mul, Div, Rem, Neg, Less, LessEq, Greater, GreaterEq, Equal, Differ, Not, And, Or, Xor, Choose, Min, Max, Sign, Odd, IntOfChar, IsDigit, IsLetter}
use Rattle.ls_ops.specs.Signature.{signature_of}
use Rattle.ls_ops.specs.Values.{TakesAt, result_shape, one_int, two_ints, one_bool, two_bools, one_char, two_same, equality, choice, are_of_one_shape, on_int, on_ints, on_bool, on_bools, on_char, on_same, is_zero, is_by_zero, value_of, alarm_of}

-- ---- the shape

on_int-fits : (args : List Leaf) (f : ℤ → Leaf) (shape : Shape) → ((a : ℤ) → Fits (f a) shape) → Fits (on_int args f) shape
on_int-fits args f shape h =
    elim (one_int args) as (λ o. Fits (option_map_or f o Nil) shape) [ None ↦ tt | Some a ↦ h a ]

on_ints-fits : (args : List Leaf) (f : ℤ → ℤ → Leaf) (shape : Shape) → ((a b : ℤ) → Fits (f a b) shape) → Fits (on_ints args f) shape
on_ints-fits args f shape h =
    elim (two_ints args) as (λ o. Fits (option_map_or (λ pair. f pair.0 pair.1) o Nil) shape) [ None ↦ tt | Some pair ↦ h pair.0 pair.1 ]

on_bool-fits : (args : List Leaf) (f : Truth → Truth) → Fits (on_bool args f) ABool
on_bool-fits args f =
    elim (one_bool args) as (λ o. Fits (option_map_or (λ a. Bool (f a)) o Nil) ABool) [ None ↦ tt | Some a ↦ refl ]

on_bools-fits : (args : List Leaf) (f : Truth → Truth → Truth) → Fits (on_bools args f) ABool
on_bools-fits args f =
    elim (two_bools args) as (λ o. Fits (option_map_or (λ pair. Bool (f pair.0 pair.1)) o Nil) ABool) [ None ↦ tt | Some pair ↦ refl ]

on_char-fits : (args : List Leaf) (f : ℕ → Leaf) (shape : Shape) → ((c : ℕ) → Fits (f c) shape) → Fits (on_char args f) shape
on_char-fits args f shape h =
    elim (one_char args) as (λ o. Fits (option_map_or f o Nil) shape) [ None ↦ tt | Some c ↦ h c ]

on_same-fits : (args : List Leaf) (f : Truth → Truth) → Fits (on_same args f) ABool
on_same-fits args f =
    elim (two_same args) as (λ o. Fits (option_map_or (λ same. Bool (f same)) o Nil) ABool) [ None ↦ tt | Some same ↦ refl ]

chosen-fits : (same c : Truth) (a b : Leaf) (shape : Shape) → Fits a shape → Fits b shape →
    Fits (option_map_or (λ chosen. chosen) (cond same (Some (cond c a b)) None) Nil) shape
chosen-fits false c a b shape p q = tt
chosen-fits true true a b shape p q = p
chosen-fits true false a b shape p q = q

choice-fits : (args : List Leaf) (shape : Shape) → AllZip Fits args (ABool ∷ shape ∷ shape ∷ []) → Fits (option_map_or (λ chosen. chosen) (choice args) Nil) shape
choice-fits (Bool c ∷ a ∷ b ∷ []) shape h = chosen-fits (are_of_one_shape a b) c a b shape h.1.0 h.1.1.0
choice-fits _ shape h = tt

pub value_of-fits : (op : Op) (shape : Shape) (args : List Leaf) → TakesAt op shape args → Fits (value_of op args) (result_shape (signature_of op) shape)
value_of-fits Add shape args h = on_ints-fits args _ AnInt (λ a b. refl)
value_of-fits Sub shape args h = on_ints-fits args _ AnInt (λ a b. refl)
value_of-fits Mul shape args h = on_ints-fits args _ AnInt (λ a b. refl)
value_of-fits Div shape args h = on_ints-fits args _ AnInt (λ a b. refl)
value_of-fits Rem shape args h = on_ints-fits args _ AnInt (λ a b. refl)
value_of-fits Neg shape args h = on_int-fits args _ AnInt (λ a. refl)
value_of-fits Less shape args h = on_ints-fits args _ ABool (λ a b. refl)
value_of-fits LessEq shape args h = on_ints-fits args _ ABool (λ a b. refl)
value_of-fits Greater shape args h = on_ints-fits args _ ABool (λ a b. refl)
value_of-fits GreaterEq shape args h = on_ints-fits args _ ABool (λ a b. refl)
value_of-fits Equal shape args h = on_same-fits args _
value_of-fits Differ shape args h = on_same-fits args _
value_of-fits Not shape args h = on_bool-fits args _
value_of-fits And shape args h = on_bools-fits args _
value_of-fits Or shape args h = on_bools-fits args _
value_of-fits Xor shape args h = on_bools-fits args _
value_of-fits Choose shape args h = choice-fits args shape h
value_of-fits Min shape args h = on_ints-fits args _ AnInt (λ a b. refl)
value_of-fits Max shape args h = on_ints-fits args _ AnInt (λ a b. refl)
value_of-fits Sign shape args h = on_int-fits args _ AnInt (λ a. refl)
value_of-fits Odd shape args h = on_int-fits args _ ABool (λ a. refl)
value_of-fits IntOfChar shape args h = on_char-fits args _ AnInt (λ c. refl)
value_of-fits IsDigit shape args h = on_char-fits args _ ABool (λ c. refl)
value_of-fits IsLetter shape args h = on_char-fits args _ ABool (λ c. refl)

-- ---- Nil among the operands

abbrev HasNil : List Leaf → Type 0
HasNil [] = ⊥
HasNil (leaf ∷ rest) = (leaf ≡ Nil) ⊎ HasNil rest

HasNil-from_Contains : (args : List Leaf) → Contains args Nil → HasNil args
HasNil-from_Contains [] h = absurd (omega (arith, h.1))
HasNil-from_Contains (leaf ∷ rest) h =
    elim (Contains-append_cases (leaf ∷ []) rest Nil h) [
      | inl here ↦ elim (Contains-push_cases [] leaf Nil here) [ inl none ↦ absurd (omega (arith, none.1)) | inr same ↦ inl same ]
      | inr later ↦ inr (HasNil-from_Contains rest later)
    ]

one_int-nil : (args : List Leaf) → HasNil args → one_int args ≡ None
one_int-nil (Int a ∷ []) h = elim h [ inl e ↦ cc | inr none ↦ absurd none ]
one_int-nil _ h = refl

two_ints-nil : (args : List Leaf) → HasNil args → two_ints args ≡ None
two_ints-nil (Int a ∷ Int b ∷ []) h = elim h [ inl e ↦ cc | inr rest ↦ elim rest [ inl e ↦ cc | inr none ↦ absurd none ] ]
two_ints-nil _ h = refl

one_bool-nil : (args : List Leaf) → HasNil args → one_bool args ≡ None
one_bool-nil (Bool a ∷ []) h = elim h [ inl e ↦ cc | inr none ↦ absurd none ]
one_bool-nil _ h = refl

two_bools-nil : (args : List Leaf) → HasNil args → two_bools args ≡ None
two_bools-nil (Bool a ∷ Bool b ∷ []) h = elim h [ inl e ↦ cc | inr rest ↦ elim rest [ inl e ↦ cc | inr none ↦ absurd none ] ]
two_bools-nil _ h = refl

one_char-nil : (args : List Leaf) → HasNil args → one_char args ≡ None
one_char-nil (Char a ∷ []) h = elim h [ inl e ↦ cc | inr none ↦ absurd none ]
one_char-nil _ h = refl

equality-nil : (a : Leaf) → equality a Nil ≡ None
equality-nil Nil = refl
equality-nil (Int n) = refl
equality-nil (Bool b) = refl
equality-nil (Char c) = refl
equality-nil (Text t) = refl
equality-nil (Enum t n) = refl
equality-nil Nothing = refl

shapes-nil : (a : Leaf) → are_of_one_shape a Nil ≡ false
shapes-nil Nil = refl
shapes-nil (Int n) = refl
shapes-nil (Bool b) = refl
shapes-nil (Char c) = refl
shapes-nil (Text t) = refl
shapes-nil (Enum t n) = refl
shapes-nil Nothing = refl

two_same-nil : (args : List Leaf) → HasNil args → two_same args ≡ None
two_same-nil (a ∷ b ∷ []) h =
    elim h [
      | inl e ↦ rw e refl
      | inr rest ↦ elim rest [ inl e ↦ rw e (equality-nil a) | inr none ↦ absurd none ]
    ]
two_same-nil _ h = refl

choice-nil : (args : List Leaf) → HasNil args → choice args ≡ None
choice-nil (Bool c ∷ a ∷ b ∷ []) h =
    elim h [
      | inl e ↦ cc
      | inr rest ↦ elim rest [
        | inl e ↦ rw e refl
        | inr last ↦ elim last [ inl e ↦ rw (e, shapes-nil a) refl | inr none ↦ absurd none ]
      ]
    ]
choice-nil _ h = refl

on_int-nil : (args : List Leaf) (f : ℤ → Leaf) → HasNil args → on_int args f ≡ Nil
on_int-nil args f h = ap (λ o. option_map_or f o Nil) (one_int-nil args h)

on_ints-nil : (args : List Leaf) (f : ℤ → ℤ → Leaf) → HasNil args → on_ints args f ≡ Nil
on_ints-nil args f h = ap (λ o. option_map_or (λ pair. f pair.0 pair.1) o Nil) (two_ints-nil args h)

on_bool-nil : (args : List Leaf) (f : Truth → Truth) → HasNil args → on_bool args f ≡ Nil
on_bool-nil args f h = ap (λ o. option_map_or (λ a. Bool (f a)) o Nil) (one_bool-nil args h)

on_bools-nil : (args : List Leaf) (f : Truth → Truth → Truth) → HasNil args → on_bools args f ≡ Nil
on_bools-nil args f h = ap (λ o. option_map_or (λ pair. Bool (f pair.0 pair.1)) o Nil) (two_bools-nil args h)

on_char-nil : (args : List Leaf) (f : ℕ → Leaf) → HasNil args → on_char args f ≡ Nil
on_char-nil args f h = ap (λ o. option_map_or f o Nil) (one_char-nil args h)

on_same-nil : (args : List Leaf) (f : Truth → Truth) → HasNil args → on_same args f ≡ Nil
on_same-nil args f h = ap (λ o. option_map_or (λ same. Bool (f same)) o Nil) (two_same-nil args h)

by_zero-nil : (args : List Leaf) → HasNil args → is_by_zero args ≡ false
by_zero-nil args h = ap (λ o. option_map_or (λ pair. is_zero pair.1) o false) (two_ints-nil args h)

nil_value : (op : Op) (args : List Leaf) → HasNil args → value_of op args ≡ Nil
nil_value Add args h = on_ints-nil args _ h
nil_value Sub args h = on_ints-nil args _ h
nil_value Mul args h = on_ints-nil args _ h
nil_value Div args h = on_ints-nil args _ h
nil_value Rem args h = on_ints-nil args _ h
nil_value Less args h = on_ints-nil args _ h
nil_value LessEq args h = on_ints-nil args _ h
nil_value Greater args h = on_ints-nil args _ h
nil_value GreaterEq args h = on_ints-nil args _ h
nil_value Min args h = on_ints-nil args _ h
nil_value Max args h = on_ints-nil args _ h
nil_value Neg args h = on_int-nil args _ h
nil_value Sign args h = on_int-nil args _ h
nil_value Odd args h = on_int-nil args _ h
nil_value Equal args h = on_same-nil args _ h
nil_value Differ args h = on_same-nil args _ h
nil_value Not args h = on_bool-nil args _ h
nil_value And args h = on_bools-nil args _ h
nil_value Or args h = on_bools-nil args _ h
nil_value Xor args h = on_bools-nil args _ h
nil_value Choose args h = ap (λ o. option_map_or (λ chosen. chosen) o Nil) (choice-nil args h)
nil_value IntOfChar args h = on_char-nil args _ h
nil_value IsDigit args h = on_char-nil args _ h
nil_value IsLetter args h = on_char-nil args _ h

pub value_of-nil : (op : Op) (args : List Leaf) → Contains args Nil → value_of op args ≡ Nil
value_of-nil op args h = nil_value op args (HasNil-from_Contains args h)

pub alarm_of-nil : (op : Op) (args : List Leaf) → Contains args Nil → alarm_of op args ≡ false
alarm_of-nil Div args h = by_zero-nil args (HasNil-from_Contains args h)
alarm_of-nil Rem args h = by_zero-nil args (HasNil-from_Contains args h)
alarm_of-nil _ args h = refl
