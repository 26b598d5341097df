-- The table of all operators: what a look-up in it finds.
use Rattle.std.proofs.Common.{◌≡◌, ◌≢◌, ◌↔◌, ℕ, lit<, inl, inr, List, [], ◌∷◌, map, Option, Some, None, IfSome, IfNone, refl, sym, ap, subst, ◌∙◌, arith}
use Rattle.std.specs.List.{Contains}
use Rattle.std.proofs.lemmas.List.Elements.{Contains-append_cases, Contains-push_cases}
use Rattle.ls_ops.specs.declared.kinds.Op.{Op}
use Rattle.ls_ops.specs.declared.kinds.Op.TheVariants.{Add, Sub, Mul, Div, Rem, Neg, Less, LessEq, Greater, GreaterEq, Equal, Differ, Not, And, Or, Xor, Choose, Min, Max, Sign, Odd, IntOfChar, IsDigit, IsLetter}
use Rattle.ls_ops.specs.Signature.{symbol_of}
use Rattle.ls_ops.specs.Symbols.{all_entries, all_operators}

-- a look-up gave the operator beside the symbol, or None where there is none
abbrev pub Finds : Option Op → List ℕ → Type 0
Finds found symbol = (op : Op) → (found ≡ Some op) ↔ Contains all_entries (op, symbol)

-- beside each operator stands its own text
beside : (text_of : Op → List ℕ) (ops : List Op) (op : Op) (text : List ℕ) → Contains {X = Op × List ℕ} (map (λ it. (it, text_of it)) ops) (op, text) → text_of op ≡ text
beside text_of [] op text h = absurd (omega (arith, h.1))
beside text_of (it ∷ rest) op text h =
    elim (Contains-append_cases ((it, text_of it) ∷ []) (map (λ it. (it, text_of it)) rest) (op, text) h) [
      | inl here ↦ elim (Contains-push_cases [] (it, text_of it) (op, text) here) [
        | inl none ↦ absurd (omega (arith, none.1))
        | inr same ↦ ap text_of (sym (ap (λ e. e.0) same)) ∙ ap (λ e. e.1) same
      ]
      | inr later ↦ beside text_of rest op text later
    ]

-- each operator is in the table
listed : (op : Op) → Contains all_entries (op, symbol_of op)
listed Add = (0, lit< tt, refl)
listed Sub = (1, lit< tt, refl)
listed Mul = (2, lit< tt, refl)
listed Div = (3, lit< tt, refl)
listed Rem = (4, lit< tt, refl)
listed Neg = (5, lit< tt, refl)
listed Less = (6, lit< tt, refl)
listed LessEq = (7, lit< tt, refl)
listed Greater = (8, lit< tt, refl)
listed GreaterEq = (9, lit< tt, refl)
listed Equal = (10, lit< tt, refl)
listed Differ = (11, lit< tt, refl)
listed Not = (12, lit< tt, refl)
listed And = (13, lit< tt, refl)
listed Or = (14, lit< tt, refl)
listed Xor = (15, lit< tt, refl)
listed Choose = (16, lit< tt, refl)
listed Min = (17, lit< tt, refl)
listed Max = (18, lit< tt, refl)
listed Sign = (19, lit< tt, refl)
listed Odd = (20, lit< tt, refl)
listed IntOfChar = (21, lit< tt, refl)
listed IsDigit = (22, lit< tt, refl)
listed IsLetter = (23, lit< tt, refl)

pub Finds-found : (found : Option Op) (symbol : List ℕ) → Finds found symbol → IfSome found (λ op. symbol_of op ≡ symbol)
Finds-found None symbol h = tt
Finds-found (Some op) symbol h = beside symbol_of all_operators op symbol ((h op).0 refl)

pub Finds-every : (found : Option Op) (symbol : List ℕ) → Finds found symbol → (op : Op) → symbol_of op ≡ symbol → found ≡ Some op
Finds-every found symbol h op e =
    let P : List ℕ → Type 0 = λ text. Contains all_entries (op, text) in (h op).1 (subst P e (listed op))

pub Finds-none : (found : Option Op) (symbol : List ℕ) → Finds found symbol → IfNone found ((op : Op) → symbol_of op ≢ symbol)
Finds-none None symbol h = λ op e. let some = Finds-every None symbol h op e in cc
Finds-none (Some op) symbol h = tt
