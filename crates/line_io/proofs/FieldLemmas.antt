-- Lemmas on what a word spells.
use Rattle.std.proofs.Common.{◌≡◌, ℕ, List, [], ◌∷◌, subst}
use Rattle.ls_value.specs.Reading.{IsToken}
use Rattle.ls_value.specs.declared.leaf.Leaf.{Leaf}
use Rattle.ls_value.specs.declared.leaf.Leaf.TheVariants.{Nil, Int, Bool, Char, Text, Enum, Unit as Nothing}
use Rattle.ls_value.specs.declared.leaf.Shape.{Shape}
use Rattle.ls_value.specs.declared.leaf.Shape.TheVariants.{Char as Chars}
use Rattle.line_io.specs.declared.form.InputForm.{InputForm}
use Rattle.line_io.specs.Fields.{Spells}

-- a word that is no token of one character spells no character
no_char_at : (form : InputForm) (word : List ℕ) → ((c : ℕ) → ¬ IsToken 39 (c ∷ []) word) → (leaf : Leaf) → ¬ Spells form Chars word leaf
no_char_at form word none Nil h = h
no_char_at form word none (Int n) h = let e = h.0 in cc
no_char_at form word none (Bool b) h = let e = h.0 in cc
no_char_at form word none (Char c) h = none c h.1
no_char_at form word none (Text text) h = let e = h.0 in cc
no_char_at form word none (Enum enumeration place) h = let e = h.0 in cc
no_char_at form word none Nothing h = let e = h.0 in cc

pub no_char : (form : InputForm) (word : List ℕ) (shape : Shape) → shape ≡ Chars → ((c : ℕ) → ¬ IsToken 39 (c ∷ []) word) → (leaf : Leaf) → ¬ Spells form shape word leaf
no_char form word shape is none leaf h = no_char_at form word none leaf (subst (λ (s : Shape). Spells form s word leaf) is h)
