-- Inputs from a line on, and rows.
use Rattle.std.proofs.Common.{◌≡◌, ℕ, suc, zero, ◌+◌, ◌<◌, List, [], ◌∷◌, length, drop, get_or, refl, ◌∙◌, ap, arith, Option, Some, None}
use Rattle.std.specs.Prelude.{slice_get, set}
use Rattle.std.proofs.lemmas.List.{drop_more}
use Rattle.ls_value.specs.declared.leaf.Leaf.{Leaf}
use Rattle.line_io.specs.declared.form.Cell.{Cell}
use Rattle.step_code.specs.declared.parts.InLine.{InLine}
use Rattle.step_code.specs.Steps.{with_inputs, with_signal, input_leaf}

pub none_of : {X : Type 0} (o : Option X) → ((x : X) → o ≡ Some x → ⊥) → o ≡ None
none_of None never = refl
none_of (Some x) never = absurd (never x refl)

drop_past : {X : Type 0} (xs : List X) (i : ℕ) → slice_get xs i ≡ None → drop i xs ≡ []
drop_past [] zero e = refl
drop_past [] (suc i) e = refl
drop_past (x ∷ xs) zero e = absurd (cc e)
drop_past (x ∷ xs) (suc i) e = drop_past xs i e

drop_at : {X : Type 0} (xs : List X) (i : ℕ) (x : X) → slice_get xs i ≡ Some x → drop i xs ≡ x ∷ drop (i + 1) xs
drop_at [] i x e = absurd (cc e)
drop_at (y ∷ ys) zero x e = let is : y ≡ x = cc e in ap (λ z. z ∷ ys) is
drop_at (y ∷ ys) (suc i) x e = drop_at ys i x e ∙ ap (λ n. x ∷ drop n (y ∷ ys)) (let on : suc (i + 1) ≡ suc i + 1 = omega arith in on)

nothing_left : (lines : List InLine) (slots : List Leaf) → with_inputs lines [] slots ≡ slots
nothing_left [] slots = refl
nothing_left (line ∷ rest) slots = refl

pub inputs_end : (lines : List InLine) (cells : List Cell) (i : ℕ) (slots : List Leaf) → slice_get cells i ≡ None
    → with_inputs (drop i lines) (drop i cells) slots ≡ slots
inputs_end lines cells i slots none = ap (λ rest. with_inputs (drop i lines) rest slots) (drop_past cells i none) ∙ nothing_left (drop i lines) slots

pub inputs_on : (lines : List InLine) (cells : List Cell) (i : ℕ) (line d : InLine) (cell : Cell) (slots : List Leaf)
    → i < length lines → get_or lines i d ≡ line → slice_get cells i ≡ Some cell
    → with_inputs (drop i lines) (drop i cells) slots
    ≡ with_inputs (drop (i + 1) lines) (drop (i + 1) cells) (with_signal line.signal cell (set slots line.slot (input_leaf cell)))
inputs_on lines cells i line d cell slots lt is found =
    (λ k. with_inputs ((drop_more lines i d lt ∙ ap (λ l. l ∷ drop (i + 1) lines) is) k) (drop_at cells i cell found k) slots)
