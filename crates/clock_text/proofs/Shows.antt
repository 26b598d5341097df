-- The text of a clock, form by form.
use Rattle.std.specs.Prelude.{◌≡◌, ℕ, List, ◌++◌, map, Option, codes}
use Rattle.std.specs.Option.{is_some}
use Rattle.std.proofs.Common.{ap, sym, ◌∙◌}
use Rattle.clock_text.specs.Texts.{Spells, arrows, before_name, clock_name, enum_at, on_text, shown, shown_step}
use Rattle.ls_terms.specs.declared.clocks.ClockTerm.{ClockTerm, fold-roll-ClockTerm, roll-ClockTerm, map-ClockTerm}
use Rattle.ls_terms.specs.declared.clocks.ClockTerm.TheOpen.{ClockTerm-F}
use Rattle.ls_terms.specs.declared.clocks.ClockTerm.TheVariants as t
use Rattle.text_write.specs.Pieces.{closing, letter, opening}

module _ (s : Spells) (ck : ClockTerm) where
  told : (x : ClockTerm-F ClockTerm) → ck ≡ roll-ClockTerm x → shown s ck ≡ shown_step s (map-ClockTerm ClockTerm (List ℕ) (shown s) x)
  told x is = ap (shown s) is ∙ fold-roll-ClockTerm (List ℕ) (shown_step s) x

  pub var_told : (n : ℕ) → ck ≡ t.Var n → shown s ck ≡ letter n
  var_told n is = told (ClockTerm-F.Var n) (is ∙ sym (t.rolls-Var n))

  pub on_told : (of of' : ClockTerm) (m k : ℕ) → ck ≡ t.On of m k → of' ≡ of → shown s ck ≡ shown s of' ++ on_text s m k
  on_told of of' m k is same = told (ClockTerm-F.On of m k) (is ∙ sym (t.rolls-On of m k)) ∙ ap (λ z. shown s z ++ on_text s m k) (sym same)

  pub pointwise_told : ck ≡ t.Pointwise → shown s ck ≡ codes "pointwise"
  pointwise_told is = told ClockTerm-F.Pointwise (is ∙ sym t.rolls-Pointwise)

  pub arrow_told : (all slice : List ClockTerm) (to to' : ClockTerm) → ck ≡ t.Arrow all to → slice ≡ all → to' ≡ to
      → shown s ck ≡ ((codes "(" ++ arrows (map (shown s) slice)) ++ shown s to') ++ codes ")"
  arrow_told all slice to to' is same same' =
      told (ClockTerm-F.Arrow all to) (is ∙ sym (t.rolls-Arrow all to))
      ∙ (λ i. ((codes "(" ++ arrows (map (shown s) (sym same i))) ++ shown s (sym same' i)) ++ codes ")")

-- a sampling, from its pieces
pub on_is : (s : Spells) (m k : ℕ) (of : Option ℕ) (before left name right : List ℕ) → of ≡ enum_at s m → before ≡ before_name s of k → left ≡ opening (is_some of) → name ≡ clock_name s m → right ≡ closing (is_some of)
    → on_text s m k ≡ (((codes " on " ++ before) ++ left) ++ name) ++ right
on_is s m k of before left name right e b l n r =
    ap (λ z. (((codes " on " ++ before_name s z k) ++ opening (is_some z)) ++ clock_name s m) ++ closing (is_some z)) (sym e)
    ∙ (λ i. (((codes " on " ++ sym b i) ++ sym l i) ++ sym n i) ++ sym r i)
