-- The variables of a clock, as they appear.
use Rattle.std.specs.Prelude.{◌≡◌, ℕ, ◌+◌, ◌<◌, List, drop, get_or, map, length}
use Rattle.std.proofs.Common.{ap, sym, ◌∙◌}
use Rattle.ls_base.proofs.Built.{rest}
use Rattle.ls_terms.specs.declared.clocks.ClockTerm.{ClockTerm, fold-roll-ClockTerm}
use Rattle.ls_terms.specs.declared.clocks.ClockTerm.TheOpen.{ClockTerm-F}
use Rattle.ls_terms.specs.declared.clocks.ClockTerm.TheVariants as clock
use Rattle.tree_notes.specs.Order.{joined}
use Rattle.clock_rules.specs.Files.{variables_in, variables_step}
use Rattle.clock_infer.specs.Schemes.{Seen, seen_all}
use Rattle.clock_infer.proofs.Firsts.{seen_more}

module _ (s : Seen) (t : ClockTerm) where
  pub arrow_seen : (all slice : List ClockTerm) (to v : ClockTerm) (mid new : Seen) → t ≡ clock.Arrow all to → slice ≡ all → v ≡ to
      → mid ≡ seen_all s (joined (map variables_in slice)) → new ≡ seen_all mid (variables_in v) → new ≡ seen_all s (variables_in t)
  arrow_seen all slice to v mid new is same same' before after =
      after ∙ (λ i. seen_all (before i) (variables_in (same' i))) ∙ ap (λ z. seen_all (seen_all s (joined (map variables_in z))) (variables_in to)) same
      ∙ sym (ap (λ z. seen_all s (variables_in z)) (is ∙ sym (clock.rolls-Arrow all to)) ∙ ap (seen_all s) (fold-roll-ClockTerm (List ℕ) variables_step (ClockTerm-F.Arrow all to))
      ∙ seen_more s (joined (map variables_in all)) (variables_in to))

-- one more clock
pub seen_turn : (all : List ClockTerm) (i : ℕ) (t : ClockTerm) (now new whole : Seen) → i < length all → get_or all i t ≡ t → new ≡ seen_all now (variables_in t)
    → seen_all now (joined (map variables_in (drop i all))) ≡ whole → seen_all new (joined (map variables_in (drop (i + 1) all))) ≡ whole
seen_turn all i t now new whole below is e before =
    let left = joined (map variables_in (drop (i + 1) all)) in
    ap (λ z. seen_all z left) e ∙ sym (seen_more now (variables_in t) left) ∙ sym (ap (λ z. seen_all now (joined (map variables_in z))) (rest all i t below is)) ∙ before
