-- Where the variables of an arrow occur.
use Rattle.std.specs.Prelude.{◌≡◌, ℕ, List, ◌++◌, Result, Ok, Err, OnOk}
use Rattle.std.proofs.Common.{ap, sym, ◌∙◌}
use Rattle.ls_terms.specs.declared.clocks.ClockTerm.{ClockTerm, fold-roll-ClockTerm}
use Rattle.ls_terms.specs.declared.clocks.ClockTerm.TheOpen.{ClockTerm-F}
use Rattle.ls_terms.specs.declared.clocks.ClockTerm.TheVariants as clock
use Rattle.ls_places.specs.Places.{InnerArm}
use Rattle.ls_places.specs.Search.{Occurring, occurrences, occurs_step}
use Rattle.kahn_cells.specs.Homes.{all_occur, occur}

pub occurs_arrow : (all : List ClockTerm) (to : ClockTerm) (p : List InnerArm) (w : ℕ) → occur (clock.Arrow all to) p w ≡ all_occur all p w ++ occur to p w
occurs_arrow all to p w =
    ap (λ z. occurrences w z p) (sym (clock.rolls-Arrow all to)) ∙ ap (λ (f : Occurring). f p) (fold-roll-ClockTerm Occurring (occurs_step w) (ClockTerm-F.Arrow all to))

pub on_ok : {A E : Type 0} {P Q : Type 0} (r : Result A E) → (P → Q) → OnOk r P → OnOk r Q
on_ok (Ok v) f p = f p
on_ok (Err e) f p = p
