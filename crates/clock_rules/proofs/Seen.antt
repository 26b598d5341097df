-- A clock seen inside arms gives the clock back without its outermost samplings; and the library's `All`.
use Rattle.std.specs.Prelude.{◌≡◌, ℕ, zero, suc, List, [], ◌∷◌, length, All as AllAt, refl}
use Rattle.std.proofs.Common.{ap, ◌∙◌, arith}
use Rattle.ls_terms.specs.declared.clocks.ClockTerm.{ClockTerm, out-ClockTerm, out-roll-ClockTerm}
use Rattle.ls_terms.specs.declared.clocks.ClockTerm.TheOpen.{ClockTerm-F}
use Rattle.ls_places.specs.Clocks.{bare, bare_step}
use Rattle.ls_places.specs.Places.{InnerArm}
use Rattle.clock_rules.specs.Terms.{on}
use Rattle.tree_notes.specs.Each.{Each}
use Rattle.clock_rules.specs.Rules.{sampled}

abbrev strip : ClockTerm → ClockTerm
strip ck = bare_step ck (out-ClockTerm ck)

bare_strip : (n : ℕ) (ck : ClockTerm) → bare n (strip ck) ≡ strip (bare n ck)
bare_strip zero ck = refl
bare_strip (suc n) ck = bare_strip n (strip ck)

strip_on : (ck : ClockTerm) (m k : ℕ) → strip (on ck m k) ≡ ck
strip_on ck m k = ap (bare_step (on ck m k)) (out-roll-ClockTerm (ClockTerm-F.On ck m k))

pub bare_sampled : (p : List InnerArm) (ck : ClockTerm) → bare (length p) (sampled ck p) ≡ ck
bare_sampled [] ck = refl
bare_sampled (a ∷ p) ck = bare_strip (length p) (sampled (on ck a.0 a.1) p) ∙ ap strip (bare_sampled p (on ck a.0 a.1)) ∙ strip_on ck a.0 a.1

pub from_library : {A : Type 0} (P : A → Type 0) (xs : List A) → AllAt P xs → Each P xs
from_library P [] h = tt
from_library P (x ∷ xs) h = (h 0 x (omega arith), from_library P xs (λ k d l. h (suc k) d (omega (arith, l))))

pub to_library : {A : Type 0} (P : A → Type 0) (xs : List A) → Each P xs → AllAt P xs
to_library P [] h k d l = absurd (omega (arith, l))
to_library P (x ∷ xs) h zero d l = h.0
to_library P (x ∷ xs) h (suc k) d l = to_library P xs h.1 k d (omega (arith, l))
