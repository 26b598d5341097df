-- One more clock, in the loops that write lists of clocks.
use Rattle.std.specs.Prelude.{◌≡◌, ℕ, ◌+◌, ◌<◌, Bool, List, map, length, slice_get, Option, codes}
use Rattle.std.proofs.Common.{ap, drop, get_or}
use Rattle.clock_text.specs.Texts.{Spells, arrows, is_clock, param_text, params_text}
use Rattle.ls_ast.specs.declared.tree.Mark.{Mark}
use Rattle.ls_base.proofs.Built.{rest}
use Rattle.ls_terms.specs.declared.clocks.ClockTerm.{ClockTerm}
use Rattle.text_write.proofs.Writing.{Halfway, halfway_more, halfway_twice}
use Rattle.text_write.specs.Writes.{Prints}

-- in a function
pub clock_turn : (show : ClockTerm → List ℕ) (all : List ClockTerm) (i : ℕ) (x : ClockTerm) (ok so_far mid_ok next : Bool) (old now mid new : Option (List ℕ)) (a c e f : ℕ) (whole : List ℕ)
    → i < length all → get_or all i x ≡ x → Prints so_far mid_ok now mid c e (show x) → Prints mid_ok next mid new e f (codes " -> ")
    → Halfway ok so_far old now a c (arrows (map show (drop i all))) whole → Halfway ok next old new a f (arrows (map show (drop (i + 1) all))) whole
clock_turn show all i x ok so_far mid_ok next old now mid new a c e f whole below is p q h =
    halfway_twice ok so_far mid_ok next old now mid new a c e f (show x) (codes " -> ") (arrows (map show (drop i all))) (arrows (map show (drop (i + 1) all))) whole p q
    (ap (λ l. arrows (map show l)) (rest all i x below is)) h

-- among parameters
pub param_turn : (s : Spells) (marks : List Mark) (all : List ClockTerm) (i : ℕ) (x : ClockTerm) (ok so_far next : Bool) (old now new : Option (List ℕ)) (a c e : ℕ) (whole : List ℕ)
    → i < length all → get_or all i x ≡ x → Prints so_far next now new c e (param_text s (is_clock (slice_get marks i)) i x)
    → Halfway ok so_far old now a c (params_text s marks i (drop i all)) whole → Halfway ok next old new a e (params_text s marks (i + 1) (drop (i + 1) all)) whole
param_turn s marks all i x ok so_far next old now new a c e whole below is p h =
    halfway_more ok so_far next old now new a c e (param_text s (is_clock (slice_get marks i)) i x) (params_text s marks i (drop i all)) (params_text s marks (i + 1) (drop (i + 1) all)) whole p
    (ap (λ l. params_text s marks i l) (rest all i x below is)) h
