-- What is answered for a file, by the places of its constructors.
use Rattle.std.specs.Prelude.{◌≡◌, ◌≢◌, ℕ, List, [], Option}
use Rattle.std.proofs.Common.{ap, subst, ◌∙◌}
use Rattle.ls_ast.specs.declared.tree.DefOf.{DefOf}
use Rattle.ls_places.specs.Definitions.{case_place}
use Rattle.ls_sig.specs.declared.binder.Note.{Note}
use Rattle.causality_rules.specs.Files.{AllRanked, Looped, lets}
use Rattle.causality.specs.Judged.{AtCycle, Numbers}
use Rattle.causality.specs.declared.file.CauseFault.{CauseFault}
use Rattle.causality.proofs.LetsJudged.{at_cycle}

pub places_are : (p : ℕ → Option ℕ) (xs ys : List (DefOf Note)) → p ≡ case_place xs → xs ≡ ys → p ≡ case_place ys
places_are p xs ys e f = e ∙ ap case_place f

pub ranked_there : (p q : ℕ → Option ℕ) (ls : List Numbers) (xs ys : List (DefOf Note)) → p ≡ q → xs ≡ ys → AllRanked (lets p xs) ls → AllRanked (lets q ys) ls
ranked_there p q ls xs ys e f r = subst (λ z. AllRanked (lets q z) ls) f (subst (λ z. AllRanked (lets z xs) ls) e r)

pub looped_there : (f : CauseFault) (p q : ℕ → Option ℕ) (xs ys : List (DefOf Note)) → p ≡ q → xs ≡ ys → AtCycle f (Looped (lets p xs))
    → AtCycle f (λ line found. (found ≢ []) × Looped (lets q ys) line found)
looped_there f p q xs ys e g l = at_cycle f (lets q ys) (subst (λ z. AtCycle f (Looped (lets q z))) g (subst (λ z. AtCycle f (Looped (lets z xs))) e l))
