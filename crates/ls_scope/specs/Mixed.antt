-- What the code asks of names that are used in two ways.
use Rattle.std.specs.Prelude.{ℕ, suc, zero, ◌||◌, not, Bool, true, false, List, [], ◌∷◌, map, slice_get, Option, Some, None}
use Rattle.std.specs.List.{list_any}
use Rattle.ls_sig.specs.declared.binder.Binder.{Binder}
use Rattle.ls_sig.specs.declared.binder.Binder.TheVariants as binder
use Rattle.ls_scope.specs.declared.mixed.MixedClaims.{MixedClaims}
use Rattle.ls_scope.specs.Marks.{told}
use Rattle.scope_rules.specs.Places.{Place, option_list}
use Rattle.scope_rules.specs.declared.places.Site.{Site}
use Rattle.scope_rules.specs.declared.claims.Stand.{Stand}
use Rattle.scope_rules.specs.declared.claims.Claim.{Claim}
use Rattle.scope_rules.specs.declared.claims.Claim.TheVariants.{Named as named}
use Rattle.scope_rules.specs.declared.claims.Claim.TheVariants.{Stray as stray}
use Rattle.scope_rules.specs.declared.claims.Claim.TheVariants.{Answered as answered}
use Rattle.scope_rules.specs.Faults.{Sight, of_list, place_where, is_signal, different, wrong_variable, wrong_param, wrong_def, in_an_arm, mark_or_data}

abbrev pub at_place : List Bool → Option ℕ → Option Bool
at_place signals (Some k) = slice_get signals k
at_place signals None = None

abbrev pub signal_at : List Site → List Bool → ℕ → Place → Option Bool
signal_at vars signals x l = at_place signals (place_where (of_list x l) vars)

abbrev pub mixed_site : Sight → List Bool → Site → Bool
mixed_site h signals s = list_any (λ b. different b (is_signal h s)) (option_list (signal_at h.vars signals s.var s.list))

abbrev pub mixed_start : List Site → List Bool → ℕ × Place → Bool
mixed_start vars signals s = list_any (λ b. b) (option_list (signal_at vars signals s.0 s.1))

abbrev pub wrong_var : MixedClaims → Place → ℕ → Stand → Bool
wrong_var it p k s = list_any (λ b. list_any (λ v. wrong_variable b v p s) (option_list (slice_get it.vars.now k))) (option_list (slice_get it.signals.now k))

abbrev pub wrong_use : MixedClaims → Place → Binder → Stand → Bool
wrong_use it p (binder.Var k) s = wrong_var it p k s
wrong_use it p (binder.Param k) s = in_an_arm p s || list_any (λ single. wrong_param single (mark_or_data (told it.marks.now k)) s) (option_list (slice_get it.singles.now k))
wrong_use it p (binder.Def k) s = list_any (λ e. wrong_def e s) (option_list (slice_get it.known.now.defs k))
wrong_use it p _ s = false

abbrev pub mixed_claim : MixedClaims → Place → Claim → Bool
mixed_claim it p (named b x s) = wrong_use it p b s
mixed_claim it p stray = true
mixed_claim it p answered = true
mixed_claim it p _ = false
