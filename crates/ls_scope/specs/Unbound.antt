-- What the code asks of names that are not bound.
use Rattle.std.specs.Prelude.{◌≡◌, ℕ, ◌&&◌, not, Bool, true, false, List, Option, is_some}
use Rattle.std.specs.List.{list_any}
use Rattle.ls_sig.specs.declared.binder.Binder.{Binder}
use Rattle.ls_scope.specs.declared.unbound.Equations.{Equations}
use Rattle.ls_scope.specs.declared.unbound.UnboundClaims.{UnboundClaims}
use Rattle.ls_scope.specs.Keys.{key, place_in, first_seen}
use Rattle.scope_rules.specs.Places.{Place}
use Rattle.scope_rules.specs.declared.places.Site.{Site}
use Rattle.scope_rules.specs.declared.claims.Stand.{Stand}
use Rattle.scope_rules.specs.declared.claims.Stand.TheVariants.{Before as before}
use Rattle.scope_rules.specs.Claims.{Known}
use Rattle.scope_rules.specs.declared.claims.Claim.{Claim}
use Rattle.scope_rules.specs.declared.claims.Claim.TheVariants.{Named as named}
use Rattle.scope_rules.specs.declared.claims.Claim.TheVariants.{Constructor as constructor}
use Rattle.scope_rules.specs.declared.claims.Claim.TheVariants.{Branches as branches}
use Rattle.scope_rules.specs.Faults.{of_list, seen_at, among, is_nothing, is_there, of_name, arm_cases_named}

abbrev pub bound_in : Equations → ℕ → Place → Bool
bound_in e x l = is_some (place_in e.keys (key x l))

abbrev pub seen_in : Equations → ℕ → Place → Bool
seen_in e x p = is_some (first_seen e.keys x p)

-- it has the names and lists of these sites
abbrev pub Binds : List Site → Equations → Type 0
Binds sites e = ((x : ℕ) (l : Place) → bound_in e x l ≡ list_any (of_list x l) sites) × ((x : ℕ) (p : Place) → seen_in e x p ≡ list_any (seen_at x p) sites)

abbrev pub unbound_start : Equations → ℕ × Place → Bool
unbound_start e s = not (bound_in e s.0 s.1)

abbrev pub unbound_arms : List (List ℕ) → Known → List (Option ℕ) → Bool
unbound_arms names known as' = list_any (λ c. not (is_there known c)) (arm_cases_named names as')

abbrev pub unbound_states : List ℕ × List ℕ → Bool
unbound_states a = list_any (λ t. not (among a.0 t)) a.1

abbrev pub unbound_name : UnboundClaims → Place → Binder → ℕ → Stand → Bool
unbound_name it p b x before = not (among it.params.now x) && not (seen_in it.equations.now x p)
unbound_name it p b x s = is_nothing b

abbrev pub unbound_claim : UnboundClaims → Place → Claim → Bool
unbound_claim it p (named b x s) = unbound_name it p b x s
unbound_claim it p (constructor c) = not (is_there it.known.now (of_name c))
unbound_claim it p (branches cs) = list_any (λ c. not (is_there it.known.now c)) cs
unbound_claim it p _ = false
