-- The judgement on one definition, as the code has it.
use Rattle.std.specs.Prelude.{◌≡◌, ℕ, ◌||◌, ◌&&◌, not, Bool, is_some, true, false, List, [], ◌∷◌, map, slice_get, Option, Some, None}
use Rattle.std.specs.List.{list_any, list_all}
use Rattle.ls_ast.specs.declared.tree.Expr.{Expr}
use Rattle.ls_ast.specs.declared.tree.Form.{Form}
use Rattle.ls_ast.specs.declared.tree.Form.TheOpen.{Form-F}
use Rattle.ls_sig.specs.declared.binder.Binder.{Binder}
use Rattle.ls_sig.specs.declared.binder.Binder.TheVariants as binder
use Rattle.ls_scope.specs.declared.definition.Judged as rust
use Rattle.ls_scope.specs.declared.definition.Judgement.{Judgement}
use Rattle.ls_scope.specs.declared.definition.Scene.{Scene}
use Rattle.ls_scope.specs.declared.mixed.MixedClaims.{MixedClaims}
use Rattle.ls_scope.specs.declared.unbound.UnboundClaims.{UnboundClaims}
use Rattle.ls_scope.specs.Arms.{open_arms}
use Rattle.ls_scope.specs.Mixed.{mixed_site, mixed_start, mixed_claim}
use Rattle.ls_scope.specs.Unbound.{unbound_start, unbound_arms, unbound_states, unbound_claim}
use Rattle.ls_scope.specs.Sight.{sight_of}
use Rattle.scope_rules.specs.Claims.{Known}
use Rattle.ls_scope.specs.declared.fault.ScopeFault.{ScopeFault}
use Rattle.ls_scope.specs.declared.fault.ScopeFault.TheVariants as f
use Rattle.ls_scope.specs.declared.marks.Marks.{Marks}
use Rattle.ls_scope.specs.Marks.{told}
use Rattle.ls_scope.specs.Told as code
use Rattle.ls_scope.specs.declared.contents.Contents as found
use Rattle.scope_rules.specs.declared.places.Site.{Site}
use Rattle.scope_rules.specs.Places.{Place, option_list}
use Rattle.scope_rules.specs.declared.claims.Claim.{Claim}
use Rattle.scope_rules.specs.declared.claims.Claim.TheVariants.{Branches as branches}
use Rattle.scope_rules.specs.Faults as faults
use Rattle.scope_rules.specs.Faults.{Judged, Sight, Fault, Twice, Unbound, NotAllArms, Mixed, NotCombinatorial, marks, seen_later, place_of, titles, repeated, among, any_two, again, above, same_start, repeated_case, arm_cases_named, any_claim, twice_claim, timed_claim, is_plain, cover, is_signal, is_signal_mark, mark_or_data, binder_at, head_answers, head_at}
use Rattle.scope_rules.specs.Resolved.{resolved_body}

abbrev pub judged_of : {N : Type 0} → rust.Judged N → Judged N
judged_of d = record { names = d.names.now; known = d.known.now; title = d.title; node = d.node; params = d.params.now; body = d.body.now }

abbrev pub judgement_of : {N : Type 0} → Judged N → Judgement
judgement_of d = record { marks = marks d; body = resolved_body d; earlier = seen_later d }

-- what the checks go by is what the definitions say
pub record Shows {N : Type 0} (s : Scene N) : Type 0 where
  pub contents : code.built s.contents.now ≡ faults.contents (judged_of s.judged.now)
  pub params : s.sight.params.now ≡ faults.param_names (judged_of s.judged.now)
  pub vars : s.sight.vars.now ≡ (faults.sight (judged_of s.judged.now)).vars
  pub known : s.sight.known.now ≡ s.judged.now.known.now
  pub asks : s.asks.now ≡ faults.asks (judged_of s.judged.now)
  pub names : s.names.now ≡ faults.param_names (judged_of s.judged.now)

-- what a definition has, as the code finds it
pub record HasParts {N : Type 0} (d : rust.Judged N) (xs ps : List ℕ) (c : found.Contents N) (vs : List Site) : Type 0 where
  pub names : xs ≡ faults.param_names (judged_of d)
  pub params : ps ≡ faults.param_names (judged_of d)
  pub contents : code.built c ≡ faults.contents (judged_of d)
  pub vars : vs ≡ (faults.sight (judged_of d)).vars

abbrev pub open_claims : Known → Place → Claim → Bool
open_claims known p (branches cs) = not (cover known cs)
open_claims known p _ = false

-- the five faults, as the checks find them

abbrev pub scene_blocks_twice : {N : Type 0} → Scene N → Bool
scene_blocks_twice s = any_two same_start s.contents.now.starts
    || (list_any (λ a. repeated_case (arm_cases_named s.judged.now.names.now a)) s.contents.now.arms
    || (list_any (λ (a : List ℕ × List ℕ). repeated a.0) s.contents.now.automata
    || any_claim twice_claim s.asks.now))

abbrev pub scene_twice : {N : Type 0} → Scene N → Bool
scene_twice s = is_some (place_of s.judged.now.title (titles s.judged.now.known.now.defs))
    || (repeated s.names.now
    || (list_any (λ x. among s.sight.params.now x.var) s.contents.now.sites
    || (any_two again s.contents.now.sites
    || (list_any (λ x. list_any (above x) s.sight.vars.now) s.sight.vars.now
    || scene_blocks_twice s))))

abbrev pub scene_unbound : {N : Type 0} → Scene N → UnboundClaims → Bool
scene_unbound s c = list_any (unbound_start c.equations.now) s.contents.now.starts
    || (list_any (unbound_arms s.judged.now.names.now s.judged.now.known.now) s.contents.now.arms
    || (list_any unbound_states s.contents.now.automata
    || any_claim (unbound_claim c) s.asks.now))

abbrev pub scene_open : {N : Type 0} → Scene N → Bool
scene_open s = list_any (open_arms s.judged.now.names.now s.judged.now.known.now) s.contents.now.arms || any_claim (open_claims s.judged.now.known.now) s.asks.now

abbrev pub scene_mixed : {N : Type 0} → Scene N → MixedClaims → Bool
scene_mixed s c = list_any (mixed_site (sight_of s.sight) c.signals.now) s.contents.now.sites
    || (list_any (mixed_start s.sight.vars.now c.signals.now) s.contents.now.starts
    || any_claim (mixed_claim c) s.asks.now)

abbrev pub scene_timed : {N : Type 0} → Scene N → Bool
scene_timed s = not s.judged.now.node && (not (list_all is_plain s.judged.now.body.now.eqs) || any_claim timed_claim s.asks.now)

abbrev pub signal_binder : Sight → Marks → Binder → Bool
signal_binder h m (binder.Param k) = is_signal_mark (mark_or_data (told m k))
signal_binder h m (binder.Var k) = list_any (is_signal h) (option_list (slice_get h.vars k))
signal_binder h m _ = false

abbrev pub result_by : {N : Type 0} → Sight → Marks → Form-F N (Form N) (Expr N) → Bool
result_by h m (Form-F.Var x) = signal_binder h m (binder_at h [] x.0)
result_by h m (Form-F.Call run x args every) = head_answers (head_at h [] x.0)
result_by h m _ = false

-- what an answer says of a fault, which begins at a line
abbrev pub Is : ScopeFault → ℕ → Option Fault → Type 0
Is (f.Twice l) line j = (j ≡ Some Twice) × (l.0 ≡ line)
Is (f.Unbound l) line j = (j ≡ Some Unbound) × (l.0 ≡ line)
Is (f.NotAllArms l) line j = (j ≡ Some NotAllArms) × (l.0 ≡ line)
Is (f.Mixed l) line j = (j ≡ Some Mixed) × (l.0 ≡ line)
Is (f.NotCombinatorial l) line j = (j ≡ Some NotCombinatorial) × (l.0 ≡ line)
Is f.NoMemory line j = Unit {0}
