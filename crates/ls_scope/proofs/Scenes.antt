-- The faults that the checks find are those of the definition.
use Rattle.std.specs.Prelude.{◌≡◌, ℕ, ◌==◌, ◌||◌, ◌&&◌, not, Bool, true, false, List, [], ◌∷◌, ◌++◌, map, Option, Some, None, is_some, slice_get, if◌then◌else◌, refl}
use Rattle.std.proofs.Common.{ap, ap₂, sym, ◌∙◌}
use Rattle.std.specs.List.{list_any, list_all}
use Rattle.ls_sig.specs.declared.binder.Binder.{Binder}
use Rattle.ls_sig.specs.declared.binder.Binder.TheVariants as binder
use Rattle.scope_rules.specs.declared.claims.Asked.{Asked}
use Rattle.scope_rules.specs.declared.claims.Claim.{Claim}
use Rattle.scope_rules.specs.declared.claims.Claim.TheVariants as claim
use Rattle.scope_rules.specs.declared.claims.Stand.{Stand}
use Rattle.scope_rules.specs.declared.claims.Stand.TheVariants as stand
use Rattle.scope_rules.specs.declared.places.Site.{Site}
use Rattle.scope_rules.specs.Places.{Place, option_list}
use Rattle.scope_rules.specs.Faults as faults
use Rattle.scope_rules.specs.Faults.{Judged, Sight, Fault, Twice, Unbound, NotAllArms, Mixed, NotCombinatorial, any_claim, among, of_list, seen_at, equation_sites, is_signal, different, in_an_arm, wrong_param, mark_or_data, wrong_def, singles, first_mark, place_of, titles}
use Rattle.ls_scope.specs.declared.definition.Scene.{Scene}
use Rattle.ls_scope.specs.declared.mixed.MixedClaims.{MixedClaims}
use Rattle.ls_scope.specs.declared.unbound.UnboundClaims.{UnboundClaims}
use Rattle.ls_scope.specs.Judgement as judgement
use Rattle.ls_scope.specs.Judgement.{Shows, judged_of}
use Rattle.ls_scope.specs.Marks.{Gives, told}
use Rattle.ls_scope.specs.Mixed as mixed
use Rattle.ls_scope.specs.Sight.{sight_of}
use Rattle.ls_scope.specs.Unbound as unbound
use Rattle.ls_scope.proofs.Lists.{any_found, any_same_test}
use Rattle.ls_scope.proofs.Signals.{signal_same, var_same}

same_claims : (f g : Place → Claim → Bool) (asks : List Asked) → ((p : Place) (c : Claim) → f p c ≡ g p c) → any_claim f asks ≡ any_claim g asks
same_claims f g asks h = any_same_test (λ a. list_any (f a.place) a.claims) (λ a. list_any (g a.place) a.claims) asks (λ a. any_same_test (f a.place) (g a.place) a.claims (h a.place))

module _ {N : Type 0} (s : Scene N) (sh : Shows s) where
  abbrev d : Judged N
  d = judged_of s.judged.now

  pub twice_is : judgement.scene_twice s ≡ faults.twice d
  twice_is =
      ap (λ b. b || (faults.repeated s.names.now
      || (list_any (λ x. among s.sight.params.now x.var) s.contents.now.sites
      || (faults.any_two faults.again s.contents.now.sites
      || (list_any (λ x. list_any (faults.above x) s.sight.vars.now) s.sight.vars.now
      || (faults.any_two faults.same_start s.contents.now.starts
      || (list_any (λ a. faults.repeated_case (faults.arm_cases_named s.judged.now.names.now a)) s.contents.now.arms
      || (list_any (λ (a : List ℕ × List ℕ). faults.repeated a.0) s.contents.now.automata
      || any_claim faults.twice_claim s.asks.now))))))))
      (sym (any_found (λ (y : ℕ). y == s.judged.now.title) (titles s.judged.now.known.now.defs) 0))
      ∙ (λ i. among (titles s.judged.now.known.now.defs) s.judged.now.title || (faults.repeated (sh.names i)
      || (list_any (λ x. among (sh.params i) x.var) (sh.contents i).sites
      || (faults.any_two faults.again (sh.contents i).sites
      || (list_any (λ x. list_any (faults.above x) (sh.vars i)) (sh.vars i)
      || (faults.any_two faults.same_start (sh.contents i).starts
      || (list_any (λ a. faults.repeated_case (faults.arm_cases_named s.judged.now.names.now a)) (sh.contents i).arms
      || (list_any (λ (a : List ℕ × List ℕ). faults.repeated a.0) (sh.contents i).automata
      || any_claim faults.twice_claim (sh.asks i)))))))))

  pub open_is : judgement.scene_open s ≡ faults.not_all_arms d
  open_is =
      (λ i. list_any (faults.open_arms d) (sh.contents i).arms || any_claim (judgement.open_claims s.judged.now.known.now) (sh.asks i))
      ∙ ap (λ b. list_any (faults.open_arms d) (faults.contents d).arms || b) (same_claims (judgement.open_claims s.judged.now.known.now) (faults.open_claim d) (faults.asks d) by_claim)
    where
      by_claim : (p : Place) (c : Claim) → judgement.open_claims s.judged.now.known.now p c ≡ faults.open_claim d p c
      by_claim p (claim.Branches cs) = refl
      by_claim p (claim.Named b x st) = refl
      by_claim p (claim.Constructor c) = refl
      by_claim p claim.Stray = refl
      by_claim p claim.Answered = refl
      by_claim p claim.Timed = refl

  pub timed_is : judgement.scene_timed s ≡ faults.not_combinatorial d
  timed_is = λ i. not s.judged.now.node && (not (list_all faults.is_plain s.judged.now.body.now.eqs) || any_claim faults.timed_claim (sh.asks i))

  -- names that are not bound
  module _ (c : UnboundClaims) (e1 : c.params.now ≡ s.sight.params.now) (e2 : c.known.now ≡ s.judged.now.known.now) (b : unbound.Binds (equation_sites s.contents.now.sites) c.equations.now) where
    sites_are : equation_sites s.contents.now.sites ≡ equation_sites (faults.contents d).sites
    sites_are i = equation_sites (sh.contents i).sites

    in_list : (x : ℕ) (l : Place) → unbound.bound_in c.equations.now x l ≡ faults.equation_of d l x
    in_list x l = b.0 x l ∙ ap (list_any (of_list x l)) sites_are

    in_sight : (x : ℕ) (p : Place) → unbound.seen_in c.equations.now x p ≡ faults.equation_seen d p x
    in_sight x p = b.1 x p ∙ ap (list_any (seen_at x p)) sites_are

    by_name : (p : Place) (bd : Binder) (x : ℕ) (st : Stand) → unbound.unbound_name c p bd x st ≡ faults.unbound_name d p bd x st
    by_name p bd x stand.Before = λ i. not (among ((e1 ∙ sh.params) i) x) && not (in_sight x p i)
    by_name p bd x stand.Whole = refl
    by_name p bd x stand.Right = refl
    by_name p bd x (stand.At m) = refl
    by_name p bd x stand.Loose = refl
    by_name p bd x stand.Asked = refl
    by_name p bd x (stand.Applied m) = refl

    by_unbound : (p : Place) (k : Claim) → unbound.unbound_claim c p k ≡ faults.unbound_claim d p k
    by_unbound p (claim.Named bd x st) = by_name p bd x st
    by_unbound p (claim.Constructor x) = ap (λ k. not (faults.is_there k (faults.of_name x))) e2
    by_unbound p (claim.Branches cs) = ap (λ k. list_any (λ x. not (faults.is_there k x)) cs) e2
    by_unbound p claim.Stray = refl
    by_unbound p claim.Answered = refl
    by_unbound p claim.Timed = refl

    pub unbound_is : judgement.scene_unbound s c ≡ faults.unbound d
    unbound_is =
        (λ i. list_any (unbound.unbound_start c.equations.now) (sh.contents i).starts
        || (list_any (unbound.unbound_arms s.judged.now.names.now s.judged.now.known.now) (sh.contents i).arms
        || (list_any unbound.unbound_states (sh.contents i).automata
        || any_claim (unbound.unbound_claim c) (sh.asks i))))
        ∙ (λ i. any_same_test (unbound.unbound_start c.equations.now) (λ (x : ℕ × Place). not (faults.equation_of d x.1 x.0)) (faults.contents d).starts (λ x. ap not (in_list x.0 x.1)) i
        || (list_any (unbound.unbound_arms s.judged.now.names.now s.judged.now.known.now) (faults.contents d).arms
        || (list_any unbound.unbound_states (faults.contents d).automata
        || same_claims (unbound.unbound_claim c) (faults.unbound_claim d) (faults.asks d) by_unbound i)))

  -- names that are used in two ways
  module _ (c : MixedClaims) (e1 : c.vars.now ≡ s.sight.vars.now) (e2 : c.signals.now ≡ map (is_signal (sight_of s.sight)) s.sight.vars.now) (e3 : c.singles.now ≡ singles s.judged.now.params.now)
      (e4 : Gives s.asks.now c.marks.now) (e5 : c.known.now ≡ s.judged.now.known.now) where
    sight_is : sight_of s.sight ≡ faults.sight d
    sight_is i = record { params = sh.params i; vars = sh.vars i; defs = (sh.known i).defs }

    vars_are : c.vars.now ≡ (faults.sight d).vars
    vars_are = e1 ∙ sh.vars

    signals_are : c.signals.now ≡ map (is_signal (faults.sight d)) (faults.sight d).vars
    signals_are = e2 ∙ (λ i. map (is_signal (sight_is i)) (sh.vars i))

    by_site : (x : Site) → mixed.mixed_site (sight_of s.sight) c.signals.now x ≡ faults.mixed_site d x
    by_site x =
        (λ i. mixed.mixed_site (sight_is i) c.signals.now x)
        ∙ ap (list_any (λ b. different b (is_signal (faults.sight d) x))) (signal_same (faults.sight d) (faults.sight d).vars c.signals.now x.var x.list refl signals_are)

    by_start : (x : ℕ × Place) → mixed.mixed_start s.sight.vars.now c.signals.now x ≡ faults.mixed_start d x
    by_start x = ap (list_any (λ b. b)) (signal_same (faults.sight d) s.sight.vars.now c.signals.now x.0 x.1 sh.vars signals_are)

    by_use : (p : Place) (bd : Binder) (st : Stand) → mixed.wrong_use c p bd st ≡ faults.wrong_use d p bd st
    by_use p (binder.Var k) st = var_same (faults.sight d) c.vars.now c.signals.now k p st vars_are signals_are
    by_use p (binder.Param k) st = λ i. in_an_arm p st || list_any (λ single. wrong_param single (mark_or_data ((e4 k ∙ ap (first_mark k) sh.asks) i)) st) (option_list (slice_get (e3 i) k))
    by_use p (binder.Def k) st = λ i. list_any (λ e. wrong_def e st) (option_list (slice_get (e5 i).defs k))
    by_use p binder.Nothing st = refl
    by_use p (binder.Case t k) st = refl

    by_mixed : (p : Place) (k : Claim) → mixed.mixed_claim c p k ≡ faults.mixed_claim d p k
    by_mixed p (claim.Named bd x st) = by_use p bd st
    by_mixed p (claim.Constructor x) = refl
    by_mixed p (claim.Branches cs) = refl
    by_mixed p claim.Stray = refl
    by_mixed p claim.Answered = refl
    by_mixed p claim.Timed = refl

    pub mixed_is : judgement.scene_mixed s c ≡ faults.mixed d
    mixed_is =
        (λ i. list_any (mixed.mixed_site (sight_of s.sight) c.signals.now) (sh.contents i).sites
        || (list_any (mixed.mixed_start s.sight.vars.now c.signals.now) (sh.contents i).starts
        || any_claim (mixed.mixed_claim c) (sh.asks i)))
        ∙ (λ i. any_same_test (mixed.mixed_site (sight_of s.sight) c.signals.now) (faults.mixed_site d) (faults.contents d).sites by_site i
        || (any_same_test (mixed.mixed_start s.sight.vars.now c.signals.now) (faults.mixed_start d) (faults.contents d).starts by_start i
        || same_claims (mixed.mixed_claim c) (faults.mixed_claim d) (faults.asks d) by_mixed i))

-- the first kind of fault

module _ {N : Type 0} (d : Judged N) where
  pub is_twice : faults.twice d ≡ true → faults.fault d ≡ Some Twice
  is_twice h = ap (λ b. if b then Some Twice else if faults.unbound d then Some Unbound else if faults.not_all_arms d then Some NotAllArms else if faults.mixed d then Some Mixed else if faults.not_combinatorial d then Some NotCombinatorial else None) h

  pub is_unbound : faults.twice d ≡ false → faults.unbound d ≡ true → faults.fault d ≡ Some Unbound
  is_unbound a b = λ i. if a i then Some Twice else if b i then Some Unbound else if faults.not_all_arms d then Some NotAllArms else if faults.mixed d then Some Mixed else if faults.not_combinatorial d then Some NotCombinatorial else None

  pub is_open : faults.twice d ≡ false → faults.unbound d ≡ false → faults.not_all_arms d ≡ true → faults.fault d ≡ Some NotAllArms
  is_open a b c = λ i. if a i then Some Twice else if b i then Some Unbound else if c i then Some NotAllArms else if faults.mixed d then Some Mixed else if faults.not_combinatorial d then Some NotCombinatorial else None

  pub is_mixed : faults.twice d ≡ false → faults.unbound d ≡ false → faults.not_all_arms d ≡ false → faults.mixed d ≡ true → faults.fault d ≡ Some Mixed
  is_mixed a b c e = λ i. if a i then Some Twice else if b i then Some Unbound else if c i then Some NotAllArms else if e i then Some Mixed else if faults.not_combinatorial d then Some NotCombinatorial else None

  pub is_timed : faults.twice d ≡ false → faults.unbound d ≡ false → faults.not_all_arms d ≡ false → faults.mixed d ≡ false → (b : Bool) → faults.not_combinatorial d ≡ b
      → faults.fault d ≡ (if b then Some NotCombinatorial else None)
  is_timed a b c e f g = λ i. if a i then Some Twice else if b i then Some Unbound else if c i then Some NotAllArms else if e i then Some Mixed else if g i then Some NotCombinatorial else None
