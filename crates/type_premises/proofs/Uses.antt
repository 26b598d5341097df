-- A parameter that is used as a function in an expression is one where the types meet what the expression asks.
use Rattle.std.specs.Prelude.{◌≡◌, refl, ℕ, suc, ◌+◌, ◌==◌, ◌&&◌, ◌||◌, not, Bool, true, false, List, [], ◌∷◌, ◌++◌, map, length, slice_get, Option, Some, None, if◌then◌else◌, nat_lt, ◌⊎◌}
use Rattle.std.specs.List.{list_any}
use Rattle.std.proofs.Common.{ap, sym, ◌∙◌, subst, inl, inr, arith}
use Rattle.ls_ast.specs.declared.tree.Mark.{Mark}
use Rattle.ls_ast.specs.declared.tree.Mark.TheVariants as mark
use Rattle.ls_terms.specs.declared.types.Kind.TheVariants.{Comb}
use Rattle.ls_terms.specs.declared.types.TypeTerm.{TypeTerm}
use Rattle.ls_terms.specs.declared.types.TypeTerm.TheVariants as t
use Rattle.ls_sig.specs.Notes.{is_signal}
use Rattle.ls_sig.specs.declared.sigs.Sig.{Sig}
use Rattle.type_rules.specs.Schemes.{is_data}
use Rattle.type_rules.specs.declared.demand.Demand.{Demand}
use Rattle.type_rules.specs.declared.demand.Demand.TheVariants.{Fits, Function, Never}
use Rattle.type_rules.specs.Demands.{map_fits, Fit, Meets}
use Rattle.type_rules.specs.Expressions.{any, Reading, reading, streams, types_of, zip_fits, given, applied, restarts, is_bare, is_functional, is_passed, rest_of, called, partial, call_of, application, kind_of, same_kind, none_of}
use Rattle.type_rules.proofs.Placing.{put_not, arrow_data, meets_left, meets_right}
use Rattle.scope_rules.specs.Places.{stream}
use Rattle.scope_rules.specs.declared.claims.Claim.{Claim}
use Rattle.scope_rules.specs.declared.claims.Claim.TheVariants.{Stray as stray, Answered as answered, Timed as timed}
use Rattle.scope_rules.specs.declared.claims.Earlier.{Earlier}
use Rattle.scope_rules.specs.declared.claims.Stand.{Stand}
use Rattle.scope_rules.specs.declared.claims.Stand.TheVariants.{At as at, Loose as loose}
use Rattle.scope_rules.specs.Claims as C
use Rattle.scope_rules.specs.Claims.{Claims, at_marks, all_at, if_any, stand_for, proper, claim_if, is_function, def_claims, loose_claims, given_some, passable}
use Rattle.scope_rules.specs.Laws.{as_function, function_use}
use Rattle.type_premises.specs.Premises.{FunctionTypes}
use Rattle.type_premises.proofs.Lists.{either, differ, any_split}

functional_is : (m : Mark) → is_function m ≡ true → is_functional m ≡ true
functional_is mark.Unknown h = h
functional_is mark.Data h = h
functional_is mark.Clock h = h
functional_is mark.Signal h = h
functional_is mark.Comb h = h
functional_is mark.Seq h = h

bare_is : (m : Mark) → is_function m ≡ true → is_bare m ≡ true
bare_is mark.Unknown h = absurd (cc)
bare_is mark.Data h = absurd (cc)
bare_is mark.Clock h = absurd (cc)
bare_is mark.Signal h = refl
bare_is mark.Comb h = refl
bare_is mark.Seq h = refl

-- f gives a type to each place; u is the place of the parameter of number k
module _ (f : ℕ → TypeTerm) (k u : ℕ) where
  -- where the demands are met the parameter is no data
  abbrev pub Forces : List (Demand ℕ) → Type 0
  Forces ds = Meets f ds → is_data (f u) ≡ true → ⊥

  pub forces_left : (ds es : List (Demand ℕ)) → Forces ds → Forces (ds ++ es)
  forces_left ds es h m e = h (meets_left f ds es m) e

  pub forces_right : (ds es : List (Demand ℕ)) → Forces es → Forces (ds ++ es)
  forces_right ds es h m e = h (meets_right f ds es m) e

  pub forces_after : (d : Demand ℕ) (es : List (Demand ℕ)) → Forces es → Forces (d ∷ es)
  forces_after d es h m e = h m.1 e

  pub forces_never : Forces (Never ∷ [])
  forces_never m e = absurd m.0

  pub forces_if : (c : Bool) (ds es : List (Demand ℕ)) → Forces ds → Forces es → Forces (if c then ds else es)
  forces_if true ds es p q = p
  forces_if false ds es p q = q

  -- however the expression stands
  abbrev pub Four : Reading ℕ → Type 0
  Four r = Forces r.stream × Forces r.bare × Forces r.whole × Forces r.body

  pub four : (t : ℕ) (ds : List (Demand ℕ)) → Forces ds → Four (reading t ds)
  four t ds h = (h, h, h, h)

  pub never : (t : ℕ) → Four (reading t (Never ∷ []))
  never t = four t (Never ∷ []) forces_never

  chosen : (b : Bool) (r : Reading ℕ) → Four r → Forces (if b then r.bare else r.stream)
  chosen true r p = p.1
  chosen false r p = p.0

  -- some claim uses the parameter as a function
  abbrev pub Used : List Claim → Type 0
  Used cs = list_any (function_use k) cs ≡ true

  pub split : (xs ys : List Claim) → Used (xs ++ ys) → Used xs ⊎ Used ys
  split xs ys h = any_split (function_use k) xs ys h

  pub skip : (c : Claim) (cs : List Claim) → function_use k c ≡ false → Used (c ∷ cs) → Used cs
  skip c cs e h = subst (λ z. z || list_any (function_use k) cs ≡ true) e h

  claim_none : (b : Bool) (c : Claim) → function_use k c ≡ false → Used (claim_if b c) → ⊥
  claim_none true c e h = differ (list_any (function_use k) []) refl (skip c [] e h)
  claim_none false c e h = absurd (cc)

  pub proper_none : (s : Stand) → Used (proper s) → ⊥
  proper_none s h = claim_none (not (C.for_stream s)) stray refl h

  pub proper_first : (s : Stand) (cs : List Claim) → Used (proper s ++ cs) → Used cs
  proper_first s cs h = either (λ a. absurd (proper_none s a)) (λ a. a) (split (proper s) cs h)

  claim_first : (b : Bool) (c : Claim) (cs : List Claim) → function_use k c ≡ false → Used (claim_if b c ++ cs) → Used cs
  claim_first b c cs e h = either (λ a. absurd (claim_none b c e a)) (λ a. a) (split (claim_if b c) cs h)

  -- the parameter itself: its type is that of the name
  abbrev pub Same : Reading ℕ → Type 0
  Same r = Meets f r.bare → f r.ty ≡ f u

  -- where the claims use the parameter as a function the demands force it, or the expression is its name and stands as a function
  abbrev pub Facts : Claims → Reading ℕ → Type 0
  Facts cs r = (s : Stand) → Used (cs s) → Four r ⊎ ((as_function s ≡ true) × Same r)

  abbrev pub Part : Type 0
  Part = (c : Claims) × (r : Reading ℕ) × Facts c r

  abbrev pub claims_in : List Part → List Claims
  claims_in = map {A = Part} {B = Claims} (λ p. p.0)

  abbrev pub readings_in : List Part → List (Reading ℕ)
  readings_in = map {A = Part} {B = Reading ℕ} (λ p. p.1)

  pub four_at : (p : Part) (s : Stand) → as_function s ≡ false → Used (p.0 s) → Four p.1
  four_at p s n c = either (λ x. x) (λ q. absurd (differ (as_function s) n q.0)) (p.2 s c)

  pub streams_forced : (ps : List Part) → Used (all_at stream (claims_in ps)) → Forces (streams (readings_in ps))
  streams_forced [] h = absurd (cc)
  streams_forced (p ∷ ps) h = either
      (λ c. forces_left p.1.stream (streams (readings_in ps)) (four_at p stream refl c).0)
      (λ c. forces_right p.1.stream (streams (readings_in ps)) (streams_forced ps c))
      (split (p.0 stream) (all_at stream (claims_in ps)) h)

  applied_forced : (ps : List Part) → Used (all_at loose (claims_in ps)) → Forces (applied (readings_in ps))
  applied_forced [] h = absurd (cc)
  applied_forced (p ∷ ps) h = either
      (λ c. forces_left (if p.1.is_function then p.1.bare else p.1.stream) (applied (readings_in ps)) (chosen p.1.is_function p.1 (four_at p loose refl c)))
      (λ c. forces_right (if p.1.is_function then p.1.bare else p.1.stream) (applied (readings_in ps)) (applied_forced ps c))
      (split (p.0 loose) (all_at loose (claims_in ps)) h)

  -- the arguments of a definition

  no_marks : (i : ℕ) (cs : List Claims) → at_marks [] i cs ≡ all_at stream cs
  no_marks i [] = refl
  no_marks i (c ∷ cs) = ap (λ z. c stream ++ z) (no_marks (i + 1) cs)

  no_marks_given : (rs : List (Reading ℕ)) → given [] rs ≡ streams rs
  no_marks_given [] = refl
  no_marks_given (r ∷ rs) = ap (λ z. r.stream ++ z) (no_marks_given rs)

  later_marks : (m : Mark) (ms : List Mark) (i : ℕ) (cs : List Claims) → at_marks (m ∷ ms) (suc i) cs ≡ at_marks ms i cs
  later_marks m ms i [] = refl
  later_marks m ms i (c ∷ cs) =
      let e : suc i + 1 ≡ suc (i + 1) = omega arith in
      ap (λ z. c (stand_for (slice_get ms i)) ++ at_marks (m ∷ ms) z cs) e ∙ ap (λ z. c (stand_for (slice_get ms i)) ++ z) (later_marks m ms (i + 1) cs)

  module _ (σ : ℕ → TypeTerm) (known : (x : ℕ) → is_data (σ x) ≡ true) where
    abbrev Fitting : List Part → List TypeTerm → Type 0
    Fitting ps ts = Fit σ (map_fits f (zip_fits (readings_in ps) ts))

    no_types : (ps : List Part) → Fitting ps []
    no_types [] = tt
    no_types (p ∷ ps) = tt

    -- an argument at its mark
    bare_met : (m : Mark) (r : Reading ℕ) → is_function m ≡ true → Meets f (if is_bare m then r.bare else r.stream) → Meets f r.bare
    bare_met m r e h = subst (λ b. Meets f (if b then r.bare else r.stream)) (bare_is m e) h

    first_given : (m : Mark) (p : Part) → (is_function m ≡ true → f p.1.ty ≡ f u → is_data (f u) ≡ true → ⊥) → Used (p.0 (at m)) → Forces (if is_bare m then p.1.bare else p.1.stream)
    first_given m p other c h e = either (λ q. chosen (is_bare m) p.1 q h e) (λ q. other q.0 (q.1 (bare_met m p.1 q.0 h)) e) (p.2 (at m) c)

    pub given_forced : (ms : List Mark) (ts : List TypeTerm) (ps : List Part) → FunctionTypes ms ts → Used (at_marks ms 0 (claims_in ps)) → Fitting ps ts → Forces (given ms (readings_in ps))
    given_forced ms ts [] t h fit = absurd (cc)
    given_forced [] ts (p ∷ ps) t h fit =
        subst (λ z. Forces z) (sym (no_marks_given (readings_in (p ∷ ps)))) (streams_forced (p ∷ ps) (subst (λ z. Used z) (no_marks 0 (claims_in (p ∷ ps))) h))
    given_forced (m ∷ ms) [] (p ∷ ps) t h fit = either
        (λ c. forces_left (if is_bare m then p.1.bare else p.1.stream) (given ms (readings_in ps)) (first_given m p (λ i q e. t.0 (functional_is m i)) c))
        (λ c. forces_right (if is_bare m then p.1.bare else p.1.stream) (given ms (readings_in ps)) (given_forced ms [] ps t.1 (subst (λ z. Used z) (later_marks m ms 0 (claims_in ps)) c) (no_types ps)))
        (split (p.0 (at m)) (at_marks (m ∷ ms) 1 (claims_in ps)) h)
    given_forced (m ∷ ms) (s ∷ ts) (p ∷ ps) t h fit = either
        (λ c. forces_left (if is_bare m then p.1.bare else p.1.stream) (given ms (readings_in ps))
        (first_given m p (λ i q e. put_not σ known s (t.0 (functional_is m i)) (sym (ap is_data fit.0) ∙ ap is_data q ∙ e)) c))
        (λ c. forces_right (if is_bare m then p.1.bare else p.1.stream) (given ms (readings_in ps)) (given_forced ms ts ps t.1 (subst (λ z. Used z) (later_marks m ms 0 (claims_in ps)) c) fit.1))
        (split (p.0 (at m)) (at_marks (m ∷ ms) 1 (claims_in ps)) h)

  abbrev pub claims_if : Option Part → Option Claims
  claims_if None = None
  claims_if (Some p) = Some p.0

  abbrev pub reading_if : Option Part → Option (Reading ℕ)
  reading_if None = None
  reading_if (Some p) = Some p.1

  restarts_forced : (o : Option Part) → Used (if_any (claims_if o)) → Forces (restarts (reading_if o))
  restarts_forced None h = absurd (cc)
  restarts_forced (Some p) h = forces_after (Fits ((p.1.ty, t.Bool) ∷ [])) p.1.stream (four_at p stream refl h).0

  -- the arguments of a call, and its restart
  abbrev Called : List Mark → List Part → Option Part → Type 0
  Called ms ps o = Used (at_marks ms 0 (claims_in ps)) ⊎ Used (if_any (claims_if o))

  args_forced : (sig : Sig) (ps : List Part) (o : Option Part) → FunctionTypes sig.marks sig.params → Called sig.marks ps o
      → (t : ℕ) (s : TypeTerm) → Forces (Fits ((t, s) ∷ zip_fits (readings_in ps) sig.params) ∷ given sig.marks (readings_in ps) ++ restarts (reading_if o))
  args_forced sig ps o g c t s m e = either
      (λ a. given_forced m.0.0 m.0.1 sig.marks sig.params ps g a m.0.2.1 (meets_left f (given sig.marks (readings_in ps)) (restarts (reading_if o)) m.1) e)
      (λ a. restarts_forced o a (meets_right f (given sig.marks (readings_in ps)) (restarts (reading_if o)) m.1) e)
      c

  called_forced : (t : ℕ) (sig : Sig) (ps : List Part) (o : Option Part) → FunctionTypes sig.marks sig.params → Called sig.marks ps o → Four (called t sig (readings_in ps) (reading_if o))
  called_forced t sig ps o g c =
      let ds = Fits ((t, sig.result) ∷ zip_fits (readings_in ps) sig.params) ∷ given sig.marks (readings_in ps) ++ restarts (reading_if o) in
      let tail = Fits ((t, any) ∷ []) ∷ [] in
      let h : Forces ds = args_forced sig ps o g c t sig.result in
      let h' : Forces (ds ++ tail) = forces_left ds tail h in
      let ends : Forces (if is_signal sig.result then ds else ds ++ tail) = forces_if (is_signal sig.result) ds (ds ++ tail) h h' in
      (h', h', ends, ends)

  end_nil : {A : Type 0} (xs : List A) → xs ++ [] ≡ xs
  end_nil [] = refl
  end_nil (x ∷ xs) = ap (λ z. x ∷ z) (end_nil xs)

  partial_forced : (t : ℕ) (sig : Sig) (ps : List Part) → FunctionTypes sig.marks sig.params → Called sig.marks ps None → Four (partial t sig (readings_in ps))
  partial_forced t sig ps g c =
      let n = length (readings_in ps) in
      let ds = Fits ((t, rest_of sig n) ∷ zip_fits (readings_in ps) sig.params) ∷ given sig.marks (readings_in ps) in
      let h : Forces ds = (λ m e. args_forced sig ps None g c t (rest_of sig n) (m.0, subst (λ z. Meets f z) (sym (end_nil (given sig.marks (readings_in ps)))) m.1) e) in
      (forces_never, forces_if (is_passed sig n) ds (Never ∷ []) h forces_never, forces_never, forces_never)

  by_if : (Q : Reading ℕ → Type 0) (c : Bool) (x y : Reading ℕ) → Q x → Q y → Q (if c then x else y)
  by_if Q true x y p q = p
  by_if Q false x y p q = q

  few_forced : (a c : Bool) (t : ℕ) (sig : Sig) (ps : List Part) (o : Option Part) → FunctionTypes sig.marks sig.params → Called sig.marks ps o
      → Four (if a && (c && none_of (reading_if o)) then partial t sig (readings_in ps) else reading t (Never ∷ []))
  few_forced a c t sig ps None g d = by_if Four (a && (c && true)) (partial t sig (readings_in ps)) (reading t (Never ∷ [])) (partial_forced t sig ps g d) (never t)
  few_forced true true t sig ps (Some p) g d = never t
  few_forced true false t sig ps (Some p) g d = never t
  few_forced false c t sig ps (Some p) g d = never t

  call_forced : (t : ℕ) (sig : Sig) (run : Bool) (ps : List Part) (o : Option Part) → FunctionTypes sig.marks sig.params → Called sig.marks ps o → Four (call_of t (Some sig) run (readings_in ps) (reading_if o))
  call_forced t sig run ps o g c =
      let args : List (Reading ℕ) = readings_in ps in
      let few = if nat_lt (length args) (length sig.params) && (not run && none_of (reading_if o)) then partial t sig args else reading t (Never ∷ []) in
      by_if Four (run && same_kind sig.kind Comb) (reading t (Never ∷ [])) (if length args == length sig.params then called t sig args (reading_if o) else few) (never t)
      (by_if Four (length args == length sig.params) (called t sig args (reading_if o)) few (called_forced t sig ps o g c) (few_forced (nat_lt (length args) (length sig.params)) (not run) t sig ps o g c))

  -- the claims of a call

  def_split : (g run again : Bool) (d : Earlier) (cs : List Claims) (s : Stand) → Used (def_claims g run again d cs s) → Used (at_marks d.marks 0 cs)
  def_split true run again d cs s h = claim_first (not (C.is_loose s || passable d (length cs))) stray (at_marks d.marks 0 cs) refl h
  def_split false run again d cs s h =
      claim_first (run || (again || d.node)) timed (at_marks d.marks 0 cs) refl
      (claim_first (d.answers && not (C.for_answer s)) answered (claim_if (run || (again || d.node)) timed ++ at_marks d.marks 0 cs) refl
      (proper_first s (claim_if (d.answers && not (C.for_answer s)) answered ++ (claim_if (run || (again || d.node)) timed ++ at_marks d.marks 0 cs)) h))

  -- the call of an earlier definition
  pub def_forced : (t : ℕ) (d : Earlier) (sig : Sig) (run again : Bool) (ps : List Part) (o : Option Part) (s : Stand) → d.marks ≡ sig.marks → FunctionTypes sig.marks sig.params
      → Used (C.call_claims (C.def d) run again (claims_in ps) s ++ if_any (claims_if o)) → Four (call_of t (Some sig) run (readings_in ps) (reading_if o))
  def_forced t d sig run again ps o s same g h = call_forced t sig run ps o g (either
      (λ a. inl (subst (λ ms. Used (at_marks ms 0 (claims_in ps))) same (def_split (given_some run again d (length (claims_in ps)) s) run again d (claims_in ps) s a)))
      (λ a. inr a)
      (split (C.call_claims (C.def d) run again (claims_in ps) s) (if_any (claims_if o)) h))

  loose_split : (position : Stand) (run again : Bool) (cs : List Claims) (s : Stand) → Used (loose_claims position run again cs s) → Used (all_at position cs)
  loose_split position run again cs s h = claim_first (run || again) timed (all_at position cs) refl (proper_first s (claim_if (run || again) timed ++ all_at position cs) h)

  -- a parameter that is applied to it
  pub application_forced : (t : ℕ) (v : Option ℕ) (run again : Bool) (ps : List Part) (o : Option Part) (s : Stand)
      → Used (C.call_claims C.param run again (claims_in ps) s ++ if_any (claims_if o)) → Four (application t v run (readings_in ps) (reading_if o))
  application_forced t None run again ps o s h = never t
  application_forced t (Some v) run again ps o s h =
      let ds = Function v (kind_of run) (types_of (readings_in ps)) t ∷ Fits ((t, any) ∷ []) ∷ applied (readings_in ps) in
      four t (ds ++ restarts (reading_if o)) (either
      (λ a. forces_left ds (restarts (reading_if o)) (λ m e. applied_forced ps (loose_split loose run again (claims_in ps) s a) m.1.1 e))
      (λ a. forces_right ds (restarts (reading_if o)) (restarts_forced o a))
      (split (C.call_claims C.param run again (claims_in ps) s) (if_any (claims_if o)) h))

  -- the parameter is applied
  pub head_forced : (t : ℕ) (run : Bool) (rs : List (Reading ℕ)) (o : Option (Reading ℕ)) → Four (application t (Some u) run rs o)
  head_forced t run rs o =
      four t (Function u (kind_of run) (types_of rs) t ∷ Fits ((t, any) ∷ []) ∷ applied rs ++ restarts o)
      (λ m e. let n = arrow_data (kind_of run) (map f (types_of rs)) (f t) in differ (is_data (f u)) (ap is_data m.0 ∙ n) e)
