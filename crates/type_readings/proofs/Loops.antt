-- One more turn of the loops over expressions.
use Rattle.std.specs.Prelude.{◌≡◌, refl, ℕ, zero, suc, ◌+◌, ◌<◌, Bool, true, false, List, [], ◌∷◌, ◌++◌, length, Option, Some, if◌then◌else◌}
use Rattle.std.proofs.Common.{ap, sym, ◌∙◌, arith, drop, get_or}
use Rattle.ls_ast.specs.declared.tree.Case.{Case}
use Rattle.ls_ast.specs.declared.tree.Expr.{Expr}
use Rattle.ls_ast.specs.declared.tree.Mark.{Mark}
use Rattle.ls_base.proofs.Built.{rest}
use Rattle.ls_terms.specs.declared.types.TypeTerm.{TypeTerm}
use Rattle.ls_terms.specs.declared.types.TypeTerm.TheVariants as t
use Rattle.type_readings.specs.declared.given.Given.{Given}
use Rattle.type_readings.specs.declared.stand.Stand.{Stand}
use Rattle.type_readings.specs.declared.stand.Stand.TheVariants as stand
use Rattle.type_readings.specs.Given as scene
use Rattle.type_readings.specs.Readings as spec
use Rattle.type_readings.specs.Readings.{asked}
use Rattle.type_readings.proofs.Forms.{ty_is}
use Rattle.type_readings.proofs.Turns.{more_part}
use Rattle.type_rules.specs.declared.demand.Demand.{Demand}
use Rattle.type_rules.specs.declared.demand.Demand.TheVariants.{Fits}
use Rattle.type_rules.specs.Expressions as ex
use Rattle.type_rules.specs.Expressions.{Reading}
use Rattle.type_rules.specs.Numbers.{Placed, place_of}

next_one : (i : ℕ) → suc i ≡ i + 1
next_one i = omega arith

by_mark : (c : Bool) (r : Reading ℕ) → (if c then r.bare else r.stream) ≡ asked (if c then stand.Bare else stand.Stream) r
by_mark true r = refl
by_mark false r = refl

by_function : (c : Bool) (r : Reading ℕ) → (if c then r.bare else r.stream) ≡ asked (spec.stand_in c) r
by_function true r = refl
by_function false r = refl

given_at : (ms : List Mark) (i : ℕ) (r : Reading ℕ) (rs : List (Reading ℕ)) → ex.given (drop i ms) (r ∷ rs) ≡ asked (spec.stand_at ms i) r ++ ex.given (drop (suc i) ms) rs
given_at [] zero r rs = refl
given_at [] (suc i) r rs = refl
given_at (m ∷ ms) zero r rs = ap (λ z. z ++ ex.given ms rs) (by_mark (ex.is_bare m) r)
given_at (m ∷ ms) (suc i) r rs = given_at ms i r rs

module _ {C : Type 0} (case_type : C → ℕ → Option TypeTerm) (g : Given C) where
  abbrev said : Expr Placed → Reading ℕ
  said = scene.said case_type g

  abbrev readings : List (Expr Placed) → List (Reading ℕ)
  readings = spec.readings case_type g

  abbrev choices : List (Case × Expr Placed) → List (Case × Reading ℕ)
  choices = spec.choices case_type g

  -- one more stream
  pub stream_turn : (all : List (Expr Placed)) (i : ℕ) (e : Expr Placed) (out out' whole : List (Demand ℕ)) → i < length all → get_or all i e ≡ e → out' ≡ out ++ (said e).stream
      → out ++ ex.streams (readings (drop i all)) ≡ whole → out' ++ ex.streams (readings (drop (i + 1) all)) ≡ whole
  stream_turn all i e out out' whole below is now before =
      more_part out out' (said e).stream (ex.streams (readings (drop i all))) (ex.streams (readings (drop (i + 1) all))) whole now (ap (λ l. ex.streams (readings l)) (rest all i e below is)) before

  -- one more argument of a definition
  pub given_turn : (ms : List Mark) (all : List (Expr Placed)) (i : ℕ) (e : Expr Placed) (w : Stand) (out out' whole : List (Demand ℕ)) → i < length all → get_or all i e ≡ e → w ≡ spec.stand_at ms i
      → out' ≡ out ++ asked w (said e)
      → out ++ ex.given (drop i ms) (readings (drop i all)) ≡ whole → out' ++ ex.given (drop (i + 1) ms) (readings (drop (i + 1) all)) ≡ whole
  given_turn ms all i e w out out' whole below is at now before =
      more_part out out' (asked w (said e)) (ex.given (drop i ms) (readings (drop i all))) (ex.given (drop (i + 1) ms) (readings (drop (i + 1) all))) whole now
      (ap (λ l. ex.given (drop i ms) (readings l)) (rest all i e below is)
      ∙ given_at ms i (said e) (readings (drop (i + 1) all))
      ∙ ap (λ k. asked (spec.stand_at ms i) (said e) ++ ex.given (drop k ms) (readings (drop (i + 1) all))) (next_one i)
      ∙ ap (λ z. asked z (said e) ++ ex.given (drop (i + 1) ms) (readings (drop (i + 1) all))) (sym at))
      before

  -- one more argument of a parameter
  pub applied_turn : (all : List (Expr Placed)) (i : ℕ) (e : Expr Placed) (w : Stand) (out out' whole : List (Demand ℕ)) → i < length all → get_or all i e ≡ e → w ≡ spec.stand_in (said e).is_function
      → out' ≡ out ++ asked w (said e)
      → out ++ ex.applied (readings (drop i all)) ≡ whole → out' ++ ex.applied (readings (drop (i + 1) all)) ≡ whole
  applied_turn all i e w out out' whole below is at now before =
      more_part out out' (asked w (said e)) (ex.applied (readings (drop i all))) (ex.applied (readings (drop (i + 1) all))) whole now
      (ap (λ l. ex.applied (readings l)) (rest all i e below is)
      ∙ ap (λ z. z ++ ex.applied (readings (drop (i + 1) all))) (by_function (said e).is_function (said e))
      ∙ ap (λ z. asked z (said e) ++ ex.applied (readings (drop (i + 1) all))) (sym at))
      before

  -- one more branch
  pub branch_turn : (u : Option ℕ) (all : List (Case × Expr Placed)) (i : ℕ) (k : Case × Expr Placed) (ty : Option TypeTerm) (out out' out'' whole : List (Demand ℕ)) → i < length all → get_or all i k ≡ k
      → ty ≡ scene.type_of_case case_type g k.0 → out' ≡ out ++ ex.condition u ty [] ∷ [] → out'' ≡ out' ++ (said k.1).stream
      → out ++ spec.branches case_type g u (choices (drop i all)) ≡ whole → out'' ++ spec.branches case_type g u (choices (drop (i + 1) all)) ≡ whole
  branch_turn u all i k ty out out' out'' whole below is of one two before =
      more_part out' out'' (said k.1).stream ((said k.1).stream ++ spec.branches case_type g u (choices (drop (i + 1) all))) (spec.branches case_type g u (choices (drop (i + 1) all))) whole two refl
      (more_part out out' (ex.condition u ty [] ∷ []) (spec.branches case_type g u (choices (drop i all))) ((said k.1).stream ++ spec.branches case_type g u (choices (drop (i + 1) all))) whole one
      (ap (λ l. spec.branches case_type g u (choices l)) (rest all i k below is)
      ∙ ap (λ z. ex.condition u z [] ∷ (said k.1).stream ++ spec.branches case_type g u (choices (drop (i + 1) all))) (sym of))
      before)

  -- what restarts an expression
  pub restarts_told : (every : Option (Expr Placed)) (e : Expr Placed) → every ≡ Some e → ex.restarts (spec.maybe case_type g every) ≡ (Fits ((place_of e.note, t.Bool) ∷ []) ∷ []) ++ (said e).stream
  restarts_told every e is = ap (λ z. ex.restarts (spec.maybe case_type g z)) is ∙ ap (λ k. Fits ((k, t.Bool) ∷ []) ∷ (said e).stream) (ty_is case_type g e)
