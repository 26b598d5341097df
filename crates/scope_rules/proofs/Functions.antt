-- A parameter that is marked as a function is used as one.
use Rattle.std.specs.Prelude.{◌≡◌, ℕ, ◌&&◌, ◌||◌, Bool, true, false, List, [], ◌∷◌, Option, Some, None, refl}
use Rattle.std.specs.List.{list_any}
use Rattle.std.proofs.Common.{ap, sym, ◌∙◌}
use Rattle.ls_ast.specs.declared.tree.Mark.{Mark}
use Rattle.ls_ast.specs.declared.tree.Mark.TheVariants as mark
use Rattle.scope_rules.specs.Places.{Stand, whole, right, at, loose, before, asked, applied}
use Rattle.scope_rules.specs.Claims.{Claim, named, constructor, branches, stray, answered, timed, is_function}
use Rattle.scope_rules.specs.declared.claims.Asked.{Asked}
use Rattle.scope_rules.specs.Faults.{any_claim, mark_at, mark_of, mark_in, mark_if, first_in, first_mark, or_later, mark_or_data, means_param}
use Rattle.scope_rules.specs.Laws.{as_function, function_use}

abbrev is_function_given : Option Mark → Bool
is_function_given (Some m) = is_function m
is_function_given None = false

or_right : (a b : Bool) → b ≡ true → a || b ≡ true
or_right true b h = refl
or_right false b h = h

or_left : (a b : Bool) → a ≡ true → a || b ≡ true
or_left true b h = refl
or_left false b h = absurd (cc)

given : (s : Stand) → is_function_given (mark_of s) ≡ true → as_function s ≡ true
given whole h = absurd (cc)
given right h = absurd (cc)
given loose h = absurd (cc)
given before h = absurd (cc)
given asked h = absurd (cc)
given (applied m) h = refl
given (at mark.Unknown) h = absurd (cc)
given (at mark.Data) h = absurd (cc)
given (at mark.Clock) h = absurd (cc)
given (at mark.Signal) h = absurd (cc)
given (at mark.Comb) h = refl
given (at mark.Seq) h = refl

given_if : (b : Bool) (s : Stand) → is_function_given (mark_if b s) ≡ true → b && as_function s ≡ true
given_if true s h = given s h
given_if false s h = absurd (cc)

by_claim : (k : ℕ) (c : Claim) → is_function_given (mark_in k c) ≡ true → function_use k c ≡ true
by_claim k (named b x s) h = given_if (means_param k b) s h
by_claim k (constructor x) h = absurd (cc)
by_claim k (branches cs) h = absurd (cc)
by_claim k stray h = absurd (cc)
by_claim k answered h = absurd (cc)
by_claim k timed h = absurd (cc)

either : (o n : Option Mark) (a b : Bool) → (is_function_given o ≡ true → a ≡ true) → (is_function_given n ≡ true → b ≡ true) → is_function_given (or_later o n) ≡ true → a || b ≡ true
either (Some m) n a b f g h = or_left a b (f h)
either None n a b f g h = or_right a b (g h)

by_claims : (k : ℕ) (cs : List Claim) → is_function_given (first_in k cs) ≡ true → list_any (function_use k) cs ≡ true
by_claims k [] h = absurd (cc)
by_claims k (c ∷ cs) h = either (mark_in k c) (first_in k cs) (function_use k c) (list_any (function_use k) cs) (by_claim k c) (by_claims k cs) h

by_asks : (k : ℕ) (all : List Asked) → is_function_given (first_mark k all) ≡ true → any_claim (λ p. function_use k) all ≡ true
by_asks k [] h = absurd (cc)
by_asks k (a ∷ all) h = either (first_in k a.claims) (first_mark k all) (list_any (function_use k) a.claims) (any_claim (λ p. function_use k) all) (by_claims k a.claims) (by_asks k all) h

marked : (o : Option Mark) → is_function (mark_or_data o) ≡ true → is_function_given o ≡ true
marked (Some m) h = h
marked None h = absurd (cc)

pub functions_used : (k : ℕ) (all : List Asked) → is_function (mark_at all k) ≡ true → any_claim (λ p. function_use k) all ≡ true
functions_used k all h = by_asks k all (marked (first_mark k all) h)
