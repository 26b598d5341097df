-- One turn of a loop that reads a row of phrases, or of one that reads operators.
use Rattle.std.proofs.Common.{◌≡◌, ℕ, suc, ◌+◌, ◌-◌, ◌<◌, Bool, true, List, [], ◌∷◌, ◌++◌, Option, Some, max, refl, sym, ◌∙◌, ap, arith, if◌then◌else◌, unwrap_or}
use Rattle.std.specs.Option.{option_map}
use Rattle.ls_ast.specs.declared.tree.Equation.{Equation}
use Rattle.ls_ast.specs.declared.tree.Guard.{Guard}
use Rattle.ls_ast.specs.declared.tree.Handler.{Handler}
use Rattle.ls_ast.specs.declared.tree.Pat.{Pat}
use Rattle.ls_ast.specs.declared.tree.Plain.{Plain}
use Rattle.ls_lexer.specs.declared.token.Token.{Token}
use Rattle.ls_parser.specs.declared.level.Level.{Level}
use Rattle.ls_parser.specs.declared.level.Infix.{Infix}
use Rattle.ls_parser.specs.Levels.{level_of}
use Rattle.ls_parser.specs.Making.{Tree, with_strong, with_weak}
use Rattle.ls_parser.specs.Equations.{begins_guard, transition, gather}
use Rattle.ls_parser.specs.Expressions.{climb, infix_at, goes_on, suffix}
use Rattle.ls_parser.specs.Reading.{Reader, collect, ◌>>=◌}

-- what is left of a number of turns
left_turns : (limit turn : ℕ) → turn < limit → limit - turn ≡ suc (limit - (turn + 1))
left_turns limit turn h = omega arith

if_true : {B : Type 0} (b : Bool) (x y : B) → b ≡ true → (if b then x else y) ≡ x
if_true b x y e = rw e refl

module _ {A : Type 0} (test : List Token → Bool) (r : Reader A) where
  pub collect_turn : (limit turn : ℕ) (done new : List A) (h k top : ℕ) (ts m : List Token) (x : A) (all : Option (List A × ℕ × List Token))
      → turn < limit → test ts ≡ true → r ts ≡ Some (x, k, m) → new ≡ done ++ x ∷ [] → top ≡ max h k
      → collect (limit - turn) test r done h ts ≡ all → collect (limit - (turn + 1)) test r new top m ≡ all
  collect_turn limit turn done new h k top ts m x all below begun read pushed highest before =
      (λ i. collect (limit - (turn + 1)) test r (pushed i) (highest i) m)
      ∙ sym (ap (λ n. collect n test r done h ts) (left_turns limit turn below)
      ∙ if_true (test ts) _ _ begun
      ∙ ap (λ o. o >>= λ x. collect (limit - (turn + 1)) test r (done ++ x.0 ∷ []) (max h x.1) x.2) read)
      ∙ before

module _ (n : ℕ) (R : Level → Reader Tree) where
  pub climb_turn : (limit turn : ℕ) (least from next : Level) (o : Infix) (e d : Tree) (h k : ℕ) (ts m l : List Token) (all : Option (Tree × ℕ × List Token))
      → turn < limit → infix_at ts ≡ Some (o, m) → goes_on least from o ≡ true → suffix n R o e h m ≡ Some (d, k, l) → next ≡ level_of o
      → climb n R (limit - turn) least from e h ts ≡ all → climb n R (limit - (turn + 1)) least next d k l ≡ all
  climb_turn limit turn least from next o e d h k ts m l all below found goes read same before =
      (λ i. climb n R (limit - (turn + 1)) least (same i) d k l)
      ∙ sym (ap (λ j. climb n R j least from e h ts) (left_turns limit turn below)
      ∙ ap (λ p. unwrap_or (option_map (λ p. if goes_on least from p.0 then (suffix n R p.0 e h p.1 >>= λ x. climb n R (limit - (turn + 1)) least (level_of p.0) x.0 x.1 x.2) else Some (e, h, ts)) p) (Some (e, h, ts))) found
      ∙ if_true (goes_on least from o) _ _ goes
      ∙ ap (λ p. p >>= λ x. climb n R (limit - (turn + 1)) least (level_of o) x.0 x.1 x.2) read)
      ∙ before

module _ (n : ℕ) (E : Reader Tree) (P : Reader Pat) (Q : Bool → Reader (Equation Plain)) (H : Reader (Handler Plain)) where
  pub gather_turn : (limit turn : ℕ) (strong weak s w : List (Guard Plain)) (h k top : ℕ) (ts m : List Token) (g : Bool × Guard Plain)
      (all : Option ((List (Guard Plain) × List (Guard Plain)) × ℕ × List Token))
      → turn < limit → begins_guard ts ≡ true → transition n E P Q H ts ≡ Some (g, k, m) → s ≡ with_strong g strong → w ≡ with_weak g weak → top ≡ max h k
      → gather n E P Q H (limit - turn) strong weak h ts ≡ all → gather n E P Q H (limit - (turn + 1)) s w top m ≡ all
  gather_turn limit turn strong weak s w h k top ts m g all below begun read is_s is_w highest before =
      (λ i. gather n E P Q H (limit - (turn + 1)) (is_s i) (is_w i) (highest i) m)
      ∙ sym (ap (λ j. gather n E P Q H j strong weak h ts) (left_turns limit turn below)
      ∙ if_true (begins_guard ts) _ _ begun
      ∙ ap (λ o. o >>= λ x. gather n E P Q H (limit - (turn + 1)) (with_strong x.0 strong) (with_weak x.0 weak) (max h x.1) x.2) read)
      ∙ before
