-- The pairs of the call of a definition.
use Rattle.std.specs.Prelude.{◌≡◌, refl, ℕ, ◌&&◌, Bool, not, List, [], ◌∷◌, ◌++◌, drop, length, map, Option, Some, None, option_map, unwrap_or, if◌then◌else◌, OnOk}
use Rattle.std.proofs.Common.{ap, sym, ◌∙◌, Result, Ok, Err}
use Rattle.std.proofs.lemmas.List.{length-map}
use Rattle.ls_ast.specs.declared.tree.Expr.{Expr}
use Rattle.ls_terms.specs.declared.clocks.ClockTerm.{ClockTerm}
use Rattle.ls_sig.specs.declared.binder.Note.{Note}
use Rattle.ls_places.specs.Search.{nth}
use Rattle.clock_rules.specs.declared.scheme.ClockScheme.{ClockScheme}
use Rattle.clock_rules.specs.Rules.{Pair, at}
use Rattle.clock_rules.specs.Terms.{arrow, instance, is_comb, is_function}
use Rattle.clock_pairs.specs.Scene as spec
use Rattle.clock_pairs.specs.Scene.{note_of, notes_of}
use Rattle.clock_pairs.specs.Terms as given
use Rattle.clock_pairs.specs.Terms.{name_at}
use Rattle.clock_pairs.specs.declared.scene.Scene.{Scene}
use Rattle.clock_pairs.proofs.Pairing.{all_parts, nth_map}

map_twice : {A B C : Type 0} (f : A → B) (h : B → C) (o : Option A) → option_map (λ x. h (f x)) o ≡ option_map h (option_map f o)
map_twice f h None = refl
map_twice f h (Some x) = refl

-- nothing is met by no argument
pub meet_none : {C : Type 0} (place : C → ℕ → Option ℕ) (s : Scene C) (cks : List ClockTerm) → spec.meet place s cks [] ≡ []
meet_none place s [] = refl
meet_none place s (ck ∷ cks) = refl

module _ {C : Type 0} (place : C → ℕ → Option ℕ) (s : Scene C) (args : List (Expr Note)) where
  names_at : (p : ℕ) → name_at (spec.names_given place s args) p ≡ spec.given_names place s args p
  names_at p = ap (λ o. unwrap_or o 0)
      (nth_map (λ (e : Expr Note). spec.number_or place s e.note.bound) args p
      ∙ map_twice note_of (λ (n : Note). spec.number_or place s n.bound) (nth args p)
      ∙ ap (option_map (λ (n : Note). spec.number_or place s n.bound)) (sym (nth_map note_of args p)))

  names_are : (names : List ℕ) → names ≡ spec.names_given place s args → name_at names ≡ spec.given_names place s args
  names_are names e = ap name_at e ∙ (λ i p. names_at p i)

  module _ (by : List ClockTerm) (n : Note) (holds : Bool) (k : ClockScheme) (names : List ℕ) (params : List ClockTerm) (count : ℕ)
      (named : names ≡ spec.names_given place s args) (put : params ≡ map (instance (name_at names) (at by)) k.clocks) (many : count ≡ length args) where
    abbrev instanced : params ≡ map (instance (spec.given_names place s args) (at by)) k.clocks
    instanced = put ∙ (λ i. map (instance (names_are names named i) (at by)) k.clocks)

    abbrev counted : count ≡ length (notes_of args)
    counted = many ∙ sym (length-map args note_of)

    told : spec.meet place s params args ++ (spec.named_pairs place s args k.names ++ given.result_pairs names by k params n count holds) ≡ spec.definition_pairs place s by n args holds (Some k)
    told = λ i. spec.meet place s (instanced i) args ++ (spec.named_pairs place s args k.names ++ (
        if is_function n.ty
        then (if is_comb n.ty && not holds then [] else (arrow (drop (counted i) (instanced i)) (instance (names_are names named i) (at by) k.result), n.ck) ∷ [])
        else (instance (names_are names named i) (at by) k.result, n.ck) ∷ []))

    -- the three kinds of pairs behind one another
    pub definition_told : {X E : Type 0} (r : Result X E) (l0 l1 l2 l3 : List Pair) → l1 ≡ l0 ++ spec.meet place s params args → l2 ≡ l1 ++ spec.named_pairs place s args k.names
        → OnOk r (l3 ≡ l2 ++ given.result_pairs names by k params n count holds) → OnOk r (l3 ≡ l0 ++ spec.definition_pairs place s by n args holds (Some k))
    definition_told (Ok x) l0 l1 l2 l3 a b c = all_parts l0 l1 l2 l3 _ _ _ a b c ∙ ap (λ z. l0 ++ z) told
    definition_told (Err x) l0 l1 l2 l3 a b c = tt
