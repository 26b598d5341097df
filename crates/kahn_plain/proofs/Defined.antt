-- The definitions of a file, one after the other, and their clock names.
use Rattle.std.specs.Prelude.{◌≡◌, refl, ℕ, zero, suc, ◌+◌, ◌<◌, length, List, [], ◌∷◌, ◌++◌, Option, Some, None, Result, Ok, Err, OnOk}
use Rattle.std.proofs.Common.{ap, sym, ◌∙◌, subst, drop, get_or}
use Rattle.kahn_cells.proofs.Binds.{one_on}
use Rattle.ls_ast.specs.declared.tree.DefOf.{DefOf}
use Rattle.ls_ast.specs.declared.tree.DefOf.TheVariants as item
use Rattle.ls_sig.specs.declared.binder.Note.{Note}
use Rattle.ls_places.specs.Definitions.{definitions}
use Rattle.ls_places.specs.declared.definition.Definition.{Definition}
use Rattle.kahn_plain.specs.Turns.{AllNumbered, AreNumbered, EachNumbered}

pub each_more : (defs : List Definition) (d : Definition) → EachNumbered defs → AreNumbered d → EachNumbered (defs ++ d ∷ [])
each_more [] d q p = (p, tt)
each_more (e ∷ defs) d q p = (q.0, each_more defs d q.1 p)

abbrev one_of : Definition → Option Definition → Definition
one_of d None = d
one_of d (Some x) = x

the_same : (x d : Definition) → Some x ≡ Some d → x ≡ d
the_same x d e = ap (one_of x) e

pub each_all : (defs : List Definition) → EachNumbered defs → AllNumbered defs
each_all [] q k d e = absurd (cc)
each_all (x ∷ defs) q zero d e = subst AreNumbered (the_same x d e) q.0
each_all (x ∷ defs) q (suc k) d e = each_all defs q.1 k d e

pub one_by_one : (cases : ℕ → Option ℕ) (first : DefOf Note) (more : List (DefOf Note)) → definitions cases (first ∷ more) ≡ definitions cases (first ∷ []) ++ definitions cases more
one_by_one cases (item.Cases line name all) more = refl
one_by_one cases (item.Let line node name params marks notes body) more = refl

grouped : {A : Type 0} (xs ys zs : List A) → (xs ++ ys) ++ zs ≡ xs ++ (ys ++ zs)
grouped [] ys zs = refl
grouped (x ∷ xs) ys zs = ap (λ z. x ∷ z) (grouped xs ys zs)

pub all_added : {E : Type 0} (cases : ℕ → Option ℕ) (r : Result (Unit {0}) E) (old mid new : List Definition) (first : DefOf Note) (more rest : List (DefOf Note)) → rest ≡ first ∷ more
    → mid ≡ old ++ definitions cases (first ∷ []) → OnOk r (new ≡ mid ++ definitions cases more) → OnOk r (new ≡ old ++ definitions cases rest)
all_added cases (Ok u) old mid new first more rest is added then =
    then ∙ ap (λ z. z ++ definitions cases more) added ∙ grouped old (definitions cases (first ∷ [])) (definitions cases more)
    ∙ ap (λ z. old ++ z) (sym (one_by_one cases first more)) ∙ ap (λ z. old ++ definitions cases z) (sym is)
all_added cases (Err x) old mid new first more rest is added then = then

pub one_pushed : {E : Type 0} (r : Result (Unit {0}) E) (old new : List Definition) (d : Definition) → EachNumbered old → AreNumbered d → OnOk r (new ≡ old ++ d ∷ []) → OnOk r (EachNumbered new)
one_pushed (Ok u) old new d q p e = subst EachNumbered (sym e) (each_more old d q p)
one_pushed (Err x) old new d q p e = e

pub definitions_next : (cases : ℕ → Option ℕ) (all : List (DefOf Note)) (i : ℕ) (x : DefOf Note) (old new whole : List Definition) → i < length all → get_or all i x ≡ x
    → new ≡ old ++ definitions cases (x ∷ []) → old ++ definitions cases (drop i all) ≡ whole → new ++ definitions cases (drop (i + 1) all) ≡ whole
definitions_next cases all i x old new whole below is more so_far =
    ap (λ z. z ++ definitions cases (drop (i + 1) all)) more ∙ grouped old (definitions cases (x ∷ [])) (definitions cases (drop (i + 1) all))
    ∙ ap (λ z. old ++ z) (sym (one_by_one cases x (drop (i + 1) all))) ∙ sym (ap (λ z. old ++ definitions cases z) (one_on all i x below is)) ∙ so_far
