-- Laws of the judgement on types.
use Rattle.std.specs.Prelude.{◌≡◌, ℕ, ◌≤◌, ◌++◌, ◌∷◌, [], List, map, length, Option, Some}
use Rattle.ls_terms.specs.declared.types.TypeTerm.{TypeTerm}
use Rattle.ls_terms.specs.Types.{apply, size}
use Rattle.ls_sig.specs.declared.binder.TypeNote.{TypeNote}
use Rattle.ls_sig.specs.declared.binder.Use.{Use}
use Rattle.ls_sig.specs.declared.sigs.Sig.{Sig}
use Rattle.ls_places.specs.declared.places.Variable.{Variable}
use Rattle.type_rules.specs.declared.demand.Demand.{Demand}
use Rattle.type_rules.specs.Annotations.{erase, definition_types, type_at}
use Rattle.type_rules.specs.Definitions.{Definition, with_notes, Obeys, variables}
use Rattle.type_rules.specs.Demands.{Meets, pairs, Unify, solved, AreData}
use Rattle.type_rules.specs.Files.{LetOf, placed, annotation, appearing, renumbered, signature, ObeysIn, Small, Typed, Judged}
use Rattle.type_rules.specs.Numbers.{Placed, numbered}
use Rattle.type_rules.specs.Principal.{typed_by, asks_of, annotated, AreFunctions}
use Rattle.type_rules.specs.Schemes.{put}

-- each unifier of the pairs is an instance of this one
abbrev pub IsGeneral : (ℕ → Option TypeTerm) → List (TypeTerm × TypeTerm) → Type 0
IsGeneral s ps = (by : ℕ → Option TypeTerm) → Unify by ps → (u : TypeTerm) → apply by (apply s u) ≡ apply by u

-- what it lists has at most so many nodes
abbrev pub ListsSmall : ℕ → (ℕ → Option TypeTerm) → Type 0
ListsSmall limit s = (x : ℕ) (u : TypeTerm) → s x ≡ Some u → size u ≤ limit

-- no unifier of the pairs lists so little
abbrev pub NoneSmall : ℕ → List (TypeTerm × TypeTerm) → Type 0
NoneSmall limit ps = (by : ℕ → Option TypeTerm) → Unify by ps → ListsSmall limit by → ⊥

-- ---- a definition whose places are numbered

-- an annotation obeys the rules exactly where its types meet what the definition asks
abbrev pub ObeysWhereMeets : Type 0
ObeysWhereMeets =
    (sigs : List Sig) (case_type : ℕ → Option TypeTerm) (vs : List Variable) (d : Definition Placed) (f : ℕ → TypeTerm)
    → (Obeys sigs case_type vs f (annotated sigs case_type vs d f) → Meets f (asks_of sigs case_type vs d))
    × (Meets f (asks_of sigs case_type vs d) → Obeys sigs case_type vs f (annotated sigs case_type vs d f))

-- a unifier that gives data for the demands' own variables meets them
abbrev pub UnifierMeets : Type 0
UnifierMeets = (ds : List (Demand ℕ)) (s : ℕ → Option TypeTerm) → Unify s (pairs ds) → AreData ds s → Meets (solved ds s) ds

-- ---- a definition of a file, and what its body asks

abbrev pub asks_in : (ℕ → Option TypeTerm) → List Sig → Definition Use → List (Demand ℕ)
asks_in case_type sigs d = asks_of sigs case_type (variables sigs case_type d) (placed case_type sigs d)

abbrev pub AreFunctionsIn : (ℕ → Option TypeTerm) → List Sig → Definition Use → Type 0
AreFunctionsIn case_type sigs d = AreFunctions sigs case_type (variables sigs case_type d) (placed case_type sigs d)

-- in each definition, after those before it, a parameter that is marked as a function is one in each annotation
abbrev pub AreFunctionsAll : (ℕ → Option TypeTerm) → ℕ → List Sig → List (LetOf Use) → Type 0
AreFunctionsAll case_type limit sigs ds =
    (before : List (LetOf Use)) (def : LetOf Use) (after : List (LetOf Use)) (as' : List (LetOf TypeNote)) (ss : List Sig)
    → ds ≡ before ++ def ∷ after → Judged case_type limit sigs before as' ss → AreFunctionsIn case_type (sigs ++ ss) def.def

-- a most general unifier within the limit whose own variables stand for data gives a principal annotation within it
abbrev pub TypedByUnifier : Type 0
TypedByUnifier =
    (case_type : ℕ → Option TypeTerm) (limit : ℕ) (sigs : List Sig) (d : Definition Use) (s : ℕ → Option TypeTerm) → 1 ≤ limit
    → Unify s (pairs (asks_in case_type sigs d)) → IsGeneral s (pairs (asks_in case_type sigs d)) → ListsSmall limit s
    → AreData (asks_in case_type sigs d) s → AreFunctionsIn case_type sigs d
    → Typed case_type limit sigs d (solved (asks_in case_type sigs d) s)

-- where they do not stand for data, no annotation obeys the rules
abbrev pub NoneWithoutData : Type 0
NoneWithoutData =
    (case_type : ℕ → Option TypeTerm) (sigs : List Sig) (d : Definition Use) (s : ℕ → Option TypeTerm)
    → Unify s (pairs (asks_in case_type sigs d)) → IsGeneral s (pairs (asks_in case_type sigs d))
    → (AreData (asks_in case_type sigs d) s → ⊥) → (f : ℕ → TypeTerm) → ObeysIn case_type sigs d f → ⊥

-- where no unifier is within the limit, no annotation within it obeys the rules
abbrev pub NoneWithoutUnifier : Type 0
NoneWithoutUnifier =
    (case_type : ℕ → Option TypeTerm) (limit : ℕ) (sigs : List Sig) (d : Definition Use) → 1 ≤ limit
    → NoneSmall limit (pairs (asks_in case_type sigs d)) → (f : ℕ → TypeTerm) → ObeysIn case_type sigs d f → Small case_type limit f → ⊥

abbrev pub annotated_let : (ℕ → Option TypeTerm) → List Sig → LetOf Use → (ℕ → TypeTerm) → LetOf TypeNote
annotated_let case_type sigs d f = record { line = d.line; node = d.node; name = d.name; def = annotation case_type sigs d.def f }

-- a definition that is typed after those judged is judged with them
abbrev pub JudgedWithMore : Type 0
JudgedWithMore =
    (case_type : ℕ → Option TypeTerm) (limit : ℕ) (sigs : List Sig) (ds : List (LetOf Use)) (as' : List (LetOf TypeNote)) (ss : List Sig) (d : LetOf Use) (f : ℕ → TypeTerm)
    → Judged case_type limit sigs ds as' ss → Typed case_type limit (sigs ++ ss) d.def f
    → Judged case_type limit sigs (ds ++ d ∷ []) (as' ++ annotated_let case_type (sigs ++ ss) d f ∷ []) (ss ++ signature d.node d.name (annotation case_type (sigs ++ ss) d.def f) ∷ [])

-- ---- erasure

-- the erasure of an annotation is the definition
abbrev pub ErasesBack : Type 0
ErasesBack = (f : ℕ → TypeTerm) (d : Definition Use) (n : ℕ) → with_notes erase (with_notes (typed_by f) (numbered d n)) ≡ d

-- each typed definition with a given erasure is an annotation of it: it has a type for each place, those of names before those of notes
abbrev pub EachIsAnnotation : Type 0
EachIsAnnotation =
    (d : Definition Use) (names : List TypeTerm) (a : Definition TypeNote) → with_notes erase a ≡ d
    → with_notes (typed_by (type_at (names ++ definition_types a))) (numbered d (length names)) ≡ a

-- ---- signatures

-- types that are instances of one another are the same once their variables are numbered by first appearance
abbrev pub SameNumbered : Type 0
SameNumbered =
    (σ τ : ℕ → TypeTerm) (us : List TypeTerm) → map (put τ) (map (put σ) us) ≡ us
    → map (renumbered 0 (appearing (map (put σ) us))) (map (put σ) us) ≡ map (renumbered 0 (appearing us)) us
