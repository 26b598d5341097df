-- The judgement on the types of a file, definition by definition, after an environment.
use Rattle.std.specs.Prelude.{◌≡◌, ℕ, zero, suc, ◌+◌, ◌≤◌, ◌==◌, Bool, true, false, List, [], ◌∷◌, ◌++◌, map, length, Option, Some, None, option_map, if◌then◌else◌}
use Rattle.ls_base.specs.declared.Line.{Line}
use Rattle.ls_base.specs.declared.Name.{Name}
use Rattle.ls_ast.specs.declared.tree.DefOf.{DefOf}
use Rattle.ls_ast.specs.declared.tree.DefOf.TheVariants as d
use Rattle.ls_terms.specs.declared.clocks.ClockTerm.TheVariants as clock
use Rattle.ls_terms.specs.declared.types.Kind.{Kind}
use Rattle.ls_terms.specs.declared.types.Kind.TheVariants.{Comb, Seq}
use Rattle.ls_terms.specs.declared.types.TypeTerm.{TypeTerm}
use Rattle.ls_terms.specs.declared.types.TypeTerm.TheVariants as t
use Rattle.ls_terms.specs.Types.{apply, size}
use Rattle.ls_sig.specs.declared.binder.TypeNote.{TypeNote}
use Rattle.ls_sig.specs.declared.binder.Use.{Use}
use Rattle.ls_sig.specs.declared.sigs.Sig.{Sig}
use Rattle.type_rules.specs.Schemes.{joined, vars}
use Rattle.type_rules.specs.Bodies.{index_of}
use Rattle.type_rules.specs.Definitions.{Definition, param_names, variables, Obeys}
use Rattle.type_rules.specs.Principal.{annotated, IsPrincipal}
use Rattle.type_rules.specs.Numbers.{Placed, numbered}

-- ---- signatures

abbrev pub without : ℕ → List ℕ → List ℕ
without x [] = []
without x (y ∷ ys) = if y == x then without x ys else y ∷ without x ys

abbrev pub contains : ℕ → List ℕ → Bool
contains x [] = false
contains x (y ∷ ys) = if y == x then true else contains x ys

-- each once, at its first place, after those seen
abbrev pub firsts_after : List ℕ → List ℕ → List ℕ
firsts_after seen [] = []
firsts_after seen (x ∷ xs) = if contains x seen then firsts_after seen xs else x ∷ firsts_after (x ∷ seen) xs

-- the variables of some types in order of first appearance
abbrev pub appearing : List TypeTerm → List ℕ
appearing ts = firsts_after [] (joined (map vars ts))

-- variables are numbered from a number on by first appearance
abbrev pub renumbered : ℕ → List ℕ → TypeTerm → TypeTerm
renumbered from order = apply (λ x. option_map (λ k. t.Var (from + k)) (index_of x order 0))

abbrev pub kind_of : Bool → Kind
kind_of true = Seq
kind_of false = Comb

abbrev pub note_types : List TypeNote → List TypeTerm
note_types [] = []
note_types (n ∷ ns) = n.ty ∷ note_types ns

-- the signature that an annotated definition has, its variables numbered from 0 by first appearance, parameters first
abbrev pub signature : Bool → Name → Definition TypeNote → Sig
signature node name d =
    let types = note_types d.notes in
    let result = d.body.result.note.ty in
    let order = appearing (types ++ result ∷ []) in
    record {
      name = name;
      kind = kind_of node;
      marks = d.marks;
      params = map (renumbered 0 order) types;
      result = renumbered 0 order result;
      clocks = [];
      result_clock = clock.Var 0;
      clock_names = [];
    }

-- an instance whose variables are numbered from a number on
abbrev pub instance_of : Sig → ℕ → Sig
instance_of sig from = record sig { params = map (renumbered from order) sig.params; result = renumbered from order sig.result }
  where
    order : List ℕ
    order = appearing (sig.params ++ sig.result ∷ [])

-- ---- definitions one after the other

-- a `let` of a file
pub record LetOf (N : Type 0) : Type 0 where
  pub line : Line
  pub node : Bool
  pub name : Name
  pub def : Definition N

module _ (case_type : ℕ → Option TypeTerm) where
  abbrev pub names_count : List Sig → Definition Use → ℕ
  names_count sigs d = length (param_names d.params) + length (variables sigs case_type d)

  -- the definition with a number for each place
  abbrev pub placed : List Sig → Definition Use → Definition Placed
  placed sigs d = numbered d (names_count sigs d)

  -- the definition annotated by a type for each place
  abbrev pub annotation : List Sig → Definition Use → (ℕ → TypeTerm) → Definition TypeNote
  annotation sigs d f = annotated sigs case_type (variables sigs case_type d) (placed sigs d) f

  abbrev pub ObeysIn : List Sig → Definition Use → (ℕ → TypeTerm) → Type 0
  ObeysIn sigs d f = Obeys sigs case_type (variables sigs case_type d) f (annotation sigs d f)

  abbrev pub Small : ℕ → (ℕ → TypeTerm) → Type 0
  Small limit f = (k : ℕ) → size (f k) ≤ limit

  -- typed within the limit, and principal
  abbrev pub Typed : ℕ → List Sig → Definition Use → (ℕ → TypeTerm) → Type 0
  Typed limit sigs d f = Small limit f × IsPrincipal sigs case_type (variables sigs case_type d) (placed sigs d) f

  -- after earlier signatures the definitions have these annotations, and these are their signatures
  abbrev pub Judged : ℕ → List Sig → List (LetOf Use) → List (LetOf TypeNote) → List Sig → Type 0
  Judged limit sigs [] [] [] = Unit {0}
  Judged limit sigs (d ∷ ds) (a ∷ as') (s ∷ ss) =
      ((f : ℕ → TypeTerm) × Typed limit sigs d.def f × (a ≡ record { line = d.line; node = d.node; name = d.name; def = annotation sigs d.def f }))
      × (s ≡ signature a.node a.name a.def)
      × Judged limit (sigs ++ s ∷ []) ds as' ss
  Judged limit sigs _ _ _ = ⊥

  -- the definition at this line is the first that no annotation within the limit obeys
  abbrev pub Illtyped : ℕ → List Sig → List (LetOf Use) → Line → Type 0
  Illtyped limit sigs ds line =
      (before : List (LetOf Use)) × (d : LetOf Use) × (after : List (LetOf Use)) × (as' : List (LetOf TypeNote)) × (ss : List Sig)
      × (ds ≡ before ++ d ∷ after) × Judged limit sigs before as' ss × (d.line ≡ line)
      × ((f : ℕ → TypeTerm) → ObeysIn (sigs ++ ss) d.def f → Small limit f → ⊥)

-- ---- the definitions of a file

abbrev pub lets : {N : Type 0} → List (DefOf N) → List (LetOf N)
lets [] = []
lets (d.Cases line name cases ∷ ds) = lets ds
lets (d.Let line node name params marks notes body ∷ ds) =
    record { line = line; node = node; name = name; def = record { params = params; marks = marks; notes = notes; body = body } } ∷ lets ds

-- the definitions with annotated ones in place of the `let`s
abbrev pub in_place : List (DefOf Use) → List (LetOf TypeNote) → List (DefOf TypeNote)
in_place [] as' = []
in_place (d.Cases line name cases ∷ ds) as' = d.Cases line name cases ∷ in_place ds as'
in_place (d.Let line node name params marks notes body ∷ ds) [] = []
in_place (d.Let line node name params marks notes body ∷ ds) (a ∷ as') = d.Let a.line a.node a.name a.def.params a.def.marks a.def.notes a.def.body ∷ in_place ds as'

abbrev pub has_name : ℕ → List Name → Bool
has_name x [] = false
has_name x (n ∷ ns) = if n.0 == x then true else has_name x ns

-- the enumeration of a constructor, by the number of its name, where those of the file are numbered from a number on
abbrev pub enumeration_of : ℕ → List (DefOf Use) → ℕ → Option ℕ
enumeration_of k [] x = None
enumeration_of k (d.Cases line name cases ∷ ds) x = if has_name x cases then Some k else enumeration_of (suc k) ds x
enumeration_of k (d.Let line node name params marks notes body ∷ ds) x = enumeration_of k ds x

-- the type of a constructor: `false` and `true` are the names 0 and 1
abbrev pub type_of_constructor : (ℕ → Option ℕ) → ℕ → Option TypeTerm
type_of_constructor enumeration zero = Some t.Bool
type_of_constructor enumeration (suc zero) = Some t.Bool
type_of_constructor enumeration x = option_map t.Enum (enumeration x)
