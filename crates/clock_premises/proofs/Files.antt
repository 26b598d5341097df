-- The definitions of an annotated file, one after the other.
use Rattle.std.specs.Prelude.{◌≡◌, refl, ℕ, suc, Bool, true, false, List, [], ◌∷◌, ◌++◌, map, length, Option, Some, None}
use Rattle.std.proofs.Common.{ap, sym, ◌∙◌, subst, arith}
use Rattle.ls_base.specs.declared.Line.{Line}
use Rattle.ls_base.specs.declared.Name.{Name}
use Rattle.ls_ast.specs.declared.tree.BodyOf.{BodyOf}
use Rattle.ls_ast.specs.declared.tree.DefOf.{DefOf}
use Rattle.ls_ast.specs.declared.tree.DefOf.TheVariants as item
use Rattle.ls_ast.specs.declared.tree.FileOf.{FileOf}
use Rattle.ls_ast.specs.declared.tree.Mark.{Mark}
use Rattle.ls_ast.specs.declared.tree.Pat.{Pat}
use Rattle.ls_ast.specs.declared.tree.Plain.{Plain}
use Rattle.ls_terms.specs.declared.types.TypeTerm.{TypeTerm}
use Rattle.ls_sig.specs.declared.binder.Note.{Note}
use Rattle.ls_sig.specs.declared.binder.TypeNote.{TypeNote}
use Rattle.ls_sig.specs.declared.binder.Use.{Use}
use Rattle.ls_sig.specs.declared.env.Env.{Env}
use Rattle.ls_sig.specs.declared.sigs.Sig.{Sig}
use Rattle.tree_notes.specs.declared.instances.Placer.{Placer}
use Rattle.tree_notes.specs.Noted.{in_body, in_definition}
use Rattle.tree_notes.specs.Numbered.{number_notes}
use Rattle.tree_notes.proofs.Twice.{body_twice}
use Rattle.type_rules.specs.Annotations as An
use Rattle.type_rules.specs.Definitions.{Definition, variables}
use Rattle.type_rules.specs.Files.{LetOf, Judged, Typed, annotation, lets, in_place, names_count, note_types, signature}
use Rattle.type_rules.specs.Numbers.{place_step, place_next, placer}
use Rattle.type_rules.specs.Principal.{typed_by}
use Rattle.type_rules.proofs.Annotations.{erased_back}
use Rattle.scope_rules.specs.After as After
use Rattle.scope_rules.specs.Claims.{Known}
use Rattle.scope_rules.specs.declared.claims.Earlier.{Earlier}
use Rattle.scope_rules.specs.Faults as F
use Rattle.scope_rules.specs.Faults.{Fault}
use Rattle.scope_rules.specs.File.{known_after, first_fault, or_else, with_line}
use Rattle.scope_rules.specs.Resolved.{resolved_defs, resolved_body, no_uses}
use Rattle.clock_rules.specs.declared.scheme.ClockScheme.{ClockScheme}
use Rattle.clock_rules.specs.Files.{clock_marks, scheme}
use Rattle.clock_rules.specs.Fresh.{erase, facts_of}
use Rattle.clock_laws.specs.Scoped.{IsScoped}
use Rattle.clock_premises.specs.Premises.{use_of, SchemesOf, SchemesOfSigs, AllGiven, EachScoped}
use Rattle.clock_premises.proofs.Scope.{scoped}
use Rattle.clock_premises.proofs.GivenBodies.{given_by_types}

abbrev rest_of : {A : Type 0} → List A → List A
rest_of [] = []
rest_of (x ∷ xs) = xs

abbrev first_or : {A : Type 0} → A → List A → A
first_or a [] = a
first_or a (x ∷ xs) = x

no_item : {A : Type 0} (x : A) (xs : List A) → x ∷ xs ≡ [] → ⊥
no_item x xs e = let l = ap length e in omega (arith, l)

length_of : {A B : Type 0} (f : A → B) (xs : List A) → length (map f xs) ≡ length xs
length_of f [] = refl
length_of f (x ∷ xs) = ap suc (length_of f xs)

-- no fault among definitions

none_else : (o g : Option (Fault × ℕ)) → or_else o g ≡ None → (o ≡ None) × (g ≡ None)
none_else (Some f) g e = absurd (cc)
none_else None g e = (refl, e)

no_line : (l : ℕ) (o : Option Fault) → with_line l o ≡ None → o ≡ None
no_line l (Some f) e = absurd (cc)
no_line l None e = refl

-- one more definition

more_schemes : (es : List Earlier) (ss : List ClockScheme) (e : Earlier) (s : ClockScheme) → s.names ≡ clock_marks e.marks 0 → SchemesOf es ss → SchemesOf (es ++ e ∷ []) (ss ++ s ∷ [])
more_schemes [] [] e s n h = (n, tt)
more_schemes (x ∷ es) (y ∷ ss) e s n h = (h.0, more_schemes es ss e s n h.1)
more_schemes [] (y ∷ ss) e s n h = absurd h
more_schemes (x ∷ es) [] e s n h = absurd h

more_sigs : (gs : List Sig) (ss : List ClockScheme) (g : Sig) (s : ClockScheme) → s.names ≡ clock_marks g.marks 0 → length g.marks ≡ length g.params → SchemesOfSigs gs ss → SchemesOfSigs (gs ++ g ∷ []) (ss ++ s ∷ [])
more_sigs [] [] g s n l h = (n, l, tt)
more_sigs (x ∷ gs) (y ∷ ss) g s n l h = (h.0, h.1, more_sigs gs ss g s n l h.2)
more_sigs [] (y ∷ ss) g s n l h = absurd h
more_sigs (x ∷ gs) [] g s n l h = absurd h

env_schemes : (f : ℕ → ℕ) (gs : List Sig) (ss : List ClockScheme) → SchemesOfSigs gs ss → SchemesOf (map (After.earlier_of f) gs) ss
env_schemes f [] [] h = tt
env_schemes f (g ∷ gs) (s ∷ ss) h = (h.0, env_schemes f gs ss h.2)
env_schemes f [] (s ∷ ss) h = absurd h
env_schemes f (g ∷ gs) [] h = absurd h

-- a definition of a tree

abbrev is_let : DefOf TypeNote → Bool
is_let (item.Cases line name all) = false
is_let (item.Let line node name params marks notes body) = true

abbrev def_or : Definition TypeNote → DefOf TypeNote → Definition TypeNote
def_or z (item.Cases line name all) = z
def_or z (item.Let line node name params marks notes body) = record { params = params; marks = marks; notes = notes; body = body }

abbrev tree_def : List Pat → List Mark → List Note → BodyOf Note → Definition TypeNote
tree_def params marks notes body = record { params = params; marks = marks; notes = map erase notes; body = in_body Note TypeNote erase body }

long_uses : (ps : List Pat) → length (no_uses ps) ≡ length ps
long_uses [] = refl
long_uses (p ∷ ps) = ap suc (long_uses ps)

long_marks : (asks : List _) (ps : List Pat) (k : ℕ) → length (F.marks_from asks ps k) ≡ length ps
long_marks asks [] k = refl
long_marks asks (p ∷ ps) k = ap suc (long_marks asks ps _)

long_numbered : (ns : List Use) (k : Placer) → length (number_notes place_step place_next ns k).0 ≡ length ns
long_numbered [] k = refl
long_numbered (n ∷ ns) k = ap suc (long_numbered ns (place_next k n))

long_types : (ns : List TypeNote) → length (note_types ns) ≡ length ns
long_types [] = refl
long_types (n ∷ ns) = ap suc (long_types ns)

-- a definition that was judged for scope, in which something is given at each Clock position
pub record FromScope (cases : ℕ → Option ℕ) (schemes : List ClockScheme) (params : List Pat) (marks : List Mark) (notes : List Note) (body : BodyOf Note) : Type 0 where
  pub judged : F.Judged Plain
  pub params_are : params ≡ judged.params
  pub marks_are : marks ≡ F.marks judged
  pub is : in_body Note Use use_of body ≡ resolved_body judged
  pub sound : F.fault judged ≡ None
  pub heads : SchemesOf judged.known.defs schemes
  pub many : length notes ≡ length judged.params
  pub given : AllGiven schemes (facts_of schemes cases judged.params (F.marks judged) notes body)

abbrev pub EachFromScope : (ℕ → Option ℕ) → List ClockScheme → List (DefOf Note) → Type 0
EachFromScope cases schemes [] = Unit {0}
EachFromScope cases schemes (item.Cases line name all ∷ rest) = EachFromScope cases schemes rest
EachFromScope cases schemes (item.Let line node name params marks notes body ∷ rest) =
    FromScope cases schemes params marks notes body × EachFromScope cases (schemes ++ scheme marks notes body.result.note.ck ∷ []) rest

module _ (case_type : ℕ → Option TypeTerm) (limit : ℕ) (cases : ℕ → Option ℕ) (words : List (List ℕ)) where
  abbrev judge : Known → Bool → Name → List Pat → BodyOf Plain → F.Judged Plain
  judge k node f params body = record { names = words; known = k; title = f.0; node = node; params = params; body = body }

  -- the definition that resolution gives
  abbrev resolved : F.Judged Plain → Definition Use
  resolved d = record { params = d.params; marks = F.marks d; notes = no_uses d.params; body = resolved_body d }

  module _ (d : F.Judged Plain) (sigs : List Sig) (f : ℕ → TypeTerm) where
    abbrev typed : Definition TypeNote
    typed = annotation case_type sigs (resolved d) f

    long_notes : length typed.notes ≡ length d.params
    long_notes =
        let k = placer (names_count case_type sigs (resolved d)) in
        length_of (typed_by f) (number_notes place_step place_next (no_uses d.params) k).0 ∙ long_numbered (no_uses d.params) k ∙ long_uses d.params

    module _ (params : List Pat) (marks : List Mark) (notes : List Note) (body : BodyOf Note) (same : tree_def params marks notes body ≡ typed) where
      many : length notes ≡ length d.params
      many = sym (length_of erase notes) ∙ ap (λ (z : Definition TypeNote). length z.notes) same ∙ long_notes

      is_body : in_body Note Use use_of body ≡ resolved_body d
      is_body =
          sym (body_twice Note TypeNote Use erase An.erase body)
          ∙ ap (λ (z : Definition TypeNote). in_body TypeNote Use An.erase z.body) same
          ∙ ap (λ (z : Definition Use). z.body) (erased_back f (resolved d) (names_count case_type sigs (resolved d)))

      one_resolved : (schemes : List ClockScheme) → F.fault d ≡ None → SchemesOf d.known.defs schemes → SchemesOfSigs sigs schemes → Typed case_type limit sigs (resolved d) f → FromScope cases schemes params marks notes body
      one_resolved schemes sound heads scheme_sigs t = record {
        judged = d;
        params_are = ap (λ (z : Definition TypeNote). z.params) same;
        marks_are = ap (λ (z : Definition TypeNote). z.marks) same;
        is = is_body;
        sound = sound;
        heads = heads;
        many = many;
        given = given_by_types schemes sigs case_type (variables sigs case_type (resolved d)) f typed cases notes body scheme_sigs (ap (λ (z : Definition TypeNote). z.body) same) t.1.obeys;
      }

  -- the signature of a definition
  abbrev Annotated : List Sig → F.Judged Plain → Line → Name → LetOf TypeNote → Type 0
  Annotated sigs d line name a = (f : ℕ → TypeTerm) × Typed case_type limit sigs (resolved d) f × (a ≡ record { line = line; node = d.node; name = name; def = annotation case_type sigs (resolved d) f })

  long_signature : (d : F.Judged Plain) (sigs : List Sig) (line : Line) (name : Name) (a : LetOf TypeNote) (s : Sig) → Annotated sigs d line name a → s ≡ signature a.node a.name a.def → (s.marks ≡ F.marks d) × (length s.marks ≡ length s.params)
  long_signature d sigs line name a s h e =
      let t = annotation case_type sigs (resolved d) h.0 in
      let path : s ≡ signature d.node name t = e ∙ ap (λ (z : LetOf TypeNote). signature z.node z.name z.def) h.2 in
      let marks : s.marks ≡ F.marks d = ap (λ (z : Sig). z.marks) path in
      let params : length s.params ≡ length d.params = ap (λ (z : Sig). length z.params) path ∙ length_of _ (note_types t.notes) ∙ long_types t.notes ∙ long_notes d sigs h.0 in
      (marks, ap length marks ∙ long_marks (F.asks d) d.params 0 ∙ sym params)

  each_resolved : (k : Known) (sigs : List Sig) (schemes : List ClockScheme) (ds : List (DefOf Plain)) → first_fault words k ds ≡ None → SchemesOf k.defs schemes → SchemesOfSigs sigs schemes
      → (as' : List (LetOf TypeNote)) (ss : List Sig) (tree : List (DefOf Note)) → Judged case_type limit sigs (lets (resolved_defs words k ds)) as' ss
      → map (in_definition Note TypeNote erase) tree ≡ in_place (resolved_defs words k ds) as' → EachFromScope cases schemes tree
  each_resolved k sigs schemes [] sound heads scheme_sigs as' ss [] j e = tt
  each_resolved k sigs schemes [] sound heads scheme_sigs as' ss (x ∷ tree) j e = absurd (no_item (in_definition Note TypeNote erase x) (map (in_definition Note TypeNote erase) tree) e)
  each_resolved k sigs schemes (DefOf.Cases line t cs ∷ ds) sound heads scheme_sigs as' ss [] j e =
      absurd (no_item (item.Cases line t cs) (in_place (resolved_defs words (known_after {N = Plain} words k (DefOf.Cases line t cs)) ds) as') (sym e))
  each_resolved k sigs schemes (DefOf.Cases line t cs ∷ ds) sound heads scheme_sigs as' ss (item.Cases l n all ∷ tree) j e =
      each_resolved (known_after {N = Plain} words k (DefOf.Cases line t cs)) sigs schemes ds (none_else _ _ sound).1 heads scheme_sigs as' ss tree j (ap rest_of e)
  each_resolved k sigs schemes (DefOf.Cases line t cs ∷ ds) sound heads scheme_sigs as' ss (item.Let l o n ps ms ns b ∷ tree) j e =
      let c : true ≡ false = ap (λ z. is_let (first_or (item.Cases line t cs) z)) e in absurd (cc)
  each_resolved k sigs schemes (DefOf.Let line node name params ms ns body ∷ ds) sound heads scheme_sigs [] ss tree j e = absurd j
  each_resolved k sigs schemes (DefOf.Let line node name params ms ns body ∷ ds) sound heads scheme_sigs (a ∷ as') [] tree j e = absurd j
  each_resolved k sigs schemes (DefOf.Let line node name params ms ns body ∷ ds) sound heads scheme_sigs (a ∷ as') (s ∷ ss) [] j e =
      absurd (no_item (item.Let a.line a.node a.name a.def.params a.def.marks a.def.notes a.def.body) (in_place (resolved_defs words (known_after {N = Plain} words k (DefOf.Let line node name params ms ns body)) ds) as') (sym e))
  each_resolved k sigs schemes (DefOf.Let line node name params ms ns body ∷ ds) sound heads scheme_sigs (a ∷ as') (s ∷ ss) (item.Cases l n all ∷ tree) j e =
      let c : false ≡ true = ap (λ z. is_let (first_or (item.Cases l n all) z)) e in absurd (cc)
  each_resolved k sigs schemes (DefOf.Let line node name params ms ns body ∷ ds) sound heads scheme_sigs (a ∷ as') (s ∷ ss) (item.Let l o n ps qs us b ∷ tree) j e =
      let d : F.Judged Plain = judge k node name params body in
      let first : tree_def ps qs us b ≡ a.def = ap (λ z. def_or a.def (first_or (item.Cases line n []) z)) e in
      let same : tree_def ps qs us b ≡ typed d sigs j.0.0 = first ∙ ap (λ (z : LetOf TypeNote). z.def) j.0.2 in
      let marks : qs ≡ F.marks d = ap (λ (z : Definition TypeNote). z.marks) same in
      let faults = none_else (with_line line.0 (F.fault d)) (first_fault words (known_after {N = Plain} words k (DefOf.Let line node name params ms ns body)) ds) sound in
      let sig = long_signature d sigs line name a s j.0 j.1 in
      let own = scheme qs us b.result.note.ck in (
        one_resolved d sigs j.0.0 ps qs us b same schemes (no_line line.0 (F.fault d) faults.0) heads scheme_sigs j.0.1,
        each_resolved (known_after {N = Plain} words k (DefOf.Let line node name params ms ns body)) (sigs ++ s ∷ []) (schemes ++ own ∷ []) ds faults.1
            (more_schemes k.defs schemes (F.seen_later d) own (ap (λ z. clock_marks z 0) marks) heads)
            (more_sigs sigs schemes s own (ap (λ z. clock_marks z 0) (marks ∙ sym sig.0)) sig.1 scheme_sigs)
            as' ss tree j.2 (ap rest_of e),
      )

-- each definition of a file is one that was judged for scope
pub files_resolved : (case_type : ℕ → Option TypeTerm) (limit : ℕ) (cases : ℕ → Option ℕ) (env : Env) (file : FileOf Plain) (as' : List (LetOf TypeNote)) (ss : List Sig) (schemes : List ClockScheme) (tree : List (DefOf Note))
    → After.scope_fault env file ≡ None → SchemesOfSigs env.sigs schemes → Judged case_type limit env.sigs (lets (After.resolved env file).defs) as' ss
    → map (in_definition Note TypeNote erase) tree ≡ in_place (After.resolved env file).defs as' → EachFromScope cases schemes tree
files_resolved case_type limit cases env file as' ss schemes tree sound same j e =
    let names = After.names_after env file.names in
    each_resolved case_type limit cases names (After.known_by env file.names) env.sigs schemes file.defs sound (env_schemes (After.renumbered names env.names) env.sigs schemes same) same as' ss tree j e

pub resolved_scoped : (cases : ℕ → Option ℕ) (schemes : List ClockScheme) (params : List Pat) (marks : List Mark) (notes : List Note) (body : BodyOf Note) → FromScope cases schemes params marks notes body
    → IsScoped schemes (facts_of schemes cases params marks notes body)
resolved_scoped cases schemes params marks notes body r = subst (λ (z : Type 0). z) (λ i. IsScoped schemes (facts_of schemes cases (sym r.params_are i) (sym r.marks_are i) notes body))
    (scoped r.judged schemes cases notes body r.is r.sound r.heads r.many r.given)

all_scoped : (cases : ℕ → Option ℕ) (schemes : List ClockScheme) (tree : List (DefOf Note)) → EachFromScope cases schemes tree → EachScoped cases schemes tree
all_scoped cases schemes [] h = tt
all_scoped cases schemes (item.Cases line name all ∷ tree) h = all_scoped cases schemes tree h
all_scoped cases schemes (item.Let line node name params marks notes body ∷ tree) h =
    (resolved_scoped cases schemes params marks notes body h.0, all_scoped cases (schemes ++ scheme marks notes body.result.note.ck ∷ []) tree h.1)

pub files_scoped : (case_type : ℕ → Option TypeTerm) (limit : ℕ) (cases : ℕ → Option ℕ) (env : Env) (file : FileOf Plain) (as' : List (LetOf TypeNote)) (ss : List Sig) (schemes : List ClockScheme) (tree : List (DefOf Note))
    → After.scope_fault env file ≡ None → SchemesOfSigs env.sigs schemes → Judged case_type limit env.sigs (lets (After.resolved env file).defs) as' ss
    → map (in_definition Note TypeNote erase) tree ≡ in_place (After.resolved env file).defs as' → EachScoped cases schemes tree
files_scoped case_type limit cases env file as' ss schemes tree sound same j e =
    all_scoped cases schemes tree (files_resolved case_type limit cases env file as' ss schemes tree sound same j e)
