-- Each annotated definition is its erasure, numbered, with the types of its notes.
use Rattle.std.specs.Prelude.{◌≡◌, refl, ℕ, ◌+◌, List, [], ◌∷◌, ◌++◌, map, length}
use Rattle.std.proofs.Common.{ap, sym, ◌∙◌, subst, arith}
use Rattle.ls_ast.specs.declared.tree.BodyOf.{BodyOf}
use Rattle.ls_terms.specs.declared.types.TypeTerm.{TypeTerm}
use Rattle.ls_sig.specs.declared.binder.TypeNote.{TypeNote}
use Rattle.ls_sig.specs.declared.binder.Use.{Use}
use Rattle.tree_notes.specs.declared.instances.Placer.{Placer}
use Rattle.tree_notes.specs.Agreement as Ag
use Rattle.tree_notes.specs.Noted.{in_body}
use Rattle.tree_notes.specs.Numbered.{number_notes, number_body}
use Rattle.tree_notes.specs.Order.{notes_body}
use Rattle.tree_notes.proofs.Numbering as Nb
use Rattle.tree_notes.proofs.Same.{body_same}
use Rattle.tree_notes.proofs.Twice.{body_twice}
use Rattle.type_rules.specs.Annotations.{erase, notes_types, definition_types, type_at}
use Rattle.type_rules.specs.Definitions.{Definition, with_notes}
use Rattle.type_rules.specs.Numbers.{Placed, place_step, place_next, placer, numbered}
use Rattle.type_rules.specs.Principal.{typed_by}

-- from a number on these are the types of the places
abbrev Reads : (ℕ → TypeTerm) → ℕ → List TypeTerm → Type 0
Reads f n [] = Unit {0}
Reads f n (x ∷ xs) = (f n ≡ x) × Reads f (n + 1) xs

module _ (f : ℕ → TypeTerm) where
  abbrev Agree : Placer → List TypeNote → Type 0
  Agree = Ag.Agree Placer TypeNote Use Placed erase place_step place_next (typed_by f)

  agrees : (ns : List TypeNote) (k : Placer) → Reads f k.next (notes_types ns) → Agree k ns
  agrees [] k r = tt
  agrees (n ∷ ns) k r = ((λ i. record { bound = n.bound; ty = r.0 i }), agrees ns (place_next k (erase n)) r.1)

  -- a definition is its erasure, numbered, with the types that its notes have
  definition_back : (a : Definition TypeNote) (n : ℕ) → Reads f n (definition_types a) → with_notes (typed_by f) (numbered (with_notes erase a) n) ≡ a
  definition_back a n r =
      let h : Agree (placer n) (a.notes ++ notes_body TypeNote a.body) = agrees (a.notes ++ notes_body TypeNote a.body) (placer n) r in
      let l = Nb.agree_left Placer TypeNote Use Placed erase place_step place_next (typed_by f) (placer n) a.notes (notes_body TypeNote a.body) h in
      let g = Nb.agree_right Placer TypeNote Use Placed erase place_step place_next (typed_by f) (placer n) a.notes (notes_body TypeNote a.body) h in
      let first = Nb.notes_good Placer TypeNote Use Placed erase place_step place_next (typed_by f) a.notes (placer n) l in
      let rest = Nb.body_good Placer TypeNote Use Placed erase place_step place_next (typed_by f) a.body (number_notes place_step place_next (map erase a.notes) (placer n)).1
      (subst (λ k. Agree k (notes_body TypeNote a.body)) (sym first.1) g) in
      λ i. record { params = a.params; marks = a.marks; notes = first.0 i; body = rest.0 i }

  erased_notes : (ns : List Use) (k : Placer) → map erase (map (typed_by f) (number_notes place_step place_next ns k).0) ≡ ns
  erased_notes [] k = refl
  erased_notes (n ∷ ns) k = ap (λ z. n ∷ z) (erased_notes ns (place_next k n))

  always : (ns : List Use) (k : Placer) → Ag.Agree Placer Use Use Placed (λ n. n) place_step place_next (λ p. p.0) k ns
  always [] k = tt
  always (n ∷ ns) k = (refl, always ns (place_next k n))

  erased_body : (b : BodyOf Use) (k : Placer) → in_body TypeNote Use erase (in_body Placed TypeNote (typed_by f) (number_body place_step place_next b k).0) ≡ b
  erased_body b k =
      body_twice Placed TypeNote Use (typed_by f) erase (number_body place_step place_next b k).0
      ∙ ap (λ z. in_body Placed Use (λ p. p.0) (number_body place_step place_next z k).0) (sym (body_same Use b))
      ∙ (Nb.body_good Placer Use Use Placed (λ n. n) place_step place_next (λ p. p.0) b k (always (notes_body Use b) k)).0

  -- the erasure of an annotation is the definition
  pub erased_back : (d : Definition Use) (n : ℕ) → with_notes erase (with_notes (typed_by f) (numbered d n)) ≡ d
  erased_back d n = λ i. record {
    params = d.params;
    marks = d.marks;
    notes = erased_notes d.notes (placer n) i;
    body = erased_body d.body (number_notes place_step place_next d.notes (placer n)).1 i;
  }

-- ---- the types of names and of notes, one after the other, are an annotation

type_after : (us : List TypeTerm) (x : TypeTerm) (ws : List TypeTerm) → type_at (us ++ x ∷ ws) (length us) ≡ x
type_after [] x ws = refl
type_after (v ∷ us) x ws = type_after us x ws

one_more : (us : List TypeTerm) (x : TypeTerm) (ws : List TypeTerm) → (us ++ x ∷ []) ++ ws ≡ us ++ x ∷ ws
one_more [] x ws = refl
one_more (v ∷ us) x ws = ap (λ zs. v ∷ zs) (one_more us x ws)

length_more : (us : List TypeTerm) (x : TypeTerm) → length (us ++ x ∷ []) ≡ length us + 1
length_more [] x = refl
length_more (v ∷ us) x = let h = length_more us x in omega (arith, h)

reads_all : (us ws : List TypeTerm) → Reads (type_at (us ++ ws)) (length us) ws
reads_all us [] = tt
reads_all us (x ∷ ws) = (
  type_after us x ws,
  subst (λ n. Reads (type_at (us ++ x ∷ ws)) n ws) (length_more us x) (subst (λ zs. Reads (type_at zs) (length (us ++ x ∷ [])) ws) (one_more us x ws) (reads_all (us ++ x ∷ []) ws)),
)

-- each annotated definition with a given erasure is that definition with a type for each place
pub is_annotation : (d : Definition Use) (names : List TypeTerm) (a : Definition TypeNote) → with_notes erase a ≡ d
    → with_notes (typed_by (type_at (names ++ definition_types a))) (numbered d (length names)) ≡ a
is_annotation d names a e =
    ap (λ z. with_notes (typed_by (type_at (names ++ definition_types a))) (numbered z (length names))) (sym e)
    ∙ definition_back (type_at (names ++ definition_types a)) a (length names) (reads_all names (definition_types a))
