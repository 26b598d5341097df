-- Every annotation that obeys the rules is an instance of the fresh one, tree and all; so the unified fresh one is principal.
use Rattle.std.specs.Prelude.{◌≡◌, ℕ, List, [], ◌∷◌, ◌++◌, map, length, Option, refl}
use Rattle.std.proofs.Common.{ap, sym, ◌∙◌, subst}
use Rattle.std.proofs.lemmas.List.{length-map}
use Rattle.ls_ast.specs.declared.tree.BodyOf.{BodyOf}
use Rattle.ls_ast.specs.declared.tree.Mark.{Mark}
use Rattle.ls_ast.specs.declared.tree.Pat.{Pat}
use Rattle.ls_terms.specs.declared.clocks.ClockTerm.{ClockTerm}
use Rattle.ls_terms.specs.Clocks.{apply}
use Rattle.ls_sig.specs.Notes.{is_signal}
use Rattle.ls_sig.specs.declared.binder.Note.{Note}
use Rattle.ls_sig.specs.declared.binder.TypeNote.{TypeNote}
use Rattle.clock_rules.specs.declared.scheme.ClockScheme.{ClockScheme}
use Rattle.tree_notes.specs.Order.{joined}
use Rattle.clock_rules.specs.Terms.{IsClock, is_function}
use Rattle.tree_notes.specs.Each.{Each}
use Rattle.tree_notes.specs.Numbered as Nu
use Rattle.tree_notes.specs.Order as Or
use Rattle.tree_notes.specs.Noted as T
use Rattle.clock_rules.specs.Facts.{Facts}
use Rattle.clock_rules.specs.Rules as R
use Rattle.ls_places.specs.Search.{nth}
use Rattle.clock_rules.specs.Rules.{Clocks, at}
use Rattle.clock_rules.specs.Instances.{Subst, in_note, in_facts}
use Rattle.clock_rules.specs.Constraints.{Node, Annotation, in_annotation, NodesFit, AnnotationObeys, Admissible}
use Rattle.clock_rules.specs.Judged.{Unrestarted}
use Rattle.clock_rules.specs.Fresh.{step, next, some_vars, given_vars, erase, facts_of, fresh_notes, fresh_body, fresh}
use Rattle.clock_rules.proofs.Sides.{all_both}
use Rattle.tree_notes.proofs.Numbering.{body_good, notes_good}
use Rattle.tree_notes.specs.Agreement.{Agree, advance}
use Rattle.clock_rules.proofs.FactsNatural.{facts_in}
use Rattle.clock_rules.proofs.Noting.{notes_of_nodes}
use Rattle.clock_rules.proofs.Reading.{IsNote, note_leaves, Here, after, here_left, here_right, here_nth, nth_all, all_by, notes_read, notes_small, list_read, given_read}

module _ (sigs : List ClockScheme) (cases : ℕ → Option ℕ) (params : List Pat) (marks : List Mark) (ns : List Note) (b : BodyOf Note) (cs : Clocks) (gs : List (List ClockTerm)) where
  abbrev d : Facts Note
  d = facts_of sigs cases params marks ns b

  abbrev whole : Annotation
  whole = record { facts = d; clocks = cs; given = gs }

  abbrev ts : List TypeNote
  ts = map erase ns

  abbrev tb : BodyOf TypeNote
  tb = T.in_body Note TypeNote erase b

  abbrev start : Annotation
  start = fresh sigs cases params marks ts tb

  -- what is read off the annotation, in the order of the fresh variables
  abbrev a1 : List ClockTerm
  a1 = note_leaves ns

  abbrev a2 : List ClockTerm
  a2 = note_leaves (Or.notes_body Note b)

  abbrev r5 : List ClockTerm
  r5 = joined gs

  abbrev r4 : List ClockTerm
  r4 = cs.blocks ++ r5

  abbrev r3 : List ClockTerm
  r3 = cs.vars ++ r4

  abbrev r2 : List ClockTerm
  r2 = a2 ++ r3

  abbrev values : List ClockTerm
  values = a1 ++ r2

  abbrev pub by : Subst
  by = nth values

  all_joined : (ls : List (List ClockTerm)) (ms : List Node) → NodesFit sigs cases ls ms → Each IsClock (joined ls)
  all_joined [] ms f = tt
  all_joined (g ∷ gs') [] f = absurd f
  all_joined (g ∷ gs') (n ∷ ms) f = all_both IsClock g (joined gs') f.0.clocks (all_joined gs' ms f.1)

  nodes_are : (ls : List (List ClockTerm)) (ms : List Node) → NodesFit sigs cases ls ms → Each (λ (n : Node). IsNote n.0.note) ms
  nodes_are [] [] f = tt
  nodes_are [] (n ∷ ms) f = absurd f
  nodes_are (g ∷ gs') [] f = tt
  nodes_are (g ∷ gs') (n ∷ ms) f = (f.0.clock, nodes_are gs' ms f.1)

  module _ (bare1 : Each Unrestarted ns) (bare2 : Each Unrestarted (Or.notes_body Note b)) (obeys : AnnotationObeys sigs cases whole) where
    -- each note of the body is that of an expression which the rules see
    written : Each IsNote (Or.notes_body Note b)
    written = notes_of_nodes Note (λ n. is_function n.ty) IsNote (length params) cases (λ e. is_signal e.note.ty) b (nodes_are gs d.nodes obeys.fits)

    params_are : (xs : List Note) → Each (R.ParamObeys sigs cases d cs) xs → Each IsNote xs
    params_are [] h = tt
    params_are (x ∷ xs) h = (h.0.clock, params_are xs h.1)

    noted : Each IsNote ns
    noted = params_are ns obeys.conditions.params

    var_clocks : Each IsClock cs.vars
    var_clocks = all_by IsClock d.vars cs.vars obeys.conditions.many_vars (λ x v e. (obeys.conditions.vars x v e).clock)

    block_clocks : Each IsClock cs.blocks
    block_clocks = all_by IsClock d.names cs.blocks obeys.conditions.many_blocks (λ j n e. (obeys.conditions.blocks j n e).clock)

    pub admissible : Admissible by
    admissible k t e = nth_all IsClock values
        (all_both IsClock a1 r2 (notes_small by ns noted) (all_both IsClock a2 r3 (notes_small by (Or.notes_body Note b) written)
        (all_both IsClock cs.vars r4 var_clocks (all_both IsClock cs.blocks r5 block_clocks (all_joined gs d.nodes obeys.fits))))) k t e

    h1 : Here by 0 values
    h1 = here_nth values

    -- the notes of parameters
    k1 : ℕ
    k1 = (fresh_notes sigs cases params marks ts tb).1

    read1 : Agree ℕ Note TypeNote Note erase step next (in_note by) 0 ns × (advance ℕ Note TypeNote Note erase step next (in_note by) 0 ns ≡ after by 0 a1)
    read1 = notes_read by ns noted bare1 0 (here_left by 0 a1 r2 h1)

    good1 : (map (in_note by) (Nu.number_notes step next ts 0).0 ≡ ns) × ((Nu.number_notes step next ts 0).1 ≡ advance ℕ Note TypeNote Note erase step next (in_note by) 0 ns)
    good1 = notes_good ℕ Note TypeNote Note erase step next (in_note by) ns 0 read1.0

    abbrev c1 : ℕ
    c1 = (Nu.number_notes step next ts 0).1

    at1 : c1 ≡ after by 0 a1
    at1 = good1.1 ∙ read1.1

    h2 : Here by c1 r2
    h2 = subst (λ j. Here by j r2) (sym at1) (here_right by 0 a1 r2 h1)

    -- the body
    read2 : Agree ℕ Note TypeNote Note erase step next (in_note by) c1 (Or.notes_body Note b) × (advance ℕ Note TypeNote Note erase step next (in_note by) c1 (Or.notes_body Note b) ≡ after by c1 a2)
    read2 = notes_read by (Or.notes_body Note b) written bare2 c1 (here_left by c1 a2 r3 h2)

    good2 : (T.in_body Note Note (in_note by) (Nu.number_body step next tb c1).0 ≡ b) × ((Nu.number_body step next tb c1).1 ≡ advance ℕ Note TypeNote Note erase step next (in_note by) c1 (Or.notes_body Note b))
    good2 = body_good ℕ Note TypeNote Note erase step next (in_note by) b c1 read2.0

    abbrev c2 : ℕ
    c2 = (Nu.number_body step next tb c1).1

    at2 : c2 ≡ after by c1 a2
    at2 = good2.1 ∙ read2.1

    h3 : Here by c2 r3
    h3 = subst (λ j. Here by j r3) (sym at2) (here_right by c1 a2 r3 h2)

    -- the trees are the annotation's
    pub notes_back : map (in_note by) (fresh_notes sigs cases params marks ts tb).0 ≡ ns
    notes_back = good1.0

    pub body_back : T.in_body Note Note (in_note by) (fresh_body sigs cases params marks ts tb).0 ≡ b
    body_back = good2.0

    -- and so are the facts
    facts_back : in_facts by start.facts ≡ d
    facts_back =
        sym (facts_in Note Note (in_note by) (λ n. is_function n.ty) (λ n. is_function n.ty) (λ n. refl) cases (λ n. is_signal n.ty) (λ n. is_signal n.ty) (λ n. refl) params marks
        (fresh_notes sigs cases params marks ts tb).0 (fresh_body sigs cases params marks ts tb).0)
        ∙ (λ i. facts_of sigs cases params marks (notes_back i) (body_back i))

    -- the clocks of variables and of blocks
    good3 : (map (apply by) (some_vars (length start.facts.vars) c2).0 ≡ cs.vars) × ((some_vars (length start.facts.vars) c2).1 ≡ after by c2 cs.vars)
    good3 = list_read by (length start.facts.vars) cs.vars (obeys.conditions.many_vars ∙ ap (λ (z : Facts Note). length z.vars) (sym facts_back)) c2 (here_left by c2 cs.vars r4 h3)

    abbrev c3 : ℕ
    c3 = (some_vars (length start.facts.vars) c2).1

    h4 : Here by c3 r4
    h4 = subst (λ j. Here by j r4) (sym good3.1) (here_right by c2 cs.vars r4 h3)

    good4 : (map (apply by) (some_vars (length start.facts.names) c3).0 ≡ cs.blocks) × ((some_vars (length start.facts.names) c3).1 ≡ after by c3 cs.blocks)
    good4 = list_read by (length start.facts.names) cs.blocks
        (obeys.conditions.many_blocks ∙ ap (λ (z : Facts Note). length z.names) (sym facts_back)) c3 (here_left by c3 cs.blocks r5 h4)

    abbrev c4 : ℕ
    c4 = (some_vars (length start.facts.names) c3).1

    -- and those that calls take
    good5 : map (map (apply by)) (given_vars sigs start.facts.nodes c4).0 ≡ gs
    good5 = given_read by sigs cases gs d.nodes obeys.fits start.facts.nodes (ap (λ (z : Facts Note). z.nodes) facts_back) c4
        (subst (λ j. Here by j r5) (sym good4.1) (here_right by c3 cs.blocks r5 h4))

    pub every : in_annotation by start ≡ whole
    every = λ i. record { facts = facts_back i; clocks = record { vars = good3.0 i; blocks = good4.0 i }; given = good5 i }
