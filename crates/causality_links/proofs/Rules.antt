-- What is read by the rules is told with what is read besides.
use Rattle.std.specs.Prelude.{◌≡◌, refl, List, [], ◌∷◌, ◌++◌, map, Some, None}
use Rattle.std.proofs.Common.{ap, ap₂}
use Rattle.ls_ast.specs.declared.tree.Case.{Case}
use Rattle.ls_ast.specs.declared.tree.Form.TheOpen.{Form-F}
use Rattle.ls_sig.specs.declared.binder.Note.{Note}
use Rattle.ls_places.specs.declared.definition.Key.{Key}
use Rattle.ls_places.specs.declared.definition.Definition.{Definition}
use Rattle.ls_places.specs.Clocks.{choice_parts}
use Rattle.ls_places.specs.Search.{E}
use Rattle.tree_notes.proofs.Related
use Rattle.tree_notes.proofs.Refold.{in_choices}
use Rattle.tree_notes.proofs.Related.{related}
use Rattle.causality_rules.specs.Reads as rules
use Rattle.causality_rules.specs.Reads.{Read, all_read, every_read, place_rows, reset_rows, restart_rows, bound_rows, start_rows}
use Rattle.causality_links.specs.Close as close
use Rattle.causality_links.specs.Close.{Sub, Wide, Two, all_wide, every_wide, of_wide, both_read}

-- ---- the rules' rows are the same with what is read besides

module _ (d : Definition) where
  abbrev SameRows : Wide → Read → Type 0
  SameRows w r = (w.note ≡ r.note) × (w.rows ≡ r.rows)

  abbrev SameForm : (Note → Two) → (Note → List Key) → Type 0
  SameForm f g = (n : Note) → (f n).rows ≡ g n

  abbrev TwoF : Type 0
  TwoF = (f : Note → Two) × (g : Note → List Key) × SameForm f g

  abbrev TwoS : Type 0
  TwoS = (w : Wide) × (r : Read) × SameRows w r

  abbrev ws : List TwoS → List Wide
  ws = map {A = TwoS} {B = Wide} (λ p. p.0)

  abbrev rs : List TwoS → List Read
  rs = map {A = TwoS} {B = Read} (λ p. p.1)

  all_same : (ps : List TwoS) → (all_wide (ws ps)).rows ≡ all_read (rs ps)
  all_same [] = refl
  all_same (p ∷ ps) = ap₂ (λ (x : List Key) y. x ++ y) p.2.1 (all_same ps)

  choices_same : (cs : List (Case × TwoS)) → (all_wide (choice_parts (in_choices {X = TwoS} {Y = Wide} (λ p. p.0) cs))).rows
      ≡ all_read (choice_parts (in_choices {X = TwoS} {Y = Read} (λ p. p.1) cs))
  choices_same [] = refl
  choices_same (c ∷ cs) = ap₂ (λ (x : List Key) y. x ++ y) c.1.2.1 (choices_same cs)

  rows_layer : (y : Form-F Note TwoF TwoS) → SameForm (close.form_wide d (Related.lefts (close.form_wide d) (close.expr_wide d) (rules.form_rows d) (rules.expr_rows d) SameForm SameRows y))
      (rules.form_rows d (Related.rights (close.form_wide d) (close.expr_wide d) (rules.form_rows d) (rules.expr_rows d) SameForm SameRows y))
  rows_layer (Form-F.Leaf l) n = refl
  rows_layer (Form-F.Case x) n = refl
  rows_layer (Form-F.Var x) n = refl
  rows_layer (Form-F.Last x) n = refl
  rows_layer (Form-F.Asked x) n = refl
  rows_layer (Form-F.Op o ps) n = all_same ps
  rows_layer (Form-F.Tuple ps) n = all_same ps
  rows_layer (Form-F.Pre p) n = refl
  rows_layer (Form-F.Fby x y) n = ap (λ u. restart_rows n.restarts ++ u) x.2.1
  rows_layer (Form-F.Init x y) n = ap₂ (λ (u : List Key) v. restart_rows n.restarts ++ (u ++ v)) x.2.1 y.2.1
  rows_layer (Form-F.When p x k) n = ap (λ u. bound_rows n.bound ++ u) p.2.1
  rows_layer (Form-F.Merge x cs) n = ap (λ u. bound_rows n.bound ++ u) (choices_same cs)
  rows_layer (Form-F.Call run x ps None) n = ap (λ u. bound_rows n.bound ++ (u ++ [])) (all_same ps)
  rows_layer (Form-F.Call run x ps (Some q)) n = ap₂ (λ (u : List Key) v. bound_rows n.bound ++ (u ++ v)) (all_same ps) q.2.1

  pub same_rows : (e : E) → (close.wide d e).rows ≡ rules.read_by d e
  same_rows e = (related (close.form_wide d) (close.expr_wide d) (rules.form_rows d) (rules.expr_rows d) SameForm SameRows rows_layer
      (λ n p. (refl, ap (λ u. rules.clock_rows d n.ck ++ u) (p.2 n))) e).1
