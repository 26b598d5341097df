-- The cells of a result can be written where the constructors in its value can.
use Rattle.std.specs.Prelude.{◌≡◌, refl, List, [], ◌∷◌, ◌++◌, map, length, Option, None, Some, All}
use Rattle.std.proofs.Common.{ap, sym, ◌∙◌, subst}
use Rattle.std.proofs.lemmas.List.Elements.{All-map, All-replicate, All-from_recursion, recursion_from_All}
use Rattle.std.specs.List.{AllByRecursion}
use Rattle.ls_value.specs.declared.leaf.Leaf.{Leaf}
use Rattle.ls_value.specs.declared.leaf.Leaf.TheVariants.{Nil}
use Rattle.line_io.specs.declared.form.Cell.{Cell}
use Rattle.line_io.specs.declared.form.Cell.TheVariants.{Absent, NotEmitted, Leaf as Given}
use Rattle.line_io.specs.declared.form.InputForm.{InputForm}
use Rattle.line_io.specs.Rows.{IsWritable}
use Rattle.ls_places.specs.Patterns.{joined}
use Rattle.ls_terms.specs.declared.types.TypeTerm.{TypeTerm, roll-TypeTerm, fold-roll-TypeTerm, ind-TypeTerm, map-TypeTerm}
use Rattle.ls_terms.specs.declared.types.TypeTerm.TheOpen.{TypeTerm-F}
use Rattle.kahn_model.specs.declared.cell.Value.{Value, out-Value, fold_out-Value, map-Value}
use Rattle.kahn_model.specs.declared.cell.Value.TheOpen.{Value-F}
use Rattle.kahn_model.specs.declared.cell.Value.TheVariants as v
use Rattle.kahn_model.specs.declared.cell.Cell.{Cell as Argument}
use Rattle.kahn_model.specs.declared.cell.Cell.TheVariants as cell
use Rattle.kahn_model.specs.Values as values
use Rattle.node_lines.specs.Leaves.{leaves}
use Rattle.node_lines.specs.Results.{value_step, value_leaves, part_leaves, each, result_cells}
use Rattle.node_lines.specs.Laws.{IsSpelled, ResultsWritable}

module _ (form : InputForm) where
  abbrev Good : Leaf → Type 0
  Good leaf = IsWritable form (Given leaf)

  abbrev Every : List Leaf → Type 0
  Every = AllByRecursion Good

  left : (xs ys : List Leaf) → Every (xs ++ ys) → Every xs
  left [] ys a = tt
  left (x ∷ xs) ys a = (a.0, left xs ys a.1)

  right : (xs ys : List Leaf) → Every (xs ++ ys) → Every ys
  right [] ys a = a
  right (x ∷ xs) ys a = right xs ys a.1

  both : (xs ys : List Leaf) → Every xs → Every ys → Every (xs ++ ys)
  both [] ys a b = b
  both (x ∷ xs) ys a b = (a.0, both xs ys a.1 b)

  -- ---- the leaves of a value, and those of its parts

  abbrev EachPart : List Value → Type 0
  EachPart = AllByRecursion (λ (w : Value). Every (values.leaves w))

  split : (ws : List Value) → Every (joined (map values.leaves ws)) → EachPart ws
  split [] a = tt
  split (w ∷ ws) a = (left (values.leaves w) _ a, split ws (right (values.leaves w) _ a))

  by_layer : (y : Value-F Value) → Every (values.leaves_step (map-Value Value (List Leaf) values.leaves y)) → EachPart (values.parts_open y) × Good (values.leaf_open y)
  by_layer (Value-F.Leaf l) a = (tt, a.0)
  by_layer (Value-F.Tuple ws) a = (split ws a, tt)

  opened : (w : Value) → Every (values.leaves w) → EachPart (values.parts w) × Good (values.the_leaf w)
  opened w a = by_layer (out-Value w) (subst Every (fold_out-Value (List Leaf) values.leaves_step w) a)

  nil_good : Every (values.leaves values.nil)
  nil_good = subst Every (sym (fold_out-Value (List Leaf) values.leaves_step values.nil ∙ ap (λ y. values.leaves_step (map-Value Value (List Leaf) values.leaves y)) (v.outs-Leaf Nil))) (tt, tt)

  -- ---- by the type

  abbrev AllGood : TypeTerm → Type 0
  AllGood t = (w : Value) → Every (values.leaves w) → Every (value_leaves t w)

  abbrev With : Type 0
  With = (t : TypeTerm) × AllGood t

  abbrev tops : TypeTerm-F With → TypeTerm-F TypeTerm
  tops = map-TypeTerm With TypeTerm (λ p. p.0)

  parts_good : (ps : List With) (ws : List Value) → EachPart ws → Every (part_leaves (map value_leaves (map (λ p. p.0) ps)) ws)
  parts_good [] ws a = tt
  parts_good (p ∷ ps) [] a = both (value_leaves p.0 values.nil) _ (p.1 values.nil nil_good) (parts_good ps [] tt)
  parts_good (p ∷ ps) (w ∷ ws) a = both (value_leaves p.0 w) _ (p.1 w a.0) (parts_good ps ws a.1)

  layer_good : (y : TypeTerm-F With) (w : Value) → Every (values.leaves w) → Every (value_step (map-TypeTerm TypeTerm (Value → List Leaf) value_leaves (tops y)) w)
  layer_good (TypeTerm-F.Tuple ps) w a = parts_good ps (values.parts w) (opened w a).0
  layer_good (TypeTerm-F.Signal p) w a = p.1 w a
  layer_good (TypeTerm-F.Var x) w a = tt
  layer_good (TypeTerm-F.Arrow k ps p) w a = tt
  layer_good _ w a = ((opened w a).1, tt)

  good : (t : TypeTerm) → AllGood t
  good = ind-TypeTerm AllGood (λ x y from. subst (λ z. AllGood (roll-TypeTerm z)) from
      (λ w a. subst Every (sym (ap (λ f. f w) (fold-roll-TypeTerm (Value → List Leaf) value_step (tops y)))) (layer_good y w a)))

  each_good : (c : Cell) → IsWritable form c → (t : TypeTerm) → All (IsWritable form) (each c t)
  each_good c g t = All-replicate (IsWritable form) (length (leaves t)) c g

  results_good : (t : TypeTerm) (c : Option Argument) → ((w : Value) → c ≡ Some (cell.Present w) → IsSpelled form w) → All (IsWritable form) (result_cells t c)
  results_good t (Some (cell.Present w)) h =
      All-map (IsWritable form) Given (value_leaves t w) (All-from_recursion Good _ (good t w (recursion_from_All Good _ (h w refl))))
  results_good t (Some cell.Silent) h = each_good NotEmitted tt t
  results_good t (Some cell.Absent) h = each_good Absent tt t
  results_good t (Some (cell.Chosen arm restart)) h = each_good Absent tt t
  results_good t None h = each_good Absent tt t

pub results_writable : ResultsWritable
results_writable = results_good
