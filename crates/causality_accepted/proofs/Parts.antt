-- What holds of all clocks noted in an expression holds of those of its layers and of their direct parts.
use Rattle.std.specs.Prelude.{Bool, List, [], ◌∷◌, ◌++◌, map, Some, None}
use Rattle.std.proofs.Common.{sym, subst}
use Rattle.ls_ast.specs.declared.tree.Case.{Case}
use Rattle.ls_ast.specs.declared.tree.Expr.{Expr, Expr-F, fold_out-Expr}
use Rattle.ls_ast.specs.declared.tree.Form.TheOpen.{Form-F}
use Rattle.ls_terms.specs.declared.clocks.ClockTerm.{ClockTerm}
use Rattle.ls_sig.specs.declared.binder.Note.{Note}
use Rattle.ls_places.specs.Clocks.{choice_parts, clocks_expr, clocks_form, clocks_in, form_parts}
use Rattle.ls_places.specs.Patterns.{joined}
use Rattle.digraph.specs.Graph.{In, first as here}
use Rattle.tree_notes.specs.Each.{Each}
use Rattle.tree_notes.proofs.Related
use Rattle.tree_notes.proofs.Refold.{in_choices}
use Rattle.tree_notes.proofs.Related.{related}
use Rattle.clock_rules.specs.Layers
use Rattle.clock_rules.specs.Layers.{Layer, Laid, Inside, expr_layers, form_layers, laid, laid_layers, layers, note_of}
use Rattle.clock_rules.proofs.Sides.{all_left, all_right, all_both}

-- the clock of an expression is noted in it
pub clock_here : (e : Expr Note) → In e.note.ck (clocks_in e)
clock_here e = subst (λ z. In e.note.ck z) (sym (fold_out-Expr Note (List ClockTerm) (List ClockTerm) clocks_form clocks_expr e)) (here _)

module _ (function : Note → Bool) (P : ClockTerm → Type 0) where
  abbrev NoteGood : Note → Type 0
  NoteGood n = P n.ck

  pub record LayerGood (l : Layer Note) : Type 0 where
    pub own : P l.note.ck
    pub parts : Each NoteGood (form_parts l.form)

  abbrev Cs : Type 0
  Cs = List ClockTerm

  abbrev In' : Type 0
  In' = Inside Note function

  abbrev Lay : Type 0
  Lay = Laid Note function

  record InsideGood (i : In') : Type 0 where
    pub all : Each LayerGood i.all
    pub parts : Each NoteGood (form_parts i.form)

  record LaidGood (l : Lay) : Type 0 where
    pub all : Each LayerGood l.all
    pub own : P l.note.ck

  abbrev R : Cs → In' → Type 0
  R cs i = Each P cs → InsideGood i

  abbrev R' : Cs → Lay → Type 0
  R' cs l = Each P cs → LaidGood l

  abbrev T : Type 0
  T = (a : Cs) × (b : In') × R a b

  abbrev T' : Type 0
  T' = (a : Cs) × (b : Lay) × R' a b

  abbrev cs_of : List T' → List Cs
  cs_of = map {A = T'} {B = Cs} (λ q. q.0)

  abbrev lays_of : List T' → List Lay
  lays_of = map {A = T'} {B = Lay} (λ q. q.1)

  abbrev fs : Form-F Note In' Lay → In'
  fs = form_layers Note function

  abbrev es : Expr-F Note In' Lay → Lay
  es = expr_layers Note function

  record Many (ls : List Lay) : Type 0 where
    pub all : Each LayerGood (laid_layers Note function ls)
    pub parts : Each NoteGood (map (note_of Note function) ls)

  many : (qs : List T') → Each P (joined (cs_of qs)) → Many (lays_of qs)
  many [] h = record { all = tt; parts = tt }
  many (q ∷ qs) h =
      let x = q.2 (all_left P q.0 (joined (cs_of qs)) h) in
      let y = many qs (all_right P q.0 (joined (cs_of qs)) h) in
      record { all = all_both LayerGood q.1.all (laid_layers Note function (lays_of qs)) x.all y.all; parts = (x.own, y.parts) }

  one : (q : T') → Each P (q.0 ++ []) → Many (q.1 ∷ [])
  one q h = many (q ∷ []) h

  two : (q r : T') → Each P (q.0 ++ (r.0 ++ [])) → Many (q.1 ∷ r.1 ∷ [])
  two q r h = many (q ∷ r ∷ []) h

  branches : (cs : List (Case × T')) → Each P (joined (choice_parts (in_choices {X = T'} {Y = Cs} (λ q. q.0) cs))) → Many (choice_parts (in_choices {X = T'} {Y = Lay} (λ q. q.1) cs))
  branches [] h = record { all = tt; parts = tt }
  branches (c ∷ cs) h =
      let rest = joined (choice_parts (in_choices {X = T'} {Y = Cs} (λ q. q.0) cs)) in
      let x = c.1.2 (all_left P c.1.0 rest h) in
      let y = branches cs (all_right P c.1.0 rest h) in
      record { all = all_both LayerGood c.1.1.all (laid_layers Note function (choice_parts (in_choices {X = T'} {Y = Lay} (λ q. q.1) cs))) x.all y.all; parts = (x.own, y.parts) }

  branch_notes : (cs : List (Case × Lay)) → Each NoteGood (map (note_of Note function) (choice_parts cs)) → Each NoteGood (choice_parts (Layers.map_choices (note_of Note function) cs))
  branch_notes [] h = tt
  branch_notes (c ∷ cs) h = (h.0, branch_notes cs h.1)

  args : (qs os : List T') → Each P (joined (cs_of qs ++ cs_of os)) → Many (lays_of qs ++ lays_of os)
  args [] os h = many os h
  args (q ∷ qs) os h =
      let x = q.2 (all_left P q.0 (joined (cs_of qs ++ cs_of os)) h) in
      let y = args qs os (all_right P q.0 (joined (cs_of qs ++ cs_of os)) h) in
      record { all = all_both LayerGood q.1.all (laid_layers Note function (lays_of qs ++ lays_of os)) x.all y.all; parts = (x.own, y.parts) }

  notes_on : (xs ys : List Lay) → Each NoteGood (map (note_of Note function) (xs ++ ys)) → Each NoteGood (map (note_of Note function) xs ++ map (note_of Note function) ys)
  notes_on [] ys h = h
  notes_on (x ∷ xs) ys h = (h.0, notes_on xs ys h.1)

  layer : (y : Form-F Note T T') → R (clocks_form (Related.lefts clocks_form clocks_expr fs es R R' y)) (fs (Related.rights clocks_form clocks_expr fs es R R' y))
  layer (Form-F.Leaf l) h = record { all = tt; parts = tt }
  layer (Form-F.Case x) h = record { all = tt; parts = tt }
  layer (Form-F.Var x) h = record { all = tt; parts = tt }
  layer (Form-F.Last x) h = record { all = tt; parts = tt }
  layer (Form-F.Asked x) h = record { all = tt; parts = tt }
  layer (Form-F.Op o qs) h = let x = many qs h in record { all = x.all; parts = x.parts }
  layer (Form-F.Tuple qs) h = let x = many qs h in record { all = x.all; parts = x.parts }
  layer (Form-F.Pre q) h = let x = one q h in record { all = x.all; parts = x.parts }
  layer (Form-F.Fby q r) h = let x = two q r h in record { all = x.all; parts = x.parts }
  layer (Form-F.Init q r) h = let x = two q r h in record { all = x.all; parts = x.parts }
  layer (Form-F.When q x k) h = let x = one q h in record { all = x.all; parts = x.parts }
  layer (Form-F.Merge x cs) h =
      let x = branches cs h in record { all = x.all; parts = branch_notes (in_choices {X = T'} {Y = Lay} (λ q. q.1) cs) x.parts }
  layer (Form-F.Call run x qs None) h =
      let x = args qs [] h in record { all = x.all; parts = notes_on (lays_of qs) [] x.parts }
  layer (Form-F.Call run x qs (Some q)) h =
      let x = args qs (q ∷ []) h in record { all = x.all; parts = notes_on (lays_of qs) (q.1 ∷ []) x.parts }

  pub layers_good : (e : Expr Note) → Each P (clocks_in e) → Each LayerGood (layers Note function e)
  layers_good e h = (related clocks_form clocks_expr fs es R R' layer (λ n q h. let x = q.2 h.1 in record { all = (record { own = h.0; parts = x.parts }, x.all); own = h.0 }) e h).all

  -- ---- and of all clocks noted in it where it holds of those of its layers

  abbrev Own : Layer Note → Type 0
  Own l = P l.note.ck

  abbrev B : Cs → In' → Type 0
  B cs i = Each Own i.all → Each P cs

  abbrev B' : Cs → Lay → Type 0
  B' cs l = Each Own l.all → Each P cs

  abbrev K : Type 0
  K = (a : Cs) × (b : In') × B a b

  abbrev K' : Type 0
  K' = (a : Cs) × (b : Lay) × B' a b

  abbrev clocks_of : List K' → List Cs
  clocks_of = map {A = K'} {B = Cs} (λ q. q.0)

  abbrev laid_of : List K' → List Lay
  laid_of = map {A = K'} {B = Lay} (λ q. q.1)

  back : (qs : List K') → Each Own (laid_layers Note function (laid_of qs)) → Each P (joined (clocks_of qs))
  back [] h = tt
  back (q ∷ qs) h = all_both P q.0 (joined (clocks_of qs)) (q.2 (all_left Own q.1.all (laid_layers Note function (laid_of qs)) h)) (back qs (all_right Own q.1.all (laid_layers Note function (laid_of qs)) h))

  back_branches : (cs : List (Case × K')) → Each Own (laid_layers Note function (choice_parts (in_choices {X = K'} {Y = Lay} (λ q. q.1) cs))) → Each P (joined (choice_parts (in_choices {X = K'} {Y = Cs} (λ q. q.0) cs)))
  back_branches [] h = tt
  back_branches (c ∷ cs) h =
      let rest = laid_layers Note function (choice_parts (in_choices {X = K'} {Y = Lay} (λ q. q.1) cs)) in
      all_both P c.1.0 (joined (choice_parts (in_choices {X = K'} {Y = Cs} (λ q. q.0) cs))) (c.1.2 (all_left Own c.1.1.all rest h)) (back_branches cs (all_right Own c.1.1.all rest h))

  back_args : (qs os : List K') → Each Own (laid_layers Note function (laid_of qs ++ laid_of os)) → Each P (joined (clocks_of qs ++ clocks_of os))
  back_args [] os h = back os h
  back_args (q ∷ qs) os h =
      let rest = laid_layers Note function (laid_of qs ++ laid_of os) in
      all_both P q.0 (joined (clocks_of qs ++ clocks_of os)) (q.2 (all_left Own q.1.all rest h)) (back_args qs os (all_right Own q.1.all rest h))

  back_layer : (y : Form-F Note K K') → B (clocks_form (Related.lefts clocks_form clocks_expr fs es B B' y)) (fs (Related.rights clocks_form clocks_expr fs es B B' y))
  back_layer (Form-F.Leaf l) h = tt
  back_layer (Form-F.Case x) h = tt
  back_layer (Form-F.Var x) h = tt
  back_layer (Form-F.Last x) h = tt
  back_layer (Form-F.Asked x) h = tt
  back_layer (Form-F.Op o qs) h = back qs h
  back_layer (Form-F.Tuple qs) h = back qs h
  back_layer (Form-F.Pre q) h = back (q ∷ []) h
  back_layer (Form-F.Fby q r) h = back (q ∷ r ∷ []) h
  back_layer (Form-F.Init q r) h = back (q ∷ r ∷ []) h
  back_layer (Form-F.When q x k) h = back (q ∷ []) h
  back_layer (Form-F.Merge x cs) h = back_branches cs h
  back_layer (Form-F.Call run x qs None) h = back_args qs [] h
  back_layer (Form-F.Call run x qs (Some q)) h = back_args qs (q ∷ []) h

  pub clocks_all : (e : Expr Note) → Each Own (layers Note function e) → Each P (clocks_in e)
  clocks_all e h = related clocks_form clocks_expr fs es B B' back_layer (λ n q h. (h.0, q.2 h.1)) e h
