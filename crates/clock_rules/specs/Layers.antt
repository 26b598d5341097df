-- The expressions in an expression, each with the notes of its direct parts.
use Rattle.std.specs.Prelude.{if◌then◌else◌, ◌&&◌, ◌||◌, Bool, true, false, List, [], ◌∷◌, ◌++◌, map, option_map}
use Rattle.ls_ast.specs.declared.tree.Case.{Case}
use Rattle.ls_ast.specs.declared.tree.Expr.{Expr, Expr-F, fold-Expr}
use Rattle.ls_ast.specs.declared.tree.Form.TheOpen.{Form-F}
use Rattle.ls_places.specs.Clocks.{form_parts}

-- `holds`: whether this is a function that is given a stream, or a function that holds one
pub record Layer (N : Type 0) : Type 0 where
  pub note : N
  pub form : Form-F N (Unit {0}) N
  pub holds : Bool

module _ {X Y : Type 0} (f : X → Y) where
  abbrev pub map_choices : List (Case × X) → List (Case × Y)
  map_choices [] = []
  map_choices (c ∷ all) = (c.0, f c.1) ∷ map_choices all

  -- a form with other parts; a form itself holds no note
  abbrev pub remap : {N M A B : Type 0} → Form-F N A X → Form-F M B Y
  remap (Form-F.Leaf l) = Form-F.Leaf l
  remap (Form-F.Case x) = Form-F.Case x
  remap (Form-F.Var x) = Form-F.Var x
  remap (Form-F.Last x) = Form-F.Last x
  remap (Form-F.Asked x) = Form-F.Asked x
  remap (Form-F.Op o args) = Form-F.Op o (map f args)
  remap (Form-F.Tuple all) = Form-F.Tuple (map f all)
  remap (Form-F.Pre e) = Form-F.Pre (f e)
  remap (Form-F.Fby x y) = Form-F.Fby (f x) (f y)
  remap (Form-F.Init x y) = Form-F.Init (f x) (f y)
  remap (Form-F.When e x k) = Form-F.When (f e) x k
  remap (Form-F.Merge x all) = Form-F.Merge x (map_choices all)
  remap (Form-F.Call run x args every) = Form-F.Call run x (map f args) (option_map f every)

module _ (N : Type 0) (function : N → Bool) where
  -- what a form keeps of its parts
  pub record Inside : Type 0 where
    pub form : Form-F N (Unit {0}) N
    pub all : List (Layer N)
    pub given : Bool

  -- what an expression tells the one around it
  pub record Laid : Type 0 where
    pub note : N
    pub all : List (Layer N)
    pub holds : Bool

  abbrev pub note_of : Laid → N
  note_of x = x.note

  abbrev pub laid_layers : List Laid → List (Layer N)
  laid_layers [] = []
  laid_layers (x ∷ xs) = x.all ++ laid_layers xs

  -- whether something given is a stream, or a function that holds one
  abbrev pub streams : List Laid → Bool
  streams [] = false
  streams (x ∷ xs) = (if function x.note then x.holds else true) || streams xs

  abbrev pub gives : Form-F N Inside Laid → Bool
  gives (Form-F.Call run head args every) = streams args
  gives _ = false

  abbrev pub form_layers : Form-F N Inside Laid → Inside
  form_layers x = record { form = remap note_of x; all = laid_layers (form_parts x); given = gives x }

  abbrev pub expr_layers : Expr-F N Inside Laid → Laid
  expr_layers e = record {
    note = e.note;
    all = record { note = e.note; form = e.form.form; holds = function e.note && e.form.given } ∷ e.form.all;
    holds = function e.note && e.form.given;
  }

  abbrev pub laid : Expr N → Laid
  laid = fold-Expr N Inside Laid form_layers expr_layers

  -- an expression and all expressions in it
  abbrev pub layers : Expr N → List (Layer N)
  layers e = (laid e).all
