-- One layer of an expression, and the layers of its parts.
use Rattle.std.specs.Prelude.{◌≡◌, refl, ◌&&◌, List, [], ◌∷◌, map, Some, None}
use Rattle.std.proofs.Common.{ap, ap₂, sym, ◌∙◌}
use Rattle.std.proofs.lemmas.List.{map-append}
use Rattle.ls_ast.specs.declared.tree.Case.{Case}
use Rattle.ls_ast.specs.declared.tree.Expr.{Expr, fold_out-Expr}
use Rattle.ls_ast.specs.declared.tree.Form.{Form, fold_out-Form, map-Form, out-Form}
use Rattle.ls_ast.specs.declared.tree.Form.TheOpen.{Form-F}
use Rattle.ls_sig.specs.declared.binder.Note.{Note}
use Rattle.ls_places.specs.Clocks.{choice_parts, form_parts}
use Rattle.clock_rules.specs.Layers.{Inside, Laid, expr_layers, form_layers, laid, laid_layers, map_choices, note_of as laid_note, remap}
use Rattle.clock_pairs.specs.Scene.{form_of, function, note_of}
use Rattle.clock_pairs.specs.Walks.{holds, inside, gives, parts}

abbrev L : Type 0
L = Laid Note function

abbrev I : Type 0
I = Inside Note function

abbrev lay : Expr Note → L
lay = laid Note function

abbrev below : Form-F Note (Form Note) (Expr Note) → Form-F Note I L
below x = map-Form Note (Form Note) (Expr Note) I L inside lay x

pub laid_is : (e : Expr Note) → lay e ≡ expr_layers Note function (record { note = e.note; form = inside e.form })
laid_is = fold_out-Expr Note I L (form_layers Note function) (expr_layers Note function)

pub inside_is : (f : Form Note) → inside f ≡ form_layers Note function (below (out-Form Note f))
inside_is = fold_out-Form Note I L (form_layers Note function) (expr_layers Note function)

note_is : (e : Expr Note) → (lay e).note ≡ e.note
note_is e = ap (λ (l : L). l.note) (laid_is e)

notes_are : (es : List (Expr Note)) → map (laid_note Note function) (map lay es) ≡ map note_of es
notes_are [] = refl
notes_are (e ∷ es) = ap₂ (λ x xs. x ∷ xs) (note_is e) (notes_are es)

choices_are : (cs : List (Case × Expr Note)) → map_choices (laid_note Note function) (map {A = Case × Expr Note} {B = Case × L} (λ c. (c.0, lay c.1)) cs) ≡ map_choices note_of cs
choices_are [] = refl
choices_are (c ∷ cs) = ap₂ (λ x xs. (c.0, x) ∷ xs) (note_is c.1) (choices_are cs)

-- the form with the notes of its parts
form_at : (x : Form-F Note (Form Note) (Expr Note)) → remap (laid_note Note function) {N = Note} {M = Note} {A = I} {B = Unit {0}} (below x) ≡ remap note_of x
form_at (Form-F.Leaf l) = refl
form_at (Form-F.Case x) = refl
form_at (Form-F.Var x) = refl
form_at (Form-F.Last x) = refl
form_at (Form-F.Asked x) = refl
form_at (Form-F.Op o es) = ap (Form-F.Op o) (notes_are es)
form_at (Form-F.Tuple es) = ap Form-F.Tuple (notes_are es)
form_at (Form-F.Pre e) = ap Form-F.Pre (note_is e)
form_at (Form-F.Fby a b) = ap₂ Form-F.Fby (note_is a) (note_is b)
form_at (Form-F.Init a b) = ap₂ Form-F.Init (note_is a) (note_is b)
form_at (Form-F.When e x k) = ap (λ z. Form-F.When z x k) (note_is e)
form_at (Form-F.Merge x cs) = ap (Form-F.Merge x) (choices_are cs)
form_at (Form-F.Call run x es None) = ap (λ z. Form-F.Call run x z None) (notes_are es)
form_at (Form-F.Call run x es (Some e)) = ap₂ (λ z w. Form-F.Call run x z (Some w)) (notes_are es) (note_is e)

branches_are : (cs : List (Case × Expr Note)) → choice_parts (map {A = Case × Expr Note} {B = Case × L} (λ c. (c.0, lay c.1)) cs) ≡ map lay (choice_parts cs)
branches_are [] = refl
branches_are (c ∷ cs) = ap (λ z. lay c.1 ∷ z) (branches_are cs)

-- its parts
parts_at : (x : Form-F Note (Form Note) (Expr Note)) → form_parts (below x) ≡ map lay (form_parts x)
parts_at (Form-F.Leaf l) = refl
parts_at (Form-F.Case x) = refl
parts_at (Form-F.Var x) = refl
parts_at (Form-F.Last x) = refl
parts_at (Form-F.Asked x) = refl
parts_at (Form-F.Op o es) = refl
parts_at (Form-F.Tuple es) = refl
parts_at (Form-F.Pre e) = refl
parts_at (Form-F.Fby a b) = refl
parts_at (Form-F.Init a b) = refl
parts_at (Form-F.When e x k) = refl
parts_at (Form-F.Merge x cs) = branches_are cs
parts_at (Form-F.Call run x es None) = sym (map-append lay es [])
parts_at (Form-F.Call run x es (Some e)) = sym (map-append lay es (e ∷ []))

-- all layers of an expression: its own, and those of its parts
pub layers_are : (e : Expr Note) → (lay e).all ≡ record { note = e.note; form = form_of e.form; holds = holds e } ∷ laid_layers Note function (map lay (parts e.form))
layers_are e =
    ap (λ (l : L). l.all) (laid_is e)
    ∙ (λ i. record {
      note = e.note;
      form = ((λ j. (inside_is e.form j).form) ∙ form_at (out-Form Note e.form)) i;
      holds = sym (ap (λ (l : L). l.holds) (laid_is e)) i;
    } ∷ ((λ j. (inside_is e.form j).all) ∙ ap (laid_layers Note function) (parts_at (out-Form Note e.form))) i)

pub holds_are : (e : Expr Note) → holds e ≡ (function e.note && gives e.form)
holds_are e = ap (λ (l : L). l.holds) (laid_is e)
