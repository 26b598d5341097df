-- Notes of facts are mapped twice as by one map.
use Rattle.std.specs.Prelude.{◌≡◌, List, [], ◌∷◌, map, Option, Some, None, option_map, refl}
use Rattle.std.proofs.Common.{ap, ap₂}
use Rattle.ls_ast.specs.declared.tree.Case.{Case}
use Rattle.ls_ast.specs.declared.tree.Form.TheOpen.{Form-F}
use Rattle.ls_places.specs.Places.{Place}
use Rattle.clock_rules.specs.Layers.{Layer, map_choices, remap}
use Rattle.clock_rules.specs.Facts.{Facts}
use Rattle.clock_rules.specs.Instances.{map_form, map_node, map_facts}

pub map_twice : {A B C : Type 0} (f : A → B) (g : B → C) (h : A → C) → ((x : A) → g (f x) ≡ h x) → (xs : List A) → map g (map f xs) ≡ map h xs
map_twice f g h e [] = refl
map_twice f g h e (x ∷ xs) = ap₂ (λ y ys. y ∷ ys) (e x) (map_twice f g h e xs)

option_twice : {A B C : Type 0} (f : A → B) (g : B → C) (h : A → C) → ((x : A) → g (f x) ≡ h x) → (o : Option A) → option_map g (option_map f o) ≡ option_map h o
option_twice f g h e None = refl
option_twice f g h e (Some x) = ap Some (e x)

module _ (N M K A B C : Type 0) {X Y Z : Type 0} (f : X → Y) (g : Y → Z) (h : X → Z) (e : (x : X) → g (f x) ≡ h x) where
  choices_twice : (all : List (Case × X)) → map_choices g (map_choices f all) ≡ map_choices h all
  choices_twice [] = refl
  choices_twice (c ∷ all) = ap₂ (λ y ys. (c.0, y) ∷ ys) (e c.1) (choices_twice all)

  -- two changes of the parts are one
  pub remap_twice : (x : Form-F N A X) → ◌≡◌ {A = Form-F K C Z} (remap g {N = M} {M = K} {A = B} {B = C} (remap f x)) (remap h x)
  remap_twice (Form-F.Leaf l) = refl
  remap_twice (Form-F.Case x) = refl
  remap_twice (Form-F.Var x) = refl
  remap_twice (Form-F.Last x) = refl
  remap_twice (Form-F.Asked x) = refl
  remap_twice (Form-F.Op o args) = ap (Form-F.Op o) (map_twice f g h e args)
  remap_twice (Form-F.Tuple all) = ap Form-F.Tuple (map_twice f g h e all)
  remap_twice (Form-F.Pre x) = ap Form-F.Pre (e x)
  remap_twice (Form-F.Fby x y) = ap₂ Form-F.Fby (e x) (e y)
  remap_twice (Form-F.Init x y) = ap₂ Form-F.Init (e x) (e y)
  remap_twice (Form-F.When x c k) = ap (λ z. Form-F.When z c k) (e x)
  remap_twice (Form-F.Merge x all) = ap (Form-F.Merge x) (choices_twice all)
  remap_twice (Form-F.Call run x args every) = ap₂ (Form-F.Call run x) (map_twice f g h e args) (option_twice f g h e every)

module _ {N M K : Type 0} (f : N → M) (g : M → K) (h : N → K) (e : (n : N) → g (f n) ≡ h n) where
  form_twice : (x : Form-F N (Unit {0}) N) → map_form g (map_form f x) ≡ map_form h x
  form_twice x = remap_twice N M K (Unit {0}) (Unit {0}) (Unit {0}) f g h e x

  node_twice : (n : Layer N × Place) → map_node g (map_node f n) ≡ map_node h n
  node_twice n = λ i. (record { note = e n.0.note i; form = form_twice n.0.form i; holds = n.0.holds }, n.1)

  pub facts_twice : (d : Facts N) → map_facts g (map_facts f d) ≡ map_facts h d
  facts_twice d = λ i. record {
    params = d.params;
    marks = d.marks;
    notes = map_twice f g h e d.notes i;
    result = e d.result i;
    nodes = map_twice (map_node f) (map_node g) (map_node h) node_twice d.nodes i;
    wholes = map_twice f g h e d.wholes i;
    vars = d.vars;
    sites = d.sites;
    starts = d.starts;
    names = d.names;
  }
