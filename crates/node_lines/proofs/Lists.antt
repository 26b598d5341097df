-- Lists, and where the fields of parameters begin.
use Rattle.std.specs.Prelude.{◌≡◌, refl, ℕ, zero, suc, ◌+◌, List, [], ◌∷◌, ◌++◌, map, length, slice_get, None, Some, Result, Ok, Err, OnOk, IfOk}
use Rattle.std.proofs.Common.{ap, ap₂, sym, ◌∙◌, arith}
use Rattle.std.proofs.lemmas.List.{append-nil}
use Rattle.ls_ast.specs.declared.tree.DefOf.{DefOf}
use Rattle.ls_ast.specs.declared.tree.DefOf.TheVariants as item
use Rattle.ls_places.specs.Search.{count_up}
use Rattle.ls_terms.specs.declared.types.TypeTerm.{TypeTerm}
use Rattle.ls_terms.specs.declared.clocks.ClockTerm.{ClockTerm}
use Rattle.ls_value.specs.declared.leaf.Leaf.{Leaf}
use Rattle.line_io.specs.declared.form.Cell.{Cell}
use Rattle.node_lines.specs.Leaves.{input_leaves, field_of}
use Rattle.node_lines.specs.Form.{constructors, asked, asked_of, case_leaf}
use Rattle.node_lines.specs.Starts.{starts_from}
use Rattle.node_lines.specs.Arguments.{cell_in, argument}

pub map_both : {A B : Type 0} (f : A → B) (xs ys : List A) → map f (xs ++ ys) ≡ map f xs ++ map f ys
map_both f [] ys = refl
map_both f (x ∷ xs) ys = ap (λ z. f x ∷ z) (map_both f xs ys)

-- ---- numbers one after the other

from_there : (k n : ℕ) → suc k + n ≡ k + suc n
from_there k n = omega arith

more : (n k : ℕ) → count_up (suc n) k ≡ count_up n k ++ (k + n) ∷ []
more zero k = ap (λ z. z ∷ []) (omega arith)
more (suc n) k = ap (λ z. k ∷ z) (more n (suc k) ∙ ap (λ z. count_up n (suc k) ++ z ∷ []) (from_there k n))

next_is : (m : ℕ) → m + 1 ≡ suc m
next_is m = omega arith

from_zero : (m : ℕ) → 0 + m ≡ m
from_zero m = omega arith

pub one_more : {A : Type 0} (f : ℕ → A) (m : ℕ) → map f (count_up (m + 1) 0) ≡ map f (count_up m 0) ++ f m ∷ []
one_more f m =
    ap (λ z. map f (count_up z 0)) (next_is m) ∙ ap (map f) (more m 0) ∙ map_both f (count_up m 0) ((0 + m) ∷ [])
    ∙ ap (λ z. map f (count_up m 0) ++ f z ∷ []) (from_zero m)

-- ---- constructors

pub first_item : {N : Type 0} (x : DefOf N) (rest : List (DefOf N)) → constructors (x ∷ []) ++ constructors rest ≡ constructors (x ∷ rest)
first_item (item.Cases line name all) rest = refl
first_item (item.Let line node name params marks notes body) rest = refl

-- ---- starts

pub start_is : (ts : List TypeTerm) (n m : ℕ) (t : TypeTerm) (at : ℕ) → slice_get ts m ≡ Some t → slice_get (starts_from ts n) m ≡ Some at → at ≡ n + field_of ts m
start_is [] n m t at e f = absurd (cc)
start_is (u ∷ ts) n zero t at e f = let g : n ≡ at = cc in omega (arith, g)
start_is (u ∷ ts) n (suc m) t at e f = omega (arith, start_is ts (n + length (input_leaves u)) m t at e f)

pub no_start : (ts : List TypeTerm) (n m : ℕ) (t : TypeTerm) → slice_get ts m ≡ Some t → slice_get (starts_from ts n) m ≡ None → ⊥
no_start [] n m t e f = cc
no_start (u ∷ ts) n zero t e f = cc
no_start (u ∷ ts) n (suc m) t e f = no_start ts (n + length (input_leaves u)) m t e f

-- ---- what sampling asks

module _ (params : List TypeTerm) (m k : ℕ) where
  pub none_asked : (done : List (ℕ × Leaf)) → slice_get params m ≡ None → done ≡ done ++ asked_of params m k (slice_get params m)
  none_asked done e = sym (append-nil done) ∙ ap (λ o. done ++ asked_of params m k o) (sym e)

  pub some_asked : {T E : Type 0} (r : Result T E) (new done : List (ℕ × Leaf)) (t : TypeTerm) (at : ℕ) (leaf : Leaf) → slice_get params m ≡ Some t → at ≡ field_of params m → leaf ≡ case_leaf t k
      → OnOk r (new ≡ done ++ (at, leaf) ∷ []) → OnOk r (new ≡ done ++ asked_of params m k (slice_get params m))
  some_asked (Ok v) new done t at leaf e f g h = h ∙ ap₂ (λ a l. done ++ (a, l) ∷ []) f g ∙ ap (λ o. done ++ asked_of params m k o) (sym e)
  some_asked (Err v) new done t at leaf e f g h = h

-- the start that is found is the number of the first field
pub start_at : (params : List TypeTerm) (starts : List ℕ) (m : ℕ) (t : TypeTerm) (at : ℕ) → starts ≡ starts_from params 0 → slice_get params m ≡ Some t → slice_get starts m ≡ Some at → at ≡ field_of params m
start_at params starts m t at s e f = start_is params 0 m t at e (ap (λ z. slice_get z m) (sym s) ∙ f) ∙ from_zero (field_of params m)

pub start_there : (params : List TypeTerm) (starts : List ℕ) (m : ℕ) (t : TypeTerm) → starts ≡ starts_from params 0 → slice_get params m ≡ Some t → slice_get starts m ≡ None → ⊥
start_there params starts m t s e f = no_start params 0 m t e (ap (λ z. slice_get z m) (sym s) ∙ f)

-- ---- columns

module _ (params : List TypeTerm) (clocks : List ClockTerm) (m : ℕ) where
  pub found : (t : TypeTerm) (ck : ClockTerm) (on : List (ℕ × Leaf)) (at : ℕ) (line : List Cell) → slice_get params m ≡ Some t → slice_get clocks m ≡ Some ck
      → on ≡ asked params ck → at ≡ field_of params m → cell_in t on at line ≡ argument params clocks m line
  found t ck on at line e f g h = rw (e, f, g, h)

pub ok_same : {T E : Type 0} (r : Result T E) (x y : T) → x ≡ y → IfOk r (λ v. v ≡ x) → IfOk r (λ v. v ≡ y)
ok_same (Ok v) x y e h = h ∙ e
ok_same (Err f) x y e h = h
