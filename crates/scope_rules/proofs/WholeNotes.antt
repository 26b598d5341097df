-- The notes of the expressions of a resolved body are the binders of their names.
use Rattle.std.specs.Prelude.{◌≡◌, ℕ, suc, zero, ◌+◌, Bool, List, [], ◌∷◌, ◌++◌, map, length, Option, Some, None, slice_get, refl}
use Rattle.std.proofs.Common.{ap, ap₂, sym, ◌∙◌, subst, append_assoc, arith}
use Rattle.std.proofs.lemmas.List.{length-append}
use Rattle.ls_ast.specs.declared.tree.Case.{Case}
use Rattle.ls_ast.specs.declared.tree.Expr.{Expr, Expr-F}
use Rattle.ls_ast.specs.declared.tree.Form.TheOpen.{Form-F}
use Rattle.ls_ast.specs.declared.tree.Plain.{Plain}
use Rattle.ls_places.specs.Places as found
use Rattle.ls_places.specs.declared.places.Whole.{Whole}
use Rattle.ls_sig.specs.declared.binder.Binder.{Binder}
use Rattle.ls_sig.specs.declared.binder.Use.{Use}
use Rattle.scope_rules.specs.declared.notes.UseNotes.{UseNotes}
use Rattle.scope_rules.specs.Notes.{use_at, use_or_none, after}
use Rattle.scope_rules.specs.Places as P
use Rattle.scope_rules.specs.Places.{Place, Reading, reads, tests, joined}
use Rattle.scope_rules.specs.Claims as C
use Rattle.scope_rules.specs.Claims.{Known, uses, joined_uses, branch_uses}
use Rattle.scope_rules.specs.Faults as F
use Rattle.scope_rules.specs.Faults.{Judged, Sight, binder_at}
use Rattle.scope_rules.specs.Resolved as R
use Rattle.scope_rules.specs.Laws.{placed_exprs, whole_key, Noted, InSight}
use Rattle.scope_rules.proofs.Again as A
use Rattle.scope_rules.proofs.Again.{d', uses_are_same, sight_same}
use Rattle.scope_rules.proofs.AsFound.{exprs_alike}
use Rattle.scope_rules.proofs.InSight.{uses_in_sight}
use Rattle.scope_rules.proofs.NotesMade.{made, body_made}
use Rattle.scope_rules.proofs.WalkNotes.{read_notes, body_read}
use Rattle.tree_notes.specs.Each.{Each}
use Rattle.tree_notes.specs.Order as Or
use Rattle.tree_notes.proofs.Related.{related, lefts, rights}

-- lists that are joined, of parts that are as long

abbrev rest : {A : Type 0} → List A → List A
rest [] = []
rest (x ∷ xs) = xs

abbrev first_or : {A : Type 0} → A → List A → A
first_or a [] = a
first_or a (x ∷ xs) = x

split : {A : Type 0} (xs ys us vs : List A) → length xs ≡ length us → xs ++ ys ≡ us ++ vs → (xs ≡ us) × (ys ≡ vs)
split [] ys [] vs l e = (refl, e)
split [] ys (u ∷ us) vs l e = absurd (omega (arith, l))
split (x ∷ xs) ys [] vs l e = absurd (omega (arith, l))
split (x ∷ xs) ys (u ∷ us) vs l e = let r = split xs ys us vs (omega (arith, l)) (ap rest e) in (λ i. ap (first_or x) e i ∷ r.0 i, r.1)

together : {A B : Type 0} (xs ys : List A) (us vs : List B) → length xs ≡ length us → length ys ≡ length vs → length (xs ++ ys) ≡ length (us ++ vs)
together xs ys us vs a b = length-append xs ys ∙ ap₂ (λ m n. m + n) a b ∙ sym (length-append us vs)

-- an expression has as many binders as notes

module _ (N : Type 0) (bound cases : ℕ → Binder) where
  abbrev U : Type 0
  U = List Use

  abbrev L : Type 0
  L = List N

  abbrev R1 : U → L → Type 0
  R1 us ns = length us ≡ suc (length ns)

  abbrev R2 : U → L → Type 0
  R2 us ns = length us ≡ length ns

  abbrev s : Form-F N U U → U
  s = C.form_uses bound cases

  abbrev s' : Expr-F N U U → U
  s' = C.expr_uses bound cases

  abbrev t : Form-F N L L → L
  t = Or.form_notes N

  abbrev t' : Expr-F N L L → L
  t' = Or.expr_notes N

  abbrev T1 : Type 0
  T1 = (a : U) × (b : L) × R1 a b

  abbrev T2 : Type 0
  T2 = (a : U) × (b : L) × R2 a b

  all_long : (ps : List T2) → length (joined_uses (map {A = T2} {B = U} (λ p. p.0) ps)) ≡ length (Or.joined (map {A = T2} {B = L} (λ p. p.1) ps))
  all_long [] = refl
  all_long (p ∷ ps) = together p.0 (joined_uses (map {A = T2} {B = U} (λ p. p.0) ps)) p.1 (Or.joined (map {A = T2} {B = L} (λ p. p.1) ps)) p.2 (all_long ps)

  branches_long : (ps : List (Case × T2)) → length (branch_uses (map {A = Case × T2} {B = Case × U} (λ c. (c.0, c.1.0)) ps)) ≡ length (Or.choices_joined (map {A = Case × T2} {B = Case × L} (λ c. (c.0, c.1.1)) ps))
  branches_long [] = refl
  branches_long (p ∷ ps) = together p.1.0 (branch_uses (map {A = Case × T2} {B = Case × U} (λ c. (c.0, c.1.0)) ps)) p.1.1 (Or.choices_joined (map {A = Case × T2} {B = Case × L} (λ c. (c.0, c.1.1)) ps)) p.1.2 (branches_long ps)

  step : (y : Form-F N T1 T2) → R1 (s (lefts s s' t t' R1 R2 y)) (t (rights s s' t t' R1 R2 y))
  step (Form-F.Leaf l) = refl
  step (Form-F.Case c) = refl
  step (Form-F.Var x) = refl
  step (Form-F.Last x) = refl
  step (Form-F.Asked x) = refl
  step (Form-F.Op o args) = ap suc (all_long args)
  step (Form-F.Tuple args) = ap suc (all_long args)
  step (Form-F.Pre e) = ap suc e.2
  step (Form-F.Fby a b) = ap suc (together a.0 b.0 a.1 b.1 a.2 b.2)
  step (Form-F.Init a b) = ap suc (together a.0 b.0 a.1 b.1 a.2 b.2)
  step (Form-F.When e x c) = ap suc e.2
  step (Form-F.Merge x all) = ap suc (branches_long all)
  step (Form-F.Call run x args None) = ap suc (together (joined_uses (map {A = T2} {B = U} (λ p. p.0) args)) [] (Or.joined (map {A = T2} {B = L} (λ p. p.1) args)) [] (all_long args) refl)
  step (Form-F.Call run x args (Some e)) = ap suc (together (joined_uses (map {A = T2} {B = U} (λ p. p.0) args)) e.0 (Or.joined (map {A = T2} {B = L} (λ p. p.1) args)) e.1 (all_long args) e.2)

  uses_long : (e : Expr N) → length (uses bound cases e) ≡ length (Or.notes N e)
  uses_long = related s s' t t' R1 R2 step (λ n p. p.2)

readings_long : (h : Sight) (k : Known) (rs : List (Reading Use)) → length (joined (map (R.reading_uses h k) rs)) ≡ length (read_notes Use rs)
readings_long h k [] = refl
readings_long h k (reads e st p ∷ rs) = together (uses (binder_at h p) (R.case_of k) e) (joined (map (R.reading_uses h k) rs)) (Or.notes Use e) (read_notes Use rs) (uses_long Use (binder_at h p) (R.case_of k) e) (readings_long h k rs)
readings_long h k (tests x p ∷ rs) = readings_long h k rs

-- the notes that are taken from a list are the list, where it is as long

made_long : (ns : List Plain) (k : UseNotes) → length (made A.step A.next ns k) ≡ length ns
made_long [] k = refl
made_long (n ∷ ns) k = ap suc (made_long ns (after k))

got : (pre us : List Use) (u : Use) → slice_get (pre ++ u ∷ us) (length pre) ≡ Some u
got [] us u = refl
got (p ∷ pre) us u = got pre us u

one_longer : (pre : List Use) (u : Use) → length pre + 1 ≡ length (pre ++ u ∷ [])
one_longer pre u = sym (length-append pre (u ∷ []))

taken : (pre us : List Use) (ns : List Plain) → length ns ≡ length us → made A.step A.next ns (record { list = pre ++ us; next = length pre }) ≡ us
taken pre [] [] l = refl
taken pre (u ∷ us) [] l = absurd (omega (arith, l))
taken pre [] (n ∷ ns) l = absurd (omega (arith, l))
taken pre (u ∷ us) (n ∷ ns) l =
    ap (λ o. use_or_none o ∷ made A.step A.next ns (record { list = pre ++ u ∷ us; next = length pre + 1 })) (got pre us u)
    ∙ ap (λ z. u ∷ z) ((λ i. made A.step A.next ns (record { list = sym (append_assoc pre (u ∷ []) us) i; next = one_longer pre u i })) ∙ taken (pre ++ u ∷ []) us ns (omega (arith, l)))

-- the notes of each expression

each_noted : (h : Sight) (k : Known) (rs : List (Reading Use)) → read_notes Use rs ≡ joined (map (R.reading_uses h k) rs)
    → Each (λ (x : Expr Use × Place). Or.notes Use x.0 ≡ uses (binder_at h x.1) (R.case_of k) x.0) (placed_exprs rs)
each_noted h k [] e = tt
each_noted h k (reads d st p ∷ rs) e =
    let r = split (Or.notes Use d) (read_notes Use rs) (uses (binder_at h p) (R.case_of k) d) (joined (map (R.reading_uses h k) rs)) (sym (uses_long Use (binder_at h p) (R.case_of k) d)) e in
    (r.0, each_noted h k rs r.1)
each_noted h k (tests x p ∷ rs) e = each_noted h k rs e

each_mapped : {X Y : Type 0} (f : X → Y) (Q : Y → Type 0) (xs : List X) → Each Q (map f xs) → Each (λ x. Q (f x)) xs
each_mapped f Q [] h = tt
each_mapped f Q (x ∷ xs) h = (h.0, each_mapped f Q xs h.1)

each_weaker : {X : Type 0} (Q Q' : X → Type 0) (xs : List X) → ((x : X) → Q x → Q' x) → Each Q xs → Each Q' xs
each_weaker Q Q' [] f h = tt
each_weaker Q Q' (x ∷ xs) f h = (f x h.0, each_weaker Q Q' xs f h.1)

module _ (d : Judged Plain) where
  abbrev all : List (Reading Use)
  all = (F.contents (d' d)).readings

  abbrev taking : UseNotes
  taking = record { list = R.body_uses d; next = 0 }

  read_is : read_notes Use all ≡ made A.step A.next (Or.notes_body Plain d.body) taking
  read_is = body_read Use (length d.params) (R.resolved_body d) ∙ body_made A.step A.next d.body taking

  long : length (Or.notes_body Plain d.body) ≡ length (R.body_uses d)
  long = sym (made_long (Or.notes_body Plain d.body) taking) ∙ ap length (sym read_is) ∙ sym (readings_long (F.sight (d' d)) d.known all) ∙ ap length (sym (uses_are_same d))

  notes_are : read_notes Use all ≡ joined (map (R.reading_uses (F.sight d) d.known) all)
  notes_are = read_is ∙ taken [] (R.body_uses d) (Or.notes_body Plain d.body) long ∙ uses_are_same d ∙ (λ i. joined (map (R.reading_uses (sym (sight_same d) i) d.known) all))

  noted : (w : Whole Use) → Or.notes Use (whole_key w).0 ≡ uses (binder_at (F.sight d) (whole_key w).1) (R.case_of d.known) (whole_key w).0 → Noted d w
  noted w e = record {
    as_uses = e;
    in_sight = subst (Each (λ (u : Use). InSight (F.sight d) d.known.enums (found.arms w.place) u.bound)) (sym e) (uses_in_sight Use (F.sight d) d.known (found.arms w.place) w.expr);
  }

  pub notes_in_sight : (cases : ℕ → Option ℕ) (signal : Expr Use → Bool) → Each (Noted d) (found.find Use (length d.params) cases signal (R.resolved_body d)).exprs
  notes_in_sight cases signal =
      let Q : Expr Use × Place → Type 0 = λ x. Or.notes Use x.0 ≡ uses (binder_at (F.sight d) x.1) (R.case_of d.known) x.0 in
      let ws : List (Whole Use) = (found.find Use (length d.params) cases signal (R.resolved_body d)).exprs in
      each_weaker (λ w. Q (whole_key w)) (Noted d) ws noted
      (each_mapped whole_key Q ws (subst (Each Q) (exprs_alike Use (length d.params) cases signal (R.resolved_body d)) (each_noted (F.sight d) d.known all notes_are)))
