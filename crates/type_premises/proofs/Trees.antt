-- A tree with other notes than a resolved one: what scope asks of its expressions, and the binders in its notes.
use Rattle.std.specs.Prelude.{◌≡◌, refl, ℕ, Bool, false, List, [], ◌∷◌, ◌++◌, map, length, Option, Some, None}
use Rattle.std.proofs.Common.{ap, ap₂, sym, ◌∙◌, subst}
use Rattle.ls_ast.specs.declared.tree.BodyOf.{BodyOf}
use Rattle.ls_ast.specs.declared.tree.Case.{Case}
use Rattle.ls_ast.specs.declared.tree.Expr.{Expr, Expr-F}
use Rattle.ls_ast.specs.declared.tree.Form.TheOpen.{Form-F}
use Rattle.ls_ast.specs.declared.tree.Plain.{Plain}
use Rattle.ls_places.specs.Places as found
use Rattle.ls_places.specs.declared.places.Whole.{Whole}
use Rattle.ls_sig.specs.declared.binder.Use.{Use}
use Rattle.tree_notes.specs.Each.{Each}
use Rattle.tree_notes.specs.Noted as T
use Rattle.tree_notes.specs.Order as Or
use Rattle.tree_notes.proofs.Refold as Re
use Rattle.scope_rules.specs.Places as P
use Rattle.scope_rules.specs.Places.{Place, reads, tests}
use Rattle.scope_rules.specs.Claims as C
use Rattle.scope_rules.specs.Claims.{uses}
use Rattle.scope_rules.specs.declared.claims.Claim.{Claim}
use Rattle.scope_rules.specs.declared.claims.Stand.{Stand}
use Rattle.scope_rules.specs.declared.places.Site.{Site}
use Rattle.scope_rules.specs.Faults as F
use Rattle.scope_rules.specs.Faults.{Judged, Sight, asked_by, binder_at}
use Rattle.scope_rules.specs.Laws.{placed_exprs, whole_key, Noted}
use Rattle.scope_rules.specs.Resolved as R
use Rattle.scope_rules.proofs.Again as A
use Rattle.scope_rules.proofs.AsFound.{exprs_alike}
use Rattle.scope_rules.proofs.OtherBodies as O
use Rattle.scope_rules.proofs.OtherNotes.{claims_same, uses_same}
use Rattle.scope_rules.proofs.WholeNotes.{notes_in_sight}
use Rattle.type_premises.proofs.Lists.{map_on, each_weaker}

-- the notes of an expression with other notes

module _ {N M : Type 0} (g : N → M) where
  abbrev Twin : List M → List N → Type 0
  Twin a b = a ≡ map g b

  abbrev Two : Type 0
  Two = (a : List M) × (b : List N) × Twin a b

  abbrev s : Form-F M (List M) (List M) → List M
  s = Or.form_notes M

  abbrev s' : Expr-F M (List M) (List M) → List M
  s' = Or.expr_notes M

  abbrev t : Form-F N (List N) (List N) → List N
  t = Or.form_notes N

  abbrev t' : Expr-F N (List N) (List N) → List N
  t' = Or.expr_notes N

  both : (a b : Two) → a.0 ++ b.0 ≡ map g (a.1 ++ b.1)
  both a b = ap₂ (λ x y. x ++ y) a.2 b.2 ∙ sym (map_on g a.1 b.1)

  all_noted : (ps : List Two) → Or.joined (map {A = Two} {B = List M} (λ p. p.0) ps) ≡ map g (Or.joined (map {A = Two} {B = List N} (λ p. p.1) ps))
  all_noted [] = refl
  all_noted (p ∷ ps) = both p (Or.joined (map {A = Two} {B = List M} (λ p. p.0) ps), Or.joined (map {A = Two} {B = List N} (λ p. p.1) ps), all_noted ps)

  choices_noted : (ps : List (Case × Two)) → Or.choices_joined (map {A = Case × Two} {B = Case × List M} (λ c. (c.0, c.1.0)) ps) ≡ map g (Or.choices_joined (map {A = Case × Two} {B = Case × List N} (λ c. (c.0, c.1.1)) ps))
  choices_noted [] = refl
  choices_noted (p ∷ ps) = both p.1 (Or.choices_joined (map {A = Case × Two} {B = Case × List M} (λ c. (c.0, c.1.0)) ps), Or.choices_joined (map {A = Case × Two} {B = Case × List N} (λ c. (c.0, c.1.1)) ps), choices_noted ps)

  layer : (y : Form-F N Two Two) → Twin (s (Re.lefts g s s' t t' Twin Twin y)) (t (Re.rights g s s' t t' Twin Twin y))
  layer (Form-F.Leaf l) = refl
  layer (Form-F.Case c) = refl
  layer (Form-F.Var x) = refl
  layer (Form-F.Last x) = refl
  layer (Form-F.Asked x) = refl
  layer (Form-F.Op op args) = all_noted args
  layer (Form-F.Tuple parts) = all_noted parts
  layer (Form-F.Pre e) = e.2
  layer (Form-F.Fby a b) = both a b
  layer (Form-F.Init a b) = both a b
  layer (Form-F.When e x c) = e.2
  layer (Form-F.Merge x bs) = choices_noted bs
  layer (Form-F.Call run x args None) = both (Or.joined (map {A = Two} {B = List M} (λ p. p.0) args), Or.joined (map {A = Two} {B = List N} (λ p. p.1) args), all_noted args) ([], [], refl)
  layer (Form-F.Call run x args (Some e)) = both (Or.joined (map {A = Two} {B = List M} (λ p. p.0) args), Or.joined (map {A = Two} {B = List N} (λ p. p.1) args), all_noted args) e

  notes_noted : (e : Expr N) → Or.notes M (Re.noted g e) ≡ map g (Or.notes N e)
  notes_noted = Re.related g s s' t t' Twin Twin layer (λ n p. ap (λ z. g n ∷ z) p.2)

-- what scope asks of a body with other notes

module _ {N M : Type 0} (g : N → M) where
  asked_same : (h : Sight) (r : P.Reading N) → asked_by h (O.told g r) ≡ asked_by h r
  asked_same h (reads e s p) = ap (λ (c : Stand → List Claim). record { claims = c s; place = p }) (claims_same g h.defs (binder_at h p) e)
  asked_same h (tests x p) = refl

  all_asked : (h : Sight) (rs : List (P.Reading N)) → map (asked_by h) (map (O.told g) rs) ≡ map (asked_by h) rs
  all_asked h [] = refl
  all_asked h (r ∷ rs) = ap₂ (λ a b. a ∷ b) (asked_same h r) (all_asked h rs)

mapped : {A B : Type 0} (f : A → B) (Q : B → Type 0) (xs : List A) → Each (λ x. Q (f x)) xs → Each Q (map f xs)
mapped f Q [] a = tt
mapped f Q (x ∷ xs) a = (a.0, mapped f Q xs a.1)

module _ {N : Type 0} (g : N → Use) where
  -- the notes of each expression are the binders of its names
  abbrev pub NotesAre : Sight → C.Known → P.Reading N → Type 0
  NotesAre h k (reads e s p) = map g (Or.notes N e) ≡ uses (binder_at h p) (R.case_of k) e
  NotesAre h k (tests x p) = Unit {0}

  notes_are : (h : Sight) (k : C.Known) (rs : List (P.Reading N)) → Each (λ (x : Expr Use × Place). Or.notes Use x.0 ≡ uses (binder_at h x.1) (R.case_of k) x.0) (placed_exprs (map (O.told g) rs))
      → Each (NotesAre h k) rs
  notes_are h k [] a = tt
  notes_are h k (reads e s p ∷ rs) a = (sym (notes_noted g e) ∙ a.0 ∙ uses_same g (binder_at h p) (R.case_of k) e, notes_are h k rs a.1)
  notes_are h k (tests x p ∷ rs) a = (tt, notes_are h k rs a)

  -- a body that is the resolved one, but for its notes
  module _ (d : Judged Plain) (body : BodyOf N) (is : T.in_body N Use g body ≡ R.resolved_body d) where
    abbrev first : ℕ
    first = length d.params

    abbrev pub readings : List (P.Reading N)
    readings = (P.contents_of N first body).readings

    contents_same : P.contents_of Use first (R.resolved_body d) ≡ O.renoted g (P.contents_of N first body)
    contents_same = ap (P.contents_of Use first) (sym is) ∙ O.body_same g first body

    -- its names are bound at the same sites
    pub sites_same : (F.contents d).sites ≡ (P.contents_of N first body).sites
    sites_same = ap (λ (c : P.Contents Plain). c.sites) (A.contents_same d) ∙ ap (λ (c : P.Contents Use). c.sites) contents_same

    readings_same : (P.contents_of Use first (R.resolved_body d)).readings ≡ map (O.told g) readings
    readings_same = ap (λ (c : P.Contents Use). c.readings) contents_same

    -- scope asks the same of its expressions
    pub asks_same : F.asks d ≡ map (asked_by (F.sight d)) readings
    asks_same =
        ap (λ (c : P.Contents Plain). map (asked_by (F.sight d)) c.readings) (A.contents_same d)
        ∙ all_asked A.erase (F.sight d) (P.contents_of Use first (R.resolved_body d)).readings
        ∙ ap (map (asked_by (F.sight d))) readings_same
        ∙ all_asked g (F.sight d) readings

    -- and their notes are the binders of their names
    pub all_notes : Each (NotesAre (F.sight d) d.known) readings
    all_notes =
        let Q : Expr Use × Place → Type 0 = λ x. Or.notes Use x.0 ≡ uses (binder_at (F.sight d) x.1) (R.case_of d.known) x.0 in
        let cases : ℕ → Option ℕ = λ x. None in
        let signal : Expr Use → Bool = λ e. false in
        let ws : List (Whole Use) = (found.find Use first cases signal (R.resolved_body d)).exprs in
        notes_are (F.sight d) d.known readings (subst (λ z. Each Q (placed_exprs z)) readings_same
        (subst (Each Q) (sym (exprs_alike Use first cases signal (R.resolved_body d)))
        (mapped whole_key Q ws (each_weaker (Noted d) (λ w. Q (whole_key w)) ws (λ w n. n.as_uses) (notes_in_sight d cases signal)))))
