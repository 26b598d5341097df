-- The items of a file, one after the other.
use Rattle.std.specs.Prelude.{◌≡◌, refl, ℕ, ◌+◌, ◌<◌, Bool, List, [], ◌∷◌, ◌++◌, length, Option, Some, None}
use Rattle.std.proofs.Common.{ap, sym, subst, ◌∙◌, arith, drop, take, get_or}
use Rattle.std.proofs.lemmas.Grind.{common_steps}
use Rattle.ls_ast.specs.declared.tree.BodyOf.{BodyOf}
use Rattle.ls_ast.specs.declared.tree.DefOf.{DefOf}
use Rattle.ls_ast.specs.declared.tree.DefOf.TheVariants as item
use Rattle.ls_ast.specs.declared.tree.Mark.{Mark}
use Rattle.ls_ast.specs.declared.tree.Pat.{Pat}
use Rattle.ls_base.specs.declared.Line.{Line}
use Rattle.ls_base.specs.declared.Name.{Name}
use Rattle.ls_places.specs.Definitions.{case_place, definition_of}
use Rattle.ls_places.specs.Places.{option_list}
use Rattle.ls_sig.specs.declared.binder.Note.{Note}
use Rattle.ls_sig.specs.declared.sigs.InitSig.{InitSig}
use Rattle.init_rules.specs.Files as files
use Rattle.init_rules.specs.Files.{Judged, Let, Uninitialised, data_marks}
use Rattle.init_rules.specs.Init.{Initialised}
use Rattle.init_rules.proofs.Files.{judged_with_more}
use Rattle.init_check.specs.declared.file.InitFault.{InitFault}
use Rattle.init_check.specs.declared.file.InitFault.TheVariants as fault
use Rattle.init_check.specs.Judged as own
use Rattle.init_check.specs.Judged.{AtLine, Decided}
use Rattle.init_check.proofs.Pushed.{nothing_after}

taken : {A : Type 0} (all : List A) (i : ℕ) (x : A) → i < length all → get_or all i x ≡ x → take (i + 1) all ≡ take i all ++ x ∷ []
taken all i x below is = grind (arith, common_steps)

parted : {A : Type 0} (all : List A) (i : ℕ) (x : A) → i < length all → get_or all i x ≡ x → all ≡ take i all ++ x ∷ drop (i + 1) all
parted all i x below is = grind (arith, common_steps)

no_some : {A : Type 0} (x : A) → None ≡ Some x → ⊥
no_some x e = absurd (cc e)

the_some : {A : Type 0} (x y : A) → Some x ≡ Some y → x ≡ y
the_some x y e = cc e

module _ (cases : ℕ → Option ℕ) where
  abbrev lets : List (DefOf Note) → List Let
  lets = files.lets cases

  abbrev ItemJudged : List InitSig → DefOf Note → Option InitSig → Type 0
  ItemJudged = own.ItemJudged cases

  abbrev ItemFails : List InitSig → DefOf Note → Line → Type 0
  ItemFails = own.ItemFails cases

  lets_append : (xs ys : List (DefOf Note)) → lets (xs ++ ys) ≡ lets xs ++ lets ys
  lets_append [] ys = refl
  lets_append (item.Cases line name all ∷ xs) ys = lets_append xs ys
  lets_append (item.Let line node name params marks notes body ∷ xs) ys =
      ap (λ z. record { line = line; are_data = data_marks params marks; body = definition_of cases params notes body } ∷ z) (lets_append xs ys)

  lets_taken : (all : List (DefOf Note)) (i : ℕ) (x : DefOf Note) → i < length all → get_or all i x ≡ x → lets (take (i + 1) all) ≡ lets (take i all) ++ lets (x ∷ [])
  lets_taken all i x below is = ap lets (taken all i x below is) ∙ lets_append (take i all) (x ∷ [])

  some_judged : (sigs : List InitSig) (ss : List InitSig) (ds : List Let) (x : DefOf Note) (s : InitSig) → ItemJudged (sigs ++ ss) x (Some s) → Judged sigs ds ss
      → Judged sigs (ds ++ lets (x ∷ [])) (ss ++ s ∷ [])
  some_judged sigs ss ds (item.Cases line name all) s j so_far = absurd (no_some s (sym j))
  some_judged sigs ss ds (item.Let line node name params marks notes body) s (t, e, i, is) so_far =
      let d : Let = record { line = line; are_data = data_marks params marks; body = definition_of cases params notes body } in
      subst (λ z. Judged sigs (ds ++ d ∷ []) (ss ++ z ∷ [])) (sym (the_some s t e)) (judged_with_more sigs ds ss d t so_far i is)

  none_judged : (sigs : List InitSig) (ss : List InitSig) (ds : List Let) (x : DefOf Note) → ItemJudged (sigs ++ ss) x None → Judged sigs ds ss → Judged sigs (ds ++ lets (x ∷ [])) ss
  none_judged sigs ss ds (item.Cases line name all) j so_far = subst (λ z. Judged sigs z ss) (nothing_after ds) so_far
  none_judged sigs ss ds (item.Let line node name params marks notes body) (t, e, i, is) so_far = absurd (no_some t e)

  -- one more item, with a signature
  pub next_some : (sigs : List InitSig) (all : List (DefOf Note)) (i : ℕ) (x : DefOf Note) (before ss : List InitSig) (s : InitSig) → i < length all → get_or all i x ≡ x → before ≡ sigs ++ ss
      → ItemJudged before x (Some s) → Judged sigs (lets (take i all)) ss → Judged sigs (lets (take (i + 1) all)) (ss ++ s ∷ [])
  next_some sigs all i x before ss s below is e j so_far =
      subst (λ z. Judged sigs z (ss ++ s ∷ [])) (sym (lets_taken all i x below is)) (some_judged sigs ss (lets (take i all)) x s (subst (λ z. ItemJudged z x (Some s)) e j) so_far)

  -- and with none
  pub next_none : (sigs : List InitSig) (all : List (DefOf Note)) (i : ℕ) (x : DefOf Note) (before ss : List InitSig) → i < length all → get_or all i x ≡ x → before ≡ sigs ++ ss
      → ItemJudged before x None → Judged sigs (lets (take i all)) ss → Judged sigs (lets (take (i + 1) all)) ss
  next_none sigs all i x before ss below is e j so_far =
      subst (λ z. Judged sigs z ss) (sym (lets_taken all i x below is)) (none_judged sigs ss (lets (take i all)) x (subst (λ z. ItemJudged z x None) e j) so_far)

  pub next_item : (sigs : List InitSig) (all : List (DefOf Note)) (i : ℕ) (x : DefOf Note) (before ss : List InitSig) (o : Option InitSig) → i < length all → get_or all i x ≡ x → before ≡ sigs ++ ss
      → ItemJudged before x o → Judged sigs (lets (take i all)) ss → Judged sigs (lets (take (i + 1) all)) (ss ++ option_list o)
  next_item sigs all i x before ss None below is e j so_far = subst (Judged sigs (lets (take (i + 1) all))) (nothing_after ss) (next_none sigs all i x before ss below is e j so_far)
  next_item sigs all i x before ss (Some s) below is e j so_far = next_some sigs all i x before ss s below is e j so_far

  lets_parted : (all : List (DefOf Note)) (i : ℕ) (x : DefOf Note) → i < length all → get_or all i x ≡ x → lets all ≡ lets (take i all) ++ (lets (x ∷ []) ++ lets (drop (i + 1) all))
  lets_parted all i x below is =
      ap lets (parted all i x below is) ∙ lets_append (take i all) (x ∷ drop (i + 1) all) ∙ ap (λ z. lets (take i all) ++ z) (lets_append (x ∷ []) (drop (i + 1) all))

  fails_in : (sigs ss : List InitSig) (ds : List Let) (rest : List (DefOf Note)) (x : DefOf Note) (at : Line) (whole : List Let) → whole ≡ ds ++ (lets (x ∷ []) ++ lets rest)
      → ItemFails (sigs ++ ss) x at → Judged sigs ds ss → Uninitialised sigs whole at
  fails_in sigs ss ds rest (item.Cases line name all) at whole e f so_far = absurd f
  fails_in sigs ss ds rest (item.Let line node name params marks notes body) at whole e f so_far =
      (ds, record { line = line; are_data = data_marks params marks; body = definition_of cases params notes body }, lets rest, ss, e, so_far, f.0, f.1)

  -- an item that fails
  pub fails : (sigs : List InitSig) (all : List (DefOf Note)) (i : ℕ) (x : DefOf Note) (before ss : List InitSig) (at : Line) → i < length all → get_or all i x ≡ x → before ≡ sigs ++ ss
      → ItemFails before x at → Judged sigs (lets (take i all)) ss → Uninitialised sigs (lets all) at
  fails sigs all i x before ss at below is e f so_far =
      fails_in sigs ss (lets (take i all)) (drop (i + 1) all) x at (lets all) (lets_parted all i x below is) (subst (λ z. ItemFails z x at) e f) so_far

  pub fault_at : (f : InitFault) (sigs : List InitSig) (all : List (DefOf Note)) (i : ℕ) (x : DefOf Note) (before ss : List InitSig) → i < length all → get_or all i x ≡ x → before ≡ sigs ++ ss
      → AtLine f (ItemFails before x) → Judged sigs (lets (take i all)) ss → AtLine f (Uninitialised sigs (lets all))
  fault_at (fault.Uninitialised line) sigs all i x before ss below is e g so_far = fails sigs all i x before ss line below is e g so_far
  fault_at fault.NoMemory sigs all i x before ss below is e g so_far = tt

  -- ---- one item

  pub item_fails : (sigs : List InitSig) (it : DefOf Note) (line : Line) (node : Bool) (name : Name) (params : List Pat) (marks ms : List Mark) (notes ns : List Note) (body : BodyOf Note)
      (o : Option InitSig) → it ≡ item.Let line node name params marks notes body → ms ≡ marks → ns ≡ notes
      → Decided (definition_of cases params ns body) sigs (data_marks params ms) o → o ≡ None → ItemFails sigs it line
  item_fails sigs it line node name params marks ms notes ns body o is m n decided none =
      subst (λ z. ItemFails sigs z line) (sym is)
      (refl, subst (λ z. Initialised (definition_of cases params z body) sigs → ⊥) n (subst (Decided (definition_of cases params ns body) sigs (data_marks params ms)) none decided))

  pub item_judged : (sigs : List InitSig) (it : DefOf Note) (line : Line) (node : Bool) (name : Name) (params : List Pat) (marks ms : List Mark) (notes ns : List Note) (body : BodyOf Note)
      (o : Option InitSig) (s : InitSig) → it ≡ item.Let line node name params marks notes body → ms ≡ marks → ns ≡ notes
      → Decided (definition_of cases params ns body) sigs (data_marks params ms) o → o ≡ Some s → ItemJudged sigs it (Some s)
  item_judged sigs it line node name params marks ms notes ns body o s is m n decided some =
      let both : Decided (definition_of cases params notes body) sigs (data_marks params marks) (Some s) =
      subst (λ z. Decided (definition_of cases params z body) sigs (data_marks params marks) (Some s)) n
      (subst (λ z. Decided (definition_of cases params ns body) sigs (data_marks params z) (Some s)) m (subst (Decided (definition_of cases params ns body) sigs (data_marks params ms)) some decided)) in
      subst (λ z. ItemJudged sigs z (Some s)) (sym is) (s, refl, both.0, both.1)

-- ---- the places of constructors

pub places_are : (p : ℕ → Option ℕ) (xs ys : List (DefOf Note)) → p ≡ case_place xs → xs ≡ ys → p ≡ case_place ys
places_are p xs ys e f = e ∙ ap case_place f

pub judged_there : (p q : ℕ → Option ℕ) (sigs before ss : List InitSig) (xs ys : List (DefOf Note)) → p ≡ q → xs ≡ ys → before ≡ sigs
    → Judged before (files.lets p xs) ss → Judged sigs (files.lets q ys) ss
judged_there p q sigs before ss xs ys e f b j =
    subst (λ z. Judged z (files.lets q ys) ss) b (subst (λ z. Judged before (files.lets q z) ss) f (subst (λ z. Judged before (files.lets z xs) ss) e j))

pub fault_there : (f : InitFault) (p q : ℕ → Option ℕ) (sigs before : List InitSig) (xs ys : List (DefOf Note)) → p ≡ q → xs ≡ ys → before ≡ sigs
    → AtLine f (Uninitialised before (files.lets p xs)) → AtLine f (Uninitialised sigs (files.lets q ys))
fault_there f p q sigs before xs ys e g b j =
    subst (λ z. AtLine f (Uninitialised z (files.lets q ys))) b
    (subst (λ z. AtLine f (Uninitialised before (files.lets q z))) g (subst (λ z. AtLine f (Uninitialised before (files.lets z xs))) e j))
