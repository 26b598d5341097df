-- The items of a file, one after the other.
use Rattle.std.specs.Prelude.{◌≡◌, ◌≢◌, refl, ℕ, ◌+◌, ◌<◌, Bool, List, [], ◌∷◌, ◌++◌, length, Option, Some, None}
use Rattle.std.proofs.Common.{ap, sym, subst, ◌∙◌, arith, drop, take, get_or}
use Rattle.std.proofs.lemmas.Grind.{common_steps}
use Rattle.ls_ast.specs.declared.tree.BodyOf.{BodyOf}
use Rattle.ls_ast.specs.declared.tree.DefOf.{DefOf}
use Rattle.ls_ast.specs.declared.tree.DefOf.TheVariants as item
use Rattle.ls_ast.specs.declared.tree.Mark.{Mark}
use Rattle.ls_ast.specs.declared.tree.Pat.{Pat}
use Rattle.ls_base.specs.declared.Line.{Line}
use Rattle.ls_base.specs.declared.Name.{Name}
use Rattle.ls_places.specs.Definitions.{definition_of}
use Rattle.ls_places.specs.Places.{option_list}
use Rattle.ls_sig.specs.declared.binder.Note.{Note}
use Rattle.ls_sig.specs.declared.sigs.Item.{Item}
use Rattle.causality_rules.specs.Files.{AllCausal, AllRanked, Let, Looped, lets}
use Rattle.causality_rules.specs.Items.{Ranked, WaitsForItself}
use Rattle.causality_rules.proofs.Files.{ranked_is_causal}
use Rattle.causality.specs.Decided.{Decided}
use Rattle.causality.specs.Judged.{AtCycle, ItemLoops, ItemRanked, Numbers}
use Rattle.causality.specs.declared.file.CauseFault.{CauseFault}
use Rattle.causality.specs.declared.file.CauseFault.TheVariants as fault
use Rattle.causality.specs.declared.judge.Judgement.{Judgement}
use Rattle.causality.specs.declared.judge.Judgement.TheVariants as judgement

nothing_after : {A : Type 0} → (xs : List A) → xs ≡ xs ++ []
nothing_after [] = refl
nothing_after (x ∷ xs) = ap (λ z. x ∷ z) (nothing_after xs)

-- ---- the definitions so far

ranked_more : (ds : List Let) (ls : List Numbers) (d : Let) (l : Numbers) → AllRanked ds ls → Ranked d.body l → AllRanked (ds ++ d ∷ []) (ls ++ l ∷ [])
ranked_more [] [] d l a r = (r, tt)
ranked_more [] (k ∷ ls) d l a r = absurd a
ranked_more (e ∷ ds) [] d l a r = absurd a
ranked_more (e ∷ ds) (k ∷ ls) d l a r = (a.0, ranked_more ds ls d l a.1 r)

all_causal : (ds : List Let) (ls : List Numbers) → AllRanked ds ls → AllCausal ds
all_causal [] ls a = tt
all_causal (d ∷ ds) [] a = absurd a
all_causal (d ∷ ds) (l ∷ ls) a = (ranked_is_causal d.body l a.0, all_causal ds ls a.1)

module _ (cases : ℕ → Option ℕ) where
  lets_append : (xs ys : List (DefOf Note)) → lets cases (xs ++ ys) ≡ lets cases xs ++ lets cases ys
  lets_append [] ys = refl
  lets_append (item.Cases line name all ∷ xs) ys = lets_append xs ys
  lets_append (item.Let line node name params marks notes body ∷ xs) ys = ap (λ z. record { line = line; body = definition_of cases params notes body } ∷ z) (lets_append xs ys)

  taken : {A : Type 0} (all : List A) (i : ℕ) (x : A) → i < length all → get_or all i x ≡ x → take (i + 1) all ≡ take i all ++ x ∷ []
  taken all i x below is = grind (arith, common_steps)

  parted : {A : Type 0} (all : List A) (i : ℕ) (x : A) → i < length all → get_or all i x ≡ x → all ≡ take i all ++ x ∷ drop (i + 1) all
  parted all i x below is = grind (arith, common_steps)

  lets_taken : (all : List (DefOf Note)) (i : ℕ) (x : DefOf Note) → i < length all → get_or all i x ≡ x → lets cases (take (i + 1) all) ≡ lets cases (take i all) ++ lets cases (x ∷ [])
  lets_taken all i x below is = ap (lets cases) (taken all i x below is) ∙ lets_append (take i all) (x ∷ [])

  lets_parted : (all : List (DefOf Note)) (i : ℕ) (x : DefOf Note) → i < length all → get_or all i x ≡ x
      → lets cases all ≡ lets cases (take i all) ++ (lets cases (x ∷ []) ++ lets cases (drop (i + 1) all))
  lets_parted all i x below is =
      ap (lets cases) (parted all i x below is) ∙ lets_append (take i all) (x ∷ drop (i + 1) all) ∙ ap (λ z. lets cases (take i all) ++ z) (lets_append (x ∷ []) (drop (i + 1) all))

  no_some : {A : Type 0} (x : A) → None ≡ Some x → ⊥
  no_some x e = absurd (cc e)

  the_some : {A : Type 0} (x y : A) → Some x ≡ Some y → x ≡ y
  the_some x y e = cc e

  one_more : (ds : List Let) (ls : List Numbers) (x : DefOf Note) (o : Option Numbers) → ItemRanked cases x o → AllRanked ds ls → AllRanked (ds ++ lets cases (x ∷ [])) (ls ++ option_list o)
  one_more ds ls (item.Cases line name all) None j a = subst (λ z. AllRanked z (ls ++ [])) (nothing_after ds) (subst (AllRanked ds) (nothing_after ls) a)
  one_more ds ls (item.Cases line name all) (Some l) j a = absurd (no_some l (sym j))
  one_more ds ls (item.Let line node name params marks notes body) None j a = absurd (no_some j.0 j.1)
  one_more ds ls (item.Let line node name params marks notes body) (Some l) j a =
      let d : Let = record { line = line; body = definition_of cases params notes body } in
      ranked_more ds ls d l a (subst (Ranked d.body) (sym (the_some l j.0 j.1)) j.2)

  -- one more item, with its numbers
  pub next_item : (all : List (DefOf Note)) (i : ℕ) (x : DefOf Note) (ls : List Numbers) (o : Option Numbers) → i < length all → get_or all i x ≡ x → ItemRanked cases x o
      → AllRanked (lets cases (take i all)) ls → AllRanked (lets cases (take (i + 1) all)) (ls ++ option_list o)
  next_item all i x ls o below is j a = subst (λ z. AllRanked z (ls ++ option_list o)) (sym (lets_taken all i x below is)) (one_more (lets cases (take i all)) ls x o j a)

  loops_in : (ds : List Let) (ls : List Numbers) (rest : List (DefOf Note)) (x : DefOf Note) (at : Line) (found : List Item) (whole : List Let)
      → whole ≡ ds ++ (lets cases (x ∷ []) ++ lets cases rest) → ItemLoops cases x at found → AllRanked ds ls → Looped whole at found
  loops_in ds ls rest (item.Cases line name all) at found whole e f a = absurd f
  loops_in ds ls rest (item.Let line node name params marks notes body) at found whole e f a =
      (ds, record { line = line; body = definition_of cases params notes body }, lets cases rest, e, all_causal ds ls a, f.0, f.1)

  -- an item that fails
  pub fault_at : (f : CauseFault) (all : List (DefOf Note)) (i : ℕ) (x : DefOf Note) (ls : List Numbers) → i < length all → get_or all i x ≡ x
      → AtCycle f (ItemLoops cases x) → AllRanked (lets cases (take i all)) ls → AtCycle f (Looped (lets cases all))
  fault_at (fault.Cyclic line found) all i x ls below is g a = loops_in (lets cases (take i all)) ls (drop (i + 1) all) x line found (lets cases all) (lets_parted all i x below is) g a
  fault_at fault.NoMemory all i x ls below is g a = tt

  -- ---- one item

  pub item_loops : (it : DefOf Note) (line : Line) (node : Bool) (name : Name) (params : List Pat) (marks : List Mark) (notes ns : List Note) (body : BodyOf Note) (r : Judgement) (found : List Item)
      → it ≡ item.Let line node name params marks notes body → ns ≡ notes → Decided (definition_of cases params ns body) r → r ≡ judgement.Cyclic found → ItemLoops cases it line found
  item_loops it line node name params marks notes ns body r found is n decided e =
      subst (λ z. ItemLoops cases z line found) (sym is)
      (refl, subst (λ z. WaitsForItself (definition_of cases params z body) found) n (subst (Decided (definition_of cases params ns body)) e decided))

  pub item_ranked : (it : DefOf Note) (line : Line) (node : Bool) (name : Name) (params : List Pat) (marks : List Mark) (notes ns : List Note) (body : BodyOf Note) (r : Judgement) (l : Numbers)
      → it ≡ item.Let line node name params marks notes body → ns ≡ notes → Decided (definition_of cases params ns body) r → r ≡ judgement.Causal l → ItemRanked cases it (Some l)
  item_ranked it line node name params marks notes ns body r l is n decided e =
      subst (λ z. ItemRanked cases z (Some l)) (sym is)
      (l, refl, subst (λ z. Ranked (definition_of cases params z body) l) n (subst (Decided (definition_of cases params ns body)) e decided))

-- items that wait for one another are not none
some_items : (d : Let) (found : List Item) → WaitsForItself d.body found → found ≢ []
some_items d [] w e = w.cyclic.1
some_items d (x ∷ xs) w e = absurd (cc e)

pub at_cycle : (f : CauseFault) (ds : List Let) → AtCycle f (Looped ds) → AtCycle f (λ line found. (found ≢ []) × Looped ds line found)
at_cycle (fault.Cyclic line found) ds u = (some_items u.1 found u.6, u)
at_cycle fault.NoMemory ds u = tt
