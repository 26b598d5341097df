-- A file of the grammar is read, with its one tree, and a fault is the first place where no definition begins.
use Rattle.std.proofs.Common.{◌≡◌, ℕ, zero, suc, ◌+◌, ◌-◌, ◌≤◌, List, [], ◌∷◌, ◌++◌, Some, None, Result, Ok, Err, drop, length, length-append, length-drop, refl, sym, ◌∙◌, ap, subst, arith, append_assoc, unwrap_or}
use Rattle.std.specs.Prelude.{option_map}
use Rattle.std.proofs.lemmas.List.{length-map, drop-drop, drop_at}
use Rattle.ls_ast.specs.declared.tree.DefOf.{DefOf}
use Rattle.ls_ast.specs.declared.tree.Plain.{Plain}
use Rattle.ls_base.specs.declared.Line.{Line}
use Rattle.ls_lexer.specs.declared.token.Token.{Token}
use Rattle.ls_parser.specs.declared.definitions.SyntaxFault.{SyntaxFault}
use Rattle.ls_parser.specs.declared.definitions.SyntaxFault.TheVariants as fault
use Rattle.ls_parser.specs.Answers.{IfSyntax, IsAnswer, IsSyntaxAt}
use Rattle.ls_parser.specs.Definitions as r
use Rattle.ls_parser.specs.Definitions.{IsRead}
use Rattle.ls_parser.specs.Grammar.{IsDefinition, MayFollow, IsRow, IsFile, StopsAt, NoneBegins}
use Rattle.ls_parser.proofs.Front.{append_nil, none_some, le_refl}
use Rattle.ls_parser.proofs.FindDefs.{words, follows_end, followed_found}
use Rattle.ls_parser.proofs.SoundDefs.{file_read, Outcome}

words_append : (front back : List (Line × Token)) → words (front ++ back) ≡ words front ++ words back
words_append [] back = refl
words_append (t ∷ front) back = ap (λ ts. t.1 ∷ ts) (words_append front back)

module _ (all : List (Line × Token)) where
  -- a definition that may end where it does is read
  one_found : (d : DefOf Plain) (t : Line × Token) (front back : List (Line × Token)) → IsDefinition d (t ∷ front) → MayFollow back → length ((t ∷ front) ++ back) ≤ length all
      → r.followed (length all) t.0 (words ((t ∷ front) ++ back)) ≡ Some (d, words back)
  one_found d t front back one next few =
      let f = follows_end back next in
      let e = words_append (t ∷ front) back in
      let l : length (words ((t ∷ front) ++ back)) ≡ length ((t ∷ front) ++ back) = length-map ((t ∷ front) ++ back) (λ p. p.1) in
      followed_found (length all) t.0 d (words ((t ∷ front) ++ back)) (words back) f.0 f.1 (subst (λ k. k ≤ length all) (sym l) few) (words (t ∷ front), e, one)

  suffix_short : (a : ℕ) (ts : List (Line × Token)) → ts ≡ drop a all → length ts ≤ length all
  suffix_short a ts is = let l : length ts ≡ length all - a = ap length is ∙ length-drop a all in omega arith

  -- the place behind a definition
  behind_place : (a : ℕ) (t : Line × Token) (front back : List (Line × Token)) → (t ∷ front) ++ back ≡ drop a all → drop (length all - length (words back)) all ≡ back
  behind_place a t front back is =
      let m = length (t ∷ front) in
      let l1 : length ((t ∷ front) ++ back) ≡ length all - a = ap length is ∙ length-drop a all in
      let l2 : length ((t ∷ front) ++ back) ≡ length (t ∷ front) + length back = length-append (t ∷ front) back in
      let l3 : length (t ∷ front) ≡ length front + 1 = omega arith in
      let l4 : length (words back) ≡ length back = length-map back (λ p. p.1) in
      let l5 : length all - length (words back) ≡ a + length (t ∷ front) = omega arith in
      ap (λ k. drop k all) l5 ∙ sym (drop-drop (length (t ∷ front)) a all) ∙ ap (drop (length (t ∷ front))) (sym is) ∙ drop_at (t ∷ front) back (length (t ∷ front)) refl

  -- what is read of a row of definitions before what is left, where that is known of what is left alone
  row_found : (left : List (Line × Token)) (out : List (DefOf Plain) → Result (List (DefOf Plain)) Line)
      → ((k : ℕ) (done : List (DefOf Plain)) (a : ℕ) → left ≡ drop a all → length left ≤ k → r.file_from all k done left ≡ out done)
      → (defs : List (DefOf Plain)) (k : ℕ) (done : List (DefOf Plain)) (ts : List (Line × Token)) (a : ℕ) → ts ≡ drop a all → length ts ≤ k → IsRow defs ts left → r.file_from all k done ts ≡ out (done ++ defs)
  row_found left out end [] k done ts a is few row =
      ap (λ ts. r.file_from all k done ts) row
      ∙ end k done a (sym row ∙ is) (subst (λ ts. length ts ≤ k) row few)
      ∙ ap out (sym (append_nil done))
  row_found left out end (d ∷ ds) k done ts a is few row = step (row_found left out end ds) row.0 row.1 row.2 row.3 row.4 row.5 k few
    where
      step : ((k : ℕ) (done : List (DefOf Plain)) (ts : List (Line × Token)) (a : ℕ) → ts ≡ drop a all → length ts ≤ k → IsRow ds ts left → r.file_from all k done ts ≡ out (done ++ ds))
          → (front back : List (Line × Token)) → ts ≡ front ++ back → IsDefinition d front → MayFollow back → IsRow ds back left → (k : ℕ) → length ts ≤ k → r.file_from all k done ts ≡ out (done ++ d ∷ ds)
      step ih [] back split one next more k few = absurd one
      step ih (t ∷ front) back split one next more zero few =
          let l : length ts ≡ length ((t ∷ front) ++ back) = ap length split in
          let l2 : length ((t ∷ front) ++ back) ≡ length (front ++ back) + 1 = omega arith in
          absurd (omega arith)
      step ih (t ∷ front) back split one next more (suc k) few =
          let here : (t ∷ front) ++ back ≡ drop a all = sym split ∙ is in
          let place = behind_place a t front back here in
          let l : length ts ≡ length ((t ∷ front) ++ back) = ap length split in
          let l2 : length ((t ∷ front) ++ back) ≡ length (front ++ back) + 1 = omega arith in
          let l3 : length (front ++ back) ≡ length front + length back = length-append front back in
          let less : length back ≤ k = omega arith in
          ap (λ ts. r.file_from all (suc k) done ts) split
          ∙ ap (λ p. unwrap_or (option_map (λ z. r.file_from all k (done ++ z.0 ∷ []) (drop (length all - length z.1) all)) p) (Err t.0)) (one_found d t front back one next (suffix_short a ((t ∷ front) ++ back) here))
          ∙ ap (λ ts. r.file_from all k (done ++ d ∷ []) ts) place
          ∙ ih k (done ++ d ∷ []) back (length all - length (words back)) (sym place) less more
          ∙ ap out (append_assoc done (d ∷ []) ds)

  at_end : (k : ℕ) (done : List (DefOf Plain)) (a : ℕ) → [] ≡ drop a all → length {A = Line × Token} [] ≤ k → r.file_from all k done [] ≡ Ok done
  at_end zero done a is few = refl
  at_end (suc k) done a is few = refl

  whole_found : (defs : List (DefOf Plain)) → IsFile defs all → r.file_from all (length all) [] all ≡ Ok defs
  whole_found defs file = row_found [] Ok at_end defs (length all) [] all 0 refl (le_refl (length all)) file

  -- where no definition begins, what the rest of the file is
  only_err : (done : List (DefOf Plain)) (t : Line × Token) (left : List (Line × Token)) → NoneBegins (t ∷ left) → (out : Result (List (DefOf Plain)) Line) → Outcome all done (t ∷ left) out → out ≡ Err t.0
  only_err done t left none (Ok defs) ([], is, row) = absurd (cc)
  only_err done t left none (Ok defs) (d ∷ ds, is, row) = absurd (none d row.0 row.1 row.2 row.3 row.4)
  only_err done t left none (Err line) ([], u, back, at, row, unread, few) =
      let same : u ≡ t = cc in
      ap Err (sym at ∙ ap (λ (t : Line × Token). t.0) same)
  only_err done t left none (Err line) (d ∷ ds, u, back, at, row, unread, few) = absurd (none d row.0 row.1 row.2 row.3 row.4)

  at_stop : (t : Line × Token) (left : List (Line × Token)) → NoneBegins (t ∷ left)
      → (k : ℕ) (done : List (DefOf Plain)) (a : ℕ) → t ∷ left ≡ drop a all → length (t ∷ left) ≤ k → r.file_from all k done (t ∷ left) ≡ Err t.0
  at_stop t left none k done a is few =
      only_err done t left none (r.file_from all k done (t ∷ left)) (file_read all k done (t ∷ left) a is few (r.file_from all k done (t ∷ left)) refl)

  stop_found : (line : Line) → StopsAt all line → r.file_from all (length all) [] all ≡ Err line
  stop_found line (defs, t, left, at, row, none) =
      row_found (t ∷ left) (λ done. Err t.0) (at_stop t left none) defs (length all) [] all 0 refl (le_refl (length all)) row
      ∙ ap Err at

  ok_one : {X : Type 0} (a b : X) → ◌≡◌ {A = Result X Line} (Ok a) (Ok b) → a ≡ b
  ok_one a b e = cc

  err_ok : (defs : List (DefOf Plain)) (line : Line) → ◌≡◌ {A = Result (List (DefOf Plain)) Line} (Err line) (Ok defs) → ⊥
  err_ok defs line e = cc

  err_one : (a b : Line) → ◌≡◌ {A = Result (List (DefOf Plain)) Line} (Err a) (Err b) → a ≡ b
  err_one a b e = cc

  pub answer_is : (result : Result (List (DefOf Plain)) SyntaxFault) → IsRead result (r.file_from all (length all) [] all) → (defs : List (DefOf Plain)) → IsFile defs all → IsAnswer {X = List (DefOf Plain)} (λ ds. ds) result defs
  answer_is (Ok found) e defs file = ok_one found defs (sym e ∙ whole_found defs file)
  answer_is (Err (fault.Syntax line)) e defs file = err_ok defs line (sym e ∙ whole_found defs file)
  answer_is (Err fault.NoMemory) e defs file = tt

  pub stop_is : (result : Result (List (DefOf Plain)) SyntaxFault) → IsRead result (r.file_from all (length all) [] all) → (line : Line) → StopsAt all line → IsSyntaxAt result line
  stop_is (Ok defs) e line stop = err_ok defs line (sym (stop_found line stop) ∙ e)
  stop_is (Err (fault.Syntax found)) e line stop = err_one found line (sym e ∙ stop_found line stop)
  stop_is (Err fault.NoMemory) e line stop = tt

  none_begins : (t : Line × Token) (left : List (Line × Token)) → length (t ∷ left) ≤ length all → r.followed (length all) t.0 (words (t ∷ left)) ≡ None → NoneBegins (t ∷ left)
  none_begins t left few none d [] back split one next = absurd one
  none_begins t left few none d (u ∷ front) back split one next =
      let same : t ≡ u = heads t u left (front ++ back) split in
      let found = one_found d u front back one next (subst (λ ts. length ts ≤ length all) split few) in
      none_some (d, words back) (sym none ∙ (λ i. r.followed (length all) (same i).0 (words (split i))) ∙ found)
    where
      heads : (t u : Line × Token) (ts us : List (Line × Token)) → t ∷ ts ≡ u ∷ us → t ≡ u
      heads t u ts us e = cc

  stops : (line : Line) → Outcome all [] all (Err line) → StopsAt all line
  stops line o = (o.0, o.1, o.2, o.3, o.4, none_begins o.1 o.2 o.6 o.5)

  pub fault_is : (result : Result (List (DefOf Plain)) SyntaxFault) → IsRead result (r.file_from all (length all) [] all) → IfSyntax result (λ line. StopsAt all line)
  fault_is (Ok defs) e = tt
  fault_is (Err (fault.Syntax line)) e = stops line (file_read all (length all) [] all 0 refl (le_refl (length all)) (Err line) e)
  fault_is (Err fault.NoMemory) e = tt

-- a row of tokens is at most one file
pub one_tree : (ts : List (Line × Token)) (a b : List (DefOf Plain)) → IsFile a ts → IsFile b ts → a ≡ b
one_tree ts a b p q = ok_one ts a b (sym (whole_found ts a p) ∙ whole_found ts b q)

-- a row of tokens stops in at most one line
pub one_stop : (ts : List (Line × Token)) (a b : Line) → StopsAt ts a → StopsAt ts b → a ≡ b
one_stop ts a b p q = err_one ts a b (sym (stop_found ts a p) ∙ stop_found ts b q)

-- and in none where it is a file
pub no_file : (ts : List (Line × Token)) (defs : List (DefOf Plain)) (line : Line) → IsFile defs ts → StopsAt ts line → ⊥
no_file ts defs line p q = err_ok ts defs line (sym (stop_found ts line q) ∙ whole_found ts defs p)
