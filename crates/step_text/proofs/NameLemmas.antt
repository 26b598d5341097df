-- Names that are added.
use Rattle.std.proofs.Common.{◌≡◌, ℕ, ◌+◌, ◌<◌, ◌&&◌, not, Bool, true, false, true≢false, List, [], ◌∷◌, ◌++◌, length, slice_get, get_or, take, drop, suc, Option, None, Some, IfSome, IfNone, is_some, Contains, refl, sym, ◌∙◌, ap, subst, add-one, drop-cons, ◌||◌}
use Rattle.std.specs.List.{list_any}
use Rattle.std.specs.Str.{bytes_eq}
use Rattle.std.proofs.lemmas.Cmp.{nat_list_eq_equiv}
use Rattle.std.proofs.lemmas.List.{take_more}
use Rattle.std.proofs.lemmas.Map.Views.{list_any-from_Contains}
use Rattle.std.proofs.lemmas.Slice.Eq.{bytes_eq-Decides}
use Rattle.ls_base.specs.declared.Name.{Name}
use Rattle.ls_base.specs.Names.{with_name}
use Rattle.ls_base.proofs.Spellings.{there, with_new}
use Rattle.step_text.specs.Next.{all_new, with_names, AreNumbered}
use Rattle.step_text.proofs.Formed.{Keeps}

-- the word at a place stands in front of those behind it, and behind those before it
record IsNext (words : List (List ℕ)) (i : ℕ) (word : List ℕ) : Type 0 where
  rest : drop i words ≡ word ∷ drop (i + 1) words
  front : take (i + 1) words ≡ take i words ++ word ∷ []

word_at : (words : List (List ℕ)) (i : ℕ) (item word : List ℕ) → i < length words → item ≡ get_or words i item → word ≡ item → IsNext words i word
word_at words i item word lt is same = record {
  rest = rw add-one (drop-cons words i item lt) ∙ ap (λ (w : List ℕ). w ∷ drop (i + 1) words) (sym is ∙ sym same);
  front = take_more words i item lt ∙ ap (λ (w : List ℕ). take i words ++ w ∷ []) (sym is ∙ sym same);
}

pub name_added : (words : List (List ℕ)) (i : ℕ) (item word : List ℕ) (start old new : List (List ℕ)) → i < length words → item ≡ get_or words i item → word ≡ item → new ≡ with_name old word
    → start ≡ with_names old (drop i words) → start ≡ with_names new (drop (i + 1) words)
name_added words i item word start old new lt is same added so =
    let at = word_at words i item word lt is same in
    so ∙ ap (with_names old) at.rest ∙ ap (λ (ns : List (List ℕ)). with_names ns (drop (i + 1) words)) (sym added)

numbers_kept : (old new : List (List ℕ)) → Keeps old new → (words : List (List ℕ)) (ns : List Name) → AreNumbered old words ns → AreNumbered new words ns
numbers_kept old new k [] [] h = refl
numbers_kept old new k [] (n ∷ ns) h = absurd (cc)
numbers_kept old new k (word ∷ words) [] h = absurd (cc)
numbers_kept old new k (word ∷ words) (n ∷ ns) h =
    let at : slice_get old n.0 ≡ Some word = cc in
    let rest : AreNumbered old words ns = cc in
    let one : slice_get new n.0 ≡ Some word = k n.0 word at in
    let more : AreNumbered new words ns = numbers_kept old new k words ns rest in
    cc

numbers_push : (names words : List (List ℕ)) (ns : List Name) (word : List ℕ) (n : Name) → AreNumbered names words ns → slice_get names n.0 ≡ Some word → AreNumbered names (words ++ word ∷ []) (ns ++ n ∷ [])
numbers_push names [] [] word n h e = ap (λ (o : Option (List ℕ)). o ∷ []) e
numbers_push names [] (m ∷ ns) word n h e = absurd (cc)
numbers_push names (w ∷ words) [] word n h e = absurd (cc)
numbers_push names (w ∷ words) (m ∷ ns) word n h e =
    let at : slice_get names m.0 ≡ Some w = cc in
    let rest : AreNumbered names words ns = cc in
    let more : AreNumbered names (words ++ word ∷ []) (ns ++ n ∷ []) = numbers_push names words ns word n rest e in
    cc

pub number_added : (words : List (List ℕ)) (i : ℕ) (item word : List ℕ) (old new : List (List ℕ)) (done : List Name) (n : Name) → i < length words → item ≡ get_or words i item → word ≡ item
    → Keeps old new → slice_get new n.0 ≡ Some word → AreNumbered old (take i words) done → AreNumbered new (take (i + 1) words) (done ++ n ∷ [])
number_added words i item word old new done n lt is same k e so =
    let at = word_at words i item word lt is same in
    subst (λ (ws : List (List ℕ)). AreNumbered new ws (done ++ n ∷ [])) (sym at.front) (numbers_push new (take i words) done word n (numbers_kept old new k (take i words) done so) e)

-- ---- words that are new

known_any : (found : Option Name) (names : List (List ℕ)) (word : List ℕ) → IfSome found (λ (n : Name). slice_get names n.0 ≡ Some word) → is_some found ≡ true → list_any (bytes_eq word) names ≡ true
known_any None names word h e = absurd (cc)
known_any (Some n) names word h e = list_any-from_Contains nat_list_eq_equiv word names (there names n.0 word h)

any_at : (q : List ℕ) (names : List (List ℕ)) → list_any (bytes_eq q) names ≡ true → (n : ℕ) × (slice_get names n ≡ Some q)
any_at q [] e = absurd (true≢false (sym e))
any_at q (x ∷ names) e = by_test (bytes_eq q x) refl e (any_at q names)
  where
    by_test : (t : Bool) → bytes_eq q x ≡ t → (t || list_any (bytes_eq q) names) ≡ true → (list_any (bytes_eq q) names ≡ true → (n : ℕ) × (slice_get names n ≡ Some q)) → (n : ℕ) × (slice_get (x ∷ names) n ≡ Some q)
    by_test true same h more = (0, ap (λ (w : List ℕ). Some w) (sym ((bytes_eq-Decides q x).0 same)))
    by_test false same h more = let rest = more h in (suc rest.0, rest.1)

never_any : (names : List (List ℕ)) (q : List ℕ) → (Contains names q → ⊥) → list_any (bytes_eq q) names ≡ false
never_any names q never = by_test (list_any (bytes_eq q) names) refl
  where
    by_test : (t : Bool) → list_any (bytes_eq q) names ≡ t → t ≡ false
    by_test true e = let at = any_at q names e in absurd (never (there names at.0 q at.1))
    by_test false e = refl

absent_of : (found : Option Name) (names : List (List ℕ)) (word : List ℕ) → IfNone found (Contains names word → ⊥) → is_some found ≡ false → Contains names word → ⊥
absent_of None names word h e = h
absent_of (Some n) names word h e = absurd (cc)

-- a word that is known is not new
pub known_not_new : (words : List (List ℕ)) (i : ℕ) (item word : List ℕ) (known : List (List ℕ)) (found : Option Name) → i < length words → item ≡ get_or words i item → word ≡ item
    → IfSome found (λ (n : Name). slice_get known n.0 ≡ Some word) → is_some found ≡ true → all_new known (drop i words) ≡ false
known_not_new words i item word known found lt is same h e =
    let at = word_at words i item word lt is same in
    let any = known_any found known word h e in
    ap (all_new known) at.rest ∙ rw any refl

-- a word that is not known is added behind the others
pub new_known : (words : List (List ℕ)) (i : ℕ) (item word : List ℕ) (known new : List (List ℕ)) (found : Option Name) → i < length words → item ≡ get_or words i item → word ≡ item
    → IfNone found (Contains known word → ⊥) → is_some found ≡ false → new ≡ with_name known word → known ≡ take i words → new ≡ take (i + 1) words
new_known words i item word known new found lt is same h e added so =
    let at = word_at words i item word lt is same in
    added ∙ with_new known word (absent_of found known word h e) ∙ ap (λ (ws : List (List ℕ)). ws ++ word ∷ []) so ∙ sym at.front

pub new_rest : (words : List (List ℕ)) (i : ℕ) (item word : List ℕ) (known new : List (List ℕ)) (found : Option Name) → i < length words → item ≡ get_or words i item → word ≡ item
    → IfNone found (Contains known word → ⊥) → is_some found ≡ false → new ≡ with_name known word → all_new [] words ≡ all_new known (drop i words)
    → all_new [] words ≡ all_new new (drop (i + 1) words)
new_rest words i item word known new found lt is same h e added so =
    let at = word_at words i item word lt is same in
    let never = absent_of found known word h e in
    let none = never_any known word never in
    let more : new ≡ known ++ word ∷ [] = added ∙ with_new known word never in
    so ∙ ap (all_new known) at.rest ∙ fresh (list_any (bytes_eq word) known) none ∙ ap (λ (ns : List (List ℕ)). all_new ns (drop (i + 1) words)) (sym more)
  where
    fresh : (t : Bool) → t ≡ false → (not t && all_new (known ++ word ∷ []) (drop (i + 1) words)) ≡ all_new (known ++ word ∷ []) (drop (i + 1) words)
    fresh t f = rw f refl
