-- What is read is well formed.
use Rattle.std.proofs.Common.{◌≡◌, ℕ, ◌+◌, ◌-◌, ◌<◌, ◌≤◌, ◌==◌, ◌&&◌, ◌||◌, not, nat_lt, nat_le, Bool, true, false, true≢false, List, [], ◌∷◌, ◌++◌, length, slice_get, suc, Option, None, Some, refl, sym, ◌∙◌, ap, arith, subst, length-append, All, IsTrue, if◌then◌else◌}
use Rattle.std.specs.List.{list_all, list_any}
use Rattle.std.specs.Option.{option_map_or}
use Rattle.std.specs.Str.{bytes_eq}
use Rattle.std.proofs.lemmas.Bool.{eqb-true, eqb-false, leb-true}
use Rattle.std.proofs.lemmas.Slice.Eq.{bytes_eq-Decides}
use Rattle.std.proofs.lemmas.List.Folds.{list_any-append}
use Rattle.ls_base.specs.declared.Name.{Name}
use Rattle.ls_base.specs.Names.{with_name}
use Rattle.ls_base.proofs.Spellings.{slice_get-append}
use Rattle.step_code.specs.Shapes.{is_arg}
use Rattle.step_code.specs.Valid.{has_arity, is_constructor, is_case, are_different, is_enumeration, is_formed_body, is_formed}
use Rattle.step_code.specs.declared.parts.CodeBody.{CodeBody}
use Rattle.step_code.specs.declared.parts.Instr.{Instr}
use Rattle.step_code.specs.declared.parts.Instr.TheVariants as instr
use Rattle.step_code.specs.declared.parts.Slot.{Slot}
use Rattle.step_text.specs.declared.entry.Entry.{Entry}
use Rattle.step_text.specs.declared.entry.Entry.TheVariants as entry
use Rattle.step_text.specs.declared.reading.Reading.{Reading}
use Rattle.step_text.specs.declared.reading.Stage.{Stage}
use Rattle.step_text.specs.declared.reading.Stage.TheVariants.{Header, Cases, Slots, Inputs, Outputs, Bodies, BodySlots, BodyLines, Main, Over}
use Rattle.step_text.specs.Legal.{IsConstructor, IsEntry, IsInstr}
use Rattle.step_text.specs.Next.{slots_left, takes_inputs, takes_outputs, takes_bodies, empty_body, at_stage, body_goes_on, after_header, after_slots, after_slot, after_instr, after_end, all_new, is_cases, with_names, AreNumbered, TakesCases, Takes, nothing_read, draft_of}

-- ---- tests

pub and_left : (a b : Bool) → (a && b) ≡ true → a ≡ true
and_left true b h = refl
and_left false b h = h

pub and_right : (a b : Bool) → (a && b) ≡ true → b ≡ true
and_right true b h = h
and_right false b h = absurd (true≢false (sym h))

pub both : (a b : Bool) → a ≡ true → b ≡ true → (a && b) ≡ true
both a b ha hb = rw ha hb

pub all_push : {X : Type 0} (p : X → Bool) (xs : List X) (x : X) → list_all p xs ≡ true → p x ≡ true → list_all p (xs ++ x ∷ []) ≡ true
all_push p [] x h e = both (p x) true e refl
all_push p (y ∷ ys) x h e = both (p y) (list_all p (ys ++ x ∷ [])) (and_left (p y) (list_all p ys) h) (all_push p ys x (and_right (p y) (list_all p ys) h) e)

-- what a choice gives, where it gives something
pub chosen : {X : Type 0} (t : Bool) (x y : X) → (if t then Some x else None) ≡ Some y → (t ≡ true) × (x ≡ y)
chosen true x y h = (refl, cc)
chosen false x y h = absurd (cc)

positive_by : (n : ℕ) (t : Bool) → (n == 0) ≡ t → 0 < n → not t ≡ true
positive_by n true e h = let z : n ≡ 0 = eqb-true n 0 e in absurd (omega arith)
positive_by n false e h = refl

pub positive : (n : ℕ) → 0 < n → not (n == 0) ≡ true
positive n h = positive_by n (n == 0) refl h

-- ---- names

pub same_word : (q : List ℕ) → bytes_eq q q ≡ true
same_word q = (bytes_eq-Decides q q).1 refl

abbrev pub Keeps : List (List ℕ) → List (List ℕ) → Type 0
Keeps old new = (n : ℕ) (word : List ℕ) → slice_get old n ≡ Some word → slice_get new n ≡ Some word

keeps_name : (names : List (List ℕ)) (q : List ℕ) → Keeps names (with_name names q)
keeps_name names q n word e = by_test (list_any (bytes_eq q) names)
  where
    by_test : (t : Bool) → slice_get (if t then names else (names ++ q ∷ [])) n ≡ Some word
    by_test true = e
    by_test false = slice_get-append names (q ∷ []) n word e

pub keeps_names : (names words : List (List ℕ)) → Keeps names (with_names names words)
keeps_names names [] n word e = e
keeps_names names (q ∷ words) n word e = keeps_names (with_name names q) words n word (keeps_name names q n word e)

case_by : (new : List (List ℕ)) (n : ℕ) (found : Option (List ℕ)) → ((word : List ℕ) → found ≡ Some word → slice_get new n ≡ Some word) → option_map_or is_constructor found false ≡ true
    → option_map_or is_constructor (slice_get new n) false ≡ true
case_by new n None k h = absurd (true≢false (sym h))
case_by new n (Some word) k h = rw (k word refl) h

case_kept : (old new : List (List ℕ)) → Keeps old new → (ns : List Name) → list_all (is_case old) ns ≡ true → list_all (is_case new) ns ≡ true
case_kept old new k [] h = refl
case_kept old new k (n ∷ ns) h =
    both (is_case new n) (list_all (is_case new) ns) (case_by new n.0 (slice_get old n.0) (λ word e. k n.0 word e) (and_left (is_case old n) (list_all (is_case old) ns) h))
    (case_kept old new k ns (and_right (is_case old n) (list_all (is_case old) ns) h))

enumeration_kept : (old new : List (List ℕ)) → Keeps old new → (ns : List Name) → is_enumeration old ns ≡ true → is_enumeration new ns ≡ true
enumeration_kept old new k ns h =
    let front : (not (length ns == 0) && list_all (is_case old) ns) ≡ true = and_left (not (length ns == 0) && list_all (is_case old) ns) (are_different ns) h in
    both (not (length ns == 0) && list_all (is_case new) ns) (are_different ns)
    (both (not (length ns == 0)) (list_all (is_case new) ns) (and_left (not (length ns == 0)) (list_all (is_case old) ns) front)
    (case_kept old new k ns (and_right (not (length ns == 0)) (list_all (is_case old) ns) front)))
    (and_right (not (length ns == 0) && list_all (is_case old) ns) (are_different ns) h)

enumerations_kept : (old new : List (List ℕ)) → Keeps old new → (cases : List (List Name)) → list_all (is_enumeration old) cases ≡ true → list_all (is_enumeration new) cases ≡ true
enumerations_kept old new k [] h = refl
enumerations_kept old new k (ns ∷ cases) h =
    both (is_enumeration new ns) (list_all (is_enumeration new) cases) (enumeration_kept old new k ns (and_left (is_enumeration old ns) (list_all (is_enumeration old) cases) h))
    (enumerations_kept old new k cases (and_right (is_enumeration old ns) (list_all (is_enumeration old) cases) h))

-- the heads and the rests of numbered words
number_head : (names : List (List ℕ)) (word : List ℕ) (words : List (List ℕ)) (n : Name) (ns : List Name) → AreNumbered names (word ∷ words) (n ∷ ns) → slice_get names n.0 ≡ Some word
number_head names word words n ns h = cc

number_rest : (names : List (List ℕ)) (word : List ℕ) (words : List (List ℕ)) (n : Name) (ns : List Name) → AreNumbered names (word ∷ words) (n ∷ ns) → AreNumbered names words ns
number_rest names word words n ns h = cc

true_of : (b : Bool) → IsTrue b → b ≡ true
true_of b h = h

numbered_cases : (names words : List (List ℕ)) (ns : List Name) → AreNumbered names words ns → All IsConstructor words → list_all (is_case names) ns ≡ true
numbered_cases names words [] h c = refl
numbered_cases names [] (n ∷ ns) h c = absurd (cc)
numbered_cases names (word ∷ words) (n ∷ ns) h c =
    let at = number_head names word words n ns h in
    let is : is_constructor word ≡ true = true_of (is_constructor word) (c 0 [] (omega arith)).1 in
    both (is_case names n) (list_all (is_case names) ns) (rw at is) (numbered_cases names words ns (number_rest names word words n ns h) (λ k d lt. c (suc k) d (omega arith)))

some_numbers : (names words : List (List ℕ)) (ns : List Name) → AreNumbered names words ns → not (length words == 0) ≡ true → not (length ns == 0) ≡ true
some_numbers names [] ns h e = absurd (true≢false (sym e))
some_numbers names (word ∷ words) [] h e = absurd (cc)
some_numbers names (word ∷ words) (n ∷ ns) h e = positive (length (n ∷ ns)) (omega arith)

or_left : (a b : Bool) → a ≡ true → (a || b) ≡ true
or_left a b e = rw e refl

or_false : (a b : Bool) → a ≡ false → b ≡ false → (a || b) ≡ false
or_false a b e f = rw e f

not_true : (b : Bool) → not b ≡ true → b ≡ false
not_true true h = absurd (true≢false (sym h))
not_true false h = refl

among_more : (q x : List ℕ) (before : List (List ℕ)) → list_any (bytes_eq q) before ≡ true → list_any (bytes_eq q) (before ++ x ∷ []) ≡ true
among_more q x before e = list_any-append (bytes_eq q) before (x ∷ []) ∙ or_left (list_any (bytes_eq q) before) (list_any (bytes_eq q) (x ∷ [])) e

-- the number of a word that stands before is none of those that follow
none_same : (names : List (List ℕ)) (word : List ℕ) (n : Name) → slice_get names n.0 ≡ Some word → (words : List (List ℕ)) (ns : List Name) (before : List (List ℕ))
    → list_any (bytes_eq word) before ≡ true → all_new before words ≡ true → AreNumbered names words ns → list_any (λ (other : Name). other.0 == n.0) ns ≡ false
none_same names word n at words [] before among new h = refl
none_same names word n at [] (m ∷ ns) before among new h = absurd (cc)
none_same names word n at (x ∷ words) (m ∷ ns) before among new h =
    let first = and_left (not (list_any (bytes_eq x) before)) (all_new (before ++ x ∷ []) words) new in
    or_false (m.0 == n.0) (list_any (λ (other : Name). other.0 == n.0) ns)
    (differs (m.0 == n.0) refl (number_head names x words m ns h) (not_true (list_any (bytes_eq x) before) first))
    (none_same names word n at words ns (before ++ x ∷ []) (among_more word x before among)
    (and_right (not (list_any (bytes_eq x) before)) (all_new (before ++ x ∷ []) words) new) (number_rest names x words m ns h))
  where
    differs : (t : Bool) → (m.0 == n.0) ≡ t → slice_get names m.0 ≡ Some x → list_any (bytes_eq x) before ≡ false → t ≡ false
    differs false e there absent = refl
    differs true e there absent =
        let same : m.0 ≡ n.0 = eqb-true m.0 n.0 e in
        let is : x ≡ word = some_is (sym there ∙ ap (slice_get names) same ∙ at) in
        absurd (true≢false (sym (ap (λ (q : List ℕ). list_any (bytes_eq q) before) is ∙ among) ∙ absent))
      where
        some_is : Some x ≡ Some word → x ≡ word
        some_is s = cc

numbered_different : (names words : List (List ℕ)) (ns : List Name) (before : List (List ℕ)) → all_new before words ≡ true → AreNumbered names words ns
    → are_different ns ≡ true
numbered_different names words [] before new h = refl
numbered_different names [] (n ∷ ns) before new h = absurd (cc)
numbered_different names (word ∷ words) (n ∷ ns) before new h =
    let rest = and_right (not (list_any (bytes_eq word) before)) (all_new (before ++ word ∷ []) words) new in
    let more = number_rest names word words n ns h in
    let among : list_any (bytes_eq word) (before ++ word ∷ []) ≡ true = list_any-append (bytes_eq word) before (word ∷ []) ∙ or_right (list_any (bytes_eq word) before) (bytes_eq word word || false) (or_left (bytes_eq word word) false (same_word word)) in
    let none = none_same names word n (number_head names word words n ns h) words ns (before ++ word ∷ []) among rest more in
    both (not (list_any (λ (other : Name). other.0 == n.0) ns)) (are_different ns) (ap not none) (numbered_different names words ns (before ++ word ∷ []) rest more)
  where
    or_right : (a b : Bool) → b ≡ true → (a || b) ≡ true
    or_right true b e = refl
    or_right false b e = e

pub numbered_enumeration : (names words : List (List ℕ)) (ns : List Name) → AreNumbered names words ns → All IsConstructor words
    → not (length words == 0) ≡ true → all_new [] words ≡ true → is_enumeration names ns ≡ true
numbered_enumeration names words ns h c some new =
    both (not (length ns == 0) && list_all (is_case names) ns) (are_different ns)
    (both (not (length ns == 0)) (list_all (is_case names) ns) (some_numbers names words ns h some) (numbered_cases names words ns h c))
    (numbered_different names words ns [] new h)

-- ---- what was read

-- a body that has all its slots has one
abbrev pub HasSlot : Stage → CodeBody → Type 0
HasSlot (BodyLines left) body = 0 < length body.slots
HasSlot _ body = Unit {0}

-- the slots are at most so many, with those that are left
abbrev pub FewSlots : Stage → List Slot → Type 0
FewSlots Header slots = slots ≡ []
FewSlots Cases slots = slots ≡ []
FewSlots (Slots left) slots = (0 < left) × (length slots + left ≤ 1000000)
FewSlots _ slots = length slots ≤ 1000000

abbrev pub is_own : Slot → Bool
is_own slot = not (is_arg slot.kind)

pub record IsSound (r : Reading) : Type 0 where
  pub cases : list_all (is_enumeration r.names) r.cases ≡ true
  pub slots : list_all is_own r.slots ≡ true
  pub bodies : list_all is_formed_body r.bodies ≡ true
  pub list : list_all has_arity r.body.list ≡ true
  pub main : list_all has_arity r.main ≡ true
  pub begun : HasSlot r.stage r.body
  pub few : FewSlots r.stage r.slots

pub sound_nothing : IsSound nothing_read
sound_nothing = record { cases = refl; slots = refl; bodies = refl; list = refl; main = refl; begun = tt; few = refl }

-- what a stage with no condition of its own keeps
abbrev IsFree : Stage → Type 0
IsFree stage = (body : CodeBody) → HasSlot stage body

few_left : (left : ℕ) (slots : List Slot) → length slots + left ≤ 1000000 → FewSlots (slots_left left) slots
few_left left slots h = by_test (left == 0) refl
  where
    by_test : (t : Bool) → (left == 0) ≡ t → FewSlots (if t then Inputs else Slots left) slots
    by_test true e = omega arith
    by_test false e = let some : left ≡ 0 → ⊥ = eqb-false left 0 e in (omega arith, h)

has_left : (left : ℕ) (body : CodeBody) → HasSlot (slots_left left) body
has_left left body = by_test (left == 0)
  where
    by_test : (t : Bool) → HasSlot (if t then Inputs else Slots left) body
    by_test true = tt
    by_test false = tt

some_header : (s : Stage) (old new : Reading) → old.stage ≡ s → IsSound old → after_header s old ≡ Some new → IsSound new
some_header Header old new es so h =
    let few : FewSlots Header old.slots = subst (λ (s : Stage). FewSlots s old.slots) es so.few in
    let is : at_stage old Cases ≡ new = cc in
    subst IsSound is (record { cases = so.cases; slots = so.slots; bodies = so.bodies; list = so.list; main = so.main; begun = tt; few = few })
some_header _ old new es so h = absurd (cc)

some_slots : (s : Stage) (old new : Reading) (count : ℕ) → old.stage ≡ s → IsSound old → after_slots s old count ≡ Some new → IsSound new
some_slots Cases old new count es so h =
    let few : old.slots ≡ [] = subst (λ (s : Stage). FewSlots s old.slots) es so.few in
    let is = chosen (nat_le count 1000000) (at_stage old (slots_left count)) new h in
    let less : count ≤ 1000000 = leb-true count 1000000 is.0 in
    let none : length old.slots ≡ 0 = ap length few in
    subst IsSound is.1 (record { cases = so.cases; slots = so.slots; bodies = so.bodies; list = so.list; main = so.main; begun = has_left count old.body; few = few_left count old.slots (omega arith) })
some_slots _ old new count es so h = absurd (cc)

-- what a body brings
sound_body : (old : Reading) (body : CodeBody) (slots lines : ℕ) → IsSound old → length old.slots ≤ 1000000 → 0 < length body.slots → list_all has_arity body.list ≡ true
    → IsSound (body_goes_on (record old { body = body }) slots lines)
sound_body old body slots lines so few some list = by_slots (nat_lt 0 slots) (nat_lt 0 lines)
  where
    by_slots : (t u : Bool) → IsSound (if t then at_stage (record old { body = body }) (BodySlots slots lines) else (if u then at_stage (record old { body = body }) (BodyLines lines) else record old { stage = Bodies; bodies = old.bodies ++ body ∷ []; body = empty_body }))
    by_slots true u = record { cases = so.cases; slots = so.slots; bodies = so.bodies; list = list; main = so.main; begun = tt; few = few }
    by_slots false true = record { cases = so.cases; slots = so.slots; bodies = so.bodies; list = list; main = so.main; begun = some; few = few }
    by_slots false false = record {
      cases = so.cases;
      slots = so.slots;
      bodies = all_push is_formed_body old.bodies body so.bodies (both (not (length body.slots == 0)) (list_all has_arity body.list) (positive (length body.slots) some) list);
      list = refl;
      main = so.main;
      begun = tt;
      few = few;
    }

some_slot : (s : Stage) (old new : Reading) (at : ℕ) (slot : Slot) → old.stage ≡ s → IsSound old → after_slot s old at slot ≡ Some new → IsSound new
some_slot (Slots left) old new at slot es so h =
    let few : (0 < left) × (length old.slots + left ≤ 1000000) = subst (λ (s : Stage). FewSlots s old.slots) es so.few in
    let is = chosen ((at == length old.slots) && not (is_arg slot.kind)) (record old { slots = old.slots ++ slot ∷ []; stage = slots_left (left - 1) }) new h in
    let own : is_own slot ≡ true = and_right (at == length old.slots) (not (is_arg slot.kind)) is.0 in
    let some : 0 < left = few.0 in
    let most : length old.slots + left ≤ 1000000 = few.1 in
    let long : length (old.slots ++ slot ∷ []) ≡ length old.slots + 1 = length-append old.slots (slot ∷ []) in
    subst IsSound is.1 (record { cases = so.cases; slots = all_push is_own old.slots slot so.slots own; bodies = so.bodies; list = so.list; main = so.main; begun = has_left (left - 1) old.body; few = few_left (left - 1) (old.slots ++ slot ∷ []) (omega arith) })
some_slot (BodySlots left lines) old new at slot es so h =
    let few : length old.slots ≤ 1000000 = subst (λ (s : Stage). FewSlots s old.slots) es so.few in
    let is = chosen (at == length old.body.slots) (body_goes_on (record old { body = record { slots = old.body.slots ++ slot ∷ []; list = old.body.list } }) (left - 1) lines) new h in
    let long : length (old.body.slots ++ slot ∷ []) ≡ length old.body.slots + 1 = length-append old.body.slots (slot ∷ []) in
    subst IsSound is.1 (sound_body old (record { slots = old.body.slots ++ slot ∷ []; list = old.body.list }) (left - 1) lines so few (omega arith) so.list)
some_slot _ old new at slot es so h = absurd (cc)

-- a stage at which all slots were read
abbrev HasAll : Stage → Type 0
HasAll stage = (slots : List Slot) → FewSlots stage slots → length slots ≤ 1000000

all_inputs : (s : Stage) → takes_inputs s ≡ true → HasAll s
all_inputs Inputs h = λ slots few. few
all_inputs _ h = absurd (cc)

all_outputs : (s : Stage) → takes_outputs s ≡ true → HasAll s
all_outputs Inputs h = λ slots few. few
all_outputs Outputs h = λ slots few. few
all_outputs _ h = absurd (cc)

all_bodies : (s : Stage) → takes_bodies s ≡ true → HasAll s
all_bodies Inputs h = λ slots few. few
all_bodies Outputs h = λ slots few. few
all_bodies Bodies h = λ slots few. few
all_bodies _ h = absurd (cc)

some_instr : (s : Stage) (old new : Reading) (line : Instr) → old.stage ≡ s → IsSound old → has_arity line ≡ true → after_instr s old line ≡ Some new → IsSound new
some_instr (BodyLines left) old new line es so arity h =
    let few : length old.slots ≤ 1000000 = subst (λ (s : Stage). FewSlots s old.slots) es so.few in
    let some : 0 < length old.body.slots = subst (λ (s : Stage). HasSlot s old.body) es so.begun in
    let is : body_goes_on (record old { body = record { slots = old.body.slots; list = old.body.list ++ line ∷ [] } }) 0 (left - 1) ≡ new = cc in
    subst IsSound is (sound_body old (record { slots = old.body.slots; list = old.body.list ++ line ∷ [] }) 0 (left - 1) so few some (all_push has_arity old.body.list line so.list arity))
some_instr (Main left) old new line es so arity h =
    let few : length old.slots ≤ 1000000 = subst (λ (s : Stage). FewSlots s old.slots) es so.few in
    let is = chosen (nat_lt 0 left) (record old { stage = Main (left - 1); main = old.main ++ line ∷ [] }) new h in
    subst IsSound is.1 (record { cases = so.cases; slots = so.slots; bodies = so.bodies; list = so.list; main = all_push has_arity old.main line so.main arity; begun = tt; few = few })
some_instr _ old new line es so arity h = absurd (cc)

some_end : (s : Stage) (old new : Reading) → old.stage ≡ s → IsSound old → after_end s old ≡ Some new → IsSound new
some_end (Main left) old new es so h =
    let few : length old.slots ≤ 1000000 = subst (λ (s : Stage). FewSlots s old.slots) es so.few in
    let is = chosen (left == 0) (at_stage old Over) new h in
    subst IsSound is.1 (record { cases = so.cases; slots = so.slots; bodies = so.bodies; list = so.list; main = so.main; begun = tt; few = few })
some_end _ old new es so h = absurd (cc)

arity_true : (line : Instr) → IsInstr line → has_arity line ≡ true
arity_true (instr.Op1 op d a) h = true_of (has_arity (instr.Op1 op d a)) h.2
arity_true (instr.Op2 op d a b) h = true_of (has_arity (instr.Op2 op d a b)) h.3
arity_true (instr.Op3 op d a b c) h = true_of (has_arity (instr.Op3 op d a b c)) h.4
arity_true (instr.Const d leaf) h = refl
arity_true (instr.Copy d a) h = refl
arity_true (instr.Test d a leaf) h = refl
arity_true (instr.When g lines) h = refl
arity_true (instr.Call body window) h = refl

some_cases : (old new : Reading) (words : List (List ℕ)) → IsSound old → All IsConstructor words → TakesCases old words new → IsSound new
some_cases old new words so c t =
    let front = and_left (is_cases old.stage && not (length words == 0)) (all_new [] words) t.may in
    let fresh = and_right (is_cases old.stage && not (length words == 0)) (all_new [] words) t.may in
    let some = and_right (is_cases old.stage) (not (length words == 0)) front in
    let names = with_names old.names words in
    let is : record old { names = with_names old.names words; cases = old.cases ++ t.numbers ∷ [] } ≡ new = sym t.is in
    let named : AreNumbered (with_names old.names words) words t.numbers = subst (λ (r : Reading). AreNumbered r.names words t.numbers) t.is t.named in
    subst IsSound is (record {
      cases = all_push (is_enumeration (with_names old.names words)) old.cases t.numbers (enumerations_kept old.names (with_names old.names words) (keeps_names old.names words) old.cases so.cases)
          (numbered_enumeration (with_names old.names words) words t.numbers named c some fresh);
      slots = so.slots;
      bodies = so.bodies;
      list = so.list;
      main = so.main;
      begun = so.begun;
      few = so.few;
    })

pub sound_next : (old new : Reading) (e : Entry) → IsSound old → IsEntry e → Takes old e new → IsSound new
sound_next old new entry.Header so legal t = some_header old.stage old new refl so t
sound_next old new (entry.Cases words) so legal t = some_cases old new words so legal t
sound_next old new (entry.Slots count) so legal t = some_slots old.stage old new count refl so t
sound_next old new (entry.Slot at slot) so legal t = some_slot old.stage old new at slot refl so t
sound_next old new (entry.In line) so legal t =
    let is = chosen (takes_inputs old.stage) (record old { inputs = old.inputs ++ line ∷ [] }) new t in
    subst IsSound is.1 (record { cases = so.cases; slots = so.slots; bodies = so.bodies; list = so.list; main = so.main; begun = so.begun; few = so.few })
sound_next old new (entry.Out line) so legal t =
    let is = chosen (takes_outputs old.stage) (record old { stage = Outputs; outputs = old.outputs ++ line ∷ [] }) new t in
    subst IsSound is.1 (record { cases = so.cases; slots = so.slots; bodies = so.bodies; list = so.list; main = so.main; begun = tt; few = all_outputs old.stage is.0 old.slots so.few })
sound_next old new (entry.Body at slots lines) so legal t =
    let is = chosen (takes_bodies old.stage && (at == length old.bodies) && nat_lt 0 slots) (record old { stage = BodySlots slots lines; body = empty_body }) new t in
    let may = and_left (takes_bodies old.stage) (at == length old.bodies) (and_left (takes_bodies old.stage && (at == length old.bodies)) (nat_lt 0 slots) is.0) in
    subst IsSound is.1 (record { cases = so.cases; slots = so.slots; bodies = so.bodies; list = refl; main = so.main; begun = tt; few = all_bodies old.stage may old.slots so.few })
sound_next old new (entry.Code lines) so legal t =
    let is = chosen (takes_bodies old.stage) (at_stage old (Main lines)) new t in
    subst IsSound is.1 (record { cases = so.cases; slots = so.slots; bodies = so.bodies; list = so.list; main = so.main; begun = tt; few = all_bodies old.stage is.0 old.slots so.few })
sound_next old new (entry.Instr line) so legal t = some_instr old.stage old new line refl so (arity_true line legal) t
sound_next old new entry.End so legal t = some_end old.stage old new refl so t

is_true : (b : Bool) → b ≡ true → IsTrue b
is_true b e = e

-- a text that is read whole gives well-formed code
pub sound_formed : (r : Reading) → IsSound r → IsTrue (is_formed (draft_of (record r { stage = Over })))
sound_formed r so = is_true _ (both (list_all (is_enumeration r.names) r.cases && list_all is_own r.slots && list_all is_formed_body r.bodies) (list_all has_arity r.main)
    (both (list_all (is_enumeration r.names) r.cases && list_all is_own r.slots) (list_all is_formed_body r.bodies)
    (both (list_all (is_enumeration r.names) r.cases) (list_all is_own r.slots) so.cases so.slots) so.bodies) so.main)
