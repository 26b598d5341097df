-- What a line says, by its keyword.
use Rattle.std.proofs.Common.{◌≡◌, ℕ, Bool, true, false, true≢false, List, [], ◌∷◌, ◌++◌, suc, zero, get_or, Option, None, Some, Result, Ok, Err, IfOk, IfSome, not, option_map, refl, sym, ◌∙◌, ap, arith, append_assoc, All, codes, decimal}
use Rattle.std.proofs.lemmas.Bool.{eqb-false}
use Rattle.ls_base.specs.declared.NoMemory.{NoMemory}
use Rattle.ls_ops.specs.declared.kinds.Op.{Op}
use Rattle.ls_value.specs.Spelling.{IsLeaf, code_of}
use Rattle.ls_value.specs.declared.leaf.Leaf.{Leaf}
use Rattle.step_code.specs.declared.parts.InLine.{InLine}
use Rattle.step_code.specs.declared.parts.OutLine.{OutLine}
use Rattle.step_code.specs.declared.parts.Slot.{Slot}
use Rattle.step_code.specs.declared.parts.SlotKind.{SlotKind}
use Rattle.step_code.specs.declared.parts.SlotKind.TheVariants as kind
use Rattle.step_code.specs.declared.parts.Instr.{Instr}
use Rattle.step_code.specs.declared.parts.Instr.TheVariants as instr
use Rattle.step_text.specs.Entries.{entry_words, keyword_text, instr_keyword, instr_words, keyword_of, kind_words, signal_words, on_words}
use Rattle.step_text.specs.Legal.{IsAsked, IsConstructor, IsEntry, IsInstr, IsInstrTail, IsKind, IsNumber, IsOptional, IsTail}
use Rattle.step_text.specs.declared.entry.Entry.{Entry}
use Rattle.step_text.specs.declared.entry.Entry.TheVariants as entry
use Rattle.step_text.specs.declared.entry.Keyword.{Keyword}
use Rattle.step_text.specs.declared.entry.Keyword.TheVariants as keyword

abbrev begins_instr : Keyword → Bool
begins_instr keyword.Const = true
begins_instr keyword.Copy = true
begins_instr keyword.Op = true
begins_instr keyword.Test = true
begins_instr keyword.When = true
begins_instr keyword.Call = true
begins_instr _ = false

instr_begins : (line : Instr) → begins_instr (instr_keyword line) ≡ true
instr_begins (instr.Const d leaf) = refl
instr_begins (instr.Copy d a) = refl
instr_begins (instr.Op1 op d a) = refl
instr_begins (instr.Op2 op d a b) = refl
instr_begins (instr.Op3 op d a b c) = refl
instr_begins (instr.Test d a leaf) = refl
instr_begins (instr.When g lines) = refl
instr_begins (instr.Call body window) = refl

no_instr : (line : Instr) (k : Keyword) → begins_instr k ≡ false → instr_keyword line ≡ k → ⊥
no_instr line k e h = true≢false (sym (instr_begins line) ∙ ap begins_instr h ∙ e)

module _ (ws : List (List ℕ)) (holds : Entry → Type 0) where
  pub header_tail : (ws ≡ codes "code" ∷ codes "1" ∷ [] → holds entry.Header) → (e : Entry) → IsTail keyword.Lsc ws e → holds e
  header_tail k entry.Header h = k h.1
  header_tail k (entry.Instr line) h = absurd (no_instr line keyword.Lsc refl h.0)
  header_tail k _ h = absurd (cc)

  pub type_tail : ((cases : List (List ℕ)) → All IsConstructor cases → ws ≡ cases → holds (entry.Cases cases)) → (e : Entry) → IsTail keyword.Type ws e → holds e
  type_tail k (entry.Cases cases) h = k cases h.2 h.1
  type_tail k (entry.Instr line) h = absurd (no_instr line keyword.Type refl h.0)
  type_tail k _ h = absurd (cc)

  pub slots_tail : ((n : ℕ) → IsNumber n → ws ≡ decimal n ∷ [] → holds (entry.Slots n)) → (e : Entry) → IsTail keyword.Slots ws e → holds e
  slots_tail k (entry.Slots n) h = k n h.2 h.1
  slots_tail k (entry.Instr line) h = absurd (no_instr line keyword.Slots refl h.0)
  slots_tail k _ h = absurd (cc)

  pub slot_tail : ((at : ℕ) (slot : Slot) → IsTail keyword.Slot ws (entry.Slot at slot) → holds (entry.Slot at slot)) → (e : Entry) → IsTail keyword.Slot ws e → holds e
  slot_tail k (entry.Slot at slot) h = k at slot h
  slot_tail k (entry.Instr line) h = absurd (no_instr line keyword.Slot refl h.0)
  slot_tail k _ h = absurd (cc)

  pub in_tail : ((line : InLine) → IsTail keyword.In ws (entry.In line) → holds (entry.In line)) → (e : Entry) → IsTail keyword.In ws e → holds e
  in_tail k (entry.In line) h = k line h
  in_tail k (entry.Instr line) h = absurd (no_instr line keyword.In refl h.0)
  in_tail k _ h = absurd (cc)

  pub out_tail : ((line : OutLine) → IsTail keyword.Out ws (entry.Out line) → holds (entry.Out line)) → (e : Entry) → IsTail keyword.Out ws e → holds e
  out_tail k (entry.Out line) h = k line h
  out_tail k (entry.Instr line) h = absurd (no_instr line keyword.Out refl h.0)
  out_tail k _ h = absurd (cc)

  pub body_tail : ((at slots lines : ℕ) → IsNumber at → IsNumber slots → IsNumber lines → ws ≡ decimal at ∷ decimal slots ∷ decimal lines ∷ [] → holds (entry.Body at slots lines)) → (e : Entry) → IsTail keyword.Body ws e → holds e
  body_tail k (entry.Body at slots lines) h = k at slots lines h.2.0 h.2.1 h.2.2 h.1
  body_tail k (entry.Instr line) h = absurd (no_instr line keyword.Body refl h.0)
  body_tail k _ h = absurd (cc)

  pub code_tail : ((n : ℕ) → IsNumber n → ws ≡ decimal n ∷ [] → holds (entry.Code n)) → (e : Entry) → IsTail keyword.Code ws e → holds e
  code_tail k (entry.Code n) h = k n h.2 h.1
  code_tail k (entry.Instr line) h = absurd (no_instr line keyword.Code refl h.0)
  code_tail k _ h = absurd (cc)

  pub end_tail : (ws ≡ [] → holds entry.End) → (e : Entry) → IsTail keyword.End ws e → holds e
  end_tail k entry.End h = k h.1
  end_tail k (entry.Instr line) h = absurd (no_instr line keyword.End refl h.0)
  end_tail k _ h = absurd (cc)

  -- the keyword of an instruction
  pub instr_tail : (w : Keyword) → begins_instr w ≡ true → ((line : Instr) → IsInstrTail w ws line → holds (entry.Instr line)) → (e : Entry) → IsTail w ws e → holds e
  instr_tail w b k (entry.Instr line) h = k line h
  instr_tail w b k entry.Header h = absurd (true≢false (sym b ∙ ap begins_instr (sym h.0)))
  instr_tail w b k (entry.Cases cases) h = absurd (true≢false (sym b ∙ ap begins_instr (sym h.0)))
  instr_tail w b k (entry.Slots n) h = absurd (true≢false (sym b ∙ ap begins_instr (sym h.0)))
  instr_tail w b k (entry.Slot at slot) h = absurd (true≢false (sym b ∙ ap begins_instr (sym h.0)))
  instr_tail w b k (entry.In line) h = absurd (true≢false (sym b ∙ ap begins_instr (sym h.0)))
  instr_tail w b k (entry.Out line) h = absurd (true≢false (sym b ∙ ap begins_instr (sym h.0)))
  instr_tail w b k (entry.Body at slots lines) h = absurd (true≢false (sym b ∙ ap begins_instr (sym h.0)))
  instr_tail w b k (entry.Code n) h = absurd (true≢false (sym b ∙ ap begins_instr (sym h.0)))
  instr_tail w b k entry.End h = absurd (true≢false (sym b ∙ ap begins_instr (sym h.0)))

module _ (ws : List (List ℕ)) (holds : Instr → Type 0) where
  pub const_instr : ((d : ℕ) (leaf : Leaf) → IsNumber d → IsLeaf leaf → ws ≡ decimal d ∷ code_of leaf ∷ [] → holds (instr.Const d leaf)) → (line : Instr) → IsInstrTail keyword.Const ws line → holds line
  const_instr k (instr.Const d leaf) h = k d leaf h.2.0 h.2.1 h.1
  const_instr k _ h = absurd (cc)

  pub copy_instr : ((d a : ℕ) → IsNumber d → IsNumber a → ws ≡ decimal d ∷ decimal a ∷ [] → holds (instr.Copy d a)) → (line : Instr) → IsInstrTail keyword.Copy ws line → holds line
  copy_instr k (instr.Copy d a) h = k d a h.2.0 h.2.1 h.1
  copy_instr k _ h = absurd (cc)

  pub op_instr : ((op : Op) (d a : ℕ) → IsInstr (instr.Op1 op d a) → ws ≡ instr_words (instr.Op1 op d a) → holds (instr.Op1 op d a))
      → ((op : Op) (d a b : ℕ) → IsInstr (instr.Op2 op d a b) → ws ≡ instr_words (instr.Op2 op d a b) → holds (instr.Op2 op d a b))
      → ((op : Op) (d a b c : ℕ) → IsInstr (instr.Op3 op d a b c) → ws ≡ instr_words (instr.Op3 op d a b c) → holds (instr.Op3 op d a b c))
      → (line : Instr) → IsInstrTail keyword.Op ws line → holds line
  op_instr k l m (instr.Op1 op d a) h = k op d a h.2 h.1
  op_instr k l m (instr.Op2 op d a b) h = l op d a b h.2 h.1
  op_instr k l m (instr.Op3 op d a b c) h = m op d a b c h.2 h.1
  op_instr k l m _ h = absurd (cc)

  pub test_instr : ((d a : ℕ) (leaf : Leaf) → IsNumber d → IsNumber a → IsLeaf leaf → ws ≡ decimal d ∷ decimal a ∷ code_of leaf ∷ [] → holds (instr.Test d a leaf)) → (line : Instr) → IsInstrTail keyword.Test ws line → holds line
  test_instr k (instr.Test d a leaf) h = k d a leaf h.2.0 h.2.1 h.2.2 h.1
  test_instr k _ h = absurd (cc)

  pub when_instr : ((g lines : ℕ) → IsNumber g → IsNumber lines → ws ≡ decimal g ∷ decimal lines ∷ [] → holds (instr.When g lines)) → (line : Instr) → IsInstrTail keyword.When ws line → holds line
  when_instr k (instr.When g lines) h = k g lines h.2.0 h.2.1 h.1
  when_instr k _ h = absurd (cc)

  pub call_instr : ((body window : ℕ) → IsNumber body → IsNumber window → ws ≡ decimal body ∷ decimal window ∷ [] → holds (instr.Call body window)) → (line : Instr) → IsInstrTail keyword.Call ws line → holds line
  call_instr k (instr.Call body window) h = k body window h.2.0 h.2.1 h.1
  call_instr k _ h = absurd (cc)

-- ---- clocks

on_push : (on : List (ℕ × Leaf)) (asked : ℕ × Leaf) (more : List (List ℕ)) → on_words (on ++ asked ∷ []) ++ more ≡ on_words on ++ (codes "on" ∷ decimal asked.0 ∷ code_of asked.1 ∷ more)
on_push [] asked more = refl
on_push (x ∷ on) asked more = ap (λ (ws : List (List ℕ)). codes "on" ∷ decimal x.0 ∷ code_of x.1 ∷ ws) (on_push on asked more)

-- what was read of a clock stands before what is left
pub on_more : (start now more : List (List ℕ)) (on : List (ℕ × Leaf)) (asked : ℕ × Leaf) → start ≡ on_words on ++ now → now ≡ codes "on" ∷ decimal asked.0 ∷ code_of asked.1 ∷ more
    → start ≡ on_words (on ++ asked ∷ []) ++ more
on_more start now more on asked e h = e ∙ ap (λ (ws : List (List ℕ)). on_words on ++ ws) h ∙ sym (on_push on asked more)

-- the whole clock is what was read, and what the words that are left say
pub record Left (on : List (ℕ × Leaf)) (now : List (List ℕ)) (all : List (ℕ × Leaf)) : Type 0 where
  pub rest : List (ℕ × Leaf)
  pub legal : All IsAsked rest
  pub words : now ≡ on_words rest
  pub is : all ≡ on ++ rest

pub record LeftNext (on : List (ℕ × Leaf)) (found : Option (ℕ × Leaf)) (new : List (List ℕ)) (all : List (ℕ × Leaf)) : Type 0 where
  pub asked : ℕ × Leaf
  pub is_found : found ≡ Some asked
  pub left : Left (on ++ asked ∷ []) new all

left_by : (on : List (ℕ × Leaf)) (word : List ℕ) (ws new : List (List ℕ)) (found : Option (ℕ × Leaf)) (all : List (ℕ × Leaf))
    → ((asked : ℕ × Leaf) (more : List (List ℕ)) → IsAsked asked → word ∷ ws ≡ codes "on" ∷ decimal asked.0 ∷ code_of asked.1 ∷ more → (found ≡ Some asked) × (new ≡ more))
    → (rest : List (ℕ × Leaf)) → All IsAsked rest → word ∷ ws ≡ on_words rest → all ≡ on ++ rest → LeftNext on found new all
left_by on word ws new found all k [] legal words is = absurd (cc)
left_by on word ws new found all k (asked ∷ rest) legal words is =
    let got = k asked (on_words rest) (legal 0 asked (omega arith)) words in
    record {
      asked = asked;
      is_found = got.0;
      left = record { rest = rest; legal = λ k d lt. legal (suc k) d (omega arith); words = got.1; is = is ∙ sym (append_assoc on (asked ∷ []) rest) };
    }

pub left_next : (on : List (ℕ × Leaf)) (now : List (List ℕ)) (word : List ℕ) (ws new : List (List ℕ)) (found : Option (ℕ × Leaf)) (all : List (ℕ × Leaf))
    → ((asked : ℕ × Leaf) (more : List (List ℕ)) → IsAsked asked → word ∷ ws ≡ codes "on" ∷ decimal asked.0 ∷ code_of asked.1 ∷ more → (found ≡ Some asked) × (new ≡ more))
    → now ≡ word ∷ ws → Left on now all → LeftNext on found new all
left_next on now word ws new found all k e left = left_by on word ws new found all k left.rest left.legal (sym e ∙ left.words) left.is

none_left : (on rest all : List (ℕ × Leaf)) → [] ≡ on_words rest → all ≡ on ++ rest → on ≡ all
none_left on [] all e is = sym (is ∙ append_none on)
  where
    append_none : (xs : List (ℕ × Leaf)) → xs ++ [] ≡ xs
    append_none [] = refl
    append_none (x ∷ xs) = ap (λ (ys : List (ℕ × Leaf)). x ∷ ys) (append_none xs)
none_left on (x ∷ rest) all e is = absurd (cc)

pub left_over : (on : List (ℕ × Leaf)) (now : List (List ℕ)) (all : List (ℕ × Leaf)) → now ≡ [] → Left on now all → on ≡ all
left_over on now all e left = none_left on left.rest all (sym e ∙ left.words) left.is

-- ---- signals, kinds

first_code : (x y : ℕ) (xs ys : List ℕ) (u v : List (List ℕ)) → (x ∷ xs) ∷ u ≡ (y ∷ ys) ∷ v → x ≡ y
first_code x y xs ys u v e = ap (λ (ws : List (List ℕ)). get_or (get_or ws 0 []) 0 0) e

-- the words of a clock do not begin with a signal
pub no_signal : (on : List (ℕ × Leaf)) (ws more : List (List ℕ)) → ws ≡ codes "sig" ∷ more → ws ≡ on_words on → ⊥
no_signal [] ws more e h = cc
no_signal (asked ∷ on) ws more e h =
    eqb-false 115 111 refl (first_code 115 111 (105 ∷ 103 ∷ []) (110 ∷ []) more (decimal asked.0 ∷ code_of asked.1 ∷ on_words on) (sym e ∙ h))

-- a kind whose words begin with `mem` has a leaf
pub mem_kind : (ws rest : List (List ℕ)) (word : List ℕ) (found : Option Leaf) → ws ≡ word ∷ rest → word ≡ codes "mem"
    → ((leaf : Leaf) (more : List (List ℕ)) → IsLeaf leaf → rest ≡ code_of leaf ∷ more → found ≡ Some leaf)
    → (k : SlotKind) → IsKind k → ws ≡ kind_words k → option_map kind.Mem found ≡ Some k
mem_kind ws rest word found e m back kind.Plain h is = absurd (cc)
mem_kind ws rest word found e m back (kind.Mem leaf) h is =
    let tail : rest ≡ code_of leaf ∷ [] = cc in
    ap (option_map kind.Mem) (back leaf [] h tail)
mem_kind ws rest word found e m back kind.Arg h is =
    let same : codes "mem" ≡ codes "arg" = cc in
    absurd (eqb-false 109 97 refl (ap (λ (w : List ℕ). get_or w 0 0) same))

-- a signal, and then a clock
pub signal_back : (signal : Option ℕ) (on : List (ℕ × Leaf)) (ws new : List (List ℕ)) (found : Option (Option ℕ))
    → ((p : ℕ) (more : List (List ℕ)) → IsNumber p → ws ≡ codes "sig" ∷ decimal p ∷ more → (found ≡ Some (Some p)) × (new ≡ more))
    → ((on : List (ℕ × Leaf)) → ws ≡ on_words on → (found ≡ Some None) × (new ≡ ws))
    → IsOptional signal → ws ≡ signal_words signal ++ on_words on → (found ≡ Some signal) × (new ≡ on_words on)
signal_back None on ws new found some none h e = let got = none on e in (got.0, got.1 ∙ e)
signal_back (Some p) on ws new found some none h e = some p (on_words on) h e

-- ---- a whole line

pub all_one : {X : Type 0} (P : X → Type 0) (x : X) → P x → All P (x ∷ [])
all_one P x h zero d lt = h
all_one P x h (suc k) d lt = absurd (omega arith)

pub by_not : (b : Bool) → not b ≡ false → b ≡ true
by_not true h = refl
by_not false h = absurd (cc)

-- a keyword, and what follows it
pub tail_found : (r : Result (Option Entry) NoMemory) (k : Keyword) (word : List ℕ) (ws : List (List ℕ)) → word ≡ keyword_text k → IfOk r (λ found. IfSome found (IsTail k ws))
    → IfOk r (λ found. IfSome found (λ e. (word ∷ ws ≡ entry_words e) × IsEntry e))
tail_found (Ok None) k word ws w h = h
tail_found (Ok (Some e)) k word ws w h =
    (ap (λ (x : List ℕ). x ∷ ws) (w ∙ ap keyword_text (sym h.0)) ∙ ap (λ (t : List (List ℕ)). keyword_text (keyword_of e) ∷ t) h.1, h.2)
tail_found (Err x) k word ws w h = h
