-- The lines that were read are those of what was read.
use Rattle.std.proofs.Common.{◌≡◌, ℕ, ◌+◌, ◌-◌, ◌<◌, ◌≤◌, ◌==◌, ◌&&◌, not, nat_lt, nat_le, Bool, true, false, true≢false, List, [], ◌∷◌, ◌++◌, length, map, slice_get, unwrap_or, Option, None, Some, refl, sym, ◌∙◌, ap, arith, subst, append_assoc, length-append, if◌then◌else◌}
use Rattle.std.specs.List.{list_all}
use Rattle.std.specs.Option.{option_map_or}
use Rattle.std.proofs.lemmas.Bool.{eqb-true, eqb-false, ltb-true, ltb-false}
use Rattle.std.proofs.lemmas.List.{append-nil}
use Rattle.ls_base.specs.declared.Name.{Name}
use Rattle.step_code.specs.Shapes.{is_arg}
use Rattle.step_code.specs.Valid.{is_constructor, is_case, are_different, is_enumeration}
use Rattle.step_code.specs.declared.parts.CodeBody.{CodeBody}
use Rattle.step_code.specs.declared.parts.InLine.{InLine}
use Rattle.step_code.specs.declared.parts.Instr.{Instr}
use Rattle.step_code.specs.declared.parts.OutLine.{OutLine}
use Rattle.step_code.specs.declared.parts.Slot.{Slot}
use Rattle.step_text.specs.declared.entry.Entry.{Entry}
use Rattle.step_text.specs.declared.entry.Entry.TheVariants as entry
use Rattle.step_text.specs.declared.reading.Reading.{Reading}
use Rattle.step_text.specs.declared.reading.Stage.{Stage}
use Rattle.step_text.specs.declared.reading.Stage.TheVariants.{Header, Cases, Slots, Inputs, Outputs, Bodies, BodySlots, BodyLines, Main, Over}
use Rattle.step_text.specs.Next.{is_cases, slots_left, takes_inputs, takes_outputs, takes_bodies, empty_body, at_stage, body_goes_on, after_header, after_slots, after_slot, after_in, after_out, after_body, after_code, after_instr, after_end, with_names, AreNumbered, TakesCases, Takes, nothing_read, draft_at, draft_of}
use Rattle.step_text.specs.Text.{spelling, cases_lines, slot_lines, instr_lines, bodies_lines, code_lines}
use Rattle.step_text.proofs.Formed.{IsSound, Keeps, and_left, and_right, chosen, keeps_names}

-- ---- one item more

map_push : {X Y : Type 0} (f : X → Y) (xs : List X) (x : X) → map f (xs ++ x ∷ []) ≡ map f xs ++ f x ∷ []
map_push f [] x = refl
map_push f (y ∷ xs) x = ap (λ ys. f y ∷ ys) (map_push f xs x)

slots_push : (k : ℕ) (xs : List Slot) (x : Slot) → slot_lines k (xs ++ x ∷ []) ≡ slot_lines k xs ++ entry.Slot (k + length xs) x ∷ []
slots_push k [] x = ap (λ (n : ℕ). entry.Slot n x ∷ []) (omega arith)
slots_push k (y ∷ xs) x = ap (λ (es : List Entry). entry.Slot k y ∷ es) (slots_push (k + 1) xs x ∙ ap (λ (n : ℕ). slot_lines (k + 1) xs ++ entry.Slot n x ∷ []) (omega arith))

abbrev body_lines : ℕ → CodeBody → List Entry
body_lines b body = entry.Body b (length body.slots) (length body.list) ∷ (slot_lines 0 body.slots ++ instr_lines body.list)

bodies_push : (b : ℕ) (xs : List CodeBody) (x : CodeBody) → bodies_lines b (xs ++ x ∷ []) ≡ bodies_lines b xs ++ body_lines (b + length xs) x
bodies_push b [] x =
    ap (λ (es : List Entry). entry.Body b (length x.slots) (length x.list) ∷ (slot_lines 0 x.slots ++ es)) (append-nil (instr_lines x.list))
    ∙ ap (λ (n : ℕ). body_lines n x) (omega arith)
bodies_push b (y ∷ xs) x =
    ap (λ (es : List Entry). entry.Body b (length y.slots) (length y.list) ∷ (slot_lines 0 y.slots ++ (instr_lines y.list ++ es))) (bodies_push (b + 1) xs x ∙ ap (λ (n : ℕ). bodies_lines (b + 1) xs ++ body_lines n x) (omega arith))
    ∙ ap (λ (es : List Entry). entry.Body b (length y.slots) (length y.list) ∷ es) (regroup (slot_lines 0 y.slots) (instr_lines y.list) (bodies_lines (b + 1) xs) (body_lines (b + length (y ∷ xs)) x))
  where
    regroup : (u v w z : List Entry) → u ++ (v ++ (w ++ z)) ≡ (u ++ (v ++ w)) ++ z
    regroup u v w z = simp append_assoc

-- ---- names

cases_by : (old new : List (List ℕ)) → Keeps old new → (n : ℕ) (found : Option (List ℕ)) → slice_get old n ≡ found → option_map_or is_constructor found false ≡ true
    → unwrap_or (slice_get new n) [] ≡ unwrap_or (slice_get old n) []
cases_by old new k n None e h = absurd (true≢false (sym h))
cases_by old new k n (Some word) e h = rw (e, k n word e) refl

spelled_same : (old new : List (List ℕ)) → Keeps old new → (ns : List Name) → list_all (is_case old) ns ≡ true → map (spelling new) ns ≡ map (spelling old) ns
spelled_same old new k [] h = refl
spelled_same old new k (n ∷ ns) h =
    let one : spelling new n ≡ spelling old n = cases_by old new k n.0 (slice_get old n.0) refl (and_left (is_case old n) (list_all (is_case old) ns) h) in
    let more = spelled_same old new k ns (and_right (is_case old n) (list_all (is_case old) ns) h) in
    cc

cases_same : (old new : List (List ℕ)) → Keeps old new → (cases : List (List Name)) → list_all (is_enumeration old) cases ≡ true → cases_lines new cases ≡ cases_lines old cases
cases_same old new k [] h = refl
cases_same old new k (ns ∷ cases) h =
    let first = and_left (is_enumeration old ns) (list_all (is_enumeration old) cases) h in
    let front = and_left (not (length ns == 0) && list_all (is_case old) ns) (are_different ns) first in
    let one = spelled_same old new k ns (and_right (not (length ns == 0)) (list_all (is_case old) ns) front) in
    let more = cases_same old new k cases (and_right (is_enumeration old ns) (list_all (is_enumeration old) cases) h) in
    cc

spelled_words : (names words : List (List ℕ)) (ns : List Name) → AreNumbered names words ns → map (spelling names) ns ≡ words
spelled_words names [] [] h = refl
spelled_words names [] (n ∷ ns) h = absurd (cc)
spelled_words names (word ∷ words) [] h = absurd (cc)
spelled_words names (word ∷ words) (n ∷ ns) h =
    let at : slice_get names n.0 ≡ Some word = cc in
    let rest : AreNumbered names words ns = cc in
    let one : spelling names n ≡ word = rw at refl in
    let more = spelled_words names words ns rest in
    cc

-- ---- the lines of what was read

abbrev cases_part : Reading → List Entry
cases_part r = entry.Header ∷ cases_lines r.names r.cases

abbrev slots_part : Reading → ℕ → List Entry
slots_part r n = cases_part r ++ (entry.Slots n ∷ slot_lines 0 r.slots)

abbrev inputs_part : Reading → List Entry
inputs_part r = slots_part r (length r.slots) ++ map entry.In r.inputs

abbrev outputs_part : Reading → List Entry
outputs_part r = inputs_part r ++ map entry.Out r.outputs

abbrev bodies_part : Reading → List Entry
bodies_part r = outputs_part r ++ bodies_lines 0 r.bodies

abbrev lines_at : Stage → Reading → List Entry
lines_at Header r = []
lines_at Cases r = cases_part r
lines_at (Slots left) r = slots_part r (length r.slots + left)
lines_at Inputs r = inputs_part r
lines_at Outputs r = outputs_part r
lines_at Bodies r = bodies_part r
lines_at (BodySlots left lines) r = bodies_part r ++ (entry.Body (length r.bodies) (length r.body.slots + left) lines ∷ slot_lines 0 r.body.slots)
lines_at (BodyLines left) r = bodies_part r ++ (entry.Body (length r.bodies) (length r.body.slots) (length r.body.list + left) ∷ (slot_lines 0 r.body.slots ++ instr_lines r.body.list))
lines_at (Main left) r = bodies_part r ++ (entry.Code (length r.main + left) ∷ instr_lines r.main)
lines_at Over r = bodies_part r ++ (entry.Code (length r.main) ∷ (instr_lines r.main ++ entry.End ∷ []))

-- what is still empty at a stage, and that something is left
abbrev IsFresh : Stage → Reading → Type 0
IsFresh Header r = (r.cases ≡ []) × (r.slots ≡ []) × (r.inputs ≡ []) × (r.outputs ≡ []) × (r.bodies ≡ []) × (r.main ≡ [])
IsFresh Cases r = (r.slots ≡ []) × (r.inputs ≡ []) × (r.outputs ≡ []) × (r.bodies ≡ []) × (r.main ≡ [])
IsFresh (Slots left) r = (0 < left) × (r.inputs ≡ []) × (r.outputs ≡ []) × (r.bodies ≡ []) × (r.main ≡ [])
IsFresh Inputs r = (r.outputs ≡ []) × (r.bodies ≡ []) × (r.main ≡ [])
IsFresh Outputs r = (r.bodies ≡ []) × (r.main ≡ [])
IsFresh Bodies r = r.main ≡ []
IsFresh (BodySlots left lines) r = (0 < left) × (r.main ≡ []) × (r.body.list ≡ [])
IsFresh (BodyLines left) r = (0 < left) × (r.main ≡ [])
IsFresh (Main left) r = Unit {0}
IsFresh Over r = Unit {0}

pub record HasLines (entries : List Entry) (r : Reading) : Type 0 where
  pub lines : entries ≡ lines_at r.stage r
  pub fresh : IsFresh r.stage r

abbrev Adds : List Entry → Entry → Reading → Type 0
Adds entries e r = HasLines (entries ++ e ∷ []) r

-- ---- enumerations and slots

has_header : (s : Stage) (old new : Reading) (entries : List Entry) → old.stage ≡ s → HasLines entries old → after_header s old ≡ Some new → Adds entries entry.Header new
has_header Header old new entries es so h =
    let fresh : IsFresh Header old = subst (λ (s : Stage). IsFresh s old) es so.fresh in
    let lines : entries ≡ [] = so.lines ∙ ap (λ (s : Stage). lines_at s old) es in
    let is : at_stage old Cases ≡ new = cc in
    subst (Adds entries entry.Header) is (record {
      lines = ap (λ (es : List Entry). es ++ entry.Header ∷ []) lines ∙ ap (λ (cs : List (List Name)). entry.Header ∷ cases_lines old.names cs) (sym fresh.0);
      fresh = (fresh.1, fresh.2, fresh.3, fresh.4, fresh.5);
    })
has_header _ old new entries es so h = absurd (cc)

is_cases_stage : (s : Stage) → is_cases s ≡ true → s ≡ Cases
is_cases_stage Cases h = refl
is_cases_stage _ h = absurd (cc)

has_cases : (old new : Reading) (entries : List Entry) (words : List (List ℕ)) → IsSound old → HasLines entries old → TakesCases old words new → Adds entries (entry.Cases words) new
has_cases old new entries words sound so t =
    let at = is_cases_stage old.stage (and_left _ _ (and_left _ _ t.may)) in
    let names = with_names old.names words in
    let fresh : IsFresh Cases old = subst (λ (s : Stage). IsFresh s old) at so.fresh in
    let lines : entries ≡ cases_part old = so.lines ∙ ap (λ (s : Stage). lines_at s old) at in
    let named : AreNumbered (with_names old.names words) words t.numbers = subst (λ (r : Reading). AreNumbered r.names words t.numbers) t.is t.named in
    let kept = cases_same old.names (with_names old.names words) (keeps_names old.names words) old.cases sound.cases in
    let pushed = map_push (λ (ns : List Name). entry.Cases (map (spelling (with_names old.names words)) ns)) old.cases t.numbers in
    let spelled = spelled_words (with_names old.names words) words t.numbers named in
    subst (Adds entries (entry.Cases words)) (sym t.is) (record {
      lines =
          ap (λ (es : List Entry). es ++ entry.Cases words ∷ []) lines
          ∙ ap (λ (es : List Entry). entry.Header ∷ (es ++ entry.Cases words ∷ [])) (sym kept)
          ∙ ap (λ (ws : List (List ℕ)). entry.Header ∷ (cases_lines (with_names old.names words) old.cases ++ entry.Cases ws ∷ [])) (sym spelled)
          ∙ ap (λ (es : List Entry). entry.Header ∷ es) (sym pushed)
          ∙ ap (λ (s : Stage). lines_at s (record old { names = with_names old.names words; cases = old.cases ++ t.numbers ∷ [] })) (sym at);
      fresh = subst (λ (s : Stage). IsFresh s (record old { names = with_names old.names words; cases = old.cases ++ t.numbers ∷ [] })) (sym at) fresh;
    })

-- so many slots are left
lines_left : (left : ℕ) (r : Reading) → r.inputs ≡ [] → lines_at (slots_left left) r ≡ slots_part r (length r.slots + left)
lines_left left r none = by_test (left == 0) refl
  where
    by_test : (t : Bool) → (left == 0) ≡ t → lines_at (if t then Inputs else Slots left) r ≡ slots_part r (length r.slots + left)
    by_test false e = refl
    by_test true e =
        let zero_left : left ≡ 0 = eqb-true left 0 e in
        ap (λ (ins : List InLine). slots_part r (length r.slots) ++ map entry.In ins) none ∙ append-nil (slots_part r (length r.slots))
        ∙ ap (slots_part r) (omega arith)

fresh_left : (left : ℕ) (r : Reading) → r.inputs ≡ [] → r.outputs ≡ [] → r.bodies ≡ [] → r.main ≡ [] → IsFresh (slots_left left) r
fresh_left left r i o b m = by_test (left == 0) refl
  where
    by_test : (t : Bool) → (left == 0) ≡ t → IsFresh (if t then Inputs else Slots left) r
    by_test true e = (o, b, m)
    by_test false e = let some : left ≡ 0 → ⊥ = eqb-false left 0 e in (omega arith, i, o, b, m)

has_slots : (s : Stage) (old new : Reading) (entries : List Entry) (count : ℕ) → old.stage ≡ s → HasLines entries old → after_slots s old count ≡ Some new → Adds entries (entry.Slots count) new
has_slots Cases old new entries count es so h =
    let is = chosen (nat_le count 1000000) (at_stage old (slots_left count)) new h in
    let fresh : IsFresh Cases old = subst (λ (s : Stage). IsFresh s old) es so.fresh in
    let lines : entries ≡ cases_part old = so.lines ∙ ap (λ (s : Stage). lines_at s old) es in
    subst (Adds entries (entry.Slots count)) is.1 (record {
      lines =
          ap (λ (es : List Entry). es ++ entry.Slots count ∷ []) lines
          ∙ ap (λ (n : ℕ). cases_part old ++ (entry.Slots n ∷ [])) (omega arith)
          ∙ ap (λ (xs : List Slot). cases_part old ++ (entry.Slots (length xs + count) ∷ slot_lines 0 xs)) (sym fresh.0) ∙ sym (lines_left count (at_stage old (slots_left count)) fresh.1);
      fresh = fresh_left count (at_stage old (slots_left count)) fresh.1 fresh.2 fresh.3 fresh.4;
    })
has_slots _ old new entries count es so h = absurd (cc)

has_slot : (old new : Reading) (entries : List Entry) (left at : ℕ) (slot : Slot) → old.stage ≡ Slots left → HasLines entries old → after_slot (Slots left) old at slot ≡ Some new
    → Adds entries (entry.Slot at slot) new
has_slot old new entries left at slot es so h =
    let is = chosen ((at == length old.slots) && not (is_arg slot.kind)) (record old { slots = old.slots ++ slot ∷ []; stage = slots_left (left - 1) }) new h in
    let number : at ≡ length old.slots = eqb-true at (length old.slots) (and_left (at == length old.slots) (not (is_arg slot.kind)) is.0) in
    let fresh : IsFresh (Slots left) old = subst (λ (s : Stage). IsFresh s old) es so.fresh in
    let some : 0 < left = fresh.0 in
    let lines : entries ≡ slots_part old (length old.slots + left) = so.lines ∙ ap (λ (s : Stage). lines_at s old) es in
    let long : length (old.slots ++ slot ∷ []) ≡ length old.slots + 1 = length-append old.slots (slot ∷ []) in
    let more : Reading = record old { slots = old.slots ++ slot ∷ []; stage = slots_left (left - 1) } in
    subst (Adds entries (entry.Slot at slot)) is.1 (record {
      lines =
          ap (λ (es : List Entry). es ++ entry.Slot at slot ∷ []) lines
          ∙ append_assoc (cases_part old) (entry.Slots (length old.slots + left) ∷ slot_lines 0 old.slots) (entry.Slot at slot ∷ [])
          ∙ ap (λ (n : ℕ). cases_part old ++ (entry.Slots (length old.slots + left) ∷ (slot_lines 0 old.slots ++ entry.Slot n slot ∷ []))) (omega arith)
          ∙ ap (λ (es : List Entry). cases_part old ++ (entry.Slots (length old.slots + left) ∷ es)) (sym (slots_push 0 old.slots slot))
          ∙ ap (λ (n : ℕ). cases_part old ++ (entry.Slots n ∷ slot_lines 0 (old.slots ++ slot ∷ []))) (omega arith)
          ∙ sym (lines_left (left - 1) (record old { slots = old.slots ++ slot ∷ []; stage = slots_left (left - 1) }) fresh.1);
      fresh = fresh_left (left - 1) (record old { slots = old.slots ++ slot ∷ []; stage = slots_left (left - 1) }) fresh.1 fresh.2 fresh.3 fresh.4;
    })

-- ---- bodies

-- the lines of a body that lacks so many slots and instructions, behind what stands before it
abbrev begun_lines : Reading → CodeBody → ℕ → ℕ → List Entry
begun_lines r body slots lines = bodies_part r ++ (entry.Body (length r.bodies) (length body.slots + slots) (length body.list + lines) ∷ (slot_lines 0 body.slots ++ instr_lines body.list))

goes_on : (old : Reading) (body : CodeBody) (slots lines : ℕ) (entries : List Entry) → entries ≡ begun_lines old body slots lines → (0 < slots → body.list ≡ []) → old.main ≡ []
    → HasLines entries (body_goes_on (record old { body = body }) slots lines)
goes_on old body slots lines entries e none main = by_slots (nat_lt 0 slots) (nat_lt 0 lines) refl refl
  where
    by_slots : (t u : Bool) → nat_lt 0 slots ≡ t → nat_lt 0 lines ≡ u
        → HasLines entries (if t then at_stage (record old { body = body }) (BodySlots slots lines) else (if u then at_stage (record old { body = body }) (BodyLines lines) else record old { stage = Bodies; bodies = old.bodies ++ body ∷ []; body = empty_body }))
    by_slots true u st su =
        let some : 0 < slots = ltb-true 0 slots st in
        let empty : body.list ≡ [] = none some in
        record {
          lines =
              e ∙ ap (λ (list : List Instr). bodies_part old ++ (entry.Body (length old.bodies) (length body.slots + slots) (length list + lines) ∷ (slot_lines 0 body.slots ++ instr_lines list))) empty
              ∙ ap (λ (es : List Entry). bodies_part old ++ (entry.Body (length old.bodies) (length body.slots + slots) (0 + lines) ∷ es)) (append-nil (slot_lines 0 body.slots))
              ∙ ap (λ (n : ℕ). bodies_part old ++ (entry.Body (length old.bodies) (length body.slots + slots) n ∷ slot_lines 0 body.slots)) (omega arith);
          fresh = (some, main, empty);
        }
    by_slots false true st su =
        let no_slot : slots ≤ 0 = ltb-false 0 slots st in
        record {
          lines = e ∙ ap (λ (n : ℕ). bodies_part old ++ (entry.Body (length old.bodies) n (length body.list + lines) ∷ (slot_lines 0 body.slots ++ instr_lines body.list))) (omega arith);
          fresh = (ltb-true 0 lines su, main);
        }
    by_slots false false st su =
        let no_slot : slots ≤ 0 = ltb-false 0 slots st in
        let no_line : lines ≤ 0 = ltb-false 0 lines su in
        record {
          lines =
              e ∙ ap (λ (n : ℕ). bodies_part old ++ (entry.Body (length old.bodies) n (length body.list + lines) ∷ (slot_lines 0 body.slots ++ instr_lines body.list))) (omega arith)
              ∙ ap (λ (n : ℕ). bodies_part old ++ (entry.Body (length old.bodies) (length body.slots) n ∷ (slot_lines 0 body.slots ++ instr_lines body.list))) (omega arith)
              ∙ append_assoc (outputs_part old) (bodies_lines 0 old.bodies) (body_lines (length old.bodies) body)
              ∙ ap (λ (n : ℕ). outputs_part old ++ (bodies_lines 0 old.bodies ++ body_lines n body)) (omega arith)
              ∙ ap (λ (es : List Entry). outputs_part old ++ es) (sym (bodies_push 0 old.bodies body));
          fresh = main;
        }

has_body_slot : (old new : Reading) (entries : List Entry) (left lines at : ℕ) (slot : Slot) → old.stage ≡ BodySlots left lines → HasLines entries old
    → after_slot (BodySlots left lines) old at slot ≡ Some new → Adds entries (entry.Slot at slot) new
has_body_slot old new entries left lines at slot es so h =
    let is = chosen (at == length old.body.slots) (body_goes_on (record old { body = record { slots = old.body.slots ++ slot ∷ []; list = old.body.list } }) (left - 1) lines) new h in
    let number : at ≡ length old.body.slots = eqb-true at (length old.body.slots) is.0 in
    let fresh : IsFresh (BodySlots left lines) old = subst (λ (s : Stage). IsFresh s old) es so.fresh in
    let some : 0 < left = fresh.0 in
    let before : entries ≡ bodies_part old ++ (entry.Body (length old.bodies) (length old.body.slots + left) lines ∷ slot_lines 0 old.body.slots) = so.lines ∙ ap (λ (s : Stage). lines_at s old) es in
    let long : length (old.body.slots ++ slot ∷ []) ≡ length old.body.slots + 1 = length-append old.body.slots (slot ∷ []) in
    let none : length old.body.list ≡ 0 = ap length fresh.2 in
    subst (Adds entries (entry.Slot at slot)) is.1 (goes_on old (record { slots = old.body.slots ++ slot ∷ []; list = old.body.list }) (left - 1) lines (entries ++ entry.Slot at slot ∷ [])
    (ap (λ (es : List Entry). es ++ entry.Slot at slot ∷ []) before
    ∙ append_assoc (bodies_part old) (entry.Body (length old.bodies) (length old.body.slots + left) lines ∷ slot_lines 0 old.body.slots) (entry.Slot at slot ∷ [])
    ∙ ap (λ (n : ℕ). bodies_part old ++ (entry.Body (length old.bodies) (length old.body.slots + left) lines ∷ (slot_lines 0 old.body.slots ++ entry.Slot n slot ∷ []))) (omega arith)
    ∙ ap (λ (es : List Entry). bodies_part old ++ (entry.Body (length old.bodies) (length old.body.slots + left) lines ∷ es)) (sym (slots_push 0 old.body.slots slot))
    ∙ ap (λ (n : ℕ). bodies_part old ++ (entry.Body (length old.bodies) n lines ∷ slot_lines 0 (old.body.slots ++ slot ∷ []))) (omega arith)
    ∙ ap (λ (n : ℕ). bodies_part old ++ (entry.Body (length old.bodies) (length (old.body.slots ++ slot ∷ []) + (left - 1)) n ∷ slot_lines 0 (old.body.slots ++ slot ∷ []))) (omega arith)
    ∙ ap (λ (es : List Entry). bodies_part old ++ (entry.Body (length old.bodies) (length (old.body.slots ++ slot ∷ []) + (left - 1)) (length old.body.list + lines) ∷ es)) (sym (append-nil (slot_lines 0 (old.body.slots ++ slot ∷ []))))
    ∙ ap (λ (list : List Instr). bodies_part old ++ (entry.Body (length old.bodies) (length (old.body.slots ++ slot ∷ []) + (left - 1)) (length old.body.list + lines) ∷ (slot_lines 0 (old.body.slots ++ slot ∷ []) ++ instr_lines list))) (sym fresh.2))
    (λ _. fresh.2) fresh.1)

has_any_slot : (s : Stage) (old new : Reading) (entries : List Entry) (at : ℕ) (slot : Slot) → old.stage ≡ s → HasLines entries old → after_slot s old at slot ≡ Some new → Adds entries (entry.Slot at slot) new
has_any_slot (Slots left) old new entries at slot es so h = has_slot old new entries left at slot es so h
has_any_slot (BodySlots left lines) old new entries at slot es so h = has_body_slot old new entries left lines at slot es so h
has_any_slot _ old new entries at slot es so h = absurd (cc)

-- ---- lines of input and output

at_inputs : (s : Stage) (r : Reading) → takes_inputs s ≡ true → IsFresh s r → s ≡ Inputs
at_inputs Inputs r h fresh = refl
at_inputs _ r h fresh = absurd (cc)

record BeforeOutputs (s : Stage) (r : Reading) : Type 0 where
  lines : lines_at s r ≡ outputs_part r
  bodies : r.bodies ≡ []
  main : r.main ≡ []

at_outputs : (s : Stage) (r : Reading) → takes_outputs s ≡ true → IsFresh s r → BeforeOutputs s r
at_outputs Inputs r h fresh = record {
  lines = sym (append-nil (inputs_part r)) ∙ ap (λ (outs : List OutLine). inputs_part r ++ map entry.Out outs) (sym fresh.0);
  bodies = fresh.1;
  main = fresh.2;
}
at_outputs Outputs r h fresh = record { lines = refl; bodies = fresh.0; main = fresh.1 }
at_outputs _ r h fresh = absurd (cc)

record BeforeBodies (s : Stage) (r : Reading) : Type 0 where
  lines : lines_at s r ≡ bodies_part r
  main : r.main ≡ []

at_bodies : (s : Stage) (r : Reading) → takes_bodies s ≡ true → IsFresh s r → BeforeBodies s r
at_bodies Inputs r h fresh =
    let outs = at_outputs Inputs r refl fresh in
    record { lines = outs.lines ∙ sym (append-nil (outputs_part r)) ∙ ap (λ (bs : List CodeBody). outputs_part r ++ bodies_lines 0 bs) (sym fresh.1); main = fresh.2 }
at_bodies Outputs r h fresh = record { lines = sym (append-nil (outputs_part r)) ∙ ap (λ (bs : List CodeBody). outputs_part r ++ bodies_lines 0 bs) (sym fresh.0); main = fresh.1 }
at_bodies Bodies r h fresh = record { lines = refl; main = fresh }
at_bodies _ r h fresh = absurd (cc)

has_in : (old new : Reading) (entries : List Entry) (line : InLine) → HasLines entries old → after_in old line ≡ Some new → Adds entries (entry.In line) new
has_in old new entries line so h =
    let is = chosen (takes_inputs old.stage) (record old { inputs = old.inputs ++ line ∷ [] }) new h in
    let at = at_inputs old.stage old is.0 so.fresh in
    let fresh : IsFresh Inputs old = subst (λ (s : Stage). IsFresh s old) at so.fresh in
    let lines : entries ≡ inputs_part old = so.lines ∙ ap (λ (s : Stage). lines_at s old) at in
    subst (Adds entries (entry.In line)) is.1 (record {
      lines =
          ap (λ (es : List Entry). es ++ entry.In line ∷ []) lines ∙ append_assoc (slots_part old (length old.slots)) (map entry.In old.inputs) (entry.In line ∷ [])
          ∙ ap (λ (es : List Entry). slots_part old (length old.slots) ++ es) (sym (map_push entry.In old.inputs line))
          ∙ ap (λ (s : Stage). lines_at s (record old { inputs = old.inputs ++ line ∷ [] })) (sym at);
      fresh = subst (λ (s : Stage). IsFresh s (record old { inputs = old.inputs ++ line ∷ [] })) (sym at) fresh;
    })

has_out : (old new : Reading) (entries : List Entry) (line : OutLine) → HasLines entries old → after_out old line ≡ Some new → Adds entries (entry.Out line) new
has_out old new entries line so h =
    let is = chosen (takes_outputs old.stage) (record old { stage = Outputs; outputs = old.outputs ++ line ∷ [] }) new h in
    let outs = at_outputs old.stage old is.0 so.fresh in
    subst (Adds entries (entry.Out line)) is.1 (record {
      lines =
          ap (λ (es : List Entry). es ++ entry.Out line ∷ []) (so.lines ∙ outs.lines) ∙ append_assoc (inputs_part old) (map entry.Out old.outputs) (entry.Out line ∷ [])
          ∙ ap (λ (es : List Entry). inputs_part old ++ es) (sym (map_push entry.Out old.outputs line));
      fresh = (outs.bodies, outs.main);
    })

has_body : (old new : Reading) (entries : List Entry) (at slots lines : ℕ) → HasLines entries old → after_body old at slots lines ≡ Some new → Adds entries (entry.Body at slots lines) new
has_body old new entries at slots lines so h =
    let is = chosen (takes_bodies old.stage && (at == length old.bodies) && nat_lt 0 slots) (record old { stage = BodySlots slots lines; body = empty_body }) new h in
    let front = and_left (takes_bodies old.stage && (at == length old.bodies)) (nat_lt 0 slots) is.0 in
    let number : at ≡ length old.bodies = eqb-true at (length old.bodies) (and_right (takes_bodies old.stage) (at == length old.bodies) front) in
    let some : 0 < slots = ltb-true 0 slots (and_right (takes_bodies old.stage && (at == length old.bodies)) (nat_lt 0 slots) is.0) in
    let bodies = at_bodies old.stage old (and_left (takes_bodies old.stage) (at == length old.bodies) front) so.fresh in
    subst (Adds entries (entry.Body at slots lines)) is.1 (record {
      lines =
          ap (λ (es : List Entry). es ++ entry.Body at slots lines ∷ []) (so.lines ∙ bodies.lines)
          ∙ ap (λ (n : ℕ). bodies_part old ++ entry.Body n slots lines ∷ []) number
          ∙ ap (λ (n : ℕ). bodies_part old ++ entry.Body (length old.bodies) n lines ∷ []) (omega arith);
      fresh = (some, bodies.main, refl);
    })

has_code : (old new : Reading) (entries : List Entry) (lines : ℕ) → HasLines entries old → after_code old lines ≡ Some new → Adds entries (entry.Code lines) new
has_code old new entries lines so h =
    let is = chosen (takes_bodies old.stage) (at_stage old (Main lines)) new h in
    let bodies = at_bodies old.stage old is.0 so.fresh in
    subst (Adds entries (entry.Code lines)) is.1 (record {
      lines =
          ap (λ (es : List Entry). es ++ entry.Code lines ∷ []) (so.lines ∙ bodies.lines)
          ∙ ap (λ (n : ℕ). bodies_part old ++ entry.Code n ∷ []) (omega arith)
          ∙ ap (λ (list : List Instr). bodies_part old ++ (entry.Code (length list + lines) ∷ instr_lines list)) (sym bodies.main);
      fresh = tt;
    })

-- ---- instructions and the last line

has_body_line : (old new : Reading) (entries : List Entry) (left : ℕ) (line : Instr) → old.stage ≡ BodyLines left → HasLines entries old → after_instr (BodyLines left) old line ≡ Some new
    → Adds entries (entry.Instr line) new
has_body_line old new entries left line es so h =
    let is : body_goes_on (record old { body = record { slots = old.body.slots; list = old.body.list ++ line ∷ [] } }) 0 (left - 1) ≡ new = cc in
    let fresh : IsFresh (BodyLines left) old = subst (λ (s : Stage). IsFresh s old) es so.fresh in
    let some : 0 < left = fresh.0 in
    let before : entries ≡ bodies_part old ++ (entry.Body (length old.bodies) (length old.body.slots) (length old.body.list + left) ∷ (slot_lines 0 old.body.slots ++ instr_lines old.body.list)) = so.lines ∙ ap (λ (s : Stage). lines_at s old) es in
    let long : length (old.body.list ++ line ∷ []) ≡ length old.body.list + 1 = length-append old.body.list (line ∷ []) in
    let no_slot : 0 < 0 → old.body.list ++ line ∷ [] ≡ [] = λ lt. absurd (omega arith) in
    subst (Adds entries (entry.Instr line)) is (goes_on old (record { slots = old.body.slots; list = old.body.list ++ line ∷ [] }) 0 (left - 1) (entries ++ entry.Instr line ∷ [])
    (ap (λ (es : List Entry). es ++ entry.Instr line ∷ []) before
    ∙ append_assoc (bodies_part old) (entry.Body (length old.bodies) (length old.body.slots) (length old.body.list + left) ∷ (slot_lines 0 old.body.slots ++ instr_lines old.body.list)) (entry.Instr line ∷ [])
    ∙ ap (λ (es : List Entry). bodies_part old ++ (entry.Body (length old.bodies) (length old.body.slots) (length old.body.list + left) ∷ es)) (append_assoc (slot_lines 0 old.body.slots) (instr_lines old.body.list) (entry.Instr line ∷ []))
    ∙ ap (λ (es : List Entry). bodies_part old ++ (entry.Body (length old.bodies) (length old.body.slots) (length old.body.list + left) ∷ (slot_lines 0 old.body.slots ++ es))) (sym (map_push entry.Instr old.body.list line))
    ∙ ap (λ (n : ℕ). bodies_part old ++ (entry.Body (length old.bodies) (length old.body.slots) n ∷ (slot_lines 0 old.body.slots ++ instr_lines (old.body.list ++ line ∷ [])))) (omega arith)
    ∙ ap (λ (n : ℕ). bodies_part old ++ (entry.Body (length old.bodies) n (length (old.body.list ++ line ∷ []) + (left - 1)) ∷ (slot_lines 0 old.body.slots ++ instr_lines (old.body.list ++ line ∷ [])))) (omega arith))
    no_slot fresh.1)

has_main_line : (old new : Reading) (entries : List Entry) (left : ℕ) (line : Instr) → old.stage ≡ Main left → HasLines entries old → after_instr (Main left) old line ≡ Some new → Adds entries (entry.Instr line) new
has_main_line old new entries left line es so h =
    let is = chosen (nat_lt 0 left) (record old { stage = Main (left - 1); main = old.main ++ line ∷ [] }) new h in
    let some : 0 < left = ltb-true 0 left is.0 in
    let before : entries ≡ bodies_part old ++ (entry.Code (length old.main + left) ∷ instr_lines old.main) = so.lines ∙ ap (λ (s : Stage). lines_at s old) es in
    let long : length (old.main ++ line ∷ []) ≡ length old.main + 1 = length-append old.main (line ∷ []) in
    subst (Adds entries (entry.Instr line)) is.1 (record {
      lines =
          ap (λ (es : List Entry). es ++ entry.Instr line ∷ []) before
          ∙ append_assoc (bodies_part old) (entry.Code (length old.main + left) ∷ instr_lines old.main) (entry.Instr line ∷ [])
          ∙ ap (λ (es : List Entry). bodies_part old ++ (entry.Code (length old.main + left) ∷ es)) (sym (map_push entry.Instr old.main line))
          ∙ ap (λ (n : ℕ). bodies_part old ++ (entry.Code n ∷ instr_lines (old.main ++ line ∷ []))) (omega arith);
      fresh = tt;
    })

has_instr : (s : Stage) (old new : Reading) (entries : List Entry) (line : Instr) → old.stage ≡ s → HasLines entries old → after_instr s old line ≡ Some new → Adds entries (entry.Instr line) new
has_instr (BodyLines left) old new entries line es so h = has_body_line old new entries left line es so h
has_instr (Main left) old new entries line es so h = has_main_line old new entries left line es so h
has_instr _ old new entries line es so h = absurd (cc)

has_end : (s : Stage) (old new : Reading) (entries : List Entry) → old.stage ≡ s → HasLines entries old → after_end s old ≡ Some new → Adds entries entry.End new
has_end (Main left) old new entries es so h =
    let is = chosen (left == 0) (at_stage old Over) new h in
    let none : left ≡ 0 = eqb-true left 0 is.0 in
    let before : entries ≡ bodies_part old ++ (entry.Code (length old.main + left) ∷ instr_lines old.main) = so.lines ∙ ap (λ (s : Stage). lines_at s old) es in
    subst (Adds entries entry.End) is.1 (record {
      lines =
          ap (λ (es : List Entry). es ++ entry.End ∷ []) before
          ∙ append_assoc (bodies_part old) (entry.Code (length old.main + left) ∷ instr_lines old.main) (entry.End ∷ [])
          ∙ ap (λ (n : ℕ). bodies_part old ++ (entry.Code n ∷ (instr_lines old.main ++ entry.End ∷ []))) (omega arith);
      fresh = tt;
    })
has_end _ old new entries es so h = absurd (cc)

-- ---- any line

pub has_next : (old new : Reading) (entries : List Entry) (e : Entry) → IsSound old → HasLines entries old → Takes old e new → Adds entries e new
has_next old new entries entry.Header sound so t = has_header old.stage old new entries refl so t
has_next old new entries (entry.Cases words) sound so t = has_cases old new entries words sound so t
has_next old new entries (entry.Slots count) sound so t = has_slots old.stage old new entries count refl so t
has_next old new entries (entry.Slot at slot) sound so t = has_any_slot old.stage old new entries at slot refl so t
has_next old new entries (entry.In line) sound so t = has_in old new entries line so t
has_next old new entries (entry.Out line) sound so t = has_out old new entries line so t
has_next old new entries (entry.Body at slots lines) sound so t = has_body old new entries at slots lines so t
has_next old new entries (entry.Code lines) sound so t = has_code old new entries lines so t
has_next old new entries (entry.Instr line) sound so t = has_instr old.stage old new entries line refl so t
has_next old new entries entry.End sound so t = has_end old.stage old new entries refl so t

pub has_nothing : HasLines [] nothing_read
has_nothing = record { lines = refl; fresh = (refl, refl, refl, refl, refl, refl) }

regroup : (h s i o b m : List Entry) → ((((h ++ s) ++ i) ++ o) ++ b) ++ m ≡ h ++ (s ++ (i ++ (o ++ (b ++ m))))
regroup h s i o b m = simp append_assoc

-- the lines of a text that is read whole are those of its code
pub whole_lines : (entries : List Entry) (r : Reading) → r.stage ≡ Over → HasLines entries r → entries ≡ code_lines (draft_of r)
whole_lines entries r over so =
    so.lines ∙ ap (λ (s : Stage). lines_at s r) over
    ∙ regroup (cases_part r) (entry.Slots (length r.slots) ∷ slot_lines 0 r.slots) (map entry.In r.inputs) (map entry.Out r.outputs) (bodies_lines 0 r.bodies)
    (entry.Code (length r.main) ∷ (instr_lines r.main ++ entry.End ∷ []))
    ∙ ap (λ (s : Stage). code_lines (draft_at s r)) (sym over)
