-- What the lines of valid code keep to.
use Rattle.std.proofs.Common.{◌≡◌, ℕ, zero, suc, ◌+◌, ◌<◌, ◌≤◌, Bool, true, false, List, [], ◌∷◌, ◌++◌, length, refl, sym, ap, subst, arith, Option, Some, None}
use Rattle.std.specs.Prelude.{◌&&◌, not, nat_lt, nat_le, slice_get, is_none, All, MatchOption, if◌then◌else◌}
use Rattle.std.specs.Prelude.{◌==◌}
use Rattle.std.specs.List.{list_all}
use Rattle.std.specs.Option.{option_map_or, option_map}
use Rattle.std.proofs.lemmas.Bool.{ltb-true, leb-true}
use Rattle.ls_base.specs.declared.Name.{Name}
use Rattle.step_code.specs.declared.code.Code.{Code}
use Rattle.step_code.specs.declared.draft.Draft.{Draft}
use Rattle.step_code.specs.declared.parts.CodeBody.{CodeBody}
use Rattle.step_code.specs.declared.parts.Slot.{Slot}
use Rattle.step_code.specs.declared.parts.InLine.{InLine}
use Rattle.step_code.specs.declared.parts.OutLine.{OutLine}
use Rattle.step_code.specs.declared.parts.SlotKind.{SlotKind}
use Rattle.step_code.specs.declared.parts.SlotKind.TheVariants as kinds
use Rattle.step_code.specs.declared.parts.Place.TheVariants as place
use Rattle.step_code.specs.declared.parts.Fault.{Fault}
use Rattle.step_code.specs.declared.parts.Instr.{Instr}
use Rattle.step_code.specs.declared.parts.Instr.TheVariants.{Const, Copy, Op1, Op2, Op3, Test, When, Call}
use Rattle.step_code.specs.Drafts.{draft_of}
use Rattle.step_code.specs.Shapes.{is_known_shape, mem_known, mem_fits}
use Rattle.step_code.specs.Steps.{first_leaf}
use Rattle.step_code.specs.Valid as valid
use Rattle.step_runner.specs.Ranges.{IsWithin, AreWithin, InWithin, OutWithin, IsKnown}

-- each item, from first to last
abbrev pub Each : {X : Type 0} → (X → Type 0) → List X → Type 0
Each P [] = Unit {0}
Each P (x ∷ xs) = P x × Each P xs

pub each_all : {X : Type 0} (P : X → Type 0) (xs : List X) → Each P xs → All P xs
each_all P [] h k d lt = absurd (omega (arith, lt))
each_all P (x ∷ xs) h zero d lt = h.0
each_all P (x ∷ xs) h (suc k) d lt = each_all P xs h.1 k d (omega (arith, lt))

pub each_map : {X : Type 0} (P Q : X → Type 0) → ((x : X) → P x → Q x) → (xs : List X) → Each P xs → Each Q xs
each_map P Q f [] h = tt
each_map P Q f (x ∷ xs) h = (f x h.0, each_map P Q f xs h.1)

pub and-left : (a b : Bool) → (a && b) ≡ true → a ≡ true
and-left true b e = refl
and-left false b e = e

pub and-right : (a b : Bool) → (a && b) ≡ true → b ≡ true
and-right true b e = e
and-right false b e = absurd (cc e)

or-first : {X : Type 0} (a b : Option X) → valid.or_else a b ≡ None → a ≡ None
or-first None b e = refl
or-first (Some x) b e = absurd (cc e)

or-second : {X : Type 0} (a b : Option X) → valid.or_else a b ≡ None → b ≡ None
or-second None b e = e
or-second (Some x) b e = absurd (cc e)

map-none : {X Y : Type 0} (f : X → Y) (o : Option X) → option_map f o ≡ None → o ≡ None
map-none f None e = refl
map-none f (Some x) e = absurd (cc e)

none_is : {X : Type 0} (o : Option X) → is_none o ≡ true → o ≡ None
none_is None e = refl
none_is (Some x) e = absurd (cc e)

-- a line without fault names what is there
named_of : (named ordered shaped : Bool) → valid.fault_of named ordered shaped ≡ None → named ≡ true
named_of true ordered shaped e = refl
named_of false ordered shaped e = absurd (cc e)

-- a list without fault: each line is without fault after some lines and before so many
pub each_judged : {X : Type 0} (judge : List X → ℕ → X → Option Fault) (P : X → Type 0) → ((earlier : List X) (later : ℕ) (x : X) → judge earlier later x ≡ None → P x)
    → (earlier xs : List X) → valid.fault_after judge earlier xs ≡ None → Each P xs
each_judged judge P gives earlier [] e = tt
each_judged judge P gives earlier (x ∷ rest) e = (
  gives earlier (length rest) x (map-none (λ f. (length earlier, f)) (judge earlier (length rest) x) (or-first (valid.at_place (length earlier) (judge earlier (length rest) x)) (valid.fault_after judge (earlier ++ x ∷ []) rest) e)),
  each_judged judge P gives (earlier ++ x ∷ []) rest (or-second (valid.at_place (length earlier) (judge earlier (length rest) x)) (valid.fault_after judge (earlier ++ x ∷ []) rest) e),
)

-- ---- lines of instructions

-- the leaf of a line is there
abbrev pub LeafKnown : List (List Name) → Instr → Type 0
LeafKnown cases (Const d l) = IsKnown cases l
LeafKnown cases (Test d a l) = IsKnown cases l
LeafKnown cases _ = Unit {0}

abbrev pub LineFits : valid.Around → Instr → Type 0
LineFits told line = IsWithin told.bodies (length told.slots) line × LeafKnown told.cases line

window_named : (told : valid.Around) (body window : ℕ) → nat_lt body (length told.bodies) ≡ true → nat_le (window + valid.width told body) (length told.slots) ≡ true
    → IsWithin told.bodies (length told.slots) (Call body window)
window_named told body window lt le = by_found (slice_get told.bodies body) refl
  where
    by_found : (o : Option CodeBody) → o ≡ slice_get told.bodies body → MatchOption (slice_get told.bodies body) ⊥ (λ own. window + length own.slots ≤ length told.slots)
    by_found None e = absurd (not_past told.bodies body (ltb-true body (length told.bodies) lt) (sym e))
      where
        not_past : (xs : List CodeBody) (k : ℕ) → k < length xs → slice_get xs k ≡ None → ⊥
        not_past [] k h e' = absurd (omega (arith, h))
        not_past (x ∷ xs) zero h e' = cc e'
        not_past (x ∷ xs) (suc k) h e' = not_past xs k (omega (arith, h)) e'
    by_found (Some own) e = subst (λ (o : Option CodeBody). MatchOption o ⊥ (λ b. window + length b.slots ≤ length told.slots)) e
        (let h : window + valid.width told body ≤ length told.slots = leb-true (window + valid.width told body) (length told.slots) le in
        let w : valid.width told body ≡ length own.slots = ap (λ (o : Option CodeBody). option_map_or (λ (b : CodeBody). length b.slots) o 0) (sym e) in
        omega (arith, h, w))

pub line_fits : (told : valid.Around) (earlier : List Instr) (later : ℕ) (line : Instr) → valid.line_fault told earlier later line ≡ None → LineFits told line
line_fits told earlier later line e =
    by_parts line
    (and-left (valid.names_slots told line) (valid.names_leaf told line) (and-left (valid.names_slots told line && valid.names_leaf told line) (valid.call_named told earlier line) named))
    (and-right (valid.names_slots told line) (valid.names_leaf told line) (and-left (valid.names_slots told line && valid.names_leaf told line) (valid.call_named told earlier line) named))
    (and-right (valid.names_slots told line && valid.names_leaf told line) (valid.call_named told earlier line) named)
  where
    named : valid.is_named told earlier line ≡ true
    named = named_of (valid.is_named told earlier line) (valid.is_in_order told earlier later line) (valid.has_shapes told line) e

    lt : (k : ℕ) → valid.is_slot told k ≡ true → k < length told.slots
    lt k h = ltb-true k (length told.slots) h

    by_parts : (l : Instr) → valid.names_slots told l ≡ true → valid.names_leaf told l ≡ true → valid.call_named told earlier l ≡ true → IsWithin told.bodies (length told.slots) l × LeafKnown told.cases l
    by_parts (Const d l) s f c = (lt d s, f)
    by_parts (Copy d a) s f c = ((lt d (and-left (valid.is_slot told d) (valid.is_slot told a) s), lt a (and-right (valid.is_slot told d) (valid.is_slot told a) s)), tt)
    by_parts (Op1 op d a) s f c = ((lt d (and-left (valid.is_slot told d) (valid.is_slot told a) s), lt a (and-right (valid.is_slot told d) (valid.is_slot told a) s)), tt)
    by_parts (Op2 op d a b) s f c =
        let da = and-left (valid.is_slot told d && valid.is_slot told a) (valid.is_slot told b) s in (
          (
            lt d (and-left (valid.is_slot told d) (valid.is_slot told a) da),
            lt a (and-right (valid.is_slot told d) (valid.is_slot told a) da),
            lt b (and-right (valid.is_slot told d && valid.is_slot told a) (valid.is_slot told b) s),
          ),
          tt,
        )
    by_parts (Op3 op d a b e') s f c =
        let dab = and-left (valid.is_slot told d && valid.is_slot told a && valid.is_slot told b) (valid.is_slot told e') s in
        let da = and-left (valid.is_slot told d && valid.is_slot told a) (valid.is_slot told b) dab in (
          (
            lt d (and-left (valid.is_slot told d) (valid.is_slot told a) da),
            lt a (and-right (valid.is_slot told d) (valid.is_slot told a) da),
            lt b (and-right (valid.is_slot told d && valid.is_slot told a) (valid.is_slot told b) dab),
            lt e' (and-right (valid.is_slot told d && valid.is_slot told a && valid.is_slot told b) (valid.is_slot told e') s),
          ),
          tt,
        )
    by_parts (Test d a l) s f c = ((lt d (and-left (valid.is_slot told d) (valid.is_slot told a) s), lt a (and-right (valid.is_slot told d) (valid.is_slot told a) s)), f)
    by_parts (When g size) s f c = (lt g s, tt)
    by_parts (Call body window) s f c =
        let both = and-left (nat_lt body (length told.bodies) && nat_le (window + valid.width told body) (length told.slots)) (not (valid.any_from (valid.is_covered told earlier) window (valid.width told body))) c in (
          window_named told body window
              (and-left (nat_lt body (length told.bodies)) (nat_le (window + valid.width told body) (length told.slots)) both)
              (and-right (nat_lt body (length told.bodies)) (nat_le (window + valid.width told body) (length told.slots)) both),
          tt,
        )

pub list_fits : (told : valid.Around) (lacks : ℕ) (list : List Instr) → valid.list_fault told lacks list ≡ None → Each (LineFits told) list
list_fits told lacks list e =
    each_judged (λ earlier later line. valid.line_fault told earlier (later + lacks) line) (LineFits told) (λ earlier later line. line_fits told earlier (later + lacks) line) [] list e

-- ---- bodies

abbrev pub BodyKnown : List (List Name) → CodeBody → Type 0
BodyKnown cases body = Each (LeafKnown cases) body.list

within_of : (told : valid.Around) (list : List Instr) → Each (LineFits told) list → All (IsWithin told.bodies (length told.slots)) list
within_of told list h = each_all (IsWithin told.bodies (length told.slots)) list (each_map (LineFits told) (IsWithin told.bodies (length told.slots)) (λ line both. both.0) list h)

known_of : (told : valid.Around) (list : List Instr) → Each (LineFits told) list → Each (LeafKnown told.cases) list
known_of told list h = each_map (LineFits told) (LeafKnown told.cases) (λ line both. both.1) list h

body_lines : (cases : List (List Name)) (done : List CodeBody) (depths : List ℕ) (lacks : ℕ) (body : CodeBody) → valid.body_fault cases done depths lacks body ≡ None
    → Each (LineFits (valid.body_around cases done depths body)) body.list
body_lines cases done depths lacks body e =
    list_fits (valid.body_around cases done depths body) lacks body.list
    (map-none (λ f. (place.BodyLine (length done) f.0, f.1)) (valid.list_fault (valid.body_around cases done depths body) lacks body.list)
    (or-second (valid.body_slot_place (length done) (valid.slots_fault cases body.slots)) (valid.body_line_place (length done) (valid.list_fault (valid.body_around cases done depths body) lacks body.list)) e))

pub bodies_fit : (cases : List (List Name)) (lacks : ℕ) (done : List CodeBody) (depths : List ℕ) (rest : List CodeBody)
    → valid.bodies_fault cases lacks done depths rest ≡ None → AreWithin done rest × Each (BodyKnown cases) rest
bodies_fit cases lacks done depths [] e = (tt, tt)
bodies_fit cases lacks done depths (body ∷ rest) e =
    let own = if length rest == 0 then lacks else 0 in
    let more = valid.bodies_fault cases lacks (done ++ body ∷ []) (depths ++ valid.body_depth cases done depths body ∷ []) rest in
    let here = body_lines cases done depths own body (or-first (valid.body_fault cases done depths own body) more e) in
    let later = bodies_fit cases lacks (done ++ body ∷ []) (depths ++ valid.body_depth cases done depths body ∷ []) rest (or-second (valid.body_fault cases done depths own body) more e) in
    ((within_of (valid.body_around cases done depths body) body.list here, later.0), (known_of (valid.body_around cases done depths body) body.list here, later.1))

-- ---- lines of input and output

in_within : (slots : List Slot) (line : InLine) → valid.has_slot slots line.slot ≡ true → valid.signal_named slots line ≡ true → InWithin (length slots) line
in_within slots line s p = (ltb-true line.slot (length slots) s, by_signal line.signal p)
  where
    by_signal : (o : Option ℕ) → option_map_or (λ q. valid.has_slot slots q && not (q == line.slot)) o true ≡ true → MatchOption o (Unit {0}) (λ q. q < length slots)
    by_signal None e = tt
    by_signal (Some q) e = ltb-true q (length slots) (and-left (valid.has_slot slots q) (not (q == line.slot)) e)

in_fits : (cases : List (List Name)) (slots : List Slot) (all earlier : List InLine) (later : ℕ) (line : InLine) → valid.in_fault cases slots all earlier line ≡ None → InWithin (length slots) line
in_fits cases slots all earlier later line e =
    let named = named_of (valid.in_named cases slots all earlier line) true (valid.in_shaped slots all line) e in
    let three = and-left (valid.has_slot slots line.slot && valid.signal_named slots line && list_all (valid.asks_known cases all) line.on) (valid.goes_with earlier line) named in
    let two = and-left (valid.has_slot slots line.slot && valid.signal_named slots line) (list_all (valid.asks_known cases all) line.on) three in
    in_within slots line (and-left (valid.has_slot slots line.slot) (valid.signal_named slots line) two) (and-right (valid.has_slot slots line.slot) (valid.signal_named slots line) two)

out_fits : (slots : List Slot) (earlier : List OutLine) (later : ℕ) (line : OutLine) → valid.out_fault slots line ≡ None → OutWithin (length slots) line
out_fits slots earlier later line e =
    let named = named_of (valid.has_slot slots line.slot && option_map_or (valid.has_slot slots) line.guard true) true (option_map_or (valid.is_bool slots) line.guard true) e in (
      ltb-true line.slot (length slots) (and-left (valid.has_slot slots line.slot) (option_map_or (valid.has_slot slots) line.guard true) named),
      by_guard line.guard (and-right (valid.has_slot slots line.slot) (option_map_or (valid.has_slot slots) line.guard true) named),
    )
  where
    by_guard : (o : Option ℕ) → option_map_or (valid.has_slot slots) o true ≡ true → MatchOption o (Unit {0}) (λ g. g < length slots)
    by_guard None e' = tt
    by_guard (Some g) e' = ltb-true g (length slots) e'

-- ---- the whole

mem_known_of : (cases : List (List Name)) (s : Slot) → valid.slot_fault cases s ≡ None → IsKnown cases (first_leaf s.kind)
mem_known_of cases s e = by_kind s.kind (and-right (is_known_shape cases s.shape) (mem_known cases s.kind) (named_of (is_known_shape cases s.shape && mem_known cases s.kind) true (mem_fits s.kind s.shape) e))
  where
    by_kind : (k : SlotKind) → mem_known cases k ≡ true → IsKnown cases (first_leaf k)
    by_kind kinds.Plain e' = refl
    by_kind (kinds.Mem l) e' = e'
    by_kind kinds.Arg e' = refl

-- what valid code keeps to
pub record Keeps (d : Draft) : Type 0 where
  pub slots : Each (λ (s : Slot). IsKnown d.cases (first_leaf s.kind)) d.slots
  pub inputs : All (InWithin (length d.slots)) d.inputs
  pub outputs : All (OutWithin (length d.slots)) d.outputs
  pub bodies : AreWithin [] d.bodies
  pub bodies_known : Each (BodyKnown d.cases) d.bodies
  pub main : All (IsWithin d.bodies (length d.slots)) d.main
  pub main_known : Each (LeafKnown d.cases) d.main

pub keeps : (d : Draft) → valid.first_fault d ≡ None → Keeps d
keeps d e =
    let slots = valid.slots_fault d.cases d.slots in
    let ins = valid.inputs_fault d.cases d.slots d.inputs in
    let outs = valid.outputs_fault d.slots d.outputs in
    let bodies = valid.bodies_fault d.cases d.body_lacks [] [] d.bodies in
    let outer = or-first (valid.outer_fault d) (valid.or_else bodies (valid.main_fault d)) e in
    let inner = or-second (valid.outer_fault d) (valid.or_else bodies (valid.main_fault d)) e in
    let slots_none = map-none (λ f. (place.Slot f.0, f.1)) slots (or-first (valid.slot_place slots) (valid.or_else (valid.in_place ins) (valid.out_place outs)) outer) in
    let both_none = or-second (valid.slot_place slots) (valid.or_else (valid.in_place ins) (valid.out_place outs)) outer in
    let ins_none = map-none (λ f. (place.In f.0, f.1)) ins (or-first (valid.in_place ins) (valid.out_place outs) both_none) in
    let outs_none = map-none (λ f. (place.Out f.0, f.1)) outs (or-second (valid.in_place ins) (valid.out_place outs) both_none) in
    let fit = bodies_fit d.cases d.body_lacks [] [] d.bodies (or-first bodies (valid.main_fault d) inner) in
    let main = list_fits (valid.main_around d) d.main_lacks d.main (map-none (λ f. (place.Line f.0, f.1)) (valid.list_fault (valid.main_around d) d.main_lacks d.main) (or-second bodies (valid.main_fault d) inner)) in
    record {
      slots = each_judged (λ earlier later s. valid.slot_fault d.cases s) (λ (s : Slot). IsKnown d.cases (first_leaf s.kind)) (λ earlier later s. mem_known_of d.cases s) [] d.slots slots_none;
      inputs = each_all (InWithin (length d.slots)) d.inputs
          (each_judged (λ earlier later line. valid.in_fault d.cases d.slots d.inputs earlier line) (InWithin (length d.slots)) (λ earlier later line. in_fits d.cases d.slots d.inputs earlier later line) [] d.inputs ins_none);
      outputs = each_all (OutWithin (length d.slots)) d.outputs
          (each_judged (λ earlier later line. valid.out_fault d.slots line) (OutWithin (length d.slots)) (λ earlier later line. out_fits d.slots earlier later line) [] d.outputs outs_none);
      bodies = fit.0;
      bodies_known = fit.1;
      main = within_of (valid.main_around d) d.main main;
      main_known = known_of (valid.main_around d) d.main main;
    }

-- the same of a code
pub code_keeps : (code : Code) → Keeps (draft_of code)
code_keeps code = keeps (draft_of code) (none_is (valid.first_fault (draft_of code)) code.faultless)
