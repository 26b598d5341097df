-- The place of a fault is there.
use Rattle.std.proofs.Common.{◌≡◌, ℕ, ◌+◌, ◌<◌, ◌≤◌, ◌==◌, List, [], ◌∷◌, ◌++◌, length, slice_get, take, suc, zero, Option, None, Some, refl, sym, ◌∙◌, ap, arith, subst, length-append, append_assoc, if◌then◌else◌}
use Rattle.std.specs.Option.{option_map, option_map_or}
use Rattle.step_code.specs.declared.draft.Draft.{Draft}
use Rattle.step_code.specs.declared.parts.CodeBody.{CodeBody}
use Rattle.step_code.specs.declared.parts.Fault.{Fault}
use Rattle.step_code.specs.declared.parts.Place.{Place}
use Rattle.step_code.specs.declared.parts.Place.TheVariants as place
use Rattle.step_code.specs.Valid.{at_place, or_else, fault_after, slot_fault, in_fault, out_fault, slots_fault, inputs_fault, outputs_fault, line_fault, list_fault, slot_place, in_place, out_place, body_slot_place, body_line_place, body_around, body_fault, body_depth, bodies_fault, main_around, outer_fault, main_fault, first_fault}
use Rattle.step_text.specs.Lines.{bodies_size, slots_in, lines_in, line_of, size, IsPlace}

-- what holds of the place of a fault, if there is one
abbrev OfPlace : (Place → Type 0) → Option (Place × Fault) → Type 0
OfPlace holds None = Unit {0}
OfPlace holds (Some found) = holds found.0

abbrev OfNumber : ℕ → Option (ℕ × Fault) → Type 0
OfNumber n None = Unit {0}
OfNumber n (Some found) = found.0 < n

either : {X : Type 0} (P : Option X → Type 0) (one two : Option X) → P one → P two → P (or_else one two)
either P None two h k = k
either P (Some x) two h k = h

one_place : (n k : ℕ) (found : Option Fault) → k < n → OfNumber n (at_place k found)
one_place n k None h = tt
one_place n k (Some f) h = h

after_place : {X : Type 0} (judge : List X → ℕ → X → Option Fault) (earlier xs : List X) → OfNumber (length earlier + length xs) (fault_after judge earlier xs)
after_place judge earlier [] = tt
after_place {X} judge earlier (x ∷ xs) =
    let n = length earlier + length (x ∷ xs) in
    let long : length (earlier ++ x ∷ []) ≡ length earlier + 1 = length-append earlier (x ∷ []) in
    let same : length (earlier ++ x ∷ []) + length xs ≡ length earlier + length (x ∷ xs) = omega arith in
    either (OfNumber (length earlier + length (x ∷ xs))) (at_place (length earlier) (judge earlier (length xs) x)) (fault_after judge (earlier ++ x ∷ []) xs)
    (one_place (length earlier + length (x ∷ xs)) (length earlier) (judge earlier (length xs) x) (omega arith))
    (subst (λ (m : ℕ). OfNumber m (fault_after judge (earlier ++ x ∷ []) xs)) same (after_place judge (earlier ++ x ∷ []) xs))

none_before : {X : Type 0} (judge : List X → ℕ → X → Option Fault) (xs : List X) → OfNumber (length xs) (fault_after judge [] xs)
none_before {X} judge xs = subst (λ (m : ℕ). OfNumber m (fault_after judge [] xs)) (omega arith) (after_place judge [] xs)

-- a number within a list is a place
placed : (holds : Place → Type 0) (n : ℕ) (make : ℕ → Place) (found : Option (ℕ × Fault)) → ((k : ℕ) → k < n → holds (make k)) → OfNumber n found
    → OfPlace holds (option_map (λ (f : ℕ × Fault). (make f.0, f.1)) found)
placed holds n make None h k = tt
placed holds n make (Some f) h k = h f.0 k

at_behind : (done : List CodeBody) (body : CodeBody) (rest : List CodeBody) → slice_get (done ++ (body ∷ rest)) (length done) ≡ Some body
at_behind [] body rest = refl
at_behind (x ∷ done) body rest = at_behind done body rest

body_places : (d : Draft) (done : List CodeBody) (body : CodeBody) (rest : List CodeBody) (depths : List ℕ) (lacks : ℕ) → d.bodies ≡ done ++ (body ∷ rest)
    → OfPlace (IsPlace d) (body_fault d.cases done depths lacks body)
body_places d done body rest depths lacks e =
    let at : slice_get d.bodies (length done) ≡ Some body = ap (λ (bs : List CodeBody). slice_get bs (length done)) e ∙ at_behind done body rest in
    let slots_are : slots_in d.bodies (length done) ≡ length body.slots = ap (λ (o : Option CodeBody). option_map_or (λ (b : CodeBody). length b.slots) o 0) at in
    let lines_are : lines_in d.bodies (length done) ≡ length body.list = ap (λ (o : Option CodeBody). option_map_or (λ (b : CodeBody). length b.list) o 0) at in
    let all : length d.bodies ≡ length done + length (body ∷ rest) = ap length e ∙ length-append done (body ∷ rest) in
    let there : length done < length d.bodies = omega arith in
    either (OfPlace (IsPlace d)) (body_slot_place (length done) (slots_fault d.cases body.slots)) (body_line_place (length done) (list_fault (body_around d.cases done depths body) lacks body.list))
    (placed (IsPlace d) (length body.slots) (λ k. place.BodySlot (length done) k) (slots_fault d.cases body.slots) (λ k lt. (there, omega arith)) (none_before (λ earlier later s. slot_fault d.cases s) body.slots))
    (placed (IsPlace d) (length body.list) (λ k. place.BodyLine (length done) k) (list_fault (body_around d.cases done depths body) lacks body.list) (λ k lt. (there, omega arith))
    (none_before (λ earlier later line. line_fault (body_around d.cases done depths body) earlier (later + lacks) line) body.list))

bodies_places : (d : Draft) (lacks : ℕ) (done : List CodeBody) (depths : List ℕ) (bodies : List CodeBody) → d.bodies ≡ done ++ bodies → OfPlace (IsPlace d) (bodies_fault d.cases lacks done depths bodies)
bodies_places d lacks done depths [] e = tt
bodies_places d lacks done depths (body ∷ rest) e =
    either (OfPlace (IsPlace d)) (body_fault d.cases done depths (if length rest == 0 then lacks else 0) body)
    (bodies_fault d.cases lacks (done ++ body ∷ []) (depths ++ body_depth d.cases done depths body ∷ []) rest)
    (body_places d done body rest depths (if length rest == 0 then lacks else 0) e)
    (bodies_places d lacks (done ++ body ∷ []) (depths ++ body_depth d.cases done depths body ∷ []) rest (e ∙ sym (append_assoc done (body ∷ []) rest)))

all_places : (d : Draft) → OfPlace (IsPlace d) (first_fault d)
all_places d =
    either (OfPlace (IsPlace d)) (outer_fault d) (or_else (bodies_fault d.cases d.body_lacks [] [] d.bodies) (main_fault d))
    (either (OfPlace (IsPlace d)) (slot_place (slots_fault d.cases d.slots)) (or_else (in_place (inputs_fault d.cases d.slots d.inputs)) (out_place (outputs_fault d.slots d.outputs)))
    (placed (IsPlace d) (length d.slots) place.Slot (slots_fault d.cases d.slots) (λ k lt. lt) (none_before (λ earlier later s. slot_fault d.cases s) d.slots))
    (either (OfPlace (IsPlace d)) (in_place (inputs_fault d.cases d.slots d.inputs)) (out_place (outputs_fault d.slots d.outputs))
    (placed (IsPlace d) (length d.inputs) place.In (inputs_fault d.cases d.slots d.inputs) (λ k lt. lt) (none_before (λ earlier later line. in_fault d.cases d.slots d.inputs earlier line) d.inputs))
    (placed (IsPlace d) (length d.outputs) place.Out (outputs_fault d.slots d.outputs) (λ k lt. lt) (none_before (λ earlier later line. out_fault d.slots line) d.outputs))))
    (either (OfPlace (IsPlace d)) (bodies_fault d.cases d.body_lacks [] [] d.bodies) (main_fault d)
    (bodies_places d d.body_lacks [] [] d.bodies refl)
    (placed (IsPlace d) (length d.main) place.Line (list_fault (main_around d) d.main_lacks d.main) (λ k lt. lt)
    (none_before (λ earlier later line. line_fault (main_around d) earlier (later + d.main_lacks) line) d.main)))

-- the place of the first fault is there
pub fault_place : (d : Draft) (p : Place) (f : Fault) → first_fault d ≡ Some (p, f) → IsPlace d p
fault_place d p f e = subst (OfPlace (IsPlace d)) e (all_places d)

-- ---- how far the line of a place is

pub bodies_take : (n : ℕ) (bodies : List CodeBody) → bodies_size (take n bodies) ≤ bodies_size bodies
bodies_take zero bodies = omega arith
bodies_take (suc n) [] = omega arith
bodies_take (suc n) (body ∷ bodies) = let h : bodies_size (take n bodies) ≤ bodies_size bodies = bodies_take n bodies in omega arith

pub slots_few : (bodies : List CodeBody) (b : ℕ) → slots_in bodies b ≤ bodies_size bodies
slots_few [] b = omega arith
slots_few (body ∷ bodies) zero = omega arith
slots_few (body ∷ bodies) (suc b) = let h : slots_in bodies b ≤ bodies_size bodies = slots_few bodies b in omega arith

pub lines_few : (bodies : List CodeBody) (b : ℕ) → lines_in bodies b ≤ bodies_size bodies
lines_few [] b = omega arith
lines_few (body ∷ bodies) zero = omega arith
lines_few (body ∷ bodies) (suc b) = let h : lines_in bodies b ≤ bodies_size bodies = lines_few bodies b in omega arith

body_fits : (bodies : List CodeBody) (b : ℕ) → b < length bodies → bodies_size (take b bodies) + (1 + slots_in bodies b + lines_in bodies b) ≤ bodies_size bodies
body_fits [] b h = absurd (omega arith)
body_fits (body ∷ bodies) zero h = omega arith
body_fits (body ∷ bodies) (suc b) h = let k : bodies_size (take b bodies) + (1 + slots_in bodies b + lines_in bodies b) ≤ bodies_size bodies = body_fits bodies b (omega arith) in omega arith

-- the line of a place is one of those that were read
pub place_short : (d : Draft) (p : Place) → IsPlace d p → line_of d p ≤ size d + 1
place_short d (place.Slot k) h = omega arith
place_short d (place.In k) h = omega arith
place_short d (place.Out k) h = omega arith
place_short d (place.BodySlot b k) h =
    let fits : bodies_size (take b d.bodies) + (1 + slots_in d.bodies b + lines_in d.bodies b) ≤ bodies_size d.bodies = body_fits d.bodies b h.0 in
    let k_lt : k < slots_in d.bodies b = h.1 in
    omega arith
place_short d (place.BodyLine b k) h =
    let fits : bodies_size (take b d.bodies) + (1 + slots_in d.bodies b + lines_in d.bodies b) ≤ bodies_size d.bodies = body_fits d.bodies b h.0 in
    let k_lt : k < lines_in d.bodies b = h.1 in
    omega arith
place_short d (place.Line k) h = omega arith
