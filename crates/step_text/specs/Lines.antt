-- The lines of the places of step code.
use Rattle.std.specs.Prelude.{ℕ, ◌+◌, ◌<◌, List, [], ◌∷◌, length, take, slice_get}
use Rattle.std.specs.Option.{option_map_or}
use Rattle.step_code.specs.declared.draft.Draft.{Draft}
use Rattle.step_code.specs.declared.parts.CodeBody.{CodeBody}
use Rattle.step_code.specs.declared.parts.Place.{Place}
use Rattle.step_code.specs.declared.parts.Place.TheVariants.{Slot, In, Out, BodySlot, BodyLine, Line}

-- the number of lines of a body
abbrev pub body_size : CodeBody → ℕ
body_size body = 1 + length body.slots + length body.list

abbrev pub bodies_size : List CodeBody → ℕ
bodies_size [] = 0
bodies_size (body ∷ bodies) = body_size body + bodies_size bodies

-- the number of lines before the first body
abbrev pub front_size : Draft → ℕ
front_size d = 2 + length d.cases + length d.slots + length d.inputs + length d.outputs

abbrev pub slots_in : List CodeBody → ℕ → ℕ
slots_in bodies b = option_map_or (λ (body : CodeBody). length body.slots) (slice_get bodies b) 0

abbrev pub lines_in : List CodeBody → ℕ → ℕ
lines_in bodies b = option_map_or (λ (body : CodeBody). length body.list) (slice_get bodies b) 0

-- the number of lines before that of a body
abbrev pub before_body : Draft → ℕ → ℕ
before_body d b = front_size d + bodies_size (take b d.bodies)

-- the number, from 1, of the line of a place
abbrev pub line_of : Draft → Place → ℕ
line_of d (Slot k) = 3 + length d.cases + k
line_of d (In k) = 3 + length d.cases + length d.slots + k
line_of d (Out k) = 3 + length d.cases + length d.slots + length d.inputs + k
line_of d (BodySlot b k) = before_body d b + 2 + k
line_of d (BodyLine b k) = before_body d b + 2 + slots_in d.bodies b + k
line_of d (Line k) = front_size d + bodies_size d.bodies + 2 + k

-- the place is there
abbrev pub IsPlace : Draft → Place → Type 0
IsPlace d (Slot k) = k < length d.slots
IsPlace d (In k) = k < length d.inputs
IsPlace d (Out k) = k < length d.outputs
IsPlace d (BodySlot b k) = (b < length d.bodies) × (k < slots_in d.bodies b)
IsPlace d (BodyLine b k) = (b < length d.bodies) × (k < lines_in d.bodies b)
IsPlace d (Line k) = k < length d.main

-- the number of lines, but for those that begin the main list and end the text
abbrev pub size : Draft → ℕ
size d = front_size d + bodies_size d.bodies + length d.main
