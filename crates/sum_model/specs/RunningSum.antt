-- The stream network of a running sum: whole rows, solved by turns (Kahn 1974), cut at the instants
-- of the input. In this form every clock is on and nothing restarts.
use Rattle.std.specs.Prelude.{◌≡◌, ℕ, zero, suc, ◌-◌, ◌*◌, ◌==◌, if◌then◌else◌, ℤ, List, Option, Some, None, length, slice_get, slice_index_or, option_and_then}
use Rattle.std.specs.Option.{option_map}
use Rattle.std.specs.Int.{int_wrapping_add, w64}
use Rattle.sum_model.specs.declared.running_sum.RunningSum.{RunningSum}
use Rattle.sum_model.specs.declared.running_sum.Stream.{Stream}
use Rattle.sum_model.specs.declared.running_sum.Stream.TheVariants as streams

-- the cells of a stream by instant, counted from 0; None is Unknown
abbrev pub Row : Type 0
Row = ℕ → Option ℤ

-- what is known of the first row is so in the second
abbrev pub IsBelow : Row → Row → Type 0
IsBelow a b = (i : ℕ) (v : ℤ) → a i ≡ Some v → b i ≡ Some v

-- the previous instant, if there is one
abbrev pub previous : ℕ → Option ℕ
previous i = if i == 0 then None else Some (i - 1)

-- `first fby y`: first at a first instant, else y at the previous one
abbrev pub delayed : ℤ → Row → Option ℕ → Option ℤ
delayed first y None = Some first
delayed first y (Some j) = y j

abbrev pub fby : ℤ → Row → Row
fby first y i = delayed first y (previous i)

-- `a + b` in 64 bits, Unknown where a part is
abbrev pub plus : Row → Row → Row
plus a b i = option_and_then (λ x. option_map (λ y. int_wrapping_add w64 x y) (b i)) (a i)

-- the row of the parameter
abbrev pub given : List ℤ → Row
given inputs i = slice_get inputs i

-- the row of one of the two streams
abbrev pub row_of : Stream → Row → Row → Row
row_of streams.Param param sum = param
row_of streams.Sum param sum = sum

-- a turn: the sum's row anew from the table before it
abbrev pub turn : RunningSum → List ℤ → Row → Row
turn body inputs sum = plus (given inputs) (fby body.first (row_of body.delayed (given inputs) sum))

-- the table after so many turns; before them every cell is Unknown
abbrev pub after : ℕ → RunningSum → List ℤ → Row
after zero body inputs = λ i. None
after (suc turns) body inputs = turn body inputs (after turns body inputs)

-- the table: one row, n instants, 1 times n turns
abbrev pub table : RunningSum → List ℤ → Row
table body inputs = after (1 * length inputs) body inputs

-- a table as data: its one row, a cell for each instant; past its end every cell is Unknown
abbrev pub row_in : List (Option ℤ) → Row
row_in cells i = slice_index_or cells i None

-- the network: the row of the result
abbrev pub network : RunningSum → List ℤ → Row
network body inputs = row_of body.result (given inputs) (table body inputs)

-- what the delay gives at the instant after the inputs
abbrev pub memory_after : RunningSum → List ℤ → Option ℤ
memory_after body inputs = fby body.first (row_of body.delayed (given inputs) (table body inputs)) (length inputs)

-- This is what the delay remembers after the inputs.
abbrev pub Remembers : RunningSum → List ℤ → ℤ → Type 0
Remembers body inputs memory = memory_after body inputs ≡ Some memory

-- one of the two streams at one instant
abbrev pub value_of : Stream → ℤ → ℤ → ℤ
value_of streams.Param param sum = param
value_of streams.Sum param sum = sum
