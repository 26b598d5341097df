-- The answers of the top call.
use Rattle.std.specs.Prelude.{ℕ, Bool, true, false}
use Rattle.lsc_cli.specs.declared.status.Status.{Status}
use Rattle.lsc_cli.specs.declared.status.Status.TheVariants.{Done, Refused, Usage, BadLine, Alarm, Unloaded, ReadFault, WriteFault, NoMemory, TooLarge}

-- the exit status of the program
abbrev pub number_of : Status → ℕ
number_of Done = 0
number_of Refused = 1
number_of Usage = 2
number_of BadLine = 3
number_of Alarm = 4
number_of Unloaded = 5
number_of ReadFault = 6
number_of WriteFault = 7
number_of NoMemory = 8
number_of TooLarge = 9

-- an answer that tells of the outside, and not of the program and its input
abbrev pub is_fault : Status → Bool
is_fault Done = false
is_fault Refused = false
is_fault Usage = false
is_fault BadLine = false
is_fault Alarm = false
is_fault Unloaded = true
is_fault ReadFault = true
is_fault WriteFault = true
is_fault NoMemory = true
is_fault TooLarge = false

-- the answer is about the file and what follows, not about the words, the load or memory
abbrev pub is_about_file : Status → Bool
is_about_file Usage = false
is_about_file Unloaded = false
is_about_file NoMemory = false
is_about_file _ = true
