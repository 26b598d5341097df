-- The forms of a command.
use Rattle.std.specs.Prelude.{ℕ, List, [], ◌∷◌, Option, Some, None, codes, length, nat_lt, nat_le, ◌&&◌, option_map, option_and_then, if◌then◌else◌}
use Rattle.std.specs.Str.{bytes_eq}
use Rattle.std.specs.Char.{is_ascii_digit}
use Rattle.std.specs.List.{list_all}
use Rattle.std.specs.Str.Parse.{digits_value}
use Rattle.command_words.specs.Options.{Text, Given, given_of}

-- what is done with a file; of a node the name is given, and of a run how many lines are answered at most
pub data Task : Type 0 where
  Check : Task
  Run : Text → ℕ → Task
  Code : Text → Task
  Model : Text → Task
  Exec : Task

-- a file and what is done with it, or a seed and a number of instants
pub data Command : Type 0 where
  OnFile : Text → Task → Command
  Demo : ℕ → ℕ → Command

-- the greatest number of lines that a run answers
abbrev pub most_lines : ℕ
most_lines = 4294967295

abbrev pub within : ℕ → ℕ → ℕ → Option ℕ
within least most n = if nat_le least n && nat_le n most then Some n else None

-- one or more digits, leading zeros allowed, whose number is within both bounds
abbrev pub number_of : ℕ → ℕ → Text → Option ℕ
number_of least most text = if list_all is_ascii_digit text && nat_lt 0 (length text) then within least most (digits_value 10 text) else None

-- FILE
abbrev pub only_file : List Text → Option Text → Option Text
only_file (file ∷ []) None = Some file
only_file _ _ = None

-- FILE NODE
abbrev pub file_and_node : List Text → Option Text → Option (Text × Text)
file_and_node (file ∷ node ∷ []) None = Some (file, node)
file_and_node _ _ = None

-- FILE NODE, with `--max N`
abbrev pub most_of : Option Text → Option ℕ
most_of None = Some most_lines
most_of (Some text) = number_of 1 most_lines text

abbrev pub run_form : List Text → Option Text → Option Command
run_form (file ∷ node ∷ []) max = option_map (λ most. OnFile file (Run node most)) (most_of max)
run_form _ max = None

-- SEED INSTANTS
abbrev pub demo_form : List Text → Option Text → Option Command
demo_form (seed ∷ instants ∷ []) None =
    option_and_then (λ s. option_map (λ n. Demo s n) (number_of 1 200000 instants)) (number_of 0 4294967295 seed)
demo_form _ _ = None

abbrev pub form_of : Text → Given → Option Command
form_of word given =
    if bytes_eq word (codes "check") then option_map (λ file. OnFile file Check) (only_file given.words given.max)
    else (if bytes_eq word (codes "run") then run_form given.words given.max
    else (if bytes_eq word (codes "code") then option_map (λ named. OnFile named.0 (Code named.1)) (file_and_node given.words given.max)
    else (if bytes_eq word (codes "model") then option_map (λ named. OnFile named.0 (Model named.1)) (file_and_node given.words given.max)
    else (if bytes_eq word (codes "demo") then demo_form given.words given.max
    else (if bytes_eq word (codes "exec") then option_map (λ file. OnFile file Exec) (only_file given.words given.max)
    else None)))))

-- the command that words ask for, where they are of a form
abbrev pub command_of : List Text → Option Command
command_of [] = None
command_of (word ∷ rest) = option_and_then (form_of word) (given_of rest)
