-- What the words of a command line ask for, where it is built.
use Rattle.std.specs.Prelude.{ℕ, Bool, true, false, List, Option, Some, None, if◌then◌else◌, map, option_and_then, string_bytes}
use Rattle.std.specs.declared.string.String.{String}
use Rattle.std.specs.declared.alloc.Global.{Global}
use Rattle.command_words.specs.Asked.{task_of}
use Rattle.command_words.specs.Forms.{Command, OnFile, Demo, Task, Check, Run, Code, Model, Exec, command_of, most_lines}
use Rattle.command_words.specs.declared.forms.Task.{Task as ReadTask}

abbrev pub texts_of : List (String Global) → List (List ℕ)
texts_of words = map string_bytes words

-- what can be done with a file so far; the other forms of a command are answered as words of no form are
abbrev pub is_built : Task → Bool
is_built Check = true
is_built (Run node most) = true
is_built (Code node) = false
is_built (Model node) = false
is_built Exec = true

-- a file and what is done with it
pub record Job : Type 0 where
  pub file : List ℕ
  pub task : Task

abbrev pub job_of : Command → Option Job
job_of (OnFile file task) = if is_built task then Some (record { file = file; task = task }) else None
job_of (Demo seed instants) = None

abbrev pub asked_of : List (String Global) → Option Job
asked_of words = option_and_then job_of (command_of (texts_of words))

-- how many lines of input are answered at most
abbrev pub most_of : Task → ℕ
most_of (Run node most) = most
most_of _ = most_lines

-- a file and a task as the program has them
abbrev pub job : List ℕ → ReadTask → Job
job file task = record { file = file; task = task_of task }
