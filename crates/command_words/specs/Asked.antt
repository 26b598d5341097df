-- What a command of the program asks for.
use Rattle.std.specs.Prelude.{List, Option, map, option_map}
use Rattle.std.specs.Borrow.{Bor}
use Rattle.command_words.specs.Options.{Text}
use Rattle.command_words.specs.Forms.{Command, OnFile, Demo, Task, Check, Run, Code, Model, Exec}
use Rattle.command_words.specs.declared.forms.Command.{Command as Read}
use Rattle.command_words.specs.declared.forms.Command.TheVariants as commands
use Rattle.command_words.specs.declared.forms.Task.{Task as ReadTask}
use Rattle.command_words.specs.declared.forms.Task.TheVariants as tasks

abbrev pub task_of : ReadTask → Task
task_of tasks.Check = Check
task_of (tasks.Run node most) = Run node.now most
task_of (tasks.Code node) = Code node.now
task_of (tasks.Model node) = Model node.now
task_of tasks.Exec = Exec

abbrev pub asked : Read → Command
asked (commands.OnFile file task) = OnFile file.now (task_of task)
asked (commands.Demo seed instants) = Demo seed instants

abbrev pub texts_in : List (Bor Text) → List Text
texts_in = map (λ text. text.now)

abbrev pub text_in : Option (Bor Text) → Option Text
text_in = option_map (λ text. text.now)
