-- What a call comes to, and the causes of its answers.
use Rattle.std.specs.Prelude.{◌≡◌, ◌≢◌, ℕ, true, false, List, Option, IfSome}
use Rattle.ls_base.specs.Outside.{Rose}
use Rattle.lsc_cli.specs.declared.status.Status.{Status}
use Rattle.lsc_cli.specs.declared.status.Status.TheVariants.{Usage, Unloaded, ReadFault, WriteFault}
use Rattle.lsc_cli.specs.Check.{IsChecked}
use Rattle.lsc_cli.specs.Outcome.{Outcome, Comes}
use Rattle.lsc_cli.specs.Run.{Runs}
use Rattle.lsc_cli.specs.Start.{Start, Ends, Goes, IsStart, IsNodeStart, IsCodeStart}
use Rattle.lsc_cli.specs.Status.{is_about_file}
use Rattle.command_words.specs.Forms.{Task, Check, Run, Exec}
use Rattle.lsc_cli.specs.Words.{Job, most_of}

-- what a call comes to that began so
abbrev pub Follows : ℕ → Option (List ℕ) → Option (List ℕ) → Status → Option (List ℕ) → Option (List ℕ) → Start → Type 0
Follows most input left answer old new (Ends outcome) = Comes outcome answer old new
Follows most input left answer old new (Goes node) = Runs node most input left answer old new

-- a call began as it may begin, and came to what follows
abbrev pub ComesFrom : (Start → Type 0) → ℕ → Option (List ℕ) → Option (List ℕ) → Status → Option (List ℕ) → Option (List ℕ) → Type 0
ComesFrom Begins most input left answer old new = (start : Start) × Begins start × Follows most input left answer old new start

-- what a file within the limit comes to, by what is done with it
abbrev pub Judges : Task → List ℕ → Start → Type 0
Judges Check file start = (outcome : Outcome) × IsChecked file outcome × (start ≡ Ends outcome)
Judges (Run node most) file start = IsNodeStart node file start
Judges Exec file start = IsCodeStart file start
Judges _ file start = ⊥

-- what a job comes to, where its file and the input are told
abbrev pub IsJudged : Job → List ℕ → Option (List ℕ) → Option (List ℕ) → Status → Option (List ℕ) → Option (List ℕ) → Type 0
IsJudged job file input left answer old new = ComesFrom (IsStart (Judges job.task) file) (most_of job.task) input left answer old new

-- The causes of answers that tell of the outside: the counts of faults of the input and of the output rose,
-- and after an answer that is not about the file both are as they were.
pub record HasCause (answer : Status) (reads reads_after writes writes_after : ℕ) (same : Type 0) : Type 0 where
  pub read_fault : answer ≡ ReadFault → Rose reads reads_after
  pub write_fault : answer ≡ WriteFault → Rose writes writes_after
  pub untouched : is_about_file answer ≡ false → same

-- the same of what does not judge words and loads no file
pub record IsInner (answer : Status) (reads reads_after writes writes_after : ℕ) (same : Type 0) : Type 0 where
  pub causes : HasCause answer reads reads_after writes writes_after same
  pub usage : answer ≢ Usage
  pub unloaded : answer ≢ Unloaded
