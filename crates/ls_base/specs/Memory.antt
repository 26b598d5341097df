-- Texts, sources and sinks in memory, of which chosen calls fail.
use Rattle.std.specs.Prelude.{ℕ, ◌+◌, min, Bool, ◌||◌, not, List, [], ◌∷◌, ◌++◌, Option, Some, None, length, drop, map, nat_eq, nat_lt, is_some, if◌then◌else◌, String, Vec}
use Rattle.std.specs.Global.{Global}
use Rattle.std.specs.List.{list_any}
use Rattle.std.specs.Str.{bytes_eq}
use Rattle.std.specs.String.{string_bytes}

-- A count of a u64, one more: it stays at its greatest value.
abbrev pub more : ℕ → ℕ
more n = min (n + 1) 18446744073709551615

-- The call of this number is one of those that fail.
abbrev pub among : ℕ → List ℕ → Bool
among call fails = list_any (λ k. nat_eq k call) fails

-- A source: the bytes that it still holds, the most that it gives at a time, how many its last read gave, the number of its next call, the calls that fail, and the faults so far.
pub record SourceState : Type 0 where
  pub left : List ℕ
  pub piece : ℕ
  pub gave : ℕ
  pub calls : ℕ
  pub fails : List ℕ
  pub faults : ℕ

-- The next read fails.
abbrev pub read_fails : SourceState → Bool
read_fails s = among s.calls s.fails

-- How many bytes a read into so much room gives where it does not fail.
abbrev pub given : SourceState → ℕ → ℕ
given s room = min (min s.piece room) (length s.left)

-- The source after a read into so much room.
abbrev pub after_read : SourceState → ℕ → SourceState
after_read s room =
    if read_fails s then record s { gave = 0; calls = more s.calls; faults = more s.faults }
    else record s { left = drop (given s room) s.left; gave = given s room; calls = more s.calls }

-- A sink: the bytes that it has taken, the most that it takes in all, the number of its next call, the calls that fail, and the faults so far.
pub record SinkState : Type 0 where
  pub written : List ℕ
  pub room : ℕ
  pub calls : ℕ
  pub fails : List ℕ
  pub faults : ℕ

-- The next write fails where it is one of those that do, or passes the room.
abbrev pub write_fails : SinkState → List ℕ → Bool
write_fails s piece = among s.calls s.fails || nat_lt s.room (length s.written + length piece)

-- The sink after a write of a piece.
abbrev pub after_write : SinkState → List ℕ → SinkState
after_write s piece =
    if write_fails s piece then record s { calls = more s.calls; faults = more s.faults }
    else record s { written = s.written ++ piece; calls = more s.calls }

-- The bytes of the first text of a name.
abbrev pub text_of : List ℕ → List (List ℕ × List ℕ) → Option (List ℕ)
text_of name [] = None
text_of name (file ∷ files) = if bytes_eq file.0 name then Some file.1 else text_of name files

-- Texts: each with its name, the number of the next load, the loads that fail, the faults so far of each name that is there, and those of each name that is not.
pub record TextsState : Type 0 where
  pub files : List (List ℕ × List ℕ)
  pub calls : ℕ
  pub fails : List ℕ
  pub failed : ℕ
  pub missed : ℕ

-- The bytes under a name, where it is there.
abbrev pub told_text : TextsState → List ℕ → Option (List ℕ)
told_text t name = text_of name t.files

-- The faults so far of a name.
abbrev pub faults_of : TextsState → List ℕ → ℕ
faults_of t name = if is_some (told_text t name) then t.failed else t.missed

-- The texts after a load of a name: a name that is not there is a fault, and so is a load that fails.
abbrev pub after_load : TextsState → List ℕ → TextsState
after_load t name =
    if is_some (told_text t name) then (if among t.calls t.fails then record t { calls = more t.calls; failed = more t.failed } else record t { calls = more t.calls })
    else record t { calls = more t.calls; missed = more t.missed }

-- The next load of a name fails.
abbrev pub load_fails : TextsState → List ℕ → Bool
load_fails t name = among t.calls t.fails || not (is_some (told_text t name))

-- The files of a vector by the bytes of their names.
abbrev pub named : List (String Global × Vec ℕ Global) → List (List ℕ × List ℕ)
named files = map (λ file. (string_bytes file.0, file.1.items)) files
