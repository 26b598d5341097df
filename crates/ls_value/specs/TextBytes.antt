-- How a string lies in its 63 bytes.
use Rattle.std.specs.Prelude.{◌≡◌, ℕ, ◌++◌, ◌≤◌, List, length, take, drop, replicate}
use Rattle.ls_value.specs.Character.{AreCharacters}
use Rattle.ls_value.specs.declared.text.Text.TheInside.{Inside}

-- what the string leaves free is 0
abbrev pub padded : List ℕ → List ℕ
padded text = text ++ drop (length text) (replicate 63 0)

pub record IsPadded (a : Inside) : Type 0 where
  pub room : length a.bytes ≡ 63
  pub short : a.len ≤ 63
  pub rest : a.bytes ≡ padded (take a.len a.bytes)
  pub characters : AreCharacters (take a.len a.bytes)
