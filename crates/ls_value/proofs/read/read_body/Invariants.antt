use Rattle.std.proofs.Common.{◌≡◌, drop}
use Rattle.ls_value.specs.Character.{AreCharacters}
use Rattle.ls_value.specs.Reading.{characters_after, characters_of}
use Rattle.ls_value.proofs.Tokens.{behind}
use Rattle.ls_value.proofs.read.read_body.Given as goal

abbrev pub invariant-loop-byte : goal.invariant-loop-byte
invariant-loop-byte l = (behind l.characters.items (characters_after l.quote l.after (drop l.byte-index l.body)) ≡ characters_of l.quote l.body) × AreCharacters l.characters.items
