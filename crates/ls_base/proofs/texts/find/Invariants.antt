use Rattle.std.proofs.Common.{◌≡◌, drop}
use Rattle.ls_base.specs.Memory.{text_of, named}
use Rattle.ls_base.proofs.texts.find.Given as goal

abbrev pub invariant-loop-file : goal.invariant-loop-file
invariant-loop-file l = text_of l.name (named (drop l.file-index l.files)) ≡ text_of l.name (named l.files)
