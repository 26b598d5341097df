-- What stands before a file.
use Rattle.std.specs.Prelude.{[]}
use Rattle.ls_sig.specs.declared.env.Env.{Env}

-- the environment of nothing
abbrev pub empty : Env
empty = record { names = []; enums = []; sigs = []; inits = record { list = [] } }
