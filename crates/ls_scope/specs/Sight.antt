-- What is in sight, as the code has it.
use Rattle.ls_scope.specs.declared.sight.Sight as rust
use Rattle.scope_rules.specs.Faults.{Sight}

abbrev pub sight_of : rust.Sight → Sight
sight_of s = record { params = s.params.now; vars = s.vars.now; defs = s.known.now.defs }
