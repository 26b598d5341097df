-- Valid code as a draft.
use Rattle.step_code.specs.declared.code.Code.{Code}
use Rattle.step_code.specs.declared.draft.Draft.{Draft}

-- the lines of a code, none of which is lacking
abbrev pub draft_of : Code → Draft
draft_of code = record {
  cases = code.cases;
  names = code.names;
  slots = code.slots;
  inputs = code.inputs;
  outputs = code.outputs;
  bodies = code.bodies;
  main = code.main;
  body_lacks = 0;
  main_lacks = 0;
}
