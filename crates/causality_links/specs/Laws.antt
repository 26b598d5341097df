-- What the rules of causality give in the model.
use Rattle.std.specs.Prelude.{◌≡◌, ℕ, List, [], Option, Some}
use Rattle.ls_ast.specs.declared.tree.DefOf.{DefOf}
use Rattle.ls_sig.specs.declared.binder.Note.{Note}
use Rattle.ls_sig.specs.declared.sigs.Item.{Item}
use Rattle.ls_places.specs.Definitions.{definitions}
use Rattle.ls_places.specs.Search.{nth}
use Rattle.ls_places.specs.declared.definition.Definition.{Definition}
use Rattle.kahn_model.specs.Causality.{AllCausal, Causal}
use Rattle.kahn_model.specs.Reads.{Shape}
use Rattle.causality_rules.specs.Files.{AllRanked, lets}
use Rattle.causality_rules.specs.Items.{IsCausal}
use Rattle.causality_links.specs.Close.{Close, Scoped}

-- a body that is causal by the rules is causal in the model, whatever functions it is given
abbrev pub CausalByRules : Type 0
CausalByRules = (d : Definition) (shapes : List Shape) → Close d → Scoped d shapes → IsCausal d → Causal d shapes

-- so is each definition of a file whose items are numbered
abbrev pub FileIsCausal : Type 0
FileIsCausal =
    (cases : ℕ → Option ℕ) (all : List (DefOf Note)) (ranks : List (List (Item × ℕ))) → AllRanked (lets cases all) ranks
    → ((k : ℕ) (d : Definition) → nth (definitions cases all) k ≡ Some d → Close d × Scoped d []) → AllCausal (definitions cases all)
