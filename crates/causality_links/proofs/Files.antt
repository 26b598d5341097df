-- The definitions of a file whose items are numbered.
use Rattle.std.specs.Prelude.{◌≡◌, ℕ, zero, suc, List, [], ◌∷◌, Option, Some, None}
use Rattle.std.proofs.Common.{ap, subst}
use Rattle.ls_ast.specs.declared.tree.DefOf.{DefOf}
use Rattle.ls_ast.specs.declared.tree.DefOf.TheVariants as item
use Rattle.ls_sig.specs.declared.binder.Note.{Note}
use Rattle.ls_sig.specs.declared.sigs.Item.{Item}
use Rattle.ls_places.specs.Definitions.{definition_of, definitions}
use Rattle.ls_places.specs.Search.{nth}
use Rattle.ls_places.specs.declared.definition.Definition.{Definition}
use Rattle.causality_rules.specs.Files.{AllRanked, lets}
use Rattle.causality_rules.specs.Items.{IsCausal}
use Rattle.causality_links.specs.Laws.{FileIsCausal}
use Rattle.causality_links.proofs.Causes.{causal_body}

module _ (cases : ℕ → Option ℕ) where
  the_same : (d e : Definition) → Some d ≡ Some e → d ≡ e
  the_same d e s = ap of_some s
    where
      of_some : Option Definition → Definition
      of_some None = d
      of_some (Some x) = x

  ranked_at : (all : List (DefOf Note)) (ranks : List (List (Item × ℕ))) → AllRanked (lets cases all) ranks → (k : ℕ) (d : Definition)
      → nth (definitions cases all) k ≡ Some d → IsCausal d
  ranked_at [] ranks r k d e = absurd (cc e)
  ranked_at (item.Cases line name names ∷ all) ranks r k d e = ranked_at all ranks r k d e
  ranked_at (item.Let line node name params marks notes body ∷ all) [] r k d e = absurd r
  ranked_at (item.Let line node name params marks notes body ∷ all) (l ∷ ranks) r zero d e =
      subst IsCausal (the_same (definition_of cases params notes body) d e) (r.0.0, r.0.1)
  ranked_at (item.Let line node name params marks notes body ∷ all) (l ∷ ranks) r (suc k) d e = ranked_at all ranks r.1 k d e

pub file_is_causal : FileIsCausal
file_is_causal cases all ranks r premises k d e =
    let p = premises k d e in
    let is = ranked_at cases all ranks r k d e in
    causal_body d [] p.0 p.1 is.0 is.1
