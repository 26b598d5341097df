use Rattle.std.specs.Prelude.{◌≡◌, true}
use Rattle.clock_rules.proofs.FactsNatural.{facts_in}
use Rattle.clock_rules.proofs.Finding.{find_in}
use Rattle.clock_rules.proofs.Noting.{nodes_of_notes, notes_of_nodes}
use Rattle.clock_rules.proofs.laws.places.Goals as goal

pub returns-clause-same : goal.returns-clause-same
returns-clause-same g c = λ f first cases s s' agree. find_in _ _ f first cases s s' agree

pub returns-clause-facts : goal.returns-clause-facts
returns-clause-facts g c = λ f p p' agree cases s s' signal. facts_in _ _ f p p' agree cases s s' signal

pub returns-clause-notes : goal.returns-clause-notes
returns-clause-notes g c = λ function holds first cases s b.
    (notes_of_nodes _ function (λ n. holds n ≡ true) first cases s b, nodes_of_notes _ function (λ n. holds n ≡ true) first cases s b)
