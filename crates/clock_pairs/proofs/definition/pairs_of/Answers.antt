use Rattle.std.proofs.Common.{◌∙◌, ◌++◌, ap}
use Rattle.clock_pairs.proofs.Collecting.{pairs_are}
use Rattle.clock_pairs.proofs.Pairing.{all_parts}
use Rattle.clock_pairs.specs.Scene as spec
use Rattle.clock_pairs.specs.Walks as walks
use Rattle.clock_pairs.proofs.definition.pairs_of.Goals as goal

pub returns : goal.returns
returns g c =
    let s = c.args.scene.now in
    let P = g.C.CasePlaces.place in
    all_parts c.in_ok-list.list c.add_sites.new.out c.add_starts.new.out c.add_blocks.new.out (spec.sites_pairs P s s.index.now.places.sites) (spec.starts_pairs P s s.index.now.places.starts) _
    (c.in_ok-add_sites.ensures ∙ ap (λ z. c.in_ok-list.list ++ spec.sites_pairs P s z) c.as_slice.ensures.value)
    (c.in_ok-add_starts.ensures ∙ ap (λ z. c.add_sites.new.out ++ spec.starts_pairs P s z) c.as_slice-2.ensures.value)
    (c.in_ok-add_blocks.ensures ∙ ap (λ z. c.add_starts.new.out ++ spec.blocks_pairs P s z s.index.now.places.names) c.first.ensures.value)
    ∙ ap (λ z. z ++ spec.equation_pairs P s) (c.in_ok-list.ensures ∙ pairs_are P s (walks.all_nodes s.index.now.places.exprs) _)
