use Rattle.std.specs.Prelude.{nat_eq}
use Rattle.std.proofs.Common.{◌∙◌, ap, sym}
use Rattle.indexmap.specs.IndexMap.{get}
use Rattle.ls_places.specs.Clocks.{clocks_in, or_else}
use Rattle.ls_places.specs.Search as spec
use Rattle.ls_places.specs.declared.places.Whole.{Whole}
use Rattle.ls_sig.specs.declared.binder.Note.{Note}
use Rattle.block_tables.specs.Blocks as own
use Rattle.block_tables.proofs.Sampled.{noted_append}
use Rattle.block_tables.proofs.Maps.{first_walk}
use Rattle.block_tables.proofs.blocks.block_clocks.Goals as goal

pub loop-whole-preserved : goal.loop-whole-preserved
loop-whole-preserved c =
    first_walk (λ (w : Whole Note) m. own.noted (clocks_in w.expr) m) (λ all m. own.noted (spec.all_clocks all) m) (λ (w : Whole Note) rest m. noted_append m (clocks_in w.expr) (spec.all_clocks rest))
    c.args.all.now c.loop-whole.whole-index c.whole-item.result (get nat_eq c.loop-whole.done) (get nat_eq c.add_all_below.new.clocks) (λ m. own.noted (spec.all_clocks c.args.all.now) m)
    c.loop-whole-test.true (sym c.whole-item.is)
    (λ m. c.in_ok-add_all_below.ensures m ∙ ap (λ z. or_else (get nat_eq c.loop-whole.done m) (own.noted z m)) (c.as_slice.ensures.value ∙ c.in_ok-clocks.ensures))
    c.loop-whole.invariant
