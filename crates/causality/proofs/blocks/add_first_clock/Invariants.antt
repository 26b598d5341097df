use Rattle.std.proofs.Common.{◌≡◌, drop}
use Rattle.ls_places.specs.Search.{nth}
use Rattle.causality_rules.specs.Reads as reads
use Rattle.place_tables.specs.Groups.{picked}
use Rattle.causality.proofs.blocks.add_first_clock.Given as goal

abbrev pub invariant-loop-k : goal.invariant-loop-k
invariant-loop-k l = record { same : l.out ≡ l.initial.out; clock : reads.site_clock l.d (nth (picked l.d.places.sites (drop l.k-index l.numbers)) 0) ≡ reads.site_clock l.d (nth (picked l.d.places.sites l.numbers) 0) }
