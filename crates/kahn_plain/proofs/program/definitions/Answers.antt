use Rattle.std.proofs.Common.{sym}
use Rattle.ls_places.specs.Definitions as places
use Rattle.kahn_plain.proofs.Defined.{definitions_next, each_all}
use Rattle.kahn_plain.proofs.program.definitions.Goals as goal

pub returns-clause-numbered : goal.returns-clause-numbered
returns-clause-numbered c = each_all c.loop-item.done c.loop-item.invariant.numbered

pub loop-item-preserved : goal.loop-item-preserved
loop-item-preserved c = record {
  made = definitions_next (places.case_place c.args.file.now) c.args.all.now c.loop-item.item-index c.item-item.result c.loop-item.done c.add_definition.new.done _ c.loop-item-test.true
      (sym c.item-item.is) c.in_ok-add_definition.ensures.definition c.loop-item.invariant.made;
  numbered = c.in_ok-add_definition.ensures.numbered;
}
