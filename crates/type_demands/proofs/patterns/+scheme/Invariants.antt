use Rattle.std.proofs.Common.{◌≡◌, ◌+◌, ◌++◌, drop, map}
use Rattle.type_rules.specs.Bodies as spec
use Rattle.type_demands.proofs.patterns.+scheme.Given as goal

abbrev pub invariant-schemes-loop-pat : goal.invariant-schemes-loop-pat
invariant-schemes-loop-pat l = record {
  scheme : l.list ++ spec.schemes_of (map spec.shape_of (drop l.pat-index l.all)) l.next ≡ spec.schemes_of (map spec.shape_of l.all) l.initial.next;
  next : l.next + spec.leaves_of (map spec.shape_of (drop l.pat-index l.all)) ≡ l.initial.next + spec.leaves_of (map spec.shape_of l.all);
  names : l.names ++ spec.names_in (map spec.shape_of (drop l.pat-index l.all)) l.next ≡ l.initial.names ++ spec.names_in (map spec.shape_of l.all) l.initial.next;
}
