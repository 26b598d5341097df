use Rattle.std.proofs.Common.{◌≡◌, ◌++◌, drop}
use Rattle.init_check.specs.Walks as own
use Rattle.init_check.proofs.sources.+sources.Given as goal

abbrev pub invariant-add_all_sources-loop-e : goal.invariant-add_all_sources-loop-e
invariant-add_all_sources-loop-e l = l.out ++ own.all_sources l.d l.sigs l.place (drop l.e-index l.all) ≡ l.initial.out ++ own.all_sources l.d l.sigs l.place l.all

abbrev pub invariant-add_chosen_sources-loop-i : goal.invariant-add_chosen_sources-loop-i
invariant-add_chosen_sources-loop-i l = l.out ++ own.chosen_sources l.d l.sigs l.place l.bits l.want l.i (drop l.i l.all) ≡ l.initial.out ++ own.chosen_sources l.d l.sigs l.place l.bits l.want 0 l.all
