use Rattle.std.proofs.Common.{◌≡◌, drop}
use Rattle.clock_pairs.specs.Walks as walks
use Rattle.clock_pairs.proofs.expressions.+collect.Given as goal

abbrev pub invariant-collect_all-loop-e : goal.invariant-collect_all-loop-e
invariant-collect_all-loop-e g l =
    walks.walked g.C.CasePlaces.place l.scene l.place (drop l.e-index l.all) l.state ≡ walks.walked g.C.CasePlaces.place l.scene l.place l.all l.initial.state

abbrev pub invariant-collect_branches-loop-choice : goal.invariant-collect_branches-loop-choice
invariant-collect_branches-loop-choice g l =
    walks.walked g.C.CasePlaces.place l.scene l.place (walks.branches (drop l.choice-index l.all)) l.state ≡ walks.walked g.C.CasePlaces.place l.scene l.place (walks.branches l.all) l.initial.state
