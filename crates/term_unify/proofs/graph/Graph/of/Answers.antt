use Rattle.std.proofs.Common.{◌≡◌, ◌∙◌, sym, ap, subst, length}
use Rattle.std.proofs.lemmas.List.{length-map}
use Rattle.term_unify.specs.Graph.{nodes, value, Solves, AreWithin, Pose, JoinsVariables}
use Rattle.term_unify.proofs.Nodes.{pose_kept, pose_within, pose_sound, pose_back}
use Rattle.term_unify.proofs.graph.Graph.of.Goals as goal

posed : (g : _) (c : goal.In_ok-join_variables g) → Pose (nodes c.expand.new.terms.items) c.in_ok-terms.equal.items c.args.pairs.now.list
posed g c =
    subst (λ z. Pose (nodes c.expand.new.terms.items) c.in_ok-terms.equal.items z) c.as_slice.ensures.value
    (pose_kept (nodes c.in_ok-terms.terms.items) (nodes c.expand.new.terms.items) c.in_ok-terms.equal.items c.as_slice.result.now c.in_ok-first.ensures.kept c.in_ok-terms.ensures)

pub returns-clause-within : goal.returns-clause-within
returns-clause-within g c =
    let n : length (nodes c.expand.new.terms.items) ≡ length c.as_slice-2.result.now =
    length-map c.expand.new.terms.items _ ∙ sym (ap length c.as_slice-2.ensures.value) in
    subst (λ n. AreWithin n c.join_variables.new.equal.items) (ap length c.as_slice-2.ensures.value)
    (c.in_ok-join_variables.ensures.within (subst (λ n. AreWithin n c.in_ok-terms.equal.items) n (pose_within (nodes c.expand.new.terms.items) c.in_ok-terms.equal.items c.args.pairs.now.list (posed g c))))

pub returns-clause-sound : goal.returns-clause-sound
returns-clause-sound g c by u =
    subst (λ z. Solves (value g.T.Term (nodes z) by) c.join_variables.new.equal.items) c.as_slice-2.ensures.value
    (c.in_ok-join_variables.ensures.sound by
    (subst (λ z. Solves (value g.T.Term (nodes z) by) c.in_ok-terms.equal.items) (sym c.as_slice-2.ensures.value)
    (pose_sound g.T.Term (nodes c.expand.new.terms.items) by c.in_ok-terms.equal.items c.args.pairs.now.list (posed g c) u)))

pub returns-clause-kept : goal.returns-clause-kept
returns-clause-kept g c by z =
    pose_back g.T.Term (nodes c.expand.new.terms.items) by c.in_ok-terms.equal.items c.args.pairs.now.list (posed g c)
    (subst (λ z. Solves (value g.T.Term (nodes z) by) c.in_ok-terms.equal.items) c.as_slice-2.ensures.value
    (c.in_ok-join_variables.ensures.kept by
    (subst (λ z. Solves (value g.T.Term (nodes z) by) c.join_variables.new.equal.items) (sym c.as_slice-2.ensures.value) z)))

pub returns-clause-joined : goal.returns-clause-joined
returns-clause-joined g c f z =
    subst (λ ts. JoinsVariables g.T.Term (nodes ts) (length ts) f) c.as_slice-2.ensures.value (c.in_ok-join_variables.ensures.joined f z)
