use Rattle.std.proofs.Common.{◌∙◌, sym, ap, Some, inl, inr, ◌∷◌, [], ◌++◌}
use Rattle.std.specs.Ordering.{nat_cmp}
use Rattle.std.specs.BTreeMap.{get}
use Rattle.term_unify.specs.Terms.{place}
use Rattle.term_unify.proofs.Lists.{some_of, none_of, same_or_not}
use Rattle.term_unify.proofs.Nodes.{apart_cmp}
use Rattle.term_unify.proofs.Places.{place_again, place_other, place_new, pushed, ok_of}
use Rattle.term_unify.proofs.subst.Subst.push.Goals as goal

pub invariant_of-self : goal.invariant_of-self
invariant_of-self g c = record {
  indexed = λ x.
      let I = c.args.self.now.indexed in
      let s = some_of (get nat_cmp c.args.self.now.places c.args.variable) (sym c.contains_key.ensures ∙ c.if-contains_key.true) in
      elim (pushed c.push.result _ _ c.push.ensures.ok c.push.ensures.err) [
        | inl new ↦ I x ∙ sym (ap (λ z. place z x) new ∙ place_again c.args.self.now.list c.args.variable s.0 c.args.value x (sym (I c.args.variable) ∙ s.1))
        | inr old ↦ I x ∙ sym (ap (λ z. place z x) old)
      ];
}

pub invariant_of-self-in-Ok : goal.invariant_of-self-in-Ok
invariant_of-self-in-Ok g c = record {
  indexed = λ x.
      let I = c.args.self.now.indexed in
      let none = none_of (get nat_cmp c.args.self.now.places c.args.variable) (sym c.contains_key.ensures ∙ c.if-contains_key.false) in
      let up = ok_of c.insert.result _ c.insert.ensures.updates (sym c.is_err.ensures.value ∙ c.if-is_err.false) in
      let new = c.in-Ok.ensures.ok in
      elim (same_or_not x c.args.variable) [
        | inl e ↦
            ap (get nat_cmp c.insert.new.self) e ∙ up.1 ∙ ap Some c.len-place.ensures.value
            ∙ sym (ap (λ z. place z x) new ∙ ap (place (c.args.self.now.list ++ (c.args.variable, c.args.value) ∷ [])) e
            ∙ place_new c.args.self.now.list c.args.variable c.args.value (sym (I c.args.variable) ∙ none))
        | inr d ↦
            up.2 x (apart_cmp c.args.variable x d) ∙ I x
            ∙ sym (ap (λ z. place z x) new ∙ place_other c.args.self.now.list c.args.variable c.args.value x d)
      ];
}
