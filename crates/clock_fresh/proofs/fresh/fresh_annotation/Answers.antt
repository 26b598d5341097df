use Rattle.std.proofs.Common.{◌∙◌, length}
use Rattle.ls_places.specs.Places.{find}
use Rattle.ls_sig.specs.Notes.{is_signal}
use Rattle.ls_sig.specs.declared.binder.Note.{Note}
use Rattle.clock_rules.specs.Fresh.{next, some_vars, step}
use Rattle.tree_notes.specs.Numbered.{number_body}
use Rattle.clock_fresh.proofs.fresh.fresh_annotation.Goals as goal

pub returns-clause-fresh : goal.returns-clause-fresh
returns-clause-fresh g c = λ schemes marks.
    let from = c.in_ok-notes.ensures.next in
    let body = c.in_ok-body.ensures.made ∙ (λ i. (number_body step next c.args.body.now (from i)).0) in
    let after = c.by.view_is ∙ c.in_ok-body.ensures.next ∙ (λ i. (number_body step next c.args.body.now (from i)).1) in
    let places = c.in_ok-places.ensures.found ∙ (λ i. find Note (c.len.ensures.value i) (g.C.CasePlaces.place c.args.cases.now) (λ e. is_signal e.note.ty) (body i)) in
    let many = c.len-2.ensures.value ∙ (λ i. length (places i).vars) in
    let named = c.len-3.ensures.value ∙ (λ i. length (places i).names) in
    let later = c.in_ok-vars.ensures.next ∙ (λ i. (some_vars (many i) (after i)).1) in
    record {
      notes = c.in_ok-notes.ensures.made;
      body = body;
      places = places;
      vars = c.in_ok-vars.ensures.made ∙ (λ i. (some_vars (many i) (after i)).0);
      blocks = c.in_ok-blocks.ensures.made ∙ (λ i. (some_vars (named i) (later i)).0);
      next = c.in_ok-blocks.ensures.next ∙ (λ i. (some_vars (named i) (later i)).1);
    }
