use Rattle.std.proofs.Common.{◌∙◌, sym, []}
use Rattle.ls_places.specs.Places.{find}
use Rattle.ls_sig.specs.Notes.{is_signal}
use Rattle.ls_sig.specs.declared.binder.Note.{Note}
use Rattle.clock_infer.proofs.definition.prepare.Goals as goal

pub new-requires-clause-mapped : goal.new-requires-clause-mapped
new-requires-clause-mapped g c =
    let F = c.in_ok-fresh.ensures.fresh [] [] in
    c.in_ok-variables.ensures ∙ (λ i. (find Note (c.len-first.ensures.value i) (g.C.CasePlaces.place c.args.cases.now) (λ e. is_signal e.note.ty) (F.body i)).vars) ∙ (λ i. (sym F.places i).vars)

pub returns : goal.returns
returns g c = λ schemes marks.
    let F = c.in_ok-fresh.ensures.fresh schemes marks in
    record {
      params_same = c.in_ok-index.ensures.params ∙ c.in_ok-copy.ensures;
      notes = F.notes;
      body = F.body;
      places = c.in_ok-index.ensures.places ∙ F.places;
      vars = F.vars;
      blocks = F.blocks;
      next = F.next;
    }
