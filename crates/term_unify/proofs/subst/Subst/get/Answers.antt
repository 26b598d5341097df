use Rattle.std.proofs.Common.{◌≡◌, ◌∙◌, sym, ap, Some, None}
use Rattle.term_unify.proofs.Places.{first_none, first_some}
use Rattle.term_unify.proofs.subst.Subst.get.Goals as goal

pub returns-in-Some-get : goal.returns-in-Some-get
returns-in-Some-get g c =
    let r = first_some c.args.self.now.list c.args.variable c.in-Some.place.now (sym (c.args.self.now.indexed c.args.variable) ∙ sym c.in-Some.ensures.value) in
    let e : Some c.in-Some-get.entry.now ≡ Some r.0 = c.in-Some-get.ensures.value ∙ r.1 in
    let d : c.in-Some-get.entry.now ≡ r.0 = cc in
    ap (λ z. Some z.1) d ∙ sym r.2

pub returns-in-None-get : goal.returns-in-None-get
returns-in-None-get g c =
    let r = first_some c.args.self.now.list c.args.variable c.in-Some.place.now (sym (c.args.self.now.indexed c.args.variable) ∙ sym c.in-Some.ensures.value) in
    let e : None ≡ Some r.0 = c.in-None-get.ensures.value ∙ r.1 in
    absurd (cc)

pub returns-in-None : goal.returns-in-None
returns-in-None g c = sym (first_none c.args.self.now.list c.args.variable (sym (c.args.self.now.indexed c.args.variable) ∙ sym c.in-None.ensures.value))
