use Rattle.std.specs.Prelude.{Some}
use Rattle.std.proofs.Common.{◌∙◌, ap, sym}
use Rattle.kahn_model.specs.Table.{cell_in}
use Rattle.kahn_exprs.specs.declared.context.Clocks.TheVariants as clocks
use Rattle.kahn_exprs.specs.Calls as own
use Rattle.kahn_exprs.specs.Context as around
use Rattle.kahn_exprs.proofs.Targets.{all_given, arg_function, arg_given, arg_pointwise, arg_stream, from_parts, never_given}
use Rattle.kahn_exprs.proofs.calls.target.Goals as goal

pub returns-in_ok-copy-in-Function : goal.returns-in_ok-copy-in-Function
returns-in_ok-copy-in-Function c =
    let done = c.add_arguments.new.done in
    let all = all_given (around.arg_of c.args.f.now) c.args.args.now c.new-all.result c.add_given.new.done done c.new-all.ensures c.in_ok-add_given.ensures c.in_ok-add_arguments.ensures in
    let base = sym (arg_function c.in-Function.k c.in-Function.known) ∙ ap around.arg_of (sym c.in-Function.is) ∙ c.base.ensures in
    ap (λ z. Some (own.place_of (c.in-Function.k, record { active = c.args.active; again = c.args.again; clocks = clocks.Each z; args = done })))
    c.in_ok-copy-in-Function.ensures
    ∙ from_parts (cell_in c.args.here) (cell_in c.args.active) (cell_in c.args.again) (around.arg_of c.args.f.now) _ (around.args_of c.args.args.now) (around.args_of done) base all

pub returns-in-Pointwise : goal.returns-in-Pointwise
returns-in-Pointwise c =
    let done = c.add_arguments.new.done in
    let all = all_given (around.arg_of c.args.f.now) c.args.args.now c.new-all.result c.add_given.new.done done c.new-all.ensures c.in_ok-add_given.ensures c.in_ok-add_arguments.ensures in
    let base = sym (arg_pointwise c.in-Pointwise.k) ∙ ap around.arg_of (sym c.in-Pointwise.is) ∙ c.base.ensures in
    from_parts (cell_in c.args.here) (cell_in c.args.active) (cell_in c.args.again) (around.arg_of c.args.f.now) _ (around.args_of c.args.args.now) (around.args_of done) base all

pub returns-in-Stream : goal.returns-in-Stream
returns-in-Stream c =
    let done = c.add_arguments.new.done in
    let all = all_given (around.arg_of c.args.f.now) c.args.args.now c.new-all.result c.add_given.new.done done c.new-all.ensures c.in_ok-add_given.ensures c.in_ok-add_arguments.ensures in
    let base = sym (arg_stream c.in-Stream.field-0) ∙ ap around.arg_of (sym c.in-Stream.is) ∙ c.base.ensures in
    from_parts (cell_in c.args.here) (cell_in c.args.active) (cell_in c.args.again) (around.arg_of c.args.f.now) _ (around.args_of c.args.args.now) (around.args_of done) base all

pub returns-in-Given : goal.returns-in-Given
returns-in-Given c =
    absurd (never_given (around.arg_of c.args.f.now) _ _ (sym (arg_given c.in-Given.field-0 c.in-Given.field-1) ∙ ap around.arg_of (sym c.in-Given.is) ∙ c.base.ensures))
