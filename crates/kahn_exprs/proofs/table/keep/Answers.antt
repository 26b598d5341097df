use Rattle.std.specs.Prelude.{refl, Some, true, false, nat_lt}
use Rattle.std.proofs.Common.{◌≡◌, ap, arith, length, subst, sym}
use Rattle.std.specs.Vec.{with_item}
use Rattle.kahn_exprs.proofs.Standing.{lt_false, lt_true, put_at, put_length, row_get, row_past}
use Rattle.kahn_exprs.proofs.table.keep.Goals as goal

pub returns-in-None-clause-there : goal.returns-in-None-clause-there
returns-in-None-clause-there c = subst (λ xs. false ≡ nat_lt c.args.i (length xs)) (sym (row_past c.args.all.now.items c.args.k c.in-None.ensures.item.3)) (lt_false c.args.i 0 (omega arith))

pub returns-in-None-get_mut-clause-there : goal.returns-in-None-get_mut-clause-there
returns-in-None-get_mut-clause-there c = subst (λ xs. false ≡ nat_lt c.args.i (length xs))
    (row_get c.args.all.now.items c.args.k c.in-Some.row.now c.in-Some.ensures.item.3.0 c.in-Some.ensures.item.1)
    (lt_false c.args.i (length c.in-Some.row.now.items) c.in-None-get_mut.ensures.item.3)

pub returns-in-Some-get_mut-clause-put : goal.returns-in-Some-get_mut-clause-put
returns-in-Some-get_mut-clause-put c = put_at c.args.all.now.items c.args.k c.args.i c.in-Some.row.now (with_item c.in-Some.row.now c.args.i (Some c.args.cell)) c.args.cell
    c.in-Some.ensures.item.3.0 c.in-Some.ensures.item.1 c.in-Some-get_mut.ensures.item.3.0 refl

pub returns-in-Some-get_mut-clause-there : goal.returns-in-Some-get_mut-clause-there
returns-in-Some-get_mut-clause-there c = subst (λ xs. true ≡ nat_lt c.args.i (length xs))
    (row_get c.args.all.now.items c.args.k c.in-Some.row.now c.in-Some.ensures.item.3.0 c.in-Some.ensures.item.1)
    (lt_true c.args.i (length c.in-Some.row.now.items) c.in-Some-get_mut.ensures.item.3.0)

pub returns-in-Some-get_mut-clause-lengths : goal.returns-in-Some-get_mut-clause-lengths
returns-in-Some-get_mut-clause-lengths c = λ j. put_length c.args.all.now.items c.args.k c.args.i j c.in-Some.row.now (with_item c.in-Some.row.now c.args.i (Some c.args.cell)) (Some c.args.cell)
    c.in-Some.ensures.item.3.0 c.in-Some.ensures.item.1 refl
