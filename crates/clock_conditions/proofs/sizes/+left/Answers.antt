use Rattle.std.proofs.Common.{◌≡◌, ◌+◌, arith, None, Some}
use Rattle.std.specs.Prelude.{refl}
use Rattle.clock_conditions.proofs.Sizing.{arrow_left}
use Rattle.clock_conditions.proofs.sizes.+left.Goals as goal

pub left-returns-in-None-left_all : goal.left-returns-in-None-left_all
left-returns-in-None-left_all t c =
    let e = c.in-Some.ensures in
    let r : c.in-Some.rest + 1 ≡ c.args.many = omega (arith, e) in
    arrow_left c.args.t.now c.args.many c.in-Some.rest r c.in-Arrow.all c.as_slice.result.now c.in-Arrow.to c.in-Arrow.to None None c.in-Arrow.is c.as_slice.ensures.value refl c.in-None-left_all.ensures refl

pub left-returns-in-Some-left_all : goal.left-returns-in-Some-left_all
left-returns-in-Some-left_all t c =
    let e = c.in-Some.ensures in
    let r : c.in-Some.rest + 1 ≡ c.args.many = omega (arith, e) in
    arrow_left c.args.t.now c.args.many c.in-Some.rest r c.in-Arrow.all c.as_slice.result.now c.in-Arrow.to c.get-in-Some-left_all.result.now (Some c.in-Some-left_all.rest) c.left-in-Some-left_all.result c.in-Arrow.is
    c.as_slice.ensures.value c.get-in-Some-left_all.ensures c.in-Some-left_all.ensures c.left-in-Some-left_all.ensures
