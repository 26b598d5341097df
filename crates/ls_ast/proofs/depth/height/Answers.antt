use Rattle.std.proofs.Common.{arith, ap, map}
use Rattle.ls_ast.specs.Height as spec
use Rattle.ls_ast.proofs.depth.height.Goals as goal

pub overflow_add-result : goal.overflow_add-result
overflow_add-result g c =
    let is = ap spec.height c.in-Let.is in
    let same = ap (λ pats. spec.highest (map spec.pat_height pats)) c.as_slice.ensures.value in
    omega (arith, is, same, c.requires, c.highest_pat.ensures, c.body_height.ensures, c.max.ensures)

pub returns-in-Let : goal.returns-in-Let
returns-in-Let g c =
    let is = ap spec.height c.in-Let.is in
    let same = ap (λ pats. spec.highest (map spec.pat_height pats)) c.as_slice.ensures.value in
    omega (arith, is, same, c.highest_pat.ensures, c.body_height.ensures, c.max.ensures)
