use Rattle.std.proofs.Common.{◌∙◌, ℕ, ◌+◌, ap, length, List}
use Rattle.ls_value.proofs.Numbers.{place_digits, to_the_end}
use Rattle.ls_value.proofs.code.read_place.Goals as goal

pub returns : goal.returns
returns c = λ place h e.
    let start = length c.format.result.now + 2 in
    let bytes = c.args.bytes.now in
    let long = ap (λ (xs : List ℕ). length xs + 2) c.format.ensures.text in
    c.read_number.ensures place h (to_the_end bytes start ∙ place_digits c.args.enumeration place bytes start e long)
