use Rattle.std.proofs.Common.{rules, ◌≡◌, ◌<◌, ◌^◌, true, Err, arith}
use Rattle.std.specs.Char.{is_ascii_digit}
use Rattle.std.specs.List.{list_all}
use Rattle.command_words.proofs.NumberLemmas.{number-read}
use Rattle.command_words.proofs.forms.number_of.Goals as goal

pub returns-in-Err : goal.returns-in-Err
returns-in-Err c =
    let small : c.args.most < 2 ^ 32 = omega (arith, c.ranges.most.fits) in
    let digits : list_all is_ascii_digit c.args.text.now ≡ true = search rules in
    number-read c.args.least c.args.most c.args.text.now (Err c.in-Err.field-0) small digits c.in-Err.ensures.value.0
