use Rattle.std.proofs.Common.{Some, ap, sym, arith}
use Rattle.ls_value.specs.declared.leaf.Leaf.{Leaf}
use Rattle.ls_value.proofs.Codes.{nil_is, int_is, char_is, text_is, not_nil, is_nil, read_back_int, int_fits}
use Rattle.std.proofs.lemmas.Int.{to_z-of_z}
use mir.Syntax.{w64}
use Rattle.ls_value.proofs.Tokens.{token_unique}
use Rattle.ls_value.proofs.code.nearest_leaf.Goals as goal

pub returns-then-eq-clause-only : goal.returns-then-eq-clause-only
returns-then-eq-clause-only c = λ leaf f h e. ap (λ (l : Leaf). Some l) (sym (nil_is c.args.bytes.now leaf (is_nil c.args.bytes.now c.as_slice.result.now c.as_slice.ensures (sym c.if-eq.ensures)) h e))

pub returns-in_err-read_int-in-Int-clause-only : goal.returns-in_err-read_int-in-Int-clause-only
returns-in_err-read_int-in-Int-clause-only c = λ leaf f h e.
    let g = rw c.in-Int.is at f in
    absurd (c.in_err-read_int-in-Int.ensures (int_is c.args.bytes.now leaf (not_nil c.args.bytes.now c.as_slice.result.now c.as_slice.ensures (sym c.if-eq.ensures)) g h e).0)

pub returns-in_err-read_char-in-Char-clause-only :
    goal.returns-in_err-read_char-in-Char-clause-only
returns-in_err-read_char-in-Char-clause-only c = λ leaf f h e.
    let g = rw c.in-Char.is at f in
    let one = char_is c.args.bytes.now leaf (not_nil c.args.bytes.now c.as_slice.result.now c.as_slice.ensures (sym c.if-eq.ensures)) g h e in
    absurd (c.in_err-read_char-in-Char.ensures.none one.0 one.2)

pub returns-in_err-read_text-in-Text-clause-only :
    goal.returns-in_err-read_text-in-Text-clause-only
returns-in_err-read_text-in-Text-clause-only c = λ leaf f h e.
    let g = rw c.in-Text.is at f in
    let one = text_is c.args.bytes.now leaf (not_nil c.args.bytes.now c.as_slice.result.now c.as_slice.ensures (sym c.if-eq.ensures)) g h e in
    let long = c.in_err-read_text-in-Text.ensures.none one.0 one.2 in
    let short = one.3 in
    absurd (omega arith)

pub returns-in_ok-read_int-in-Int-clause-only : goal.returns-in_ok-read_int-in-Int-clause-only
returns-in_ok-read_int-in-Int-clause-only c = λ leaf f h e.
    let g = rw c.in-Int.is at f in
    let v = c.in_ok-read_int-in-Int.field-0 in
    let bytes = c.args.bytes.now in
    let read = c.in_ok-read_int-in-Int.ensures in
    let one = int_is bytes leaf (not_nil bytes c.as_slice.result.now c.as_slice.ensures (sym c.if-eq.ensures)) g h e in
    read_back_int v _ bytes leaf read one.1 (to_z-of_z w64 v (int_fits v bytes read))

pub returns-in_ok-read_text-in-Text-clause-only : goal.returns-in_ok-read_text-in-Text-clause-only
returns-in_ok-read_text-in-Text-clause-only c = λ leaf f h e.
    let g = rw c.in-Text.is at f in
    let one = text_is c.args.bytes.now leaf (not_nil c.args.bytes.now c.as_slice.result.now c.as_slice.ensures (sym c.if-eq.ensures)) g h e in
    let same = token_unique 34 c.in_ok-read_text-in-Text.field-0 one.0 c.args.bytes.now c.in_ok-read_text-in-Text.ensures.found one.2 in
    let is = one.1 in
    cc
