use Rattle.std.proofs.Common.{◌≡◌, ℕ, ◌+◌, ◌++◌, ◌∷◌, [], length, length-append, sym, ◌∙◌, ap, arith, drop, get_or, false}
use Rattle.std.proofs.lemmas.Bool.{eqb-true}
use Rattle.ls_value.specs.Reading.{characters_after}
use Rattle.ls_value.proofs.Tokens.{at_byte, next_character, longer, backslash, behind, more_characters, value_character}
use Rattle.ls_value.proofs.read.read_body.Goals as goal
use Rattle.ls_value.proofs.read.read_body.Goals.{then-begins_escape, else-begins_escape+in_ok-character+else-is_full}

pub returns-then-is_full-clause-none : goal.returns-then-is_full-clause-none
returns-then-is_full-clause-none c = λ cs e.
    let xs = c.loop-byte.characters.items in
    let body = c.args.body.now in
    let i = c.loop-byte.byte-index in
    let d = c.in_ok-character.character in
    let now = at_byte xs c.args.quote c.loop-byte.after body i c.loop-byte-test.true in
    let next = next_character xs c.args.quote (get_or body i 0) d c.loop-byte.after (drop (i + 1) body) (sym c.if-begins_escape.ensures) (sym c.in_ok-character.ensures) in
    let most = longer (xs ++ d ∷ []) cs (characters_after c.args.quote false (drop (i + 1) body)) (sym next ∙ sym now ∙ c.loop-byte.invariant.0 ∙ e) in
    let full : length xs ≡ 63 = eqb-true (length xs) 63 (sym c.if-is_full.ensures.value) in
    omega (arith, length-append {A = ℕ} xs (d ∷ []))

pub loop-byte-preserved : goal.loop-byte-preserved
loop-byte-preserved c =
    let xs = c.loop-byte.characters.items in
    let body = c.args.body.now in
    let i = c.loop-byte.byte-index in
    let rest = drop (i + 1) body in
    let byte = get_or body i 0 in
    let now = at_byte xs c.args.quote c.loop-byte.after body i c.loop-byte-test.true in
    elim c.if-begins_escape.branch [
      | then-begins_escape w ↦ (
        rw (w.after-is, w.characters-is) (sym (ap (behind xs) (backslash c.args.quote byte c.loop-byte.after rest (sym w.if-begins_escape.ensures))) ∙ sym now ∙ c.loop-byte.invariant.0),
        rw w.characters-is c.loop-byte.invariant.1,
      )
      | else-begins_escape+in_ok-character+else-is_full w ↦
          let d = w.in_ok-character.character in
          let read = sym w.in_ok-character.ensures in (
            rw (w.after-is, w.characters-is, w.push.ensures.items) (sym (next_character xs c.args.quote byte d c.loop-byte.after rest (sym w.if-begins_escape.ensures) read) ∙ sym now ∙ c.loop-byte.invariant.0),
            rw (w.characters-is, w.push.ensures.items) (more_characters xs d c.loop-byte.invariant.1 (value_character c.args.quote byte d c.loop-byte.after read)),
          )
    ]
