use Rattle.std.proofs.Common.{rules, ◌≡◌, max, sym, ◌∙◌, length}
use Rattle.ls_parser.specs.Reading.{rest}
use Rattle.ls_parser.specs.Definitions as spec
use Rattle.ls_parser.specs.Patterns.{pattern}
use Rattle.ls_parser.proofs.Loops.{collect_turn}
use Rattle.ls_parser.proofs.cursor.Parser.params.Goals as goal

pub turns-preserved : goal.turns-preserved
turns-preserved c =
    let top : c.max-highest.result ≡ max c.turns.highest c.in_ok-item.height = search rules in
    collect_turn spec.begins_pattern (pattern (length c.args.self.now.tokens.now) c.args.depth) (length c.args.self.now.tokens.now) c.turns.turn c.turns.params c.push.new.self
    c.turns.highest c.in_ok-item.height c.max-highest.result (rest c.args.self.now.tokens.now c.turns.at) (rest c.args.self.now.tokens.now c.in_ok-item.behind) c.in_ok-item.item _
    c.turns-test.true (sym c.begins_pattern.ensures ∙ c.if-not-begins_pattern.false) c.in_ok-item.ensures c.in_ok-push.ensures.ok top c.turns.invariant
