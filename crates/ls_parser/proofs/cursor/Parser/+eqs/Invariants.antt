use Rattle.std.proofs.Common.{◌≡◌, ◌+◌, ◌-◌, ◌*◌, length}
use Rattle.ls_lexer.specs.declared.token.Fixed.TheVariants.{KwAnd, Bar}
use Rattle.ls_parser.specs.Equations as spec
use Rattle.ls_parser.specs.Reading.{rest, starts, behind, collect}
use Rattle.ls_parser.proofs.cursor.Parser.+eqs.Given as goal

abbrev pub decreases-equation : goal.decreases-equation
decreases-equation l = l.depth * 16

abbrev pub decreases-doing : goal.decreases-doing
decreases-doing l = l.depth * 16

abbrev pub decreases-equation_of : goal.decreases-equation_of
decreases-equation_of l = l.parts * 16 + 15

abbrev pub decreases-matching : goal.decreases-matching
decreases-matching l = l.parts * 16 + 14

abbrev pub decreases-arms : goal.decreases-arms
decreases-arms l = l.parts * 16 + 13

abbrev pub decreases-arm : goal.decreases-arm
decreases-arm l = l.parts * 16 + 12

abbrev pub decreases-handler : goal.decreases-handler
decreases-handler l = l.parts * 16 + 11

abbrev pub decreases-other_arm : goal.decreases-other_arm
decreases-other_arm l = l.parts * 16 + 13

abbrev pub decreases-presence : goal.decreases-presence
decreases-presence l = l.parts * 16 + 14

abbrev pub decreases-tests : goal.decreases-tests
decreases-tests l = l.parts * 16 + 13

abbrev pub decreases-test : goal.decreases-test
decreases-test l = l.parts * 16 + 12

abbrev pub decreases-otherwise : goal.decreases-otherwise
decreases-otherwise l = l.parts * 16 + 13

abbrev pub decreases-automaton : goal.decreases-automaton
decreases-automaton l = l.parts * 16 + 14

abbrev pub decreases-states : goal.decreases-states
decreases-states l = l.parts * 16 + 13

abbrev pub decreases-state : goal.decreases-state
decreases-state l = l.parts * 16 + 12

abbrev pub decreases-reset : goal.decreases-reset
decreases-reset l = l.parts * 16 + 14

abbrev pub decreases-equations : goal.decreases-equations
decreases-equations l = l.parts * 16 + 9

abbrev pub decreases-doing_of : goal.decreases-doing_of
decreases-doing_of l = l.parts * 16 + 15

abbrev pub decreases-locals : goal.decreases-locals
decreases-locals l = l.parts * 16 + 14

abbrev pub decreases-within : goal.decreases-within
decreases-within l = l.parts * 16 + 14

abbrev pub invariant-equations-turns : goal.invariant-equations-turns
invariant-equations-turns l =
    collect (length l.self.tokens.now - l.turn) (starts KwAnd) (behind KwAnd (spec.equation_at (length l.self.tokens.now) l.parts l.in_do)) l.items l.highest (rest l.self.tokens.now l.at)
    ≡ collect (length l.self.tokens.now) (starts KwAnd) (behind KwAnd (spec.equation_at (length l.self.tokens.now) l.parts l.in_do)) l.initial.items l.initial.highest (rest l.self.tokens.now l.initial.at)

abbrev pub invariant-arms-turns : goal.invariant-arms-turns
invariant-arms-turns l =
    collect (length l.self.tokens.now - l.turn) spec.begins_arm (behind Bar (spec.of_parts l.parts spec.arm (length l.self.tokens.now))) l.items l.highest (rest l.self.tokens.now l.at)
    ≡ collect (length l.self.tokens.now) spec.begins_arm (behind Bar (spec.of_parts l.parts spec.arm (length l.self.tokens.now))) l.initial.items l.initial.highest (rest l.self.tokens.now l.initial.at)

abbrev pub invariant-tests-turns : goal.invariant-tests-turns
invariant-tests-turns l =
    collect (length l.self.tokens.now - l.turn) (starts Bar) (behind Bar (spec.of_parts l.parts spec.one_test (length l.self.tokens.now))) l.items l.highest (rest l.self.tokens.now l.at)
    ≡ collect (length l.self.tokens.now) (starts Bar) (behind Bar (spec.of_parts l.parts spec.one_test (length l.self.tokens.now))) l.initial.items l.initial.highest (rest l.self.tokens.now l.initial.at)

abbrev pub invariant-states-turns : goal.invariant-states-turns
invariant-states-turns l =
    collect (length l.self.tokens.now - l.turn) (starts Bar) (behind Bar (spec.of_parts l.parts spec.state (length l.self.tokens.now))) l.items l.highest (rest l.self.tokens.now l.at)
    ≡ collect (length l.self.tokens.now) (starts Bar) (behind Bar (spec.of_parts l.parts spec.state (length l.self.tokens.now))) l.initial.items l.initial.highest (rest l.self.tokens.now l.initial.at)
