use Rattle.step_text.proofs.FormLemmas.{no_signal}
use Rattle.step_text.proofs.forms.read_signal.Goals as goal

pub take_signal-requires : goal.take_signal-requires
take_signal-requires c = c.begin_with.ensures.0 c.if-begin_with.true

pub returns-then-begin_with-clause-none : goal.returns-then-begin_with-clause-none
returns-then-begin_with-clause-none c = λ on e. let front = c.begin_with.ensures.0 c.if-begin_with.true in absurd (no_signal on c.args.words.now front.0 front.1 e)
