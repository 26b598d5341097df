use Rattle.std.proofs.Common.{◌≡◌, ℕ, ◌<◌, ◌≤◌, ◌++◌, ⊎_elim, inr, List, length, take, drop, arith, ap, sym, ◌∙◌, subst}
use Rattle.std.specs.Prelude.{Contains, IfSome}
use Rattle.std.specs.Option.{option_map}
use Rattle.line_io.specs.Line.{line_of, NoNewline, ahead}
use Rattle.line_io.proofs.NextLemmas.{Takes, ahead_read, takes_more, takes_twice, short_read, short_fault, cut_line, cut_rest, ahead_end, last_line, last_rest, none_left, read_none, begins_twice, begins_last, not_quiet, has_newline}
use Rattle.line_io.proofs.buffer.LineBuf.next_line.Goals as goal

pub returns-then-next_held-clause-line : goal.returns-then-next_held-clause-line
returns-then-next_held-clause-line g c =
    let f = c.if-next_held.ensures.found in cut_line _ _ _ _ _ c.loop-self.invariant.all f.0 f.1

pub returns-then-next_held-clause-rest : goal.returns-then-next_held-clause-rest
returns-then-next_held-clause-rest g c =
    let f = c.if-next_held.ensures.found in cut_rest _ _ _ _ _ c.loop-self.invariant.all f.0 f.1

pub returns-then-next_held-clause-again : goal.returns-then-next_held-clause-again
returns-then-next_held-clause-again g c long quiet =
    let f = c.if-next_held.ensures.found in
    absurd
    (⊎_elim
    (λ same. not_quiet _ (subst (λ (xs : List ℕ). Contains xs 10) (sym f.0 ∙ same.0) (has_newline _ _)) quiet)
    (λ short. let less = short.1 in omega arith)
    c.loop-self.invariant.first)

pub returns-in-Ok-eq0-clause-line : goal.returns-in-Ok-eq0-clause-line
returns-in-Ok-eq0-clause-line g c =
    let e = c.in-Ok-eq0.ensures in
    let still = c.if-next_held.ensures.none in
    let all = ahead_read _ _ _ _ e.front e.taken ∙ ap (λ (xs : List ℕ). ahead xs (g.S.Source.left c.loop-self.source)) still.1 ∙ c.loop-self.invariant.all in
    let none = none_left _ _ _ e.taken (e.end c.in-Ok-eq0.field-0-test) in
    let same = read_none _ _ _ e.more c.in-Ok-eq0.field-0-test e.front in
    let some : 0 < length c.fill.new.self.held = omega (arith, c.held_len-in-Ok-eq0.ensures.value, c.if-held_len-eq0.false) in
    subst
    (λ (line : List ℕ). IfSome (ahead c.args.self.now.held (g.S.Source.left c.args.source.now)) (λ bytes. (0 < length bytes) × (line ≡ line_of bytes)))
    (sym c.take_rest.ensures.0)
    (last_line _ _ (ahead_end _ _ _ all none) (subst NoNewline (sym still.1 ∙ same) still.0) some)

pub returns-in-Ok-eq0-clause-rest : goal.returns-in-Ok-eq0-clause-rest
returns-in-Ok-eq0-clause-rest g c =
    let e = c.in-Ok-eq0.ensures in
    let still = c.if-next_held.ensures.none in
    let all = ahead_read _ _ _ _ e.front e.taken ∙ ap (λ (xs : List ℕ). ahead xs (g.S.Source.left c.loop-self.source)) still.1 ∙ c.loop-self.invariant.all in
    let none = none_left _ _ _ e.taken (e.end c.in-Ok-eq0.field-0-test) in
    let same = read_none _ _ _ e.more c.in-Ok-eq0.field-0-test e.front in
    ap (λ (xs : List ℕ). ahead xs (g.S.Source.left c.fill.new.source)) c.take_rest.ensures.1
    ∙ last_rest _ _ _ all (ahead_end _ _ _ all none) (subst NoNewline (sym still.1 ∙ same) still.0) none

pub returns-in-Err-clause-reads : goal.returns-in-Err-clause-reads
returns-in-Err-clause-reads g c =
    let still = c.if-next_held.ensures.none in
    let room : length c.next_held.new.self.held ≤ 65536 = omega (arith, c.held_len.ensures.value, c.held_len.ensures.within, c.if-held_len-eq-CAPACITY.false) in
    let room' = subst (λ (xs : List ℕ). length xs ≤ 65536) still.1 room in
    inr (short_fault _ _ _ _ _ _ c.loop-self.invariant.front still.0 room' c.loop-self.invariant.taken c.in-Err.ensures.failed.1 c.in-Err.ensures.gives_none)

pub loop-self-preserved : goal.loop-self-preserved
loop-self-preserved g c =
    let e = c.in-Ok.ensures in
    let still = c.if-next_held.ensures.none in
    let short : length c.next_held.new.self.held < 65537 = omega (arith, c.held_len.ensures.value, c.held_len.ensures.within, c.if-held_len-eq-CAPACITY.false) in
    let front = ap (take (length c.args.self.now.held)) still.1 ∙ c.loop-self.invariant.front in
    let taken : Takes c.args.self.now.held c.next_held.new.self.held (g.S.Source.left c.args.source.now) (g.S.Source.left c.loop-self.source) =
    c.loop-self.invariant.taken ∙ (λ i. option_map (λ rest. drop (length c.args.self.now.held) (sym still.1 i) ++ rest) (g.S.Source.left c.loop-self.source)) in
    let quiet = subst NoNewline (sym still.1) still.0 in
    record {
      all = ahead_read _ _ _ _ e.front e.taken ∙ ap (λ (xs : List ℕ). ahead xs (g.S.Source.left c.loop-self.source)) still.1 ∙ c.loop-self.invariant.all;
      taken = takes_more _ _ _ _ _ _ front e.front taken e.taken;
      reads = inr (short_read _ _ _ _ _ _ _ _ front quiet (omega arith) taken e.taken e.more e.gives);
      counted = omega (arith, e.counted, c.loop-self.invariant.counted);
      front = begins_twice _ _ _ (ap (take (length c.args.self.now.held)) still.1 ∙ c.loop-self.invariant.front) e.front;
      first =
          inr
          (⊎_elim
          (λ same. (subst NoNewline same.0 still.0, subst (λ (xs : List ℕ). length xs < 65537) (still.1 ∙ same.0) short))
          (λ quiet. quiet)
          c.loop-self.invariant.first);
    }

pub returns-in-Ok-eq0-clause-begins : goal.returns-in-Ok-eq0-clause-begins
returns-in-Ok-eq0-clause-begins g c =
    let still = c.if-next_held.ensures.none in
    begins_last _ _ _ _ c.take_rest.ensures.0 (begins_twice _ _ _ (ap (take (length c.args.self.now.held)) still.1 ∙ c.loop-self.invariant.front) c.in-Ok-eq0.ensures.front)

pub returns-then-held_len-eq0-clause-stays : goal.returns-then-held_len-eq0-clause-stays
returns-then-held_len-eq0-clause-stays g c =
    let still = c.if-next_held.ensures.none in
    begins_twice _ _ _ (ap (take (length c.args.self.now.held)) still.1 ∙ c.loop-self.invariant.front) c.in-Ok-eq0.ensures.front

pub returns-then-next_held-clause-taken : goal.returns-then-next_held-clause-taken
returns-then-next_held-clause-taken g c = (_, c.loop-self.invariant.taken)

pub returns-then-held_len-eq-CAPACITY-clause-taken : goal.returns-then-held_len-eq-CAPACITY-clause-taken
returns-then-held_len-eq-CAPACITY-clause-taken g c = (_, c.loop-self.invariant.taken)

pub returns-in-Err-clause-taken : goal.returns-in-Err-clause-taken
returns-in-Err-clause-taken g c =
    (_, c.loop-self.invariant.taken ∙ ap (option_map (λ rest. drop (length c.args.self.now.held) c.loop-self.self.held ++ rest)) (sym c.in-Err.ensures.failed.1))

pub returns-then-held_len-eq0-clause-reads : goal.returns-then-held_len-eq0-clause-reads
returns-then-held_len-eq0-clause-reads g c =
    let e = c.in-Ok-eq0.ensures in
    let still = c.if-next_held.ensures.none in
    let room : length c.next_held.new.self.held ≤ 65536 = omega (arith, c.held_len.ensures.value, c.held_len.ensures.within, c.if-held_len-eq-CAPACITY.false) in
    let front = ap (take (length c.args.self.now.held)) still.1 ∙ c.loop-self.invariant.front in
    let taken : Takes c.args.self.now.held c.next_held.new.self.held (g.S.Source.left c.args.source.now) (g.S.Source.left c.loop-self.source) =
    c.loop-self.invariant.taken ∙ (λ i. option_map (λ rest. drop (length c.args.self.now.held) (sym still.1 i) ++ rest) (g.S.Source.left c.loop-self.source)) in
    inr (short_read _ _ _ _ _ _ _ _ front (subst NoNewline (sym still.1) still.0) room taken e.taken e.more e.gives)

pub returns-in-Ok-eq0-clause-reads : goal.returns-in-Ok-eq0-clause-reads
returns-in-Ok-eq0-clause-reads g c =
    let e = c.in-Ok-eq0.ensures in
    let still = c.if-next_held.ensures.none in
    let room : length c.next_held.new.self.held ≤ 65536 = omega (arith, c.held_len.ensures.value, c.held_len.ensures.within, c.if-held_len-eq-CAPACITY.false) in
    let front = ap (take (length c.args.self.now.held)) still.1 ∙ c.loop-self.invariant.front in
    let taken : Takes c.args.self.now.held c.next_held.new.self.held (g.S.Source.left c.args.source.now) (g.S.Source.left c.loop-self.source) =
    c.loop-self.invariant.taken ∙ (λ i. option_map (λ rest. drop (length c.args.self.now.held) (sym still.1 i) ++ rest) (g.S.Source.left c.loop-self.source)) in
    inr (short_read _ _ _ _ _ _ _ _ front (subst NoNewline (sym still.1) still.0) room taken e.taken e.more e.gives)

pub returns-in-Ok-eq0-clause-taken : goal.returns-in-Ok-eq0-clause-taken
returns-in-Ok-eq0-clause-taken g c =
    takes_twice _ _ _ (_, c.loop-self.invariant.taken) (_, c.in-Ok-eq0.ensures.taken)
