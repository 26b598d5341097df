use Rattle.std.proofs.Common.{◌≡◌, [], ◌∷◌, decimal}
use Rattle.ls_ops.specs.Signature.{symbol_of}
use Rattle.step_text.proofs.forms.read_op.Goals as goal

pub returns-then-arity-eq1-clause-back_1 : goal.returns-then-arity-eq1-clause-back_1
returns-then-arity-eq1-clause-back_1 c = λ op d a h e.
    let n = c.number.ensures.back d (symbol_of op ∷ decimal a ∷ []) h.0 e in
    let o = c.operator.ensures.back op (decimal a ∷ []) n.1 in
    let ma = c.number-2.ensures.back a [] h.1 o.1 in
    let d_was = c.in_ok-target.was in
    let op_was = c.in_ok-op.was in
    let a_was = c.in_ok-a.was in
    let d_is : c.in_ok-target.target ≡ d = cc in
    let op_is : c.in_ok-op.op ≡ op = cc in
    let a_is : c.in_ok-a.a ≡ a = cc in
    cc

pub returns-in_err-b-clause-back_2 : goal.returns-in_err-b-clause-back_2
returns-in_err-b-clause-back_2 c = λ op d a b h e.
    let n = c.number.ensures.back d (symbol_of op ∷ decimal a ∷ decimal b ∷ []) h.0 e in
    let o = c.operator.ensures.back op (decimal a ∷ decimal b ∷ []) n.1 in
    let ma = c.number-2.ensures.back a (decimal b ∷ []) h.1 o.1 in
    let mb = c.number-3.ensures.back b [] h.2 ma.1 in
    let none = c.in_err-b.was in
    absurd (cc)

pub returns-in_err-b-clause-back_3 : goal.returns-in_err-b-clause-back_3
returns-in_err-b-clause-back_3 f = λ op d a b c h e.
    let n = f.number.ensures.back d (symbol_of op ∷ decimal a ∷ decimal b ∷ decimal c ∷ []) h.0 e in
    let o = f.operator.ensures.back op (decimal a ∷ decimal b ∷ decimal c ∷ []) n.1 in
    let ma = f.number-2.ensures.back a (decimal b ∷ decimal c ∷ []) h.1 o.1 in
    let mb = f.number-3.ensures.back b (decimal c ∷ []) h.2 ma.1 in
    let none = f.in_err-b.was in
    absurd (cc)

pub returns-then-arity-eq2-clause-back_2 : goal.returns-then-arity-eq2-clause-back_2
returns-then-arity-eq2-clause-back_2 c = λ op d a b h e.
    let n = c.number.ensures.back d (symbol_of op ∷ decimal a ∷ decimal b ∷ []) h.0 e in
    let o = c.operator.ensures.back op (decimal a ∷ decimal b ∷ []) n.1 in
    let ma = c.number-2.ensures.back a (decimal b ∷ []) h.1 o.1 in
    let mb = c.number-3.ensures.back b [] h.2 ma.1 in
    let d_was = c.in_ok-target.was in
    let op_was = c.in_ok-op.was in
    let a_was = c.in_ok-a.was in
    let b_was = c.in_ok-b.was in
    let d_is : c.in_ok-target.target ≡ d = cc in
    let op_is : c.in_ok-op.op ≡ op = cc in
    let a_is : c.in_ok-a.a ≡ a = cc in
    let b_is : c.in_ok-b.b ≡ b = cc in
    cc

pub returns-in_err-c-clause-back_3 : goal.returns-in_err-c-clause-back_3
returns-in_err-c-clause-back_3 f = λ op d a b c h e.
    let n = f.number.ensures.back d (symbol_of op ∷ decimal a ∷ decimal b ∷ decimal c ∷ []) h.0 e in
    let o = f.operator.ensures.back op (decimal a ∷ decimal b ∷ decimal c ∷ []) n.1 in
    let ma = f.number-2.ensures.back a (decimal b ∷ decimal c ∷ []) h.1 o.1 in
    let mb = f.number-3.ensures.back b (decimal c ∷ []) h.2 ma.1 in
    let mc = f.number-4.ensures.back c [] h.3 mb.1 in
    let none = f.in_err-c.was in
    absurd (cc)

pub returns-clause-back_3 : goal.returns-clause-back_3
returns-clause-back_3 f = λ op d a b c h e.
    let n = f.number.ensures.back d (symbol_of op ∷ decimal a ∷ decimal b ∷ decimal c ∷ []) h.0 e in
    let o = f.operator.ensures.back op (decimal a ∷ decimal b ∷ decimal c ∷ []) n.1 in
    let ma = f.number-2.ensures.back a (decimal b ∷ decimal c ∷ []) h.1 o.1 in
    let mb = f.number-3.ensures.back b (decimal c ∷ []) h.2 ma.1 in
    let mc = f.number-4.ensures.back c [] h.3 mb.1 in
    let d_was = f.in_ok-target.was in
    let op_was = f.in_ok-op.was in
    let a_was = f.in_ok-a.was in
    let b_was = f.in_ok-b.was in
    let c_was = f.in_ok-c.was in
    let d_is : f.in_ok-target.target ≡ d = cc in
    let op_is : f.in_ok-op.op ≡ op = cc in
    let a_is : f.in_ok-a.a ≡ a = cc in
    let b_is : f.in_ok-b.b ≡ b = cc in
    let c_is : f.in_ok-c.c ≡ c = cc in
    cc
