use Rattle.std.proofs.Common.{◌≡◌, Some, refl, IfOk}
use Rattle.step_code.specs.declared.parts.Instr.{Instr}
use Rattle.step_text.specs.declared.entry.Entry.{Entry}
use Rattle.step_text.specs.declared.entry.Entry.TheVariants as entry
use Rattle.step_text.specs.declared.entry.Keyword.TheVariants as keyword
use Rattle.step_text.proofs.FormLemmas.{body_tail, call_instr, code_tail, const_instr, copy_instr, end_tail, header_tail, in_tail, instr_tail, op_instr, out_tail, slot_tail, slots_tail, test_instr, type_tail, when_instr}
use Rattle.step_text.proofs.forms.read_tail.Goals as goal

pub returns-in-Type-clause-back : goal.returns-in-Type-clause-back
returns-in-Type-clause-back c = λ e h. type_tail c.args.words.now (λ (e : Entry). IfOk c.read_cases.result (λ found. found ≡ Some e)) c.read_cases.ensures.back e (rw c.in-Type.is at h)

pub returns-in-In-clause-back : goal.returns-in-In-clause-back
returns-in-In-clause-back c = λ e h. in_tail c.args.words.now (λ (e : Entry). IfOk c.read_in.result (λ found. found ≡ Some e)) c.read_in.ensures.back e (rw c.in-In.is at h)

pub returns-in-Lsc-clause-back : goal.returns-in-Lsc-clause-back
returns-in-Lsc-clause-back c = λ e h. header_tail c.args.words.now (λ (e : Entry). c.read_header.result ≡ Some e) c.read_header.ensures.back e (rw c.in-Lsc.is at h)

pub returns-in-Slots-clause-back : goal.returns-in-Slots-clause-back
returns-in-Slots-clause-back c = λ e h. slots_tail c.args.words.now (λ (e : Entry). c.read_slots.result ≡ Some e) c.read_slots.ensures.back e (rw c.in-Slots.is at h)

pub returns-in-Slot-clause-back : goal.returns-in-Slot-clause-back
returns-in-Slot-clause-back c = λ e h. slot_tail c.args.words.now (λ (e : Entry). c.read_slot.result ≡ Some e) c.read_slot.ensures.back e (rw c.in-Slot.is at h)

pub returns-in-Out-clause-back : goal.returns-in-Out-clause-back
returns-in-Out-clause-back c = λ e h. out_tail c.args.words.now (λ (e : Entry). c.read_out.result ≡ Some e) c.read_out.ensures.back e (rw c.in-Out.is at h)

pub returns-in-Body-clause-back : goal.returns-in-Body-clause-back
returns-in-Body-clause-back c = λ e h. body_tail c.args.words.now (λ (e : Entry). c.read_body.result ≡ Some e) c.read_body.ensures.back e (rw c.in-Body.is at h)

pub returns-in-Code-clause-back : goal.returns-in-Code-clause-back
returns-in-Code-clause-back c = λ e h. code_tail c.args.words.now (λ (e : Entry). c.read_code.result ≡ Some e) c.read_code.ensures.back e (rw c.in-Code.is at h)

pub returns-in-End-clause-back : goal.returns-in-End-clause-back
returns-in-End-clause-back c = λ e h. end_tail c.args.words.now (λ (e : Entry). c.read_end.result ≡ Some e) c.read_end.ensures.back e (rw c.in-End.is at h)

pub returns-in-Const-clause-back : goal.returns-in-Const-clause-back
returns-in-Const-clause-back c = λ e h. instr_tail c.args.words.now (λ (e : Entry). c.read_const.result ≡ Some e) keyword.Const refl (const_instr c.args.words.now (λ (line : Instr). c.read_const.result ≡ Some (entry.Instr line)) c.read_const.ensures.back) e (rw c.in-Const.is at h)

pub returns-in-Copy-clause-back : goal.returns-in-Copy-clause-back
returns-in-Copy-clause-back c = λ e h. instr_tail c.args.words.now (λ (e : Entry). c.read_copy.result ≡ Some e) keyword.Copy refl (copy_instr c.args.words.now (λ (line : Instr). c.read_copy.result ≡ Some (entry.Instr line)) c.read_copy.ensures.back) e (rw c.in-Copy.is at h)

pub returns-in-Op-clause-back : goal.returns-in-Op-clause-back
returns-in-Op-clause-back c = λ e h. instr_tail c.args.words.now (λ (e : Entry). c.read_op.result ≡ Some e) keyword.Op refl (op_instr c.args.words.now (λ (line : Instr). c.read_op.result ≡ Some (entry.Instr line)) c.read_op.ensures.back_1 c.read_op.ensures.back_2 c.read_op.ensures.back_3) e (rw c.in-Op.is at h)

pub returns-in-Test-clause-back : goal.returns-in-Test-clause-back
returns-in-Test-clause-back c = λ e h. instr_tail c.args.words.now (λ (e : Entry). c.read_test.result ≡ Some e) keyword.Test refl (test_instr c.args.words.now (λ (line : Instr). c.read_test.result ≡ Some (entry.Instr line)) c.read_test.ensures.back) e (rw c.in-Test.is at h)

pub returns-in-When-clause-back : goal.returns-in-When-clause-back
returns-in-When-clause-back c = λ e h. instr_tail c.args.words.now (λ (e : Entry). c.read_when.result ≡ Some e) keyword.When refl (when_instr c.args.words.now (λ (line : Instr). c.read_when.result ≡ Some (entry.Instr line)) c.read_when.ensures.back) e (rw c.in-When.is at h)

pub returns-in-Call-clause-back : goal.returns-in-Call-clause-back
returns-in-Call-clause-back c = λ e h. instr_tail c.args.words.now (λ (e : Entry). c.read_call.result ≡ Some e) keyword.Call refl (call_instr c.args.words.now (λ (line : Instr). c.read_call.result ≡ Some (entry.Instr line)) c.read_call.ensures.back) e (rw c.in-Call.is at h)
