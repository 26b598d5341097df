-- Answers that may be absent.
use Rattle.std.specs.Prelude.{◌≡◌, Option, Some, None, Result, Ok, Err, IfSome, IfNone, OnOk}
use Rattle.std.proofs.Common.{subst}

pub of_none : {A : Type 0} (P : Type 0) (o : Option A) → o ≡ None → IfNone o P → P
of_none P o is h = subst (λ z. IfNone z P) is h

pub of_some : {A : Type 0} (P : A → Type 0) (o : Option A) (x : A) → o ≡ Some x → IfSome o P → P x
of_some P o x is h = subst (λ z. IfSome z P) is h

pub ok_then : {A E P Q : Type 0} (r : Result A E) → (P → Q) → OnOk r P → OnOk r Q
ok_then (Ok x) f h = f h
ok_then (Err e) f h = tt
