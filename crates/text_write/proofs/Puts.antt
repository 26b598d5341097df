-- One write.
use Rattle.std.specs.Prelude.{◌≡◌, refl, ℕ, ◌≤◌, Bool, true, false, List, ◌++◌, Option}
use Rattle.std.specs.Option.{option_map}
use Rattle.std.proofs.Common.{arith}
use Rattle.ls_base.specs.Outside.{Rose, WritesFront}
use Rattle.text_write.specs.Writes.{Prints}

pub put_stopped : (ok : Bool) (old : Option (List ℕ)) (n : ℕ) (text : List ℕ) → ok ≡ false → Prints ok false old old n n text
put_stopped ok old n text e = record {
  whole = λ d. absurd (cc);
  front = λ d. absurd (cc);
  none = λ d. (refl, refl);
  rose = λ d f. absurd (cc);
  counted = omega arith;
}

pub put_done : (ok : Bool) (old new : Option (List ℕ)) (a c : ℕ) (text : List ℕ) → ok ≡ true → new ≡ option_map (λ t. t ++ text) old → WritesFront old text new → a ≤ c → Prints ok true old new a c text
put_done ok old new a c text e w f le = record {
  whole = λ d. (e, w);
  front = λ d. f;
  none = λ d. absurd (cc);
  rose = λ d g. absurd (cc);
  counted = le;
}

pub put_failed : (ok : Bool) (old new : Option (List ℕ)) (a c : ℕ) (text : List ℕ) → ok ≡ true → WritesFront old text new → Rose a c → a ≤ c → Prints ok false old new a c text
put_failed ok old new a c text e f r le = record {
  whole = λ d. absurd (cc);
  front = λ d. f;
  none = λ d. absurd (cc);
  rose = λ d g. r;
  counted = le;
}
