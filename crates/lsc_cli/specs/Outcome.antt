-- What a call comes to: a status and a text.
use Rattle.std.specs.Prelude.{◌≡◌, ◌≢◌, ℕ, false, List, [], ◌++◌, Option}
use Rattle.std.specs.Option.{option_map}
use Rattle.ls_base.specs.Outside.{WritesFront}
use Rattle.lsc_cli.specs.declared.status.Status.{Status}
use Rattle.lsc_cli.specs.declared.status.Status.TheVariants.{Done, Refused, ReadFault, WriteFault, TooLarge}
use Rattle.lsc_cli.specs.Status.{is_fault}

pub record Outcome : Type 0 where
  pub status : Status
  pub text : List ℕ

abbrev pub done : List ℕ → Outcome
done text = record { status = Done; text = text }

abbrev pub refusal : List ℕ → Outcome
refusal text = record { status = Refused; text = text }

abbrev pub too_large : Outcome
too_large = record { status = TooLarge; text = [] }

-- The call came to this outcome: with this status its text was written; and where a write failed, a
-- front of it. It reads nothing, so no read fails.
pub record Comes (outcome : Outcome) (answer : Status) (old new : Option (List ℕ)) : Type 0 where
  pub status : is_fault answer ≡ false → answer ≡ outcome.status
  pub text : is_fault answer ≡ false → new ≡ option_map (λ text. text ++ outcome.text) old
  pub front : answer ≡ WriteFault → WritesFront old outcome.text new
  pub unread : answer ≢ ReadFault
