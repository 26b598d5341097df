-- The lines of signatures, written one after the other.
use Rattle.std.specs.Prelude.{◌≡◌, ◌≢◌, refl, ℕ, ◌+◌, ◌<◌, Bool, true, false, List, [], ◌∷◌, ◌++◌, length, Option, codes}
use Rattle.std.proofs.Common.{ap, sym, ◌∙◌, drop, get_or, append_assoc, ◌⊎◌, inl, inr}
use Rattle.ls_base.proofs.Built.{rest}
use Rattle.ls_base.specs.declared.Name.{Name}
use Rattle.ls_sig.specs.declared.sigs.Sig.{Sig}
use Rattle.text_write.specs.Writes.{Prints}
use Rattle.text_write.proofs.Writing.{Halfway, prints_more}
use Rattle.lsc_cli.specs.declared.status.Status.{Status}
use Rattle.lsc_cli.specs.declared.status.Status.TheVariants as statuses
use Rattle.lsc_cli.specs.Check.{IsCheck, IsChecked, all_lines, signature_lines}
use Rattle.lsc_cli.specs.Outcome.{Comes, done}
use Rattle.lsc_cli.specs.Status.{is_fault}

-- one more line
pub line_turn : (names : List (List ℕ)) (enums : List Name) (constructors : List (List Name)) (all : List Sig) (i : ℕ) (x : Sig) (ok so_far next : Bool) (old now new : Option (List ℕ)) (a c e : ℕ) (whole : List ℕ)
    → i < length all → get_or all i x ≡ x → Prints so_far next now new c e (signature_lines names enums constructors x)
    → Halfway ok so_far old now a c (all_lines names enums constructors (drop i all)) whole → Halfway ok next old new a e (all_lines names enums constructors (drop (i + 1) all)) whole
line_turn names enums constructors all i x ok so_far next old now new a c e whole below is p h =
    let line : List ℕ = signature_lines names enums constructors x in
    record {
      done = h.done ++ line;
      prints = prints_more ok so_far next old now new a c e h.done line h.prints p;
      split = append_assoc h.done line (all_lines names enums constructors (drop (i + 1) all)) ∙ ap (λ l. h.done ++ all_lines names enums constructors l) (sym (rest all i x below is)) ∙ h.split;
    }

pub comes_done : (text : List ℕ) (old new : Option (List ℕ)) (a c : ℕ) → Prints true true old new a c text → Comes (done text) statuses.Done old new
comes_done text old new a c p = record {
  status = λ none. refl;
  text = λ none. (p.whole refl).1;
  front = λ fault. absurd (let e : statuses.Done ≡ statuses.WriteFault = fault in cc);
  unread = λ fault. absurd (let e : statuses.Done ≡ statuses.ReadFault = fault in cc);
}

pub comes_cut : (text : List ℕ) (old new : Option (List ℕ)) (a c : ℕ) → Prints true false old new a c text → Comes (done text) statuses.WriteFault old new
comes_cut text old new a c p = record {
  status = λ none. absurd (let e : true ≡ false = none in cc);
  text = λ none. absurd (let e : true ≡ false = none in cc);
  front = λ fault. p.front refl;
  unread = λ fault. absurd (let e : statuses.WriteFault ≡ statuses.ReadFault = fault in cc);
}

-- a refusal is written, or a write failed
pub refused_status : (a : Status) → (a ≡ statuses.Refused) ⊎ (a ≡ statuses.WriteFault) → (a ≡ statuses.Done) ⊎ ((a ≡ statuses.Refused) ⊎ ((a ≡ statuses.WriteFault) ⊎ (a ≡ statuses.NoMemory)))
refused_status a (inl r) = inr (inl r)
refused_status a (inr w) = inr (inr (inl w))

pub refused_memory : (a : Status) → (a ≡ statuses.Refused) ⊎ (a ≡ statuses.WriteFault) → a ≡ statuses.NoMemory → ⊥
refused_memory a (inl r) e = let q : statuses.Refused ≡ statuses.NoMemory = sym r ∙ e in cc
refused_memory a (inr w) e = let q : statuses.WriteFault ≡ statuses.NoMemory = sym w ∙ e in cc
