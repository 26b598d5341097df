-- Acts over names, and the instructions that they become, do the same under numbers that keep names apart.
use Rattle.std.specs.Prelude.{◌≡◌, refl, ℕ, ◌<◌, ◌&&◌, ◌||◌, Bool as Truth, true, false, List, [], ◌∷◌, ◌++◌, map, length, set, slice_index_or, if◌then◌else◌}
use Rattle.std.proofs.Common.{ap, ap₂, sym, ◌∙◌, subst, append_assoc}
use Rattle.std.proofs.lemmas.List.{get_or-set_same, get_or-set_other, length-set}
use Rattle.std.proofs.lemmas.Bool.{false≢true}
use Rattle.ls_value.specs.declared.leaf.Leaf.{Leaf}
use Rattle.ls_value.specs.declared.leaf.Leaf.TheVariants.{Nil}
use Rattle.ls_ops.specs.Values.{value_of, alarm_of}
use Rattle.ls_ops.specs.declared.kinds.Op.{Op as Operator}
use Rattle.step_code.specs.declared.parts.Instr.{Instr}
use Rattle.step_code.specs.declared.parts.Instr.TheVariants.{When}
use Rattle.step_code.specs.Leaves.{tested, is_true}
use Rattle.compile_rules.specs.declared.places.Place.{Place}
use Rattle.compile_rules.specs.declared.places.Act.{Act}
use Rattle.compile_rules.specs.declared.places.Act.TheVariants.{Put as put, Copy as copy, Operate as operate, Test as test}
use Rattle.compile_rules.specs.Scheme.{Guarded, Slots, same_place, place_put, do_act, divides, all_true, act_on, after_acts, acts_divide}
use Rattle.compile_rules.proofs.Frames.{place_same, place_refl}
use Rattle.step_code.specs.Steps.{Moment, slot, wrote, operated, ticked, BodyStep, effect, run}
use Rattle.compile_rules.specs.Numbering
use Rattle.compile_rules.specs.Assembly.{instruction}

module _ (bodies : List BodyStep) (number_of : Place → ℕ) (IsUsed : Place → Type 0) (size : ℕ) where
  abbrev pub IsNumbering : Type 0
  IsNumbering = Numbering.IsNumbering number_of IsUsed size

  abbrev pub AllUsed : List Place → Type 0
  AllUsed = Numbering.AllUsed number_of IsUsed size

  abbrev pub AreFew : List Place → Type 0
  AreFew = Numbering.AreFew number_of IsUsed size

  abbrev pub IsUsedAct : Act → Type 0
  IsUsedAct = Numbering.IsUsedAct number_of IsUsed size

  abbrev pub AreUsed : List Guarded → Type 0
  AreUsed = Numbering.AreUsed number_of IsUsed size

  abbrev pub Matches : Slots → Moment → Type 0
  Matches = Numbering.Matches number_of IsUsed size

  abbrev main : ℕ → ℕ
  main k = k

  module _ (is : IsNumbering) where
    pub set_same : (s : Slots) (m : Moment) (d : Place) (leaf : Leaf) → Matches s m → IsUsed d → (p : Place) → IsUsed p
        → slice_index_or (set m.slots (number_of d) leaf) (number_of p) Nil ≡ place_put s d leaf p
    set_same s m d leaf k ud p up = by_place (same_place d p) refl
      where
        by_place : (t : Truth) → same_place d p ≡ t → slice_index_or (set m.slots (number_of d) leaf) (number_of p) Nil ≡ (if t then leaf else s p)
        by_place true e =
            ap (λ q. slice_index_or (set m.slots (number_of d) leaf) (number_of q) Nil) (sym (place_same d p e))
            ∙ get_or-set_same m.slots (number_of d) leaf Nil (let bound : number_of d < size = is.within d ud in subst (λ n. number_of d < n) (sym k.all) bound)
        by_place false e =
            get_or-set_other m.slots (number_of d) (number_of p) leaf Nil
            (λ same. false≢true (sym e ∙ ap (λ q. same_place d q) (is.apart p d up ud same) ∙ place_refl d))
            ∙ k.same p up

    args_same : (s : Slots) (m : Moment) → Matches s m → (args : List Place) → AllUsed args → map (λ a. slot m (number_of a)) args ≡ map s args
    args_same s m k [] u = refl
    args_same s m k (a ∷ rest) u = ap₂ (λ x xs. x ∷ xs) (k.same a u.0) (args_same s m k rest u.1)

    -- what an instruction does
    pub record Does (s : Slots) (alarm : Truth) (m : Moment) : Type 0 where
      pub matches : Matches s m
      pub alarm_same : m.alarmed ≡ alarm

    or_false : (t : Truth) → t ≡ (t || false)
    or_false true = refl
    or_false false = refl

    writes : (s : Slots) (m : Moment) (d : Place) (x y : Leaf) → Matches s m → IsUsed d → x ≡ y → Does (place_put s d y) (m.alarmed || false) (wrote m (number_of d) x)
    writes s m d x y k u e = record {
      matches = record {
        all = length-set m.slots (number_of d) x ∙ k.all;
        same = λ p up. set_same s m d x k u p up ∙ ap (λ z. place_put s d z p) e;
      };
      alarm_same = or_false m.alarmed;
    }

    operates : (s : Slots) (m : Moment) (d : Place) (op : Operator) (args : List Place) → Matches s m → IsUsed d → AllUsed args
        → Does (do_act (operate d op args) s) (m.alarmed || divides (operate d op args) s) (operated m (number_of d) op (map (λ a. slot m (number_of a)) args))
    operates s m d op args k u us = record {
      matches = record {
        all = length-set m.slots (number_of d) (value_of op (map (λ a. slot m (number_of a)) args)) ∙ k.all;
        same = λ p up. set_same s m d (value_of op (map (λ a. slot m (number_of a)) args)) k u p up ∙ ap (λ z. place_put s d (value_of op z) p) (args_same s m k args us);
      };
      alarm_same = ap (λ z. m.alarmed || alarm_of op z) (args_same s m k args us);
    }

    pub acted : (s : Slots) (m : Moment) (act : Act) → Matches s m → IsUsedAct act → Does (do_act act s) (m.alarmed || divides act s) (effect bodies main (instruction number_of act) m)
    acted s m (put d leaf) k u = writes s m d leaf leaf k u refl
    acted s m (copy d a) k u = writes s m d (slot m (number_of a)) (s a) k u.0 (k.same a u.1)
    acted s m (operate d op []) k u = absurd u.2
    acted s m (operate d op (a ∷ [])) k u = operates s m d op (a ∷ []) k u.0 u.1
    acted s m (operate d op (a ∷ b ∷ [])) k u = operates s m d op (a ∷ b ∷ []) k u.0 u.1
    acted s m (operate d op (a ∷ b ∷ c ∷ [])) k u = operates s m d op (a ∷ b ∷ c ∷ []) k u.0 u.1
    acted s m (operate d op (a ∷ b ∷ c ∷ e ∷ rest)) k u = absurd u.2
    acted s m (test d a leaf) k u = writes s m d (tested (slot m (number_of a)) leaf) (tested (s a) leaf) k u.0 (ap (λ x. tested x leaf) (k.same a u.1))

    -- no act is a region, so no line is passed over after it
    pub goes_on : (act : Act) (m : Moment) (rest : List Instr) → run bodies main 0 (instruction number_of act ∷ rest) m ≡ run bodies main 0 rest (effect bodies main (instruction number_of act) m)
    goes_on (put d leaf) m rest = refl
    goes_on (copy d a) m rest = refl
    goes_on (operate d op []) m rest = refl
    goes_on (operate d op (a ∷ [])) m rest = refl
    goes_on (operate d op (a ∷ b ∷ [])) m rest = refl
    goes_on (operate d op (a ∷ b ∷ c ∷ more)) m rest = refl
    goes_on (test d a leaf) m rest = refl

    -- a region that is passed over
    pub passed : (lines rest : List Instr) (m : Moment) → run bodies main (length lines) (lines ++ rest) m ≡ run bodies main 0 rest m
    passed [] rest m = refl
    passed (line ∷ lines) rest m = passed lines rest m

    -- a moment from which the rest goes on, and what holds there
    pub record Reaches (lines rest : List Instr) (m : Moment) (s : Slots) (alarm : Truth) : Type 0 where
      pub to : Moment
      pub goes : run bodies main 0 (lines ++ rest) m ≡ run bodies main 0 rest to
      pub does : Does s alarm to

    pub ticked_same : (s : Slots) (m : Moment) → Matches s m → Matches s (ticked m)
    ticked_same s m k = record { all = k.all; same = k.same }
