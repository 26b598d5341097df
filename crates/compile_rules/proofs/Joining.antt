-- Joined regions do what the acts do, and no region is followed by one that it could be joined to.
use Rattle.std.specs.Prelude.{◌≡◌, refl, ℕ, ◌&&◌, ◌||◌, not, Bool as Truth, true, false, List, [], ◌∷◌, ◌++◌, length, if◌then◌else◌}
use Rattle.std.proofs.Common.{ap, ap₂, sym, ◌∙◌, subst, append_assoc}
use Rattle.std.proofs.lemmas.Bool.{false≢true}
use Rattle.step_code.specs.declared.parts.Instr.{Instr}
use Rattle.step_code.specs.declared.parts.Instr.TheVariants.{When}
use Rattle.step_code.specs.Leaves.{is_true}
use Rattle.compile_rules.specs.declared.places.Place.{Place}
use Rattle.compile_rules.specs.declared.places.Act.{Act}
use Rattle.compile_rules.specs.Scheme.{Guarded, Slots, same_place, do_act, divides, all_true, act_on, after_acts, acts_divide, dest}
use Rattle.compile_rules.proofs.Frames.{place_same, act_else}
use Rattle.step_code.specs.Steps.{Moment, slot, ticked, BodyStep, effect, run}
use Rattle.compile_rules.specs.Assembly.{instruction}
use Rattle.compile_rules.specs.Blocks.{Block, single, region, Blocks, none, next, may_join, joined_to, add, joined, block_lines, blocks_lines, writes_among, fits_before, are_joined}
use Rattle.compile_rules.proofs.Numbered.{IsNumbering, AllUsed, IsUsedAct, AreUsed, Matches, Reaches, acted, goes_on, passed, ticked_same}

-- ---- what regions do

abbrev mutual
  pub block_after : Block → Slots → Slots
  block_after (single act) s = do_act act s
  block_after (region g inner) s = if is_true (s g) then blocks_after inner s else s

  pub blocks_after : Blocks → Slots → Slots
  blocks_after none s = s
  blocks_after (next block rest) s = blocks_after rest (block_after block s)

abbrev mutual
  pub block_divides : Block → Slots → Truth
  block_divides (single act) s = divides act s
  block_divides (region g inner) s = is_true (s g) && blocks_divide inner s

  pub blocks_divide : Blocks → Slots → Truth
  blocks_divide none s = false
  blocks_divide (next block rest) s = block_divides block s || blocks_divide rest (block_after block s)

-- ---- they do the same

and_left : (a b : Truth) → (a && b) ≡ true → a ≡ true
and_left true b e = refl
and_left false b e = e

not_true : (t : Truth) → not t ≡ true → t ≡ false
not_true true e = absurd (false≢true e)
not_true false e = refl

and_right : (a b : Truth) → (a && b) ≡ true → b ≡ true
and_right true b e = e
and_right false b e = absurd (false≢true e)

or_false : (t : Truth) → (t || false) ≡ t
or_false true = refl
or_false false = refl

-- an act alone in a region, in front of blocks
alone_after : (g : Place) (guards : List Place) (act : Act) (s : Slots) (blocks : Blocks) → blocks_after (add guards act none) s ≡ act_on (guards, act) s
    → blocks_after blocks (if is_true (s g) then blocks_after (add guards act none) s else s) ≡ blocks_after blocks (act_on (g ∷ guards, act) s)
alone_after g guards act s blocks e = ap (blocks_after blocks) (by_guard (is_true (s g)))
  where
    by_guard : (t : Truth) → (if t then blocks_after (add guards act none) s else s) ≡ (if (if t then all_true s guards else false) then do_act act s else s)
    by_guard true = e
    by_guard false = refl

alone_divides : (g : Place) (guards : List Place) (act : Act) (s : Slots) (blocks : Blocks) → blocks_after (add guards act none) s ≡ act_on (guards, act) s
    → blocks_divide (add guards act none) s ≡ (all_true s guards && divides act s)
    → ((is_true (s g) && blocks_divide (add guards act none) s) || blocks_divide blocks (if is_true (s g) then blocks_after (add guards act none) s else s))
    ≡ ((all_true s (g ∷ guards) && divides act s) || blocks_divide blocks (act_on (g ∷ guards, act) s))
alone_divides g guards act s blocks e d = by_guard (is_true (s g))
  where
    by_guard : (t : Truth) → ((t && blocks_divide (add guards act none) s) || blocks_divide blocks (if t then blocks_after (add guards act none) s else s))
        ≡ (((if t then all_true s guards else false) && divides act s) || blocks_divide blocks (if (if t then all_true s guards else false) then do_act act s else s))
    by_guard true = ap₂ (λ a r. a || blocks_divide blocks r) d e
    by_guard false = refl

-- the guard of the region that an act joins is what it was before the act
guard_kept : (g h : Place) (guards : List Place) (act : Act) (s : Slots) → may_join g h act ≡ true → (g ≡ h) × (act_on (g ∷ guards, act) s h ≡ s h)
guard_kept g h guards act s e = (
  place_same g h (and_left (same_place g h) (not (same_place (dest act) h)) e),
  act_else (g ∷ guards, act) s h (not_true (same_place (dest act) h) (and_right (same_place g h) (not (same_place (dest act) h)) e)),
)

-- the act in the region of its guard
join_after : (h : Place) (guards : List Place) (act : Act) (s : Slots) (inner rest : Blocks) → act_on (h ∷ guards, act) s h ≡ s h → blocks_after (add guards act inner) s ≡ blocks_after inner (act_on (guards, act) s)
    → blocks_after rest (if is_true (s h) then blocks_after (add guards act inner) s else s)
    ≡ blocks_after rest (if is_true (act_on (h ∷ guards, act) s h) then blocks_after inner (act_on (h ∷ guards, act) s) else act_on (h ∷ guards, act) s)
join_after h guards act s inner rest k e =
    ap (blocks_after rest) (by_guard (is_true (s h)) refl ∙ sym (ap (λ (x : Truth). if x then blocks_after inner (act_on (h ∷ guards, act) s) else act_on (h ∷ guards, act) s) (ap is_true k)))
  where
    inside : Truth → Slots
    inside t = if (if t then all_true s guards else false) then do_act act s else s

    by_guard : (t : Truth) → is_true (s h) ≡ t
        → (if t then blocks_after (add guards act inner) s else s) ≡ (if t then blocks_after inner (inside t) else inside t)
    by_guard true is = e
    by_guard false is = refl

join_divides : (h : Place) (guards : List Place) (act : Act) (s : Slots) (inner rest : Blocks) → act_on (h ∷ guards, act) s h ≡ s h → blocks_after (add guards act inner) s ≡ blocks_after inner (act_on (guards, act) s)
    → blocks_divide (add guards act inner) s ≡ ((all_true s guards && divides act s) || blocks_divide inner (act_on (guards, act) s))
    → ((is_true (s h) && blocks_divide (add guards act inner) s) || blocks_divide rest (if is_true (s h) then blocks_after (add guards act inner) s else s))
    ≡ ((all_true s (h ∷ guards) && divides act s) || ((is_true (act_on (h ∷ guards, act) s h) && blocks_divide inner (act_on (h ∷ guards, act) s))
    || blocks_divide rest (if is_true (act_on (h ∷ guards, act) s h) then blocks_after inner (act_on (h ∷ guards, act) s) else act_on (h ∷ guards, act) s)))
join_divides h guards act s inner rest k e d =
    by_guard (is_true (s h)) refl
    ∙ sym (ap (λ (x : Truth). (all_true s (h ∷ guards) && divides act s) || ((x && blocks_divide inner (act_on (h ∷ guards, act) s)) || blocks_divide rest (if x then blocks_after inner (act_on (h ∷ guards, act) s) else act_on (h ∷ guards, act) s))) (ap is_true k))
  where
    inside : Truth → Slots
    inside t = if (if t then all_true s guards else false) then do_act act s else s

    or_assoc : (a b c : Truth) → ((a || b) || c) ≡ (a || (b || c))
    or_assoc true b c = refl
    or_assoc false b c = refl

    by_guard : (t : Truth) → is_true (s h) ≡ t
        → ((t && blocks_divide (add guards act inner) s) || blocks_divide rest (if t then blocks_after (add guards act inner) s else s))
        ≡ (((if t then all_true s guards else false) && divides act s) || ((t && blocks_divide inner (inside t)) || blocks_divide rest (if t then blocks_after inner (inside t) else inside t)))
    by_guard true is = ap₂ (λ a r. a || blocks_divide rest r) d e
        ∙ or_assoc (all_true s guards && divides act s) (blocks_divide inner (act_on (guards, act) s)) (blocks_divide rest (blocks_after inner (act_on (guards, act) s)))
    by_guard false is = refl

pub add_after : (guards : List Place) (act : Act) (blocks : Blocks) (s : Slots)
    → (blocks_after (add guards act blocks) s ≡ blocks_after blocks (act_on (guards, act) s))
    × (blocks_divide (add guards act blocks) s ≡ ((all_true s guards && divides act s) || blocks_divide blocks (act_on (guards, act) s)))
add_after [] act blocks s = (refl, refl)
add_after (g ∷ guards) act none s =
    let alone = add_after guards act none s in
    (alone_after g guards act s none alone.0, alone_divides g guards act s none alone.0 (alone.1 ∙ or_false (all_true s guards && divides act s)))
add_after (g ∷ guards) act (next (single other) rest) s =
    let alone = add_after guards act none s in
    (alone_after g guards act s (next (single other) rest) alone.0, alone_divides g guards act s (next (single other) rest) alone.0 (alone.1 ∙ or_false (all_true s guards && divides act s)))
add_after (g ∷ guards) act (next (region h inner) rest) s = by_join (may_join g h act) refl (add_after guards act inner s) (add_after guards act none s)
  where
    by_join : (t : Truth) → may_join g h act ≡ t
        → (blocks_after (add guards act inner) s ≡ blocks_after inner (act_on (guards, act) s)) × (blocks_divide (add guards act inner) s ≡ ((all_true s guards && divides act s) || blocks_divide inner (act_on (guards, act) s)))
        → (blocks_after (add guards act none) s ≡ act_on (guards, act) s) × (blocks_divide (add guards act none) s ≡ ((all_true s guards && divides act s) || false))
        → (blocks_after (joined_to t g (add guards act inner) (add guards act none) h inner rest) s ≡ blocks_after (next (region h inner) rest) (act_on (g ∷ guards, act) s))
        × (blocks_divide (joined_to t g (add guards act inner) (add guards act none) h inner rest) s ≡ ((all_true s (g ∷ guards) && divides act s) || blocks_divide (next (region h inner) rest) (act_on (g ∷ guards, act) s)))
    by_join true e into alone =
        let k = guard_kept g h guards act s e in
        subst (λ x. (blocks_after (next (region h (add guards act inner)) rest) s ≡ blocks_after (next (region h inner) rest) (act_on (x ∷ guards, act) s))
        × (blocks_divide (next (region h (add guards act inner)) rest) s ≡ ((all_true s (x ∷ guards) && divides act s) || blocks_divide (next (region h inner) rest) (act_on (x ∷ guards, act) s))))
        (sym k.0)
        (let k' = subst (λ x. act_on (x ∷ guards, act) s h ≡ s h) k.0 k.1 in
        (join_after h guards act s inner rest k' into.0, join_divides h guards act s inner rest k' into.0 into.1))
    by_join false e into alone = (
      alone_after g guards act s (next (region h inner) rest) alone.0,
      alone_divides g guards act s (next (region h inner) rest) alone.0 (alone.1 ∙ or_false (all_true s guards && divides act s)),
    )

pub joined_after : (acts : List Guarded) (s : Slots) → (blocks_after (joined acts) s ≡ after_acts acts s) × (blocks_divide (joined acts) s ≡ acts_divide acts s)
joined_after [] s = (refl, refl)
joined_after (act ∷ rest) s =
    let one = add_after act.0 act.1 (joined rest) s in
    let more = joined_after rest (act_on act s) in
    (one.0 ∙ more.0, one.1 ∙ ap (λ t. (all_true s act.0 && divides act.1 s) || t) more.1)

module _ (bodies : List BodyStep) (number_of : Place → ℕ) (IsUsed : Place → Type 0) (size : ℕ) where
  abbrev mutual
    pub UsedBlock : Block → Type 0
    UsedBlock (single act) = IsUsedAct bodies number_of IsUsed size act
    UsedBlock (region g inner) = IsUsed g × UsedBlocks inner

    pub UsedBlocks : Blocks → Type 0
    UsedBlocks none = Unit {0}
    UsedBlocks (next block rest) = UsedBlock block × UsedBlocks rest

  pub used_add : (guards : List Place) (act : Act) (blocks : Blocks) → AllUsed bodies number_of IsUsed size guards → IsUsedAct bodies number_of IsUsed size act → UsedBlocks blocks → UsedBlocks (add guards act blocks)
  used_add [] act blocks gs a bs = (a, bs)
  used_add (g ∷ guards) act none gs a bs = ((gs.0, used_add guards act none gs.1 a tt), tt)
  used_add (g ∷ guards) act (next (single other) rest) gs a bs = ((gs.0, used_add guards act none gs.1 a tt), bs)
  used_add (g ∷ guards) act (next (region h inner) rest) gs a bs = by_join (may_join g h act) (used_add guards act inner gs.1 a bs.0.1) (used_add guards act none gs.1 a tt)
    where
      by_join : (t : Truth) → UsedBlocks (add guards act inner) → UsedBlocks (add guards act none) → UsedBlocks (joined_to t g (add guards act inner) (add guards act none) h inner rest)
      by_join true into alone = ((bs.0.0, into), bs.1)
      by_join false into alone = ((gs.0, alone), bs)

  pub used_joined : (acts : List Guarded) → AreUsed bodies number_of IsUsed size acts → UsedBlocks (joined acts)
  used_joined [] us = tt
  used_joined (act ∷ rest) us = used_add act.0 act.1 (joined rest) us.0.0 us.0.1 (used_joined rest us.1)

  or_false' : (t : Truth) → t ≡ (t || false)
  or_false' true = refl
  or_false' false = refl

  or_assoc' : (a b c : Truth) → ((a || b) || c) ≡ (a || (b || c))
  or_assoc' true b c = refl
  or_assoc' false b c = refl

  module _ (is : IsNumbering bodies number_of IsUsed size) where
    abbrev Reach : List Instr → List Instr → Moment → Slots → Truth → Type 0
    Reach = Reaches bodies number_of IsUsed size is

    of_region : (g : Place) (inside rest : List Instr) (s after : Slots) (alarm : Truth) (m : Moment) → Matches bodies number_of IsUsed size s m → IsUsed g
        → Reach inside rest (ticked m) after (m.alarmed || alarm)
        → Reach (When (number_of g) (length inside) ∷ inside) rest m (if is_true (s g) then after else s) (m.alarmed || (is_true (s g) && alarm))
    of_region g inside rest s after alarm m k u r = by_guard (is_true (s g)) (ap is_true (k.same g u))
      where
        by_guard : (t : Truth) → is_true (slot m (number_of g)) ≡ t → Reach (When (number_of g) (length inside) ∷ inside) rest m (if t then after else s) (m.alarmed || (t && alarm))
        by_guard true e = record {
          to = r.to;
          goes = ap (λ t. run bodies (λ k. k) (if t then 0 else length inside) (inside ++ rest) (ticked m)) e ∙ r.goes;
          does = r.does;
        }
        by_guard false e = record {
          to = ticked m;
          goes = ap (λ t. run bodies (λ k. k) (if t then 0 else length inside) (inside ++ rest) (ticked m)) e ∙ passed bodies number_of IsUsed size is inside rest (ticked m);
          does = record { matches = ticked_same bodies number_of IsUsed size is s m k; alarm_same = or_false' m.alarmed };
        }

    then_more : (one two rest : List Instr) (m : Moment) (s t : Slots) (a b : Truth) → (r : Reach one (two ++ rest) m s (m.alarmed || a)) → Reach two rest r.to t (r.to.alarmed || b) → Reach (one ++ two) rest m t (m.alarmed || (a || b))
    then_more one two rest m s t a b r q = record {
      to = q.to;
      goes = ap (λ lines. run bodies (λ k. k) 0 lines m) (append_assoc one two rest) ∙ r.goes ∙ q.goes;
      does = record { matches = q.does.matches; alarm_same = q.does.alarm_same ∙ ap (λ x. x || b) r.does.alarm_same ∙ or_assoc' m.alarmed a b };
    }

    mutual
      block_reach : (block : Block) → UsedBlock block → (rest : List Instr) (s : Slots) (m : Moment) → Matches bodies number_of IsUsed size s m → Reach (block_lines number_of block) rest m (block_after block s) (m.alarmed || block_divides block s)
      block_reach (single act) u rest s m k = record {
        to = effect bodies (λ k. k) (instruction number_of act) m;
        goes = goes_on bodies number_of IsUsed size is act m rest;
        does = acted bodies number_of IsUsed size is s m act k u;
      }
      block_reach (region g inner) u rest s m k =
          of_region g (blocks_lines number_of inner) rest s (blocks_after inner s) (blocks_divide inner s) m k u.0
          (blocks_reach inner u.1 rest s (ticked m) (ticked_same bodies number_of IsUsed size is s m k))

      pub blocks_reach : (blocks : Blocks) → UsedBlocks blocks → (rest : List Instr) (s : Slots) (m : Moment) → Matches bodies number_of IsUsed size s m → Reach (blocks_lines number_of blocks) rest m (blocks_after blocks s) (m.alarmed || blocks_divide blocks s)
      blocks_reach none u rest s m k = record { to = m; goes = refl; does = record { matches = k; alarm_same = or_false' m.alarmed } }
      blocks_reach (next block more) u rest s m k =
          let one = block_reach block u.0 (blocks_lines number_of more ++ rest) s m k in
          then_more (block_lines number_of block) (blocks_lines number_of more) rest m (block_after block s) (blocks_after more (block_after block s)) (block_divides block s) (blocks_divide more (block_after block s)) one
          (blocks_reach more u.1 rest (block_after block s) one.to one.does.matches)

    -- joined regions do what the acts do, from the same slots to the same slots
    pub joined_reach : (acts : List Guarded) (rest : List Instr) (s : Slots) (m : Moment) → Matches bodies number_of IsUsed size s m → AreUsed bodies number_of IsUsed size acts
        → Reach (blocks_lines number_of (joined acts)) rest m (after_acts acts s) (m.alarmed || acts_divide acts s)
    joined_reach acts rest s m k us =
        let same = joined_after acts s in
        subst (λ x. Reach (blocks_lines number_of (joined acts)) rest m x (m.alarmed || acts_divide acts s)) same.0
        (subst (λ x. Reach (blocks_lines number_of (joined acts)) rest m (blocks_after (joined acts) s) (m.alarmed || x)) same.1
        (blocks_reach (joined acts) (used_joined acts us) rest s m k))

or_right : (a b : Truth) → b ≡ true → (a || b) ≡ true
or_right true b e = refl
or_right false b e = e

or_left : (a b : Truth) → a ≡ true → (a || b) ≡ true
or_left true b e = refl
or_left false b e = absurd (false≢true e)

all_three : (a b c : Truth) → a ≡ true → b ≡ true → c ≡ true → (a && b && c) ≡ true
all_three a b c e f g = ap₂ (λ x y. x && y) (ap₂ (λ x y. x && y) e f) g

-- what is added is written
added_writes : (p : Place) (guards : List Place) (act : Act) (blocks : Blocks) → (same_place (dest act) p || writes_among p blocks) ≡ true → writes_among p (add guards act blocks) ≡ true
added_writes p [] act blocks e = e
added_writes p (g ∷ guards) act none e = or_left (writes_among p (add guards act none)) false (added_writes p guards act none e)
added_writes p (g ∷ guards) act (next (single other) rest) e = by_act (same_place (dest act) p) (same_place (dest other) p || writes_among p rest) e (λ t. added_writes p guards act none (or_left (same_place (dest act) p) false t))
  where
    by_act : (a b : Truth) → (a || b) ≡ true → (a ≡ true → writes_among p (add guards act none) ≡ true) → (writes_among p (add guards act none) || b) ≡ true
    by_act true b e f = or_left (writes_among p (add guards act none)) b (f refl)
    by_act false b e f = or_right (writes_among p (add guards act none)) b e
added_writes p (g ∷ guards) act (next (region h inner) rest) e =
    by_join (may_join g h act) (same_place (dest act) p) (writes_among p inner) (writes_among p rest) refl refl e
    (λ t. added_writes p guards act inner t) (λ t. added_writes p guards act none (or_left (same_place (dest act) p) false t)) refl
  where
    by_join : (j a b c : Truth) → b ≡ writes_among p inner → a ≡ same_place (dest act) p → (a || (b || c)) ≡ true → ((same_place (dest act) p || writes_among p inner) ≡ true → writes_among p (add guards act inner) ≡ true)
        → (same_place (dest act) p ≡ true → writes_among p (add guards act none) ≡ true) → c ≡ writes_among p rest → writes_among p (joined_to j g (add guards act inner) (add guards act none) h inner rest) ≡ true
    by_join true true b c ib ia e into alone ic = or_left (writes_among p (add guards act inner)) (writes_among p rest) (into (or_left (same_place (dest act) p) (writes_among p inner) (sym ia)))
    by_join true false true c ib ia e into alone ic = or_left (writes_among p (add guards act inner)) (writes_among p rest) (into (or_right (same_place (dest act) p) (writes_among p inner) (sym ib)))
    by_join true false false c ib ia e into alone ic = or_right (writes_among p (add guards act inner)) (writes_among p rest) (sym ic ∙ e)
    by_join false true b c ib ia e into alone ic = or_left (writes_among p (add guards act none)) (writes_among p inner || writes_among p rest) (alone (sym ia))
    by_join false false b c ib ia e into alone ic = or_right (writes_among p (add guards act none)) (writes_among p inner || writes_among p rest) (ap₂ (λ x y. x || y) (sym ib) (sym ic) ∙ e)

fits_more : (h : Place) (guards : List Place) (act : Act) (inner rest : Blocks) → fits_before (region h inner) rest ≡ true → fits_before (region h (add guards act inner)) rest ≡ true
fits_more h guards act inner none e = refl
fits_more h guards act inner (next (single other) rest) e = refl
fits_more h guards act inner (next (region k more) rest) e = by_same (not (same_place h k)) (writes_among k inner) refl e
  where
    by_same : (a b : Truth) → b ≡ writes_among k inner → (a || b) ≡ true → (a || writes_among k (add guards act inner)) ≡ true
    by_same true b is e' = refl
    by_same false b is e' = added_writes k guards act inner (or_right (same_place (dest act) k) (writes_among k inner) (sym is ∙ e'))

fits_alone : (g h : Place) (guards : List Place) (act : Act) → may_join g h act ≡ false → (not (same_place g h) || writes_among h (add guards act none)) ≡ true
fits_alone g h guards act e = by_same (same_place g h) (same_place (dest act) h) refl e
  where
    by_same : (a b : Truth) → b ≡ same_place (dest act) h → (a && not b) ≡ false → (not a || writes_among h (add guards act none)) ≡ true
    by_same false b is e' = refl
    by_same true true is e' = added_writes h guards act none (or_left (same_place (dest act) h) false (sym is))
    by_same true false is e' = absurd (false≢true (sym e'))

add_joined : (guards : List Place) (act : Act) (blocks : Blocks) → are_joined blocks ≡ true → are_joined (add guards act blocks) ≡ true
add_joined [] act blocks e = e
add_joined (g ∷ guards) act none e = all_three (are_joined (add guards act none)) true true (add_joined guards act none refl) refl refl
add_joined (g ∷ guards) act (next (single other) rest) e = all_three (are_joined (add guards act none)) true (are_joined rest) (add_joined guards act none refl) refl e
add_joined (g ∷ guards) act (next (region h inner) rest) e =
    by_join (may_join g h act) refl
    (add_joined guards act inner (and_left (are_joined inner) (fits_before (region h inner) rest) (and_left (are_joined inner && fits_before (region h inner) rest) (are_joined rest) e)))
    (add_joined guards act none refl)
  where
    by_join : (t : Truth) → may_join g h act ≡ t → are_joined (add guards act inner) ≡ true → are_joined (add guards act none) ≡ true
        → are_joined (joined_to t g (add guards act inner) (add guards act none) h inner rest) ≡ true
    by_join true is into alone =
        all_three (are_joined (add guards act inner)) (fits_before (region h (add guards act inner)) rest) (are_joined rest) into
        (fits_more h guards act inner rest (and_right (are_joined inner) (fits_before (region h inner) rest) (and_left (are_joined inner && fits_before (region h inner) rest) (are_joined rest) e)))
        (and_right (are_joined inner && fits_before (region h inner) rest) (are_joined rest) e)
    by_join false is into alone =
        all_three (are_joined (add guards act none)) (not (same_place g h) || writes_among h (add guards act none)) (are_joined (next (region h inner) rest)) alone (fits_alone g h guards act is) e

pub joined_joined : (acts : List Guarded) → are_joined (joined acts) ≡ true
joined_joined [] = refl
joined_joined (act ∷ rest) = add_joined act.0 act.1 (joined rest) (joined_joined rest)
