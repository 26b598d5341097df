-- The lines of blocks have no fault, where their acts read what is ready, and each act alone has its numbers, its leaf and its
-- shapes.
use Rattle.std.specs.Prelude.{◌≡◌, refl, ℕ, suc, ◌+◌, ◌<◌, ◌≤◌, ◌&&◌, ◌||◌, nat_lt, nat_le, not, Bool as Truth, true, false, List, [], ◌∷◌, ◌++◌, Option, None, Some, length, ◌⊎◌}
use Rattle.std.specs.List.{list_any}
use Rattle.std.proofs.Common.{ap, ap₂, sym, ◌∙◌, subst, arith, inl, inr, append_assoc, length-append}
use Rattle.std.proofs.lemmas.List.{append-nil}
use Rattle.std.proofs.lemmas.Bool.{false≢true}
use Rattle.std.proofs.lemmas.Bool.Decides.{nat_tests}
use Rattle.ls_value.specs.declared.leaf.Shape.TheVariants as shape
use Rattle.step_code.specs.declared.parts.Instr.{Instr}
use Rattle.step_code.specs.declared.parts.Instr.TheVariants.{Const, Copy, Op1, Op2, Op3, Test, When, Call}
use Rattle.compile_rules.specs.declared.places.Place.{Place}
use Rattle.compile_rules.specs.declared.places.Act.{Act}
use Rattle.compile_rules.specs.declared.places.Act.TheVariants.{Put as put, Copy as copy, Operate as operate, Test as test}
use Rattle.compile_rules.specs.Scheme.{Guarded, same_place, dest}
use Rattle.compile_rules.proofs.Frames.{place_same}
use Rattle.compile_rules.specs.Assembly.{instruction}
use Rattle.step_code.specs.declared.parts.Fault.{Fault}
use Rattle.step_code.specs.Shapes.{same_shape, shape_at, kind_at, is_mem, is_arg}
use Rattle.step_code.specs.Valid.{Around, writes, is_set, is_ready, are_ready, target_free, is_ordered, is_named, is_in_order, has_shapes, ends_inside, fault_of, fault_after, at_place, or_else, line_fault, list_fault}
use Rattle.compile_rules.specs.Blocks.{Block, single, region, Blocks, none, next, block_lines, blocks_lines, add, joined, joined_to, may_join}
use Rattle.compile_rules.proofs.Readiness.{sources, IsReady, AreReady, ActsReady}

and_both : (a b : Truth) → a ≡ true → b ≡ true → (a && b) ≡ true
and_both a b e f = ap₂ (λ x y. x && y) e f

or_right : (a b : Truth) → b ≡ true → (a || b) ≡ true
or_right true b e = refl
or_right false b e = e

or_more : (a b c : Truth) → (a || b) ≡ true → (a || (b || c)) ≡ true
or_more true b c e = refl
or_more false true c e = refl
or_more false false c e = absurd (false≢true e)

any_append : (f : Instr → Truth) (xs : List Instr) (y : Instr) → list_any f (xs ++ y ∷ []) ≡ (list_any f xs || f y)
any_append f [] y = go (f y)
  where
    go : (t : Truth) → (t || false) ≡ t
    go true = refl
    go false = refl
any_append f (x ∷ xs) y = ap (λ t. f x || t) (any_append f xs y) ∙ go (f x)
  where
    go : (t : Truth) → (t || (list_any f xs || f y)) ≡ ((t || list_any f xs) || f y)
    go true = refl
    go false = refl

-- ---- what is ready, over blocks

module _ (Ready : Place → Type 0) where
  abbrev mutual
    pub block_wrote : List Place → Block → List Place
    block_wrote done (single act) = dest act ∷ done
    block_wrote done (region g inner) = blocks_wrote done inner

    pub blocks_wrote : List Place → Blocks → List Place
    blocks_wrote done none = done
    blocks_wrote done (next block rest) = blocks_wrote (block_wrote done block) rest

  abbrev mutual
    pub BlockReady : List Place → Block → Type 0
    BlockReady done (single act) = AreReady Ready done (sources act)
    BlockReady done (region g inner) = IsReady Ready done g × BlocksReady done inner

    pub BlocksReady : List Place → Blocks → Type 0
    BlocksReady done none = Unit {0}
    BlocksReady done (next block rest) = BlockReady done block × BlocksReady (block_wrote done block) rest

  add_wrote : (guards : List Place) (act : Act) (blocks : Blocks) (done : List Place) → blocks_wrote done (add guards act blocks) ≡ blocks_wrote (dest act ∷ done) blocks
  add_wrote [] act blocks done = refl
  add_wrote (g ∷ guards) act none done = add_wrote guards act none done
  add_wrote (g ∷ guards) act (next (single other) rest) done = ap (λ d. blocks_wrote (dest other ∷ d) rest) (add_wrote guards act none done)
  add_wrote (g ∷ guards) act (next (region h inner) rest) done = by_join (may_join g h act) (add_wrote guards act inner done) (add_wrote guards act none done)
    where
      by_join : (t : Truth) → blocks_wrote done (add guards act inner) ≡ blocks_wrote (dest act ∷ done) inner → blocks_wrote done (add guards act none) ≡ dest act ∷ done
          → blocks_wrote done (joined_to t g (add guards act inner) (add guards act none) h inner rest) ≡ blocks_wrote (blocks_wrote (dest act ∷ done) inner) rest
      by_join true e f = ap (λ d. blocks_wrote d rest) e
      by_join false e f = ap (λ d. blocks_wrote (blocks_wrote d inner) rest) f

  add_ready : (guards : List Place) (act : Act) (blocks : Blocks) (done : List Place) → AreReady Ready done guards → AreReady Ready done (sources act) → BlocksReady (dest act ∷ done) blocks → BlocksReady done (add guards act blocks)
  add_ready [] act blocks done gs ss bs = (ss, bs)
  add_ready (g ∷ guards) act none done gs ss bs = ((gs.0, add_ready guards act none done gs.1 ss tt), tt)
  add_ready (g ∷ guards) act (next (single other) rest) done gs ss bs =
      ((gs.0, add_ready guards act none done gs.1 ss tt), subst (λ d. BlocksReady d (next (single other) rest)) (sym (add_wrote guards act none done)) bs)
  add_ready (g ∷ guards) act (next (region h inner) rest) done gs ss bs =
      by_join (may_join g h act) refl (add_ready guards act inner done gs.1 ss bs.0.1) (add_ready guards act none done gs.1 ss tt)
    where
      same_g : (g' h' : Place) → may_join g' h' act ≡ true → g' ≡ h'
      same_g g' h' e = place_same g' h' (left (same_place g' h') (not (same_place (dest act) h')) e)
        where
          left : (a b : Truth) → (a && b) ≡ true → a ≡ true
          left true b e' = refl
          left false b e' = e'

      by_join : (t : Truth) → may_join g h act ≡ t → BlocksReady done (add guards act inner) → BlocksReady done (add guards act none)
          → BlocksReady done (joined_to t g (add guards act inner) (add guards act none) h inner rest)
      by_join true e into alone = ((subst (λ x. IsReady Ready done x) (same_g g h e) gs.0, into), subst (λ d. BlocksReady d rest) (sym (add_wrote guards act inner done)) bs.1)
      by_join false e into alone = ((gs.0, alone), subst (λ d. BlocksReady d (next (region h inner) rest)) (sym (add_wrote guards act none done)) bs)

  pub joined_ready : (acts : List Guarded) (done : List Place) → ActsReady Ready done acts → BlocksReady done (joined acts)
  joined_ready [] done h = tt
  joined_ready (act ∷ rest) done h = add_ready act.0 act.1 (joined rest) done h.0 h.1 (joined_ready rest (dest act.1 ∷ done) h.2)

-- ---- lines

module _ (Ready : Place → Type 0) (number_of : Place → ℕ) (around : Around) (at_start : (p : Place) → Ready p → (earlier : List Instr) → is_ready around earlier (number_of p) ≡ true) where
  -- places whose slots may be read after some lines
  abbrev pub AreTold : List Instr → List Place → Type 0
  AreTold earlier [] = Unit {0}
  AreTold earlier (p ∷ ps) = (is_ready around earlier (number_of p) ≡ true) × AreTold earlier ps

  -- no line has a fault, after some lines
  abbrev pub is_faultless : List Instr → List Instr → Truth
  is_faultless earlier [] = true
  is_faultless earlier (line ∷ rest) = is_named around earlier line && is_in_order around earlier (length rest) line && has_shapes around line && is_faultless (earlier ++ line ∷ []) rest

  -- an act alone: its numbers name slots, its leaf is known, its slot may be written, its shapes fit
  pub record IsSound (act : Act) : Type 0 where
    pub named : (earlier : List Instr) → is_named around earlier (instruction number_of act) ≡ true
    pub reads : (earlier : List Instr) → AreTold earlier (sources act) → are_ready around earlier (instruction number_of act) ≡ true
    pub free : target_free around (instruction number_of act) ≡ true
    pub shapes : has_shapes around (instruction number_of act) ≡ true
    pub ordered : (earlier : List Instr) (later : ℕ) → is_ordered around earlier later (instruction number_of act) ≡ true
    pub written : writes around (number_of (dest act)) (instruction number_of act) ≡ true

  pub record IsSoundGuard (g : Place) : Type 0 where
    pub named : (earlier : List Instr) (size : ℕ) → is_named around earlier (When (number_of g) size) ≡ true
    pub shapes : same_shape (shape_at around.slots (number_of g)) shape.Bool ≡ true

  abbrev mutual
    pub SoundBlock : Block → Type 0
    SoundBlock (single act) = IsSound act
    SoundBlock (region g inner) = IsSoundGuard g × SoundBlocks inner

    pub SoundBlocks : Blocks → Type 0
    SoundBlocks none = Unit {0}
    SoundBlocks (next block rest) = SoundBlock block × SoundBlocks rest

  -- what is ready over names is ready in the lines
  pub record Told (done : List Place) (earlier : List Instr) : Type 0 where
    pub ready : (p : Place) → IsReady Ready done p → is_ready around earlier (number_of p) ≡ true

  ready_more : (earlier : List Instr) (line : Instr) (k : ℕ) → is_ready around earlier k ≡ true → is_ready around (earlier ++ line ∷ []) k ≡ true
  ready_more earlier line k e =
      ap (λ t. is_set around k || is_mem (kind_at around.slots k) || is_arg (kind_at around.slots k) || t) (any_append (writes around k) earlier line)
      ∙ or_more (is_set around k || is_mem (kind_at around.slots k) || is_arg (kind_at around.slots k)) (list_any (writes around k) earlier) (writes around k line) e

  ready_written : (earlier : List Instr) (line : Instr) (k : ℕ) → writes around k line ≡ true → is_ready around (earlier ++ line ∷ []) k ≡ true
  ready_written earlier line k e =
      or_right (is_set around k || is_mem (kind_at around.slots k) || is_arg (kind_at around.slots k)) (list_any (writes around k) (earlier ++ line ∷ []))
      (any_append (writes around k) earlier line ∙ or_right (list_any (writes around k) earlier) (writes around k line) e)

  told_region : (done : List Place) (earlier : List Instr) (line : Instr) → Told done earlier → Told done (earlier ++ line ∷ [])
  told_region done earlier line t = record { ready = λ p h. ready_more earlier line (number_of p) (t.ready p h) }

  told_act : (done : List Place) (earlier : List Instr) (act : Act) → IsSound act → Told done earlier → Told (dest act ∷ done) (earlier ++ instruction number_of act ∷ [])
  told_act done earlier act sound t = record { ready = λ p h. by_place p h }
    where
      by_place : (p : Place) → IsReady Ready (dest act ∷ done) p → is_ready around (earlier ++ instruction number_of act ∷ []) (number_of p) ≡ true
      by_place p (inl e) = subst (λ q. is_ready around (earlier ++ instruction number_of act ∷ []) (number_of q) ≡ true) e (ready_written earlier (instruction number_of act) (number_of (dest act)) sound.written)
      by_place p (inr h) = ready_more earlier (instruction number_of act) (number_of p) (t.ready p h)

  all_told : (done : List Place) (earlier : List Instr) → Told done earlier → (ps : List Place) → AreReady Ready done ps → AreTold earlier ps
  all_told done earlier t [] h = tt
  all_told done earlier t (p ∷ ps) h = (t.ready p h.0, all_told done earlier t ps h.1)

  -- ---- regions nest

  abbrev pub size_of : Instr → Option ℕ
  size_of (When g size) = Some size
  size_of _ = None

  abbrev pub EndsAt : Option ℕ → ℕ → ℕ → ℕ → Type 0
  EndsAt None place end from = Unit {0}
  EndsAt (Some size) place end from = (from + size < place) ⊎ (end ≤ from + size)

  -- each earlier region has ended before the place, or ends at `end` or later
  abbrev pub Ends : ℕ → ℕ → ℕ → List Instr → Type 0
  Ends place end from [] = Unit {0}
  Ends place end from (line ∷ rest) = EndsAt (size_of line) place end from × Ends place end (from + 1) rest

  abbrev pub PastAt : Option ℕ → ℕ → ℕ → Type 0
  PastAt None place from = Unit {0}
  PastAt (Some size) place from = from + size < place

  -- each of these regions has ended before the place
  abbrev pub Past : ℕ → ℕ → List Instr → Type 0
  Past place from [] = Unit {0}
  Past place from (line ∷ rest) = PastAt (size_of line) place from × Past place (from + 1) rest

  ends_or : (a b c d : ℕ) → (a < b) ⊎ (c ≤ a) → d ≤ c → (nat_lt a b || nat_le d a) ≡ true
  ends_or a b c d (inl h) k = lt_true (grind (arith, nat_tests, h))
    where
      lt_true : nat_lt a b ≡ true → (nat_lt a b || nat_le d a) ≡ true
      lt_true e = ap (λ t. t || nat_le d a) e
  ends_or a b c d (inr h) k = or_right (nat_lt a b) (nat_le d a) (let e : d ≤ a = omega (arith, h, k) in grind (arith, nat_tests, e))

  ends_test : (place end from size : ℕ) (earlier : List Instr) → Ends place end from earlier → place + size ≤ end → ends_inside place size from earlier ≡ true
  ends_test place end from size [] h k = refl
  ends_test place end from size (When g other ∷ rest) h k =
      and_both (nat_lt (from + other) place || nat_le (place + size) (from + other)) (ends_inside place size (from + 1) rest)
      (ends_or (from + other) place end (place + size) h.0 k) (ends_test place end (from + 1) size rest h.1 k)
  ends_test place end from size (Const d l ∷ rest) h k = ends_test place end (from + 1) size rest h.1 k
  ends_test place end from size (Copy d a ∷ rest) h k = ends_test place end (from + 1) size rest h.1 k
  ends_test place end from size (Op1 op d a ∷ rest) h k = ends_test place end (from + 1) size rest h.1 k
  ends_test place end from size (Op2 op d a b ∷ rest) h k = ends_test place end (from + 1) size rest h.1 k
  ends_test place end from size (Op3 op d a b c ∷ rest) h k = ends_test place end (from + 1) size rest h.1 k
  ends_test place end from size (Test d a l ∷ rest) h k = ends_test place end (from + 1) size rest h.1 k
  ends_test place end from size (Call b base ∷ rest) h k = ends_test place end (from + 1) size rest h.1 k

  ends_move : (place place' end end' from : ℕ) (earlier : List Instr) → place ≤ place' → end' ≤ end → Ends place end from earlier → Ends place' end' from earlier
  ends_move place place' end end' from [] a b h = tt
  ends_move place place' end end' from (line ∷ rest) a b h = (by_size (size_of line) h.0, ends_move place place' end end' (from + 1) rest a b h.1)
    where
      by_size : (o : Option ℕ) → EndsAt o place end from → EndsAt o place' end' from
      by_size None x = tt
      by_size (Some size) (inl x) = inl (omega (arith, x, a))
      by_size (Some size) (inr x) = inr (omega (arith, x, b))

  past_move : (place place' from : ℕ) (lines : List Instr) → place ≤ place' → Past place from lines → Past place' from lines
  past_move place place' from [] a h = tt
  past_move place place' from (line ∷ rest) a h = (by_size (size_of line) h.0, past_move place place' (from + 1) rest a h.1)
    where
      by_size : (o : Option ℕ) → PastAt o place from → PastAt o place' from
      by_size None x = tt
      by_size (Some size) x = omega (arith, x, a)

  past_ends : (place end from : ℕ) (lines : List Instr) → Past place from lines → Ends place end from lines
  past_ends place end from [] h = tt
  past_ends place end from (line ∷ rest) h = (by_size (size_of line) h.0, past_ends place end (from + 1) rest h.1)
    where
      by_size : (o : Option ℕ) → PastAt o place from → EndsAt o place end from
      by_size None x = tt
      by_size (Some size) x = inl x

  ends_append : (place end from : ℕ) (xs ys : List Instr) → Ends place end from xs → Ends place end (from + length xs) ys → Ends place end from (xs ++ ys)
  ends_append place end from [] ys h k = subst (λ n. Ends place end n ys) (let e : from + 0 ≡ from = omega arith in e) k
  ends_append place end from (x ∷ xs) ys h k = (h.0, ends_append place end (from + 1) xs ys h.1 (subst (λ n. Ends place end n ys) (let e : from + suc (length xs) ≡ from + 1 + length xs = omega arith in e) k))

  past_append : (place from : ℕ) (xs ys : List Instr) → Past place from xs → Past place (from + length xs) ys → Past place from (xs ++ ys)
  past_append place from [] ys h k = subst (λ n. Past place n ys) (let e : from + 0 ≡ from = omega arith in e) k
  past_append place from (x ∷ xs) ys h k = (h.0, past_append place (from + 1) xs ys h.1 (subst (λ n. Past place n ys) (let e : from + suc (length xs) ≡ from + 1 + length xs = omega arith in e) k))

  -- ---- the lines of blocks

  four : (a b c d : Truth) → a ≡ true → b ≡ true → c ≡ true → d ≡ true → (a && b && c && d) ≡ true
  four a b c d e f g h = ap₂ (λ x y. x && y) (ap₂ (λ x y. x && y) (ap₂ (λ x y. x && y) e f) g) h

  three : (a b c : Truth) → a ≡ true → b ≡ true → c ≡ true → (a && b && c) ≡ true
  three a b c e f g = ap₂ (λ x y. x && y) (ap₂ (λ x y. x && y) e f) g

  -- lines after which the rest is faultless are faultless, and their regions have ended
  pub record Goes (lines : List Instr) (done' : List Place) (earlier : List Instr) : Type 0 where
    pub faultless : (rest : List Instr) → is_faultless (earlier ++ lines) rest ≡ true → is_faultless earlier (lines ++ rest) ≡ true
    pub told : Told done' (earlier ++ lines)
    pub past : Past (length earlier + length lines) (length earlier) lines

  single_goes : (act : Act) (done : List Place) (earlier : List Instr) → IsSound act → AreReady Ready done (sources act) → Told done earlier
      → Goes (instruction number_of act ∷ []) (dest act ∷ done) earlier
  single_goes act done earlier sound ready told = record {
    faultless = λ rest h. four (is_named around earlier line) (is_in_order around earlier (length rest) line) (has_shapes around line) (is_faultless (earlier ++ line ∷ []) rest)
        (sound.named earlier)
        (three (are_ready around earlier line) (target_free around line) (is_ordered around earlier (length rest) line)
        (sound.reads earlier (all_told done earlier told (sources act) ready)) sound.free (sound.ordered earlier (length rest)))
        sound.shapes h;
    told = told_act done earlier act sound told;
    past = no_region act;
  }
    where
      line : Instr
      line = instruction number_of act

      no_region : (a : Act) → Past (length earlier + 1) (length earlier) (instruction number_of a ∷ [])
      no_region (put d l) = (tt, tt)
      no_region (copy d a) = (tt, tt)
      no_region (operate d op []) = (tt, tt)
      no_region (operate d op (a ∷ [])) = (tt, tt)
      no_region (operate d op (a ∷ b ∷ [])) = (tt, tt)
      no_region (operate d op (a ∷ b ∷ c ∷ more)) = (tt, tt)
      no_region (test d a l) = (tt, tt)

  -- a region, its lines being such
  region_goes : (g : Place) (inside : List Instr) (done done' : List Place) (end : ℕ) (earlier : List Instr) → IsSoundGuard g → IsReady Ready done g → Told done earlier → Ends (length earlier) end 0 earlier
      → length earlier + length inside ≤ end → Goes inside done' (earlier ++ When (number_of g) (length inside) ∷ []) → Goes (When (number_of g) (length inside) ∷ inside) done' earlier
  region_goes g inside done done' end earlier sound ready told ends few into = record {
    faultless = λ rest h. four (is_named around earlier line) (is_in_order around earlier (length (inside ++ rest)) line) (has_shapes around line) (is_faultless (earlier ++ line ∷ []) (inside ++ rest))
        (sound.named earlier (length inside))
        (three (is_ready around earlier (number_of g)) true (nat_le (length inside) (length (inside ++ rest)) && ends_inside (length earlier) (length inside) 0 earlier)
        (told.ready g ready) refl
        (and_both (nat_le (length inside) (length (inside ++ rest))) (ends_inside (length earlier) (length inside) 0 earlier)
        (let e : length inside ≤ length (inside ++ rest) = omega (arith, length-append inside rest) in grind (arith, nat_tests, e))
        (ends_test (length earlier) end 0 (length inside) earlier ends few)))
        sound.shapes
        (into.faultless rest (subst (λ xs. is_faultless xs rest ≡ true) (sym (append_assoc earlier (line ∷ []) inside)) h));
    told = subst (λ xs. Told done' xs) (append_assoc earlier (line ∷ []) inside) into.told;
    past = (
      omega arith,
      subst (λ n. Past (length earlier + suc (length inside)) n inside) (length-append earlier (line ∷ []))
          (past_move (length (earlier ++ line ∷ []) + length inside) (length earlier + suc (length inside)) (length (earlier ++ line ∷ [])) inside (omega (arith, length-append earlier (line ∷ []))) into.past),
    );
  }
    where
      line : Instr
      line = When (number_of g) (length inside)

  then_goes : (one two : List Instr) (d1 d2 : List Place) (earlier : List Instr) → Goes one d1 earlier → Goes two d2 (earlier ++ one) → Goes (one ++ two) d2 earlier
  then_goes one two d1 d2 earlier a b = record {
    faultless = λ rest h. subst (λ xs. is_faultless earlier xs ≡ true) (sym (append_assoc one two rest))
        (a.faultless (two ++ rest) (b.faultless rest (subst (λ xs. is_faultless xs rest ≡ true) (sym (append_assoc earlier one two)) h)));
    told = subst (λ xs. Told d2 xs) (append_assoc earlier one two) b.told;
    past = past_append (length earlier + length (one ++ two)) (length earlier) one two
        (past_move (length earlier + length one) (length earlier + length (one ++ two)) (length earlier) one (omega (arith, length-append one two)) a.past)
        (subst (λ n. Past (length earlier + length (one ++ two)) n two) (length-append earlier one)
        (past_move (length (earlier ++ one) + length two) (length earlier + length (one ++ two)) (length (earlier ++ one)) two (omega (arith, length-append one two, length-append earlier one)) b.past));
  }

  mutual
    block_goes : (block : Block) (done : List Place) (end : ℕ) (earlier : List Instr) → SoundBlock block → BlockReady Ready done block → Told done earlier → Ends (length earlier) end 0 earlier
        → length earlier + length (block_lines number_of block) ≤ end + 1 → Goes (block_lines number_of block) (block_wrote Ready done block) earlier
    block_goes (single act) done end earlier sound ready told ends few = single_goes act done earlier sound ready told
    block_goes (region g inner) done end earlier sound ready told ends few =
        let inside : List Instr = blocks_lines number_of inner in
        let line : Instr = When (number_of g) (length inside) in
        let longer : length (earlier ++ line ∷ []) ≡ length earlier + 1 = length-append earlier (line ∷ []) in
        region_goes g inside done (blocks_wrote Ready done inner) end earlier sound.0 ready.0 told ends (omega (arith, few))
        (blocks_goes inner done (length earlier + length inside) (earlier ++ line ∷ []) sound.1 ready.1 (told_region done earlier line told)
        (ends_append (length (earlier ++ line ∷ [])) (length earlier + length inside) 0 earlier (line ∷ [])
        (ends_move (length earlier) (length (earlier ++ line ∷ [])) end (length earlier + length inside) 0 earlier (omega (arith, longer)) (omega (arith, few)) ends)
        (inr (omega arith), tt))
        (omega (arith, longer)))

    pub blocks_goes : (blocks : Blocks) (done : List Place) (end : ℕ) (earlier : List Instr) → SoundBlocks blocks → BlocksReady Ready done blocks → Told done earlier → Ends (length earlier) end 0 earlier
        → length earlier + length (blocks_lines number_of blocks) ≤ end + 1 → Goes (blocks_lines number_of blocks) (blocks_wrote Ready done blocks) earlier
    blocks_goes none done end earlier sound ready told ends few = record {
      faultless = λ rest h. subst (λ xs. is_faultless xs rest ≡ true) (append-nil earlier) h;
      told = subst (λ xs. Told done xs) (sym (append-nil earlier)) told;
      past = tt;
    }
    blocks_goes (next block more) done end earlier sound ready told ends few =
        let one : List Instr = block_lines number_of block in
        let two : List Instr = blocks_lines number_of more in
        let e : length (one ++ two) ≡ length one + length two = length-append one two in
        let f : length (earlier ++ one) ≡ length earlier + length one = length-append earlier one in
        let first = block_goes block done end earlier sound.0 ready.0 told ends (omega (arith, few, e)) in
        then_goes one two (block_wrote Ready done block) (blocks_wrote Ready (block_wrote Ready done block) more) earlier first
        (blocks_goes more (block_wrote Ready done block) end (earlier ++ one) sound.1 ready.1 first.told
        (ends_append (length (earlier ++ one)) end 0 earlier one
        (ends_move (length earlier) (length (earlier ++ one)) end end 0 earlier (omega (arith, f)) (omega arith) ends)
        (past_ends (length (earlier ++ one)) end (0 + length earlier) one
        (subst (λ n. Past (length (earlier ++ one)) n one) (let z : length earlier ≡ 0 + length earlier = omega arith in z)
        (subst (λ n. Past n (length earlier) one) (sym f) first.past))))
        (omega (arith, few, e, f)))

  -- the lines of joined acts have no fault
  pub joined_faultless : (acts : List Guarded) → SoundBlocks (joined acts) → ActsReady Ready [] acts → is_faultless [] (blocks_lines number_of (joined acts)) ≡ true
  joined_faultless acts sound ready =
      subst (λ xs. is_faultless [] xs ≡ true) (append-nil (blocks_lines number_of (joined acts)))
      ((blocks_goes (joined acts) [] (length (blocks_lines number_of (joined acts))) [] sound (joined_ready Ready acts [] ready) (record { ready = λ p h. at_start p h [] }) tt (omega arith)).faultless [] refl)

  and_left : (a b : Truth) → (a && b) ≡ true → a ≡ true
  and_left true b e = refl
  and_left false b e = e

  and_right : (a b : Truth) → (a && b) ≡ true → b ≡ true
  and_right true b e = e
  and_right false b e = absurd (false≢true e)

  abbrev judge : List Instr → ℕ → Instr → Option Fault
  judge earlier later line = line_fault around earlier (later + 0) line

  no_fault : (earlier list : List Instr) → is_faultless earlier list ≡ true → fault_after judge earlier list ≡ None
  no_fault earlier [] h = refl
  no_fault earlier (line ∷ rest) h =
      ap (λ f. or_else (at_place (length earlier) f) (fault_after judge (earlier ++ line ∷ []) rest)) (one (and_left (a && b && c) d h))
      ∙ no_fault (earlier ++ line ∷ []) rest (and_right (a && b && c) d h)
    where
      a : Truth
      a = is_named around earlier line

      b : Truth
      b = is_in_order around earlier (length rest) line

      c : Truth
      c = has_shapes around line

      d : Truth
      d = is_faultless (earlier ++ line ∷ []) rest

      none_more : (n : ℕ) → n + 0 ≡ n
      none_more n = omega arith

      one : (a && b && c) ≡ true → judge earlier (length rest) line ≡ None
      one e =
          let n : a ≡ true = and_left a b (and_left (a && b) c e) in
          let o : is_in_order around earlier (length rest + 0) line ≡ true = ap (λ k. is_in_order around earlier k line) (none_more (length rest)) ∙ and_right a b (and_left (a && b) c e) in
          let t : c ≡ true = and_right (a && b) c e in
          (λ i. fault_of (n i) (o i) (t i))

  -- so the list has no fault
  pub joined_valid : (acts : List Guarded) → SoundBlocks (joined acts) → ActsReady Ready [] acts → list_fault around 0 (blocks_lines number_of (joined acts)) ≡ None
  joined_valid acts sound ready = no_fault [] (blocks_lines number_of (joined acts)) (joined_faultless acts sound ready)
