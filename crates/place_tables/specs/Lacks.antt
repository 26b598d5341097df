-- Arms without an equation, by the numbers of the equations.
use Rattle.std.specs.Prelude.{◌≡◌, ℕ, suc, ◌+◌, ◌-◌, ◌==◌, Bool, false, List, [], ◌∷◌, ◌++◌, length, map, drop, Option, Some, None, nat_lt, if◌then◌else◌}
use Rattle.indexmap.specs.IndexMap.{IndexMap}
use Rattle.ls_places.specs.Clocks.{any, or_else}
use Rattle.ls_places.specs.Places.{InnerArm}
use Rattle.ls_places.specs.Search.{arm_count, lacks_within, nth, paths_inside}
use Rattle.ls_places.specs.declared.definition.Definition.{Definition}
use Rattle.ls_places.specs.declared.places.Site.{Site}
use Rattle.place_tables.specs.Groups.{group, picked}

-- the number of arms of the block with this clock name
abbrev pub count_arms : Definition → ℕ → ℕ
count_arms d m = arm_count (nth d.places.names (m - length d.params))

-- whether one of these arms of a block lacks an equation
abbrev pub any_arm_lacks : Definition → ℕ → ℕ → List (List InnerArm) → List ℕ → Bool
any_arm_lacks d depth m paths js = any (map (λ j. lacks_within d depth (paths_inside (m, j) paths)) js)

-- ---- the arms around equations but for the outermost `skip`

abbrev pub path : ℕ → Site → List InnerArm
path skip s = drop skip s.inner

abbrev pub paths : List Site → ℕ → List ℕ → List (List InnerArm)
paths sites skip numbers = map (path skip) (picked sites numbers)

-- the outermost of these
abbrev pub next_arm : ℕ → Option Site → Option InnerArm
next_arm skip None = None
next_arm skip (Some s) = nth s.inner skip

abbrev pub arm_at : List Site → ℕ → ℕ → Option InnerArm
arm_at sites skip k = next_arm skip (nth sites k)

-- whether there is none
abbrev pub site_ends : ℕ → Option Site → Bool
site_ends skip None = false
site_ends skip (Some s) = nat_lt (length s.inner) (suc skip)

abbrev pub ends : List Site → ℕ → ℕ → Bool
ends sites skip k = site_ends skip (nth sites k)

abbrev pub any_ends : List Site → ℕ → List ℕ → Bool
any_ends sites skip numbers = any (map (ends sites skip) numbers)

abbrev pub block_of : Option InnerArm → Option ℕ
block_of None = None
block_of (Some a) = Some a.0

-- the block of the first
abbrev pub first_block : List Site → ℕ → List ℕ → Option ℕ
first_block sites skip [] = None
first_block sites skip (k ∷ ks) = or_else (block_of (arm_at sites skip k)) (first_block sites skip ks)

-- ---- the equations in an arm

abbrev pub stands_in : ℕ → ℕ → Option InnerArm → Bool
stands_in m j None = false
stands_in m j (Some a) = if a.0 == m then a.1 == j else false

abbrev pub if_inside : List Site → ℕ → ℕ → ℕ → ℕ → List ℕ
if_inside sites m skip j k = if stands_in m j (arm_at sites skip k) then k ∷ [] else []

-- those of some numbers that stand in an arm of a block
abbrev pub inside : List Site → ℕ → ℕ → ℕ → List ℕ → List ℕ
inside sites m skip j [] = []
inside sites m skip j (k ∷ ks) = if_inside sites m skip j k ++ inside sites m skip j ks

module _ {S : Type 0} where
  abbrev pub AddsNumber : IndexMap ℕ (List ℕ) S → ℕ → ℕ → IndexMap ℕ (List ℕ) S → Type 0
  AddsNumber old j k new = (i : ℕ) → group new i ≡ group old i ++ (if j == i then k ∷ [] else [])

  abbrev pub AddsInside : List Site → ℕ → ℕ → IndexMap ℕ (List ℕ) S → ℕ → IndexMap ℕ (List ℕ) S → Type 0
  AddsInside sites m skip old k new = (j : ℕ) → group new j ≡ group old j ++ if_inside sites m skip j k

-- ---- how many arms there are around equations

abbrev pub site_length : Option Site → ℕ
site_length None = 0
site_length (Some s) = length s.inner

abbrev pub inner_length : List Site → ℕ → ℕ
inner_length sites k = site_length (nth sites k)

abbrev pub all_lengths : List Site → List ℕ → ℕ
all_lengths sites [] = 0
all_lengths sites (k ∷ ks) = inner_length sites k + all_lengths sites ks
