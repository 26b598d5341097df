-- Arms without an equation.
use Rattle.std.specs.Prelude.{ℕ, ◌-◌, Bool, List, length, map}
use Rattle.ls_places.specs.Clocks.{any}
use Rattle.ls_places.specs.Places.{InnerArm}
use Rattle.ls_places.specs.Search.{arm_count, is_empty, lacks_within, nth, paths_inside}
use Rattle.ls_places.specs.declared.definition.Definition.{Definition}
use Rattle.ls_places.specs.declared.places.Site.{Site}

-- whether one of some paths has no arm
abbrev pub any_empty : List (List InnerArm) → Bool
any_empty paths = any (map is_empty paths)

-- whether one of these arms of a block lacks an equation
abbrev pub any_arm_lacks : Definition → ℕ → ℕ → List (List InnerArm) → List ℕ → Bool
any_arm_lacks d depth m paths js = any (map (λ j. lacks_within d depth (paths_inside (m, j) paths)) js)

abbrev pub site_paths : List Site → List (List InnerArm)
site_paths sites = map (λ (s : Site). s.inner) sites

-- the number of arms of the block with this clock name
abbrev pub count_arms : Definition → ℕ → ℕ
count_arms d m = arm_count (nth d.places.names (m - length d.params))
