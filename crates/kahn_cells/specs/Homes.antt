-- Where clock variables are at home, and the clocks of blocks, as maps that are filled step by step.
use Rattle.std.specs.Prelude.{◌≡◌, ℕ, ◌==◌, List, [], ◌∷◌, map, nat_eq, Option, Some, None, if◌then◌else◌}
use Rattle.indexmap.specs.IndexMap.{IndexMap, get}
use Rattle.ls_places.specs.Clocks as clocks
use Rattle.ls_places.specs.Clocks.{or_else}
use Rattle.ls_places.specs.Places.{InnerArm}
use Rattle.ls_places.specs.Search.{all_clocks, all_occurring, common, occurrences, places_of, term_places}
use Rattle.ls_places.specs.declared.places.Whole.{Whole}
use Rattle.ls_sig.specs.declared.binder.Note.{Note}
use Rattle.ls_terms.specs.declared.clocks.ClockTerm.{ClockTerm}

-- the common beginning of the places so far, where there is one, and of some more
abbrev pub meet : Option (List InnerArm) → List (List InnerArm) → Option (List InnerArm)
meet h [] = h
meet None (p ∷ ps) = meet (Some p) ps
meet (Some q) (p ∷ ps) = meet (Some (common q p)) ps

module _ {S : Type 0} where
  -- each clock variable has some more occurrences
  abbrev pub Narrows : IndexMap ℕ (List InnerArm) S → (ℕ → List (List InnerArm)) → IndexMap ℕ (List InnerArm) S → Type 0
  Narrows old places new = (w : ℕ) → get nat_eq new w ≡ meet (get nat_eq old w) (places w)

  -- each name has a clock that is sampled on it, of which the first counts
  abbrev pub Notes : IndexMap ℕ ClockTerm S → (ℕ → Option ClockTerm) → IndexMap ℕ ClockTerm S → Type 0
  Notes old more new = (m : ℕ) → get nat_eq new m ≡ or_else (get nat_eq old m) (more m)

  abbrev pub AreHomes : IndexMap ℕ (List InnerArm) S → List (Whole Note) → Type 0
  AreHomes homes all = (w : ℕ) → get nat_eq homes w ≡ meet None (places_of w all)

  abbrev pub AreBlockClocks : IndexMap ℕ ClockTerm S → List (Whole Note) → Type 0
  AreBlockClocks found all = (m : ℕ) → get nat_eq found m ≡ clocks.noted m (all_clocks all)

abbrev pub occurs : ℕ → List InnerArm → ℕ → List (List InnerArm)
occurs v p w = if v == w then p ∷ [] else []

abbrev pub occur : ClockTerm → List InnerArm → ℕ → List (List InnerArm)
occur t p w = occurrences w t p

abbrev pub all_occur : List ClockTerm → List InnerArm → ℕ → List (List InnerArm)
all_occur ts p w = all_occurring (map (occurrences w) ts) p

abbrev pub terms_occur : List ClockTerm → List InnerArm → ℕ → List (List InnerArm)
terms_occur ts p w = term_places w p ts

abbrev pub sampled : ℕ → ClockTerm → ℕ → Option ClockTerm
sampled n ck m = if n == m then Some ck else None

abbrev pub below : ClockTerm → ℕ → Option ClockTerm
below ck m = clocks.below (clocks.clock_depth ck) m ck

abbrev pub noted : List ClockTerm → ℕ → Option ClockTerm
noted ts m = clocks.noted m ts
