-- What blocks read, part by part.
use Rattle.std.specs.Prelude.{ℕ, List, [], length, Option, Some}
use Rattle.ls_places.specs.Clocks.{bare}
use Rattle.ls_places.specs.Places.{Place, arms}
use Rattle.ls_places.specs.Search.{signal_at, whole_of}
use Rattle.ls_places.specs.declared.definition.Definition.{Definition}
use Rattle.ls_places.specs.declared.definition.Key.{Key}
use Rattle.ls_places.specs.declared.places.Named.TheVariants as named
use Rattle.ls_places.specs.declared.places.Site.{Site}
use Rattle.causality_rules.specs.Reads.{clock_rows}
use Rattle.causality.specs.Rows.{block_keys}

-- the signal that is seen at a place
abbrev pub signal_in : Definition → Place → ℕ → Option ℕ
signal_in d p x = signal_at d x (arms p)

abbrev pub whole_clock : Definition → Site → ℕ → List Key
whole_clock d s k = clock_rows d (bare (length s.inner) (whole_of d k).expr.note.ck)

abbrev pub present_keys : Definition → List ℕ → Place → List Key
present_keys d xs p = block_keys d 0 (Some (named.Present xs p))

abbrev pub active_keys : Definition → ℕ → Place → List Key
active_keys d m p = block_keys d m (Some (named.Active [] p))

abbrev pub tested_keys : Definition → ℕ → Place → List Key
tested_keys d m p = block_keys d m (Some (named.Tested [] p))
