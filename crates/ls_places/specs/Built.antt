-- The places that a walk has found so far.
use Rattle.ls_places.specs.declared.bind.PlacesBuilder.{PlacesBuilder}
use Rattle.ls_places.specs.declared.places.Places.{Places}

abbrev pub built : {N : Type 0} → PlacesBuilder N → Places N
built b = record { vars = b.vars; sites = b.sites; starts = b.starts; names = b.names.items; resets = b.resets; exprs = b.exprs }
