-- The places of a definition, numbered in the order of the walk through its tree.
use Rattle.std.specs.Prelude.{ℕ, ◌+◌}
use Rattle.ls_sig.specs.declared.binder.Binder.{Binder}
use Rattle.ls_sig.specs.declared.binder.Use.{Use}
use Rattle.tree_notes.specs.declared.instances.Placer.{Placer}
use Rattle.tree_notes.specs.Numbered.{number_notes, number_body}
use Rattle.type_rules.specs.Definitions.{Definition}

-- the note of a place that has a number
abbrev pub Placed : Type 0
Placed = Use × ℕ

abbrev pub bound_of : Placed → Binder
bound_of n = n.0.bound

abbrev pub place_of : Placed → ℕ
place_of n = n.1

abbrev pub place_step : Placer → Use → Placed
place_step it n = (n, it.next)

abbrev pub place_next : Placer → Use → Placer
place_next it n = record { next = it.next + 1 }

abbrev pub placer : ℕ → Placer
placer k = record { next = k }

-- a definition whose first note has this number: the parameters, and then the body
abbrev pub numbered : Definition Use → ℕ → Definition Placed
numbered d k =
    let notes = number_notes place_step place_next d.notes (placer k) in
    record { params = d.params; marks = d.marks; notes = notes.0; body = (number_body place_step place_next d.body notes.1).0 }
