-- The notes of a resolved body, taken one after the other.
use Rattle.std.specs.Prelude.{ℕ, ◌+◌, List, Option, Some, None, slice_get}
use Rattle.ls_sig.specs.declared.binder.Binder.TheVariants as binder
use Rattle.ls_sig.specs.declared.binder.Use.{Use}
use Rattle.scope_rules.specs.declared.notes.UseNotes.{UseNotes}

-- the note that every expression and parameter carries which uses no name
abbrev pub no_use : Use
no_use = record { bound = binder.Nothing }

abbrev pub use_or_none : Option Use → Use
use_or_none (Some u) = u
use_or_none None = no_use

abbrev pub use_at : UseNotes → Use
use_at it = use_or_none (slice_get it.list it.next)

abbrev pub after : UseNotes → UseNotes
after it = record { list = it.list; next = it.next + 1 }
