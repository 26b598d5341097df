-- The enumeration and the type of a constructor.
use Rattle.std.specs.Prelude.{ℕ, suc, List, [], ◌∷◌, length, slice_get, Option, Some, None, if◌then◌else◌}
use Rattle.std.specs.Str.{bytes_eq}
use Rattle.ls_ast.specs.declared.tree.FileOf.{FileOf}
use Rattle.ls_base.specs.declared.Name.{Name}
use Rattle.ls_sig.specs.declared.binder.Use.{Use}
use Rattle.ls_sig.specs.declared.env.Env.{Env}
use Rattle.ls_terms.specs.declared.types.TypeTerm.{TypeTerm}
use Rattle.type_rules.specs.Files.{has_name, enumeration_of, type_of_constructor}

-- the first of two, where it is there
abbrev pub or_later : {A : Type 0} → Option A → Option A → Option A
or_later (Some x) o = Some x
or_later None o = o

-- the first enumeration that has this constructor, where they are numbered from a number on
abbrev pub enumeration_in : ℕ → List (Name × List Name) → ℕ → Option ℕ
enumeration_in k [] x = None
enumeration_in k (e ∷ es) x = if has_name x e.1 then Some k else enumeration_in (suc k) es x

-- the number of a spelling
abbrev pub spelling_at : ℕ → List (List ℕ) → List ℕ → Option ℕ
spelling_at k [] text = None
spelling_at k (n ∷ ns) text = if bytes_eq n text then Some k else spelling_at (suc k) ns text

abbrev pub enumeration_at : List (Name × List Name) → Option ℕ → Option ℕ
enumeration_at enums None = None
enumeration_at enums (Some x) = enumeration_in 0 enums x

-- the enumeration of an environment that has a constructor of this spelling
abbrev pub enumeration_before : Env → Option (List ℕ) → Option ℕ
enumeration_before env None = None
enumeration_before env (Some text) = enumeration_at env.enums (spelling_at 0 env.names text)

-- the enumeration of a constructor: those of the environment come first
abbrev pub enumeration : Env → FileOf Use → ℕ → Option ℕ
enumeration env file x = or_later (enumeration_before env (slice_get file.names x)) (enumeration_of (length env.enums) file.defs x)

-- the type of a constructor of a file after an environment, by the number of its name
abbrev pub case_type : Env → FileOf Use → ℕ → Option TypeTerm
case_type env file = type_of_constructor (enumeration env file)
