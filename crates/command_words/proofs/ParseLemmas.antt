-- What clap's walk over the words makes of the options.
use Rattle.std.proofs.Common.{◌≡◌, ℕ, Bool, true, false, List, [], ◌∷◌, ◌++◌, Option, Some, None, refl, sym, ◌∙◌, ap, subst, fold, codes, append_assoc, ◌⊎◌, inl, inr}
use Rattle.std.specs.Prelude.{◌&&◌, slice_get, is_some, unwrap_or, option_map, option_and_then, if◌then◌else◌, drop, Result, Ok, Err, IfOk, IfErr}
use Rattle.std.proofs.lemmas.List.{append-nil}
use Rattle.std.specs.Str.{bytes_eq, chars}
use Rattle.clap.specs.Lexer.{long_of, short_of}
use Rattle.clap.specs.Words.{App, Shape, Row, Rule, all_of, first_of, fault_of, matches_of, built, new_app, new_rule, with_rule, Kinds}
use Rattle.clap.specs.Kinds.{or_else}
use Rattle.clap.specs.Walk.{bundle_met, has_row, nothing_held, with_default, Held, Walk, Waiting, idle, positional, option, subcommand_met, walked, settled, used, reading_by}
use Rattle.clap.specs.Faults.{defaults_fault, flags_fault, walk_fault, settle_fault, turn_fault, use_fault}
use Rattle.clap.specs.declared.error.kind.ErrorKind.{ErrorKind}
use Rattle.clap.specs.declared.error.kind.ErrorKind.TheVariants.{ArgumentConflict, InvalidValue, OutOfMemory, UnknownArgument}
use Rattle.clap.specs.declared.error.Error.{Error}
use Rattle.clap.specs.declared.parser.matches.ArgMatches.{ArgMatches}
use Rattle.clap.specs.Words.{FailsBy, HasKind, IsAmong, HasMatchesOf, found_of, is_simple_and_free, kind_of as kind_of_error, rows_of as rows_of_found}
use Rattle.clap.proofs.FaultLemmas.{leaf_fault}
use Rattle.clap.proofs.WalkLemmas.{first_value-rows, raw_values-rows}
use Rattle.std.proofs.lemmas.Str.{chars-nil}
use Rattle.command_words.specs.Parsed.{given_in}
use Rattle.clap.specs.declared.builder.action.ArgAction.TheVariants.{Append}
use Rattle.clap.specs.declared.parser.matches.ValueSource.TheVariants.{CommandLine}
use Rattle.command_words.specs.Options.{Text, Kind, Ends, Max, Unknown, Plain, Given, given_of, read, met, kind_of, long_kind, has_flags, with_word, with_max, max_once, only_words}

-- the command
abbrev pub word_arg : Rule
word_arg = record (new_rule (codes "word")) { action = Some Append }

abbrev pub max_arg : Rule
max_arg = record (new_rule (codes "max")) { long = Some (codes "max") }

abbrev pub bare : App
bare = record { top = record (new_app (codes "lsc")).top { disable_help_flag = true; disable_version_flag = true }; subs = [] }

abbrev pub app : App
app = with_rule (with_rule bare word_arg) max_arg

-- and what building makes of it
abbrev shape : Shape
shape = (built app).top

abbrev rules : List Rule
rules = shape.rules

abbrev first_rule : List Rule → Rule
first_rule [] = word_arg
first_rule (r ∷ rs) = r

abbrev word_rule : Rule
word_rule = first_rule rules

abbrev max_rule : Rule
max_rule = first_rule (drop 1 rules)

-- the rows that can have been made
abbrev row_w : List Text → Row
row_w words = record { id = codes "word"; values = words; count = None; source = Some CommandLine; reading = reading_by word_rule }

abbrev row_m : Text → Row
row_m value = record { id = codes "max"; values = value ∷ []; count = None; source = Some CommandLine; reading = reading_by max_rule }

data Rows : Type 0 where
  none : Rows
  words : List Text → Rows
  value : Text → Rows
  words_value : List Text → Text → Rows
  value_words : Text → List Text → Rows

abbrev rows_of : Rows → List Row
rows_of none = []
rows_of (words ws) = row_w ws ∷ []
rows_of (value v) = row_m v ∷ []
rows_of (words_value ws v) = row_w ws ∷ row_m v ∷ []
rows_of (value_words v ws) = row_m v ∷ row_w ws ∷ []

abbrev and_word : Text → Rows → Rows
and_word x none = words (x ∷ [])
and_word x (words ws) = words (ws ++ x ∷ [])
and_word x (value v) = value_words v (x ∷ [])
and_word x (words_value ws v) = words_value (ws ++ x ∷ []) v
and_word x (value_words v ws) = value_words v (ws ++ x ∷ [])

word_used : (r : Rows) (x : Text) → used word_rule (x ∷ []) (rows_of r) ≡ rows_of (and_word x r)
word_used none x = refl
word_used (words ws) x = refl
word_used (value v) x = refl
word_used (words_value ws v) x = refl
word_used (value_words v ws) x = refl

abbrev walk_at : List Row → Option (Text × List Text) → Waiting → Bool → Walk
walk_at rows p waiting trailing = record { held = record { rows = rows; pending = p; skip = 0 }; waiting = waiting; position = 1; is_trailing = trailing; stopped = None }

and_none : (b : Bool) → (b && false) ≡ false
and_none true = refl
and_none false = refl

no_subcommand : (waiting : Waiting) (word : Text) → subcommand_met [] waiting word ≡ None
no_subcommand idle word = refl
no_subcommand positional word = refl
no_subcommand (option id) word = refl

-- a word, by what clap reads of it
abbrev dashes : Text
dashes = 45 ∷ 45 ∷ []

-- a word that is no flag
abbrev IsPlain : Text → Type 0
IsPlain word =
    (bytes_eq word dashes ≡ false) × (long_of word ≡ None) × ((short_of word ≡ None) ⊎ ((flags : Text) × (short_of word ≡ Some flags) × (slice_get (chars flags) 0 ≡ None)))

module _ (rows : List Row) (p : Option (Text × List Text)) (waiting : Waiting) (word : Text) where
  abbrev held_here : Held
  held_here = record { rows = rows; pending = p; skip = 0 }

  pub ends_walk : bytes_eq word dashes ≡ true → walked rules [] (walk_at rows p waiting false) word ≡ walk_at rows p waiting true
  unfolding walked
  ends_walk e = rw (no_subcommand waiting word, e) refl

  ends_fault : bytes_eq word dashes ≡ true → turn_fault shape [] (walk_at rows p waiting false) word ≡ []
  ends_fault e = rw (no_subcommand waiting word, e) refl

  module _ (e : bytes_eq word dashes ≡ false) where
    module _ (name : Text) (m : bytes_eq (codes "max") name ≡ true) where
      alone_walk : long_of word ≡ Some (name, None)
          → walked rules [] (walk_at rows p waiting false) word ≡ walk_at (settled rules held_here).rows (Some (codes "max", [])) (option (codes "max")) false
      unfolding walked
      alone_walk l = rw (no_subcommand waiting word, e, l, m) refl

      alone_fault : long_of word ≡ Some (name, None) → turn_fault shape [] (walk_at rows p waiting false) word ≡ or_else (settle_fault rules false held_here) []
      alone_fault l = rw (no_subcommand waiting word, e, l, m) refl

      value_walk : (v : Text) → long_of word ≡ Some (name, Some v)
          → walked rules [] (walk_at rows p waiting false) word ≡ walk_at (used max_rule (v ∷ []) (settled rules held_here).rows) None idle false
      unfolding walked
      value_walk v l = rw (no_subcommand waiting word, e, l, m) refl

      value_fault : (v : Text) → long_of word ≡ Some (name, Some v)
          → turn_fault shape [] (walk_at rows p waiting false) word
          ≡ or_else (or_else (settle_fault rules false held_here) (use_fault false max_rule (v ∷ []) (settled rules held_here).rows)) []
      value_fault v l = rw (no_subcommand waiting word, e, l, m) refl

    long_fault : (name : Text) (v : Option Text) → long_of word ≡ Some (name, v) → bytes_eq (codes "max") name ≡ false
        → turn_fault shape [] (walk_at rows p waiting false) word ≡ UnknownArgument ∷ []
    long_fault name v l m = rw (no_subcommand waiting word, e, l, m) refl

    flags_fault_here : (x : ℕ) (xs : Text) (c : ℕ) → long_of word ≡ None → short_of word ≡ Some (x ∷ xs) → slice_get (chars (x ∷ xs)) 0 ≡ Some c
        → turn_fault shape [] (walk_at rows p waiting false) word ≡ UnknownArgument ∷ []
    unfolding flags_fault
    flags_fault_here x xs c l s f = rw (no_subcommand waiting word, e, l, s, f) refl

-- a positional word, where no value is waited for
module _ (rows : List Row) (p : Option (Text × List Text)) (word : Text) where
  abbrev held_at : Held
  held_at = record { rows = rows; pending = p; skip = 0 }

  abbrev after_plain : Walk
  after_plain = walk_at (settled rules held_at).rows (Some (codes "word", word ∷ [])) positional false

  module _ (e : bytes_eq word dashes ≡ false) (l : long_of word ≡ None) where
    idle_walk : (short_of word ≡ None) ⊎ ((flags : Text) × (short_of word ≡ Some flags) × (slice_get (chars flags) 0 ≡ None))
        → walked rules [] (walk_at rows p idle false) word ≡ after_plain
    unfolding walked bundle_met
    idle_walk (inl s) = rw (e, l, s, and_none) refl
    idle_walk (inr ([], s, f)) = rw (e, l, s, and_none) refl
    idle_walk (inr (x ∷ xs, s, f)) = rw (e, l, s, f, and_none) refl

    busy_walk : (short_of word ≡ None) ⊎ ((flags : Text) × (short_of word ≡ Some flags) × (slice_get (chars flags) 0 ≡ None))
        → walked rules [] (walk_at rows p positional false) word ≡ after_plain
    unfolding walked bundle_met
    busy_walk (inl s) = rw (e, l, s, and_none) refl
    busy_walk (inr ([], s, f)) = rw (e, l, s, and_none) refl
    busy_walk (inr (x ∷ xs, s, f)) = rw (e, l, s, f, and_none) refl

    idle_fault : (short_of word ≡ None) ⊎ ((flags : Text) × (short_of word ≡ Some flags) × (slice_get (chars flags) 0 ≡ None))
        → turn_fault shape [] (walk_at rows p idle false) word ≡ settle_fault rules false held_at
    unfolding flags_fault bundle_met
    idle_fault (inl s) = rw (e, l, s, and_none) refl
    idle_fault (inr ([], s, f)) = rw (e, l, s, and_none) refl
    idle_fault (inr (x ∷ xs, s, f)) = rw (e, l, s, f, and_none) refl

    busy_fault : (short_of word ≡ None) ⊎ ((flags : Text) × (short_of word ≡ Some flags) × (slice_get (chars flags) 0 ≡ None))
        → turn_fault shape [] (walk_at rows p positional false) word ≡ settle_fault rules false held_at
    unfolding flags_fault bundle_met
    busy_fault (inl s) = rw (e, l, s, and_none) refl
    busy_fault (inr ([], s, f)) = rw (e, l, s, and_none) refl
    busy_fault (inr (x ∷ xs, s, f)) = rw (e, l, s, f, and_none) refl

  trailing_walk : (waiting : Waiting) → walked rules [] (walk_at rows p waiting true) word ≡ walk_at (settled rules held_at).rows (Some (codes "word", word ∷ [])) positional true
  unfolding walked
  trailing_walk waiting = rw and_none refl

  trailing_fault : (waiting : Waiting) → turn_fault shape [] (walk_at rows p waiting true) word ≡ settle_fault rules false held_at
  trailing_fault waiting = rw and_none refl

-- the word after `--max` is its value
module _ (rows : List Row) (word : Text) (e : bytes_eq word dashes ≡ false) (l : long_of word ≡ None) where
  abbrev wants : Walk
  wants = walk_at rows (Some (codes "max", [])) (option (codes "max")) false

  wanted_walk : (short_of word ≡ None) ⊎ ((flags : Text) × (short_of word ≡ Some flags) × (slice_get (chars flags) 0 ≡ None))
      → walked rules [] wants word ≡ walk_at rows (Some (codes "max", word ∷ [])) idle false
  unfolding walked bundle_met
  wanted_walk (inl s) = rw (e, l, s) refl
  wanted_walk (inr ([], s, f)) = rw (e, l, s) refl
  wanted_walk (inr (x ∷ xs, s, f)) = rw (e, l, s, f) refl

  wanted_fault : (short_of word ≡ None) ⊎ ((flags : Text) × (short_of word ≡ Some flags) × (slice_get (chars flags) 0 ≡ None))
      → turn_fault shape [] wants word ≡ []
  unfolding flags_fault bundle_met
  wanted_fault (inl s) = rw (e, l, s) refl
  wanted_fault (inr ([], s, f)) = rw (e, l, s) refl
  wanted_fault (inr (x ∷ xs, s, f)) = rw (e, l, s, f) refl

-- what clap reads of a word of each kind
abbrev Seen : Text → Kind → Type 0
Seen word Ends = bytes_eq word dashes ≡ true
Seen word (Max v) = (bytes_eq word dashes ≡ false) × ((name : Text) × (long_of word ≡ Some (name, v)) × (bytes_eq (codes "max") name ≡ true))
Seen word Unknown =
    (bytes_eq word dashes ≡ false)
    × (((name : Text) × (v : Option Text) × (long_of word ≡ Some (name, v)) × (bytes_eq (codes "max") name ≡ false))
    ⊎ ((long_of word ≡ None) × ((flags : Text) × (c : ℕ) × (short_of word ≡ Some flags) × (slice_get (chars flags) 0 ≡ Some c))))
Seen word Plain = IsPlain word

seen_char : (word : Text) → bytes_eq word dashes ≡ false → long_of word ≡ None → (flags : Text) → short_of word ≡ Some flags
    → (o : Option ℕ) → slice_get (chars flags) 0 ≡ o → Seen word (if is_some o then Unknown else Plain)
seen_char word e l flags s None f = (e, l, inr (flags, s, f))
seen_char word e l flags s (Some c) f = (e, inr (l, (flags, c, s, f)))

seen_short : (word : Text) → bytes_eq word dashes ≡ false → long_of word ≡ None → (s : Option Text) → short_of word ≡ s → Seen word (if has_flags s then Unknown else Plain)
seen_short word e l None s = (e, l, inl s)
seen_short word e l (Some flags) s = seen_char word e l flags s (slice_get (chars flags) 0) refl

seen_name : (word name : Text) (v : Option Text) → bytes_eq word dashes ≡ false → long_of word ≡ Some (name, v) → (b : Bool) → bytes_eq (codes "max") name ≡ b
    → Seen word (if b then Max v else Unknown)
seen_name word name v e l true m = (e, (name, l, m))
seen_name word name v e l false m = (e, inl (name, v, l, m))

seen_long : (word : Text) → bytes_eq word dashes ≡ false → (l : Option (Text × Option Text)) → long_of word ≡ l → Seen word (long_kind l word)
seen_long word e None l = seen_short word e l (short_of word) refl
seen_long word e (Some (name, v)) l = seen_name word name v e l (bytes_eq (codes "max") name) refl

seen_dashes : (word : Text) (b : Bool) → bytes_eq word dashes ≡ b → Seen word (if b then Ends else long_kind (long_of word) word)
seen_dashes word true e = e
seen_dashes word false e = seen_long word e (long_of word) refl

seen : (word : Text) → Seen word (kind_of word)
seen word = seen_dashes word (bytes_eq word dashes) refl

-- where the walk stands: nothing is pending, or a positional word, or a value of `--max`, or `--max` waits for it
data At : Type 0 where
  free : Rows → At
  after_word : Rows → Text → At
  after_max : Rows → Text → At
  wanting : Rows → At

abbrev base : At → Rows
base (free r) = r
base (after_word r x) = r
base (after_max r v) = r
base (wanting r) = r

abbrev pending_at : At → Option (Text × List Text)
pending_at (free r) = None
pending_at (after_word r x) = Some (codes "word", x ∷ [])
pending_at (after_max r v) = Some (codes "max", v ∷ [])
pending_at (wanting r) = Some (codes "max", [])

abbrev waiting_at : At → Waiting
waiting_at (free r) = idle
waiting_at (after_word r x) = positional
waiting_at (after_max r v) = idle
waiting_at (wanting r) = option (codes "max")

abbrev walk_of : At → Bool → Walk
walk_of s trailing = walk_at (rows_of (base s)) (pending_at s) (waiting_at s) trailing

abbrev held_of : At → Held
held_of s = record { rows = rows_of (base s); pending = pending_at s; skip = 0 }

abbrev has_max : Rows → Bool
has_max none = false
has_max (words ws) = false
has_max (value v) = true
has_max (words_value ws v) = true
has_max (value_words v ws) = true

abbrev and_max : Text → Rows → Rows
and_max v none = value v
and_max v (words ws) = words_value ws v
and_max v r = r

-- the rows when what is pending is used, if it may be
abbrev settles : At → Option Rows
settles (free r) = Some r
settles (after_word r x) = Some (and_word x r)
settles (after_max r v) = if has_max r then None else Some (and_max v r)
settles (wanting r) = None

abbrev Fails : Kinds → Type 0
Fails faults = (k : ErrorKind) × (ks : Kinds) × (faults ≡ k ∷ ks)

abbrev Settled : Option Rows → Kinds → List Row → Type 0
Settled None faults rows = Fails faults
Settled (Some r) faults rows = (faults ≡ []) × (rows ≡ rows_of r)

settling : (s : At) → Settled (settles s) (settle_fault rules false (held_of s)) (settled rules (held_of s)).rows
settling (free r) = (refl, refl)
settling (after_word r x) = (refl, word_used r x)
settling (after_max none v) = (refl, refl)
settling (after_max (words ws) v) = (refl, refl)
settling (after_max (value u) v) = (ArgumentConflict, [], refl)
settling (after_max (words_value ws u) v) = (ArgumentConflict, [], refl)
settling (after_max (value_words u ws) v) = (ArgumentConflict, [], refl)
settling (wanting r) = (InvalidValue, [], refl)

-- what the rows give
abbrev given_rows : List Row → Given
given_rows rows = record { words = unwrap_or (all_of (codes "word") rows) []; max = first_of (codes "max") rows }

abbrev words_in : Rows → List Text
words_in none = []
words_in (words ws) = ws
words_in (value v) = []
words_in (words_value ws v) = ws
words_in (value_words v ws) = ws

abbrev max_in : Rows → Option Text
max_in none = None
max_in (words ws) = None
max_in (value v) = Some v
max_in (words_value ws v) = Some v
max_in (value_words v ws) = Some v

-- what they give with what the rest gives
abbrev join : Option Text → Option Text → List Text → Option Given
join None m ws = Some (record { words = ws; max = m })
join (Some v) None ws = Some (record { words = ws; max = Some v })
join (Some v) (Some u) ws = None

abbrev joined : Rows → Given → Option Given
joined r g = join (max_in r) g.max (words_in r ++ g.words)

abbrev and_rest : Option Rows → Option Given → Option Given
and_rest None o = None
and_rest (Some r) o = option_and_then (joined r) o

join_word : (r : Rows) (x : Text) (o : Option Given) → option_and_then (joined r) (option_map (with_word x) o) ≡ option_and_then (joined (and_word x r)) o
join_word r x None = refl
join_word none x (Some g) = refl
join_word (words ws) x (Some g) = ap (join None g.max) (sym (append_assoc ws (x ∷ []) g.words))
join_word (value v) x (Some g) = refl
join_word (words_value ws v) x (Some g) = ap (join (Some v) g.max) (sym (append_assoc ws (x ∷ []) g.words))
join_word (value_words v ws) x (Some g) = ap (join (Some v) g.max) (sym (append_assoc ws (x ∷ []) g.words))

join_once : (r : Rows) (v : Text) (m : Option Text) (ws : List Text)
    → option_and_then (joined r) (max_once v m ws) ≡ and_rest (settles (after_max r v)) (Some (record { words = ws; max = m }))
join_once none v None ws = refl
join_once none v (Some u) ws = refl
join_once (words us) v None ws = refl
join_once (words us) v (Some u) ws = refl
join_once (value w) v None ws = refl
join_once (value w) v (Some u) ws = refl
join_once (words_value us w) v None ws = refl
join_once (words_value us w) v (Some u) ws = refl
join_once (value_words w us) v None ws = refl
join_once (value_words w us) v (Some u) ws = refl

nothing_joined : (r : Rows) (v : Text) → and_rest (settles (after_max r v)) None ≡ None
nothing_joined none v = refl
nothing_joined (words us) v = refl
nothing_joined (value w) v = refl
nothing_joined (words_value us w) v = refl
nothing_joined (value_words w us) v = refl

join_max : (r : Rows) (v : Text) (o : Option Given) → option_and_then (joined r) (option_and_then (with_max v) o) ≡ and_rest (settles (after_max r v)) o
join_max r v None = sym (nothing_joined r v)
join_max r v (Some g) = join_once r v g.max g.words

-- the parse of some words fails, or gives this
abbrev Agrees : Kinds → List Row → Option Given → Type 0
Agrees faults rows None = Fails faults
Agrees faults rows (Some g) = (faults ≡ []) × (given_rows rows ≡ g)

abbrev AgreesAt : Walk → List Text → Option Given → Type 0
AgreesAt w ws o =
    Agrees (or_else (walk_fault shape [] w ws) (settle_fault rules false (fold (walked rules []) w ws).held)) (settled rules (fold (walked rules []) w ws).held).rows o

step_on : (w after : Walk) (word : Text) (rest : List Text) (o : Option Given) → walked rules [] w word ≡ after → turn_fault shape [] w word ≡ []
    → AgreesAt after rest o → AgreesAt w (word ∷ rest) o
unfolding walk_fault
step_on w after word rest o is quiet next =
    subst (λ (now : Walk). Agrees (or_else (or_else (turn_fault shape [] w word) (walk_fault shape [] now rest)) (settle_fault rules false (fold (walked rules []) now rest).held))
    (settled rules (fold (walked rules []) now rest).held).rows o) (sym is)
    (subst (λ (ks : Kinds). Agrees (or_else (or_else ks (walk_fault shape [] after rest)) (settle_fault rules false (fold (walked rules []) after rest).held))
    (settled rules (fold (walked rules []) after rest).held).rows o) (sym quiet) next)

fail_on : (w : Walk) (word : Text) (rest : List Text) → Fails (turn_fault shape [] w word) → AgreesAt w (word ∷ rest) None
unfolding walk_fault
fail_on w word rest (k, ks, is) =
    (k, _, (λ i. or_else (or_else (is i) (walk_fault shape [] (walked rules [] w word) rest)) (settle_fault rules false (fold (walked rules []) (walked rules [] w word) rest).held)))

given_at : (r : Rows) → joined r (only_words []) ≡ Some (given_rows (rows_of r))
given_at none = refl
given_at (words ws) = ap (join None None) (append-nil ws)
given_at (value v) = refl
given_at (words_value ws v) = ap (join (Some v) None) (append-nil ws)
given_at (value_words v ws) = ap (join (Some v) None) (append-nil ws)

at_end : (o : Option Rows) (faults : Kinds) (rows : List Row) → Settled o faults rows → Agrees faults rows (and_rest o (Some (only_words [])))
at_end None faults rows f = f
at_end (Some r) faults rows (f, e) = subst (Agrees faults rows) (sym (given_at r)) (f, ap given_rows e)

trailing_on : (rows : List Row) (p : Option (Text × List Text)) (waiting : Waiting) (x : Text) (rest : List Text) (o : Option Rows)
    → Settled o (settle_fault rules false (record { rows = rows; pending = p; skip = 0 })) (settled rules (record { rows = rows; pending = p; skip = 0 })).rows
    → ((r : Rows) → AgreesAt (walk_of (after_word r x) true) rest (and_rest (Some (and_word x r)) (Some (only_words rest))))
    → AgreesAt (walk_at rows p waiting true) (x ∷ rest) (and_rest o (Some (only_words (x ∷ rest))))
trailing_on rows p waiting x rest None (k, ks, f) next = fail_on _ x rest (k, ks, trailing_fault rows p x waiting ∙ f)
trailing_on rows p waiting x rest (Some r) (f, e) next =
    step_on _ _ x rest _ (trailing_walk rows p x waiting ∙ (λ i. walk_at (e i) (Some (codes "word", x ∷ [])) positional true)) (trailing_fault rows p x waiting ∙ f)
    (subst (AgreesAt (walk_of (after_word r x) true) rest) (sym (join_word r x (Some (only_words rest)))) (next r))

trailing : (ws : List Text) (s : At) → AgreesAt (walk_of s true) ws (and_rest (settles s) (Some (only_words ws)))
unfolding walk_fault
trailing [] s = at_end (settles s) _ _ (settling s)
trailing (x ∷ rest) s = trailing_on (rows_of (base s)) (pending_at s) (waiting_at s) x rest (settles s) (settling s) (λ r. trailing rest (after_word r x))

-- what is to come where the words are not all positional yet
abbrev expected : At → List Text → Option Given
expected (wanting r) ws = option_and_then (joined r) (read true ws)
expected s ws = and_rest (settles s) (read false ws)

value_on : (rows : List Row) (r : Rows) (v : Text) (p : Option (Text × List Text)) (waiting : Waiting) (x : Text) (rest : List Text) (o : Option Rows)
    → Settled o (use_fault false max_rule (v ∷ []) (rows_of r)) (used max_rule (v ∷ []) (rows_of r))
    → walked rules [] (walk_at rows p waiting false) x ≡ walk_at (used max_rule (v ∷ []) (rows_of r)) None idle false
    → turn_fault shape [] (walk_at rows p waiting false) x ≡ or_else (use_fault false max_rule (v ∷ []) (rows_of r)) []
    → ((now : Rows) → AgreesAt (walk_of (free now) false) rest (expected (free now) rest))
    → AgreesAt (walk_at rows p waiting false) (x ∷ rest) (and_rest o (read false rest))
value_on rows r v p waiting x rest None (k, ks, f) walks fault next = fail_on _ x rest (k, _, fault ∙ ap (λ qs. or_else qs []) f)
value_on rows r v p waiting x rest (Some now) (f, e) walks fault next =
    step_on _ _ x rest _ (walks ∙ (λ i. walk_at (e i) None idle false)) (fault ∙ ap (λ qs. or_else qs []) f) (next now)

nothing_rest : (o : Option Rows) → and_rest o None ≡ None
nothing_rest None = refl
nothing_rest (Some r) = refl

unknown_fault : (rows : List Row) (p : Option (Text × List Text)) (waiting : Waiting) (x : Text) → Seen x Unknown → Fails (turn_fault shape [] (walk_at rows p waiting false) x)
unknown_fault rows p waiting x (e, inl (name, v, l, m)) = (UnknownArgument, [], long_fault rows p waiting x e name v l m)
unknown_fault rows p waiting x (e, inr (l, ([], c, s, f))) = absurd (let missing : slice_get (chars []) 0 ≡ None = ap (λ cs. slice_get cs 0) chars-nil in let bad : None ≡ Some c = sym missing ∙ f in cc)
unknown_fault rows p waiting x (e, inr (l, (y ∷ ys, c, s, f))) = (UnknownArgument, [], flags_fault_here rows p waiting x e y ys c l s f)

-- one more word, where no value is waited for
module _ (rows : List Row) (p : Option (Text × List Text)) (waiting : Waiting) (x : Text) (rest : List Text)
    (plain_walk : IsPlain x → walked rules [] (walk_at rows p waiting false) x ≡ after_plain rows p x)
    (plain_fault : IsPlain x → turn_fault shape [] (walk_at rows p waiting false) x ≡ settle_fault rules false (held_at rows p x))
    (next : (s : At) → AgreesAt (walk_of s false) rest (expected s rest)) where
  abbrev here : Walk
  here = walk_at rows p waiting false

  abbrev IsSettled : Option Rows → Type 0
  IsSettled o = Settled o (settle_fault rules false (held_at rows p x)) (settled rules (held_at rows p x)).rows

  alone_on : (o : Option Rows) → IsSettled o → Seen x (Max None) → AgreesAt here (x ∷ rest) (and_rest o (read true rest))
  alone_on None (k, ks, f) (e, (name, l, m)) = fail_on here x rest (k, _, alone_fault rows p waiting x e name m l ∙ ap (λ qs. or_else qs []) f)
  alone_on (Some r) (f, is) (e, (name, l, m)) =
      step_on here _ x rest _ (alone_walk rows p waiting x e name m l ∙ (λ i. walk_at (is i) (Some (codes "max", [])) (option (codes "max")) false))
      (alone_fault rows p waiting x e name m l ∙ ap (λ qs. or_else qs []) f) (next (wanting r))

  with_value_on : (o : Option Rows) → IsSettled o → (v : Text) → Seen x (Max (Some v)) → AgreesAt here (x ∷ rest) (and_rest o (option_and_then (with_max v) (read false rest)))
  with_value_on None (k, ks, f) v (e, (name, l, m)) =
      fail_on here x rest (k, _, value_fault rows p waiting x e name m v l ∙ (λ i. or_else (or_else (f i) (use_fault false max_rule (v ∷ []) (settled rules (held_at rows p x)).rows)) []))
  with_value_on (Some r) (f, is) v (e, (name, l, m)) =
      subst (AgreesAt here (x ∷ rest)) (sym (join_max r v (read false rest)))
      (value_on rows r v p waiting x rest (settles (after_max r v)) (settling (after_max r v))
      (value_walk rows p waiting x e name m v l ∙ (λ i. walk_at (used max_rule (v ∷ []) (is i)) None idle false))
      (value_fault rows p waiting x e name m v l ∙ (λ i. or_else (or_else (f i) (use_fault false max_rule (v ∷ []) (is i))) []))
      (λ now. next (free now)))

  plain_on : (o : Option Rows) → IsSettled o → IsPlain x → AgreesAt here (x ∷ rest) (and_rest o (option_map (with_word x) (read false rest)))
  plain_on None (k, ks, f) plain = fail_on here x rest (k, ks, plain_fault plain ∙ f)
  plain_on (Some r) (f, is) plain =
      step_on here _ x rest _ (plain_walk plain ∙ (λ i. walk_at (is i) (Some (codes "word", x ∷ [])) positional false)) (plain_fault plain ∙ f)
      (subst (AgreesAt (walk_of (after_word r x) false) rest) (sym (join_word r x (read false rest))) (next (after_word r x)))

  open_on : (o : Option Rows) → IsSettled o → AgreesAt (walk_at rows p waiting true) rest (and_rest o (Some (only_words rest)))
      → (k : Kind) → Seen x k → AgreesAt here (x ∷ rest) (and_rest o (met false k x rest (λ still. read still rest)))
  open_on o is ended Ends e = step_on here _ x rest _ (ends_walk rows p waiting x e) (ends_fault rows p waiting x e) ended
  open_on o is ended (Max None) seen_so = alone_on o is seen_so
  open_on o is ended (Max (Some v)) seen_so = with_value_on o is v seen_so
  open_on o is ended Unknown seen_so = subst (AgreesAt here (x ∷ rest)) (sym (nothing_rest o)) (fail_on here x rest (unknown_fault rows p waiting x seen_so))
  open_on o is ended Plain seen_so = plain_on o is seen_so

-- one more word, where it is waited for
wanting_on : (r : Rows) (x : Text) (rest : List Text) → ((s : At) → AgreesAt (walk_of s false) rest (expected s rest))
    → AgreesAt (walk_of (wanting r) true) rest None
    → (k : Kind) → Seen x k → AgreesAt (walk_of (wanting r) false) (x ∷ rest) (option_and_then (joined r) (met true k x rest (λ still. read still rest)))
wanting_on r x rest next ended Ends e =
    let p = Some (codes "max", []) in
    step_on _ _ x rest None (ends_walk (rows_of r) p (option (codes "max")) x e) (ends_fault (rows_of r) p (option (codes "max")) x e) ended
wanting_on r x rest next ended (Max None) (e, (name, l, m)) = fail_on _ x rest (InvalidValue, [], alone_fault (rows_of r) (Some (codes "max", [])) (option (codes "max")) x e name m l)
wanting_on r x rest next ended (Max (Some v)) (e, (name, l, m)) = fail_on _ x rest (InvalidValue, [], value_fault (rows_of r) (Some (codes "max", [])) (option (codes "max")) x e name m v l)
wanting_on r x rest next ended Unknown u = fail_on _ x rest (unknown_fault (rows_of r) (Some (codes "max", [])) (option (codes "max")) x u)
wanting_on r x rest next ended Plain (e, l, s) =
    step_on _ _ x rest _ (wanted_walk (rows_of r) x e l s) (wanted_fault (rows_of r) x e l s)
    (subst (AgreesAt (walk_of (after_max r x) false) rest) (sym (join_max r x (read false rest))) (next (after_max r x)))

open_at : (ws : List Text) (s : At) → AgreesAt (walk_of s false) ws (expected s ws)
unfolding walk_fault
open_at [] (wanting r) = (InvalidValue, [], refl)
open_at [] (free r) = at_end (settles (free r)) _ _ (settling (free r))
open_at [] (after_word r y) = at_end (settles (after_word r y)) _ _ (settling (after_word r y))
open_at [] (after_max r v) = at_end (settles (after_max r v)) _ _ (settling (after_max r v))
open_at (x ∷ rest) (wanting r) = wanting_on r x rest (open_at rest) (trailing rest (wanting r)) (kind_of x) (seen x)
open_at (x ∷ rest) (free r) =
    open_on (rows_of r) None idle x rest (λ is. idle_walk (rows_of r) None x is.0 is.1 is.2) (λ is. idle_fault (rows_of r) None x is.0 is.1 is.2) (open_at rest)
    (settles (free r)) (settling (free r)) (trailing rest (free r)) (kind_of x) (seen x)
open_at (x ∷ rest) (after_word r y) =
    let p = Some (codes "word", y ∷ []) in
    open_on (rows_of r) p positional x rest (λ is. busy_walk (rows_of r) p x is.0 is.1 is.2) (λ is. busy_fault (rows_of r) p x is.0 is.1 is.2) (open_at rest)
    (settles (after_word r y)) (settling (after_word r y)) (trailing rest (after_word r y)) (kind_of x) (seen x)
open_at (x ∷ rest) (after_max r v) =
    let p = Some (codes "max", v ∷ []) in
    open_on (rows_of r) p idle x rest (λ is. idle_walk (rows_of r) p x is.0 is.1 is.2) (λ is. idle_fault (rows_of r) p x is.0 is.1 is.2) (open_at rest)
    (settles (after_max r v)) (settling (after_max r v)) (trailing rest (after_max r v)) (kind_of x) (seen x)

-- after the walk nothing more fails, and no default comes
if_nothing : (b : Bool) → ◌≡◌ {A = Kinds} (if b then [] else []) []
if_nothing true = refl
if_nothing false = refl

if_same : (b : Bool) (rows : List Row) → (if b then rows else rows) ≡ rows
if_same true rows = refl
if_same false rows = refl

no_defaults : (rows : List Row) → defaults_fault rows rules ≡ []
unfolding defaults_fault
no_defaults rows = rw (if_nothing, if_nothing) refl

same_rows : (rows : List Row) → fold with_default rows rules ≡ rows
same_rows rows = if_same (has_row (codes "max") (with_default rows word_rule)) (with_default rows word_rule) ∙ if_same (has_row (codes "word") rows) rows

or_nothing : (ks : Kinds) → or_else ks [] ≡ ks
or_nothing [] = refl
or_nothing (k ∷ ks) = refl

abbrev start : Walk
start = walk_of (free none) false

fault_is : (ws : List Text) → fault_of app ws ≡ or_else (walk_fault shape [] start (drop 1 ws)) (settle_fault rules false (fold (walked rules []) start (drop 1 ws)).held)
fault_is ws =
    leaf_fault (built app) nothing_held (drop 1 ws) refl
    ∙ ap (λ qs. or_else (walk_fault shape [] start (drop 1 ws)) (or_else (settle_fault rules false (fold (walked rules []) start (drop 1 ws)).held) (or_else qs []))) (no_defaults _)
    ∙ ap (or_else (walk_fault shape [] start (drop 1 ws))) (or_nothing _)

matches_are : (ws : List Text) → matches_of app ws ≡ (settled rules (fold (walked rules []) start (drop 1 ws)).held).rows
matches_are ws = same_rows _

read_alone : (o : Option Given) → option_and_then (joined none) o ≡ o
read_alone None = refl
read_alone (Some g) = refl

parsed : (ws : List Text) → Agrees (fault_of app ws) (matches_of app ws) (given_of (drop 1 ws))
parsed ws =
    subst (λ (o : Option Given). Agrees (fault_of app ws) (matches_of app ws) o) (read_alone (read false (drop 1 ws)))
    (subst (λ (ks : Kinds). Agrees ks (matches_of app ws) (expected (free none) (drop 1 ws))) (sym (fault_is ws))
    (subst (λ (rows : List Row). Agrees (or_else (walk_fault shape [] start (drop 1 ws)) (settle_fault rules false (fold (walked rules []) start (drop 1 ws)).held)) rows (expected (free none) (drop 1 ws)))
    (sym (matches_are ws)) (open_at (drop 1 ws) (free none))))

given_when : (faults : Kinds) (rows : List Row) (o : Option Given) → Agrees faults rows o → faults ≡ [] → o ≡ Some (given_rows rows)
given_when faults rows None (k, ks, f) quiet = absurd (let bad : [] ≡ k ∷ ks = sym quiet ∙ f in cc)
given_when faults rows (Some g) (f, e) quiet = ap Some (sym e)

none_when : (faults : Kinds) (rows : List Row) (o : Option Given) (k : ErrorKind) → Agrees faults rows o → IsAmong k faults → o ≡ None
none_when faults rows None k a among = refl
none_when faults rows (Some g) k (f, e) among = absurd (subst (IsAmong k) f among)

given_same : (m : ArgMatches) → given_rows (rows_of_found (found_of m)) ≡ given_in m
given_same m = λ i. record {
  words = unwrap_or (sym (raw_values-rows (found_of m) (codes "word")) i) [];
  max = sym (first_value-rows (found_of m) (codes "max")) i;
}

-- a parse that succeeds gives the options
pub ok-given : (made : App) (ws : List Text) (r : Result ArgMatches Error) → made ≡ app → (is_simple_and_free made ≡ true → FailsBy (fault_of made ws) r)
    → IfOk r (HasMatchesOf made ws) → IfOk r (λ m. given_of (drop 1 ws) ≡ Some (given_in m))
ok-given made ws (Ok m) is kinds matches =
    let quiet : fault_of app ws ≡ [] = subst (λ (a : App). is_simple_and_free a ≡ true → fault_of a ws ≡ []) is kinds refl in
    let rows : rows_of_found (found_of m) ≡ matches_of app ws = (subst (λ (a : App). HasMatchesOf a ws m) is matches refl).0 in
    given_when (fault_of app ws) (matches_of app ws) (given_of (drop 1 ws)) (parsed ws) quiet ∙ ap (λ rs. Some (given_rows rs)) (sym rows) ∙ ap Some (given_same m)
ok-given made ws (Err e) is kinds matches = tt

-- and one that fails, but for want of memory, has no such words
pub err-refused : (made : App) (ws : List Text) (r : Result ArgMatches Error) → made ≡ app → (is_simple_and_free made ≡ true → FailsBy (fault_of made ws) r)
    → IfErr r (λ e. (kind_of_error e ≡ OutOfMemory) ⊎ (given_of (drop 1 ws) ≡ None))
err-refused made ws (Ok m) is kinds = tt
err-refused made ws (Err e) is kinds = by (subst (λ (a : App). is_simple_and_free a ≡ true → HasKind (fault_of a ws) e) is kinds refl)
  where
    by : HasKind (fault_of app ws) e → (kind_of_error e ≡ OutOfMemory) ⊎ (given_of (drop 1 ws) ≡ None)
    by (inl memory) = inl memory
    by (inr among) = inr (none_when (fault_of app ws) (matches_of app ws) (given_of (drop 1 ws)) (kind_of_error e) (parsed ws) among)
