-- The items of initial equations.
use Rattle.std.specs.Prelude.{◌≡◌, refl, ℕ, ◌<◌, true, false, List, [], ◌∷◌, ◌++◌, length, Option, Some, None}
use Rattle.std.specs.Borrow.{Bor}
use Rattle.std.specs.Option.{is_some, option_copied}
use Rattle.std.proofs.Common.{ap, get_or}
use Rattle.ls_places.specs.Search.{start_of}
use Rattle.ls_places.specs.declared.definition.Definition.{Definition}
use Rattle.ls_places.specs.declared.definition.Key.TheVariants as key
use Rattle.ls_places.specs.declared.places.Start.{Start}
use Rattle.ls_places.specs.declared.places.Variable.{Variable}
use Rattle.ls_sig.specs.declared.sigs.Item.TheVariants as item
use Rattle.causality.specs.Items as own
use Rattle.causality.proofs.Pushed.{nth_at}

pub nothing_after : {A : Type 0} → (xs : List A) → xs ≡ xs ++ []
nothing_after [] = refl
nothing_after (x ∷ xs) = ap (λ z. x ∷ z) (nothing_after xs)

pub copied_some : (o : Option (Bor Start)) → is_some (option_copied o) ≡ is_some o
copied_some None = refl
copied_some (Some b) = refl

pub initial_some : (k : ℕ) (o : Option Start) → is_some o ≡ true → own.initial_row k o ≡ (item.Initial k, key.Start k) ∷ []
initial_some k None e = absurd (cc e)
initial_some k (Some s) e = refl

pub initial_none : (k : ℕ) (o : Option Start) → is_some o ≡ false → own.initial_row k o ≡ []
initial_none k None e = refl
initial_none k (Some s) e = absurd (cc e)

pub initial_at : (d : Definition) (k : ℕ) (w : Variable) → k < length d.places.vars → get_or d.places.vars k w ≡ w → own.initial_row_at d k ≡ own.initial_row k (start_of w d.places.starts)
initial_at d k w l e = ap (own.initial_row_of d k) (nth_at d.places.vars k w l e)
