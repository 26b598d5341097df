-- Whether arms lack equations, for each variable.
use Rattle.std.specs.Prelude.{◌≡◌, ℕ, ◌+◌, ◌-◌, ◌<◌, Bool, List, [], ◌∷◌, ◌++◌, map, length, slice_get, Option, Some, None}
use Rattle.std.proofs.Common.{ap, sym, ◌∙◌, append_assoc, arith}
use Rattle.indexmap.specs.IndexMap.{IndexMap}
use Rattle.ls_places.specs.Search.{count_up, lacks, sites_of}
use Rattle.ls_places.specs.declared.definition.Definition.{Definition}
use Rattle.place_tables.specs.Groups.{group, picked}
use Rattle.place_tables.specs.Tables.{AreSites, all_lacks}
use Rattle.place_tables.proofs.Lists.{counted, listed_at}
use Rattle.place_tables.proofs.Grouping.{sites_picked}

abbrev truth : Bool → Option Bool → Bool
truth b None = b
truth b (Some t) = t

none_before : (x : ℕ) → 0 + x ≡ x
none_before x = omega arith

module _ {S : Type 0} (d : Definition) (sites : IndexMap ℕ (List ℕ) S) (lacking : List Bool) (x : ℕ) where
  at : lacking ≡ all_lacks d sites → x < length d.places.vars → slice_get lacking x ≡ Some (lacks d (picked d.places.sites (group sites x)))
  at is l = ap (λ z. slice_get z x) is ∙ listed_at (λ y. lacks d (picked d.places.sites (group sites y))) (length d.places.vars) 0 x l
      ∙ ap (λ y. Some (lacks d (picked d.places.sites (group sites y)))) (none_before x)

  pub lacks_at : (b : Bool) → lacking ≡ all_lacks d sites → AreSites sites d → x < length d.places.vars → Some b ≡ slice_get lacking x → b ≡ lacks d (sites_of x d.places.sites)
  lacks_at b is are l e = ap (truth b) (e ∙ at is l) ∙ ap (λ z. lacks d (picked d.places.sites z)) (are x) ∙ ap (lacks d) (sites_picked x d.places.sites)

  pub lacks_past : {A : Type 0} → lacking ≡ all_lacks d sites → x < length d.places.vars → None ≡ slice_get lacking x → A
  lacks_past is l e = absurd (no_both (e ∙ at is l))
    where
      no_both : {b : Bool} → None ≡ Some b → ⊥
      no_both e = absurd (cc)

pub all_next : (f : ℕ → Bool) (n x : ℕ) (done new : List Bool) (v : Bool) (whole : List Bool) → x < n → new ≡ done ++ v ∷ [] → v ≡ f x → done ++ map f (count_up (n - x) x) ≡ whole
    → new ++ map f (count_up (n - (x + 1)) (x + 1)) ≡ whole
all_next f n x done new v whole below more one so_far =
    let rest = map f (count_up (n - (x + 1)) (x + 1)) in
    ap (λ z. z ++ rest) more ∙ append_assoc done (v ∷ []) rest ∙ ap (λ z. done ++ z ∷ rest) one ∙ ap (λ z. done ++ map f z) (sym (counted n x below)) ∙ so_far
