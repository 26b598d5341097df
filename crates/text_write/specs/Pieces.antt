-- The pieces of the texts of signatures.
use Rattle.std.specs.Prelude.{ℕ, ◌%◌, ◌/◌, ◌+◌, Bool, true, false, List, [], ◌∷◌, nat_le, slice_get, Option, Some, None, if◌then◌else◌, codes, decimal}
use Rattle.ls_base.specs.declared.Name.{Name}

abbrev pub text_or : Option (List ℕ) → List ℕ
text_or None = []
text_or (Some text) = text

abbrev pub name_or : List (List ℕ) → Option Name → List ℕ
name_or names None = []
name_or names (Some x) = text_or (slice_get names x.0)

-- 'a, 'b and so on; 'a1 comes after 'z
abbrev pub letter : ℕ → List ℕ
letter k = 39 ∷ (97 + k % 26) ∷ (if nat_le 26 k then decimal (k / 26) else [])

abbrev pub opening : Bool → List ℕ
opening true = codes "("
opening false = []

abbrev pub closing : Bool → List ℕ
closing true = codes ")"
closing false = []
