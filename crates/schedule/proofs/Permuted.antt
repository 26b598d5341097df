-- Equations in another order are a core again.
use Rattle.std.specs.Prelude.{◌≡◌, ℕ, ◌==◌, ◌+◌, ◌<◌, List, length, All, Any, IsPermutation}
use Rattle.std.proofs.Common.{sym, ◌∙◌, subst, arith}
use Rattle.std.proofs.lemmas.List.Sorted.{All-permutation, Contains-permutation, length_permutation}
use Rattle.std.proofs.lemmas.Map.Keys.{IsDistinct-IsPermutation}
use Rattle.std.specs.List.{IsDistinct}
use Rattle.line_io.specs.declared.form.InputForm.{InputForm}
use Rattle.core_lang.specs.declared.equations.CoreEq.{CoreEq}
use Rattle.core_lang.specs.declared.equations.CoreOut.{CoreOut}
use Rattle.core_lang.specs.Cores.{input_count, IsEquation, IsOutput, IsCore}

module _ (eqs eqs' : List CoreEq) (inputs : InputForm) (outputs : List CoreOut) (moved : IsPermutation eqs eqs') where
  long : length eqs' ≡ length eqs
  long = length_permutation eqs eqs' moved

  flips : (a b : CoreEq) → (a.var == b.var) ≡ (b.var == a.var)
  flips a b = grind (arith)

  defined : (v : ℕ) → Any (λ e. e.var ≡ v) eqs → Any (λ e. e.var ≡ v) eqs'
  defined v (k, x, below, is, same) = let c = Contains-permutation eqs eqs' x moved (k, below, is) in (c.0, x, c.1, c.2, same)

  pub permuted : IsCore eqs inputs outputs → IsCore eqs' inputs outputs
  permuted is = record {
    told = is.told;
    named = is.named;
    signals = is.signals;
    each_input = is.each_input;
    each = subst (λ n. All (IsEquation inputs.cases is.told (input_count inputs + n) (input_count inputs)) eqs') (sym long)
        (All-permutation (IsEquation inputs.cases is.told (input_count inputs + length eqs) (input_count inputs)) eqs eqs' moved is.each);
    apart = IsDistinct-IsPermutation (λ a b. a.var == b.var) flips eqs eqs' moved is.apart;
    all = λ v least below. defined v (is.all v least (subst (λ n. v < input_count inputs + n) long below));
    each_output = subst (λ n. All (IsOutput inputs.cases is.told (input_count inputs + n) (input_count inputs)) outputs) (sym long) is.each_output;
  }

-- with copies of its parts
pub core_again : (eqs s list : List CoreEq) (inputs inputs' : InputForm) (outputs t outputs' : List CoreOut) → s ≡ eqs → IsPermutation s list → inputs' ≡ inputs → t ≡ outputs → outputs' ≡ t
    → IsCore eqs inputs outputs → IsCore list inputs' outputs'
core_again eqs s list inputs inputs' outputs t outputs' is_eqs moved is_inputs is_outputs is_copy is =
    subst (λ x. IsCore list x outputs') (sym is_inputs)
    (subst (λ y. IsCore list inputs y) (sym (is_copy ∙ is_outputs)) (permuted eqs list inputs outputs (subst (λ z. IsPermutation z list) is_eqs moved) is))
