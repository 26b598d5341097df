use Rattle.std.proofs.Common.{◌≡◌, ℕ, ◌+◌, true, [], map, length, Option, Some, None}
use Rattle.std.specs.Prelude.{unwrap_or}
use Rattle.term_unify.specs.Terms.{total}
use Rattle.term_unify.specs.declared.laws.Term.{Ghosts}
use Rattle.term_unify.specs.contracts.laws.Term.TheBound.{Met}
use contract.Running
use denote.RattleType
use mir.Syntax
use prog.Model
use prog.Routine
use seplogic.Ra.Ura
use types.Logic

-- the laws of terms
pub record Laws {T : Type 0} (A : Ghosts T) : Type 0 where
  pub size_is : (t : T) → A.size t ≡ 1 + total A.size (A.kids t)
  pub alike_self : (t : T) → A.alike t t ≡ true
  pub alike_back : (s t : T) → A.alike s t ≡ true → A.alike t s ≡ true
  pub alike_along : (r s t : T) → A.alike r s ≡ true → A.alike s t ≡ true → A.alike r t ≡ true
  pub alike_kids : (s t : T) → A.alike s t ≡ true → length (A.kids s) ≡ length (A.kids t)
  pub alike_same : (s t : T) → A.alike s t ≡ true → A.kids s ≡ A.kids t → s ≡ t
  pub alike_var : (s t : T) → A.alike s t ≡ true → A.var_of s ≡ A.var_of t
  pub alike_stands : (s t : T) → A.alike s t ≡ true → A.stands s ≡ A.stands t
  pub var_same : (s t : T) (x : ℕ) → A.var_of s ≡ Some x → A.var_of t ≡ Some x → s ≡ t
  pub var_kids : (t : T) (x : ℕ) → A.var_of t ≡ Some x → A.kids t ≡ []
  pub var_stands : (t : T) (x : ℕ) → A.var_of t ≡ Some x → A.stands t ≡ true
  pub apply_var : (by : ℕ → Option T) (t : T) (x : ℕ) → A.var_of t ≡ Some x → A.apply by t ≡ unwrap_or (by x) t
  pub apply_alike : (by : ℕ → Option T) (t : T) → A.var_of t ≡ None → A.alike (A.apply by t) t ≡ true
  pub apply_kids : (by : ℕ → Option T) (t : T) → A.var_of t ≡ None → A.kids (A.apply by t) ≡ map (A.apply by) (A.kids t)

pub laws_of : {M : Type 1} {𝓤 : Ura.Ura M} {𝓛 : Logic.Logic 𝓤} {𝓜 : Model.Model 𝓤 𝓛.H} {𝓡 : Running.Running 𝓤 𝓛.H 𝓜} {γ : Routine.Env} {R : RattleType.RattleType} {A : Ghosts R.Denot} {D : Syntax.Dict} → Met 𝓛 𝓜 𝓡 γ R A D → Laws A
laws_of m = record {
  size_is = m.size_is;
  alike_self = m.alike_self;
  alike_back = m.alike_back;
  alike_along = m.alike_along;
  alike_kids = m.alike_kids;
  alike_same = m.alike_same;
  alike_var = m.alike_var;
  alike_stands = m.alike_stands;
  var_same = m.var_same;
  var_kids = m.var_kids;
  var_stands = m.var_stands;
  apply_var = m.apply_var;
  apply_alike = m.apply_alike;
  apply_kids = m.apply_kids;
}
