-- The signals that are seen.
use Rattle.std.specs.Prelude.{◌≡◌, refl, ℕ, suc, ◌+◌, ◌==◌, ◌&&◌, ◌||◌, Bool, true, false, List, [], ◌∷◌, map, Option, Some, None, option_map, if◌then◌else◌}
use Rattle.std.proofs.Common.{ap, sym, ◌∙◌, arith}
use Rattle.ls_places.specs.Clocks.{or_else}
use Rattle.ls_places.specs.Patterns.{has_name}
use Rattle.ls_places.specs.Places.{InnerArm}
use Rattle.ls_places.specs.Search.{nth, signal_in, starts_with}
use Rattle.ls_places.specs.declared.places.Variable.{Variable}
use Rattle.place_tables.specs.Groups.{numbers}
use Rattle.block_tables.specs.Signals.{seen, signal_among, variable_keys}

swapped : (x y : ℕ) → (x == y) ≡ (y == x)
swapped x y = grind arith

or_false : (t : Bool) → (t || false) ≡ t
or_false true = refl
or_false false = refl

option_if : (t : Bool) (k : ℕ) → option_map suc (if t then Some k else None) ≡ (if t then Some (suc k) else None)
option_if true k = refl
option_if false k = refl

seen_suc : (p : List InnerArm) (k : ℕ) (o : Option Variable) → seen p (suc k) o ≡ option_map suc (seen p k o)
seen_suc p k None = refl
seen_suc p k (Some w) = sym (option_if (starts_with p w.list) k)

or_else_suc : (a b : Option ℕ) → option_map suc (or_else a b) ≡ or_else (option_map suc a) (option_map suc b)
or_else_suc None b = refl
or_else_suc (Some x) b = refl

among_suc : (p : List InnerArm) (w : Variable) (ws : List Variable) (ks : List ℕ) → signal_among p (w ∷ ws) (map suc ks) ≡ option_map suc (signal_among p ws ks)
among_suc p w ws [] = refl
among_suc p w ws (k ∷ ks) =
    ap (or_else (seen p (suc k) (nth ws k))) (among_suc p w ws ks) ∙ ap (λ z. or_else z (option_map suc (signal_among p ws ks))) (seen_suc p k (nth ws k))
    ∙ sym (or_else_suc (seen p k (nth ws k)) (signal_among p ws ks))

shifted : (k : ℕ) (o : Option ℕ) → option_map (λ j. k + j) (option_map suc o) ≡ option_map (λ j. suc k + j) o
shifted k None = refl
shifted k (Some j) = ap Some (omega arith)

by_seen : (t u : Bool) (k : ℕ) (o : Option ℕ) (rest : Option ℕ) → rest ≡ option_map (λ j. suc k + j) o
    → (if t && u then Some k else rest) ≡ option_map (λ j. k + j) (if t then or_else (if u then Some 0 else None) (option_map suc o) else option_map suc o)
by_seen true true k o rest e = ap Some (omega arith)
by_seen true false k o rest e = e ∙ sym (shifted k o)
by_seen false u k o rest e = e ∙ sym (shifted k o)

among_if : (t : Bool) (p : List InnerArm) (w : Variable) (ws : List Variable) (ks : List ℕ) → signal_among p (w ∷ ws) (if t then 0 ∷ map suc ks else map suc ks)
    ≡ (if t then or_else (if starts_with p w.list then Some 0 else None) (option_map suc (signal_among p ws ks)) else option_map suc (signal_among p ws ks))
among_if true p w ws ks = ap (or_else (if starts_with p w.list then Some 0 else None)) (among_suc p w ws ks)
among_if false p w ws ks = among_suc p w ws ks

signal_from : (x : ℕ) (p : List InnerArm) (ws : List Variable) (k : ℕ) → signal_in x p ws k ≡ option_map (λ j. k + j) (signal_among p ws (numbers x (variable_keys ws)))
signal_from x p [] k = refl
signal_from x p (w ∷ ws) k =
    ap (λ z. if z && starts_with p w.list then Some k else signal_in x p ws (suc k)) (swapped w.name x ∙ sym (or_false (x == w.name)))
    ∙ by_seen (x == w.name || false) (starts_with p w.list) k (signal_among p ws (numbers x (variable_keys ws))) (signal_in x p ws (suc k)) (signal_from x p ws (suc k))
    ∙ sym (ap (option_map (λ j. k + j)) (among_if (x == w.name || false) p w ws (numbers x (variable_keys ws))))

from_none : (o : Option ℕ) → option_map (λ j. 0 + j) o ≡ o
from_none None = refl
from_none (Some j) = ap Some (omega arith)

pub signal_found : (x : ℕ) (p : List InnerArm) (ws : List Variable) → signal_among p ws (numbers x (variable_keys ws)) ≡ signal_in x p ws 0
signal_found x p ws = sym (signal_from x p ws 0 ∙ from_none (signal_among p ws (numbers x (variable_keys ws))))
