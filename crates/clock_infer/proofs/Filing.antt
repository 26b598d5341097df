-- Definitions with clocks, one after the other.
use Rattle.std.specs.Prelude.{◌≡◌, refl, ℕ, ◌+◌, ◌<◌, Bool, List, [], ◌∷◌, ◌++◌, map, length, Option}
use Rattle.std.proofs.Common.{ap, ap₂, sym, ◌∙◌, subst, inl, inr, drop, get_or}
use Rattle.std.proofs.lemmas.List.{append-nil}
use Rattle.ls_ast.specs.declared.tree.BodyOf.{BodyOf}
use Rattle.ls_ast.specs.declared.tree.DefOf.{DefOf}
use Rattle.ls_ast.specs.declared.tree.DefOf.TheVariants as item
use Rattle.ls_ast.specs.declared.tree.Mark.{Mark}
use Rattle.ls_ast.specs.declared.tree.Pat.{Pat}
use Rattle.ls_base.specs.declared.Line.{Line}
use Rattle.ls_base.specs.declared.Name.{Name}
use Rattle.ls_base.proofs.Built.{rest}
use Rattle.ls_sig.specs.declared.binder.Note.{Note}
use Rattle.ls_sig.specs.declared.binder.TypeNote.{TypeNote}
use Rattle.tree_notes.specs.Noted.{in_body, in_definition}
use Rattle.clock_rules.specs.declared.scheme.ClockScheme.{ClockScheme}
use Rattle.clock_rules.specs.Files.{FirstIllClocked, Judged}
use Rattle.clock_rules.specs.Fresh.{erase}
use Rattle.clock_rules.specs.Judged.{IsPrincipal, NoneObeys}
use Rattle.ls_places.specs.Definitions.{case_place}
use Rattle.clock_infer.specs.declared.file.ClockFault.{ClockFault}
use Rattle.clock_infer.specs.declared.file.ClockFault.TheVariants as fault
use Rattle.clock_infer.specs.Filed.{AreClockedAs, AtLine, IsClockedAs, IsIll, line_of, schemes_after}

-- ---- one definition

module _ (cases : ℕ → Option ℕ) (schemes : List ClockScheme) (def : DefOf TypeNote) where
  pub cased : (line : Line) (name : Name) (all copied : List Name) → def ≡ item.Cases line name all → copied ≡ all → IsClockedAs cases schemes def (item.Cases line name copied)
  cased line name all copied is same = subst (λ z. IsClockedAs cases schemes z (item.Cases line name copied)) (sym is) (ap (item.Cases line name) same)

  module _ (line : Line) (node : Bool) (name : Name) (params : List Pat) (marks : List Mark) (types seen : List TypeNote) (tree : BodyOf TypeNote)
      (is : def ≡ item.Let line node name params marks types tree) (same : seen ≡ types) where
    pub annotated : (ps : List Pat) (ms : List Mark) (notes : List Note) (body : BodyOf Note) → ps ≡ params → ms ≡ marks → IsPrincipal schemes cases params marks seen tree notes body
        → IsClockedAs cases schemes def (item.Let line node name ps ms notes body)
    annotated ps ms notes body p m h =
        subst (λ z. IsClockedAs cases schemes z (item.Let line node name ps ms notes body)) (sym is) (record {
          notes = notes;
          body = body;
          is = λ i. item.Let line node name (p i) (m i) notes body;
          principal = subst (λ ts. IsPrincipal schemes cases params marks ts tree notes body) same h;
        })

    pub ill : NoneObeys schemes cases params marks seen tree → IsIll cases schemes def
    ill h = subst (IsIll cases schemes) (sym is) (subst (λ ts. NoneObeys schemes cases params marks ts tree) same h)

-- ---- one after the other

append_one : {A : Type 0} (xs : List A) (x : A) (ys : List A) → xs ++ (x ∷ ys) ≡ (xs ++ x ∷ []) ++ ys
append_one [] x ys = refl
append_one (z ∷ xs) x ys = ap (λ w. z ∷ w) (append_one xs x ys)

module _ (cases : ℕ → Option ℕ) (schemes : List ClockScheme) (all : List (DefOf TypeNote)) where
  -- what is left of the definitions, whatever it comes to
  pub record Halfway (done : List (DefOf Note)) (now : List ClockScheme) (left : List (DefOf TypeNote)) : Type 0 where
    pub clocked : (more : List (DefOf Note)) → AreClockedAs cases now left more → AreClockedAs cases schemes all (done ++ more)
    pub ill : (at : ℕ) → FirstIllClocked cases now left at → FirstIllClocked cases schemes all at

  pub begin : Halfway [] schemes all
  begin = record { clocked = λ more h. h; ill = λ at h. h }

  further : (now : List ClockScheme) (d : DefOf TypeNote) (left : List (DefOf TypeNote)) (n : DefOf Note) (at : ℕ) → IsClockedAs cases now d n
      → FirstIllClocked cases (schemes_after now n) left at → FirstIllClocked cases now (d ∷ left) at
  further now (item.Cases line name cs) left n at h ill = subst (λ z. FirstIllClocked cases (schemes_after now z) left at) h ill
  further now (item.Let line node name params marks types tree) left n at h ill =
      inr (record { notes = h.notes; body = h.body; principal = h.principal }, subst (λ z. FirstIllClocked cases (schemes_after now z) left at) h.is ill)

  pub turn : (done : List (DefOf Note)) (now now' : List ClockScheme) (i : ℕ) (d : DefOf TypeNote) (n : DefOf Note) → i < length all → get_or all i d ≡ d
      → IsClockedAs cases now d n → now' ≡ schemes_after now n → Halfway done now (drop i all) → Halfway (done ++ n ∷ []) now' (drop (i + 1) all)
  turn done now now' i d n below is h same so_far =
      let split = rest all i d below is in
      subst (λ z. Halfway (done ++ n ∷ []) z (drop (i + 1) all)) (sym same) (record {
        clocked = λ more m. subst (AreClockedAs cases schemes all) (append_one done n more)
            (so_far.clocked (n ∷ more) (subst (λ l. AreClockedAs cases now l (n ∷ more)) (sym split) (h, m)));
        ill = λ at m. so_far.ill at (subst (λ l. FirstIllClocked cases now l at) (sym split) (further now d (drop (i + 1) all) n at h m));
      })

  pub ended : (done : List (DefOf Note)) (now : List ClockScheme) (left : List (DefOf TypeNote)) → left ≡ [] → Halfway done now left → AreClockedAs cases schemes all done
  ended done now left e h = subst (AreClockedAs cases schemes all) (append-nil done) (h.clocked [] (subst (λ l. AreClockedAs cases now l []) (sym e) tt))

  here_ill : (now : List ClockScheme) (d : DefOf TypeNote) (left : List (DefOf TypeNote)) → IsIll cases now d → FirstIllClocked cases now (d ∷ left) (line_of d).0
  here_ill now (item.Cases line name cs) left h = absurd h
  here_ill now (item.Let line node name params marks types tree) left h = inl (refl, h)

  pub stopped : (done : List (DefOf Note)) (now : List ClockScheme) (i : ℕ) (d : DefOf TypeNote) → i < length all → get_or all i d ≡ d
      → IsIll cases now d → Halfway done now (drop i all) → FirstIllClocked cases schemes all (line_of d).0
  stopped done now i d below is h so_far = so_far.ill (line_of d).0 (subst (λ l. FirstIllClocked cases now l (line_of d).0) (sym (rest all i d below is)) (here_ill now d (drop (i + 1) all) h))

-- ---- a file

module _ (cases : ℕ → Option ℕ) where
  pub erased : (schemes : List ClockScheme) (ds : List (DefOf TypeNote)) (ns : List (DefOf Note)) → AreClockedAs cases schemes ds ns → map (λ d. in_definition Note TypeNote erase d) ns ≡ ds
  erased schemes [] [] h = refl
  erased schemes [] (n ∷ ns) h = absurd h
  erased schemes (d ∷ ds) [] h = absurd h
  erased schemes (item.Cases line name all ∷ ds) (n ∷ ns) h = ap₂ (λ x xs. x ∷ xs) (ap (in_definition Note TypeNote erase) h.0) (erased (schemes_after schemes n) ds ns h.1)
  erased schemes (item.Let line node name params marks types tree ∷ ds) (n ∷ ns) h =
      ap₂ (λ x xs. x ∷ xs)
      (ap (in_definition Note TypeNote erase) h.0.is ∙ (λ i. item.Let line node name params marks (h.0.principal.annotates.of_types i) (h.0.principal.annotates.of_tree i)))
      (erased (schemes_after schemes n) ds ns h.1)

  own : (schemes : List ClockScheme) (params : List Pat) (marks : List Mark) (types : List TypeNote) (tree : BodyOf TypeNote) (notes : List Note) (body : BodyOf Note)
      → IsPrincipal schemes cases params marks types tree notes body → IsPrincipal schemes cases params marks (map erase notes) (in_body Note TypeNote erase body) notes body
  own schemes params marks types tree notes body h =
      subst (λ b. IsPrincipal schemes cases params marks (map erase notes) b notes body) (sym h.annotates.of_tree)
      (subst (λ ts. IsPrincipal schemes cases params marks ts tree notes body) (sym h.annotates.of_types) h)

  pub judged : (schemes : List ClockScheme) (ds : List (DefOf TypeNote)) (ns : List (DefOf Note)) → AreClockedAs cases schemes ds ns → Judged cases schemes ns
  judged schemes [] [] h = tt
  judged schemes [] (n ∷ ns) h = absurd h
  judged schemes (d ∷ ds) [] h = absurd h
  judged schemes (item.Cases line name all ∷ ds) (n ∷ ns) h =
      subst (λ z. Judged cases schemes (z ∷ ns)) (sym h.0) (judged schemes ds ns (subst (λ z. AreClockedAs cases (schemes_after schemes z) ds ns) h.0 h.1))
  judged schemes (item.Let line node name params marks types tree ∷ ds) (n ∷ ns) h =
      subst (λ z. Judged cases schemes (z ∷ ns)) (sym h.0.is) (
        own schemes params marks types tree h.0.notes h.0.body h.0.principal,
        judged (schemes_after schemes (item.Let line node name params marks h.0.notes h.0.body)) ds ns (subst (λ z. AreClockedAs cases (schemes_after schemes z) ds ns) h.0.is h.1),
      )

-- ---- a file, by its constructors

module _ (place : ℕ → Option ℕ) (ds all : List (DefOf TypeNote)) (table : place ≡ case_place ds) (same : all ≡ ds) (schemes seen : List ClockScheme) (schemes_are : seen ≡ schemes) where
  clocked : (ns : List (DefOf Note)) → AreClockedAs place seen all ns → AreClockedAs (case_place ds) schemes ds ns
  clocked ns h = subst (λ z. AreClockedAs z schemes ds ns) table (subst (λ z. AreClockedAs place z ds ns) schemes_are (subst (λ z. AreClockedAs place seen z ns) same h))

  pub file_same : (ns : List (DefOf Note)) → AreClockedAs place seen all ns → map (λ d. in_definition Note TypeNote erase d) ns ≡ ds
  file_same ns h = erased (case_place ds) schemes ds ns (clocked ns h)

  pub file_judged : (ns : List (DefOf Note)) → AreClockedAs place seen all ns → Judged (case_place ds) schemes ns
  file_judged ns h = judged (case_place ds) schemes ds ns (clocked ns h)

  first_ill : (at : ℕ) → FirstIllClocked place seen all at → FirstIllClocked (case_place ds) schemes ds at
  first_ill at h = subst (λ z. FirstIllClocked z schemes ds at) table (subst (λ z. FirstIllClocked place z ds at) schemes_are (subst (λ z. FirstIllClocked place seen z at) same h))

  pub file_refused : (f : ClockFault) → AtLine f (FirstIllClocked place seen all) → AtLine f (FirstIllClocked (case_place ds) schemes ds)
  file_refused (fault.IllClocked line) h = first_ill line.0 h
  file_refused fault.NoMemory h = tt
