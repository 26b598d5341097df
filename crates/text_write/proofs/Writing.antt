-- Texts written one after the other.
use Rattle.std.specs.Prelude.{◌≡◌, refl, ℕ, ◌+◌, ◌≤◌, Bool, true, false, List, [], ◌++◌, length, Option, Some, None}
use Rattle.std.specs.Option.{option_map}
use Rattle.std.proofs.Common.{ap, sym, ◌∙◌, subst, arith, take, inl, inr, append_assoc, length-append}
use Rattle.std.proofs.lemmas.List.{append-nil, take-append-le}
use Rattle.std.proofs.Math.Seq.{take-append-add}
use Rattle.ls_base.specs.Outside.{Rose, WritesFront}
use Rattle.text_write.specs.Writes.{Prints}

writes_twice : (old mid new : Option (List ℕ)) (xs ys : List ℕ) → mid ≡ option_map (λ t. t ++ xs) old → new ≡ option_map (λ t. t ++ ys) mid
    → new ≡ option_map (λ t. t ++ (xs ++ ys)) old
writes_twice None mid new xs ys e f = f ∙ ap (option_map (λ t. t ++ ys)) e
writes_twice (Some text) mid new xs ys e f = f ∙ ap (option_map (λ t. t ++ ys)) e ∙ ap Some (append_assoc text xs ys)

front_after : (old mid new : Option (List ℕ)) (xs ys : List ℕ) → mid ≡ option_map (λ t. t ++ xs) old → WritesFront mid ys new → WritesFront old (xs ++ ys) new
front_after old mid new xs ys e f = (
  length xs + f.0,
  (let le = f.1 in omega (arith, length-append xs ys)),
  writes_twice old mid new xs (take f.0 ys) e f.2 ∙ ap (λ (zs : List ℕ). option_map (λ t. t ++ zs) old) (sym (take-append-add xs ys f.0)),
)

front_longer : (old new : Option (List ℕ)) (xs ys : List ℕ) → WritesFront old xs new → WritesFront old (xs ++ ys) new
front_longer old new xs ys f =
    (f.0, (let le = f.1 in omega (arith, length-append xs ys)), f.2 ∙ ap (λ (zs : List ℕ). option_map (λ t. t ++ zs) old) (sym (take-append-le f.0 xs ys f.1)))

rose_later : (a c e : ℕ) → a ≤ c → Rose c e → Rose a e
rose_later a c e le (inl lt) = inl (omega (arith, le, lt))
rose_later a c e le (inr most) = inr most

rose_on : (a c e : ℕ) → Rose a c → c ≤ e → Rose a e
rose_on a c e (inl lt) le = inl (omega (arith, le, lt))
rose_on a c e (inr most) le = inr (omega (arith, le, most))

same_text : (old : Option (List ℕ)) → old ≡ option_map (λ t. t ++ []) old
same_text None = refl
same_text (Some text) = ap Some (sym (append-nil text))

-- nothing is written yet
pub prints_none : (ok : Bool) (old : Option (List ℕ)) (n : ℕ) → Prints ok ok old old n n []
prints_none ok old n = record {
  whole = λ e. (e, same_text old);
  front = λ e. (0, omega arith, same_text old);
  none = λ e. (refl, e);
  rose = λ e f. absurd (cc);
  counted = omega arith;
}

-- one text after another
pub prints_more : (ok mid_ok done : Bool) (old mid new : Option (List ℕ)) (a c e : ℕ) (xs ys : List ℕ) → Prints ok mid_ok old mid a c xs → Prints mid_ok done mid new c e ys → Prints ok done old new a e (xs ++ ys)
prints_more ok true done old mid new a c e xs ys p q = record {
  whole = λ d. (
    (p.whole refl).0,
    writes_twice old mid new xs ys (p.whole refl).1 (q.whole d).1,
  );
  front = λ d. front_after old mid new xs ys (p.whole refl).1 (q.front refl);
  none = λ d. absurd (let f : true ≡ false = (p.none d).1 in cc);
  rose = λ d f. rose_later a c e p.counted (q.rose refl f);
  counted = (let l : a ≤ c = p.counted in let m : c ≤ e = q.counted in omega arith);
}
prints_more ok false done old mid new a c e xs ys p q = record {
  whole = λ d. absurd (let f : false ≡ true = (q.whole d).0 in cc);
  front = λ d. subst (λ z. WritesFront old (xs ++ ys) z) (sym (q.none refl).0) (front_longer old mid xs ys (p.front d));
  none = λ d. ((q.none refl).0 ∙ (p.none d).0, (q.none refl).1);
  rose = λ d f. rose_on a c e (p.rose d refl) q.counted;
  counted = (let l : a ≤ c = p.counted in let m : c ≤ e = q.counted in omega arith);
}

-- the text in other words
pub prints_as : (ok done : Bool) (old new : Option (List ℕ)) (a c : ℕ) (xs ys : List ℕ) → Prints ok done old new a c xs → ys ≡ xs → Prints ok done old new a c ys
prints_as ok done old new a c xs ys p is = subst (λ z. Prints ok done old new a c z) (sym is) p

-- what is written so far of a whole text, and what is left
pub record Halfway (ok so_far : Bool) (old now : Option (List ℕ)) (a c : ℕ) (left whole : List ℕ) : Type 0 where
  pub done : List ℕ
  pub prints : Prints ok so_far old now a c done
  pub split : done ++ left ≡ whole

pub halfway_start : (ok : Bool) (old : Option (List ℕ)) (n : ℕ) (whole : List ℕ) → Halfway ok ok old old n n whole whole
halfway_start ok old n whole = record { done = []; prints = prints_none ok old n; split = refl }

pub halfway_end : (ok so_far : Bool) (old now : Option (List ℕ)) (a c : ℕ) (left whole : List ℕ) → left ≡ [] → Halfway ok so_far old now a c left whole → Prints ok so_far old now a c whole
halfway_end ok so_far old now a c left whole none h = prints_as ok so_far old now a c h.done whole h.prints (sym h.split ∙ ap (λ z. h.done ++ z) none ∙ append-nil h.done)

-- one more text
pub halfway_more : (ok so_far next : Bool) (old now new : Option (List ℕ)) (a c e : ℕ) (xs left left' whole : List ℕ)
    → Prints so_far next now new c e xs → left ≡ xs ++ left' → Halfway ok so_far old now a c left whole → Halfway ok next old new a e left' whole
halfway_more ok so_far next old now new a c e xs left left' whole p is h = record {
  done = h.done ++ xs;
  prints = prints_more ok so_far next old now new a c e h.done xs h.prints p;
  split = append_assoc h.done xs left' ∙ ap (λ z. h.done ++ z) (sym is) ∙ h.split;
}

-- two more texts
pub halfway_twice : (ok so_far mid_ok next : Bool) (old now mid new : Option (List ℕ)) (a c e f : ℕ) (xs ys left left' whole : List ℕ)
    → Prints so_far mid_ok now mid c e xs → Prints mid_ok next mid new e f ys → left ≡ (xs ++ ys) ++ left' → Halfway ok so_far old now a c left whole → Halfway ok next old new a f left' whole
halfway_twice ok so_far mid_ok next old now mid new a c e f xs ys left left' whole p q is h =
    halfway_more ok so_far next old now new a c f (xs ++ ys) left left' whole (prints_more so_far mid_ok next now mid new c e f xs ys p q) is h
