-- The lists that the members of a list give, one after the other: who is a member, and how long they are together.
use Prim.Native.Nat.{ℕ, zero, suc, ◌+◌}
use native.Mathlib.Omega.{arith}
use mathlib.Core.Path.{◌≡◌, refl, ap, sym, ◌∙◌}
use mathlib.Core.Logic.{⊎_elim}
use mathlib.Core.Bool.{Bool, true, false, cond}
use mathlib.Core.List.Memᴰ
use mathlib.Core.List.{
  List,
  [],
  ◌∷◌,
  ◌++◌,
  map,
  flat_map,
  append-nil,
  append_assoc,
}
use lib.ListN.{length, get_or, length-append}
use Rattle.columns.specs.Counting.{sum, members}
use Rattle.columns.specs.Sets.{Mem}
use Rattle.columns.proofs.Sets.{here}
use Rattle.columns.proofs.Sums.{sum_first}

module _ {A B : Type 0} (f : A → List B) where
  pub flat_in : (l : List A) (x : A) (z : B) → Mem x l → Mem z (f x) → Mem z (flat_map f l)
  unfolding flat_map
  flat_in [] x z m k = absurd (Memᴰ.not-nil m)
  flat_in (y ∷ l) x z m k =
      ⊎_elim (λ (e : x ≡ y). Memᴰ.append_left (flat_map f l) (rw e at k)) (λ (w : Mem x l). Memᴰ.append_right (f y) (flat_in l x z w k))
      (Memᴰ.cases_cons m)

  pub flat_out : (l : List A) (z : B) → Mem z (flat_map f l) → (x : A) × Mem x l × Mem z (f x)
  unfolding flat_map
  flat_out [] z m = absurd (Memᴰ.not-nil m)
  flat_out (y ∷ l) z m =
      ⊎_elim (λ (k : Mem z (f y)). (y, here, k)) (λ (k : Mem z (flat_map f l)). let r =
      flat_out l z k in (r.0, Memᴰ.tail r.1, r.2))
      (Memᴰ.append_cases (f y) m)

  pub flat_append : (l m : List A) → flat_map f (l ++ m) ≡ flat_map f l ++ flat_map f m
  unfolding flat_map
  flat_append [] m = refl
  flat_append (x ∷ l) m = ap (λ (t : List B). f x ++ t) (flat_append l m) ∙ sym (append_assoc (f x) (flat_map f l) (flat_map f m))

  pub flat_one : (x : A) → flat_map f (x ∷ []) ≡ f x
  unfolding flat_map
  flat_one x = append-nil (f x)

  pub flat-map : {C : Type 0} (g : C → A) (l : List C) → flat_map f (map g l) ≡ flat_map (λ c. f (g c)) l
  unfolding flat_map
  flat-map g [] = refl
  flat-map g (c ∷ l) = ap (λ (t : List B). f (g c) ++ t) (flat-map g l)

module _ {B : Type 0} (f : ℕ → List B) where
  -- how long: by the places of a list
  pub length-flat : (l : List ℕ) → length (flat_map f l) ≡ sum (λ j. length (f (get_or l j 0))) (length l)
  unfolding flat_map sum
  length-flat [] = refl
  length-flat (x ∷ l) =
      length-append (f x) (flat_map f l)
      ∙ ap (λ (n : ℕ). length (f x) + n) (length-flat l)
      ∙ sym (sum_first (λ j. length (f (get_or (x ∷ l) j 0))) (length l))

  -- how long: by the numbers that pass
  pub length-flat-members : (p : ℕ → Bool) (n : ℕ) → length (flat_map f (members n p)) ≡ sum (λ i. cond (p i) (length (f i)) 0) n
  unfolding members sum flat_map
  length-flat-members p zero = refl
  length-flat-members p (suc n) = go (length-flat-members p n) (p n)
    where
      go : length (flat_map f (members n p)) ≡ sum (λ i. cond (p i) (length (f i)) 0) n → (b : Bool)
          → length (flat_map f (members n p ++ cond b (n ∷ []) [])) ≡ sum (λ i. cond (p i) (length (f i)) 0) n + cond b (length (f n)) 0
      go h true =
          ap length (flat_append f (members n p) (n ∷ []) ∙ ap (λ (t : List B). flat_map f (members n p) ++ t) (flat_one f n))
          ∙ length-append (flat_map f (members n p)) (f n)
          ∙ omega (arith, h)
      go h false = ap (λ (l : List ℕ). length (flat_map f l)) (append-nil (members n p)) ∙ omega (arith, h)
