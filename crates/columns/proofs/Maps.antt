-- A mapped list: its members, one cell of it set, and its front.
use Prim.Native.Nat.{ℕ, zero, suc}
use lib.ListN.{set, take}
use mathlib.Core.Path.{◌≡◌, refl, sym, ap, subst}
use mathlib.Core.Logic.{◌⊎◌, inl, inr, ⊎_elim}
use mathlib.Core.Bool.{Bool, true}
use mathlib.Core.List.Memᴰ
use mathlib.Core.List.{List, [], ◌∷◌, map}
use Rattle.columns.specs.Sets.{Mem, Ascending}

module _ {A B : Type 0} (f : A → B) where
  pub map_in : (l : List A) (x : A) → Mem x l → Mem (f x) (map f l)
  map_in [] x k = absurd (Memᴰ.not-nil k)
  map_in (y ∷ l) x k =
      ⊎_elim (λ (e : x ≡ y). Memᴰ.head (ap f e)) (λ (m : Mem x l). Memᴰ.tail (map_in l x m)) (Memᴰ.cases_cons k)

  pub map_out : (l : List A) (z : B) → Mem z (map f l) → (x : A) × Mem x l × (z ≡ f x)
  map_out [] z k = absurd (Memᴰ.not-nil k)
  map_out (y ∷ l) z k = go (λ m. map_out l z m) (Memᴰ.cases_cons k)
    where
      go : (Mem z (map f l) → (x : A) × Mem x l × (z ≡ f x)) → (z ≡ f y) ⊎ Mem z (map f l) → (x : A) × Mem x (y ∷ l) × (z ≡ f x)
      go more (inl e) = (y, Memᴰ.head refl, e)
      go more (inr m) = let r = more m in (r.0, Memᴰ.tail r.1, r.2)

  pub map_ascending :
      (la : A → A → Bool) (lb : B → B → Bool) (l : List A)
      → ((x y : A) → Mem x l → Mem y l → la x y ≡ true → lb (f x) (f y) ≡ true) → Ascending la l → Ascending lb (map f l)
  unfolding Ascending
  map_ascending la lb [] up a = tt
  map_ascending la lb (x ∷ l) up a = (
    λ z k.
        let r = map_out l z k in
        subst (λ (y : B). lb (f x) y ≡ true) (sym r.2)
        (up x r.0 (Memᴰ.head refl) (Memᴰ.tail r.1) (a.0 r.0 r.1)),
    map_ascending la lb l (λ x y h k. up x y (Memᴰ.tail h) (Memᴰ.tail k)) a.1,
  )

  pub map_alike : (g : A → B) (l : List A) → ((x : A) → Mem x l → f x ≡ g x) → map f l ≡ map g l
  map_alike g [] h = refl
  map_alike g (x ∷ l) h = rw (h x (Memᴰ.head refl), map_alike g l (λ y k. h y (Memᴰ.tail k)))

pub map-set : {A B : Type 0} (f : A → B) (l : List A) (i : ℕ) (v : A) → map f (set l i v) ≡ set (map f l) i (f v)
map-set f [] i v = refl
map-set f (x ∷ l) zero v = refl
map-set {B = B} f (x ∷ l) (suc i) v = ap (λ (t : List B). f x ∷ t) (map-set f l i v)

pub take-map : {A B : Type 0} (f : A → B) (n : ℕ) (l : List A) → take n (map f l) ≡ map f (take n l)
take-map f zero l = refl
take-map f (suc n) [] = refl
take-map {B = B} f (suc n) (x ∷ l) = ap (λ (t : List B). f x ∷ t) (take-map f n l)
