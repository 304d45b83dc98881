-- Lists that are given by index: their members, and that a list ascends exactly if each is above the one before.
use mathlib.Core.Path.{◌≡◌, ap, sym, subst, ◌∙◌}
use mathlib.Core.Logic.{⊎_elim}
use mathlib.Core.Bool.{Bool, true}
use mathlib.Core.List.Memᴰ
use mathlib.Core.List.{
  List,
  [],
  ◌∷◌,
  ◌++◌,
}
use Prim.Native.Nat.{ℕ, zero, suc, ◌-◌, ◌<◌}
use native.Mathlib.Omega.{arith}
use lib.ListN.{length, get_or}
use Rattle.columns.specs.Columns.{listed}
use Rattle.columns.specs.Sets.{Mem, Ascending}
use Rattle.columns.proofs.All.{top_or-below}
use Rattle.columns.proofs.Lists.{listed_cells}
use Rattle.columns.proofs.Orders.{Order}
use Rattle.columns.proofs.Sets.{here}

module _ {A : Type 0} where
  pub listed_in : (n : ℕ) (f : ℕ → A) (i : ℕ) → i < n → Mem (f i) (listed n f)
  unfolding listed
  listed_in zero f i h = absurd (omega arith)
  listed_in (suc n) f i h =
      ⊎_elim (λ (e : i ≡ n). Memᴰ.append_right (listed n f) (Memᴰ.head (ap f e)))
      (λ (l : i < n). Memᴰ.append_left (f n ∷ []) (listed_in n f i l)) (top_or-below h)

  pub record Place (n : ℕ) (f : ℕ → A) (x : A) : Type 0 where
    pub at : ℕ
    pub below : at < n
    pub same : x ≡ f at

  pub listed_out : (n : ℕ) (f : ℕ → A) (x : A) → Mem x (listed n f) → Place n f x
  unfolding listed
  listed_out zero f x m = absurd (Memᴰ.not-nil m)
  listed_out (suc n) f x m =
      ⊎_elim (λ (k : Mem x (listed n f)). let p = listed_out n f x k in
      record { at = p.at; below = omega (arith, p.below); same = p.same })
      (λ (k : Mem x (f n ∷ [])). record { at = n; below = omega arith; same = Memᴰ.eq_of_singleton k })
      (Memᴰ.append_cases (listed n f) m)

  module _ (lt : A → A → Bool) where
    -- each is above the one before
    abbrev pub Stepping : ℕ → (ℕ → A) → Type 0
    Stepping n f = (j : ℕ) → suc j < n → lt (f j) (f (suc j)) ≡ true

    -- each is above all before
    abbrev pub Rising : ℕ → (ℕ → A) → Type 0
    Rising n f = (i j : ℕ) → i < j → j < n → lt (f i) (f j) ≡ true

    pub rising_of : Order lt → (n : ℕ) (f : ℕ → A) → Stepping n f → Rising n f
    rising_of o n f s i zero h w = absurd (omega arith)
    rising_of o n f s i (suc j) h w =
        ⊎_elim (λ (e : i ≡ j). ap (λ (k : ℕ). lt (f k) (f (suc j))) e ∙ s j w)
        (λ (l : i < j). o.trans (f i) (f j) (f (suc j)) (rising_of o n f s i j l (omega arith)) (s j w)) (top_or-below h)

    pub snoc_ascending : (l : List A) (x : A) → Ascending lt l → ((z : A) → Mem z l → lt z x ≡ true) → Ascending lt (l ++ (x ∷ []))
    unfolding Ascending
    snoc_ascending [] x a h = (λ z m. absurd (Memᴰ.not-nil m), tt)
    snoc_ascending (y ∷ l) x a h = (
      λ z m.
          ⊎_elim (λ (k : Mem z l). a.0 z k) (λ (k : Mem z (x ∷ [])). ap (lt y) (Memᴰ.eq_of_singleton k) ∙ h y here)
          (Memᴰ.append_cases l m),
      snoc_ascending l x a.1 (λ z m. h z (Memᴰ.tail m)),
    )

    ascending_snoc : (l : List A) (x : A) → Ascending lt (l ++ (x ∷ [])) → Ascending lt l × ((z : A) → Mem z l → lt z x ≡ true)
    unfolding Ascending
    ascending_snoc [] x a = (tt, λ z m. absurd (Memᴰ.not-nil m))
    ascending_snoc (y ∷ l) x a = let r = ascending_snoc l x a.1 in (
      (λ z m. a.0 z (Memᴰ.append_left (x ∷ []) m), r.0),
      λ z m.
          ⊎_elim (λ (e : z ≡ y). ap (λ (w : A). lt w x) e ∙ a.0 x (Memᴰ.append_right l here)) (λ (k : Mem z l). r.1 z k)
          (Memᴰ.cases_cons m),
    )

    -- what each is below
    pub listed_below : (n : ℕ) (f : ℕ → A) (x : A) → ((i : ℕ) → i < n → lt (f i) x ≡ true) → (y : A) → Mem y (listed n f) → lt y x ≡ true
    listed_below n f x h y m = let p = listed_out n f y m in ap (λ (z : A). lt z x) p.same ∙ h p.at p.below

    -- they are below what the last of them is below
    pub below_last : Order lt → (n : ℕ) (f : ℕ → A) (x : A) → Rising n f → (0 < n → lt (f (n - 1)) x ≡ true)
        → (y : A) → Mem y (listed n f) → lt y x ≡ true
    below_last o n f x up h =
        listed_below n f x
        (λ i l.
        let w : 0 < n = omega (arith, l) in
        ⊎_elim (λ (e : i ≡ n - 1). ap (λ (k : ℕ). lt (f k) x) e ∙ h w)
        (λ (k : i < n - 1). o.trans (f i) (f (n - 1)) x (up i (n - 1) k (omega arith)) (h w)) (top_or-below (omega (arith, l))))

    pub ascending_of : (n : ℕ) (f : ℕ → A) → Rising n f → Ascending lt (listed n f)
    unfolding listed Ascending
    ascending_of zero f h = tt
    ascending_of (suc n) f h =
        snoc_ascending (listed n f) (f n) (ascending_of n f (λ i j a b. h i j a (omega arith)))
        (listed_below n f (f n) (λ i l. h i n l (omega arith)))

    pub of_ascending : (n : ℕ) (f : ℕ → A) → Ascending lt (listed n f) → Rising n f
    unfolding listed Ascending
    of_ascending zero f a i j h w = absurd (omega arith)
    of_ascending (suc n) f a i j h w =
        let r = ascending_snoc (listed n f) (f n) a in
        ⊎_elim (λ (e : j ≡ n). ap (λ (k : ℕ). lt (f i) (f k)) e ∙ r.1 (f i) (listed_in n f i (omega arith)))
        (λ (l : j < n). of_ascending n f r.0 i j h l) (top_or-below w)

-- by place
pub ascending_at : (lt : ℕ → ℕ → Bool) (l : List ℕ) → Ascending lt l → (i j : ℕ) → i < j → j < length l →
    lt (get_or l i 0) (get_or l j 0) ≡ true
ascending_at lt l a = of_ascending lt (length l) (λ k. get_or l k 0) (subst (Ascending lt) (sym (listed_cells l)) a)
