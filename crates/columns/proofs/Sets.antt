-- Ascending lists as sets: who is a member, and that a set has one list.
use mathlib.Core.Path.{◌≡◌, refl, sym, ap₂}
use mathlib.Core.Logic.{◌⊎◌, inl, inr}
use mathlib.Core.Bool.{Bool, true, false, cond, ◌||◌}
use mathlib.Core.List.Memᴰ
use mathlib.Core.List.{List, [], ◌∷◌}
use lib.Dec.{eqb}
use Rattle.columns.specs.Sets.{Mem, among, insert, collect, add_all, gather, Ascending, same, Pair, pair_eq, Row}
use borrow.Author.Tests.{eqb-true, eq-eqb}
use Rattle.columns.proofs.Bools.{contra, and_left, and_right, and_both, or_split, or_left, or_right}
use Rattle.columns.proofs.Orders.{Order, asym}
use Prim.Native.Nat.{ℕ}

pub here : {A : Type 0} {x : A} {xs : List A} → Mem x (x ∷ xs)
here = Memᴰ.head refl

pub no_members : {A : Type 0} (l : List A) → ((x : A) → Mem x l → ⊥) → l ≡ []
no_members [] f = refl
no_members (x ∷ l) f = absurd (f x here)

module _ {A : Type 0} (lt : A → A → Bool) (o : Order lt) where
  -- ---- insert
  pub insert_new : (x : A) (l : List A) → Mem x (insert lt x l)
  unfolding insert
  insert_new x [] = here
  insert_new x (y ∷ ys) = go (insert_new x ys) (lt x y) (lt y x) refl refl
    where
      go : Mem x (insert lt x ys) → (b c : Bool) → lt x y ≡ b → lt y x ≡ c →
          Mem x (cond b (x ∷ y ∷ ys) (cond c (y ∷ insert lt x ys) (y ∷ ys)))
      go m true c p q = here
      go m false true p q = Memᴰ.tail m
      go m false false p q = Memᴰ.head (o.total x y p q)

  pub insert_old : (x z : A) (l : List A) → Mem z l → Mem z (insert lt x l)
  unfolding insert
  insert_old x z [] m = Memᴰ.tail m
  insert_old x z (y ∷ ys) m = go (insert_old x z ys) (lt x y) (lt y x) (Memᴰ.cases_cons m)
    where
      go : (Mem z ys → Mem z (insert lt x ys)) → (b c : Bool) → (z ≡ y) ⊎ Mem z ys →
          Mem z (cond b (x ∷ y ∷ ys) (cond c (y ∷ insert lt x ys) (y ∷ ys)))
      go f true c k = Memᴰ.tail m
      go f false true (inl e) = Memᴰ.head e
      go f false true (inr k) = Memᴰ.tail (f k)
      go f false false k = m

  pub insert_split : (x z : A) (l : List A) → Mem z (insert lt x l) → (z ≡ x) ⊎ Mem z l
  unfolding insert
  insert_split x z [] m = Memᴰ.cases_cons m
  insert_split x z (y ∷ ys) m = go (insert_split x z ys) (lt x y) (lt y x) m
    where
      up : (z ≡ x) ⊎ Mem z ys → (z ≡ x) ⊎ Mem z (y ∷ ys)
      up (inl e) = inl e
      up (inr k) = inr (Memᴰ.tail k)

      deep : (Mem z (insert lt x ys) → (z ≡ x) ⊎ Mem z ys) → (z ≡ y) ⊎ Mem z (insert lt x ys) → (z ≡ x) ⊎ Mem z (y ∷ ys)
      deep f (inl e) = inr (Memᴰ.head e)
      deep f (inr k) = up (f k)

      go : (Mem z (insert lt x ys) → (z ≡ x) ⊎ Mem z ys) → (b c : Bool) → Mem z (cond b (x ∷ y ∷ ys) (cond c (y ∷ insert lt x ys) (y ∷ ys)))
          → (z ≡ x) ⊎ Mem z (y ∷ ys)
      go f true c m = Memᴰ.cases_cons m
      go f false true m = deep f (Memᴰ.cases_cons m)
      go f false false m = inr m

  pub insert_ascending : (x : A) (l : List A) → Ascending lt l → Ascending lt (insert lt x l)
  unfolding insert Ascending
  insert_ascending x [] a = (λ y m. absurd (Memᴰ.not-nil m), tt)
  insert_ascending x (y ∷ ys) a = go (insert_ascending x ys a.1) (lt x y) (lt y x) refl refl
    where
      above : lt x y ≡ true → (z : A) → (z ≡ y) ⊎ Mem z ys → lt x z ≡ true
      above p z (inl e) = rw e p
      above p z (inr k) = o.trans x y z p (a.0 z k)

      after : lt y x ≡ true → (z : A) → (z ≡ x) ⊎ Mem z ys → lt y z ≡ true
      after q z (inl e) = rw e q
      after q z (inr k) = a.0 z k

      go : Ascending lt (insert lt x ys) → (b c : Bool) → lt x y ≡ b → lt y x ≡ c →
          Ascending lt (cond b (x ∷ y ∷ ys) (cond c (y ∷ insert lt x ys) (y ∷ ys)))
      go i true c p q = (λ z m. above p z (Memᴰ.cases_cons m), a)
      go i false true p q = (λ z m. after q z (insert_split x z ys m), i)
      go i false false p q = a

  -- ---- a set has one ascending list
  pub ascending_unique : (l m : List A) → Ascending lt l → Ascending lt m → ((z : A) → Mem z l → Mem z m) → ((z : A) → Mem z m → Mem z l) →
      l ≡ m
  unfolding Ascending
  ascending_unique [] [] a b f g = refl
  ascending_unique [] (y ∷ ys) a b f g = absurd (Memᴰ.not-nil (g y here))
  ascending_unique (x ∷ xs) [] a b f g = absurd (Memᴰ.not-nil (f x here))
  ascending_unique (x ∷ xs) (y ∷ ys) a b f g = ap₂ ◌∷◌ heads (ascending_unique xs ys a.1 b.1 left right)
    where
      pick : (x ≡ y) ⊎ Mem x ys → (y ≡ x) ⊎ Mem y xs → x ≡ y
      pick (inl e) k = e
      pick (inr k) (inl e) = sym e
      pick (inr k) (inr j) = absurd (contra (a.0 y j) (asym o y x (b.0 x k)))

      heads : x ≡ y
      heads = pick (Memᴰ.cases_cons (f x here)) (Memᴰ.cases_cons (g y here))

      left : (z : A) → Mem z xs → Mem z ys
      left z m = go (Memᴰ.cases_cons (f z (Memᴰ.tail m)))
        where
          go : (z ≡ y) ⊎ Mem z ys → Mem z ys
          go (inl e) = absurd (contra (a.0 z m) (rw (e, heads) (o.irrefl y)))
          go (inr k) = k

      right : (z : A) → Mem z ys → Mem z xs
      right z m = go (Memᴰ.cases_cons (g z (Memᴰ.tail m)))
        where
          go : (z ≡ x) ⊎ Mem z xs → Mem z xs
          go (inl e) = absurd (contra (b.0 z m) (rw (e, heads) (o.irrefl y)))
          go (inr k) = k

  -- one that is there already
  pub insert_there : (x : A) (l : List A) → Ascending lt l → Mem x l → insert lt x l ≡ l
  insert_there x l a m =
      ascending_unique (insert lt x l) l (insert_ascending x l a) a (λ z k. go z (insert_split x z l k)) (λ z k. insert_old x z l k)
    where
      go : (z : A) → (z ≡ x) ⊎ Mem z l → Mem z l
      go z (inl e) = rw e m
      go z (inr i) = i

  -- ---- collect
  module _ {R : Type 0} (p : R → Bool) (g : R → A) where
    pub collect_ascending : (rs : List R) → Ascending lt (collect lt p g rs)
    unfolding collect Ascending
    collect_ascending [] = tt
    collect_ascending (r ∷ rs) = go (collect_ascending rs) (p r)
      where
        go : Ascending lt (collect lt p g rs) → (b : Bool) → Ascending lt (cond b (insert lt (g r) (collect lt p g rs)) (collect lt p g rs))
        go a true = insert_ascending (g r) (collect lt p g rs) a
        go a false = a

    pub collect_in : (rs : List R) (r : R) → Mem r rs → p r ≡ true → Mem (g r) (collect lt p g rs)
    unfolding collect
    collect_in [] r m h = absurd (Memᴰ.not-nil m)
    collect_in (x ∷ rs) r m h = go (collect_in rs r) (Memᴰ.cases_cons m)
      where
        keep : (b : Bool) → Mem (g r) (collect lt p g rs) → Mem (g r) (cond b (insert lt (g x) (collect lt p g rs)) (collect lt p g rs))
        keep true k = insert_old (g x) (g r) (collect lt p g rs) k
        keep false k = k

        go : (Mem r rs → p r ≡ true → Mem (g r) (collect lt p g rs)) → (r ≡ x) ⊎ Mem r rs →
            Mem (g r) (cond (p x) (insert lt (g x) (collect lt p g rs)) (collect lt p g rs))
        go f (inl e) = rw (← e, h) (insert_new (g r) (collect lt p g rs))
        go f (inr k) = keep (p x) (f k h)

    pub collect_out : (rs : List R) (z : A) → Mem z (collect lt p g rs) → (r : R) × Mem r rs × (p r ≡ true) × (z ≡ g r)
    unfolding collect
    collect_out [] z m = absurd (Memᴰ.not-nil m)
    collect_out (x ∷ rs) z m = go (collect_out rs z) (p x) refl m
      where
        Found : Type 0
        Found = (r : R) × Mem r (x ∷ rs) × (p r ≡ true) × (z ≡ g r)

        up : (r : R) × Mem r rs × (p r ≡ true) × (z ≡ g r) → Found
        up t = (t.0, Memᴰ.tail t.1, t.2, t.3)

        go : (Mem z (collect lt p g rs) → (r : R) × Mem r rs × (p r ≡ true) × (z ≡ g r)) → (b : Bool) → p x ≡ b
            → Mem z (cond b (insert lt (g x) (collect lt p g rs)) (collect lt p g rs)) → Found
        go f true h m = split (insert_split (g x) z (collect lt p g rs) m)
          where
            split : (z ≡ g x) ⊎ Mem z (collect lt p g rs) → Found
            split (inl e) = (x, here, h, e)
            split (inr k) = up (f k)
        go f false h m = up (f m)

  -- ---- add_all
  pub add_all_left : (z : A) (l m : List A) → Mem z l → Mem z (add_all lt l m)
  unfolding add_all
  add_all_left z [] m k = absurd (Memᴰ.not-nil k)
  add_all_left z (x ∷ xs) m k = go (add_all_left z xs m) (Memᴰ.cases_cons k)
    where
      go : (Mem z xs → Mem z (add_all lt xs m)) → (z ≡ x) ⊎ Mem z xs → Mem z (insert lt x (add_all lt xs m))
      go f (inl e) = rw e (insert_new x (add_all lt xs m))
      go f (inr i) = insert_old x z (add_all lt xs m) (f i)

  pub add_all_right : (z : A) (l m : List A) → Mem z m → Mem z (add_all lt l m)
  unfolding add_all
  add_all_right z [] m k = k
  add_all_right z (x ∷ xs) m k = insert_old x z (add_all lt xs m) (add_all_right z xs m k)

  pub add_all_split : (z : A) (l m : List A) → Mem z (add_all lt l m) → Mem z l ⊎ Mem z m
  unfolding add_all
  add_all_split z [] m k = inr k
  add_all_split z (x ∷ xs) m k = go (add_all_split z xs m) (insert_split x z (add_all lt xs m) k)
    where
      up : Mem z xs ⊎ Mem z m → Mem z (x ∷ xs) ⊎ Mem z m
      up (inl i) = inl (Memᴰ.tail i)
      up (inr i) = inr i

      go : (Mem z (add_all lt xs m) → Mem z xs ⊎ Mem z m) → (z ≡ x) ⊎ Mem z (add_all lt xs m) → Mem z (x ∷ xs) ⊎ Mem z m
      go f (inl e) = inl (Memᴰ.head e)
      go f (inr i) = up (f i)

  pub add_all_ascending : (l m : List A) → Ascending lt m → Ascending lt (add_all lt l m)
  unfolding add_all
  add_all_ascending [] m a = a
  add_all_ascending (x ∷ xs) m a = insert_ascending x (add_all lt xs m) (add_all_ascending xs m a)

  -- ---- gather
  module _ {R : Type 0} (g : R → List A) where
    pub gather_ascending : (rs : List R) → Ascending lt (gather lt g rs)
    unfolding gather Ascending
    gather_ascending [] = tt
    gather_ascending (r ∷ rs) = add_all_ascending (g r) (gather lt g rs) (gather_ascending rs)

    pub gather_in : (rs : List R) (r : R) (z : A) → Mem r rs → Mem z (g r) → Mem z (gather lt g rs)
    unfolding gather
    gather_in [] r z m k = absurd (Memᴰ.not-nil m)
    gather_in (x ∷ rs) r z m k = go (gather_in rs r z) (Memᴰ.cases_cons m)
      where
        go : (Mem r rs → Mem z (g r) → Mem z (gather lt g rs)) → (r ≡ x) ⊎ Mem r rs → Mem z (add_all lt (g x) (gather lt g rs))
        go f (inl e) = add_all_left z (g x) (gather lt g rs) (rw e at k)
        go f (inr i) = add_all_right z (g x) (gather lt g rs) (f i k)

    pub gather_out : (rs : List R) (z : A) → Mem z (gather lt g rs) → (r : R) × Mem r rs × Mem z (g r)
    unfolding gather
    gather_out [] z m = absurd (Memᴰ.not-nil m)
    gather_out (x ∷ rs) z m = go (gather_out rs z) (add_all_split z (g x) (gather lt g rs) m)
      where
        go : (Mem z (gather lt g rs) → (r : R) × Mem r rs × Mem z (g r)) → Mem z (g x) ⊎ Mem z (gather lt g rs) → (r : R) × Mem r (x ∷ rs) ×
            Mem z (g r)
        go f (inl i) = (x, here, i)
        go f (inr i) = let t = f i in (t.0, Memᴰ.tail t.1, t.2)

-- ---- the tests
pub among_in : {A : Type 0} (eq : A → A → Bool) → ((x : A) → eq x x ≡ true) → (x : A) (l : List A) → Mem x l → among eq x l ≡ true
unfolding among
among_in eq r x [] m = absurd (Memᴰ.not-nil m)
among_in eq r x (y ∷ l) m = go (among_in eq r x l) (Memᴰ.cases_cons m)
  where
    go : (Mem x l → among eq x l ≡ true) → (x ≡ y) ⊎ Mem x l → (eq x y || among eq x l) ≡ true
    go f (inl e) = or_left (eq x y) (among eq x l) (rw e (r y))
    go f (inr k) = or_right (eq x y) (among eq x l) (f k)

pub among_out : {A : Type 0} (eq : A → A → Bool) → ((x y : A) → eq x y ≡ true → x ≡ y) → (x : A) (l : List A) → among eq x l ≡ true →
    Mem x l
unfolding among
among_out eq sound x [] h = absurd (contra h refl)
among_out eq sound x (y ∷ l) h = go (among_out eq sound x l) (or_split (eq x y) (among eq x l) h)
  where
    go : (among eq x l ≡ true → Mem x l) → (eq x y ≡ true) ⊎ (among eq x l ≡ true) → Mem x (y ∷ l)
    go f (inl e) = Memᴰ.head (sound x y e)
    go f (inr e) = Memᴰ.tail (f e)

pub same_eq : {A : Type 0} (eq : A → A → Bool) (sound : (x y : A) → eq x y ≡ true → x ≡ y) (l m : List A) → same eq l m ≡ true → l ≡ m
unfolding same
same_eq eq sound [] [] h = refl
same_eq eq sound [] (y ∷ ys) h = absurd (contra h refl)
same_eq eq sound (x ∷ xs) [] h = absurd (contra h refl)
same_eq eq sound (x ∷ xs) (y ∷ ys) h =
    ap₂ ◌∷◌ (sound x y (and_left (eq x y) (same eq xs ys) h)) (same_eq eq sound xs ys (and_right (eq x y) (same eq xs ys) h))

pub same_refl : {A : Type 0} (eq : A → A → Bool) (r : (x : A) → eq x x ≡ true) (l : List A) → same eq l l ≡ true
unfolding same
same_refl eq r [] = refl
same_refl eq r (x ∷ xs) = and_both (r x) (same_refl eq r xs)

pub same_row : {a b c a' b' c' : ℕ} → a ≡ a' → b ≡ b' → c ≡ c' → ◌≡◌ {A = Row} (a, (b, c)) (a', (b', c'))
same_row p q r = cc

pub pair_eq_eq : (x y : Pair) → pair_eq x y ≡ true → x ≡ y
unfolding pair_eq
pair_eq_eq x y h = λ i. (
  eqb-true x.0 y.0 (and_left _ (eqb x.1 y.1) h) i,
  eqb-true x.1 y.1 (and_right (eqb x.0 y.0) _ h) i,
)

pub pair_eq_refl : (x : Pair) → pair_eq x x ≡ true
unfolding pair_eq
pair_eq_refl x = and_both (eq-eqb x.0 x.0 refl) (eq-eqb x.1 x.1 refl)

-- tests and values that agree on a list collect the same set
pub collect_alike :
    {A R : Type 0} (lt : A → A → Bool) (p q : R → Bool) (f g : R → A) (l : List R)
    → ((r : R) → Mem r l → (p r ≡ q r) × (f r ≡ g r)) → collect lt p f l ≡ collect lt q g l
unfolding collect
collect_alike lt p q f g [] h = refl
collect_alike lt p q f g (r ∷ l) h =
    let e = h r (Memᴰ.head refl) in
    let m = collect_alike lt p q f g l (λ x k. h x (Memᴰ.tail k)) in
    rw (e.0, e.1, m)
