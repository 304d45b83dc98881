-- Lists that a counting loop writes from the front, one list over another, zeros, and one cell set.
use mathlib.Core.Path.{◌≡◌, refl, sym, ap, ◌∙◌, ap₂}
use mathlib.Core.Logic.{⊎_elim}
use mathlib.Core.List.{List, [], ◌∷◌, ◌++◌, map, map-append, append-nil, append_assoc}
use Prim.Native.Nat.{ℕ, zero, suc, ◌+◌, ◌-◌, ◌≤◌, ◌<◌}
use native.Mathlib.Nat.{not-suc-le-zero, le_of_suc-le-suc}
use native.Mathlib.Numerals.{add-one}
use native.Mathlib.Omega.{arith}
use lib.ListN.{
  length,
  length-set,
  get_or,
  set,
  take,
  drop,
  replicate,
  length-replicate,
  length-append,
  length-drop,
  drop_of_length-le,
  replicate-append-replicate,
  get_or-append,
  get_or-replicate,
  get_or-eq_default,
}
use lib.Seq.{
  drop-cons,
  take-suc,
  set_at,
  append_snoc,
  take-length,
  take_at,
  drop_at,
  drop-drop,
  drop-append-add,
  length-take-le,
  get_or_at,
  get_or-append-add,
  get_or-drop,
  ext_get_or,
  get_or-set_same,
}
use Rattle.columns.specs.Columns.{listed, over, written, zeros, wiped}
use Rattle.columns.proofs.All.{top_or-below, lt-or-le}

pub length-listed : {A : Type 0} (n : ℕ) (f : ℕ → A) → length (listed n f) ≡ n
unfolding listed
length-listed zero f = refl
length-listed (suc n) f = length-append (listed n f) (f n ∷ []) ∙ omega (arith, length-listed n f)

-- ---- n cells written: `listed n f ++ drop n l`
pub paint_none : (f : ℕ → ℕ) (l : List ℕ) → l ≡ listed 0 f ++ drop 0 l
unfolding listed
paint_none f l = refl

pub paint_more : (f : ℕ → ℕ) (n : ℕ) (l x : List ℕ) → n < length l → x ≡ listed n f ++ drop n l → set x n (f n) ≡ listed (n + 1) f ++
    drop (n + 1) l
unfolding listed
paint_more f n l x h e =
    rw (add-one, e, drop-cons l n 0 h, set_at (listed n f) (get_or l n 0) (drop (suc n) l) (f n) n (length-listed n f))
    (sym (append_snoc (listed n f) (f n) (drop (suc n) l)))

-- the loop's invariant: i of n cells are written
abbrev pub Painted : (ℕ → ℕ) → ℕ → List ℕ → ℕ → List ℕ → Type 0
Painted f n l i x = (i ≤ n) × ((x ≡ listed i f ++ drop i l) × (length x ≡ length l))

pub painted_none : (f : ℕ → ℕ) (n : ℕ) (l : List ℕ) → Painted f n l 0 l
painted_none f n l = (omega arith, (paint_none f l, refl))

pub painted_more : (f : ℕ → ℕ) (n : ℕ) (l : List ℕ) (i : ℕ) (x : List ℕ) (v : ℕ) → n ≤ length l → i < n → v ≡ f i → Painted f n l i x →
    Painted f n l (i + 1) (set x i v)
painted_more f n l i x v h w e p =
    (omega arith, (ap (set x i) e ∙ paint_more f i l x (omega arith) p.1.0, length-set x i v ∙ p.1.1))

pub painted_done : (f : ℕ → ℕ) (n : ℕ) (l : List ℕ) (i : ℕ) (x m : List ℕ) → Painted f n l i x → n ≤ i → listed n f ≡ m → x ≡ over m l
unfolding over
painted_done f n l i x m p q h =
    let e : i ≡ n = omega arith in
    p.1.0 ∙ ap (λ (k : ℕ). listed k f ++ drop k l) e ∙ ap (λ (k : ℕ). listed n f ++ drop k l) (sym (length-listed n f)) ∙
    ap (λ (t : List ℕ). t ++ drop (length t) l) h

pub over-all : (m l : List ℕ) → length m ≡ length l → over m l ≡ m
unfolding over
over-all m l e = rw (drop_of_length-le l {i = length m} (omega arith)) (append-nil m)

pub length_over : (m l : List ℕ) → length m ≤ length l → length (over m l) ≡ length l
unfolding over
length_over m l h = length-append m (drop (length m) l) ∙ omega (arith, length-drop (length m) l)

pub take-over : (m l : List ℕ) → take (length m) (over m l) ≡ m
unfolding over
take-over m l = lib.Seq.take-append_seam m (drop (length m) l)

pub over_front : (m l : List ℕ) (i : ℕ) → i < length m → get_or (over m l) i 0 ≡ get_or m i 0
unfolding over
over_front m l i h = get_or-append m (drop (length m) l) 0 i h

-- what is written over the front is gone once a list no shorter is
pub over_again : (l m x : List ℕ) → length m ≤ length l → over l (over m x) ≡ over l x
unfolding over
over_again l m x h =
    let q : length l ≡ length m + (length l - length m) = omega arith in
    ap (λ (t : List ℕ). l ++ t)
    (ap (λ (n : ℕ). drop n (m ++ drop (length m) x)) q
    ∙ drop-append-add m (drop (length m) x) (length l - length m)
    ∙ drop-drop (length l - length m) (length m) x
    ∙ ap (λ (n : ℕ). drop n x) (sym q))

-- the first h cells of one list over another
module _ (h : ℕ) (m l x : List ℕ) (fits : h ≤ length m) (e : x ≡ over (take h m) l) where
  pub front_taken : take h x ≡ take h m
  unfolding over
  front_taken = ap (take h) e ∙ take_at (take h m) (drop (length (take h m)) l) h (length-take-le h m fits)

  pub back_kept : drop h x ≡ drop h l
  unfolding over
  back_kept = ap (drop h) e ∙ drop_at (take h m) (drop (length (take h m)) l) h (length-take-le h m fits) ∙
      ap (λ (n : ℕ). drop n l) (length-take-le h m fits)

-- the first h cells of x cleared, where the others are those of l
pub wiped_front : (h : ℕ) (l x z : List ℕ) → h ≤ length x → z ≡ zeros (length (take h x)) → drop h x ≡ drop h l → z ++ drop h x ≡ wiped h l
unfolding wiped over
wiped_front h l x z w e k = rw (e, k, length-take-le h x w, length-replicate {A = ℕ} h 0)

-- the front of zeros
pub take-zeros : (h n : ℕ) → h ≤ n → take h (zeros n) ≡ zeros h
take-zeros h n w =
    let q : n ≡ h + (n - h) = omega arith in
    ap (take h) (ap zeros q ∙ sym (replicate-append-replicate h (n - h) 0)) ∙
    take_at (zeros h) (zeros (n - h)) h (length-replicate {A = ℕ} h 0)

-- zeros stay zeros
pub wiped-zeros : (h n : ℕ) → h ≤ n → wiped h (zeros n) ≡ zeros n
unfolding wiped over
wiped-zeros h n w =
    let q : n ≡ h + (n - h) = omega arith in
    let r : zeros n ≡ zeros h ++ zeros (n - h) = ap zeros q ∙ sym (replicate-append-replicate h (n - h) 0) in
    let d : drop h (zeros n) ≡ zeros (n - h) = ap (drop h) r ∙ drop_at (zeros h) (zeros (n - h)) h (length-replicate {A = ℕ} h 0) in
    rw (length-replicate {A = ℕ} h 0, d) (sym r)

-- ---- what is listed
pub listed_const : (n v : ℕ) → listed n (λ _. v) ≡ replicate n v
unfolding listed
listed_const zero v = refl
listed_const (suc n) v = ap (λ (t : List ℕ). t ++ (v ∷ [])) (listed_const n v) ∙ replicate-append-replicate n 1 v ∙
    ap (λ (k : ℕ). replicate k v) (add-one n)

pub listed_cong : {A : Type 0} (n : ℕ) (f g : ℕ → A) → ((i : ℕ) → i < n → f i ≡ g i) → listed n f ≡ listed n g
unfolding listed
listed_cong zero f g h = refl
listed_cong (suc n) f g h = ap₂ (λ s t. s ++ (t ∷ [])) (listed_cong n f g (λ i w. h i (omega arith))) (h n (omega arith))

pub map-listed : {A B : Type 0} (f : A → B) (n : ℕ) (g : ℕ → A) → map f (listed n g) ≡ listed n (λ k. f (g k))
unfolding listed
map-listed f zero g = refl
map-listed f (suc n) g = map-append f (listed n g) (g n ∷ []) ∙ ap (λ t. t ++ (f (g n) ∷ [])) (map-listed f n g)

-- the first apart
pub listed_cons : {A : Type 0} (n : ℕ) (f : ℕ → A) → listed (suc n) f ≡ f 0 ∷ listed n (λ i. f (suc i))
unfolding listed
listed_cons zero f = refl
listed_cons (suc n) f = ap (λ t. t ++ (f (suc n) ∷ [])) (listed_cons n f)

pub listed-split : {A : Type 0} (m n : ℕ) (f : ℕ → A) → listed (m + n) f ≡ listed m f ++ listed n (λ i. f (m + i))
unfolding listed
listed-split m zero f = let e : m + 0 ≡ m = omega arith in ap (λ (k : ℕ). listed k f) e ∙ sym (append-nil (listed m f))
listed-split m (suc n) f =
    let e : m + suc n ≡ suc (m + n) = omega arith in
    ap (λ (k : ℕ). listed k f) e
    ∙ ap (λ t. t ++ (f (m + n) ∷ [])) (listed-split m n f)
    ∙ append_assoc (listed m f) (listed n (λ i. f (m + i))) (f (m + n) ∷ [])

-- lists given by index are the same exactly if their values are
pub listed_same : {A : Type 0} (f g : ℕ → A) (n : ℕ) → listed n f ≡ listed n g → (i : ℕ) → i < n → f i ≡ g i
unfolding listed
listed_same f g zero e i l = absurd (omega arith)
listed_same {A} f g (suc n) e i l =
    ⊎_elim
    (λ (z : i ≡ n).
    let d : ◌≡◌ {A = List A} (f n ∷ []) (g n ∷ [])
    = sym (drop_at (listed n f) (f n ∷ []) n (length-listed n f)) ∙ ap (drop n) e
    ∙ drop_at (listed n g) (g n ∷ []) n (length-listed n g) in
    let c : f n ≡ g n = cc in
    rw z c)
    (λ (w : i < n).
    listed_same f g n
    (sym (take_at (listed n f) (f n ∷ []) n (length-listed n f)) ∙ ap (take n) e
    ∙ take_at (listed n g) (g n ∷ []) n (length-listed n g)) i w)
    (top_or-below l)

-- a list that is given by index, in two parts
module _ {A : Type 0} (l m : List A) (f : ℕ → A) (e : listed (length (l ++ m)) f ≡ l ++ m) where
  both : listed (length l) f ++ listed (length m) (λ k. f (length l + k)) ≡ l ++ m
  both = sym (listed-split (length l) (length m) f) ∙ ap (λ (k : ℕ). listed k f) (sym (length-append l m)) ∙ e

  pub listed-left : listed (length l) f ≡ l
  listed-left =
      sym (take_at (listed (length l) f) (listed (length m) (λ k. f (length l + k))) (length l) (length-listed (length l) f))
      ∙ ap (take (length l)) both
      ∙ take_at l m (length l) refl

  pub listed_right : listed (length m) (λ k. f (length l + k)) ≡ m
  listed_right =
      sym (drop_at (listed (length l) f) (listed (length m) (λ k. f (length l + k))) (length l) (length-listed (length l) f))
      ∙ ap (drop (length l)) both
      ∙ drop_at l m (length l) refl

-- the first cells of a column
pub listed-take : (n : ℕ) (l : List ℕ) → n ≤ length l → listed n (λ k. get_or l k 0) ≡ take n l
unfolding listed
listed-take zero l h = refl
listed-take (suc n) l h = ap (λ (t : List ℕ). t ++ (get_or l n 0 ∷ [])) (listed-take n l (omega arith)) ∙ sym (take-suc l n 0 h)

pub listed_cells : (l : List ℕ) → listed (length l) (λ k. get_or l k 0) ≡ l
listed_cells l = listed-take (length l) l (omega arith) ∙ take-length l

pub listed-map : (f : ℕ → ℕ) (l : List ℕ) → listed (length l) (λ k. f (get_or l k 0)) ≡ map f l
listed-map f l = sym (map-listed f (length l) (λ k. get_or l k 0)) ∙ ap (map f) (listed_cells l)

-- ---- cells
pub get_d_any : (l : List ℕ) (i d e : ℕ) → i < length l → get_or l i d ≡ get_or l i e
get_d_any [] i d e h = absurd (not-suc-le-zero h)
get_d_any (x ∷ l) zero d e h = refl
get_d_any (x ∷ l) (suc i) d e h = get_d_any l i d e (le_of_suc-le-suc h)

-- ---- cells of what is listed and of what is written
pub listed_at : (n : ℕ) (f : ℕ → ℕ) (i : ℕ) → i < n → get_or (listed n f) i 0 ≡ f i
unfolding listed
listed_at zero f i h = absurd (not-suc-le-zero h)
listed_at (suc n) f i h =
    ⊎_elim (λ (e : i ≡ n). rw e (get_or_at (listed n f) (f n) [] 0 n (length-listed n f)))
    (λ (l : i < n). get_or-append (listed n f) (f n ∷ []) 0 i (rw (length-listed n f) l) ∙ listed_at n f i l) (top_or-below h)

module _ (n : ℕ) (f : ℕ → ℕ) (l : List ℕ) where
  pub length-written : n ≤ length l → length (written n f l) ≡ length l
  unfolding written
  length-written h = length_over (listed n f) l (omega (arith, length-listed n f))

  pub written_at : (k : ℕ) → k < n → get_or (written n f l) k 0 ≡ f k
  unfolding written over
  written_at k w = get_or-append (listed n f) (drop (length (listed n f)) l) 0 k (rw (length-listed n f) w) ∙ listed_at n f k w

  pub written_after : (k : ℕ) → n ≤ k → get_or (written n f l) k 0 ≡ get_or l k 0
  unfolding written over
  written_after k w =
      let q : k ≡ length (listed n f) + (k - n) = omega (arith, length-listed n f) in
      ap (λ (x : ℕ). get_or (listed n f ++ drop (length (listed n f)) l) x 0) q
      ∙ get_or-append-add (listed n f) (drop (length (listed n f)) l) (k - n) 0
      ∙ get_or-drop (length (listed n f)) l (k - n) 0
      ∙ ap (λ (x : ℕ). get_or l x 0) (sym q)

  -- the front of a column lent and come back as what is listed
  pub front_written : (x : List ℕ) → n ≤ length l → x ≡ listed (length (take n l)) f → x ++ drop n l ≡ written n f l
  unfolding written over
  front_written x h e = rw (e, length-take-le n l h, length-listed n f)

-- a cell that the loop has not come to yet is as it was
pub painted_rest : (f : ℕ → ℕ) (n : ℕ) (l : List ℕ) (i : ℕ) (x : List ℕ) → Painted f n l i x → get_or x i 0 ≡ get_or l i 0
unfolding written over
painted_rest f n l i x p =
    ap (λ (y : List ℕ). get_or y i 0) p.1.0
    ∙ sym (ap (λ (k : ℕ). get_or (listed i f ++ drop k l) i 0) (length-listed i f))
    ∙ written_after i f l i (omega arith)

-- ---- cells that are all zero
pub zeros_of : (l : List ℕ) → ((k : ℕ) → get_or l k 0 ≡ 0) → l ≡ zeros (length l)
zeros_of l h =
    ext_get_or 0 l (zeros (length l)) (sym (length-replicate {A = ℕ} (length l) 0)) (λ k w. h k ∙ sym (get_or-replicate (length l) k 0 0 w))

pub still_zeros : (l : List ℕ) (n : ℕ) → l ≡ zeros n → l ≡ zeros (length l)
still_zeros l n e = e ∙ ap zeros (sym (ap length e ∙ length-replicate {A = ℕ} n 0))

pub zeros_at : (n k : ℕ) → get_or (zeros n) k 0 ≡ 0
zeros_at n k =
    ⊎_elim (λ (w : k < n). get_or-replicate n k 0 0 w)
    (λ (w : n ≤ k). get_or-eq_default (zeros n) 0 (omega (arith, length-replicate {A = ℕ} n 0)))
    (lt-or-le k n)

-- the first h cells cleared, where the others are zero already
pub front_zeros : (h : ℕ) (x z : List ℕ) → h ≤ length x → z ≡ zeros (length (take h x)) → ((k : ℕ) → h ≤ k → get_or x k 0 ≡ 0) → z ++
    drop h x ≡ zeros (length x)
front_zeros h x z w e r =
    let d : drop h x ≡ zeros (length x - h)
    = zeros_of (drop h x) (λ k. get_or-drop h x k 0 ∙ r (h + k) (omega arith)) ∙ ap zeros (length-drop h x) in
    rw (e, length-take-le h x w, d) (replicate-append-replicate h (length x - h) 0 ∙ ap zeros (whole w))
  where
    whole : {h n : ℕ} → h ≤ n → h + (n - h) ≡ n
    whole l = omega arith

-- cells that are as they were, and were zero
pub tail_zero : (h : ℕ) (l m : List ℕ) → drop h l ≡ drop h m → ((k : ℕ) → get_or m k 0 ≡ 0) → (k : ℕ) → h ≤ k → get_or l k 0 ≡ 0
tail_zero h l m e z k w =
    let q : k ≡ h + (k - h) = omega arith in
    ap (λ (y : ℕ). get_or l y 0) q ∙ sym (get_or-drop h l (k - h) 0) ∙ ap (λ (x : List ℕ). get_or x (k - h) 0) e ∙ get_or-drop h m (k - h) 0 ∙
    z (h + (k - h))

pub set_here : (l : List ℕ) (i x k : ℕ) → i < length l → k ≡ i → get_or (set l i x) k 0 ≡ x
set_here l i x k h e = ap (λ (j : ℕ). get_or (set l i x) j 0) e ∙ get_or-set_same l i x 0 h

-- cells behind what is written over the front
pub over-after : (l m : List ℕ) (i : ℕ) → length l ≤ i → get_or (over l m) i 0 ≡ get_or m i 0
unfolding written
over-after l m i h =
    ap (λ (x : List ℕ). get_or (over x m) i 0) (sym (listed_cells l)) ∙ written_after (length l) (λ k. get_or l k 0) m i h
