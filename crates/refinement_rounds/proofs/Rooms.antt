-- Work slices in two parts, n + 1 cells and those behind them: what is left of each when the other is lent.
use Rattle.std.specs.Prelude.{◌≡◌, ℕ, ◌+◌, ◌-◌, ◌<◌, ◌≤◌, List, ◌++◌, length, get_or, take, drop}
use mathlib.Core.Path.{sym, ap, ap₂, ◌∙◌}
use native.Mathlib.Omega.{arith}
use borrow.Rule.Slice.PartMut.{put_mid}
use lib.ListN.{length-append, length-drop, length-replicate, take-append-drop, get_or-append}
use lib.Seq.{drop_at, get_or-take, length-take-le}
use Rattle.columns.specs.Columns.{zeros}
use Rattle.columns.proofs.Parts.{part_end, put_end}
use Rattle.partition.specs.Partition.{Partition, Sound, reordered}
use Rattle.partition.proofs.Changed.{order_sound}
use Rattle.refinement_rounds.specs.Rooms.{ClearFront, store_behind}
use Rattle.refinement_signing.specs.Stored.{store}

-- ---- the front lent
module _ (n : ℕ) (l : List ℕ) (z : ClearFront n l) where
  pub front_length : length (take (n + 1) l) ≡ n + 1
  front_length = ap length z ∙ length-replicate {A = ℕ} (n + 1) 0

  pub front_fits : n + 1 ≤ length l
  front_fits =
      omega (arith, front_length, ap length (take-append-drop (n + 1) l), length-append (take (n + 1) l) (drop (n + 1) l))

  pub front_clear : take (n + 1) l ≡ zeros (length (take (n + 1) l))
  front_clear = z ∙ ap zeros (sym front_length)

-- ---- the cells behind it lent
pub parts-behind :
    (n : ℕ) (labels blocks : List ℕ) (d : ℕ) (begins : List ℕ)
    → store n (take (length labels - (n + 1)) (drop (n + 1) labels)) (take (length blocks - (n + 1)) (drop (n + 1) blocks)) d begins
    ≡ store_behind n labels blocks d begins
parts-behind n labels blocks d begins =
    ap₂ (λ (l b : List ℕ). store n l b d begins) (part_end (n + 1) labels) (part_end (n + 1) blocks)

-- they come back as x
module _ (n m : ℕ) (l x : List ℕ) (w : n + m < length l) where
  abbrev pub lent : List ℕ
  lent = put_mid (n + 1) (length l - (n + 1)) l x

  fits : n + 1 ≤ length l
  fits = omega (arith, w)

  is-lent : lent ≡ take (n + 1) l ++ x
  is-lent = put_end (n + 1) l x fits

  pub lent-behind : drop (n + 1) lent ≡ x
  lent-behind = ap (drop (n + 1)) is-lent ∙ drop_at (take (n + 1) l) x (n + 1) (length-take-le (n + 1) l fits)

  pub lent-cell : (i : ℕ) → i < n → get_or lent i 0 ≡ get_or l i 0
  lent-cell i k =
      ap (λ (y : List ℕ). get_or y i 0) is-lent
      ∙ get_or-append (take (n + 1) l) x 0 i (omega (arith, length-take-le (n + 1) l fits, k))
      ∙ get_or-take (n + 1) l i 0 (omega (arith, k))

  pub lent_length : length x ≡ length (take (length l - (n + 1)) (drop (n + 1) l)) → length lent ≡ length l
  lent_length e =
      ap length is-lent ∙ length-append (take (n + 1) l) x
      ∙ omega (arith, length-take-le (n + 1) l fits, e, ap length (part_end (n + 1) l), length-drop (n + 1) l, fits)

-- signatures that are written there
pub lent-store :
    (n m : ℕ) (l b x y : List ℕ) (d : ℕ) (begins : List ℕ) (w : n + m < length l) (v : n + m < length b)
    → store n x y d begins ≡ store_behind n (lent n m l x w) (lent n m b y v) d begins
lent-store n m l b x y d begins w v =
    ap₂ (λ (s t : List ℕ). store n s t d begins) (sym (lent-behind n m l x w)) (sym (lent-behind n m b y v))

-- ---- a partition with other cells behind its states
pub sound_front :
    (p : Partition) → Sound p → (elements offset : List ℕ) → length elements ≡ length p.elements
    → length offset ≡ length p.element_offset → ((i : ℕ) → i < p.n → get_or elements i 0 ≡ get_or p.elements i 0)
    → ((i : ℕ) → i < p.n → get_or offset i 0 ≡ get_or p.element_offset i 0)
    → Sound (reordered p elements offset)
sound_front p g elements offset le lo e o =
    let h = g.consistent in
    order_sound p g elements offset (omega (arith, g.long.elements, le)) (omega (arith, g.long.element_offset, lo))
    record {
      below = λ i l. omega (arith, h.order.below i l, e i l);
      back = λ i l. ap (λ (s : ℕ). get_or offset s 0) (e i l) ∙ o (get_or p.elements i 0) (h.order.below i l) ∙ h.order.back i l;
    }
    record {
      below = λ i l. omega (arith, h.places.below i l, o i l);
      back = λ i l.
          ap (λ (s : ℕ). get_or elements s 0) (o i l) ∙ e (get_or p.element_offset i 0) (h.places.below i l) ∙ h.places.back i l;
    }
    (λ s l.
    let i = h.lies s l in
    record { known = i.known; from = omega (arith, i.from, o s l); to = omega (arith, i.to, o s l) })
