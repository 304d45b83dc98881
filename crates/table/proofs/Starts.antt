-- Where the rows of each state begin, as cells that are read, and behind the rows in a column of the rows turned round.
use Rattle.std.specs.Prelude.{◌≡◌, ℕ, ◌-◌, ◌≤◌, List, [], ◌++◌, length, get_or, take, drop}
use mathlib.Core.Path.{sym, ap, subst, ◌∙◌}
use native.Mathlib.Omega.{arith}
use native.Mathlib.Nat.{not-suc-le-zero}
use borrow.Rule.Slice.PartMut.{put_mid}
use lib.ListN.{length-map, length-append, take-append-drop}
use lib.Seq.{take-append-le, take-take, drop_at, length-take-le}
use Rattle.columns.specs.Columns.{listed, over}
use Rattle.columns.specs.Rows.{first_of, second_of, third_of}
use Rattle.columns.specs.Sets.{Row}
use Rattle.columns.proofs.Lists.{listed_at, length-listed, take-over}
use Rattle.columns.proofs.Parts.{part_end, put_end}
use Rattle.table.specs.Lts.{Lts, Valid}
use Rattle.table.specs.Stretch.{StartsOf, first_row}
use Rattle.table.specs.Turned.{TurnedWithStarts}
use Rattle.table.proofs.Turning.{turned_rows, few_turned, turned_of}

module _ (source : List ℕ) (m : ℕ) where
  -- a column without cells holds none
  pub no_starts : StartsOf source m []
  no_starts s h = absurd (not-suc-le-zero h)

  pub listed_starts : (k : ℕ) (l : List ℕ) → l ≡ listed k (first_row source m) → StartsOf source m l
  listed_starts k l e s h =
      ap (λ (x : List ℕ). get_or x s 0) e
      ∙ listed_at k (first_row source m) s (omega (arith, h, ap length e, length-listed k (first_row source m)))

  -- the part of a column behind its first k cells
  pub part_starts : (k : ℕ) (l : List ℕ) → StartsOf source m (drop k l) → StartsOf source m (take (length l - k) (drop k l))
  part_starts k l h = subst (StartsOf source m) (sym (part_end k l)) h

-- a column with l over its front; the cells behind the first m are lent, and come back as x
module _ (l y given x : List ℕ) (m : ℕ) (e : given ≡ over l y) (h : length l ≤ m) (w : m ≤ length given) where
  abbrev pub behind : List ℕ
  behind = put_mid m (length given - m) given x

  is-behind : behind ≡ take m given ++ x
  is-behind = put_end m given x w

  front : length (take m given) ≡ m
  front = length-take-le m given w

  pub behind_room : m ≤ length behind
  behind_room = omega (arith, ap length is-behind, length-append (take m given) x, front)

  pub behind_cells : drop m behind ≡ x
  behind_cells = ap (drop m) is-behind ∙ drop_at (take m given) x m front

  same_front : take (length l) behind ≡ l
  same_front =
      ap (take (length l)) is-behind ∙ take-append-le (length l) (take m given) x (omega (arith, h, front))
      ∙ take-take (length l) m given h ∙ ap (take (length l)) e ∙ take-over l y

  -- its front is as it was
  pub behind_front : behind ≡ over l behind
  unfolding over
  behind_front =
      sym (take-append-drop (length l) behind) ∙ ap (λ (z : List ℕ). z ++ drop (length l) behind) same_front

-- the rows turned round are in x, y and z; behind the first m cells of y and z come p and q
module _ (t : Lts) (v : Valid t) (r : ℕ) (x₀ y₀ z₀ x y z p q : List ℕ) where
  abbrev labels : List ℕ
  labels = second_of (turned_rows t)

  abbrev targets : List ℕ
  targets = third_of (turned_rows t)

  few_labels : length labels ≤ t.m
  few_labels = omega (arith, length-map (turned_rows t) (λ (w : Row). w.1.0), few_turned t v)

  few_targets : length targets ≤ t.m
  few_targets = omega (arith, length-map (turned_rows t) (λ (w : Row). w.1.1), few_turned t v)

  abbrev pub with_starts : Lts
  with_starts = record {
    n = t.n;
    labels = t.labels;
    m = r;
    initial = t.initial;
    source = x;
    label = put_mid t.m (length y - t.m) y p;
    target = put_mid t.m (length z - t.m) z q;
  }

  pub turned_with_starts :
      (j k : ℕ) → r ≡ length (turned_rows t) → x ≡ over (first_of (turned_rows t)) x₀ → y ≡ over (second_of (turned_rows t)) y₀
      → z ≡ over (third_of (turned_rows t)) z₀ → t.m ≤ length y → t.m ≤ length z → p ≡ listed j (first_row x r)
      → q ≡ listed k (first_row t.source t.m) → TurnedWithStarts t with_starts
  turned_with_starts j k er ex ey ez wy wz ep eq = record {
    rows =
        turned_of t v r x₀ (behind labels y₀ y p t.m ey few_labels wy) (behind targets z₀ z q t.m ez few_targets wz) x
        (behind labels y₀ y p t.m ey few_labels wy) (behind targets z₀ z q t.m ez few_targets wz) er ex
        (behind_front labels y₀ y p t.m ey few_labels wy) (behind_front targets z₀ z q t.m ez few_targets wz);
    label_room = behind_room labels y₀ y p t.m ey few_labels wy;
    target_room = behind_room targets z₀ z q t.m ez few_targets wz;
    starts =
        subst (StartsOf t.source t.m) (sym (behind_cells targets z₀ z q t.m ez few_targets wz))
        (listed_starts t.source t.m k q eq);
    back_starts =
        subst (StartsOf x r) (sym (behind_cells labels y₀ y p t.m ey few_labels wy)) (listed_starts x r j p ep);
  }
