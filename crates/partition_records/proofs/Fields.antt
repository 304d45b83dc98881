-- The fields of block records as columns: their cells, and two records exchanged.
use Prim.Native.Nat.{ℕ, ◌≤◌}
use native.Mathlib.Omega.{arith}
use mathlib.Core.Path.{◌≡◌, refl, ap, sym, ◌∙◌}
use mathlib.Core.List.{List, map}
use lib.ListN.{length, get_or, set, length-map, get_or-map}
use lib.Seq.{ext_get_or}
use Rattle.columns.proofs.Maps.{map-set}
use Rattle.columns.specs.Columns.{listed, swapped, exchanged}
use Rattle.columns.proofs.Lists.{listed_at, length-listed, Painted, painted_done, over-all}
use Rattle.partition.specs.declared.block.Block.{Block}
use Rattle.partition_records.specs.Records.{begins, splits, ends, no_block}

-- ---- one field, where a record that isn't there has 0
module _ (f : Block → ℕ) (z : f no_block ≡ 0) where
  pub field_at : (bs : List Block) (k : ℕ) → get_or (map f bs) k 0 ≡ f (get_or bs k no_block)
  field_at bs k = ap (λ (d : ℕ). get_or (map f bs) k d) (sym z) ∙ get_or-map f bs k no_block

  field_exchanged : (i j : ℕ) (bs : List Block) → map f (exchanged no_block i j bs) ≡ swapped i j (map f bs)
  unfolding exchanged swapped
  field_exchanged i j bs =
      map-set f (set bs i (get_or bs j no_block)) j (get_or bs i no_block)
      ∙ ap (λ (t : List ℕ). set t j (f (get_or bs i no_block))) (map-set f bs i (get_or bs j no_block))
      ∙ ap (λ (v : ℕ). set (set (map f bs) i v) j (f (get_or bs i no_block))) (sym (field_at bs j))
      ∙ ap (λ (v : ℕ). set (set (map f bs) i (get_or (map f bs) j 0)) j v) (sym (field_at bs i))

  module _ (t : List Block) (n : ℕ) (h : length t ≡ n) where
    abbrev at : ℕ → ℕ
    at k = f (get_or t k no_block)

    long : length (map f t) ≡ n
    long = length-map t f ∙ h

    -- a column that is written whole
    pub field_written : (l x : List ℕ) (i : ℕ) → length l ≡ n → Painted at n l i x → n ≤ i → x ≡ map f t
    field_written l x i e p w =
        painted_done at n l i x (map f t) p w
        (ext_get_or 0 (listed n at) (map f t) (length-listed n at ∙ sym long)
        (λ k v. listed_at n at k (omega (arith, length-listed n at)) ∙ sym (field_at t k)))
        ∙ over-all (map f t) l (long ∙ sym e)

module _ (i j : ℕ) (bs : List Block) where
  pub begins-exchanged : begins (exchanged no_block i j bs) ≡ swapped i j (begins bs)
  begins-exchanged = field_exchanged (λ (b : Block). b.begin) refl i j bs

  pub splits-exchanged : splits (exchanged no_block i j bs) ≡ swapped i j (splits bs)
  splits-exchanged = field_exchanged (λ (b : Block). b.marked_split) refl i j bs

  pub ends-exchanged : ends (exchanged no_block i j bs) ≡ swapped i j (ends bs)
  ends-exchanged = field_exchanged (λ (b : Block). b.end) refl i j bs
