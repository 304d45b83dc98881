-- Laws of `split`: a block is made or the table stays; consistency is kept, the block count grows by the blocks made, and nothing
-- outside the marked stretch of block b changes.
use Rattle.std.specs.Prelude.{◌≡◌, ℕ, ◌+◌, ◌<◌, ◌≤◌, Bool, true, false, cond, not, eqb, List, get_or}
use native.Mathlib.Omega.{arith}
use borrow.Author.Tests.{eqb-false, eq-eqb, ne_eqb, not-true}
use mathlib.Core.Path.{refl, ap, sym, subst, ◌∙◌}
use mathlib.Core.Logic.{⊎_elim}
use Rattle.columns.specs.Counting.{bit}
use Rattle.columns.proofs.All.{not-below}
use Rattle.columns.proofs.Bools.{cases, and_left, and_right, and_both, and_no_left, and_no_right}
use Rattle.partition.specs.Partition.{Partition, Sound, reordered}
use Rattle.partition.proofs.Owned.{owned}
use Rattle.partition_split.specs.Split.{sifted_in, cut, makes_block, splitsb, split}
use Rattle.partition_split.proofs.Cutting.{Unmarked, SameEntry, cut_sound, cut_new, cut_old, cut_other}
use Rattle.partition_split.proofs.Reordering.{sieved, reordered_sound}
use Rattle.partition_split.proofs.Sieves.{Sieved}

-- the table is that of p
pub record SameTable (p q : Partition) : Type 0 where
  pub element_to_block : q.element_to_block ≡ p.element_to_block
  pub begin : q.begin ≡ p.begin
  pub marked_split : q.marked_split ≡ p.marked_split
  pub end : q.end ≡ p.end
  pub count : q.count ≡ p.count

-- block j has the stretch that it had, with the same states in the same order, and the same marks
pub record SameBlock (p q : Partition) (j : ℕ) : Type 0 where
  pub entry : SameEntry p q j
  pub elements : (k : ℕ) → get_or p.begin j 0 ≤ k → k < get_or p.end j 0 → get_or q.elements k 0 ≡ get_or p.elements k 0

-- ---- whether a block is made, by the position e where the chosen begin
module _ (p : Partition) (b e : ℕ) where
  abbrev some : Bool
  some = not (eqb e (get_or p.end b 0))

  abbrev rest : Bool
  rest = not (eqb e (get_or p.begin b 0))

  pub parts_nothing : e ≡ get_or p.end b 0 → makes_block p b e ≡ false
  unfolding makes_block
  parts_nothing q = and_no_left some rest (ap not (eq-eqb _ _ q))

  pub parts_all : e ≡ get_or p.begin b 0 → makes_block p b e ≡ false
  unfolding makes_block
  parts_all q = and_no_right some rest (ap not (eq-eqb _ _ q))

  pub parts_both : (e ≡ get_or p.end b 0 → ⊥) → (e ≡ get_or p.begin b 0 → ⊥) → makes_block p b e ≡ true
  unfolding makes_block
  parts_both m m' = and_both (ap not (ne_eqb _ _ m)) (ap not (ne_eqb _ _ m'))

  pub parts_of :
      makes_block p b e ≡ true → get_or p.begin b 0 ≤ e → e ≤ get_or p.end b 0
      → (get_or p.begin b 0 < e) × (e < get_or p.end b 0)
  unfolding makes_block
  parts_of t f u =
      let nz = eqb-false e (get_or p.end b 0) (not-true _ (and_left some rest t)) in
      let nx = eqb-false e (get_or p.begin b 0) (not-true _ (and_right some rest t)) in
      (not-below (λ a. nx (omega arith)), not-below (λ a. nz (omega arith)))

module _ (p : Partition) (b : ℕ) (c : List ℕ) where
  -- the partition with the marked stretch sifted, and where the chosen begin
  abbrev pub sifted_of : Partition
  sifted_of = reordered p (sifted_in p b c).elements (sifted_in p b c).element_offset

  abbrev pub place_of : ℕ
  place_of = (sifted_in p b c).first

  pub split_made : splitsb p b c ≡ true → split p b c ≡ cut sifted_of b place_of
  unfolding split
  split_made t = ap (λ (y : Bool). cond y (cut sifted_of b place_of) sifted_of) t

  pub split_stays : splitsb p b c ≡ false → split p b c ≡ sifted_of
  unfolding split
  split_stays t = ap (λ (y : Bool). cond y (cut sifted_of b place_of) sifted_of) t

  -- what holds of both
  by_case : (P : Partition → Type 0) → (splitsb p b c ≡ true → P (cut sifted_of b place_of)) → (splitsb p b c ≡ false → P sifted_of) →
      P (split p b c)
  by_case P made stays =
      ⊎_elim (λ (t : splitsb p b c ≡ true). subst P (sym (split_made t)) (made t))
      (λ (t : splitsb p b c ≡ false). subst P (sym (split_stays t)) (stays t))
      (cases (splitsb p b c))

  pub split_elements : (split p b c).elements ≡ (sifted_in p b c).elements
  unfolding cut
  split_elements = by_case (λ q. q.elements ≡ (sifted_in p b c).elements) (λ t. refl) (λ t. refl)

  pub split_offset : (split p b c).element_offset ≡ (sifted_in p b c).element_offset
  unfolding cut
  split_offset = by_case (λ q. q.element_offset ≡ (sifted_in p b c).element_offset) (λ t. refl) (λ t. refl)

  pub split_count : (split p b c).count ≡ p.count + bit (splitsb p b c)
  unfolding cut
  split_count =
      by_case (λ q. q.count ≡ p.count + bit (splitsb p b c)) (λ t. rw t) (λ t. rw t (omega arith))

  -- nothing chosen, or the whole block
  pub table_stays : splitsb p b c ≡ false → SameTable p (split p b c)
  table_stays t =
      subst (SameTable p) (sym (split_stays t))
      (record { element_to_block = refl; begin = refl; marked_split = refl; end = refl; count = refl })

  module _ (g : Sound p) (w : b < p.count) where
    abbrev v : Sieved p.n c p.elements p.element_offset (get_or p.marked_split b 0) (get_or p.end b 0) (sifted_in p b c)
    v = sieved p b c g w

    abbrev s : Sound sifted_of
    s = reordered_sound p b c g w

    -- both parts have a state
    pub apart : splitsb p b c ≡ true → (get_or p.begin b 0 < place_of) × (place_of < get_or p.end b 0)
    unfolding splitsb
    apart t = parts_of p b place_of t (omega (arith, v.low, (g.consistent.bounds b w).from)) v.high

    pub split_sound : Sound (split p b c)
    split_sound = by_case Sound (λ t. let a = apart t in cut_sound sifted_of s b w place_of a.0 a.1) (λ t. s)

    -- ---- what stays
    pub outside_stays : (k : ℕ) → (get_or p.marked_split b 0 ≤ k → k < get_or p.end b 0 → ⊥) →
        get_or (split p b c).elements k 0 ≡ get_or p.elements k 0
    outside_stays k out = ap (λ (y : List ℕ). get_or y k 0) split_elements ∙ v.outside k out

    pub others_stay : (j : ℕ) → j < p.count → (j ≡ b → ⊥) → SameBlock p (split p b c) j
    others_stay j wj m =
        record {
          entry =
              by_case (λ q. SameEntry p q j)
              (λ t.
              let a = apart t in
              let same = cut_other sifted_of s b w place_of a.0 a.1 j wj m in
              record { begin = same.begin; marked_split = same.marked_split; end = same.end })
              (λ t. record { begin = refl; marked_split = refl; end = refl });
          elements = λ k a y.
              outside_stays k
              (λ f t.
              m (sym (owned p g.consistent j k wj a y) ∙
              owned p g.consistent b k w (omega (arith, f, (g.consistent.bounds b w).from)) t));
        }

    -- ---- the two blocks that a split leaves
    module _ (t : splitsb p b c ≡ true) where
      pub split_old_block : Unmarked (split p b c) b (get_or p.begin b 0) place_of
      split_old_block =
          let a = apart t in
          subst (λ (q : Partition). Unmarked q b (get_or p.begin b 0) place_of) (sym (split_made t))
          (cut_old sifted_of s b w place_of a.0 a.1)

      pub split_new_block : Unmarked (split p b c) p.count place_of (get_or p.end b 0)
      split_new_block =
          let a = apart t in
          subst (λ (q : Partition). Unmarked q p.count place_of (get_or p.end b 0)) (sym (split_made t))
          (cut_new sifted_of s b w place_of a.0 a.1)
