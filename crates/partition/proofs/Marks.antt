-- Marking a state: of the columns alone, and of a partition.
use Prim.Native.Nat.{ℕ, ◌-◌, ◌≤◌, ◌<◌}
use native.Mathlib.Omega.{arith}
use borrow.Author.Tests.{lt-ltb, le-ltb, le-leb, lt-leb}
use mathlib.Core.Bool.{Bool, true, false, not, cond}
use mathlib.Core.Logic.{⊎_elim}
use lib.Dec.{leb}
use mathlib.Core.Path.{◌≡◌, refl, ap, sym, ◌∙◌}
use mathlib.Core.List.{List}
use lib.ListN.{length, get_or, set}
use Rattle.columns.specs.Columns.{swapped}
use Rattle.columns.specs.Inverse.{swapped_inverse}
use Rattle.columns.proofs.All.{lt-or-le}
use Rattle.partition.specs.Mark.{Marks, marks, marks_of, with_marks, mark, moved, mark_in, moved_in}
use Rattle.partition.specs.Cores.{Markable}
use Rattle.partition.specs.Partition.{Partition, Sound}
use Rattle.partition.specs.Marked.{unmarkedb}

pub block_known : (p : Partition) (s b : ℕ) → b ≡ get_or p.element_to_block s 0 → Sound p → s < p.n → b < length p.marked_split
block_known p s b eb g w = let h = g.consistent in omega (arith, (h.lies s w).known, h.most, g.long.marked_split)

-- a state of a sound partition can be marked
pub markable : (p : Partition) (s : ℕ) → Sound p → s < p.n → Markable p.element_to_block (marks_of p) s
markable p s g w =
    let h = g.consistent in
    let l = g.long in
    let i = h.bounds (get_or p.element_to_block s 0) (h.lies s w).known in
    record {
      known = omega (arith, l.element_to_block);
      place = omega (arith, l.element_offset);
      block = block_known p s (get_or p.element_to_block s 0) refl g w;
      split = omega (arith, i.to, i.most, l.elements);
      states = λ k u. omega (arith, h.order.below k (omega (arith, u, i.to, i.most)), l.element_offset);
    }

-- a partition's columns with state s marked are the partition with s marked
pub mark_done : (p : Partition) (s : ℕ) (c : Marks) → c ≡ mark_in p.element_to_block (marks_of p) s → with_marks p c ≡ mark p s
unfolding mark moved unmarkedb mark_in
mark_done p s c e = ap (with_marks p) e ∙ go (unmarkedb p s)
  where
    go : (t : Bool) → with_marks p (cond t (moved_in p.element_to_block (marks_of p) s) (marks_of p)) ≡ cond t (moved p s) p
    go true = refl
    go false = refl

-- ---- marking, by the numbers that the code has read
module _ (home : List ℕ) (c : Marks) (s b o m : ℕ) (eb : b ≡ get_or home s 0) (eo : o ≡ get_or c.element_offset s 0)
    (em : m ≡ get_or c.marked_split b 0) where
  limit : m ≡ get_or c.marked_split (get_or home s 0) 0
  limit = em ∙ ap (λ (x : ℕ). get_or c.marked_split x 0) eb

  -- what exchanging the two states asks for
  pub mark-reads : Markable home c s → o < m → o < 65536 → m < 65536
      → ((o < length c.elements) × (m - 1 < length c.elements) × (o < 65536) × (m - 1 < 65536))
      × ((get_or c.elements o 0 < length c.element_offset) × (get_or c.elements (m - 1) 0 < length c.element_offset))
  mark-reads h u so sm =
      let w = h.split in (
        (omega (arith, limit), omega (arith, limit), so, omega arith),
        (h.states o (omega (arith, limit)), h.states (m - 1) (omega (arith, limit))),
      )

  pub mark-moves : (e' o' : List ℕ) → o < m → e' ≡ swapped o (m - 1) c.elements
      → o' ≡ swapped_inverse o (m - 1) c.elements c.element_offset
      → marks e' o' (set c.marked_split b (m - 1)) ≡ mark_in home c s
  unfolding mark_in moved_in
  mark-moves e' o' u ee ef =
      rw (lt-ltb (get_or c.element_offset s 0) (get_or c.marked_split (get_or home s 0) 0) (omega (arith, limit))) (cc)

  pub mark_keeps : m ≤ o → c ≡ mark_in home c s
  unfolding mark_in
  mark_keeps u = rw (le-ltb (get_or c.element_offset s 0) (get_or c.marked_split (get_or home s 0) 0) (omega (arith, limit)))

-- whether a state is marked, by the numbers that the code has read
pub marked_read :
    (p : Partition) (s b o m : ℕ) → b ≡ get_or p.element_to_block s 0 → o ≡ get_or p.element_offset s 0 → m ≡ get_or p.marked_split b 0
    → leb m o ≡ not (unmarkedb p s)
unfolding unmarkedb
marked_read p s b o m eb eo em =
    let f = ap (λ (x : ℕ). get_or p.marked_split x 0) eb in
    ⊎_elim
    (λ (h : o < m). lt-leb m o h ∙
    ap not (sym (lt-ltb (get_or p.element_offset s 0) (get_or p.marked_split (get_or p.element_to_block s 0) 0) (omega (arith, f)))))
    (λ (h : m ≤ o). le-leb m o h ∙
    ap not (sym (le-ltb (get_or p.element_offset s 0) (get_or p.marked_split (get_or p.element_to_block s 0) 0) (omega (arith, f)))))
    (lt-or-le o m)
