-- `consistentb` tests `Consistent`: each way.
use Prim.Native.Nat.{ℕ}
use borrow.Author.Tests.{ltb-true, leb-true, eqb-true, lt-ltb, le-leb, eq-eqb}
use mathlib.Core.Bool.{Bool, true, ◌&&◌}
use mathlib.Core.Path.{◌≡◌}
use mathlib.Core.List.{List, [], ◌∷◌}
use lib.ListN.{length, get_or}
use lib.Dec.{ltb, leb, eqb}
use Rattle.columns.specs.Limits.{max_states}
use Rattle.partition.specs.declared.block.Block.{Block}
use Rattle.partition.specs.Block.{boundedb}
use Rattle.columns.specs.Inverse.{inverseb}
use Rattle.columns.proofs.All.{all_at, all_of}
use Rattle.columns.proofs.Bools.{and_left, and_right, and_both}
use Rattle.columns.proofs.Inverses.{inverse_of, of_inverse, other_way}
use Rattle.columns.proofs.Rooms.{roomy_of, of_roomy}
use Rattle.partition.specs.Partition.{
  Partition,
  Within,
  Lies,
  Consistent,
  Long,
  withinb,
  block_at,
  boundsb,
  insideb,
  lie_at,
  liesb,
  lengths,
  consistentb,
  longb,
}

-- a chain of tests taken apart: each one, and the rest
pub record Both (a b : Bool) : Type 0 where
  pub left : a ≡ true
  pub right : b ≡ true

split : (a b : Bool) → (a && b) ≡ true → Both a b
split a b e = record { left = and_left a b e; right = and_right a b e }

pub within_of : (x m z n : ℕ) → withinb x m z n ≡ true → Within x m z n
unfolding withinb
within_of x m z n t =
    let t1 = split (ltb x z) (leb x m && (leb m z && leb z n)) t in
    let t2 = split (leb x m) (leb m z && leb z n) t1.right in
    let t3 = split (leb m z) (leb z n) t2.right in
    record { some = ltb-true x z t1.left; from = leb-true x m t2.left; to = leb-true m z t3.left; most = leb-true z n t3.right }

pub of_within : (x m z n : ℕ) → Within x m z n → withinb x m z n ≡ true
unfolding withinb
of_within x m z n h =
    and_both (lt-ltb x z h.some) (and_both (le-leb x m h.from) (and_both (le-leb m z h.to) (le-leb z n h.most)))

module _ (p : Partition) (s : ℕ) where
  b : ℕ
  b = get_or p.element_to_block s 0

  pub lies_of : lie_at p.element_offset p.element_to_block p.begin p.end p.count s ≡ true → Lies p s
  unfolding lie_at insideb b
  lies_of t =
      let o = get_or p.element_offset s 0 in
      let t1 = split (ltb b p.count) (leb (get_or p.begin b 0) o && ltb o (get_or p.end b 0)) t in
      let t2 = split (leb (get_or p.begin b 0) o) (ltb o (get_or p.end b 0)) t1.right in
      record { known = ltb-true _ _ t1.left; from = leb-true _ _ t2.left; to = ltb-true _ _ t2.right }

  pub of_lies : Lies p s → lie_at p.element_offset p.element_to_block p.begin p.end p.count s ≡ true
  unfolding lie_at insideb
  of_lies h = and_both (lt-ltb _ _ h.known) (and_both (le-leb _ _ h.from) (lt-ltb _ _ h.to))

module _ (p : Partition) where
  t_order : Bool
  t_order = inverseb p.elements p.element_offset p.n

  t_blocks : Bool
  t_blocks = boundsb p.begin p.marked_split p.end p.n p.count

  t_lies : Bool
  t_lies = liesb p.element_offset p.element_to_block p.begin p.end p.n p.count

  t_whole : Bool
  t_whole = eqb (lengths p.begin p.end p.count) p.n

  pub consistent_of : consistentb p ≡ true → Consistent p
  unfolding consistentb boundsb liesb block_at t_order t_blocks t_lies t_whole
  consistent_of t =
      let t1 = split (leb 1 p.count) (leb p.count p.n && (t_order && (t_blocks && (t_lies && t_whole)))) t in
      let t2 = split (leb p.count p.n) (t_order && (t_blocks && (t_lies && t_whole))) t1.right in
      let t3 = split t_order (t_blocks && (t_lies && t_whole)) t2.right in
      let t4 = split t_blocks (t_lies && t_whole) t3.right in
      let t5 = split t_lies t_whole t4.right in
      let order = inverse_of p.elements p.element_offset p.n t3.left in
      record {
        some = leb-true _ _ t1.left;
        most = leb-true _ _ t2.left;
        order = order;
        places = other_way p.elements p.element_offset p.n order;
        bounds = λ b l. within_of _ _ _ _ (all_at (block_at p.begin p.marked_split p.end p.n) p.count b t4.left l);
        lies = λ s l.
            lies_of p s (all_at (lie_at p.element_offset p.element_to_block p.begin p.end p.count) p.n s t5.left l);
        whole = eqb-true _ _ t5.right;
      }

  pub of_consistent : Consistent p → consistentb p ≡ true
  unfolding consistentb boundsb liesb block_at
  of_consistent h =
      and_both (le-leb _ _ h.some)
      (and_both (le-leb _ _ h.most)
      (and_both (of_inverse p.elements p.element_offset p.n h.order)
      (and_both
      (all_of (block_at p.begin p.marked_split p.end p.n) p.count (λ b l. of_within _ _ _ _ (h.bounds b l)))
      (and_both
      (all_of (lie_at p.element_offset p.element_to_block p.begin p.end p.count) p.n (λ s l. of_lies p s (h.lies s l)))
      (eq-eqb _ _ h.whole)))))

  abbrev six : List ℕ
  six =
      length p.elements ∷ length p.element_offset ∷ length p.element_to_block ∷ length p.begin ∷ length p.marked_split
      ∷ length p.end ∷ []

  pub long_of : longb p ≡ true → Long p
  unfolding longb
  long_of t =
      let h = roomy_of p.n six t in
      record {
        elements = h.0;
        element_offset = h.1.0;
        element_to_block = h.1.1.0;
        begin = h.1.1.1.0;
        marked_split = h.1.1.1.1.0;
        end = h.1.1.1.1.1.0;
      }

  pub of_long : Long p → longb p ≡ true
  unfolding longb
  of_long h =
      of_roomy p.n six
      (h.elements, (h.element_offset, (h.element_to_block, (h.begin, (h.marked_split, (h.end, tt))))))

-- the bounds of a block given alone
pub sound_of : (b : Block) → boundedb b ≡ true → Within b.begin b.marked_split b.end max_states
unfolding boundedb
sound_of b t = within_of b.begin b.marked_split b.end max_states t
