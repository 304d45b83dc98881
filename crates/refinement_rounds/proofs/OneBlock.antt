-- One block whose states are numbered by their stored signatures: it can be divided, and that is the next turn of a round.
use Rattle.std.specs.Prelude.{◌≡◌, ℕ, ◌+◌, ◌-◌, ◌<◌, ◌≤◌, Bool, true, false, cond, ltb, List, get_or, set}
use mathlib.Core.Path.{refl, sym, ap, subst, ◌∙◌}
use mathlib.Core.Logic.{⊎_elim}
use native.Mathlib.Omega.{arith}
use borrow.Author.Tests.{eq-eqb, ne_eqb, lt-ltb}
use Rattle.columns.specs.Blocks.{block_of}
use Rattle.columns.specs.Counting.{many}
use Rattle.columns.specs.Limits.{max_states}
use Rattle.columns.specs.Number.{leads, number}
use Rattle.columns.proofs.All.{all_of, same_or_not, lt-or-le}
use Rattle.columns.proofs.Bools.{and_both, contra}
use Rattle.columns.proofs.Counting.{first_law, many-le, many_strict}
use Rattle.columns.proofs.Numbering.{Equivalence, number_same, number_differ, number_bound, number_onto}
use Rattle.partition_division.specs.Divide.{divided, block_unmarked, partition_marked}
use Rattle.partition_division.specs.Marked.{numbered, absent, missing, denseb, len_at}
use Rattle.partition.specs.Marked.{marked_in}
use Rattle.partition_division.specs.Steps.{Dividable}
use Rattle.partition_division.proofs.Divided.{count_more}
use Rattle.partition.proofs.Changed.{marks_begin, marks_long, marks_consistent}
use Rattle.partition.proofs.Marked.{marked_block, whole_marked}
use Rattle.partition_division.proofs.PartitionMarked.{by_one, by_more, partition_marked_consistent, partition_marked_long}
use Rattle.partition.specs.Partition.{Partition, parts, Consistent, Long, Sound}
use Rattle.partition.specs.SwapBlocks.{swap}
use Rattle.partition.proofs.Owned.{owned}
use Rattle.partition.proofs.Standing.{stands}
use Rattle.refinement_partition.proofs.Divisions.{turn}
use Rattle.refinement_rounds.specs.Splitting.{stored_signature, wholly, Split}
use Rattle.refinement_signing.specs.Numbered.{alike_at, Numbered}
use Rattle.refinement_signing.specs.Stored.{Store, stored}
use Rattle.refinement_signing.proofs.Numberings.{at_in, at_out, alike_equivalence}
use Rattle.refinement.specs.Runs.{RefinedBelow}
use Rattle.refinement.proofs.BlockByBlock.{Numbers, below_in}

-- ---- a division makes no fewer blocks
pub more_blocks : (p : Partition) (b : ℕ) (v : List ℕ) → Dividable p b v → p.count ≤ (partition_marked p b v).count
unfolding block_unmarked swap divided
more_blocks p b v y =
    ⊎_elim (λ e. subst (λ (t : Partition). p.count ≤ t.count) (sym (by_one p b v y e)) (omega arith))
    (λ m.
    subst (λ (t : Partition). p.count ≤ t.count) (sym (by_more p b v y m))
    (count_more p b v y.sound.consistent y.sound.long y.known y.some (y.dense m)))
    (same_or_not (len_at p b) 1)

module _ (p : Partition) (g : Sound p) (b : ℕ) (hb : b < p.count) where
  -- ---- the block wholly marked
  marked_whole : get_or (set p.marked_split b (get_or p.begin b 0)) b 0 ≡ get_or p.begin b 0
  marked_whole = marks_begin p g.consistent g.long b (get_or p.begin b 0) hb

  pub wholly_sound : Sound (wholly p b)
  wholly_sound =
      let x = get_or p.begin b 0 in
      record {
        small = g.small;
        long = marks_long p g.consistent g.long b x hb;
        consistent =
            marks_consistent p g.consistent g.long b x hb (omega arith) (omega (arith, (g.consistent.bounds b hb).some));
      }

  -- ---- the states are numbered by signature
  module _
      (σ : Store) (v : List ℕ) (r : ℕ)
      (num : Numbered (alike_at p.elements σ (get_or p.begin b 0)) p.elements (get_or p.begin b 0)
      (get_or p.end b 0 - get_or p.begin b 0) v r)
    where
      abbrev eq : ℕ → ℕ → Bool
      eq = alike_at p.elements σ (get_or p.begin b 0)

      same : Equivalence eq
      same = alike_equivalence p.elements σ (get_or p.begin b 0)

      abbrev len : ℕ
      len = get_or p.end b 0 - get_or p.begin b 0

      -- the place of a state of the block, counted from the block's begin
      record Place (s : ℕ) : Type 0 where
        at : ℕ
        below : at < len
        state : get_or p.elements (get_or p.begin b 0 + at) 0 ≡ s

      place : (s : ℕ) → s < p.n → get_or p.element_to_block s 0 ≡ b → Place s
      place s l e =
          let i = g.consistent.lies s l in
          let f : get_or p.begin b 0 ≤ get_or p.element_offset s 0 = omega (arith, i.from, ap (λ (y : ℕ). get_or p.begin y 0) e) in
          let t : get_or p.element_offset s 0 < get_or p.end b 0 = omega (arith, i.to, ap (λ (y : ℕ). get_or p.end y 0) e) in
          let q : get_or p.begin b 0 + (get_or p.element_offset s 0 - get_or p.begin b 0) ≡ get_or p.element_offset s 0
          = omega (arith, f) in
          record {
            at = get_or p.element_offset s 0 - get_or p.begin b 0;
            below = omega (arith, f, t);
            state = ap (λ (k : ℕ). get_or p.elements k 0) q ∙ g.consistent.places.back s l;
          }

      number_at : (s : ℕ) (k : Place s) → get_or v s 0 ≡ number eq k.at
      number_at s k = ap (λ (t : ℕ). get_or v t 0) (sym k.state) ∙ num.given k.at k.below

      sig_at_lem : (s : ℕ) (k : Place s) → stored σ (get_or p.elements (get_or p.begin b 0 + k.at) 0) ≡ stored σ s
      sig_at_lem s k = ap (stored σ) k.state

      -- they tell the signatures apart, and nothing else
      pub tell :
          (start : List ℕ) → ((s : ℕ) → s < p.n → block_of start s ≡ b → block_of p.element_to_block s ≡ b)
          → Numbers p.n (stored_signature σ) start b v
      tell start in_block = record {
        to = λ s t hs ht es et e.
            let i = place s hs (in_block s hs es) in
            let j = place t ht (in_block t ht et) in
            sym (sig_at_lem s i)
            ∙ at_out p.elements σ (get_or p.begin b 0) i.at j.at
            (number_differ eq same i.at j.at (sym (number_at s i) ∙ e ∙ number_at t j))
            ∙ sig_at_lem t j;
        from = λ s t hs ht es et e.
            let i = place s hs (in_block s hs es) in
            let j = place t ht (in_block t ht et) in
            number_at s i
            ∙ number_same eq same i.at j.at
            (at_in p.elements σ (get_or p.begin b 0) i.at j.at (sig_at_lem s i ∙ e ∙ sym (sig_at_lem t j)))
            ∙ sym (number_at t j);
      }

      -- ---- the numbers are dense
      whole : (s : ℕ) → s < p.n → get_or p.element_to_block s 0 ≡ b → marked_in (wholly p b) b s ≡ true
      whole = whole_marked (wholly p b) wholly_sound.consistent b marked_whole

      occurs : (k : ℕ) → k < many len (leads eq) → absent (wholly p b) b v k ≡ false
      unfolding absent numbered
      occurs k l =
          let o = number_onto eq same len k l in
          let i : ℕ = o.0 in
          let s : ℕ = get_or p.elements (get_or p.begin b 0 + i) 0 in
          let hs : s < p.n = (stands p g b hb _ _ refl refl).below i o.1 in
          let home : get_or p.element_to_block s 0 ≡ b
          = owned p g.consistent b (get_or p.begin b 0 + i) hb (omega arith) (omega (arith, o.1)) in
          let n : get_or v s 0 ≡ k = num.given i o.1 ∙ o.2 in
          ne_eqb (many p.n (numbered (wholly p b) b v k)) 0
          (λ e.
          omega (
            arith,
            e,
            many_strict s p.n (numbered (wholly p b) b v k) hs (and_both (whole s hs home) (eq-eqb (get_or v s 0) k n)),
          ))

      pub dense : denseb (wholly p b) b v ≡ true
      unfolding denseb missing
      dense =
          all_of (λ s. cond (marked_in (wholly p b) b s) (ltb (get_or v s 0) (missing (wholly p b) b v)) true) p.n
          (λ s l. go s l (marked_in (wholly p b) b s) refl)
        where
          below : (s : ℕ) → s < p.n → get_or p.element_to_block s 0 ≡ b → get_or v s 0 < missing (wholly p b) b v
          below s l e =
              let k = place s l e in
              let f = first_law p.n (absent (wholly p b) b v) in
              let n : get_or v s 0 < many len (leads eq) = omega (arith, number_at s k, number_bound eq same len k.at k.below) in
              ⊎_elim (λ (h : get_or v s 0 < missing (wholly p b) b v). h)
              (λ (h : missing (wholly p b) b v ≤ get_or v s 0).
              absurd (contra
              (f.hit (omega (arith, h, n, many-le len (leads eq), (g.consistent.bounds b hb).most)))
              (occurs (missing (wholly p b) b v) (omega (arith, h, n)))))
              (lt-or-le (get_or v s 0) (missing (wholly p b) b v))

          go :
              (s : ℕ) → s < p.n → (m : Bool) → marked_in (wholly p b) b s ≡ m
              → cond m (ltb (get_or v s 0) (missing (wholly p b) b v)) true ≡ true
          go s l true e = lt-ltb (get_or v s 0) (missing (wholly p b) b v) (below s l (marked_block (wholly p b) b s e))
          go s l false e = refl

      pub ready : Dividable (wholly p b) b v
      ready = record {
        sound = wholly_sound;
        known = hb;
        some = omega (arith, marked_whole, (g.consistent.bounds b hb).some);
        dense = λ _. dense;
      }

      -- ---- so it can be divided, and that is the next turn
      pub divided-next :
          (q : Partition) → q ≡ partition_marked (wholly p b) b v → q.n ≡ p.n → Split (stored_signature σ) p b q
      divided-next q e en = record {
        sound = record {
          small = omega (arith, en, g.small);
          long = subst Long (sym e) (partition_marked_long (wholly p b) b v ready);
          consistent = subst Consistent (sym e) (partition_marked_consistent (wholly p b) b v ready);
        };
        more = omega (arith, ap (λ (t : Partition). t.count) e, more_blocks (wholly p b) b v ready);
        turned = λ start count f w more.
            subst (λ (t : Partition). RefinedBelow p.n (stored_signature σ) start count (b + 1) t.element_to_block) (sym e)
            (turn (wholly p b) b v ready marked_whole (stored_signature σ) start count f w more
            (tell start (below_in p.n (stored_signature σ) start count b p.element_to_block f w)));
      }

-- ---- the same with what the code reads and writes
module _
    (p : Partition) (g : Sound p) (b : ℕ) (hb : b < p.count) (x z : ℕ) (ex : x ≡ get_or p.begin b 0)
    (ez : z ≡ get_or p.end b 0)
  where
    pub read_bounds : (x ≤ z) × (z - x ≤ max_states)
    read_bounds = let w = g.consistent.bounds b hb in (omega (arith, ex, ez, w.some), omega (arith, ex, ez, w.most, g.small))

    module _
        (σ : Store) (v : List ℕ) (r : ℕ) (num : Numbered (alike_at p.elements σ x) p.elements x (z - x) v r) (m : List ℕ)
        (em : m ≡ set p.marked_split b (get_or p.begin b 0))
      where
        -- the partition with the marks as they are written
        abbrev pub as_marked : Partition
        as_marked = parts p.elements p.element_offset p.element_to_block p.begin m p.end p.n p.count

        named : Numbered (alike_at p.elements σ (get_or p.begin b 0)) p.elements (get_or p.begin b 0)
            (get_or p.end b 0 - get_or p.begin b 0) v r
        named = rw (ex, ez) at num

        marked_parts : as_marked ≡ wholly p b
        marked_parts =
            ap (λ (l : List ℕ). parts p.elements p.element_offset p.element_to_block p.begin l p.end p.n p.count) em

        pub read_ready : Dividable as_marked b v
        read_ready = subst (λ (t : Partition). Dividable t b v) (sym marked_parts) (ready p g b hb σ v r named)

        pub read_divided : (q : Partition) → q ≡ partition_marked as_marked b v → q.n ≡ p.n → Split (stored_signature σ) p b q
        read_divided q e en =
            divided-next p g b hb σ v r named q (e ∙ ap (λ (t : Partition). partition_marked t b v) marked_parts) en
