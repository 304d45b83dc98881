-- What `partition_marked` leaves alone: the other blocks keep their table entries, nothing but the marked stretch is moved, and the
-- number of blocks grows by exactly the blocks made.
use Rattle.std.specs.Prelude.{◌≡◌, ℕ, ◌+◌, ◌-◌, ◌<◌, ◌≤◌, true, false, ◌⊎◌, List, get_or}
use native.Mathlib.Omega.{arith}
use mathlib.Core.Path.{refl, ap, sym, subst, ◌∙◌}
use mathlib.Core.Logic.{⊎_elim}
use lib.Seq.{get_or-set_other}
use Rattle.columns.specs.Limits.{max_states}
use Rattle.columns.proofs.All.{same_or_not}
use Rattle.columns.proofs.Stores.{stores_miss}
use Rattle.partition.specs.Partition.{Partition, Consistent, Long, Sound}
use Rattle.partition.specs.SwapBlocks.{exchange, swap}
use Rattle.partition.proofs.SwapKeeps.{swap_begin, swap-split, swap_end}
use Rattle.partition.proofs.SwapLaws.{exchange_other}
use Rattle.partition_division.specs.Marked.{missing, denseb, len_at}
use Rattle.partition.specs.Marked.{marked_in}
use Rattle.partition_division.specs.Steps.{Dividable}
use Rattle.partition_division.specs.Divide.{position, has_unmarked_at, home, divided, largest_of, block_unmarked, partition_marked}
use Rattle.partition_division.proofs.Marked.{place_least, place_most}
use Rattle.partition_division.proofs.Divided.{
  home_where,
  home_end,
  home_new,
  some_number,
  count_more,
  divided_consistent,
  divided_long,
  begin_still,
  split_still,
  end_still,
}
use Rattle.partition_division.proofs.PartitionMarked.{is-largest, by_one, by_more, partition_marked_consistent, partition_marked_long}

pub record OthersStay (p : Partition) (b : ℕ) (r : Partition) : Type 0 where
  -- the table's entries of the other blocks
  pub begins : (j : ℕ) → j < p.count → (j ≡ b → ⊥) → get_or r.begin j 0 ≡ get_or p.begin j 0
  pub splits : (j : ℕ) → j < p.count → (j ≡ b → ⊥) → get_or r.marked_split j 0 ≡ get_or p.marked_split j 0
  pub ends : (j : ℕ) → j < p.count → (j ≡ b → ⊥) → get_or r.end j 0 ≡ get_or p.end j 0
  -- every position but those of the marked stretch of block b
  pub positions : (k : ℕ) → (k < get_or p.marked_split b 0) ⊎ (get_or p.end b 0 ≤ k) → get_or r.elements k 0 ≡ get_or p.elements k 0

module _ (p : Partition) (b : ℕ) (v : List ℕ) (h : Consistent p) (g : Long p) (hb : b < p.count)
    (mk : get_or p.marked_split b 0 < get_or p.end b 0) where
  module _ (d : denseb p b v ≡ true) where
    l : ℕ
    l = largest_of p (divided p b v) b

    away : (j : ℕ) → j < p.count → (j ≡ b → ⊥) → (k : ℕ) → home p b k ≡ j → ⊥
    away j w m k q = ⊎_elim (λ x. m (sym q ∙ x.0)) (λ x. omega (arith, w, q, x)) (home_where p b k h.some)

    more : p.count ≤ (divided p b v).count
    unfolding divided
    more = count_more p b v h g hb mk d

    l_known : l < (divided p b v).count
    unfolding l
    l_known = ⊎_elim (λ e. omega (arith, e, hb, more)) (λ x. omega (arith, x.1, more)) (is-largest p b v h g hb mk d).one

    stays : (j : ℕ) → j < p.count → (j ≡ b → ⊥) → exchange b l j ≡ j
    unfolding l
    stays j w m =
        exchange_other b l j m
        (λ e. ⊎_elim (λ x. m (e ∙ x)) (λ x. omega (arith, w, e, x.0)) (is-largest p b v h g hb mk d).one)

    OK : Consistent (divided p b v)
    OK = divided_consistent p b v h g hb mk d

    LONG : Long (divided p b v)
    LONG = divided_long p b v h g hb mk d

    B : b < (divided p b v).count
    B = omega (arith, hb, more)

    others : OthersStay p b (swap (divided p b v) b (largest_of p (divided p b v) b))
    unfolding l divided swap
    others =
        record {
          begins = λ j w m.
              swap_begin (divided p b v) OK LONG b l B l_known j ∙ ap (λ (x : ℕ). get_or (divided p b v).begin x 0) (stays j w m)
              ∙ begin_still p b v h g hb mk d j (away j w m);
          splits = λ j w m.
              swap-split (divided p b v) OK LONG b l B l_known j ∙ ap (λ (x : ℕ). get_or (divided p b v).marked_split x 0) (stays j w m)
              ∙ split_still p b v h g hb mk d j (away j w m);
          ends = λ j w m.
              swap_end (divided p b v) OK LONG b l B l_known j ∙ ap (λ (x : ℕ). get_or (divided p b v).end x 0) (stays j w m)
              ∙ end_still p b v h g hb mk d j (away j w m) m;
          positions = λ k o.
              stores_miss (marked_in p b) (position p b v) (λ s. s) p.n p.elements k
              (λ s w y q.
              ⊎_elim (λ x. omega (arith, q, x, place_least p b v s w y)) (λ x. omega (arith, q, x, place_most p b v h hb s w y)) o);
        }

  alone : OthersStay p b (block_unmarked p b)
  unfolding block_unmarked
  alone =
      record {
        begins = λ j w m. refl;
        splits = λ j w m. get_or-set_other p.marked_split b j (get_or p.end b 0) 0 m;
        ends = λ j w m. refl;
        positions = λ k o. refl;
      }

module _ (p : Partition) (b : ℕ) (v : List ℕ) (y : Dividable p b v) where
  pub partition_marked_others : OthersStay p b (partition_marked p b v)
  partition_marked_others =
      ⊎_elim (λ e. subst (OthersStay p b) (sym (by_one p b v y e))
      (alone p b v y.sound.consistent y.sound.long y.known y.some))
      (λ m. subst (OthersStay p b) (sym (by_more p b v y m))
      (others p b v y.sound.consistent y.sound.long y.known y.some (y.dense m)))
      (same_or_not (len_at p b) 1)

  pub partition_marked_sound : Sound (partition_marked p b v)
  unfolding block_unmarked divided swap
  partition_marked_sound =
      record {
        small =
            ⊎_elim (λ e. subst (λ (r : Partition). r.n ≤ max_states) (sym (by_one p b v y e)) y.sound.small)
            (λ m. subst (λ (r : Partition). r.n ≤ max_states) (sym (by_more p b v y m)) y.sound.small) (same_or_not (len_at p b) 1);
        long = partition_marked_long p b v y;
        consistent = partition_marked_consistent p b v y;
      }

  -- a lone state makes no block
  pub count_alone : len_at p b ≡ 1 → (partition_marked p b v).count ≡ p.count
  unfolding block_unmarked
  count_alone e = ap (λ (r : Partition). r.count) (by_one p b v y e)

  -- each number makes one where something is unmarked; where nothing is, number 0 keeps the index
  pub count_marked : (len_at p b ≡ 1 → ⊥) → has_unmarked_at p b ≡ true → (partition_marked p b v).count ≡ p.count + missing p b v
  unfolding divided swap
  count_marked m u = ap (λ (r : Partition). r.count) (by_more p b v y m) ∙ home_end p b (missing p b v) u

  pub count_all : (len_at p b ≡ 1 → ⊥) → has_unmarked_at p b ≡ false → (partition_marked p b v).count ≡ p.count + missing p b v - 1
  unfolding divided swap
  count_all m u =
      ap (λ (r : Partition). r.count) (by_more p b v y m)
      ∙ home_new p b (missing p b v) u (λ q. omega (
        arith,
        q,
        some_number p b v y.sound.consistent y.sound.long y.known y.some
            (y.dense m),
      ))
