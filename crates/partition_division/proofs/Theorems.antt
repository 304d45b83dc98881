-- What `partition_marked_with` has done where it says done, in document 01's words. p is the partition that is lent, b the block, v the
-- column of the numbers, and q the partition at return.
use Rattle.std.specs.Prelude.{◌≡◌, ℕ, ◌<◌, ◌≤◌, Bool, true, false, cond, ltb, ◌⊎◌, List, [], ◌∷◌, length, get_or}
use native.Mathlib.Omega.{arith}
use mathlib.Core.Path.{refl, ap, sym, subst, ◌∙◌}
use mathlib.Core.Logic.{inl, inr, ⊎_elim}
use Rattle.columns.specs.Answers.{done}
use Rattle.columns.specs.Counting.{members}
use Rattle.columns.specs.Sort.{sort}
use Rattle.columns.proofs.Doing.{leaving_done}
use Rattle.partition.specs.Partition.{Partition, Consistent, Long, Sound}
use Rattle.partition.specs.SwapBlocks.{exchange, swap}
use Rattle.partition.proofs.SwapKeeps.{swap_block}
use Rattle.partition_division.specs.Marked.{missing, denseb, len_at}
use Rattle.partition.specs.Marked.{marked_in}
use Rattle.partition_division.specs.Divide.{home, divided, largest_of, block_unmarked, partition_marked}
use Rattle.partition_division.specs.Division.{Work, division_refusal, cleared_work, partition_marked_with}
use Rattle.partition_division.specs.Steps.{Dividable}
use Rattle.partition_division.proofs.Divided.{
  count_more,
  divided_consistent,
  divided_long,
  offset_kept,
  block_marked,
  block_kept,
}
use Rattle.partition_division.proofs.Layouts.{marked_stretch, divided_layout}
use Rattle.partition_division.proofs.Others.{OthersStay, partition_marked_others, partition_marked_sound}
use Rattle.partition_division.proofs.PartitionMarked.{
  is-largest,
  by_one,
  by_more,
  partition_marked-unmarked,
  partition_marked-largest,
  partition_marked_last,
}
use Rattle.partition_division.proofs.Unfit.{division_ready}
-- How many blocks there are then.
pub use Rattle.partition_division.proofs.Others.{count_alone, count_marked, count_all}

-- block j is a result: the old index, or a new one at the end
abbrev pub Result : Partition → ℕ → Partition → ℕ → Type 0
Result p b q j = (j ≡ b) ⊎ ((p.count ≤ j) × (j < q.count))

pub record Division (p : Partition) (b : ℕ) (v : List ℕ) (q : Partition) : Type 0 where
  -- marked states, ascending, are laid out stably by number in the marked stretch
  pub layout : marked_stretch p b q.elements ≡ sort ltb (λ s. get_or v s 0) (members p.n (marked_in p b))
  -- unmarked states keep their places, and so do those of other blocks
  pub places : (s : ℕ) → s < p.n → marked_in p b s ≡ false → get_or q.element_offset s 0 ≡ get_or p.element_offset s 0
  -- each number has a block, `home`: all get new ones at the end, and with no unmarked states number 0 keeps the index
  pub count : q.count ≡ home p b (missing p b v)
  -- unmarked states keep the old index; then the old index is swapped with that of the largest result
  pub largest : ℕ
  pub blocks : (s : ℕ) → s < p.n
      → get_or q.element_to_block s 0
      ≡ exchange b largest (cond (marked_in p b s) (home p b (get_or v s 0)) (get_or p.element_to_block s 0))
  -- it was a result, and none is larger; of equals it was the last
  pub result : Result p b q largest
  pub longest : (j : ℕ) → Result p b q j → len_at q j ≤ len_at q b
  pub last : (j : ℕ) → Result p b q j → largest < j → len_at q j < len_at q b
  -- all resulting blocks are unmarked
  pub unmarked : (j : ℕ) → Result p b q j → get_or q.marked_split j 0 ≡ get_or q.end j 0
  -- nothing else is changed, and what is left is a partition
  pub others : OthersStay p b q
  pub sound : Sound q

-- a call that says these numbers, leaves q in the columns and w' in the work slices, which held w
pub record DivisionDone (p : Partition) (b : ℕ) (v : List ℕ) (w : Work) (said : List ℕ) (q : Partition) (w' : Work) : Type 0 where
  -- the columns held a partition, the block had a marked state, and the numbers were dense
  pub ready : Dividable p b v
  -- the answer is the old index and the run of new ones
  pub answer : said ≡ b ∷ p.count ∷ q.count ∷ []
  pub work : w' ≡ cleared_work w
  -- a block of one state is only unmarked
  pub alone : len_at p b ≡ 1 → q ≡ block_unmarked p b
  pub divided : (len_at p b ≡ 1 → ⊥) → Division p b v q

module _ (p : Partition) (b : ℕ) (v : List ℕ) (y : Dividable p b v) (m : len_at p b ≡ 1 → ⊥) where
  abbrev D : Partition
  D = divided p b v

  abbrev l : ℕ
  l = largest_of p D b

  abbrev h : Consistent p
  h = y.sound.consistent

  abbrev g : Long p
  g = y.sound.long

  abbrev d : denseb p b v ≡ true
  d = y.dense m

  more : p.count ≤ D.count
  unfolding divided
  more = count_more p b v h g y.known y.some d

  l_result : Result p b D l
  l_result = ⊎_elim (λ e. inl e) (λ x. inr (x.0, omega (arith, x.1, more))) (is-largest p b v h g y.known y.some d).one

  l_known : l < D.count
  l_known = ⊎_elim (λ e. omega (arith, e, more, y.known)) (λ x. x.1) l_result

  -- before the largest result gets the old index
  first_block : (s : ℕ) → s < p.n
      → get_or D.element_to_block s 0 ≡ cond (marked_in p b s) (home p b (get_or v s 0)) (get_or p.element_to_block s 0)
  first_block s w = go (marked_in p b s) refl
    where
      go : (t : Bool) → marked_in p b s ≡ t
          → get_or D.element_to_block s 0 ≡ cond t (home p b (get_or v s 0)) (get_or p.element_to_block s 0)
      go true e = block_marked p b v h g y.known y.some d s w e
      go false e = block_kept p b v h g y.known y.some d s w e

  division : Division p b v (swap D b l)
  unfolding divided swap
  division =
      record {
        layout = divided_layout p b v h g y.known y.some d;
        places = λ s w e. offset_kept p b v h g y.known y.some d s w e;
        count = refl;
        largest = l;
        blocks = λ s w.
            swap_block D (divided_consistent p b v h g y.known y.some d) (divided_long p b v h g y.known y.some d) b l
            (omega (arith, more, y.known)) l_known s w
            ∙ ap (exchange b l) (first_block s w);
        result = l_result;
        longest = λ j r.
            ⊎_elim (λ e. omega (arith, ap (len_at (swap D b l)) e))
            (λ x. subst (λ (t : Partition). j < t.count → len_at t j ≤ len_at t b) (by_more p b v y m)
            (partition_marked-largest p b v y j x.0) x.1)
            r;
        last = λ j r a.
            ⊎_elim (λ e. absurd (⊎_elim (λ i. omega (arith, e, i, a)) (λ i. omega (arith, e, i.0, a, y.known)) l_result))
            (λ x. subst (λ (t : Partition). j < t.count → len_at t j < len_at t b) (by_more p b v y m)
            (partition_marked_last p b v y m j a x.0) x.1)
            r;
        unmarked = λ j r.
            subst (λ (t : Partition). j < t.count → get_or t.marked_split j 0 ≡ get_or t.end j 0) (by_more p b v y m)
            (partition_marked-unmarked p b v y j (⊎_elim (λ e. inl e) (λ x. inr x.0) r))
            (⊎_elim (λ e. omega (arith, e, more, y.known)) (λ x. x.1) r);
        others = subst (OthersStay p b) (by_more p b v y m) (partition_marked_others p b v y);
        sound = subst Sound (by_more p b v y m) (partition_marked_sound p b v y);
      }

pub partition_marked_with_done :
    (p : Partition) (b : ℕ) (v : List ℕ) (w : Work) (said : List ℕ) (q : Partition) (w' : Work)
    → (done said, (q, w')) ≡ partition_marked_with p b v w → DivisionDone p b v w said q w'
unfolding partition_marked_with division_refusal
partition_marked_with_done p b v w said q w' e =
    let r = partition_marked p b v in
    let k =
    leaving_done (division_refusal p b v w) (p, w) (q, w') (r, cleared_work w) said (b ∷ p.count ∷ r.count ∷ []) e in
    let y = (division_ready p b v (length w.old_elements ∷ length w.block_sizes ∷ length w.spare ∷ [])
    (division_refusal p b v w) refl k.0).ready in
    let i : q ≡ r = ap (λ (x : Partition × Work). x.0) k.2 in
    record {
      ready = y;
      answer = k.1 ∙ ap (λ (t : Partition). b ∷ p.count ∷ t.count ∷ []) (sym i);
      work = ap (λ (x : Partition × Work). x.1) k.2;
      alone = λ a. i ∙ by_one p b v y a;
      divided = λ m. subst (Division p b v) (sym (i ∙ by_more p b v y m)) (division p b v y m);
    }
