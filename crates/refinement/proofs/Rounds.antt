-- Rounds of refinement by any signature: what a round does, that stopping is right, and that at most n - 1 rounds split something.
use mathlib.Core.Path.{◌≡◌, refl, sym, ap, subst, ◌∙◌}
use mathlib.Core.Logic.{◌↔◌, ⊎_elim}
use mathlib.Core.Bool.{true, false}
use mathlib.Core.List.{List}
use Prim.Native.Nat.{ℕ, zero, suc, ◌+◌, ◌-◌, ◌≤◌, ◌<◌}
use native.Mathlib.Omega.{arith}
use borrow.Author.Tests.{eqb-true, eq-eqb}
use lib.Dec.{eqb}
use lib.ListN.{length, length-replicate}
use Rattle.columns.specs.Blocks.{block_of}
use Rattle.columns.specs.Columns.{zeros}
use Rattle.columns.specs.Counting.{many}
use Rattle.columns.specs.Number.{least, leads, number}
use Rattle.columns.specs.Sets.{pair_eq, same}
use Rattle.columns.proofs.All.{not-below, lt-or-le}
use Rattle.columns.proofs.Bools.{contra, and_left, and_right, and_both, bool_ext}
use Rattle.columns.proofs.Counting.{first_law, many-none}
use Rattle.columns.proofs.Firsts.{first_hit}
use Rattle.columns.proofs.Lists.{length-listed, listed_at, listed_cong, listed_const, zeros_at}
use Rattle.columns.proofs.Numbering.{Equivalence, least_min, number_same, number_differ, number_cong}
use Rattle.columns.proofs.Sets.{same_eq, same_refl, pair_eq_eq, pair_eq_refl}
use Rattle.refinement.specs.Blocks.{SameBlocks, share, block_count, by_least}
use Rattle.refinement.specs.Rounds.{Signature, together, round, after_rounds, stable, splitting_rounds, final, Unsplit, Refined}
use Rattle.refinement.proofs.Blocks.{
  share_in,
  share_out,
  share_equivalence,
  blocks_most,
  blocks-some,
  finer_same,
  by_least_unique,
  by_least-below,
  Member,
  by_least_onto,
}

-- ---- the test of a round
module _ (sig : Signature) (p : List ℕ) where
  together_in : (s t : ℕ) → block_of p s ≡ block_of p t → sig p s ≡ sig p t → together sig p s t ≡ true
  unfolding together
  together_in s t e f = and_both (eq-eqb _ _ e) (rw f (same_refl pair_eq pair_eq_refl (sig p t)))

  together_block : (s t : ℕ) → together sig p s t ≡ true → block_of p s ≡ block_of p t
  unfolding together
  together_block s t h = eqb-true _ _ (and_left (eqb (block_of p s) (block_of p t)) (same pair_eq (sig p s) (sig p t)) h)

  together_sig : (s t : ℕ) → together sig p s t ≡ true → sig p s ≡ sig p t
  unfolding together
  together_sig s t h = same_eq pair_eq pair_eq_eq _ _ (and_right (eqb (block_of p s) (block_of p t)) (same pair_eq (sig p s) (sig p t)) h)

  together_equivalence : Equivalence (together sig p)
  together_equivalence = record {
    reflexive = λ s. together_in s s refl refl;
    symmetric = λ s t h. together_in t s (sym (together_block s t h)) (sym (together_sig s t h));
    transitive = λ s t u h k. together_in s u (together_block s t h ∙ together_block t u k) (together_sig s t h ∙ together_sig t u k);
  }

module _ (n : ℕ) (sig : Signature) where
  -- ---- one round splits every block by signature
  module _ (p : List ℕ) where
    round_at : (s : ℕ) → s < n → block_of (round n sig p) s ≡ number (together sig p) s
    unfolding round
    round_at s h = listed_at n (number (together sig p)) s h

    round_together : (s t : ℕ) → s < n → t < n → block_of (round n sig p) s ≡ block_of (round n sig p) t → together sig p s t ≡ true
    round_together s t hs ht e =
        number_differ (together sig p) (together_equivalence sig p) s t (sym (round_at s hs) ∙ e ∙ round_at t ht)

    pub round_refines : Refined n sig p (round n sig p)
    round_refines = record {
      block = λ s t hs ht e. together_block sig p s t (round_together s t hs ht e);
      signature = λ s t hs ht e. together_sig sig p s t (round_together s t hs ht e);
      joined = λ s t hs ht e f.
          round_at s hs ∙ number_same (together sig p) (together_equivalence sig p) s t (together_in sig p s t e f) ∙ sym (round_at t ht);
    }

    round_numbered : by_least n (round n sig p) ≡ round n sig p
    unfolding by_least round
    round_numbered = listed_cong n _ _ (number_cong n (share (round n sig p)) (together sig p) agree)
      where
        agree : (s t : ℕ) → s < n → t < n → share (round n sig p) s t ≡ together sig p s t
        agree s t hs ht =
            bool_ext _ _ (λ h. round_together s t hs ht (share_out (round n sig p) s t h))
            (λ h. share_in (round n sig p) s t (round_refines.joined s t hs ht (together_block sig p s t h) (together_sig sig p s t h)))

  -- ---- after k rounds
  pub after_none : (s : ℕ) → block_of (after_rounds n sig 0) s ≡ 0
  unfolding after_rounds
  after_none s = zeros_at n s

  pub after_refines : (k : ℕ) → Refined n sig (after_rounds n sig k) (after_rounds n sig (suc k))
  unfolding after_rounds
  after_refines k = round_refines (after_rounds n sig k)

  pub after-length : (k : ℕ) → length (after_rounds n sig k) ≡ n
  unfolding after_rounds round
  after-length zero = length-replicate n 0
  after-length (suc k) = length-listed n (number (together sig (after_rounds n sig k)))

  -- blocks are numbered by least member
  pub after-numbered : (k : ℕ) → by_least n (after_rounds n sig k) ≡ after_rounds n sig k
  unfolding after_rounds by_least number
  after-numbered zero = listed_cong n (number (share (zeros n))) (λ _. 0) none ∙ listed_const n 0
    where
      none : (s : ℕ) → s < n → many (least (share (zeros n)) s) (leads (share (zeros n))) ≡ 0
      none s h =
          let l : least (share (zeros n)) s ≤ 0
          = least_min (share (zeros n)) (share_equivalence (zeros n)) s 0 (share_in (zeros n) 0 s (zeros_at n 0 ∙ sym (zeros_at n s))) in
          let e : least (share (zeros n)) s ≡ 0 = omega arith in
          ap (λ (x : ℕ). many x (leads (share (zeros n)))) e ∙ many-none (leads (share (zeros n)))
  after-numbered (suc k) = round_numbered (after_rounds n sig k)

  -- ---- a round splits nothing exactly if states that share a block have one signature
  stable_eq : (k : ℕ) → stable n sig k ≡ true → after_rounds n sig (suc k) ≡ after_rounds n sig k
  unfolding stable
  stable_eq k h = same_eq eqb eqb-true _ _ h

  eq_stable : (k : ℕ) → after_rounds n sig (suc k) ≡ after_rounds n sig k → stable n sig k ≡ true
  unfolding stable
  eq_stable k e = rw e (same_refl eqb (λ x. eq-eqb x x refl) (after_rounds n sig k))

  same_stable : (k : ℕ) → SameBlocks n (after_rounds n sig k) (after_rounds n sig (suc k)) → stable n sig k ≡ true
  same_stable k e =
      eq_stable k
      (sym (after-numbered (suc k)) ∙ sym (by_least_unique n (after_rounds n sig k) (after_rounds n sig (suc k)) e) ∙ after-numbered k)

  pub stable_exactly : (k : ℕ) → (stable n sig k ≡ true) ↔ Unsplit n sig (after_rounds n sig k)
  stable_exactly k = (
    λ h s t hs ht e. (after_refines k).signature s t hs ht (rw (stable_eq k h) e),
    λ f. same_stable k (record { to = λ s t hs ht e. (after_refines k).joined s t hs ht e (f s t hs ht e); from = (after_refines k).block }),
  )

  -- ---- each round that splits makes a block more
  pub unstable_more : (k : ℕ) → stable n sig k ≡ false → block_count n (after_rounds n sig k) < block_count n (after_rounds n sig (suc k))
  unstable_more k h =
      not-below
      (λ l. contra
      (same_stable k (finer_same n (after_rounds n sig k) (after_rounds n sig (suc k)) (after_refines k).block (omega (arith, l)))) h)

  -- while all rounds before split, there are more than k blocks
  pub blocks-after : 0 < n → (k : ℕ) → ((j : ℕ) → j < k → stable n sig j ≡ false) → k < block_count n (after_rounds n sig k)
  blocks-after h zero f = blocks-some n (after_rounds n sig zero) h
  blocks-after h (suc k) f = omega (arith, blocks-after h k (λ j l. f j (omega arith)), unstable_more k (f k (omega arith)))

  -- ---- the rounds that split: just those before the number of them
  pub rounds_split : (k : ℕ) → k < splitting_rounds n sig → stable n sig k ≡ false
  unfolding splitting_rounds
  rounds_split k h = (first_law n (stable n sig)).before k h

  -- at most n - 1
  pub rounds_most : 0 < n → splitting_rounds n sig < n
  rounds_most h =
      omega (arith, blocks-after h (splitting_rounds n sig) rounds_split, blocks_most n (after_rounds n sig (splitting_rounds n sig)))

  pub rounds_stop : 0 < n → stable n sig (splitting_rounds n sig) ≡ true
  unfolding splitting_rounds
  rounds_stop h = (first_law n (stable n sig)).hit (rounds_most h)

  pub rounds_only : 0 < n → (k : ℕ) → ((j : ℕ) → j < k → stable n sig j ≡ false) → stable n sig k ≡ true → k ≡ splitting_rounds n sig
  unfolding splitting_rounds
  rounds_only h k f e = first_hit n (stable n sig) k (omega (arith, blocks-after h k f, blocks_most n (after_rounds n sig k))) f e

  -- ---- what they leave
  pub final_length : length (final n sig) ≡ n
  unfolding final
  final_length = after-length (splitting_rounds n sig)

  pub final_numbered : by_least n (final n sig) ≡ final n sig
  unfolding final
  final_numbered = after-numbered (splitting_rounds n sig)

  pub final_unsplit : 0 < n → Unsplit n sig (final n sig)
  unfolding final
  final_unsplit h = (stable_exactly (splitting_rounds n sig)).0 (rounds_stop h)

  pub final_below : (s : ℕ) → s < n → block_of (final n sig) s < block_count n (final n sig)
  final_below s h = omega (arith, by_least-below n (final n sig) s h, ap (λ (p : List ℕ). block_of p s) final_numbered)

  pub final_onto : (b : ℕ) → b < block_count n (final n sig) → Member n (final n sig) b
  final_onto b h = subst (λ (p : List ℕ). Member n p b) final_numbered (by_least_onto n (final n sig) b h)

  -- stopping is right: no later round splits anything
  pub final_stays : 0 < n → (j : ℕ) → after_rounds n sig (j + splitting_rounds n sig) ≡ final n sig
  unfolding final after_rounds
  final_stays h zero = let e : 0 + splitting_rounds n sig ≡ splitting_rounds n sig = omega arith in ap (after_rounds n sig) e
  final_stays h (suc j) =
      let e : suc j + splitting_rounds n sig ≡ suc (j + splitting_rounds n sig) = omega arith in
      ap (after_rounds n sig) e ∙ ap (round n sig) (final_stays h j) ∙ stable_eq (splitting_rounds n sig) (rounds_stop h)

  -- the rounds that split something are just the first of that number
  pub rounds_exactly : 0 < n → (k : ℕ) → (stable n sig k ≡ false) ↔ (k < splitting_rounds n sig)
  rounds_exactly h k = (λ e. ⊎_elim (λ l. l) (λ l. absurd (contra (later l) e)) (lt-or-le k (splitting_rounds n sig)), rounds_split k)
    where
      later : splitting_rounds n sig ≤ k → stable n sig k ≡ true
      later l =
          let e : k - splitting_rounds n sig + splitting_rounds n sig ≡ k = omega arith in
          let f : suc (k - splitting_rounds n sig) + splitting_rounds n sig ≡ suc k = omega arith in
          eq_stable k
          (ap (after_rounds n sig) (sym f)
          ∙ final_stays h (suc (k - splitting_rounds n sig))
          ∙ sym (final_stays h (k - splitting_rounds n sig))
          ∙ ap (after_rounds n sig) e)

  -- ---- a relation that no round separates: it suffices that signatures agree where it lies within the blocks
  module _ (R : ℕ → ℕ → Type 0) where
    abbrev pub Inside : ℕ → Type 0
    Inside k = (s t : ℕ) → s < n → t < n → R s t → block_of (after_rounds n sig k) s ≡ block_of (after_rounds n sig k) t

    pub inside :
        ((k : ℕ) → Inside k → (s t : ℕ) → s < n → t < n → R s t → sig (after_rounds n sig k) s ≡ sig (after_rounds n sig k) t)
        → (k : ℕ) → Inside k
    inside f zero s t hs ht r = after_none s ∙ sym (after_none t)
    inside f (suc k) s t hs ht r = (after_refines k).joined s t hs ht (inside f k s t hs ht r) (f k (inside f k) s t hs ht r)
