-- The loop over the blocks with which a round begins.
use Rattle.std.specs.Prelude.{◌≡◌, ℕ, ◌+◌, ◌<◌, ◌≤◌}
use native.Mathlib.Omega.{arith}
use Rattle.partition.specs.Partition.{Partition, Sound}
use Rattle.refinement_rounds.specs.Splitting.{Split, Rounded}
use Rattle.refinement.specs.Rounds.{Signature}
use Rattle.refinement.specs.Runs.{RefinedBelow}
use Rattle.refinement.proofs.BlockByBlock.{below_none, below_all}

-- the blocks of p below b are divided
pub record Splitting (sig : Signature) (p : Partition) (b : ℕ) (q : Partition) : Type 0 where
  pub high : b ≤ p.count
  pub sound : Sound q
  pub more : p.count ≤ q.count
  pub below : RefinedBelow p.n sig p.element_to_block p.count b q.element_to_block

module _ (sig : Signature) (p : Partition) (g : Sound p) where
  pub all_start : Splitting sig p 0 p
  all_start = record {
    high = omega arith;
    sound = g;
    more = omega arith;
    below = below_none p.n sig p.element_to_block p.count;
  }

  module _ (b : ℕ) (q : Partition) (same : q.n ≡ p.n) (h : Splitting sig p b q) where
    pub all-next : b < p.count → (r : Partition) → Split sig q b r → Splitting sig p (b + 1) r
    all-next w r s = record {
      high = omega (arith, w);
      sound = s.sound;
      more = omega (arith, h.more, s.more);
      below = rw same at (s.turned p.element_to_block p.count (rw same h.below) w h.more);
    }

    pub all_done : p.count ≤ b → Rounded sig p q
    all_done w = record {
      sound = h.sound;
      more = h.more;
      refined =
          below_all p.n sig p.element_to_block p.count b q.element_to_block h.below
          (λ s l. omega (arith, (g.consistent.lies s l).known, w));
    }
