-- A round by the stored signatures is a round by the signatures that they are; and the loop of the rounds.
use Rattle.std.specs.Prelude.{◌≡◌, ℕ, ◌+◌, ◌<◌, List}
use mathlib.Core.Path.{sym, ◌∙◌}
use native.Mathlib.Omega.{arith}
use Rattle.partition.specs.Partition.{Partition, parts, Sound}
use Rattle.refinement_partition.proofs.Counts.{count_blocks}
use Rattle.refinement_partition.proofs.Runs.{rounds_below, round_more, round_done}
use Rattle.refinement_rounds.specs.Splitting.{stored_signature, Rounded, Ended}
use Rattle.refinement_signing.specs.Stored.{Store, AllSigned}
use Rattle.refinement.specs.Rounds.{Signature, ByBlocks}
use Rattle.refinement.proofs.Ties.{Running, run_start}

-- p with other cells behind its states, divided by the signatures that are stored
pub by_signatures :
    (sig : Signature) (σ : Store) (p : Partition) (elements offset : List ℕ) (q : Partition) → σ.n ≡ p.n
    → AllSigned σ (sig p.element_to_block)
    → Rounded (stored_signature σ) (parts elements offset p.element_to_block p.begin p.marked_split p.end p.n p.count) q
    → Rounded sig p q
by_signatures sig σ p elements offset q same g r =
    let f = r.refined in
    record {
      sound = r.sound;
      more = r.more;
      refined = record {
        block = f.block;
        signature = λ s t hs ht e.
            sym (g.signature s (omega (arith, hs, same))) ∙ f.signature s t hs ht e ∙ g.signature t (omega (arith, ht, same));
        joined = λ s t hs ht e h.
            f.joined s t hs ht e (g.signature s (omega (arith, hs, same)) ∙ h ∙ sym (g.signature t (omega (arith, ht, same))));
      };
    }

-- ---- a run: k rounds have split something
pub record RoundsGoing (sig : Signature) (k : ℕ) (q : Partition) : Type 0 where
  pub sound : Sound q
  pub running : Running q.n sig k q.element_to_block

module _ (sig : Signature) (p : Partition) (by : ByBlocks p.n sig) where
  pub go_start : Sound p → p.count ≡ 1 → RoundsGoing sig 0 p
  go_start g e = record {
    sound = g;
    running = run_start p.n sig by p.element_to_block (λ s l. omega (arith, (g.consistent.lies s l).known, e));
  }

  module _ (k : ℕ) (h : RoundsGoing sig k p) where
    some_states : 0 < p.n
    some_states = omega (arith, h.sound.consistent.some, h.sound.consistent.most)

    -- fewer rounds than states
    pub go_few : k < p.n
    go_few =
        omega (
          arith,
          rounds_below p.n sig by k p.element_to_block p.count h.running (count_blocks p h.sound.consistent) some_states,
          h.sound.consistent.most,
        )

    module _ (q : Partition) (same : q.n ≡ p.n) (r : Rounded sig p q) where
      pub go_more : (q.count ≡ p.count → ⊥) → RoundsGoing sig (k + 1) q
      go_more m = record {
        sound = r.sound;
        running =
            rw same
            (round_more p.n sig by k p.element_to_block p.count h.running (count_blocks p h.sound.consistent) q
            r.sound.consistent same r.refined (omega (arith, r.more, m)));
      }

      pub go_done : q.count ≡ p.count → Ended sig k q
      go_done e = record {
        sound = r.sound;
        settled =
            rw same
            (round_done p.n sig by k p.element_to_block p.count h.running (count_blocks p h.sound.consistent) q
            r.sound.consistent same r.refined some_states (omega (arith, e)));
      }
