-- What is proved of the strong reduction, sentence by sentence. A step is a row (specs/Lts of `table`), a bisimulation is defined in
-- specs/Bisimulation of `bisimulation`, the reduction in specs/Reduction.
-- Every label is an ordinary one, the hidden one too, and states that are not reachable stay.
use mathlib.Core.Path.{◌≡◌, sym, subst, ◌∙◌}
use mathlib.Core.Logic.{◌↔◌}
use mathlib.Core.List.{List}
use Prim.Native.Nat.{ℕ, ◌-◌, ◌≤◌, ◌<◌}
use native.Mathlib.Omega.{arith}
use Rattle.bisimulation.specs.Bisimulation.{Match, Bisimilar}
use Rattle.bisimulation.specs.Quotient.{Shares}
use Rattle.columns.specs.Blocks.{block_of, Finer}
use Rattle.bisimulation.proofs.Bisimulations.{bisimilar_turned, bisimilar_composed}
use Rattle.columns.specs.Columns.{listed}
use Rattle.columns.proofs.Lists.{listed_at}
use Rattle.refinement.specs.Blocks.{SameBlocks, by_least}
use Rattle.refinement.proofs.Blocks.{Member, finer_more, by_least_unique}
use Rattle.refinement.proofs.Counts.{blocks-below}
use Rattle.refinement.proofs.Rounds.{rounds_most, final_numbered}
use Rattle.refinement_strong.specs.Reduction.{strong_blocks, strong_block, strong_rounds, strong_count, quotient_of, strong_reduced, In}
use Rattle.refinement_strong.proofs.Quotients.{quotient_of_table, quotient_of_own, quotient_of-start, quotient_of_step}
use Rattle.refinement_strong.proofs.Reductions.{blocks_bisimulation, within_blocks, state_and_block, block_member, reduced_valid}
use Rattle.refinement_strong.proofs.Again.{AllApart, own_blocks, own_count, own_block, own_rows_lem}
use Rattle.signatures.specs.Strong.{strong_signature}
use Rattle.table.specs.Lts.{Lts, rows, Step, Valid}
use Rattle.table.specs.Tables.{table_of}

module _ (t : Lts) where
  -- Each step of a state is a step of its block.
  pub step_of_block : (s a u : ℕ) → Step t s a u → Step (strong_reduced t) (strong_block t s) a (strong_block t u)
  unfolding strong_reduced
  step_of_block = quotient_of_step t (strong_count t) (strong_blocks t)

  -- The start maps to the start.
  pub start_to_start : (strong_reduced t).initial ≡ strong_block t t.initial
  unfolding strong_reduced
  start_to_start = quotient_of-start t (strong_count t) (strong_blocks t)

module _ (t : Lts) (v : Valid t) where
  -- Each step of a block is answered by every state in it, with a target in the right block.
  pub block_answered : (b a c : ℕ) → Step (strong_reduced t) b a c → (s : ℕ) → In t s b → Match (rows t) s a (λ u. In t u c)
  block_answered b a c k s h = (state_and_block t v).back b s a c h k

  -- Two states share a block exactly if some bisimulation relates them.
  pub share_exactly : (s u : ℕ) → s < t.n → u < t.n → (strong_block t s ≡ strong_block t u) ↔ Bisimilar (rows t) (rows t) s u
  share_exactly s u hs hu = (
    λ e.
        record {
          relation = Shares t.n (strong_block t);
          bisimulation = blocks_bisimulation t v;
          related = record { left = hs; right = hu; same = e };
        },
    λ b. within_blocks t v b.relation b.bisimulation s u hs hu b.related,
  )

  -- No table is smaller that keeps every state's behaviour: one that has, for each state s, a state f s that some bisimulation relates to
  -- it has no fewer states than the reduction. States that are not reachable count too; of rows nothing is claimed.
  pub smallest :
      (u : Lts) (f : ℕ → ℕ) → ((s : ℕ) → s < t.n → (f s < u.n) × Bisimilar (rows t) (rows u) s (f s)) → (strong_reduced t).n ≤ u.n
  unfolding strong_reduced quotient_of table_of
  smallest u f like =
      omega (arith, finer_more t.n (strong_blocks t) partners finer, blocks-below t.n u.n partners below)
    where
      -- the state of u that a state goes to, taken for its block
      partners : List ℕ
      partners = listed t.n f

      below : (s : ℕ) → s < t.n → block_of partners s < u.n
      below s h = omega (arith, listed_at t.n f s h, (like s h).0)

      finer : Finer t.n partners (strong_blocks t)
      finer s x hs hx e =
          let same : f s ≡ f x = sym (listed_at t.n f s hs) ∙ e ∙ listed_at t.n f x hx in
          (share_exactly s x hs hx).1
          (bisimilar_composed (subst (λ (y : ℕ). Bisimilar (rows t) (rows u) s y) same (like s hs).1)
          (bisimilar_turned (like x hx).1))

  -- There are at most n - 1 rounds that split something.
  pub rounds_few : strong_rounds t ≤ t.n - 1
  unfolding strong_rounds
  rounds_few = omega (arith, rounds_most t.n (strong_signature t) v.some_states)

  -- No other column of numbers by least member has that two states share a number exactly if some bisimulation relates them.
  pub blocks_unique :
      (p : List ℕ) → by_least t.n p ≡ p
      → ((s u : ℕ) → s < t.n → u < t.n → (block_of p s ≡ block_of p u) ↔ Bisimilar (rows t) (rows t) s u) → p ≡ strong_blocks t
  unfolding strong_blocks
  blocks_unique p l f = sym l ∙ by_least_unique t.n p (strong_blocks t) both ∙ final_numbered t.n (strong_signature t)
    where
      both : SameBlocks t.n p (strong_blocks t)
      both = record {
        to = λ s u hs hu e. (share_exactly s u hs hu).1 ((f s u hs hu).0 e);
        from = λ s u hs hu e. (f s u hs hu).1 ((share_exactly s u hs hu).0 e);
      }

  -- Nothing is left to reduce: blocks that some bisimulation relates are one block.
  pub blocks_apart : AllApart (strong_reduced t)
  blocks_apart b c hb hc r =
      let f = block_member t v b hb in
      let g = block_member t v c hc in
      let like : Bisimilar (rows t) (rows t) f.state g.state
      = bisimilar_composed (to_block b f) (bisimilar_composed r (bisimilar_turned (to_block c g))) in
      sym f.home ∙ (share_exactly f.state g.state f.below g.below).1 like ∙ g.home
    where
      to_block : (b : ℕ) (f : Member t.n (strong_blocks t) b) → Bisimilar (rows t) (rows (strong_reduced t)) f.state b
      to_block b f = record {
        relation = In t;
        bisimulation = state_and_block t v;
        related = record { state = f.below; home = f.home };
      }

-- ---- a reduced table, reduced again
module _ (t : Lts) (v : Valid t) where
  -- Each state of a reduced table is its own block.
  pub each_its_own : strong_blocks (strong_reduced t) ≡ listed (strong_reduced t).n (λ s. s)
  each_its_own = own_blocks (strong_reduced t) (reduced_valid t v) (blocks_apart t v)

  -- Reducing a reduced table gives the same table again.
  pub reduced_again : strong_reduced (strong_reduced t) ≡ strong_reduced t
  unfolding strong_reduced
  reduced_again =
      let r = strong_reduced t in
      let w = reduced_valid t v in
      let apart = blocks_apart t v in
      quotient_of_own r (strong_count r) (strong_blocks r) (own_count r w apart) (own_block r w apart r.initial w.initial)
      (own_rows_lem r w apart)
      ∙ quotient_of_table t (strong_count t) (strong_blocks t)
