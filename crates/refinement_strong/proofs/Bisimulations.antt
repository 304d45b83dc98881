-- Strong signatures and bisimulations of one table: a partition is a bisimulation exactly if states that share a block have one
-- signature under it.
use mathlib.Core.Path.{◌≡◌, sym, subst, ◌∙◌}
use mathlib.Core.Logic.{◌↔◌}
use mathlib.Core.List.{List}
use Prim.Native.Nat.{ℕ, ◌<◌}
use Rattle.bisimulation.specs.Bisimulation.{InRange, Simulation, Bisimulation}
use Rattle.bisimulation.specs.Quotient.{Shares}
use Rattle.columns.specs.Blocks.{block_of}
use Rattle.bisimulation.proofs.Quotients.{shares_bisimulation}
use Rattle.columns.specs.Sets.{Mem, Pair}
use Rattle.refinement.specs.Rounds.{ByBlocks, Unsplit}
use Rattle.signatures.specs.Strong.{strong_signature}
use Rattle.signatures.proofs.Renumbered.{strong_alike}
use Rattle.signatures.proofs.StrongSigs.{Leads, strong_in, strong_out, strong_ext}
use Rattle.table.specs.Lts.{Lts, rows, Valid}
use Rattle.table.proofs.Rows.{step_fields}

-- the steps of a valid table are within its states
pub valid_range : (t : Lts) → Valid t → InRange t.n (rows t)
valid_range t v = record {
  source = λ s a u k. (step_fields t v s a u k).0;
  target = λ s a u k. (step_fields t v s a u k).1.1;
}

module _ (t : Lts) (v : Valid t) where
  -- the numbers of the blocks don't matter
  pub strong_by_blocks : ByBlocks t.n (strong_signature t)
  strong_by_blocks p q e s u hs hu h = strong_alike t v p q e.to s u h

  module _ (p : List ℕ) where
    -- ---- related states have one signature where no block separates related states
    module _ (R : ℕ → ℕ → Type 0) (within : (s u : ℕ) → s < t.n → u < t.n → R s u → block_of p s ≡ block_of p u) where
      leads_matched : Simulation (rows t) (rows t) R → (s u : ℕ) → R s u → (a b : ℕ) → Leads t p s a b → Leads t p u a b
      leads_matched f s u r a b l =
          let g = f s u a l.target r l.step in
          record {
            target = g.target;
            step = g.step;
            block =
                sym (within l.target g.target ((valid_range t v).target s a l.target l.step)
                ((valid_range t v).target u a g.target g.step) g.related)
                ∙ l.block;
          }

    pub related_signature :
        (R : ℕ → ℕ → Type 0) → Bisimulation (rows t) (rows t) R → ((s u : ℕ) → s < t.n → u < t.n → R s u → block_of p s ≡ block_of p u)
        → (s u : ℕ) → R s u → strong_signature t p s ≡ strong_signature t p u
    related_signature R b within s u r =
        strong_ext t p s u (leads_matched R within b.forth s u r)
        (leads_matched (λ x y. R y x) (λ x y hx hy q. sym (within y x hy hx q)) b.back u s r)

    -- ---- sharing a block
    shares_matched : Unsplit t.n (strong_signature t) p → Simulation (rows t) (rows t) (Shares t.n (block_of p))
    shares_matched f s u a x h k =
        let g =
        strong_out t p u a (block_of p x)
        (subst (λ (l : List Pair). Mem {A = Pair} (a, block_of p x) l) (f s u h.left h.right h.same) (strong_in t p s a x k)) in
        record {
          target = g.target;
          step = g.step;
          related = record {
            left = (valid_range t v).target s a x k;
            right = (valid_range t v).target u a g.target g.step;
            same = sym g.block;
          };
        }

    pub unsplit_bisimulation : Unsplit t.n (strong_signature t) p ↔ Bisimulation (rows t) (rows t) (Shares t.n (block_of p))
    unsplit_bisimulation = (
      λ f. shares_bisimulation (block_of p) (rows t) t.n (shares_matched f),
      λ b s u hs hu e.
          related_signature (Shares t.n (block_of p)) b (λ x y hx hy h. h.same) s u
          (record { left = hs; right = hu; same = e }),
    )
