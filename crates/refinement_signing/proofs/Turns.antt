-- The loop over the states that stores their strong signatures.
use mathlib.Core.Path.{◌≡◌, ap, ◌∙◌}
use mathlib.Core.List.{List, ◌++◌}
use Prim.Native.Nat.{ℕ, ◌+◌, ◌≤◌, ◌<◌}
use native.Mathlib.Omega.{arith}
use lib.ListN.{length, get_or, set}
use Rattle.columns.specs.Columns.{laid}
use Rattle.columns.specs.Rows.{pairs_of}
use Rattle.columns.specs.Sets.{Pair}
use Rattle.refinement_signing.specs.Stored.{row_pairs, AllSigned, store}
use Rattle.refinement_signing.proofs.Laying.{Laying, lay_none, lay_more, lay_done}
use Rattle.refinement_signing.proofs.OwnRows.{own_pairs}
use Rattle.signatures.specs.Pairs.{signature}
use Rattle.signatures.specs.Strong.{own_rows, row_pair, strong_pushed, strong_signature}
use Rattle.table.specs.Lts.{Lts, Valid}
use Rattle.table.specs.Stretch.{first_row}
use Rattle.table.proofs.RowsOf.{RowsFrom, rows_from, first_row_is}

-- the states below s are signed, whose rows are those before i
pub record Signing (t : Lts) (home : List ℕ) (s i : ℕ) (labels blocks : List ℕ) (d : ℕ) (begins : List ℕ) : Type 0 where
  pub laying : Laying (strong_signature t home) s labels blocks d begins
  pub row : i ≡ first_row t.source t.m s
  pub most : i ≤ t.m
  pub few : d ≤ i

module _ (t : Lts) (v : Valid t) (home : List ℕ) where
  pub turn_start : (labels blocks begins : List ℕ) → Signing t home 0 0 labels blocks 0 begins
  turn_start labels blocks begins = record {
    laying = lay_none (strong_signature t home) labels blocks begins;
    row = first_row_is t.source t.m 0 0 (omega arith) (λ i l. absurd (omega arith)) (λ i a b. omega arith);
    most = omega arith;
    few = omega arith;
  }

  module _ {s i : ℕ} {labels blocks : List ℕ} {d : ℕ} {begins : List ℕ} (h : Signing t home s i labels blocks d begins) where
    module _ {end : ℕ} (e : end ≡ first_row t.source t.m (s + 1)) where
      pub turn_rows : RowsFrom t s i end
      turn_rows = rows_from t v s i end h.row e

      pub turn_more :
          {r : ℕ} {x y : List ℕ} → s < length begins → r ≤ end
          → pairs_of r x y ≡ pairs_of d labels blocks ++ signature (row_pairs t.label t.target home i end)
          → Signing t home (s + 1) end x y r (set begins s d)
      unfolding strong_signature strong_pushed own_rows row_pair
      turn_more {r} {x} {y} l f q = record {
        laying =
            lay_more (strong_signature t home) s labels blocks d begins h.laying r x y l
            (q ∙ ap (λ (z : List Pair). pairs_of d labels blocks ++ signature z) (own_pairs t home s i end turn_rows));
        row = e;
        most = turn_rows.most;
        few = f;
      }

    pub turn_done :
        s ≡ t.n → t.m ≤ length labels → t.m ≤ length blocks → t.n ≤ length begins
        → AllSigned (store t.n labels blocks d begins) (strong_signature t home) × (d ≤ t.m)
        × (pairs_of d labels blocks ≡ laid (strong_signature t home) t.n)
        × ((u : ℕ) → u < t.n → get_or begins u 0 ≡ length (laid (strong_signature t home) u))
    turn_done e ha hb hc =
        let f : d ≤ t.m = omega arith in
        let l : Laying (strong_signature t home) t.n labels blocks d begins = rw e at h.laying in
        (lay_done (strong_signature t home) t.n labels blocks d begins l (omega arith) (omega arith) hc, f, l.pairs, l.starts)
