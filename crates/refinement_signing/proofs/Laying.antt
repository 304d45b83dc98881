-- Signatures laid one behind the other: how the columns stand between two states, and that each is found again by where it begins.
use mathlib.Core.Path.{◌≡◌, sym, ap, ◌∙◌}
use mathlib.Core.Logic.{⊎_elim}
use mathlib.Core.Bool.{Bool, cond}
use mathlib.Core.List.{List, ◌++◌}
use Prim.Native.Nat.{ℕ, ◌+◌, ◌-◌, ◌≤◌, ◌<◌}
use native.Mathlib.Omega.{arith}
use borrow.Author.Tests.{lt-ltb, le-ltb}
use lib.ListN.{length, get_or, set, length-append}
use lib.Seq.{get_or-set_same, get_or-set_other}
use Rattle.columns.specs.Columns.{listed, laid}
use Rattle.columns.specs.Rows.{pairs_of, pairs_between}
use Rattle.columns.specs.Sets.{Pair}
use Rattle.columns.proofs.All.{top_or-below, lt-or-le}
use Rattle.columns.proofs.Laid.{laid_none, laid_more, laid_up, laid_each}
use Rattle.columns.proofs.TwoColumns.{length_pairs, pairs-none}
use Rattle.refinement_signing.specs.Stored.{end_in, stored, AllSigned, store}

-- ---- the states below s are signed
pub record Laying (sig : ℕ → List Pair) (s : ℕ) (labels blocks : List ℕ) (d : ℕ) (begins : List ℕ) : Type 0 where
  pub pairs : pairs_of d labels blocks ≡ laid sig s
  pub starts : (u : ℕ) → u < s → get_or begins u 0 ≡ length (laid sig u)

module _ (sig : ℕ → List Pair) where
  pub lay_none : (labels blocks begins : List ℕ) → Laying sig 0 labels blocks 0 begins
  lay_none labels blocks begins = record {
    pairs = pairs-none labels blocks ∙ sym (laid_none sig);
    starts = λ u l. absurd (omega arith);
  }

  module _ (s : ℕ) (labels blocks : List ℕ) (d : ℕ) (begins : List ℕ) (h : Laying sig s labels blocks d begins) where
    pub lay_total : d ≡ length (laid sig s)
    lay_total = sym (length_pairs d labels blocks) ∙ ap length h.pairs

    pub lay_more :
        (e : ℕ) (x y : List ℕ) → s < length begins → pairs_of e x y ≡ pairs_of d labels blocks ++ sig s
        → Laying sig (s + 1) x y e (set begins s d)
    lay_more e x y w q = record {
      pairs = q ∙ ap (λ (l : List Pair). l ++ sig s) h.pairs ∙ sym (laid_more sig s);
      starts = λ u l.
          ⊎_elim (λ (i : u ≡ s). rw i (get_or-set_same begins s d 0 w ∙ lay_total))
          (λ (k : u < s). get_or-set_other begins s u d 0 (λ i. omega (arith, i, k)) ∙ h.starts u k) (top_or-below (omega (arith, l)));
    }

    -- ---- all of them
    pub lay_end : (u : ℕ) → u < s → end_in s d begins u ≡ length (laid sig (u + 1))
    unfolding end_in
    lay_end u w =
        ⊎_elim
        (λ (l : u + 1 < s). ap (λ (b : Bool). cond b (get_or begins (u + 1) 0) d) (lt-ltb (u + 1) s l) ∙ h.starts (u + 1) l)
        (λ (l : s ≤ u + 1).
        let z : s ≡ u + 1 = omega (arith, l, w) in
        ap (λ (b : Bool). cond b (get_or begins (u + 1) 0) d) (le-ltb (u + 1) s l) ∙ lay_total ∙ ap (λ (k : ℕ). length (laid sig k)) z)
        (lt-or-le (u + 1) s)

    next-length : (u : ℕ) → length (laid sig (u + 1)) ≡ length (laid sig u) + length (sig u)
    next-length u = ap length (laid_more sig u) ∙ length-append (laid sig u) (sig u)

    pub lay_done : d ≤ length labels → d ≤ length blocks → s ≤ length begins → AllSigned (store s labels blocks d begins) sig
    unfolding stored pairs_between pairs_of
    lay_done ha hb hc = record {
      held = record {
        left = ha;
        right = hb;
        long = hc;
        up = λ u w. omega (arith, lay_end u w, h.starts u w, next-length u);
        most = λ u w. omega (arith, lay_end u w, next-length u, laid_up sig u s w, lay_total);
      };
      signature = λ u w.
          let z : end_in s d begins u - get_or begins u 0 ≡ length (sig u) = omega (arith, lay_end u w, h.starts u w, next-length u) in
          ap (λ (k : ℕ). listed k (λ j. (get_or labels (get_or begins u 0 + j) 0, get_or blocks (get_or begins u 0 + j) 0))) z
          ∙ ap (λ (x : ℕ). listed (length (sig u)) (λ j. (get_or labels (x + j) 0, get_or blocks (x + j) 0))) (h.starts u w)
          ∙ laid_each sig (λ i. (get_or labels i 0, get_or blocks i 0)) s
          (ap (λ (k : ℕ). listed k (λ i. (get_or labels i 0, get_or blocks i 0))) (sym lay_total) ∙ h.pairs) u w;
    }
