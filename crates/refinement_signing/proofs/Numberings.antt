-- The turns of the loop that numbers the states of a block.
use mathlib.Core.Path.{◌≡◌, refl, sym, ap, ◌∙◌}
use mathlib.Core.Logic.{⊎_elim}
use mathlib.Core.Bool.{Bool, true}
use mathlib.Core.List.{List}
use Prim.Native.Nat.{ℕ, suc, ◌+◌, ◌≤◌, ◌<◌}
use native.Mathlib.Numerals.{add-one}
use native.Mathlib.Omega.{arith}
use borrow.Author.Tests.{eq-eqb, ne_eqb}
use lib.ListN.{length, get_or, set}
use lib.Seq.{get_or-set_same, get_or-set_other}
use Rattle.columns.specs.Counting.{many}
use Rattle.columns.specs.Number.{least, leads, number}
use Rattle.columns.proofs.All.{top_or-below}
use Rattle.columns.proofs.Counting.{many-none, many_hit, many_miss, many-le}
use Rattle.columns.proofs.Numbering.{Equivalence, least_le, least_eq, number_same}
use Rattle.refinement_signing.specs.Numbered.{alike_at, Numbered}
use Rattle.partition.specs.Stand.{Stand}
use Rattle.refinement_signing.specs.Stored.{Store, stored}
use Rattle.refinement_signing.proofs.Comparisons.{alike_in, alike_out}

-- ---- to have one signature is an equivalence
module _ (elements : List ℕ) (σ : Store) (x : ℕ) where
  abbrev sig_at : ℕ → List (ℕ × ℕ)
  sig_at i = stored σ (get_or elements (x + i) 0)

  pub at_in : (i j : ℕ) → sig_at i ≡ sig_at j → alike_at elements σ x i j ≡ true
  unfolding alike_at
  at_in i j e = alike_in σ (get_or elements (x + i) 0) (get_or elements (x + j) 0) e

  pub at_out : (i j : ℕ) → alike_at elements σ x i j ≡ true → sig_at i ≡ sig_at j
  unfolding alike_at
  at_out i j e = alike_out σ (get_or elements (x + i) 0) (get_or elements (x + j) 0) e

  pub alike_equivalence : Equivalence (alike_at elements σ x)
  alike_equivalence = record {
    reflexive = λ i. at_in i i refl;
    symmetric = λ i j h. at_in j i (sym (at_out i j h));
    transitive = λ i j k h g. at_in i k (at_out i j h ∙ at_out j k g);
  }

pub stand_less : (elements : List ℕ) (n x j k : ℕ) → j ≤ k → Stand elements n x k → Stand elements n x j
stand_less elements n x j k h s = record {
  long = omega (arith, s.long);
  below = λ i l. s.below i (omega (arith, l));
  once = λ i m l w. s.once i m (omega (arith, l)) (omega (arith, w));
}

-- ---- the turns
module _ (eq : ℕ → ℕ → Bool) (q : Equivalence eq) (elements : List ℕ) (n x : ℕ) where
  pub number_none : (numbers : List ℕ) → Numbered eq elements x 0 numbers 0
  number_none numbers = record { exact = sym (many-none (leads eq)); given = λ i l. absurd (omega arith) }

  module _ (j : ℕ) (numbers : List ℕ) (next : ℕ) (h : Numbered eq elements x j numbers next) where
    pub number_few : next ≤ j
    number_few = omega (arith, h.exact, many-le j (leads eq))

    module _ (s : Stand elements n x (j + 1)) (w : n ≤ length numbers) where
      given_one :
          (v : ℕ) → v ≡ number eq j → (i : ℕ) → i < suc j
          → get_or (set numbers (get_or elements (x + j) 0) v) (get_or elements (x + i) 0) 0 ≡ number eq i
      given_one v e i l =
          ⊎_elim
          (λ (z : i ≡ j).
          rw z (get_or-set_same numbers (get_or elements (x + j) 0) v 0 (omega (arith, s.below j (omega arith), w)) ∙ e))
          (λ (k : i < j).
          get_or-set_other numbers (get_or elements (x + j) 0) (get_or elements (x + i) 0) v 0
          (λ a. omega (arith, s.once i j (omega arith) (omega arith) a))
          ∙ h.given i k)
          (top_or-below l)

      -- the signature came before, at i
      pub number_old :
          (i : ℕ) → i ≡ least eq j → i < j
          → Numbered eq elements x (j + 1) (set numbers (get_or elements (x + j) 0) (get_or numbers (get_or elements (x + i) 0) 0)) next
      unfolding leads
      number_old i e l = rw (add-one j) (record {
        exact = h.exact ∙ sym (many_miss j (leads eq) (ne_eqb (least eq j) j (λ z. omega (arith, z, e, l))));
        given =
            given_one (get_or numbers (get_or elements (x + i) 0) 0)
            (h.given i l ∙ ap (number eq) e ∙ number_same eq q (least eq j) j (least_eq eq q j));
      })

      -- it did not
      pub number_new :
          (i : ℕ) → i ≡ least eq j → j ≤ i → Numbered eq elements x (j + 1) (set numbers (get_or elements (x + j) 0) next) (next + 1)
      unfolding leads number
      number_new i e l =
          let z : least eq j ≡ j = omega (arith, e, l, least_le eq q j) in
          rw (add-one j) (record {
            exact = omega (arith, h.exact, many_hit j (leads eq) (eq-eqb (least eq j) j z));
            given = given_one next (h.exact ∙ ap (λ (k : ℕ). many k (leads eq)) (sym z));
          })

      -- the same with the states as they are read
      module _ (i t : ℕ) (et : t ≡ get_or elements (x + j) 0) (e : i ≡ least eq j) where
        pub number_old_at :
            (u : ℕ) → u ≡ get_or elements (x + i) 0 → i < j → Numbered eq elements x (j + 1) (set numbers t (get_or numbers u 0)) next
        number_old_at u eu l = rw (et, eu) (number_old i e l)

        pub number_new_at : j ≤ i → Numbered eq elements x (j + 1) (set numbers t next) (next + 1)
        number_new_at l = rw et (number_new i e l)
