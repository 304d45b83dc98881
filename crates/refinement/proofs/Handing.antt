-- The numbers by least member, handed out as the states come, ascending: a state whose block has no number yet gets the next one. A
-- block's number is noted in the cell of the block, plus 1.
use mathlib.Core.Path.{◌≡◌, sym, ap, ◌∙◌}
use mathlib.Core.Logic.{⊎_elim}
use mathlib.Core.Bool.{true, false}
use mathlib.Core.List.{List}
use Prim.Native.Nat.{ℕ, ◌+◌, ◌<◌}
use native.Mathlib.Nat.{eq-or-lt_of_le}
use native.Mathlib.Numerals.{add-one}
use native.Mathlib.Omega.{arith}
use borrow.Author.Tests.{eq-eqb}
use lib.ListN.{length, get_or, set}
use lib.Seq.{get_or-set_same, get_or-set_other}
use Rattle.columns.specs.Blocks.{block_of}
use Rattle.columns.specs.Counting.{many}
use Rattle.columns.specs.Number.{least, leads, number}
use Rattle.columns.proofs.All.{top_or-below}
use Rattle.columns.proofs.Bools.{cases, contra}
use Rattle.columns.proofs.Counting.{many-none, many_hit, many_miss}
use Rattle.columns.proofs.Numbering.{least_le, least_eq, least_min, leads_least, number_same}
use Rattle.refinement.specs.Blocks.{share}
use Rattle.refinement.proofs.Blocks.{share_in, share_out, share_equivalence}

-- the states below i have come
pub record Handed (p : List ℕ) (i next : ℕ) (notes : List ℕ) : Type 0 where
  pub exact : next ≡ many i (leads (share p))
  pub noted : (s : ℕ) → s < i → get_or notes (block_of p s) 0 ≡ number (share p) s + 1
  pub blank : (b : ℕ) → ((s : ℕ) → s < i → block_of p s ≡ b → ⊥) → get_or notes b 0 ≡ 0

module _ (p : List ℕ) where
  -- ---- the first of a block leads it, and the others do not
  first_leads : (s t : ℕ) → leads (share p) s ≡ true → t < s → block_of p t ≡ block_of p s → ⊥
  first_leads s t h l e =
      omega (arith, leads_least (share p) (share_equivalence p) s h, least_min (share p) (share_equivalence p) s t (share_in p t s e))

  later_least : (s : ℕ) → leads (share p) s ≡ false → least (share p) s < s
  unfolding leads
  later_least s h =
      ⊎_elim (λ (e : least (share p) s ≡ s). absurd (contra (eq-eqb _ _ e) h)) (λ (l : least (share p) s < s). l)
      (eq-or-lt_of_le (least_le (share p) (share_equivalence p) s))

  leads_number : (s : ℕ) → leads (share p) s ≡ true → number (share p) s ≡ many s (leads (share p))
  unfolding number
  leads_number s h = ap (λ (x : ℕ). many x (leads (share p))) (leads_least (share p) (share_equivalence p) s h)

  pub hand_none : (notes : List ℕ) → ((b : ℕ) → get_or notes b 0 ≡ 0) → Handed p 0 0 notes
  hand_none notes z = record { exact = sym (many-none (leads (share p))); noted = λ s l. absurd (omega arith); blank = λ b _. z b }

  module _ (i next : ℕ) (notes : List ℕ) (h : Handed p i next notes) where
    fresh_leads : get_or notes (block_of p i) 0 ≡ 0 → leads (share p) i ≡ true
    fresh_leads z =
        ⊎_elim (λ (e : leads (share p) i ≡ true). e)
        (λ (e : leads (share p) i ≡ false).
        let o : block_of p (least (share p) i) ≡ block_of p i
        = share_out p (least (share p) i) i (least_eq (share p) (share_equivalence p) i) in
        absurd (omega (arith, ap (λ (b : ℕ). get_or notes b 0) o, h.noted (least (share p) i) (later_least i e))))
        (cases (leads (share p) i))

    known_follows : (get_or notes (block_of p i) 0 ≡ 0 → ⊥) → leads (share p) i ≡ false
    known_follows k =
        ⊎_elim (λ (e : leads (share p) i ≡ true). absurd (k (h.blank (block_of p i) (λ s l q. first_leads i s e l q))))
        (λ (e : leads (share p) i ≡ false). e) (cases (leads (share p) i))

    -- the number of a state whose block is noted
    pub hand_number : (get_or notes (block_of p i) 0 ≡ 0 → ⊥) → get_or notes (block_of p i) 0 ≡ number (share p) i + 1
    hand_number k =
        let o : share p (least (share p) i) i ≡ true = least_eq (share p) (share_equivalence p) i in
        ap (λ (b : ℕ). get_or notes b 0) (sym (share_out p (least (share p) i) i o))
        ∙ h.noted (least (share p) i) (later_least i (known_follows k))
        ∙ ap (λ (x : ℕ). x + 1) (number_same (share p) (share_equivalence p) (least (share p) i) i o)

    -- the number of one whose block is not, and the notes then
    pub hand_next : get_or notes (block_of p i) 0 ≡ 0 → next ≡ number (share p) i
    hand_next z = h.exact ∙ sym (leads_number i (fresh_leads z))

    pub hand_known : (get_or notes (block_of p i) 0 ≡ 0 → ⊥) → Handed p (i + 1) next notes
    hand_known k = rw (add-one i) (record {
      exact = h.exact ∙ sym (many_miss i (leads (share p)) (known_follows k));
      noted = λ s l.
          ⊎_elim
          (λ (e : s ≡ i).
          ap (λ (x : ℕ). get_or notes (block_of p x) 0) e ∙ hand_number k ∙ ap (λ (x : ℕ). number (share p) x + 1) (sym e))
          (h.noted s) (top_or-below l);
      blank = λ b f. h.blank b (λ s l. f s (omega (arith, l)));
    })

    pub hand_more :
        get_or notes (block_of p i) 0 ≡ 0 → block_of p i < length notes
        → Handed p (i + 1) (next + 1) (set notes (block_of p i) (next + 1))
    hand_more z w = rw (add-one i) (record {
      exact = omega (arith, h.exact, many_hit i (leads (share p)) (fresh_leads z));
      noted = λ s l.
          ⊎_elim
          (λ (e : s ≡ i).
          ap (λ (x : ℕ). get_or (set notes (block_of p i) (next + 1)) (block_of p x) 0) e
          ∙ get_or-set_same notes (block_of p i) (next + 1) 0 w
          ∙ omega (arith, hand_next z, ap (number (share p)) e))
          (λ (m : s < i).
          get_or-set_other notes (block_of p i) (block_of p s) (next + 1) 0 (λ e. first_leads i s (fresh_leads z) m e) ∙ h.noted s m)
          (top_or-below l);
      blank = λ b f.
          get_or-set_other notes (block_of p i) b (next + 1) 0 (λ e. f i (omega arith) (sym e)) ∙ h.blank b (λ s l. f s (omega (arith, l)));
    })
