-- Which states are marked after `split`: without a new block those that were; with one, no state of the two parts. The marks of the
-- other blocks stay anyhow.
use Rattle.std.specs.Prelude.{◌≡◌, ℕ, ◌<◌, ◌≤◌, true, false, ltb, List, get_or}
use native.Mathlib.Omega.{arith}
use borrow.Author.Tests.{lt-ltb}
use mathlib.Core.Path.{ap, sym, ◌∙◌}
use mathlib.Core.Logic.{⊎_elim}
use Rattle.columns.proofs.Bools.{cases}
use Rattle.partition.specs.Partition.{Partition, Sound}
use Rattle.partition.specs.Marked.{unmarkedb}
use Rattle.partition.proofs.Marked.{marked_of, marked_in_lem}
use Rattle.partition_split.specs.Split.{sifted_in, splitsb, split, taken}
use Rattle.partition_split.proofs.Homes.{taken_stands, taken_move, untaken_stands, untaken_stay}
use Rattle.partition_split.proofs.Reordering.{marked_stay, marked_home, unmoved}
use Rattle.partition_split.proofs.Sieves.{inside}
use Rattle.partition_split.proofs.Splits.{sifted_of, split_stays, split_offset, split_old_block, split_new_block}

module _ (p : Partition) (b : ℕ) (c : List ℕ) (g : Sound p) (w : b < p.count) (s : ℕ) (ws : s < p.n) where
  abbrev block : ℕ
  block = get_or p.element_to_block s 0

  abbrev stood : ℕ
  stood = get_or p.element_offset s 0

  abbrev stands : ℕ
  stands = get_or (sifted_in p b c).element_offset s 0

  pub marks_stay : splitsb p b c ≡ false → unmarkedb (split p b c) s ≡ unmarkedb p s
  unfolding unmarkedb
  marks_stay t =
      ap (λ (q : Partition). unmarkedb q s) (split_stays p b c t)
      ∙ ⊎_elim
      (λ (i : (get_or p.marked_split b 0 ≤ stood) × (stood < get_or p.end b 0)).
      let q = marked_home p b c g w s ws i.0 i.1 in
      let now = marked_of (sifted_of p b c) b s q (marked_stay p b c g w s ws i.0 i.1).0 in
      (marked_in_lem (sifted_of p b c) b s q).0 now ∙ sym ((marked_in_lem p b s q).0 (marked_of p b s q i.0)))
      (λ (out : get_or p.marked_split b 0 ≤ stood → stood < get_or p.end b 0 → ⊥).
      ap (λ (y : ℕ). ltb y (get_or p.marked_split block 0)) (unmoved p b c g w s ws out))
      (inside (get_or p.marked_split b 0) stood (get_or p.end b 0))

  pub marks-cleared : splitsb p b c ≡ true → block ≡ b → unmarkedb (split p b c) s ≡ true
  unfolding unmarkedb
  marks-cleared t q =
      let to = get_or (split p b c).marked_split (get_or (split p b c).element_to_block s 0) 0 in
      ap (λ (y : List ℕ). ltb (get_or y s 0) to) (split_offset p b c)
      ∙ ⊎_elim
      (λ (k : taken p b c s ≡ true).
      let i = taken_stands p b c g w s ws k in
      let r = ap (λ (y : ℕ). get_or (split p b c).marked_split y 0) (taken_move p b c g w t s ws k) in
      lt-ltb stands to (omega (arith, (split_new_block p b c g w t).marked_split)))
      (λ (k : taken p b c s ≡ false).
      let i = untaken_stands p b c g w s ws q k in
      let r = ap (λ (y : ℕ). get_or (split p b c).marked_split y 0) (untaken_stay p b c g w s ws k ∙ q) in
      lt-ltb stands to (omega (arith, (split_old_block p b c g w t).marked_split)))
      (cases (taken p b c s))
