-- What `split_marked` has done where it says done, in document 01's words. p is the partition that is lent, b the block, c the bytes of
-- the choice, and q the partition at return. `taken`: a marked state of block b that is chosen.
use Rattle.std.specs.Prelude.{◌≡◌, ℕ, ◌+◌, ◌<◌, Bool, true, false, List, [], ◌∷◌, get_or}
use mathlib.Core.Path.{refl, ap, sym, subst, ◌∙◌}
use Rattle.columns.specs.Answers.{done}
use Rattle.columns.specs.Counting.{bit}
use Rattle.columns.proofs.Bools.{contra}
use Rattle.columns.proofs.Doing.{leaving_done}
use Rattle.partition.specs.Partition.{Partition, Sound}
use Rattle.partition.specs.Marked.{unmarkedb}
use Rattle.partition.proofs.Marked.{marked_of, marked_in_lem}
use Rattle.partition_split.specs.Split.{splitsb, split, split_refusal, split_marked, taken}
use Rattle.partition_split.proofs.Answering.{SplitReady, split_ready}
use Rattle.partition_split.proofs.Homes.{split_happens, all-taken, untouched, taken_move, untaken_stay}
use Rattle.partition_split.proofs.Marking.{marks_stay, marks-cleared}
use Rattle.partition_split.proofs.Reordering.{unmoved, marked_home}
use Rattle.partition_split.proofs.Splits.{
  SameTable,
  SameBlock,
  split_offset,
  split_count,
  split_sound,
  table_stays,
  others_stay,
}

-- the table and its marks stay
pub record Unparted (p q : Partition) : Type 0 where
  pub table : SameTable p q
  pub marks : (s : ℕ) → s < p.n → unmarkedb q s ≡ unmarkedb p s

-- the chosen are a new last block and both are unmarked
pub record Parted (p : Partition) (b : ℕ) (c : List ℕ) (q : Partition) : Type 0 where
  pub count : q.count ≡ p.count + 1
  pub chosen : (s : ℕ) → s < p.n → taken p b c s ≡ true → get_or q.element_to_block s 0 ≡ p.count
  pub others : (s : ℕ) → s < p.n → taken p b c s ≡ false → get_or q.element_to_block s 0 ≡ get_or p.element_to_block s 0
  pub unmarked : (s : ℕ) → s < p.n → get_or p.element_to_block s 0 ≡ b → unmarkedb q s ≡ true

-- a call that says these numbers and leaves q
pub record SplitDone (p : Partition) (b : ℕ) (c : List ℕ) (said : List ℕ) (q : Partition) : Type 0 where
  -- the columns held a partition, with a block b, and there was a byte for each state
  pub ready : SplitReady p b c
  pub answer : said ≡ q.count ∷ []
  -- nothing is chosen
  pub nothing : ((s : ℕ) → s < p.n → taken p b c s ≡ false) → q ≡ p
  -- the whole block is, its unmarked states counted
  pub whole : ((s : ℕ) → s < p.n → get_or p.element_to_block s 0 ≡ b → taken p b c s ≡ true) → Unparted p q
  -- otherwise: some state of the block is, and some is not
  pub parted : (s t : ℕ) → s < p.n → t < p.n → taken p b c s ≡ true → get_or p.element_to_block t 0 ≡ b → taken p b c t ≡ false
      → Parted p b c q
  -- in any case unmarked states keep their places, and the other blocks all that they have
  pub places : (s : ℕ) → s < p.n → (get_or p.element_to_block s 0 ≡ b → unmarkedb p s ≡ true)
      → get_or q.element_offset s 0 ≡ get_or p.element_offset s 0
  pub others : (j : ℕ) → j < p.count → (j ≡ b → ⊥) → SameBlock p q j
  pub sound : Sound q

module _ (p : Partition) (b : ℕ) (c : List ℕ) (g : Sound p) (w : b < p.count) where
  unparted : splitsb p b c ≡ false → Unparted p (split p b c)
  unparted t = record { table = table_stays p b c t; marks = λ s ws. marks_stay p b c g w s ws t }

  cut_in_two : splitsb p b c ≡ true → Parted p b c (split p b c)
  cut_in_two t =
      record {
        count = split_count p b c ∙ ap (λ (y : Bool). p.count + bit y) t;
        chosen = λ s ws k. taken_move p b c g w t s ws k;
        others = λ s ws k. untaken_stay p b c g w s ws k;
        unmarked = λ s ws q. marks-cleared p b c g w s ws t q;
      }

  unmarked_stay : (s : ℕ) → s < p.n → (get_or p.element_to_block s 0 ≡ b → unmarkedb p s ≡ true)
      → get_or (split p b c).element_offset s 0 ≡ get_or p.element_offset s 0
  unmarked_stay s ws u =
      ap (λ (y : List ℕ). get_or y s 0) (split_offset p b c)
      ∙ unmoved p b c g w s ws (λ a y. let q = marked_home p b c g w s ws a y in contra (u q) ((marked_in_lem p b s q).0 (marked_of p b s q a)))

pub split_marked_done :
    (p : Partition) (b : ℕ) (c said : List ℕ) (q : Partition) → (done said, q) ≡ split_marked p b c → SplitDone p b c said q
unfolding split_marked
split_marked_done p b c said q e =
    let k = leaving_done (split_refusal p b c) p q (split p b c) said ((split p b c).count ∷ []) e in
    let y = split_ready p b c (split_refusal p b c) refl k.0 in
    let g = y.sound in
    let w = y.known in
    record {
      ready = y;
      answer = k.1 ∙ ap (λ (r : Partition). r.count ∷ []) (sym k.2);
      nothing = λ h. k.2 ∙ untouched p b c g w h;
      whole = λ h. subst (Unparted p) (sym k.2) (unparted p b c g w (all-taken p b c g w h));
      parted = λ s t ws wt i j o. subst (Parted p b c) (sym k.2) (cut_in_two p b c g w (split_happens p b c g w s t ws wt i j o));
      places = λ s ws u. ap (λ (r : Partition). get_or r.element_offset s 0) k.2 ∙ unmarked_stay p b c g w s ws u;
      others = λ j wj m. subst (λ (r : Partition). SameBlock p r j) (sym k.2) (others_stay p b c g w j wj m);
      sound = subst Sound (sym k.2) (split_sound p b c g w);
    }
