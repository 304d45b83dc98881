-- What a call of `split_marked` goes by that is not refused, and its two ways out.
use Rattle.std.specs.Prelude.{◌≡◌, ℕ, ◌<◌, ◌≤◌, leb, List, [], ◌∷◌, length}
use borrow.Author.Tests.{leb-true}
use mathlib.Core.Path.{refl, ap, ◌∙◌}
use Rattle.columns.specs.declared.answers.Refusal as code
use Rattle.columns.specs.Answers.{Answer, Refusal}
use Rattle.columns.specs.Answers.{Said, done, refused, none, refusal_of, said_number}
use Rattle.columns.proofs.Saying.{numbered, left_refused, left_done}
use Rattle.partition.specs.Partition.{Partition, parts, Sound}
use Rattle.partition.proofs.Refusals.{argument_ready}
use Rattle.partition_split.specs.Split.{split, split_refusal, split_marked}
use Rattle.partition_calls.specs.Saying.{count_said}

pub record SplitReady (p : Partition) (b : ℕ) (c : List ℕ) : Type 0 where
  pub sound : Sound p
  pub known : b < p.count
  pub room : p.n ≤ length c

pub split_ready : (p : Partition) (b : ℕ) (c : List ℕ) (t : Refusal) → t ≡ split_refusal p b c → t.number ≡ 0 → SplitReady p b c
unfolding split_refusal
split_ready p b c t e z =
    let q = argument_ready p b p.count (leb p.n (length c)) t e z in
    record { sound = q.sound; known = q.known; room = leb-true _ _ q.enough }

module _ (p : Partition) (b : ℕ) (c : List ℕ) (a : Answer ℕ) where
  -- what is said, and the columns with the block count that it says
  abbrev said_with : List ℕ → List ℕ → List ℕ → List ℕ → List ℕ → List ℕ → Said → Said × Partition
  said_with l o bl bg sp en s = (s, parts l o bl bg sp en p.n (count_said s p.count))

  count_said_lem : (s : Said) → said_number a ≡ s → count_said (said_number a) p.count ≡ count_said s p.count
  count_said_lem s q = ap (λ (x : Said). count_said x p.count) q

  pub split_refused :
      (x : code.Refusal) → refusal_of x ≡ split_refusal p b c → said_number a ≡ refused (refusal_of x).number (refusal_of x).place
      → said_with p.elements p.element_offset p.element_to_block p.begin p.marked_split p.end (said_number a) ≡ split_marked p b c
  unfolding split_marked
  split_refused x e q =
      ap (said_with p.elements p.element_offset p.element_to_block p.begin p.marked_split p.end) q
      ∙ left_refused (split_refusal p b c) (refusal_of x) e p (split p b c) ((split p b c).count ∷ []) _ (numbered x) refl

  pub split_answered :
      none ≡ split_refusal p b c → (k : ℕ) → said_number a ≡ done (k ∷ []) → (l o bl bg sp en : List ℕ)
      → parts l o bl bg sp en p.n k ≡ split p b c → said_with l o bl bg sp en (said_number a) ≡ split_marked p b c
  unfolding split_marked
  split_answered e k q l o bl bg sp en h =
      ap (said_with l o bl bg sp en) q
      ∙ left_done (split_refusal p b c) none e p (split p b c) ((split p b c).count ∷ []) _ _ refl
      (ap (λ (r : Partition). done (r.count ∷ [])) h) h
