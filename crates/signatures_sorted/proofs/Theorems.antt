-- What `branching_bisim_signature_sorted` means where it says done, in document 01's words.
use Rattle.std.specs.Prelude.{◌≡◌, ℕ, ◌+◌, ◌&&◌, leb, ◌⊎◌, List, [], ◌∷◌, length}
use mathlib.Core.Path.{refl}
use Rattle.columns.specs.Answers.{done}
use Rattle.columns.specs.Sets.{Pair}
use Rattle.partition.specs.Partition.{Partition}
use Rattle.pairs.specs.Lists.{Lists, list_at}
use Rattle.signatures.specs.Pairs.{Columns}
use Rattle.signatures.specs.Signing.{Left, works_fit}
use Rattle.signatures.proofs.Signed.{signing_accepted, signing_signed}
use Rattle.signatures.proofs.Sigs.{sig_few}
use Rattle.signatures.proofs.Theorems.{SignatureDone}
use Rattle.table.specs.Lts.{Lts}
use Rattle.signatures_sorted.specs.Sorted.{
  Given,
  sorted_pushed,
  sorted_signature,
  sorted_refusal,
  branching_bisim_signature_sorted,
}
use Rattle.signatures_sorted.proofs.Refused.{sorted_ready, sorted_lists}
use Rattle.signatures_sorted.proofs.SortedSigs.{OwnOf, TakenOf, sorted_ascending, sorted_exactly}
-- Block numbers do not matter to it, only the blocks; and where the given lists are the signatures of the states, it is the branching one.
pub use Rattle.signatures_sorted.proofs.SortedAlike.{sorted_alike}
pub use Rattle.signatures_sorted.proofs.Right.{sorted_right}

-- the list that is given for each state
abbrev list_of : Given → ℕ → List Pair
list_of g = list_at g.starts g.labels g.blocks

-- the starts rise and each list ascends; and a pair is in it exactly if it is (label, block of target) for a step of s that is visible or
-- leads to another block, or it is in the list given for the target of a hidden step of s within its block
pub sorted_done :
    (t : Lts) (p : Partition) → p.n ≡ t.n → (s : ℕ) (g : Given) (out : Columns) (works : List (List ℕ)) (k : ℕ) (left : Left)
    → branching_bisim_signature_sorted t p s g out works ≡ (done (k ∷ []), left)
    → SignatureDone t p s (λ q. OwnOf t p.element_to_block s q ⊎ TakenOf t p.element_to_block (list_of g) s q) out works k left
    × Lists g.starts t.n g.labels g.blocks
unfolding branching_bisim_signature_sorted
sorted_done t p same s g out works k left e =
    let home = p.element_to_block in
    let room = leb (t.n + 1) (length g.starts) && works_fit t works in
    let r = sorted_refusal t p s g room in
    let pushed = length (sorted_pushed t home (list_of g) s) in
    let z = signing_accepted r pushed (sorted_signature t home (list_of g) s) out works k left e in
    let a = sorted_ready t p same s g room r refl z in (
      record {
        valid = a.valid;
        sound = a.sound;
        known = a.known;
        signed =
            signing_signed r pushed (sorted_signature t home (list_of g) s) out works k left e
            (λ q. OwnOf t home s q ⊎ TakenOf t home (list_of g) s q) (sig_few (sorted_pushed t home (list_of g) s))
            (sorted_ascending t home (list_of g) s) (sorted_exactly t home (list_of g) s);
      },
      sorted_lists t p same s g room r refl z,
    )
