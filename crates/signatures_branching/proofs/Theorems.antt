-- What `branching_bisim_signature` means where it says done, in document 01's words.
use Rattle.std.specs.Prelude.{◌≡◌, ℕ, List, [], ◌∷◌, length}
use mathlib.Core.Path.{refl}
use Rattle.columns.specs.Answers.{done}
use Rattle.partition.specs.Partition.{Partition}
use Rattle.signatures.specs.Pairs.{Columns}
use Rattle.signatures.specs.Signing.{Left, works_fit, signature_refusal}
use Rattle.table_partition.proofs.Refusals.{both_ready}
use Rattle.signatures.proofs.Signed.{signing_accepted, signing_signed}
use Rattle.signatures.proofs.Sigs.{sig_few}
use Rattle.signatures.proofs.Theorems.{SignatureDone}
use Rattle.table.specs.Lts.{Lts}
use Rattle.signatures_branching.specs.Branching.{branching_pushed, branching_signature, branching_bisim_signature}
use Rattle.signatures_branching.proofs.BranchingSigs.{Leaves, branching_ascending, branching_exactly}
-- Block numbers do not matter to it, only the blocks.
pub use Rattle.signatures_branching.proofs.BranchingAlike.{branching_alike}

-- a pair (a, b) is in it exactly if some state that s reaches by hidden steps that stay in its block has a step under label a to a state
-- of block b, and the step is visible or b is another block
pub branching_done :
    (t : Lts) (p : Partition) → p.n ≡ t.n → (s : ℕ) (out : Columns) (works : List (List ℕ)) (k : ℕ) (left : Left)
    → branching_bisim_signature t p s out works ≡ (done (k ∷ []), left)
    → SignatureDone t p s (λ q. Leaves t p.element_to_block s q.0 q.1) out works k left
unfolding branching_bisim_signature signature_refusal
branching_done t p same s out works k left e =
    let home = p.element_to_block in
    let r = signature_refusal t p s (works_fit t works) in
    let pushed = length (branching_pushed t home s) in
    let a = both_ready t p same s t.n (works_fit t works) r refl
    (signing_accepted r pushed (branching_signature t home s) out works k left e) in
    record {
      valid = a.valid;
      sound = a.sound;
      known = a.known;
      signed =
          signing_signed r pushed (branching_signature t home s) out works k left e (λ q. Leaves t home s q.0 q.1)
          (sig_few (branching_pushed t home s)) (branching_ascending t a.valid home s)
          (λ q. branching_exactly t a.valid home s q.0 q.1);
    }
