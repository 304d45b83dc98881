-- What the signature calls mean where they say done, in document 01's words.
use Rattle.std.specs.Prelude.{◌≡◌, ℕ, ◌<◌, ◌≤◌, Bool, not, ◌&&◌, eqb, leb, ◌⊎◌, List, [], ◌∷◌, length}
use mathlib.Core.Path.{refl}
use Rattle.columns.specs.Answers.{done}
use Rattle.columns.specs.Counting.{bit}
use Rattle.columns.specs.Sets.{Pair}
use Rattle.columns.specs.Limits.{max_labels}
use Rattle.columns.specs.Due.{labels_test}
use Rattle.columns.proofs.Chains.{passed}
use Rattle.columns.proofs.Doing.{answering_done, SaysWhether, says_whether}
use Rattle.columns.proofs.Rooms.{range_of}
use Rattle.partition.specs.Partition.{Partition, Sound}
use Rattle.partition.specs.Marked.{unmarkedb}
use Rattle.table.specs.Lts.{Lts, Valid}
use Rattle.signatures.specs.Inductive.{inductive_pushed, inductive_signature, branching_bisim_signature_inductive}
use Rattle.signatures.specs.Pairs.{Columns}
use Rattle.signatures.specs.Signing.{Left, works_fit, signature_refusal}
use Rattle.signatures.specs.Strong.{strong_pushed, strong_signature, strong_bisim_signature}
use Rattle.signatures.specs.TauHat.{labels_refusal, tau_hat, is_tau_hat}
use Rattle.signatures.proofs.InductiveSigs.{KeyOf, StepOf, inductive_ascending, inductive_exactly}
use Rattle.table_partition.proofs.Refusals.{both_ready}
use Rattle.signatures.proofs.Signed.{Signed, signing_accepted, signing_signed}
use Rattle.signatures.proofs.Sigs.{sig_few}
use Rattle.signatures.proofs.StrongSigs.{Leads, strong_ascending, strong_exactly}
use borrow.Author.Tests.{eqb-true, eq-eqb}
-- Block numbers do not matter to a signature, only the blocks.
pub use Rattle.signatures.proofs.Renumbered.{strong_alike, inductive_alike}

-- table, partition and state are right, and the signature is written
pub record SignatureDone
    (t : Lts) (p : Partition) (s : ℕ) (In : Pair → Type 0) (out : Columns) (works : List (List ℕ)) (k : ℕ) (left : Left) : Type 0 where
  pub valid : Valid t
  pub sound : Sound p
  pub known : s < t.n
  pub signed : Signed In out works k left

-- state u of a partition is marked
abbrev marked : Partition → ℕ → Bool
marked p u = not (unmarkedb p u)

module _ (t : Lts) (p : Partition) (same : p.n ≡ t.n) (s : ℕ) (out : Columns) (works : List (List ℕ)) (k : ℕ) (left : Left) where
  -- a pair (a, b) is in it exactly if s has a step under label a to a state of block b
  pub strong_done :
      strong_bisim_signature t p s out works ≡ (done (k ∷ []), left)
      → SignatureDone t p s (λ q. Leads t p.element_to_block s q.0 q.1) out works k left
  unfolding strong_bisim_signature signature_refusal
  strong_done e =
      let home = p.element_to_block in
      let r = signature_refusal t p s (works_fit t works) in
      let pushed = length (strong_pushed t home s) in
      let a = both_ready t p same s t.n (works_fit t works) r refl
      (signing_accepted r pushed (strong_signature t home s) out works k left e) in
      record {
        valid = a.valid;
        sound = a.sound;
        known = a.known;
        signed =
            signing_signed r pushed (strong_signature t home s) out works k left e (λ q. Leads t home s q.0 q.1)
            (sig_few (strong_pushed t home s)) (strong_ascending t home s) (λ q. strong_exactly t home s q.0 q.1);
      }

  -- a pair is in it exactly if it is (tau_hat, key of u) for a hidden step of s to a marked state u of its block, or (label, block of
  -- target) for any other step of s
  pub inductive_done :
      (keys : List ℕ) → branching_bisim_signature_inductive t p s keys out works ≡ (done (k ∷ []), left)
      → SignatureDone t p s
      (λ q. KeyOf t p.element_to_block (marked p) keys s q ⊎ StepOf t p.element_to_block (marked p) keys s q) out works k left
  unfolding branching_bisim_signature_inductive signature_refusal
  inductive_done keys e =
      let home = p.element_to_block in
      let room = leb t.n (length keys) && works_fit t works in
      let r = signature_refusal t p s room in
      let pushed = length (inductive_pushed t home (marked p) keys s) in
      let a = both_ready t p same s t.n room r refl
      (signing_accepted r pushed (inductive_signature t home (marked p) keys s) out works k left e) in
      record {
        valid = a.valid;
        sound = a.sound;
        known = a.known;
        signed =
            signing_signed r pushed (inductive_signature t home (marked p) keys s) out works k left e
            (λ q. KeyOf t home (marked p) keys s q ⊎ StepOf t home (marked p) keys s q)
            (sig_few (inductive_pushed t home (marked p) keys s)) (inductive_ascending t home (marked p) keys s)
            (inductive_exactly t home (marked p) keys s);
      }

-- ---- `tau_hat`: the number of labels, which is none of them
labels_checked : (labels : ℕ) → (labels_refusal labels).number ≡ 0 → (1 ≤ labels) × (labels ≤ max_labels)
unfolding labels_refusal
labels_checked labels z = range_of 1 labels max_labels (passed (labels_test labels ∷ []) refl (labels_refusal labels) refl z).0

pub tau_hat_done :
    (labels : ℕ) (values : List ℕ) → done values ≡ tau_hat labels
    → (1 ≤ labels) × (labels ≤ max_labels) × (values ≡ labels ∷ [])
unfolding tau_hat
tau_hat_done labels values e =
    let d = answering_done (labels_refusal labels) values (labels ∷ []) e in
    let r = labels_checked labels d.0 in
    (r.0, r.1, d.1)

-- yes exactly for that label
pub is_tau_hat_done :
    (labels label : ℕ) (values : List ℕ) → done values ≡ is_tau_hat labels label
    → (1 ≤ labels) × (labels ≤ max_labels) × SaysWhether values (label ≡ labels)
unfolding is_tau_hat
is_tau_hat_done labels label values e =
    let d = answering_done (labels_refusal labels) values (bit (eqb label labels) ∷ []) e in
    let r = labels_checked labels d.0 in
    (r.0, r.1, says_whether (eqb label labels) values d.1 (eqb-true label labels, eq-eqb label labels))
