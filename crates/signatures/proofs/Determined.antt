-- Any two results that the contract of a signature, or of a call on tau_hat, allows are equal. t is the table and p the partition that
-- are lent, s the state, out the result columns.
use Rattle.std.specs.Prelude.{ℕ, List}
use Rattle.columns.specs.Answers.{said_number, said_flag}
use Rattle.columns.specs.Determined.{DeterminedAnswer, Determined}
use Rattle.columns.proofs.Determined.{determined_answer, determined}
use Rattle.columns.proofs.Saying.{same_number, same_flag}
use Rattle.partition.specs.Partition.{Partition}
use Rattle.table.specs.Lts.{Lts}
use Rattle.signatures.specs.Inductive.{branching_bisim_signature_inductive}
use Rattle.signatures.specs.Pairs.{Columns}
use Rattle.signatures.specs.Strong.{strong_bisim_signature}
use Rattle.signatures.specs.TauHat.{tau_hat, is_tau_hat}

pub strong_bisim_signature_lem :
    (t : Lts) (p : Partition) (s : ℕ) (out : Columns) (works : List (List ℕ)) →
    Determined said_number (strong_bisim_signature t p s out works)
strong_bisim_signature_lem t p s out works = determined same_number

pub branching_bisim_signature_inductive_lem :
    (t : Lts) (p : Partition) (s : ℕ) (keys : List ℕ) (out : Columns) (works : List (List ℕ)) →
    Determined said_number (branching_bisim_signature_inductive t p s keys out works)
branching_bisim_signature_inductive_lem t p s keys out works = determined same_number

pub tau_hat_lem : (labels : ℕ) → DeterminedAnswer said_number (tau_hat labels)
tau_hat_lem labels = determined_answer same_number

pub is_tau_hat_lem : (labels label : ℕ) → DeterminedAnswer said_flag (is_tau_hat labels label)
is_tau_hat_lem labels label = determined_answer same_flag
