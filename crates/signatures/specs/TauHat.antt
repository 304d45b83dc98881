-- tau_hat, a label beside those of the table: the number of labels.
use Rattle.std.specs.Prelude.{ℕ, [], ◌∷◌, ◌==◌}
use Rattle.columns.specs.Answers.{Refusal}
use Rattle.columns.specs.Answers.{Said, answering}
use Rattle.columns.specs.Counting.{bit}
use Rattle.columns.specs.Due.{due, labels_test}

-- 2 for a number of labels outside its range
unfoldable pub labels_refusal : ℕ → Refusal
unfolding due
labels_refusal labels = due (labels_test labels ∷ [])

unfoldable pub tau_hat : ℕ → Said
unfolding answering labels_refusal
tau_hat labels = answering (labels_refusal labels) (labels ∷ [])

unfoldable pub is_tau_hat : ℕ → ℕ → Said
unfolding answering labels_refusal
is_tau_hat labels label = answering (labels_refusal labels) (bit (label == labels) ∷ [])
