-- A witness, by the marks.
use Rattle.std.specs.Prelude.{◌≡◌, ℕ, ◌<◌, Bool, true, not, ◌&&◌, eqb, List, length, get_or}
use mathlib.Core.Path.{ap, ◌∙◌}
use Rattle.columns.proofs.Counting.{bit-set}
use Rattle.columns.specs.Counting.{bit}
use Rattle.columns.proofs.Lists.{length-listed, listed_at}
use Rattle.table.specs.Lts.{Lts, Valid}
use Rattle.table.specs.Reach.{reaches}
use Rattle.table.specs.Marks.{marks_from, marks_into}
use Rattle.quotient_redundant.specs.Redundant.{rival, witness}

pub length_from : (t : Lts) (s : ℕ) → length (marks_from t s) ≡ t.n
length_from t s = length-listed t.n (λ v. bit (reaches t true s v))

pub length_into : (t : Lts) (u : ℕ) → length (marks_into t u) ≡ t.n
length_into t u = length-listed t.n (λ v. bit (reaches t true v u))

module _ (t : Lts) (v : Valid t) (i j : ℕ) (h : j < t.m) (forward backward : List ℕ) (ef : forward ≡ marks_from t (get_or t.source i 0))
    (eb : backward ≡ marks_into t (get_or t.target i 0)) where
  from : not (eqb (get_or forward (get_or t.source j 0) 0) 0) ≡ reaches t true (get_or t.source i 0) (get_or t.source j 0)
  from =
      ap (λ (l : List ℕ). not (eqb (get_or l (get_or t.source j 0) 0) 0)) ef
      ∙ ap (λ (x : ℕ). not (eqb x 0))
      (listed_at t.n (λ x. bit (reaches t true (get_or t.source i 0) x)) (get_or t.source j 0) (v.fields j h).source)
      ∙ bit-set (reaches t true (get_or t.source i 0) (get_or t.source j 0))

  into : not (eqb (get_or backward (get_or t.target j 0) 0) 0) ≡ reaches t true (get_or t.target j 0) (get_or t.target i 0)
  into =
      ap (λ (l : List ℕ). not (eqb (get_or l (get_or t.target j 0) 0) 0)) eb
      ∙ ap (λ (x : ℕ). not (eqb x 0))
      (listed_at t.n (λ x. bit (reaches t true x (get_or t.target i 0))) (get_or t.target j 0) (v.fields j h).target)
      ∙ bit-set (reaches t true (get_or t.target j 0) (get_or t.target i 0))

  -- the three tests of the row, as they came out
  pub marked :
      (r f b : Bool) → r ≡ rival t.source t.label t.target i j → f ≡ not (eqb (get_or forward (get_or t.source j 0) 0) 0)
      → b ≡ not (eqb (get_or backward (get_or t.target j 0) 0) 0) → (r && (f && b)) ≡ witness t i j
  unfolding witness
  marked r f b er ef' eb' = λ k. er k && ((ef' ∙ from) k && (eb' ∙ into) k)
