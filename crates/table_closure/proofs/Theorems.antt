-- What `mark_backward_closure` leaves once it is done, in document 01's words: a state of the block is marked exactly if hidden steps
-- within the block, perhaps none, lead from it to a mark that was there; everything else is as it was.
use Rattle.std.specs.Prelude.{◌≡◌, ℕ, ◌<◌, ◌↔◌, List, [], length}
use mathlib.Core.Path.{sym, ap, subst}
use Rattle.columns.specs.Answers.{done}
use Rattle.columns.specs.Columns.{zeros}
use Rattle.partition.specs.Partition.{Partition, Sound, home_of}
use Rattle.table.specs.Lts.{Lts, Valid}
use Rattle.table.proofs.Sayings.{left-said}
use Rattle.table_closure.specs.Closure.{closure_refusal, close, mark_backward_closure}
use Rattle.table_closure.specs.Promise.{Marked, Leading, Elsewhere}
use Rattle.table_closure.proofs.Answering.{closure_ready}
use Rattle.table_closure.proofs.Laws.{close_law, close_exactly}
-- What it leaves is a partition.
pub use Rattle.table_closure.proofs.Laws.{close_sound}

pub record ClosureDone (t : Lts) (p : Partition) (b : ℕ) (order spare : List ℕ) (q : Partition) (x y : List ℕ) : Type 0 where
  pub valid : Valid t
  pub sound : Sound p
  pub known : b < p.count
  pub exactly : (s : ℕ) → s < p.n → home_of p s ≡ b → Marked q s ↔ Leading t p b s
  pub elsewhere : Elsewhere p b q
  pub still_sound : Sound q
  pub cleared : (x ≡ zeros (length order)) × (y ≡ zeros (length spare))

pub closure_done :
    (t : Lts) (p : Partition) → p.n ≡ t.n → (b : ℕ) (order spare : List ℕ) (q : Partition) (x y : List ℕ)
    → mark_backward_closure t p b order spare ≡ (done [], (q, (x, y))) → ClosureDone t p b order spare q x y
unfolding mark_backward_closure
closure_done t p same b order spare q x y e =
    let r = closure_refusal t p b (length order) (length spare) in
    let d =
    left-said r (p, (order, spare)) (close t p b, (zeros (length order), zeros (length spare))) (q, (x, y)) [] [] e in
    let k = closure_ready t p same b (length order) (length spare) r (λ i. r) d.0 in
    let c : close t p b ≡ q = ap (λ (l : Partition × (List ℕ × List ℕ)). l.0) d.1.1 in
    let law = close_law t k.valid p k.sound same b in
    record {
      valid = k.valid;
      sound = k.sound;
      known = k.known;
      exactly = subst (λ (q : Partition). (s : ℕ) → s < p.n → home_of p s ≡ b → Marked q s ↔ Leading t p b s) c
          (close_exactly t k.valid p k.sound same b k.known);
      elsewhere = subst (Elsewhere p b) c law.elsewhere;
      still_sound = subst Sound c law.sound;
      cleared = (
        sym (ap (λ (l : Partition × (List ℕ × List ℕ)). l.1.0) d.1.1),
        sym (ap (λ (l : Partition × (List ℕ × List ℕ)). l.1.1) d.1.1),
      );
    }
