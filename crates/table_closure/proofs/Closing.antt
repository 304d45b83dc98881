-- When the positions of the marked stretch are read on.
use Rattle.std.specs.Prelude.{◌≡◌, ℕ, zero, suc, ◌<◌, ◌≤◌, Bool, true, false, ltb, get_or}
use native.Mathlib.Omega.{arith}
use borrow.Author.Tests.{ltb-true}
use mathlib.Core.Path.{refl, ap, sym, ◌∙◌}
use Rattle.table_closure.specs.Closure.{going_on, goes_on, read_down, close}
use Rattle.columns.proofs.Bools.{and_left}
use Rattle.partition.specs.Partition.{Partition}
use Rattle.table.specs.Lts.{Lts}

read_stop : (t : Lts) (b : ℕ) (p : Partition) (it : ℕ) → goes_on p b it ≡ false → read_down t b it p ≡ p
unfolding read_down
read_stop t b p zero e = refl
read_stop t b p (suc it) e = rw e

-- what the loop's test says
module _ (p : Partition) (b x m it : ℕ) (ex : x ≡ get_or p.begin b 0) (em : m ≡ get_or p.marked_split b 0) where
  pub goes : (c : Bool) → going_on x m it ≡ c → goes_on p b it ≡ c
  unfolding goes_on
  goes c e = rw (← ex, ← em) e

pub goes_before : (x m it : ℕ) → going_on x m it ≡ true → m < it
unfolding going_on
goes_before x m it e = ltb-true m it (and_left (ltb m it) (ltb x m) e)

-- the position before is a marked one
pub goes_marked : (p : Partition) (b it : ℕ) → goes_on p b (suc it) ≡ true → get_or p.marked_split b 0 ≤ it
unfolding goes_on
goes_marked p b it e = omega (arith, goes_before (get_or p.begin b 0) (get_or p.marked_split b 0) (suc it) e)

-- where the first position is not read, nothing changes
pub close_idle : (t : Lts) (b : ℕ) (p : Partition) (z : ℕ) → z ≡ get_or p.end b 0 → goes_on p b z ≡ false → p ≡ close t p b
unfolding close
close_idle t b p z ez e = sym (read_stop t b p z e) ∙ ap (λ (k : ℕ). read_down t b k p) ez
