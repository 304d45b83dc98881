-- Each arm puts what its number means.
use Rattle.std.proofs.Common.{◌≡◌, ℕ, [], refl, sym, ap, arith}
use borrow.Author.Tests.{ne_eqb}
use Rattle.spelling.proofs.Putting.{put_none, put_as}
use Rattle.reduce.specs.Line.{meaning}
use Rattle.reduce.proofs.line.meaning.Goals as goal

-- a number that no file is refused with is put as nothing
other :
    (n : ℕ) → (n ≡ 13 → ⊥) → (n ≡ 1 → ⊥) → (n ≡ 2 → ⊥) → (n ≡ 3 → ⊥) → (n ≡ 4 → ⊥) → (n ≡ 5 → ⊥) → (n ≡ 6 → ⊥) → [] ≡ meaning n
unfolding meaning
other n a b c d e f g =
    rw (ne_eqb n 13 a, ne_eqb n 1 b, ne_eqb n 2 c, ne_eqb n 3 d, ne_eqb n 4 e, ne_eqb n 5 f, ne_eqb n 6 g) refl

pub returns-in-13-clause-put : goal.returns-in-13-clause-put
unfolding meaning
returns-in-13-clause-put c = put_as c.put.ensures (ap meaning (sym c.in-13.is))

pub returns-in-1-clause-put : goal.returns-in-1-clause-put
unfolding meaning
returns-in-1-clause-put c = put_as c.put-in-1.ensures (ap meaning (sym c.in-1.is))

pub returns-in-2-clause-put : goal.returns-in-2-clause-put
unfolding meaning
returns-in-2-clause-put c = put_as c.put-in-2.ensures (ap meaning (sym c.in-2.is))

pub returns-in-3-clause-put : goal.returns-in-3-clause-put
unfolding meaning
returns-in-3-clause-put c = put_as c.put-in-3.ensures (ap meaning (sym c.in-3.is))

pub returns-in-4-clause-put : goal.returns-in-4-clause-put
unfolding meaning
returns-in-4-clause-put c = put_as c.put-in-4.ensures (ap meaning (sym c.in-4.is))

pub returns-in-5-clause-put : goal.returns-in-5-clause-put
unfolding meaning
returns-in-5-clause-put c = put_as c.put-in-5.ensures (ap meaning (sym c.in-5.is))

pub returns-in-6-clause-put : goal.returns-in-6-clause-put
unfolding meaning
returns-in-6-clause-put c = put_as c.put-in-6.ensures (ap meaning (sym c.in-6.is))

pub returns-in_default-clause-put : goal.returns-in_default-clause-put
returns-in_default-clause-put c =
    let none = put_none _ _ (omega arith) in
    put_as none
    (other _ (λ e. omega (arith, e)) (λ e. omega (arith, e)) (λ e. omega (arith, e)) (λ e. omega (arith, e)) (λ e. omega (arith, e))
    (λ e. omega (arith, e)) (λ e. omega (arith, e)))
