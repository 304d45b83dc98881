-- `lie_at` meets its contract.
use Rattle.std.proofs.Common.{◌≡◌, ℕ, ◌<◌, Bool, List, get_or, arith}
use borrow.Author.Tests.{lt-ltb, le-ltb}
use Rattle.partition.specs.Partition.{insideb, lie_at}
use Rattle.partition.proofs.checks.lie_at.Goals as goal

lies :
    (o bl bg en : List ℕ) (count s b x y z : ℕ) (r : Bool)
    → b ≡ get_or bl s 0 → b < count → x ≡ get_or bg b 0 → y ≡ get_or o s 0 → z ≡ get_or en b 0 → r ≡ insideb x y z → r ≡ lie_at o bl bg en count s
unfolding lie_at
lies o bl bg en count s b x y z r eb h ex ey ez er = rw (lt-ltb (get_or bl s 0) count (omega arith)) (cc)

pub returns-then-b-count : goal.returns-then-b-count
returns-then-b-count c =
    lies _ _ _ _ _ _ _ _ _ _ _ c.at-b.ensures.0 c.if-b-count.true c.at.ensures.0 c.at-then-b-count.ensures.0 c.at-then-b-count-2.ensures.0 c.inside.ensures

pub returns-else-b-count : goal.returns-else-b-count
unfolding lie_at
returns-else-b-count c =
    let a = c.args in
    rw (le-ltb (get_or a.element_to_block.now a.s 0) a.count (omega arith)) (le-ltb c.at-b.result a.count (omega arith))
