-- The states of a block stand between its bounds, each once.
use Prim.Native.Nat.{ℕ, ◌+◌, ◌-◌, ◌<◌}
use native.Mathlib.Omega.{arith}
use mathlib.Core.Path.{◌≡◌, ap}
use lib.ListN.{get_or}
use Rattle.partition.specs.Partition.{Partition, Sound}
use Rattle.partition.specs.Stand.{Stand}

module _
    (p : Partition) (g : Sound p) (b : ℕ) (h : b < p.count) (x z : ℕ) (ex : x ≡ get_or p.begin b 0) (ez : z ≡ get_or p.end b 0)
  where
    pub stands : Stand p.elements p.n x (z - x)
    stands =
        let w = g.consistent.bounds b h in
        let o = g.consistent.order in
        record {
          long = omega (arith, ex, ez, w.some, w.most, g.long.elements);
          below = λ i l. o.below (x + i) (omega (arith, l, ez, w.most));
          once = λ i j l m e.
              omega (
                arith,
                o.back (x + i) (omega (arith, l, ez, w.most)),
                o.back (x + j) (omega (arith, m, ez, w.most)),
                ap (λ (s : ℕ). get_or p.element_offset s 0) e,
              );
        }
