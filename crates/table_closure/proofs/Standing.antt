-- The states of a block, and no others, stand at its positions, each once.
use Rattle.std.specs.Prelude.{◌≡◌, ℕ, ◌<◌, get_or}
use native.Mathlib.Omega.{arith}
use mathlib.Core.Path.{ap}
use Rattle.partition.specs.Partition.{Partition, Sound}
use Rattle.partition.proofs.Standing.{stands}
use Rattle.table_closure.specs.Inner.{Stands}

pub block_stands :
    (p : Partition) → Sound p → (b : ℕ) → b < p.count → (x z : ℕ) → x ≡ get_or p.begin b 0 → z ≡ get_or p.end b 0
    → Stands p.n p.elements p.element_to_block b x z
block_stands p g b h x z ex ez = record {
  low = omega (arith, (g.consistent.bounds b h).some, ex, ez);
  stand = stands p g b h x z ex ez;
  all = λ s l e.
      let i = g.consistent.lies s l in (
        get_or p.element_offset s 0,
        omega (arith, i.from, ap (λ (c : ℕ). get_or p.begin c 0) e, ex),
        omega (arith, i.to, ap (λ (c : ℕ). get_or p.end c 0) e, ez),
        g.consistent.places.back s l,
      );
}
