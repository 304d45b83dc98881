-- A sound partition over another order, or with other marks in one block, is sound.
use Rattle.columns.proofs.Lists.{set_here}
use Prim.Native.Nat.{ℕ, ◌≤◌, ◌<◌}
use native.Mathlib.Omega.{arith}
use mathlib.Core.Path.{◌≡◌, ap}
use mathlib.Core.Logic.{⊎_elim}
use mathlib.Core.List.{List}
use lib.ListN.{length, get_or, set, length-set}
use lib.Seq.{get_or-set_same, get_or-set_other}
use Rattle.columns.specs.Inverse.{Inverse}
use Rattle.columns.proofs.All.{same_or_not}
use Rattle.partition.specs.Partition.{Partition, reordered, with_split, Within, Lies, Consistent, Long, Sound}

pub order_sound :
    (p : Partition) → Sound p → (l o : List ℕ) → p.n ≤ length l → p.n ≤ length o → Inverse l o p.n → Inverse o l p.n
    → ((s : ℕ) → s < p.n → Lies (reordered p l o) s) → Sound (reordered p l o)
order_sound p g l o ll lo order places lies =
    let h = g.consistent in
    record {
      small = g.small;
      long = record {
        elements = ll;
        element_offset = lo;
        element_to_block = g.long.element_to_block;
        begin = g.long.begin;
        marked_split = g.long.marked_split;
        end = g.long.end;
      };
      consistent = record {
        some = h.some;
        most = h.most;
        order = order;
        places = places;
        bounds = h.bounds;
        lies = lies;
        whole = h.whole;
      };
    }

module _ (p : Partition) (h : Consistent p) (g : Long p) (b m : ℕ) (hb : b < p.count) where
  room : b < length p.marked_split
  room = omega (arith, hb, h.most, g.marked_split)

  pub marks_begin : get_or (set p.marked_split b m) b 0 ≡ m
  marks_begin = get_or-set_same p.marked_split b m 0 room

  pub marks_long : Long (with_split p b m)
  marks_long = record {
    elements = g.elements;
    element_offset = g.element_offset;
    element_to_block = g.element_to_block;
    begin = g.begin;
    marked_split = omega (arith, g.marked_split, length-set p.marked_split b m);
    end = g.end;
  }

  module _ (low : get_or p.begin b 0 ≤ m) (high : m ≤ get_or p.end b 0) where
    pub marks_bounds :
        (j : ℕ) → j < p.count → Within (get_or p.begin j 0) (get_or (set p.marked_split b m) j 0) (get_or p.end j 0) p.n
    marks_bounds j w =
        let i = h.bounds j w in
        ⊎_elim
        (λ (e : j ≡ b).
        let x = set_here p.marked_split b m j room e in
        record {
          some = i.some;
          from = omega (arith, x, low, ap (λ (y : ℕ). get_or p.begin y 0) e);
          to = omega (arith, x, high, ap (λ (y : ℕ). get_or p.end y 0) e);
          most = i.most;
        })
        (λ (n : j ≡ b → ⊥).
        let x = get_or-set_other p.marked_split b j m 0 n in
        record { some = i.some; from = omega (arith, x, i.from); to = omega (arith, x, i.to); most = i.most })
        (same_or_not j b)

    pub marks_consistent : Consistent (with_split p b m)
    marks_consistent = record {
      some = h.some;
      most = h.most;
      order = h.order;
      places = h.places;
      bounds = marks_bounds;
      lies = λ s w. let i = h.lies s w in record { known = i.known; from = i.from; to = i.to };
      whole = h.whole;
    }
