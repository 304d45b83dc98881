-- Laws of `fresh`: what the code writes, and that it is a partition.
use Prim.Native.Nat.{ℕ, ◌≤◌, ◌<◌}
use native.Mathlib.Omega.{arith}
use mathlib.Core.Path.{◌≡◌, refl, ap, ◌∙◌}
use mathlib.Core.List.{List, ◌++◌}
use lib.ListN.{length, get_or, set, take, drop, length-set, get_or-replicate, length-replicate}
use lib.Seq.{get_or-set_same}
use Rattle.columns.specs.Limits.{max_states}
use Rattle.columns.specs.Columns.{listed, over, written, wiped, zeros}
use Rattle.columns.specs.Inverse.{Inverse}
use Rattle.columns.proofs.Lists.{front_written, wiped_front, written_at, length-written, length_over}
use Rattle.partition.specs.Partition.{Partition, Consistent, Long, Sound, Within, Lies, lengths, parts}
use Rattle.partition.specs.Fresh.{fresh}

pub fresh_done :
    (p : Partition) → Long p → (e o b : List ℕ)
    → e ≡ listed (length (take p.n p.elements)) (λ k. k)
    → o ≡ listed (length (take p.n p.element_offset)) (λ k. k)
    → b ≡ zeros (length (take p.n p.element_to_block))
    → parts (e ++ drop p.n p.elements) (o ++ drop p.n p.element_offset) (b ++ drop p.n p.element_to_block)
    (set p.begin 0 0) (set p.marked_split 0 0) (set p.end 0 p.n) p.n p.count
    ≡ fresh p
unfolding fresh
fresh_done p l e o b he ho hb =
    rw (
      front_written p.n (λ k. k) p.elements e l.elements he,
      front_written p.n (λ k. k) p.element_offset o l.element_offset ho,
      wiped_front p.n p.element_to_block p.element_to_block b l.element_to_block hb refl,
    )

module _ (p : Partition) (some : 1 ≤ p.n) (small : p.n ≤ max_states) (l : Long p) (one : p.count ≡ 1) where
  straight : (a b : List ℕ) → Inverse (written p.n (λ k. k) a) (written p.n (λ k. k) b) p.n
  straight a b =
      record {
        below = λ k w. omega (arith, written_at p.n (λ k. k) a k w);
        back = λ k w.
            ap (λ (x : ℕ). get_or (written p.n (λ k. k) b) x 0) (written_at p.n (λ k. k) a k w) ∙ written_at p.n (λ k. k) b k w;
      }

  block_zero : (s : ℕ) → s < p.n → get_or (wiped p.n p.element_to_block) s 0 ≡ 0
  unfolding wiped over
  block_zero s w =
      lib.ListN.get_or-append (zeros p.n) (drop (length (zeros p.n)) p.element_to_block) 0 s
      (omega (arith, length-replicate {A = ℕ} p.n 0))
      ∙ get_or-replicate p.n s 0 0 w

  at_begin : get_or (set p.begin 0 0) 0 0 ≡ 0
  at_begin = get_or-set_same p.begin 0 0 0 (omega (arith, l.begin))

  at_split : get_or (set p.marked_split 0 0) 0 0 ≡ 0
  at_split = get_or-set_same p.marked_split 0 0 0 (omega (arith, l.marked_split))

  at_end : get_or (set p.end 0 p.n) 0 0 ≡ p.n
  at_end = get_or-set_same p.end 0 p.n 0 (omega (arith, l.end))

  bounds : (b : ℕ) → b < p.count → Within (get_or (set p.begin 0 0) b 0) (get_or (set p.marked_split 0 0) b 0)
      (get_or (set p.end 0 p.n) b 0) p.n
  bounds b w =
      let z : b ≡ 0 = omega (arith, one) in
      let x = ap (λ (k : ℕ). get_or (set p.begin 0 0) k 0) z ∙ at_begin in
      let m = ap (λ (k : ℕ). get_or (set p.marked_split 0 0) k 0) z ∙ at_split in
      let e = ap (λ (k : ℕ). get_or (set p.end 0 p.n) k 0) z ∙ at_end in
      record { some = omega (arith, x, e); from = omega (arith, x, m); to = omega (arith, m, e); most = omega (arith, e) }

  lies : (s : ℕ) → s < p.n → Lies (fresh p) s
  unfolding fresh
  lies s w =
      let z = block_zero s w in
      let o = written_at p.n (λ k. k) p.element_offset s w in
      let x = ap (λ (k : ℕ). get_or (set p.begin 0 0) k 0) z ∙ at_begin in
      let e = ap (λ (k : ℕ). get_or (set p.end 0 p.n) k 0) z ∙ at_end in
      record { known = omega (arith, z, one); from = omega (arith, x); to = omega (arith, o, e) }

  whole : lengths (set p.begin 0 0) (set p.end 0 p.n) p.count ≡ p.n
  unfolding lengths
  whole = rw one (omega (arith, at_begin, at_end))

  fresh_consistent : Consistent (fresh p)
  unfolding fresh
  fresh_consistent =
      record {
        some = omega (arith, one);
        most = omega (arith, one);
        order = straight p.elements p.element_offset;
        places = straight p.element_offset p.elements;
        bounds = bounds;
        lies = lies;
        whole = whole;
      }

  fresh_long : Long (fresh p)
  unfolding fresh wiped
  fresh_long =
      record {
        elements = omega (arith, length-written p.n (λ k. k) p.elements l.elements, l.elements);
        element_offset = omega (arith, length-written p.n (λ k. k) p.element_offset l.element_offset, l.element_offset);
        element_to_block =
            omega (
              arith,
              length_over (zeros p.n) p.element_to_block (omega (arith, length-replicate {A = ℕ} p.n 0, l.element_to_block)),
              l.element_to_block,
            );
        begin = omega (arith, length-set p.begin 0 0, l.begin);
        marked_split = omega (arith, length-set p.marked_split 0 0, l.marked_split);
        end = omega (arith, length-set p.end 0 p.n, l.end);
      }

  pub fresh_sound : Sound (fresh p)
  unfolding fresh
  fresh_sound = record { small = small; long = fresh_long; consistent = fresh_consistent }
