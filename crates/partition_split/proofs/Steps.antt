-- What `split` does, said of the numbers and columns that the code has read and left.
use Rattle.std.specs.Prelude.{◌≡◌, ℕ, ◌+◌, ◌-◌, ◌<◌, ◌≤◌, Bool, true, false, cond, eqb, List, length, get_or, set}
use native.Mathlib.Omega.{arith}
use borrow.Author.Tests.{eqb-true, eqb-false}
use mathlib.Core.Path.{ap, sym, ◌∙◌}
use lib.Seq.{set-get_or}
use Rattle.partition.specs.Partition.{Partition, parts, Sound, reordered}
use Rattle.partition.specs.SwapBlocks.{renumbered}
use Rattle.partition_split.specs.Split.{Sifted, sifting, sifted, sifted_in, cut, makes_block, splitsb, split}
use Rattle.partition_split.proofs.Cutting.{room_for}
use Rattle.partition_split.proofs.Reordering.{sieved, reordered_sound}
use Rattle.partition_split.proofs.Splits.{parts_nothing, parts_all, parts_both, sifted_of, place_of, split_made, split_stays, apart}

module _ (p : Partition) (g : Sound p) (b : ℕ) (w : b < p.count) (c : List ℕ) (room : p.n ≤ length c)
    (x m z : ℕ) (ex : x ≡ get_or p.begin b 0) (em : m ≡ get_or p.marked_split b 0) (ez : z ≡ get_or p.end b 0) where
  -- what `sift` asks of the marked stretch
  pub sift_ready : ((m ≤ z) × (z ≤ length p.elements) × (z ≤ 65536)) ×
      ((k : ℕ) → k < z → (get_or p.elements k 0 < length c) × (get_or p.elements k 0 < length p.element_offset))
  sift_ready =
      let i = g.consistent.bounds b w in (
        (omega (arith, i.to), omega (arith, i.most, g.long.elements), omega (arith, i.most, g.small)),
        λ k wk. let u = g.consistent.order.below k (omega (arith, i.most)) in
            (omega (arith, u, room), omega (arith, u, g.long.element_offset)),
      )

  -- and once it has answered e
  module _ (l o : List ℕ) (e : ℕ) (es : sifting l o e ≡ sifted (z - m) c p.elements p.element_offset m) where
    same : sifting l o e ≡ sifted_in p b c
    unfolding sifted_in
    same = es ∙ rw (em, ez)

    place : e ≡ (sifted_in p b c).first
    place = ap (λ (f : Sifted). f.first) same

    made_at : makes_block p b e ≡ splitsb p b c
    unfolding splitsb
    made_at = ap (makes_block p b) place

    unsplit :
        makes_block p b e ≡ false
        → parts l o p.element_to_block p.begin p.marked_split p.end p.n p.count ≡ split p b c
    unsplit t = ap (λ (f : Sifted). reordered p f.elements f.element_offset) same ∙ sym (split_stays p b c (sym made_at ∙ t))

    pub nothing_chosen : e ≡ z → parts l o p.element_to_block p.begin p.marked_split p.end p.n p.count ≡ split p b c
    nothing_chosen q = unsplit (parts_nothing p b e (q ∙ ez))

    pub place_small : e < 65536
    place_small = omega (arith, place, (sieved p b c g w).high, (g.consistent.bounds b w).most, g.small)

    -- the marks of a block that is chosen whole are written where they were
    pub all-chosen : (k : ℕ) → k ≡ cond (eqb e x) m e → eqb e x ≡ true →
        parts l o p.element_to_block p.begin (set p.marked_split b k) p.end p.n p.count ≡ split p b c
    all-chosen k ek t =
        ap (λ (y : List ℕ). parts l o p.element_to_block p.begin y p.end p.n p.count)
        (ap (set p.marked_split b) (ek ∙ ap (λ (y : Bool). cond y m e) t ∙ em) ∙ set-get_or p.marked_split b 0)
        ∙ unsplit (parts_all p b e (eqb-true e x t ∙ ex))

    module _ (nz : e ≡ z → ⊥) (nx : eqb e x ≡ false) where
      made : splitsb p b c ≡ true
      made = sym made_at ∙ parts_both p b e (λ q. nz (q ∙ sym ez)) (λ q. eqb-false e x nx (q ∙ sym ex))

      -- the cut is inside the block, and there is room for one block more
      pub record Cuttable : Type 0 where
        pub from : x < e
        pub to : e < z
        pub small : z < 65536
        pub fits : p.count < p.n
        pub known : (k : ℕ) → k < z → get_or l k 0 < length p.element_to_block
        pub long : z ≤ length l

      pub cut_ready : Cuttable
      cut_ready =
          let a = apart p b c g w made in
          let i = g.consistent.bounds b w in
          let v = sieved p b c g w in
          let el : l ≡ (sifted_in p b c).elements = ap (λ (f : Sifted). f.elements) same in
          record {
            from = omega (arith, a.0, place);
            to = omega (arith, a.1, place);
            small = omega (arith, i.most, g.small);
            fits = room_for (sifted_of p b c) (reordered_sound p b c g w) b w (place_of p b c) a.0 a.1;
            known = λ k wk. omega (
              arith,
              ap (λ (y : List ℕ). get_or y k 0) el,
              v.order.below k (omega (arith, i.most)),
              g.long.element_to_block,
            );
            long = omega (arith, ap length el, v.long, i.most, g.long.elements);
          }

      pub split_done :
          (k : ℕ) (bl bg sp en : List ℕ) → k ≡ cond (eqb e x) m e → bg ≡ set p.begin p.count e
          → sp ≡ set (set p.marked_split b k) p.count z → en ≡ set (set p.end b e) p.count z
          → bl ≡ renumbered l e z p.count p.element_to_block → parts l o bl bg sp en p.n (p.count + 1) ≡ split p b c
      unfolding cut
      split_done k bl bg sp en ek qg qs qe ql =
          rw (qg, qs, ek, nx, qe, ql, ez)
          (ap (λ (f : Sifted). cut (reordered p f.elements f.element_offset) b f.first) same ∙ sym (split_made p b c made))
