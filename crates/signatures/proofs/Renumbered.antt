-- The numbers of the blocks don't matter to whether two states have one signature, only which states share a block.
use Rattle.std.specs.Prelude.{◌≡◌, ℕ, ◌<◌, Bool, ◌⊎◌, List, get_or}
use native.Mathlib.Omega.{arith}
use mathlib.Core.Path.{ap, sym, subst, ◌∙◌}
use mathlib.Core.Logic.{inl, inr}
use Rattle.columns.specs.Blocks.{Finer}
use Rattle.columns.specs.Sets.{Mem, Pair}
use Rattle.signatures.specs.Inductive.{inductive_pushed, inductive_signature}
use Rattle.signatures.specs.Strong.{strong_signature}
use Rattle.signatures.proofs.InductiveSigs.{KeyOf, StepOf, inductive_key, inductive_other, inductive_out}
use Rattle.signatures.proofs.Sigs.{sig_ext}
use Rattle.signatures.proofs.StrongSigs.{Leads, strong_in, strong_out, strong_ext}
use Rattle.table.specs.Lts.{Lts, Valid}
use Rattle.table.proofs.Rows.{step_fields}

module _ (t : Lts) (v : Valid t) (home home' : List ℕ) (to : Finer t.n home home') where
  pub strong_alike : (r s : ℕ) → strong_signature t home r ≡ strong_signature t home s → strong_signature t home' r ≡ strong_signature t home' s
  strong_alike r s e = strong_ext t home' r s (half r s e) (half s r (sym e))
    where
      half : (r s : ℕ) → strong_signature t home r ≡ strong_signature t home s → (a b : ℕ) → Leads t home' r a b → Leads t home' s a b
      half r s e a b l =
          let g =
          strong_out t home s a (get_or home l.target 0)
          (subst (λ (q : List Pair). Mem {A = Pair} (a, get_or home l.target 0) q) e (strong_in t home r a l.target l.step)) in
          record {
            target = g.target;
            step = g.step;
            block =
                to g.target l.target (step_fields t v s a g.target g.step).1.1
                (step_fields t v r a l.target l.step).1.1
                g.block
                ∙ l.block;
          }

  module _ (from : Finer t.n home' home) (marked : ℕ → Bool) (keys : List ℕ) where
    -- a pair of r is one of s
    module _ (r s : ℕ) (hr : r < t.n) (hs : s < t.n)
        (e : inductive_signature t home marked keys r ≡ inductive_signature t home marked keys s) where
      under : (p : Pair) → Mem p (inductive_signature t home marked keys r) → KeyOf t home marked keys s p ⊎ StepOf t home marked keys s p
      under p m = inductive_out t home marked keys s p (subst (λ (q : List Pair). Mem p q) e m)

      key : (p : Pair) → KeyOf t home' marked keys r p → Mem p (inductive_signature t home' marked keys s)
      key p k =
          go (under (t.labels, get_or keys k.target 0)
          (inductive_key t home marked keys r k.target k.step
          (from k.target r (step_fields t v r 0 k.target k.step).1.1 hr k.stays)
          k.is_marked))
        where
          go : KeyOf t home marked keys s (t.labels, get_or keys k.target 0) ⊎ StepOf t home marked keys s
              (t.labels, get_or keys k.target 0)
              → Mem p (inductive_signature t home' marked keys s)
          go (inl j) =
              subst (λ (q : Pair). Mem q (inductive_signature t home' marked keys s)) (sym (k.pair ∙ j.pair))
              (inductive_key t home' marked keys s j.target j.step
              (to j.target s (step_fields t v s 0 j.target j.step).1.1 hs j.stays)
              j.is_marked)
          go (inr j) =
              absurd (omega (arith, ap (λ (q : Pair). q.0) j.pair, (step_fields t v s j.label j.target j.step).1.0))

      other : (p : Pair) → StepOf t home' marked keys r p → Mem p (inductive_signature t home' marked keys s)
      other p k =
          go (under (k.label, get_or home k.target 0)
          (inductive_other t home marked keys r k.label k.target k.step
          (λ z b m. k.other z (to k.target r hu hr b) m)))
        where
          hu : k.target < t.n
          hu = (step_fields t v r k.label k.target k.step).1.1

          go : KeyOf t home marked keys s (k.label, get_or home k.target 0) ⊎ StepOf t home marked keys s
              (k.label, get_or home k.target 0)
              → Mem p (inductive_signature t home' marked keys s)
          go (inl j) =
              absurd (omega (arith, ap (λ (q : Pair). q.0) j.pair, (step_fields t v r k.label k.target k.step).1.0))
          go (inr j) =
              let hw = (step_fields t v s j.label j.target j.step).1.1 in
              let a : k.label ≡ j.label = ap (λ (q : Pair). q.0) j.pair in
              let b : get_or home' k.target 0 ≡ get_or home' j.target 0 =
              to k.target j.target hu hw (ap (λ (q : Pair). q.1) j.pair) in
              let same : ◌≡◌ {A = Pair} (k.label, get_or home' k.target 0) (j.label, get_or home' j.target 0) = λ i. (a i, b i) in
              subst (λ (q : Pair). Mem q (inductive_signature t home' marked keys s)) (sym (k.pair ∙ same))
              (inductive_other t home' marked keys s j.label j.target j.step (λ z c m. j.other z (from j.target s hw hs c) m))

      carried : (p : Pair) → Mem p (inductive_signature t home' marked keys r) → Mem p (inductive_signature t home' marked keys s)
      carried p m = go (inductive_out t home' marked keys r p m)
        where
          go : KeyOf t home' marked keys r p ⊎ StepOf t home' marked keys r p → Mem p (inductive_signature t home' marked keys s)
          go (inl k) = key p k
          go (inr k) = other p k

    pub inductive_alike :
        (r s : ℕ) → r < t.n → s < t.n → inductive_signature t home marked keys r ≡ inductive_signature t home marked keys s
        → inductive_signature t home' marked keys r ≡ inductive_signature t home' marked keys s
    unfolding inductive_signature
    inductive_alike r s hr hs e =
        sig_ext (inductive_pushed t home' marked keys r) (inductive_pushed t home' marked keys s) (carried r s hr hs e)
        (carried s r hs hr (sym e))
