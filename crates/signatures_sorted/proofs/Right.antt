-- Over given lists that are the branching signatures of the states to which s has a hidden step within its block, the sorted signature of
-- s is its branching signature.
use Rattle.std.specs.Prelude.{◌≡◌, ℕ, ◌⊎◌, List, get_or}
use mathlib.Core.Path.{sym, subst, ◌∙◌}
use mathlib.Core.Logic.{inl, inr}
use Rattle.columns.specs.Sets.{Mem, Pair}
use Rattle.signatures.proofs.Sigs.{sig_ext}
use Rattle.table.specs.Lts.{Lts, Step, Valid}
use Rattle.table.specs.Reach.{Walk, stop, along}
use Rattle.signatures_branching.specs.Branching.{inert_edge, branching_pushed, branching_signature}
use Rattle.signatures_branching.proofs.BranchingSigs.{Leaves, branching_in, branching_out}
use Rattle.signatures_branching.proofs.InertSteps.{inert_of, inert_step_lem, inert_block}
use Rattle.signatures_sorted.specs.Sorted.{sorted_pushed, sorted_signature}
use Rattle.signatures_sorted.proofs.SortedSigs.{OwnOf, TakenOf, sorted_own, sorted-taken, sorted_out}

module _ (t : Lts) (v : Valid t) (home : List ℕ) (given : ℕ → List Pair) where
  -- the lists that s takes are right
  abbrev RightAt : ℕ → Type 0
  RightAt s = (u : ℕ) → Step t s 0 u → get_or home u 0 ≡ get_or home s 0 → given u ≡ branching_signature t home u

  -- a step that leaves at the end of a walk in block b: it is an own step of s, or in the list of the walk's first target
  leaving :
      (b a y : ℕ) {s x : ℕ} → RightAt s → get_or home s 0 ≡ b → Walk (inert_edge t home b) s x → Step t x a y
      → (a ≡ 0 → get_or home y 0 ≡ b → ⊥) → Mem {A = Pair} (a, get_or home y 0) (sorted_signature t home given s)
  leaving b a y right e (stop {s = s}) k out =
      sorted_own t home given s (a, get_or home y 0)
      (record { label = a; target = y; step = k; own = λ z h. out z (h ∙ e); pair = λ i. (a, get_or home y 0) })
  leaving b a y right e (along {s = s} {u = u} {v = x} g w) k out =
      let st : Step t s 0 u = inert_step_lem t home b s u g in
      let eu : get_or home u 0 ≡ b = inert_block t home b s u g in
      let l : Leaves t home u a (get_or home y 0) = record {
        through = x;
        reached = subst (λ (c : ℕ). Walk (inert_edge t home c) u x) (sym eu) w;
        target = y;
        step = k;
        outer = λ z h. out z (h ∙ eu);
        block = λ i. get_or home y 0;
      } in
      sorted-taken t home given s (a, get_or home y 0)
      (record {
        target = u;
        step = st;
        stays = eu ∙ sym e;
        listed = subst (λ (q : List Pair). Mem {A = Pair} (a, get_or home y 0) q) (sym (right u st (eu ∙ sym e)))
            (branching_in t v home u a (get_or home y 0) l);
      })

  module _ (s : ℕ) (right : RightAt s) where
    up : (p : Pair) → Mem p (branching_signature t home s) → Mem p (sorted_signature t home given s)
    up p m =
        let l = branching_out t v home s p.0 p.1 m in
        subst (λ (b : ℕ). Mem {A = Pair} (p.0, b) (sorted_signature t home given s)) l.block
        (leaving (get_or home s 0) p.0 l.target right (λ i. get_or home s 0) l.reached l.step l.outer)

    own : (p : Pair) → OwnOf t home s p → Mem p (branching_signature t home s)
    own p o =
        subst (λ (q : Pair). Mem q (branching_signature t home s)) (sym o.pair)
        (branching_in t v home s o.label (get_or home o.target 0)
        (record { through = s; reached = stop; target = o.target; step = o.step; outer = o.own; block = λ i. get_or home o.target 0 }))

    taken : (p : Pair) → TakenOf t home given s p → Mem p (branching_signature t home s)
    taken p o =
        let u = o.target in
        let l = branching_out t v home u p.0 p.1 (subst (λ (q : List Pair). Mem p q) (right u o.step o.stays) o.listed) in
        branching_in t v home s p.0 p.1
        (record {
          through = l.through;
          reached =
              along (inert_of t home (get_or home s 0) s u o.step o.stays)
              (subst (λ (c : ℕ). Walk (inert_edge t home c) u l.through) o.stays l.reached);
          target = l.target;
          step = l.step;
          outer = λ z h. l.outer z (h ∙ sym o.stays);
          block = l.block;
        })

    down : (p : Pair) → Mem p (sorted_signature t home given s) → Mem p (branching_signature t home s)
    down p m = go (sorted_out t home given s p m)
      where
        go : OwnOf t home s p ⊎ TakenOf t home given s p → Mem p (branching_signature t home s)
        go (inl o) = own p o
        go (inr o) = taken p o

pub sorted_right :
    (t : Lts) → Valid t → (home : List ℕ) (given : ℕ → List Pair) (s : ℕ)
    → ((u : ℕ) → Step t s 0 u → get_or home u 0 ≡ get_or home s 0 → given u ≡ branching_signature t home u)
    → sorted_signature t home given s ≡ branching_signature t home s
unfolding sorted_signature branching_signature
sorted_right t v home given s right =
    sig_ext (sorted_pushed t home given s) (branching_pushed t home s) (down t v home given s right) (up t v home given s right)
