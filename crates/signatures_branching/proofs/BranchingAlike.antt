-- The numbers of the blocks don't matter to whether two states have one branching signature, only which states share a block.
use Rattle.std.specs.Prelude.{◌≡◌, ℕ, ◌<◌, List, get_or}
use mathlib.Core.Path.{sym}
use Rattle.columns.specs.Sets.{Mem, Pair}
use Rattle.table.specs.Lts.{Lts, Valid}
use Rattle.table.specs.Reach.{Walk, stop, along}
use Rattle.table.proofs.Rows.{step_fields}
use Rattle.signatures_branching.specs.Branching.{inert_edge, branching_signature}
use Rattle.signatures_branching.proofs.BranchingSigs.{Leaves, branching_in, branching_out, branching_ascending}
use Rattle.signatures_branching.proofs.InertSteps.{inert_of, inert_step_lem, inert_block, inert_state}
use Rattle.columns.specs.Blocks.{Finer}
use Rattle.signatures_branching.proofs.Matches.{Named, Matching, matching_same}

module _ (t : Lts) (v : Valid t) where
  -- a walk in the block of s is one under the other numbering
  module _ (home home' : List ℕ) (to : Finer t.n home home') (s : ℕ) (hs : s < t.n) where
    same_walk : {x y : ℕ} → Walk (inert_edge t home (get_or home s 0)) x y → Walk (inert_edge t home' (get_or home' s 0)) x y
    same_walk stop = stop
    same_walk (along {s = x} {u = y} e w) =
        along (inert_of t home' (get_or home' s 0) x y (inert_step_lem t home (get_or home s 0) x y e)
        (to y s (inert_state t home (get_or home s 0) x y v e) hs (inert_block t home (get_or home s 0) x y e))) (same_walk w)

    -- what leaves to the block of u leaves to it
    same_leaves :
        Finer t.n home' home → (a u : ℕ) → u < t.n → Leaves t home s a (get_or home u 0) → Leaves t home' s a (get_or home' u 0)
    same_leaves from a u hu l =
        let hx = (step_fields t v l.through a l.target l.step).1.1 in
        record {
          through = l.through;
          reached = same_walk l.reached;
          target = l.target;
          step = l.step;
          outer = λ z h. l.outer z (from l.target s hx hs h);
          block = to l.target u hx hu l.block;
        }

  leaves_named : (home : List ℕ) (s : ℕ) (p : Pair) → Mem p (branching_signature t home s) → Named t.n home p
  leaves_named home s p m =
      let l = branching_out t v home s p.0 p.1 m in
      record { state = l.target; below = (step_fields t v l.through p.0 l.target l.step).1.1; block = sym l.block }

  module _ (home home' : List ℕ) (to : Finer t.n home home') (from : Finer t.n home' home) where
    -- the two signatures of a state say the same of each block
    pub branching_matching : (s : ℕ) → s < t.n → Matching t.n home home' (branching_signature t home s) (branching_signature t home' s)
    branching_matching s hs = record {
      to = λ a u hu m.
          branching_in t v home' s a (get_or home' u 0)
          (same_leaves home home' to s hs from a u hu (branching_out t v home s a (get_or home u 0) m));
      from = λ a u hu m.
          branching_in t v home s a (get_or home u 0)
          (same_leaves home' home from s hs to a u hu (branching_out t v home' s a (get_or home' u 0) m));
      named = leaves_named home s;
      named' = leaves_named home' s;
    }

    pub branching_alike :
        (r s : ℕ) → r < t.n → s < t.n → branching_signature t home r ≡ branching_signature t home s
        → branching_signature t home' r ≡ branching_signature t home' s
    branching_alike r s hr hs e =
        matching_same (branching_matching r hr) (branching_matching s hs) (branching_ascending t v home' r)
        (branching_ascending t v home' s) e
