-- The numbers of the blocks don't matter to whether two states have one sorted signature, only which states share a block, and what the
-- given lists say of each.
use Rattle.std.specs.Prelude.{◌≡◌, ℕ, ◌<◌, ◌⊎◌, List, get_or}
use mathlib.Core.Path.{ap}
use mathlib.Core.Logic.{inl, inr}
use Rattle.columns.specs.Sets.{Mem, Pair}
use Rattle.table.specs.Lts.{Lts, Step, Valid}
use Rattle.table.proofs.Rows.{step_fields}
use Rattle.columns.specs.Blocks.{Finer}
use Rattle.signatures_branching.proofs.Matches.{Named, Matching, matching_sym, matching_same}
use Rattle.signatures_sorted.specs.Sorted.{sorted_signature}
use Rattle.signatures_sorted.proofs.SortedSigs.{OwnOf, TakenOf, sorted_own, sorted-taken, sorted_out, sorted_ascending}

-- the given lists of each state say the same of each block
abbrev pub GivenAlike : ℕ → List ℕ → List ℕ → (ℕ → List Pair) → (ℕ → List Pair) → Type 0
GivenAlike n home home' given given' = (u : ℕ) → u < n → Matching n home home' (given u) (given' u)

module _ (t : Lts) (v : Valid t) where
  below : (s a u : ℕ) → Step t s a u → u < t.n
  below s a u k = (step_fields t v s a u k).1.1

  module _ (home home' : List ℕ) (to : Finer t.n home home') (from : Finer t.n home' home) (given given' : ℕ → List Pair)
      (lists : GivenAlike t.n home home' given given') (s : ℕ) (hs : s < t.n) where
    own : (a u : ℕ) → u < t.n → OwnOf t home s (a, get_or home u 0) → OwnOf t home' s (a, get_or home' u 0)
    own a u hu o =
        let hx = below s o.label o.target o.step in
        let ea : a ≡ o.label = ap (λ (p : Pair). p.0) o.pair in
        let eb : get_or home' u 0 ≡ get_or home' o.target 0 = to u o.target hu hx (ap (λ (p : Pair). p.1) o.pair) in
        record {
          label = o.label;
          target = o.target;
          step = o.step;
          own = λ z h. o.own z (from o.target s hx hs h);
          pair = λ i. (ea i, eb i);
        }

    taken : (a u : ℕ) → u < t.n → TakenOf t home given s (a, get_or home u 0) → TakenOf t home' given' s (a, get_or home' u 0)
    taken a u hu o =
        let hx = below s 0 o.target o.step in
        record {
          target = o.target;
          step = o.step;
          stays = to o.target s hx hs o.stays;
          listed = (lists o.target hx).to a u hu o.listed;
        }

    carried : (a u : ℕ) → u < t.n → Mem {A = Pair} (a, get_or home u 0) (sorted_signature t home given s)
        → Mem {A = Pair} (a, get_or home' u 0) (sorted_signature t home' given' s)
    carried a u hu m = go (sorted_out t home given s (a, get_or home u 0) m)
      where
        go : OwnOf t home s (a, get_or home u 0) ⊎ TakenOf t home given s (a, get_or home u 0)
            → Mem {A = Pair} (a, get_or home' u 0) (sorted_signature t home' given' s)
        go (inl o) = sorted_own t home' given' s (a, get_or home' u 0) (own a u hu o)
        go (inr o) = sorted-taken t home' given' s (a, get_or home' u 0) (taken a u hu o)

    named_all : (p : Pair) → Mem p (sorted_signature t home given s) → Named t.n home p
    named_all p m = go (sorted_out t home given s p m)
      where
        go : OwnOf t home s p ⊎ TakenOf t home given s p → Named t.n home p
        go (inl o) =
            record { state = o.target; below = below s o.label o.target o.step; block = ap (λ (q : Pair). q.1) o.pair }
        go (inr o) = (lists o.target (below s 0 o.target o.step)).named p o.listed

  module _ (home home' : List ℕ) (to : Finer t.n home home') (from : Finer t.n home' home) (given given' : ℕ → List Pair)
      (lists : GivenAlike t.n home home' given given') where
    back : GivenAlike t.n home' home given' given
    back u h = matching_sym (lists u h)

    -- the two signatures of a state say the same of each block
    pub sorted_matching :
        (s : ℕ) → s < t.n → Matching t.n home home' (sorted_signature t home given s) (sorted_signature t home' given' s)
    sorted_matching s hs = record {
      to = carried home home' to from given given' lists s hs;
      from = carried home' home from to given' given back s hs;
      named = named_all home home' to from given given' lists s hs;
      named' = named_all home' home from to given' given back s hs;
    }

    pub sorted_alike :
        (r s : ℕ) → r < t.n → s < t.n → sorted_signature t home given r ≡ sorted_signature t home given s
        → sorted_signature t home' given' r ≡ sorted_signature t home' given' s
    sorted_alike r s hr hs e =
        matching_same (sorted_matching r hr) (sorted_matching s hs) (sorted_ascending t home' given' r) (sorted_ascending t home' given' s)
        e
