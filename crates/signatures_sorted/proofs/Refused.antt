-- What a call goes by that takes given lists and is not refused by its checks.
use Rattle.std.specs.Prelude.{◌≡◌, ℕ, ◌+◌, ◌<◌, ◌≤◌, Bool, ◌&&◌, leb, List, ◌∷◌, map, length}
use borrow.Author.Tests.{leb-true, ltb-true}
use mathlib.Core.Path.{refl, ap, ◌∙◌}
use Rattle.columns.specs.Answers.{Refusal, none}
use Rattle.columns.specs.Due.{Test, index_test}
use Rattle.columns.proofs.Bools.{and_left, and_right}
use Rattle.columns.proofs.Chains.{Holds, passed_both}
use Rattle.partition.specs.Partition.{Partition, Sound}
use Rattle.pairs.specs.Lists.{Lists, lists_tests}
use Rattle.pairs.proofs.Listing.{lists_of}
use Rattle.signatures.specs.Signing.{works_fit}
use Rattle.signatures.proofs.Works.{Wide, wide_of}
use Rattle.table.specs.Checks.{works_long}
use Rattle.table.specs.Lts.{Lts, Valid}
use Rattle.table_partition.specs.Checks.{both_tests}
use Rattle.table_partition.proofs.Refusals.{BothReady, both_of}
use Rattle.signatures_sorted.specs.Sorted.{Given, sorted_refusal}

-- the tests of the lists
abbrev pub tested : Lts → Given → List Test
tested t g = lists_tests g.starts t.n g.labels g.blocks

module _ (t : Lts) (p : Partition) (same : p.n ≡ t.n) (s : ℕ) (g : Given) (room : Bool) (q : Refusal) (e : q ≡ sorted_refusal t p s g room)
    (z : q.number ≡ 0) where
  held : Holds (both_tests t p room) × Holds (index_test s t.n ∷ tested t g)
  unfolding sorted_refusal
  held = passed_both (both_tests t p room) (index_test s t.n ∷ tested t g) refl q e z

  pub sorted_ready : BothReady t p s t.n room
  sorted_ready =
      let c = both_of t p same room held.0 in
      record { valid = c.valid; sound = c.sound; known = ltb-true s t.n held.1.0; enough = c.enough }

  pub sorted_lists : Lists g.starts t.n g.labels g.blocks
  sorted_lists = lists_of g.starts t.n g.labels g.blocks held.1.1

-- ---- the checks of a call that writes a signature by given lists
module _ (t : Lts) (p : Partition) (s : ℕ) (g : Given) (works : List (List ℕ)) where
  -- there are starts enough
  abbrev pub started : Bool
  started = leb (t.n + 1) (length g.starts)

  -- what a call goes by whose checks refuse nothing
  pub record SortedSignable : Type 0 where
    pub valid : Valid t
    pub sound : Sound p
    pub known : s < t.n
    pub many_starts : t.n + 1 ≤ length g.starts
    pub wide : Wide t works
    pub lists : Lists g.starts t.n g.labels g.blocks

  -- the checks are made with b, what was found of the lengths of the work slices
  module _ (b : Bool) (f : b ≡ works_long t (map (λ w. length w) works)) where
    pub sorted_asked : (r : Refusal) → r ≡ sorted_refusal t p s g (started && b) → r ≡ sorted_refusal t p s g (started && works_fit t works)
    unfolding works_fit
    sorted_asked r e = e ∙ ap (λ (x : Bool). sorted_refusal t p s g (started && x)) f

    pub sorted_signable : p.n ≡ t.n → none ≡ sorted_refusal t p s g (started && b) → SortedSignable
    sorted_signable same e =
        let room = started && works_fit t works in
        let q = sorted_ready t p same s g room none (sorted_asked none e) refl in
        record {
          valid = q.valid;
          sound = q.sound;
          known = q.known;
          many_starts = leb-true _ _ (and_left started (works_fit t works) q.enough);
          wide = wide_of t works (and_right started (works_fit t works) q.enough);
          lists = sorted_lists t p same s g room none (sorted_asked none e) refl;
        }
