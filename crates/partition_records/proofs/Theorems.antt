-- The host forms in document 01's words: what `unmark_all` has done where it says done, and that the two forms of `swap_blocks` agree.
use mathlib.Core.Path.{◌≡◌, refl, ap}
use mathlib.Core.List.{List, [], ◌∷◌}
use Prim.Native.Nat.{ℕ}
use Rattle.columns.specs.Answers.{done}
use Rattle.columns.specs.Due.{Test, test, due}
use Rattle.columns.specs.Limits.{inconsistent, max_states}
use Rattle.columns.proofs.Chains.{passed}
use Rattle.columns.proofs.Doing.{leaving_done}
use Rattle.partition.specs.declared.block.Block.{Block}
use Rattle.partition.specs.Block.{boundedb, broken_block}
use Rattle.partition.specs.Partition.{Within}
use Rattle.partition.proofs.Holds.{sound_of}
use Rattle.partition_records.specs.Unmark.{unmarked, unmark_all}
-- What the host form says and leaves is what the column form says and leaves of the records' fields. So a consistent partition stays
-- consistent.
pub use Rattle.partition_records.proofs.Forms.{forms_agree, records_consistent}

-- b is the block that is lent, c the one at return
pub record UnmarkDone (b : Block) (values : List ℕ) (c : Block) : Type 0 where
  -- its bounds held
  pub bounds : Within b.begin b.marked_split b.end max_states
  pub answer : values ≡ []
  -- marked_split becomes end, the other fields are kept
  pub marked_split : c.marked_split ≡ b.end
  pub begin : c.begin ≡ b.begin
  pub end : c.end ≡ b.end

pub unmark_all_done : (b : Block) (values : List ℕ) (c : Block) → (done values, c) ≡ unmark_all b → UnmarkDone b values c
unfolding unmark_all broken_block
unmark_all_done b values c e =
    let tests : List Test = test (boundedb b) inconsistent 0 ∷ [] in
    let k = leaving_done (due tests) b c (unmarked b) values [] e in
    record {
      bounds = sound_of b (passed tests refl (due tests) refl k.0).0;
      answer = k.1;
      marked_split = ap (λ (x : Block). x.marked_split) k.2;
      begin = ap (λ (x : Block). x.begin) k.2;
      end = ap (λ (x : Block). x.end) k.2;
    }
