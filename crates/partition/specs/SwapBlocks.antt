-- What `swap_blocks` says and leaves: the two table entries exchanged, and their states renumbered.
use Rattle.std.specs.Prelude.{ℕ, cond, List, [], get_or, eqb, leb}
use Rattle.columns.specs.Answers.{Said, leaving}
use Rattle.columns.specs.Columns.{swapped, written}
use Rattle.columns.specs.Counting.{stores}
use Rattle.partition.specs.Partition.{Partition}
use Rattle.partition.specs.Checks.{blocks_refusal}

-- the states at the places from x to before z have the block number v
unfoldable pub renumbered : List ℕ → ℕ → ℕ → ℕ → List ℕ → List ℕ
unfolding stores
renumbered e x z v l = stores (λ k. leb x k) (λ k. get_or e k 0) (λ _. v) z l

-- l for r and r for l
unfoldable pub exchange : ℕ → ℕ → ℕ → ℕ
exchange l r b = cond (eqb b l) r (cond (eqb b r) l b)

unfoldable pub swap : Partition → ℕ → ℕ → Partition
unfolding written exchange swapped
swap p l r =
    record {
      elements = p.elements;
      element_offset = p.element_offset;
      element_to_block = written p.n (λ s. exchange l r (get_or p.element_to_block s 0)) p.element_to_block;
      begin = swapped l r p.begin;
      marked_split = swapped l r p.marked_split;
      end = swapped l r p.end;
      n = p.n;
      count = p.count;
    }

unfoldable pub swap_blocks : Partition → ℕ → ℕ → Said × Partition
unfolding leaving blocks_refusal swap
swap_blocks p l r = leaving (blocks_refusal p l r) p [] (swap p l r)
