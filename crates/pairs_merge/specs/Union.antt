-- The members of one set that another has not.
use Rattle.std.specs.Prelude.{cond, List, [], ◌∷◌}
use Rattle.columns.specs.Sets.{Pair}
use Rattle.pairs.specs.Subset.{has_pair}

-- the pairs of a list that are not in another
unfoldable pub without : List Pair → List Pair → List Pair
unfolding has_pair
without m [] = []
without m (x ∷ xs) = cond (has_pair m x) (without m xs) (x ∷ without m xs)
