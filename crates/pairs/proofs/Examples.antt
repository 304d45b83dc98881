-- What is absent: what `is_subset_of` says. Then 15 for given lists.
use Rattle.std.specs.Prelude.{◌≡◌, [], ◌∷◌}
use mathlib.Core.Path.{refl}
use Rattle.columns.specs.Limits.{wrong_list}
use Rattle.columns.specs.Answers.{done, refused, none, refusal}
use Rattle.pairs.specs.Subset.{is_subset_of}
use Rattle.pairs.specs.Lists.{lists_refusal}

-- an empty self; an empty other; both empty; only the excluded pair in other; the excluded pair absent; a cell beyond the shorter
-- column. Then 15: self before other; an equal pair in other
pub examples :
    (is_subset_of [] [] (0 ∷ 2 ∷ []) (3 ∷ 1 ∷ []) (0, 3)
    ∷ is_subset_of (1 ∷ 2 ∷ []) (0 ∷ 1 ∷ []) [] [] (0, 3)
    ∷ is_subset_of [] [] [] [] (0, 0)
    ∷ is_subset_of [] [] (0 ∷ []) (3 ∷ []) (0, 3)
    ∷ is_subset_of (1 ∷ 2 ∷ []) (0 ∷ 1 ∷ []) (2 ∷ []) (1 ∷ []) (7, 7)
    ∷ is_subset_of (1 ∷ []) (0 ∷ []) (1 ∷ 2 ∷ []) (0 ∷ []) (7, 7)
    ∷ is_subset_of (0 ∷ 1 ∷ 1 ∷ []) (0 ∷ 1 ∷ 0 ∷ []) (1 ∷ 0 ∷ []) (0 ∷ 0 ∷ []) (0, 0)
    ∷ is_subset_of [] [] (1 ∷ 1 ∷ []) (0 ∷ 0 ∷ []) (0, 0)
    ∷ [])
    ≡ (done (0 ∷ [])
    ∷ done (1 ∷ [])
    ∷ done (1 ∷ [])
    ∷ done (1 ∷ [])
    ∷ done (1 ∷ [])
    ∷ done (1 ∷ [])
    ∷ refused 15 2
    ∷ refused 15 1
    ∷ [])
unfolding is_subset_of
examples = refl

-- three lists, the second empty; no list; all starts at the end; pairs before the first list and behind the last, which
-- are not read. Then 15: a start that falls; one past the end, before a pair that is bad; a pair equal to the one before
pub given_lists :
    (lists_refusal (0 ∷ 2 ∷ 2 ∷ 3 ∷ []) 3 (1 ∷ 2 ∷ 0 ∷ []) (0 ∷ 0 ∷ 5 ∷ [])
    ∷ lists_refusal (1 ∷ []) 0 (1 ∷ 0 ∷ []) (0 ∷ 0 ∷ [])
    ∷ lists_refusal (2 ∷ 2 ∷ 2 ∷ []) 2 (1 ∷ 0 ∷ []) (0 ∷ 0 ∷ [])
    ∷ lists_refusal (2 ∷ 3 ∷ []) 1 (1 ∷ 0 ∷ 0 ∷ 0 ∷ []) (0 ∷ 0 ∷ 0 ∷ 0 ∷ [])
    ∷ lists_refusal (0 ∷ 2 ∷ 1 ∷ []) 2 (1 ∷ 0 ∷ []) (0 ∷ 0 ∷ [])
    ∷ lists_refusal (0 ∷ 2 ∷ 3 ∷ []) 2 (1 ∷ 0 ∷ 5 ∷ []) (0 ∷ 0 ∷ [])
    ∷ lists_refusal (0 ∷ 1 ∷ 3 ∷ []) 2 (1 ∷ 1 ∷ 1 ∷ []) (0 ∷ 0 ∷ 0 ∷ [])
    ∷ [])
    ≡ (none ∷ none ∷ none ∷ none ∷ refusal wrong_list 2 ∷ refusal wrong_list 2 ∷ refusal wrong_list 2 ∷ [])
unfolding lists_refusal
given_lists = refl
