-- A call with more work slices than the one that signs the pairs is lent: they are zero by then.
use Rattle.std.specs.Prelude.{◌≡◌, ℕ, List, ◌++◌}
use mathlib.Core.Path.{ap}
use Rattle.columns.specs.Answers.{Said}
use Rattle.columns.specs.Columns.{zeroed}
use Rattle.columns.specs.Sets.{Pair}
use Rattle.signatures.specs.Pairs.{Columns}
use Rattle.signatures.specs.Signing.{Left, writing, finishing}

-- what is left, with more slices
abbrev pub with_more : List (List ℕ) → Said × Left → Said × Left
with_more more r = (r.0, (r.1.0, r.1.1 ++ more))

pub finish_more :
    (d : ℕ) (pairs : List Pair) (out : Columns) (works more all : List (List ℕ)) → zeroed works ++ more ≡ zeroed all
    → with_more more (finishing d pairs out works) ≡ finishing d pairs out all
unfolding finishing
finish_more d pairs out works more all g =
    ap (λ (z : List (List ℕ)). ((writing d pairs out).0, ((writing d pairs out).1, z))) g
