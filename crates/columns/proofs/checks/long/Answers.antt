-- `long` meets its contract.
use Rattle.std.proofs.Common.{rules, refl, ap, ◌∙◌, ◌≡◌, ℕ, List, [], ◌∷◌, ◌&&◌, leb}
use Rattle.std.specs.List.{list_all}
use Rattle.std.proofs.lemmas.Iterator.{YieldsList-from_slice}
use Rattle.std.proofs.lemmas.Iterator.Search.{all_from_yields_List}
use borrow.Author.Tests.{tests}
use Rattle.columns.specs.Due.{all_long}
use Rattle.columns.proofs.checks.long.Goals as goal

each_long : (cells : ℕ) (lengths : List ℕ) → list_all (leb cells) lengths ≡ all_long cells lengths
unfolding all_long
each_long cells [] = refl
each_long cells (l ∷ lengths) = ap (λ b. leb cells l && b) (each_long cells lengths)

pub returns : goal.returns
returns c =
    all_from_yields_List (leb c.args.cells) _ _ _ c.all.ensures.ran (YieldsList-from_slice c.args.lengths.now cc) (λ x b q k. search (rules, tests))
    ∙ each_long c.args.cells c.args.lengths.now
