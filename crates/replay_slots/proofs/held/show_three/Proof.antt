-- `held::show_three` meets its contract: three texts, one after the other.
use borrow.Author.Rules.{rules}
use Rattle.replay_lines.proofs.Putting.{puts_then}
use Rattle.replay_slots.proofs.held.show_three.Statement.{statement}
use Rattle.replay_slots.proofs.held.show_three.Tie as tie

show-after_a-requires : tie.Need-show-after_a-requires
show-after_a-requires c κs = search rules

overflow_add-k : tie.Need-overflow_add-k
overflow_add-k c = search rules

show-after_b-requires : tie.Need-show-after_b-requires
show-after_b-requires c κs = search rules

overflow_add-k-2 : tie.Need-overflow_add-k-2
overflow_add-k-2 c = search rules

show-requires : tie.Need-show-requires
show-requires c κs = search rules

returns : tie.Need-returns
returns c =
    puts_then _ _ _ c.show-after_a.ensures
    (puts_then _ _ _ c.show-after_b.ensures c.show.ensures)

pub show_three_spec : {M : Type 1} → statement M
show_three_spec =
    tie.close (tie.spec show-after_a-requires overflow_add-k show-after_b-requires overflow_add-k-2 show-requires returns)
