use Rattle.std.proofs.Common.{◌≤◌, ◌≡◌, rules, arith}
use Rattle.std.proofs.lemmas.Option.{IfSome_then}
use Rattle.replay_lines.specs.Runs.{last_cell}
use Rattle.replay_slots.specs.declared.case.Cell.{Cell}
use Rattle.replay_slots.specs.Sizes.{largest_of}
use Rattle.replay_slots.proofs.cells.read_cells.Goals as goal

pub place-requires : goal.place-requires
unfolding last_cell
place-requires g c =
    let least : last_cell c.in_ok-feed.feed.run ≤ c.most-most.result = search rules in
    let held : (cell : Cell) → largest_of cell ≡ c.most-most.result → c.in_ok-feed.feed.run.first ≤ largest_of cell =
    λ cell largest. omega (arith, least, largest)
    in
    IfSome_then _ c.of-cell.ensures.just held
