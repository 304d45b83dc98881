-- What `unmark_all` says and leaves: no element of the block is marked.
use Rattle.std.specs.Prelude.{[]}
use Rattle.columns.specs.Answers.{Said, leaving}
use Rattle.partition.specs.declared.block.Block.{Block}
use Rattle.partition.specs.Block.{broken_block}

-- marked_split becomes end
abbrev pub unmarked : Block → Block
unmarked b = record { begin = b.begin; marked_split = b.end; end = b.end }

unfoldable pub unmark_all : Block → Said × Block
unfolding leaving broken_block
unmark_all b = leaving (broken_block b) b [] (unmarked b)
