-- The file is there as long as it is said to be, and it is the output file of what is held.
use Rattle.std.proofs.Common.{◌≤◌, length, sym, ap}
use lib.Seq.{length-take-le}
use Rattle.file_reduction.specs.Answers.{said_file_outcome}
use Rattle.file_reduction.proofs.Done as D
use Rattle.reduce.proofs.reduce_input.Goals as goal
use Rattle.reduce.proofs.reduce_input.Goals.{In-Ok}

fits : (c : In-Ok) → c.in-Ok.written.bytes ≤ length c.reduce_into-answer.new.output
fits c = D.fits _ _ _ _ (c.reduce_into-answer.ensures.by_index_3 _ (ap said_file_outcome c.in-Ok.is))

pub slice_bounds-output-end : goal.slice_bounds-output-end
slice_bounds-output-end c = fits (goal.at.slice_bounds-output-end c).In-Ok

pub slice_bounds-write_output-end : goal.slice_bounds-write_output-end
slice_bounds-write_output-end c = sym (length-take-le _ _ (fits (goal.at.slice_bounds-write_output-end c).In-Ok))

pub write_output-requires : goal.write_output-requires
write_output-requires c = D.taken _ _ _ _ (c.reduce_into-answer.ensures.by_index_3 _ (ap said_file_outcome c.in-Ok.is))
