-- Cases read and answers written, in reading order.

-- The place after a place in the input, within what is held and beyond it.
pub use Rattle.replay_lines.proofs.Placing.{next_within, next_beyond}
-- Numbers in place of bytes: which are within a line, and which belong to a word.
pub use Rattle.replay_lines.proofs.Placing.{in_line_number, in_word_number}
-- Bytes put into the output: one, a text after a text.
pub use Rattle.replay_lines.proofs.Putting.{put_room, put_full, puts-append}
-- The digits of a number are the fewest that hold it; cells in runs, spread again, are the cells.
pub use Rattle.replay_lines.proofs.Spelled.{fewest_digits}
pub use Rattle.replay_lines.proofs.Running.{spread-runs}
-- The text of what an answer says.
pub use Rattle.replay_lines.proofs.Telling.{told_refused, told_done, coded_refused, coded_done}
