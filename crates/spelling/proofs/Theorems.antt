-- Texts and numbers as bytes.

-- The digits of a number are the fewest that hold it; of a number below 2^64 there are at most 20.
pub use Rattle.spelling.proofs.Spelled.{fewest_digits, few_digits}
-- One text put behind another; and what was put from the first byte on.
pub use Rattle.spelling.proofs.Putting.{put_then, put_first_lem}
