-- Operations by their numbers, in reading order.

-- The family of a number is the one whose run it is in; what is no operation's number, as 0, is in the last one.
pub use Rattle.replay_calls.proofs.Numbering.{family_numbered, family_none, family_rest}
