-- Table P of document 01.

-- Every listed case passes, by computation; and what passing means for the cases that are given as texts.
pub use Rattle.listed_cases.proofs.Listed.{table_p}
pub use Rattle.listed_cases.proofs.Texts.{texts}
