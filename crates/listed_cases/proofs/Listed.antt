-- Table P of document 01: every listed case passes, by computation.
use mathlib.Core.Bool.{true}
use mathlib.Core.Path.{◌≡◌, refl}
use Rattle.columns.specs.Answers.{leaving}
use Rattle.columns.specs.Counting.{many, first, stores, all}
use Rattle.columns.specs.Due.{due, all_long}
use Rattle.columns.specs.Inverse.{inverseb, inverse_at}
use Rattle.partition.specs.Partition.{withinb, block_at, boundsb, insideb, lie_at, liesb, lengths, consistentb, longb}
use Rattle.partition.specs.SwapBlocks.{swap}
use Rattle.partition_division.specs.Marked.{numbered, below, absent, missing, denseb, len_at}
use Rattle.partition.specs.Marked.{marked_in, marked_from}
use Rattle.partition_division.specs.Divide.{
  numbered_before,
  start,
  position,
  has_unmarked_at,
  home,
  divided,
  largest,
  largest_of,
  block_unmarked,
  partition_marked,
}
use Rattle.partition_division.specs.Division.{roomb, refusal_for, division_refusal}
use Rattle.listed_cases.specs.Cases.{listed_cases, all_pass}

pub table_p : all_pass listed_cases ≡ true
unfolding all_pass listed_cases leaving due consistentb longb all_long inverseb inverse_at all boundsb block_at withinb liesb lie_at
    insideb lengths stores many first swap marked_from marked_in numbered below absent missing denseb len_at numbered_before start position
    has_unmarked_at home divided largest largest_of block_unmarked partition_marked division_refusal refusal_for roomb
table_p = refl
