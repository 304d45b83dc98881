-- The main laws of what knows no transition system, in reading order.

-- What a call refuses is a list of tests: where all hold nothing is due, where nothing is due all hold, and two chains make one.
pub use Rattle.columns.proofs.Chains.{none-due, passed, due-append}
-- A call that says done was not refused, and says and leaves what its definition has for that; a flag is yes exactly where its test holds.
pub use Rattle.columns.proofs.Doing.{answering_done, leaving_done, says_whether}
-- Two answers that say the same are equal, so a contract that equates what is said and left with a definition allows one result.
pub use Rattle.columns.proofs.Saying.{same_answer, same_number, same_flag}
pub use Rattle.columns.proofs.Determined.{determined_answer, determined}
-- A number is in its range, and slices are long enough, exactly if the tests say so.
pub use Rattle.columns.proofs.Rooms.{range_of, of_range, roomy_of, of_roomy}
-- A column that is written over its first cells: these, those behind, and its length.
pub use Rattle.columns.proofs.Lists.{written_at, written_after, length-written}
-- Numbers, pairs and rows are strictly ordered by their tests.
pub use Rattle.columns.proofs.Orders.{ltb_order, pair_order, row_order}
-- The one sort: its result is sorted, has the same members as often, keeps the order of equal keys, and no other list is all of this.
pub use Rattle.columns.proofs.Sorts.{sort_sorted}
pub use Rattle.columns.proofs.Facts.{sort_perm}
pub use Rattle.columns.proofs.Stable.{sort_stable, sort_unique, sort_twice}
-- A set is one ascending list. The rows that are picked once sorted are the set of the rows.
pub use Rattle.columns.proofs.Sets.{ascending_unique, collect_in, collect_out, collect_ascending}
pub use Rattle.columns.proofs.RowSets.{picked-rows}
-- The numbers below a bound that pass a test, ascending; and the least of them.
pub use Rattle.columns.proofs.Members.{members_in, members_out, members_ascending}
pub use Rattle.columns.proofs.Counting.{first_law}
-- A one-sided inverse below n is two-sided, and exchanging two cells of a permutation keeps it one.
pub use Rattle.columns.proofs.Inverses.{inverse_of, of_inverse, other_way, swap_order, swap_places}
-- Numbers by least member: equal exactly for what is equivalent, below their count, and every number below it is given.
pub use Rattle.columns.proofs.Numbering.{number_same, number_differ, number_bound, number_onto}
