-- The loop of `put_words`: the numbers before this one are stored.
use Rattle.std.proofs.Common.{get_or}
use Rattle.file.specs.Bytes.{bytes_of}
use Rattle.file.proofs.Stores.{Stored}
use Rattle.file.proofs.numbers.put_words.Given as goal

abbrev pub invariant-loop-i : goal.invariant-loop-i
invariant-loop-i l = Stored (λ k. bytes_of 2 (get_or l.cells k 0)) l.at l.initial.bytes l.i l.bytes
