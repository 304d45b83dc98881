-- What is held of standard input, and what that says of the whole.
use Rattle.std.specs.Prelude.{ℕ, ◌≤◌, ◌<◌, true, false, List, ◌≡◌, length, get_or, take, Result, Ok, Err}
use Rattle.file.specs.Input.{file_refusal, held_refusal}
use Rattle.file.specs.Layout.{input_rows, largest_input}
use Rattle.reduce.specs.declared.input.Got.{Got}

-- `whole` is the input: the bytes held are its first ones, as many as the longest input file has or all there are, and it has as many bytes
-- as were counted, or more where its end was not reached. That this is so comes from outside
pub record Heard (whole held : List ℕ) (got : Got) : Type 0 where
  pub bytes : (i : ℕ) → get_or whole i 0 < 256
  pub front : held ≡ take largest_input whole
  pub all : got.ended ≡ true → length whole ≡ got.size
  pub more : got.ended ≡ false → got.size ≤ length whole

-- the bytes held and the size decide as the whole does: they are refused as it is, or they are the whole
pub record AsWhole (whole held : List ℕ) (size : ℕ) : Type 0 where
  pub refused : (columns : List ℕ) → held_refusal held size columns ≡ file_refusal whole columns
  pub read : (columns : List ℕ) → (file_refusal whole columns).number ≡ 0 → held ≡ whole

-- what was read is enough: of more bytes than the longest input file has at least contents and header are held, and whatever input this was
-- heard of, what is held decides as it does
pub record Enough (held : List ℕ) (got : Got) : Type 0 where
  pub header : largest_input < got.size → input_rows ≤ length held
  pub decides : (whole : List ℕ) → Heard whole held got → AsWhole whole held got.size

-- what was read, whether a read failed or not
abbrev pub got_in : Result Got Got → Got
got_in (Ok got) = got
got_in (Err got) = got
