-- Any two results that the contract of reading or of writing a file allows are equal.
use Rattle.columns.specs.OneResult.{OneResult}
use Rattle.columns.proofs.OneResult.{skip, determined}
use Rattle.columns.proofs.Saying.{same_number}
use Rattle.table.proofs.Tables.{same_table}
use Rattle.file.specs.contracts.reading as reading_said
use Rattle.file.proofs.reading as reading
use Rattle.file.specs.contracts.writing as writing_said
use Rattle.file.proofs.writing as writing

-- the columns of the rows
pub read_file_lem : OneResult reading_said.read_file.ended reading.read_file.Reads.Learnt
read_file_lem κs a r q x y = determined same_table (λ c. skip 1 (c.0, (c.1.0, (c.1.1, tt)))) r q

-- the bytes
pub write_file_lem : OneResult writing_said.write_file.ended writing.write_file.Reads.Learnt
write_file_lem κs a r q x y = determined same_number (λ c. skip 3 (c, tt)) r q
