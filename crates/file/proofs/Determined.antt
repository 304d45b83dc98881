-- Any two results that the contract of reading or of writing a file allows are equal.
use Rattle.std.specs.Prelude.{ℕ, List}
use Rattle.columns.specs.Answers.{said_number}
use Rattle.columns.specs.Determined.{Determined}
use Rattle.columns.proofs.Determined.{determined}
use Rattle.columns.proofs.Saying.{same_number}
use Rattle.table.specs.Lts.{Lts}
use Rattle.table.specs.Tables.{Three, said_table}
use Rattle.table.proofs.Tables.{same_table}
use Rattle.file.specs.Input.{read_file}
use Rattle.file.specs.Output.{write_file}

pub read_file_lem : (s : List ℕ) (out : Three) → Determined said_table (read_file s out)
read_file_lem s out = determined same_table

pub write_file_lem : (t : Lts) (k : ℕ) (blocks bytes : List ℕ) → Determined said_number (write_file t k blocks bytes)
write_file_lem t k blocks bytes = determined same_number
