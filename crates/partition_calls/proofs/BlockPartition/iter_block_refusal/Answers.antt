-- `iter_block_refusal` meets its contract.
use Rattle.std.proofs.Common.{◌≡◌, Result, Ok, Err, refl, []}
use Rattle.columns.specs.Answers.{Refusal, answer, answering, checked, said}
use Rattle.columns.specs.declared.answers.Refusal as code
use Rattle.columns.proofs.Saying.{numbered, asked_refused, asked_done}
use Rattle.partition.specs.Readers.{iter_block_refusal}
use Rattle.partition_calls.proofs.BlockPartition.iter_block_refusal.Goals as goal

-- what a check answers says as much
said_check : (r : Result (Unit {0}) code.Refusal) (t : Refusal) → checked r ≡ t → said (answer r) ≡ answering t []
said_check (Ok u) t e = asked_done t _ e [] refl
said_check (Err x) t e = asked_refused t _ e [] (numbered x)

pub returns : goal.returns
unfolding iter_block_refusal
returns c = said_check _ _ c.check_block.ensures
