-- `header` meets its contract.
use Rattle.file.specs.Input.{header_in}
use Rattle.file.proofs.cores.header.Goals as goal

pub returns : goal.returns
unfolding header_in
returns c = λ i. record {
  n = c.number_at-n.ensures.0 i;
  labels = c.number_at-labels.ensures.0 i;
  m = c.number_at-m.ensures.0 i;
  initial = c.number_at-initial.ensures.0 i;
}
