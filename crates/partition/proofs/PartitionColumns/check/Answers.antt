-- `check` meets its contract.
use Rattle.std.proofs.Common.{◌≡◌, refl, ap, ◌∙◌, List, [], ◌∷◌, Bool, arith}
use Rattle.columns.specs.Answers.{none}
use Rattle.columns.specs.Due.{Test, test, due}
use Rattle.columns.specs.Limits.{inconsistent}
use Rattle.columns.proofs.Chains.{passed, refused_first, refused_second}
use Rattle.partition.specs.Checks.{size_tests}
use Rattle.partition.specs.Partition.{Partition, longb, consistentb, parts_of}
use Rattle.partition.proofs.Refusals.{Sized, sized_of}
use Rattle.partition.proofs.PartitionColumns.check.Goals as goal

-- the test of consistency alone
abbrev Rest : Partition → List Test
Rest p = test (consistentb p) inconsistent 0 ∷ []

sized : (p : Partition) (room : Bool) → none ≡ due (size_tests p room) → Sized p room
sized p room e = sized_of p room (passed (size_tests p room) refl none e refl)

pub returns-in_err-check_size : goal.returns-in_err-check_size
unfolding longb
returns-in_err-check_size c =
    let p = parts_of c.args.self.now c.args.n c.args.count in
    refused_first (size_tests p c.args.room) (Rest p) refl _ _ c.in_err-check_size.ensures c.from_residual.ensures.1

pub consistent-requires-clause-n_in_bounds : goal.consistent-requires-clause-n_in_bounds
unfolding longb
consistent-requires-clause-n_in_bounds c =
    let q = sized (parts_of c.args.self.now c.args.n c.args.count) c.args.room c.in_ok-check_size.ensures in
    omega (arith, q.long)

pub consistent-requires-clause-n_in_bounds_2 : goal.consistent-requires-clause-n_in_bounds_2
unfolding longb
consistent-requires-clause-n_in_bounds_2 c =
    let q = sized (parts_of c.args.self.now c.args.n c.args.count) c.args.room c.in_ok-check_size.ensures in
    omega (arith, q.long, q.small)

pub returns : goal.returns
unfolding longb
returns c =
    let p = parts_of c.args.self.now c.args.n c.args.count in
    refused_second (size_tests p c.args.room) (Rest p) refl _ c.in_ok-check_size.ensures
    (c.refuse_unless.ensures ∙ ap (λ (b : Bool). due (test b inconsistent 0 ∷ [])) c.consistent.ensures)
