-- `check` meets its contract.
use Rattle.std.proofs.Common.{◌≡◌, Bool, ◌&&◌, List, [], ◌∷◌, refl, ap, ◌∙◌, arith}
use Rattle.columns.specs.Answers.{none}
use Rattle.columns.specs.Due.{Test, test, due}
use Rattle.columns.specs.Limits.{inconsistent}
use Rattle.columns.proofs.Bools.{and_left}
use Rattle.columns.proofs.Chains.{passed, refused_first, refused_second}
use Rattle.partition.specs.Partition.{Partition, longb, consistentb, parts_of}
use Rattle.partition.proofs.Holds.{long_of}
use Rattle.table.specs.Checks.{table_tests}
use Rattle.table.specs.Lts.{Lts, lts_of}
use Rattle.table.proofs.Refusals.{TableChecked, checked_of}
use Rattle.table_partition.proofs.check.Goals as goal

-- the test of consistency alone
abbrev Rest : Partition → List Test
Rest p = test (consistentb p) inconsistent 0 ∷ []

-- what the check of the table answers, with the columns' lengths as they are
asked : (t : Lts) (b x room : Bool) {r : _} → r ≡ due (table_tests t (b && room)) → b ≡ x → r ≡ due (table_tests t (x && room))
asked t b x room e f = e ∙ ap (λ (y : Bool). due (table_tests t (y && room))) f

known : (t : Lts) (p : Partition) (room : Bool) → none ≡ due (table_tests t (longb p && room)) → TableChecked t (longb p && room)
known t p room e = checked_of t (longb p && room) (passed (table_tests t (longb p && room)) refl none e refl)

pub returns-in_err-check : goal.returns-in_err-check
unfolding longb
returns-in_err-check c =
    let t = lts_of c.args.system.now in
    let p = parts_of c.args.columns.now t.n c.args.count in
    refused_first (table_tests t (longb p && c.args.room)) (Rest p) refl _ _ (asked t _ _ c.args.room c.in_err-check.ensures c.all_long.ensures)
    c.from_residual.ensures.1

pub consistent-requires-clause-n_in_bounds : goal.consistent-requires-clause-n_in_bounds
unfolding longb
consistent-requires-clause-n_in_bounds c =
    let t = lts_of c.args.system.now in
    let p = parts_of c.args.columns.now t.n c.args.count in
    let k = known t p c.args.room (asked t _ _ c.args.room c.in_ok-check.ensures c.all_long.ensures) in
    omega (arith, long_of p (and_left (longb p) c.args.room k.enough))

pub consistent-requires-clause-n_in_bounds_2 : goal.consistent-requires-clause-n_in_bounds_2
unfolding longb
consistent-requires-clause-n_in_bounds_2 c =
    let t = lts_of c.args.system.now in
    let p = parts_of c.args.columns.now t.n c.args.count in
    let k = known t p c.args.room (asked t _ _ c.args.room c.in_ok-check.ensures c.all_long.ensures) in
    omega (arith, long_of p (and_left (longb p) c.args.room k.enough), k.valid.few_states)

pub returns : goal.returns
unfolding longb
returns c =
    let t = lts_of c.args.system.now in
    let p = parts_of c.args.columns.now t.n c.args.count in
    refused_second (table_tests t (longb p && c.args.room)) (Rest p) refl _ (asked t _ _ c.args.room c.in_ok-check.ensures c.all_long.ensures)
    (c.refuse_unless.ensures ∙ ap (λ (x : Bool). due (test x inconsistent 0 ∷ [])) c.consistent.ensures)
