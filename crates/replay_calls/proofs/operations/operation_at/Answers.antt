-- `operation_at` meets its contract.
use Rattle.std.proofs.Common.{rules, arith, ◌≡◌, ◌∙◌, ap, refl, ℕ, zero, suc, ◌-◌, List, [], ◌∷◌, slice_get}
use Rattle.std.proofs.lemmas.Option.{gets}
use Rattle.std.specs.Option.{option_copied, option_map_or}
use Rattle.replay_calls.specs.declared.operations.Operation.TheVariants.{ReduceFile}
use Rattle.replay_calls.specs.Operations.{Entry, operation_at}
use Rattle.replay_calls.proofs.operations.operation_at.Goals as goal

-- a place counted from 1 is the one behind the same counted from 0
counted : (entries : List Entry) (k : ℕ) → option_map_or (λ e. e.2) (slice_get entries k) ReduceFile ≡ operation_at entries (suc k)
counted [] k = refl
counted (e ∷ entries) zero = refl
counted (e ∷ entries) (suc k) = counted entries k

pub returns : goal.returns
returns c =
    let n = c.args.number in
    let got : option_copied c.get.result ≡ slice_get c.args.entries.now (n - 1) = search (rules, gets) in
    let told : c.map_or.result ≡ option_map_or (λ e. e.2) (option_copied c.get.result) ReduceFile = search rules in
    let next : suc (n - 1) ≡ n = omega (arith, c.if-number-eq0.false) in
    told
    ∙ ap (λ o. option_map_or (λ e. e.2) o ReduceFile) got
    ∙ counted c.args.entries.now (n - 1)
    ∙ ap (operation_at c.args.entries.now) next
