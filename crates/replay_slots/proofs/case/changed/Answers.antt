-- `case::changed` meets its contract: a place beyond the last starts and ends at the beginning.
use borrow.Author.Rules.{rules}
use mathlib.Core.Path.{◌≡◌, refl, sym}
use native.Mathlib.Omega.{arith}
use lib.ListN.{length, get_or-eq_default}
use Rattle.replay_slots.proofs.Parts.{part_of, part_there}
use Rattle.replay_slots.proofs.case.changed.Goals as goal

pub returns : goal.returns
returns g c = let a = c.args in
    let e : length a.case.starts ≡ 32 = search rules in
    let f : length a.case.ends ≡ 32 = search rules in
    part_of (sym (get_or-eq_default a.case.starts 0 (omega arith))) (sym (get_or-eq_default a.case.ends 0 (omega arith)))
    (part_there 0 0 (omega arith) (omega arith) refl refl)
