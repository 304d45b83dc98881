use Rattle.std.proofs.Common.{◌-◌, length, refl, arith}
use borrow.Rule.Slice.PartMut.{same_len_mid}
use Rattle.columns.proofs.Bools.{contra}
use Rattle.reduce.specs.Held.{got_in}
use Rattle.reduce.proofs.Wholes.{read_enough}
use Rattle.reduce.proofs.input.read_input.Goals as goal

pub returns-in-Ok-eq0-clause-enough : goal.returns-in-Ok-eq0-clause-enough
returns-in-Ok-eq0-clause-enough c p =
    let l = c.loop-used.bytes in
    let u = c.loop-used.used in
    let b = same_len_mid u (length l - u) l c.read.new.buf c.read.auto.buf in
    read_enough _ u _ (omega (arith, b)) (λ h. omega (arith, h)) (λ e. absurd (contra refl e))

pub returns-in-Err-clause-enough : goal.returns-in-Err-clause-enough
returns-in-Err-clause-enough c p =
    let l = c.loop-used.bytes in
    let u = c.loop-used.used in
    let b = same_len_mid u (length l - u) l c.read.new.buf c.read.auto.buf in
    read_enough _ u _ (omega (arith, b)) (λ h. omega (arith, h)) (λ e. absurd (contra refl e))

pub returns-clause-enough : goal.returns-clause-enough
returns-clause-enough c p =
    let i = c.loop-used.invariant in
    let e = c.count_more.ensures in
    let got = got_in c.count_more.result in
    read_enough c.loop-used.bytes got.used got (omega (arith, e.0, i.0)) (λ _. omega (arith, e.0, i.1, p)) e.2
