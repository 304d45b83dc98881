-- `number_one` meets its contract.
use Rattle.std.proofs.Common.{length, refl, ap, ◌∙◌, arith}
use Rattle.table.specs.Lts.{lts_of}
use Rattle.quotient_components.proofs.Numbering.{length-numbered, fresh_leads, number_more}
use Rattle.quotient_components.proofs.cores.number_one.Goals as goal

pub give-requires : goal.give-requires
give-requires c =
    let n = ap length c.requires.numbers_value.0 ∙ length-numbered (lts_of c.args.system.now) c.args.s in
    let l = c.requires.forward_len in
    (omega (arith, n, l.0, c.reach.auto.marks), omega (arith, n, l.1, c.reach_back.auto.marks))

pub returns : goal.returns
returns c =
    let t = lts_of c.args.system.now in
    let r = c.requires.fact.0.rows in
    let h = c.requires.numbers_value in
    number_more t r.given c.args.s c.args.x (fresh_leads t r.given c.args.s c.requires.fact.1 c.args.numbers.now h.0 _ refl h.1)
    c.requires.x_value _ _ _ _ c.reach.ensures.marks_value (c.reach_back.ensures.marks_value t r) h.0 c.give.ensures
