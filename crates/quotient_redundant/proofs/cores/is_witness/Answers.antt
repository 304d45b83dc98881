-- `is_witness` meets its contract.
use Rattle.std.proofs.Common.{◌≡◌, ℕ, List, length, refl, ap, sym, ◌∙◌, arith}
use Rattle.std.specs.Prelude.{true, false, not, eqb, get_or}
use Rattle.columns.proofs.Bools.{contra}
use Rattle.table.specs.Lts.{lts_of}
use Rattle.quotient_redundant.proofs.Testing.{length_from, length_into, marked}
use Rattle.quotient_redundant.proofs.cores.is_witness.Goals as goal
use Rattle.quotient_redundant.proofs.cores.is_witness.Goals.{then-rivals, else-rivals}

-- a mark that is read where a field says
read : (l : List ℕ) (x k j : ℕ) → x ≡ get_or l k 0 → k ≡ j → not (eqb x 0) ≡ not (eqb (get_or l j 0) 0)
read l x k j e f = ap (λ (x : ℕ). not (eqb x 0)) (e ∙ ap (λ (k : ℕ). get_or l k 0) f)

pub at-requires : goal.at-requires
at-requires c =
    let t = lts_of c.args.system.now in
    let v = c.requires.valid in
    let l = ap length c.requires.forward_value in
    omega (arith, c.at-s.ensures.0, (v.0.fields _ v.2).source, l, length_from t (get_or t.source c.args.i 0))

pub at-requires-then-at-ne0 : goal.at-requires-then-at-ne0
at-requires-then-at-ne0 c =
    let t = lts_of c.args.system.now in
    let v = c.requires.valid in
    let l = ap length c.requires.backward_value in
    omega (arith, c.at-u.ensures.0, (v.0.fields _ v.2).target, l, length_into t (get_or t.target c.args.i 0))

pub returns-then-at-ne0 : goal.returns-then-at-ne0
returns-then-at-ne0 c =
    let r = c.requires in
    let b = read _ _ _ _ c.at-then-at-ne0.ensures.0 c.at-u.ensures.0 in
    elim c.if-rivals.branch [
      | then-rivals w ↦
          let f = sym c.if-at-ne0.true ∙ w.value-is ∙ read _ _ _ _ w.at.ensures.0 c.at-s.ensures.0 in
          marked _ r.valid.0 _ _ r.valid.2 _ _ r.forward_value r.backward_value true true _
          (sym w.if-rivals.true ∙ c.rivals.ensures) f b
      | else-rivals w ↦ absurd (contra c.if-at-ne0.true (w.value-is ∙ w.if-rivals.false))
    ]

pub returns-else-at-ne0 : goal.returns-else-at-ne0
returns-else-at-ne0 c =
    let r = c.requires in
    elim c.if-rivals.branch [
      | then-rivals w ↦
          let f = sym c.if-at-ne0.false ∙ w.value-is ∙ read _ _ _ _ w.at.ensures.0 c.at-s.ensures.0 in
          c.if-at-ne0.false
          ∙ marked _ r.valid.0 _ _ r.valid.2 _ _ r.forward_value r.backward_value true false _
          (sym w.if-rivals.true ∙ c.rivals.ensures) f refl
      | else-rivals w ↦
          w.value-is ∙ w.if-rivals.false
          ∙ marked _ r.valid.0 _ _ r.valid.2 _ _ r.forward_value r.backward_value false _ _
          (sym w.if-rivals.false ∙ c.rivals.ensures) refl refl
    ]
