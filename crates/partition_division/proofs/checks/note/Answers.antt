-- `note` meets its contract.
use Rattle.std.proofs.Common.{◌≡◌, ℕ, true, false, get_or, sym, ◌∙◌, arith}
use Rattle.partition.specs.Marked.{marked_from}
use Rattle.partition_division.proofs.Noting.{noted_none, noted_pass, noted_more}
use Rattle.partition_division.proofs.checks.note.Goals as goal
use Rattle.partition_division.proofs.checks.note.Goals.{then-is_marked, else-is_marked}

pub loop-s-init : goal.loop-s-init
loop-s-init c = λ k _. noted_none _ (λ s. get_or c.args.numbers.now s 0) _ c.requires.by_index k

pub loop-s-preserved : goal.loop-s-preserved
loop-s-preserved c =
    let a = c.args in
    let i = c.loop-s.invariant in
    let s = c.loop-s.s in
    let F = marked_from a.element_offset.now a.element_to_block.now a.b a.m in
    let W : ℕ → ℕ = λ s. get_or a.numbers.now s 0 in
    elim c.if-is_marked.branch [
      | then-is_marked w ↦
          let y : F s ≡ true = sym c.is_marked.ensures ∙ w.if-is_marked.true in
          noted_more F W s a.n _ _ i _ y w.at.ensures.0 (omega arith) (w.seen-is ∙ w.note_one.ensures)
      | else-is_marked w ↦
          let y : F s ≡ false = sym c.is_marked.ensures ∙ w.if-is_marked.false in
          noted_pass F W s a.n _ _ i y w.seen-is
    ]
