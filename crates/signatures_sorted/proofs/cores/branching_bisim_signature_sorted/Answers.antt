-- `branching_bisim_signature_sorted` meets its contract: as many cells are lent as the state has rows, and come back zero.
use Rattle.std.proofs.Common.{◌≡◌, ℕ, ◌≤◌, List, [], ◌∷◌, length, take, arith}
use lib.Seq.{length-take-le}
use Rattle.signatures_sorted.proofs.Emptied.{lent-zero, refinished}
use Rattle.signatures_sorted.proofs.cores.branching_bisim_signature_sorted.Goals as goal

-- so many cells of a slice are lent
enough : (rows m d : ℕ) (x : List ℕ) → d ≡ rows → d ≤ m → m ≤ length x → rows ≤ length (take d x)
enough rows m d x e f h = omega (arith, length-take-le d x (omega arith))

pub sign_rows-requires-clause-fact_2 : goal.sign_rows-requires-clause-fact_2
sign_rows-requires-clause-fact_2 c =
    let a = c.args in
    let d = c.row_count-d.ensures in
    let w = c.requires.fact_2 in
    let l = w.0 in (
      (
        enough _ _ _ a.own_labels.now d.0 d.1 l.0,
        (
          enough _ _ _ a.own_blocks.now d.0 d.1 l.1.0,
          (
            enough _ _ _ a.high.now d.0 d.1 l.1.1.0,
            (
              enough _ _ _ a.low.now d.0 d.1 l.1.1.1.0,
              (enough _ _ _ a.end_high.now d.0 d.1 l.1.1.1.1.0, (enough _ _ _ a.end_low.now d.0 d.1 l.1.1.1.1.1.0, tt)),
            ),
          ),
        ),
      ),
      w.1,
      w.2.0,
    )

pub returns : goal.returns
returns c =
    let a = c.args in
    let works = a.own_labels.now ∷ a.own_blocks.now ∷ a.high.now ∷ a.low.now ∷ a.end_high.now ∷ a.end_low.now ∷ a.tree.now ∷ [] in
    let f = c.sign_rows.new in
    let back = f.own_labels ∷ f.own_blocks ∷ f.high ∷ f.low ∷ f.end_high ∷ f.end_low ∷ f.tree ∷ [] in
    let d = c.row_count-d.result in
    let few = c.row_count-d.ensures.1 in
    let l = c.requires.fact_2.0 in
    let o = c.requires.fact_2.2 in
    refinished _ _ _ _ _ _ back c.sign_rows.ensures works _
    (λ z. (
      lent-zero d a.own_labels.now _ (omega (arith, l.0)) o.1.0 z.0,
      (
        lent-zero d a.own_blocks.now _ (omega (arith, l.1.0)) o.1.1.0 z.1.0,
        (
          lent-zero d a.high.now _ (omega (arith, l.1.1.0)) o.1.1.1.0 z.1.1.0,
          (
            lent-zero d a.low.now _ (omega (arith, l.1.1.1.0)) o.1.1.1.1.0 z.1.1.1.0,
            (
              lent-zero d a.end_high.now _ (omega (arith, l.1.1.1.1.0)) o.1.1.1.1.1.0 z.1.1.1.1.0,
              (
                lent-zero d a.end_low.now _ (omega (arith, l.1.1.1.1.1.0)) o.1.1.1.1.1.1.0 z.1.1.1.1.1.0,
                (z.1.1.1.1.1.1.0, tt),
              ),
            ),
          ),
        ),
      ),
    ))
