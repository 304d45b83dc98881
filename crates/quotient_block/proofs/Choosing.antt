-- The loop that chooses a state for each block, and what it leaves.
use Rattle.std.specs.Prelude.{◌≡◌, ℕ, ◌+◌, ◌<◌, Bool, cond, eqb, ltb, List, ◌++◌, length, get_or, drop, set}
use native.Mathlib.Omega.{arith}
use borrow.Author.Tests.{eq-eqb, ne_eqb, lt-ltb, le-ltb}
use mathlib.Core.Path.{refl, sym, ap, ◌∙◌}
use Rattle.columns.specs.Answers.{refusal, none}
use Rattle.columns.specs.Limits.{no_bottom}
use Rattle.columns.specs.Columns.{listed, over, written}
use Rattle.columns.specs.Counting.{first}
use Rattle.columns.proofs.Firsts.{NoneBelow, none_more, first_hit, first_past}
use Rattle.columns.proofs.Lists.{length-listed, paint_none, paint_more}
use Rattle.quotient_block.specs.Bottom.{bottom_from}
use Rattle.quotient_block.specs.Chosen.{first_state, choice}
use Rattle.table.specs.Lts.{Lts}

-- the blocks below b have a state, which stands in their cells
pub record Choosing (g : ℕ → ℕ) (n : ℕ) (l₀ : List ℕ) (b : ℕ) (l : List ℕ) : Type 0 where
  pub none : NoneBelow (λ i. eqb (g i) n) b
  pub cells : l ≡ listed b g ++ drop b l₀

module _ (g : ℕ → ℕ) (n : ℕ) (l₀ : List ℕ) where
  pub choose_start : Choosing g n l₀ 0 l₀
  choose_start = record { none = λ i w. absurd (omega (arith, w)); cells = paint_none g l₀ }

  module _ (b : ℕ) (l : List ℕ) (k : Choosing g n l₀ b l) where
    pub choose_cells : l ≡ written b g l₀
    unfolding written over
    choose_cells = k.cells ∙ ap (λ (i : ℕ). listed b g ++ drop i l₀) (sym (length-listed b g))

    pub choose_done : (count : ℕ) → b ≡ count → b ≡ first count (λ i. eqb (g i) n)
    choose_done count e = first_past count (λ i. eqb (g i) n) b (omega arith) k.none (omega arith)

    pub choose_more : (v : ℕ) → v ≡ g b → v < n → b < length l₀ → Choosing g n l₀ (b + 1) (set l b v)
    choose_more v e d h = record {
      none = none_more (λ i. eqb (g i) n) b k.none (ne_eqb _ _ (λ q. omega arith));
      cells = ap (set l b) e ∙ paint_more g b l₀ l h k.cells;
    }

    pub choose_stop : (count : ℕ) → b < count → n ≡ g b → b ≡ first count (λ i. eqb (g i) n)
    choose_stop count h q = first_hit count (λ i. eqb (g i) n) b h k.none (eq-eqb _ _ (sym q))

-- what is answered: 12 at the lowest block with no state, if there is one
pub lacks_one : (b count least : ℕ) → b ≡ least → b < count → refusal no_bottom b ≡ cond (ltb least count) (refusal no_bottom least) none
lacks_one b count least e h = rw (← e, lt-ltb b count h) refl

pub lacks_none : (count least : ℕ) → count ≡ least → none ≡ cond (ltb least count) (refusal no_bottom least) none
lacks_none count least e = rw (← e, le-ltb count count (omega arith)) refl

-- the state of one block, by its first state s
pub choice_as :
    (branching : Bool) (t : Lts) (home elements begin : List ℕ) (b p s u : ℕ) → p ≡ get_or begin b 0 → s ≡ get_or elements p 0
    → u ≡ cond branching (bottom_from t home s) s → u ≡ choice branching t home elements begin b
unfolding choice first_state
choice_as branching t home elements begin b p s u ep es eu = eu ∙ rw (es, ep) refl
