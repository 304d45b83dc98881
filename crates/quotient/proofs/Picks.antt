-- A loop over the rows of three columns that pushes a row into three others for each one that passes.
use Rattle.std.specs.Prelude.{◌≡◌, ℕ, ◌+◌, ◌<◌, ◌≤◌, Bool, true, false, cond, List, [], ◌∷◌, ◌++◌, length, set}
use native.Mathlib.Omega.{arith}
use mathlib.Core.Path.{refl, ap, sym, ◌∙◌}
use mathlib.Core.List.{append-nil}
use Rattle.columns.proofs.ThreeColumns.{rows_none, rows_next, rows_more}
use Rattle.columns.specs.Rows.{rows_of, row_set, row_in}
use Rattle.columns.specs.Sets.{Row, row_lt, insert, collect}

-- `g r` for the members of a list that pass, in their order
pub picks : {A B : Type 0} → (A → Bool) → (A → B) → List A → List B
picks p g [] = []
picks p g (r ∷ l) = cond (p r) (g r ∷ picks p g l) (picks p g l)

module _ {A B : Type 0} (p : A → Bool) (g : A → B) where
  picks_more : (l : List A) (r : A) → picks p g (l ++ (r ∷ [])) ≡ picks p g l ++ cond (p r) (g r ∷ []) []
  unfolding picks
  picks_more [] r = refl
  picks_more (x ∷ l) r = rw (picks_more l r) (go (p x) (picks p g l) (cond (p r) (g r ∷ []) []))
    where
      go : (b : Bool) (m n : List B) → cond b (g x ∷ (m ++ n)) (m ++ n) ≡ cond b (g x ∷ m) m ++ n
      go true m n = refl
      go false m n = refl

  picks_set : (lt : B → B → Bool) (l : List A) → collect lt (λ r. true) (λ r. r) (picks p g l) ≡ collect lt p g l
  unfolding picks collect
  picks_set lt [] = refl
  picks_set lt (x ∷ l) = go (p x) (picks p g l) (collect lt p g l) (picks_set lt l)
    where
      go :
          (b : Bool) (m n : List B) → collect lt (λ r. true) (λ r. r) m ≡ n
          → collect lt (λ r. true) (λ r. r) (cond b (g x ∷ m) m) ≡ cond b (insert lt (g x) n) n
      go true m n e = ap (insert lt (g x)) e
      go false m n e = e

-- ---- the loop
-- of the rows in s, l and t those below i are seen, and g's row is pushed for those that pass: d rows
pub record RowPicking (p : Row → Bool) (g : Row → Row) (s l t : List ℕ) (i d : ℕ) (a b c : List ℕ) : Type 0 where
  pub few : d ≤ i
  pub pushed : rows_of d a b c ≡ picks p g (rows_of i s l t)

module _ (p : Row → Bool) (g : Row → Row) (s l t : List ℕ) where
  pub pick_start : (a b c : List ℕ) → RowPicking p g s l t 0 0 a b c
  unfolding picks
  pick_start a b c = record { few = omega arith; pushed = rows_none a b c ∙ ap (picks p g) (sym (rows_none s l t)) }

  module _ (i d : ℕ) (a b c : List ℕ) (k : RowPicking p g s l t i d a b c) where
    next :
        (q : Bool) → q ≡ p (row_in s l t i)
        → picks p g (rows_of i s l t) ++ cond q (g (row_in s l t i) ∷ []) [] ≡ picks p g (rows_of (i + 1) s l t)
    next q e =
        ap (λ (q : Bool). picks p g (rows_of i s l t) ++ cond q (g (row_in s l t i) ∷ []) []) e
        ∙ sym (ap (picks p g) (rows_next i s l t) ∙ picks_more p g (rows_of i s l t) (row_in s l t i))

    pub pick_more :
        true ≡ p (row_in s l t i) → d < length a → d < length b → d < length c
        → (a₁ b₁ c₁ : List ℕ) → let r = g (row_in s l t i) in a₁ ≡ set a d r.0 → b₁ ≡ set b d r.1.0 → c₁ ≡ set c d r.1.1
        → RowPicking p g s l t (i + 1) (d + 1) a₁ b₁ c₁
    pick_more e ha hb hc a₁ b₁ c₁ ea eb ec = record {
      few = omega (arith, k.few);
      pushed =
          (λ j. rows_of (d + 1) (ea j) (eb j) (ec j)) ∙ rows_more d a b c _ _ _ ha hb hc
          ∙ ap (λ (k : List Row). k ++ (g (row_in s l t i) ∷ [])) k.pushed ∙ next true e;
    }

    pub pick_pass : false ≡ p (row_in s l t i) → RowPicking p g s l t (i + 1) d a b c
    pick_pass e = record {
      few = omega (arith, k.few);
      pushed = k.pushed ∙ sym (append-nil (picks p g (rows_of i s l t))) ∙ next false e;
    }

    -- what is pushed, as a set
    pub pick_done : (m : ℕ) → i ≡ m → row_set d a b c ≡ collect row_lt p g (rows_of m s l t)
    unfolding row_set
    pick_done m e =
        ap (collect row_lt (λ r. true) (λ r. r)) (k.pushed ∙ ap (λ (j : ℕ). picks p g (rows_of j s l t)) e)
        ∙ picks_set p g row_lt (rows_of m s l t)
