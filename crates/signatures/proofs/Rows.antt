-- What is pushed for the rows of a state is what its steps give.
use Rattle.std.specs.Prelude.{◌≡◌, ℕ, eqb, map, get_or}
use borrow.Author.Tests.{eqb-true, eq-eqb}
use mathlib.Core.Path.{ap, sym, subst, ◌∙◌}
use mathlib.Core.List.Memᴰ
use Rattle.columns.specs.Counting.{members}
use Rattle.columns.specs.Sets.{Mem, Pair}
use Rattle.columns.proofs.Members.{members_in, members_out}
use Rattle.signatures.specs.Strong.{own_rows}
use Rattle.table.specs.Lts.{Lts, Step}
use Rattle.table.proofs.Rows.{row_step, step_row}

-- a pair given by a step: `g` gives each row its pair, which goes by the row's label and target, as `h` says
module _ (t : Lts) (s : ℕ) (g : ℕ → Pair) (h : ℕ → ℕ → Pair) (by : (i : ℕ) → g i ≡ h (get_or t.label i 0) (get_or t.target i 0)) where
  pub pushed_in : (a u : ℕ) → Step t s a u → Mem (h a u) (map g (own_rows t s))
  unfolding own_rows
  pushed_in a u k =
      let r = step_row t s a u k in
      let e : g r.row ≡ h a u = by r.row ∙ sym (ap (λ (x : ℕ). h x (get_or t.target r.row 0)) r.label) ∙
      sym (ap (h a) r.target) in
      subst (λ (p : Pair). Mem p (map g (members t.m (λ i. eqb (get_or t.source i 0) s)))) e
      (Memᴰ.map g (members_in (λ i. eqb (get_or t.source i 0) s) t.m r.row r.below (eq-eqb _ _ (sym r.source))))

  -- the step that gives a pair
  pub record GivenBy (p : Pair) : Type 0 where
    pub label : ℕ
    pub target : ℕ
    pub step : Step t s label target
    pub pair : p ≡ h label target

  pub pushed_out : (p : Pair) → Mem p (map g (own_rows t s)) → GivenBy p
  unfolding own_rows
  pushed_out p m =
      let f = Memᴰ.of_map g (members t.m (λ i. eqb (get_or t.source i 0) s)) m in
      let r = members_out (λ i. eqb (get_or t.source i 0) s) t.m f.0 f.1 in
      let k : Step t s (get_or t.label f.0 0) (get_or t.target f.0 0)
      = subst (λ (x : ℕ). Step t x (get_or t.label f.0 0) (get_or t.target f.0 0)) (eqb-true _ _ r.1) (row_step t f.0 r.0)
      in
      record { label = get_or t.label f.0 0; target = get_or t.target f.0 0; step = k; pair = sym f.2 ∙ by f.0 }
