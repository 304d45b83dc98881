-- `via` is right: s reaches u exactly if there is a walk; and an edge is a row.
use Rattle.std.specs.Prelude.{◌≡◌, ℕ, zero, suc, ◌<◌, Bool, true, ◌&&◌, eqb, ◌⊎◌, ◌↔◌, List, get_or}
use mathlib.Core.Path.{refl, sym, subst}
use mathlib.Core.Logic.{inl, inr}
use native.Mathlib.Nat.{not-suc-le-zero}
use native.Mathlib.Omega.{arith}
use borrow.Author.Tests.{eqb-true, eq-eqb, ltb-true, lt-ltb}
use Rattle.columns.specs.Counting.{first}
use Rattle.columns.proofs.All.{top_or-below}
use Rattle.columns.proofs.Bools.{and_left, and_right, and_both, or_split, or_left, or_right}
use Rattle.columns.proofs.Counting.{first_law, first-min}
use Rattle.table.specs.Lts.{Lts, Step, Valid}
use Rattle.table.specs.Reach.{Walk, stop, along, via, takes, some_row, edge, reaches, Way}
use Rattle.table.proofs.Rows.{row_step, step_row}

module _ (edge : ℕ → ℕ → Bool) where
  pub joined : {s u t : ℕ} → Walk edge s u → Walk edge u t → Walk edge s t
  joined stop w = w
  joined (along h v) w = along h (joined v w)

  pub via_walk : (k s t : ℕ) → via edge k s t ≡ true → Walk edge s t
  unfolding via
  via_walk zero s t h = go (or_split (eqb s t) (edge s t) h)
    where
      go : (eqb s t ≡ true) ⊎ (edge s t ≡ true) → Walk edge s t
      go (inl e) = subst (λ (x : ℕ). Walk edge s x) (eqb-true s t e) stop
      go (inr e) = along e stop
  via_walk (suc k) s t h = go (via_walk k s t) (via_walk k s k) (via_walk k k t)
      (or_split (via edge k s t) (via edge k s k && via edge k k t) h)
    where
      go : (via edge k s t ≡ true → Walk edge s t) → (via edge k s k ≡ true → Walk edge s k) → (via edge k k t ≡ true → Walk edge k t)
          → (via edge k s t ≡ true) ⊎ ((via edge k s k && via edge k k t) ≡ true) → Walk edge s t
      go f g i (inl e) = f e
      go f g i (inr e) = joined (g (and_left _ (via edge k k t) e)) (i (and_right (via edge k s k) _ e))

  via_self : (k s : ℕ) → via edge k s s ≡ true
  unfolding via
  via_self zero s = or_left (eqb s s) (edge s s) (eq-eqb s s refl)
  via_self (suc k) s = or_left (via edge k s s) (via edge k s k && via edge k k s) (via_self k s)

  via_edge : (k s t : ℕ) → edge s t ≡ true → via edge k s t ≡ true
  unfolding via
  via_edge zero s t h = or_right (eqb s t) (edge s t) h
  via_edge (suc k) s t h = or_left (via edge k s t) (via edge k s k && via edge k k t) (via_edge k s t h)

  via_more : (k s t : ℕ) → via edge k s t ≡ true → via edge (suc k) s t ≡ true
  unfolding via
  via_more k s t h = or_left (via edge k s t) (via edge k s k && via edge k k t) h

  via_stop : (k s t : ℕ) → via edge k s k ≡ true → via edge k k t ≡ true → via edge (suc k) s t ≡ true
  unfolding via
  via_stop k s t g h = or_right (via edge k s t) (via edge k s k && via edge k k t) (and_both g h)

  -- one more stop: through it, or not
  via_split : (k s t : ℕ) → via edge (suc k) s t ≡ true → (via edge k s t ≡ true) ⊎ ((via edge k s k ≡ true) × (via edge k k t ≡ true))
  unfolding via
  via_split k s t h = go (or_split (via edge k s t) (via edge k s k && via edge k k t) h)
    where
      go : (via edge k s t ≡ true) ⊎ ((via edge k s k && via edge k k t) ≡ true) →
          (via edge k s t ≡ true) ⊎ ((via edge k s k ≡ true) × (via edge k k t ≡ true))
      go (inl e) = inl e
      go (inr e) = inr (and_left (via edge k s k) (via edge k k t) e, and_right (via edge k s k) (via edge k k t) e)

  via_to : (k s : ℕ) → via edge (suc k) s k ≡ true → via edge k s k ≡ true
  via_to k s h = go (via_split k s k h)
    where
      go : (via edge k s k ≡ true) ⊎ ((via edge k s k ≡ true) × (via edge k k k ≡ true)) → via edge k s k ≡ true
      go (inl e) = e
      go (inr e) = e.0

  via_from : (k t : ℕ) → via edge (suc k) k t ≡ true → via edge k k t ≡ true
  via_from k t h = go (via_split k k t h)
    where
      go : (via edge k k t ≡ true) ⊎ ((via edge k k k ≡ true) × (via edge k k t ≡ true)) → via edge k k t ≡ true
      go (inl e) = e
      go (inr e) = e.1

  via_trans : (k s u t : ℕ) → u < k → via edge k s u ≡ true → via edge k u t ≡ true → via edge k s t ≡ true
  via_trans zero s u t l g h = absurd (not-suc-le-zero l)
  via_trans (suc k) s u t l g h = pick (λ x y. via_trans k x u y) (top_or-below l)
    where
      Ih : Type 0
      Ih = (x y : ℕ) → u < k → via edge k x u ≡ true → via edge k u y ≡ true → via edge k x y ≡ true

      meet : Ih → (u < k) → (via edge k s u ≡ true) ⊎ ((via edge k s k ≡ true) × (via edge k k u ≡ true))
          → (via edge k u t ≡ true) ⊎ ((via edge k u k ≡ true) × (via edge k k t ≡ true)) → via edge (suc k) s t ≡ true
      meet ih l (inl a) (inl b) = via_more k s t (ih s t l a b)
      meet ih l (inl a) (inr b) = via_stop k s t (ih s k l a b.0) b.1
      meet ih l (inr a) (inl b) = via_stop k s t a.0 (ih k t l a.1 b)
      meet ih l (inr a) (inr b) = via_stop k s t a.0 b.1

      pick : Ih → (u ≡ k) ⊎ (u < k) → via edge (suc k) s t ≡ true
      pick ih (inl e) = via_stop k s t (via_to k s (rw e at g)) (via_from k t (rw e at h))
      pick ih (inr l) = meet ih l (via_split k s u g) (via_split k u t h)

  pub walk_via : (n : ℕ) → ((s t : ℕ) → edge s t ≡ true → t < n) → {s t : ℕ} → Walk edge s t → via edge n s t ≡ true
  walk_via n within (stop {s}) = via_self n s
  walk_via n within (along {s} {u} {v} h w) = via_trans n s u v (within s u h) (via_edge n s u h) (walk_via n within w)

-- ---- an edge is a row that passes
module _ (m : ℕ) (source target : List ℕ) (w : ℕ → Bool) where
  pub record Edge (s u : ℕ) : Type 0 where
    pub row : ℕ
    pub below : row < m
    pub from : get_or source row 0 ≡ s
    pub to : get_or target row 0 ≡ u
    pub passes : w row ≡ true

  -- row i leads from s to u
  leads : ℕ → ℕ → ℕ → Bool
  leads s u i = eqb (get_or source i 0) s && (eqb (get_or target i 0) u && w i)

  pub edge_row : (s u : ℕ) → some_row m source target w s u ≡ true → Edge s u
  unfolding some_row leads
  edge_row s u e =
      let i = first m (leads s u) in
      let h : i < m = ltb-true i m e in
      let l = (first_law m (leads s u)).hit h in
      let a = eqb (get_or source i 0) s in
      let b = eqb (get_or target i 0) u in
      let r = and_right a (b && w i) l in
      record {
        row = i;
        below = h;
        from = eqb-true _ _ (and_left a (b && w i) l);
        to = eqb-true _ _ (and_left b (w i) r);
        passes = and_right b (w i) r;
      }

  pub row_edge : (s u i : ℕ) → i < m → get_or source i 0 ≡ s → get_or target i 0 ≡ u → w i ≡ true → some_row m source target w s u ≡ true
  unfolding some_row leads
  row_edge s u i h es eu k =
      lt-ltb (first m (leads s u)) m
      (omega (arith, h, first-min m (leads s u) i (and_both (eq-eqb (get_or source i 0) s es) (and_both (eq-eqb (get_or target i 0) u eu) k))))

module _ (t : Lts) (hidden : Bool) where
  -- the same by steps: some label that is taken
  pub edge_step : (s u : ℕ) → (edge t hidden s u ≡ true) ↔ ((a : ℕ) × (takes hidden a ≡ true) × Step t s a u)
  unfolding edge
  edge_step s u = (
    λ e.
        let r = edge_row t.m t.source t.target (λ i. takes hidden (get_or t.label i 0)) s u e in (
          get_or t.label r.row 0,
          r.passes,
          subst (λ (x : ℕ). Step t x (get_or t.label r.row 0) u) r.from
              (subst (λ (y : ℕ). Step t (get_or t.source r.row 0) (get_or t.label r.row 0) y) r.to
              (row_step t r.row r.below)),
        ),
    λ p.
        let r = step_row t s p.0 u p.2 in
        row_edge t.m t.source t.target (λ i. takes hidden (get_or t.label i 0)) s u r.row r.below (sym r.source)
        (sym r.target) (subst (λ (a : ℕ). takes hidden a ≡ true) r.label p.1),
  )

  module _ (v : Valid t) where
    pub edge_in : (s u : ℕ) → edge t hidden s u ≡ true → u < t.n
    unfolding edge
    edge_in s u e =
        let r = edge_row t.m t.source t.target (λ i. takes hidden (get_or t.label i 0)) s u e in
        omega (arith, r.to, (v.fields r.row r.below).target)

    -- a state is reached exactly if there is a walk
    pub reaches_walk : (s u : ℕ) → (reaches t hidden s u ≡ true) ↔ Way t hidden s u
    unfolding reaches
    reaches_walk s u = (λ e. via_walk (edge t hidden) t.n s u e, λ w. walk_via (edge t hidden) t.n edge_in w)

-- hidden rows only: label 0; else any label
pub takes_hidden : (a : ℕ) → (takes true a ≡ true) ↔ (a ≡ 0)
unfolding takes
takes_hidden a = (λ e. eqb-true a 0 e, λ e. eq-eqb a 0 e)
