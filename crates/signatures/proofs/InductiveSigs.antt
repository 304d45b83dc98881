-- The inductive signature of a state: what each of its steps gives, and nothing else.
use Rattle.std.specs.Prelude.{◌≡◌, ℕ, Bool, true, false, cond, ◌&&◌, eqb, ◌⊎◌, ◌↔◌, List, get_or}
use borrow.Author.Tests.{eqb-true, eq-eqb}
use mathlib.Core.Path.{refl, subst}
use mathlib.Core.Logic.{inl, inr}
use Rattle.columns.specs.Sets.{Mem, Pair, pair_lt, Ascending}
use Rattle.columns.proofs.Bools.{and_left, and_right, and_both, fails, contra}
use Rattle.signatures.specs.Inductive.{keyed_at, inductive_pushed, inductive_signature}
use Rattle.table.specs.Hidden.{hidden_in}
use Rattle.signatures.specs.Strong.{row_pair}
use Rattle.signatures.proofs.Rows.{pushed_in, pushed_out}
use Rattle.signatures.proofs.Sigs.{sig_in, sig_out, sig_ascending}
use Rattle.table.specs.Lts.{Lts, Step}

module _ (t : Lts) (home : List ℕ) (marked : ℕ → Bool) (keys : List ℕ) (s : ℕ) where
  -- a step of s under label a to u is hidden, stays in the block, and u is marked
  keyed : ℕ → ℕ → Bool
  keyed a u = (eqb a 0 && eqb (get_or home u 0) (get_or home s 0)) && marked u

  -- the pair that a step gives
  given : ℕ → ℕ → Pair
  given a u = cond (keyed a u) (t.labels, get_or keys u 0) (a, get_or home u 0)

  by : (i : ℕ) → keyed_at t home marked keys (get_or home s 0) i ≡ given (get_or t.label i 0) (get_or t.target i 0)
  unfolding keyed_at hidden_in row_pair given keyed
  by i = refl

  give : (a u : ℕ) → Step t s a u → Mem (given a u) (inductive_signature t home marked keys s)
  unfolding inductive_signature inductive_pushed
  give a u k =
      sig_in (inductive_pushed t home marked keys s) (given a u) (pushed_in t s (keyed_at t home marked keys (get_or home s 0)) given by a u k)

  -- a hidden step to a marked state of the block gives (tau_hat, key of target)
  pub inductive_key :
      (u : ℕ) → Step t s 0 u → get_or home u 0 ≡ get_or home s 0 → marked u ≡ true
      → Mem {A = Pair} (t.labels, get_or keys u 0) (inductive_signature t home marked keys s)
  unfolding given keyed
  inductive_key u k e m =
      subst (λ (b : Bool). Mem (cond b (t.labels, get_or keys u 0) (0, get_or home u 0)) (inductive_signature t home marked keys s))
      (and_both (and_both (eq-eqb 0 0 refl) (eq-eqb _ _ e)) m) (give 0 u k)

  -- any other step gives (label, block of target)
  pub inductive_other :
      (a u : ℕ) → Step t s a u → (a ≡ 0 → get_or home u 0 ≡ get_or home s 0 → marked u ≡ true → ⊥)
      → Mem {A = Pair} (a, get_or home u 0) (inductive_signature t home marked keys s)
  unfolding given keyed
  inductive_other a u k n =
      subst (λ (b : Bool). Mem (cond b (t.labels, get_or keys u 0) (a, get_or home u 0)) (inductive_signature t home marked keys s))
      (fails (λ h.
      let i = and_left (eqb a 0 && eqb (get_or home u 0) (get_or home s 0)) (marked u) h in
      n (eqb-true a 0 (and_left (eqb a 0) (eqb (get_or home u 0) (get_or home s 0)) i))
      (eqb-true (get_or home u 0) (get_or home s 0) (and_right (eqb a 0) (eqb (get_or home u 0) (get_or home s 0)) i))
      (and_right (eqb a 0 && eqb (get_or home u 0) (get_or home s 0)) (marked u) h)))
      (give a u k)

  -- the step that a pair comes from
  pub record KeyOf (p : Pair) : Type 0 where
    pub target : ℕ
    pub step : Step t s 0 target
    pub stays : get_or home target 0 ≡ get_or home s 0
    pub is_marked : marked target ≡ true
    pub pair : p ≡ (t.labels, get_or keys target 0)

  pub record StepOf (p : Pair) : Type 0 where
    pub label : ℕ
    pub target : ℕ
    pub step : Step t s label target
    pub other : label ≡ 0 → get_or home target 0 ≡ get_or home s 0 → marked target ≡ true → ⊥
    pub pair : p ≡ (label, get_or home target 0)

  pub inductive_out : (p : Pair) → Mem p (inductive_signature t home marked keys s) → KeyOf p ⊎ StepOf p
  unfolding inductive_signature inductive_pushed given keyed
  inductive_out p m =
      let f = pushed_out t s (keyed_at t home marked keys (get_or home s 0)) given by p (sig_out (inductive_pushed t home marked keys s) p m) in
      go f.label f.target f.step (keyed f.label f.target) refl f.pair
    where
      go : (a u : ℕ) → Step t s a u → (b : Bool) → keyed a u ≡ b → p ≡ cond b (t.labels, get_or keys u 0) (a, get_or home u 0) →
          KeyOf p ⊎ StepOf p
      go a u k true e q =
          let i = and_left (eqb a 0 && eqb (get_or home u 0) (get_or home s 0)) (marked u) e in
          inl (record {
            target = u;
            step = subst (λ (x : ℕ). Step t s x u) (eqb-true a 0 (and_left (eqb a 0) (eqb (get_or home u 0) (get_or home s 0)) i)) k;
            stays = eqb-true (get_or home u 0) (get_or home s 0) (and_right (eqb a 0) (eqb (get_or home u 0) (get_or home s 0)) i);
            is_marked = and_right (eqb a 0 && eqb (get_or home u 0) (get_or home s 0)) (marked u) e;
            pair = q;
          })
      go a u k false e q =
          inr (record {
            label = a;
            target = u;
            step = k;
            other = λ x y z. contra (and_both (and_both (eq-eqb _ _ x) (eq-eqb _ _ y)) z) e;
            pair = q;
          })

  pub inductive_exactly : (p : Pair) → Mem p (inductive_signature t home marked keys s) ↔ (KeyOf p ⊎ StepOf p)
  inductive_exactly p = (inductive_out p, back)
    where
      back : KeyOf p ⊎ StepOf p → Mem p (inductive_signature t home marked keys s)
      back (inl k) = rw k.pair (inductive_key k.target k.step k.stays k.is_marked)
      back (inr k) = rw k.pair (inductive_other k.label k.target k.step k.other)

  pub inductive_ascending : Ascending pair_lt (inductive_signature t home marked keys s)
  unfolding inductive_signature
  inductive_ascending = sig_ascending (inductive_pushed t home marked keys s)
