-- Strict orders given by a Boolean test: the numbers, and pairs by the first field and then the second.
use mathlib.Core.Path.{◌≡◌, refl, sym, ◌∙◌}
use mathlib.Core.Logic.{◌⊎◌, inl, inr}
use mathlib.Core.Bool.{Bool, true, false, cond}
use native.Mathlib.Omega.{arith}
use lib.Dec.{ltb}
use Rattle.columns.specs.Sets.{lex, pair_lt, row_lt}
use borrow.Author.Tests.{ltb-true, lt-ltb, ltb-false}
use Rattle.columns.proofs.Bools.{contra, fails}

pub record Order {A : Type 0} (lt : A → A → Bool) : Type 0 where
  pub irrefl : (x : A) → lt x x ≡ false
  pub trans : (x y z : A) → lt x y ≡ true → lt y z ≡ true → lt x z ≡ true
  pub total : (x y : A) → lt x y ≡ false → lt y x ≡ false → x ≡ y

pub asym : {A : Type 0} {lt : A → A → Bool} → Order lt → (x y : A) → lt x y ≡ true → lt y x ≡ false
asym o x y h = fails (λ g. contra (o.trans x y x h g) (o.irrefl x))

pub ltb_order : Order ltb
ltb_order = record {
  irrefl = λ x. fails (λ h. omega (arith, ltb-true x x h));
  trans = λ x y z p q. lt-ltb x z (omega (arith, ltb-true x y p, ltb-true y z q));
  total = λ x y p q. omega (arith, ltb-false x y p, ltb-false y x q);
}

module _ {A B : Type 0} (la : A → A → Bool) (lb : B → B → Bool) (oa : Order la) (ob : Order lb) where
  -- the two ways to be below
  pub lex-split : (x y : A × B) → lex la lb x y ≡ true → (la x.0 y.0 ≡ true) ⊎ ((x.0 ≡ y.0) × (lb x.1 y.1 ≡ true))
  unfolding lex
  lex-split x y h = go (la x.0 y.0) refl (la y.0 x.0) refl h
    where
      go : (b : Bool) → la x.0 y.0 ≡ b → (c : Bool) → la y.0 x.0 ≡ c → cond b true (cond c false (lb x.1 y.1)) ≡ true
          → (la x.0 y.0 ≡ true) ⊎ ((x.0 ≡ y.0) × (lb x.1 y.1 ≡ true))
      go true p c q h = inl p
      go false p true q h = absurd (contra h refl)
      go false p false q h = inr (oa.total x.0 y.0 p q, h)

  pub lex-first : (x y : A × B) → la x.0 y.0 ≡ true → lex la lb x y ≡ true
  unfolding lex
  lex-first x y h = rw h

  pub lex_second : (x y : A × B) → x.0 ≡ y.0 → lb x.1 y.1 ≡ true → lex la lb x y ≡ true
  unfolding lex
  lex_second x y e h = rw (e, oa.irrefl y.0) h

  lex_trans : (x y z : A × B) → lex la lb x y ≡ true → lex la lb y z ≡ true → lex la lb x z ≡ true
  lex_trans x y z p q = go (lex-split x y p) (lex-split y z q)
    where
      go : (la x.0 y.0 ≡ true) ⊎ ((x.0 ≡ y.0) × (lb x.1 y.1 ≡ true))
          → (la y.0 z.0 ≡ true) ⊎ ((y.0 ≡ z.0) × (lb y.1 z.1 ≡ true)) → lex la lb x z ≡ true
      go (inl p) (inl q) = lex-first x z (oa.trans _ _ _ p q)
      go (inl p) (inr q) = lex-first x z (rw q.0 at p)
      go (inr p) (inl q) = lex-first x z (rw p.0 q)
      go (inr p) (inr q) = lex_second x z (p.0 ∙ q.0) (ob.trans _ _ _ p.1 q.1)

  lex_total : (x y : A × B) → lex la lb x y ≡ false → lex la lb y x ≡ false → x ≡ y
  lex_total x y p q = λ i. (e i, f i)
    where
      e : x.0 ≡ y.0
      e = oa.total _ _ (fails (λ h. contra (lex-first x y h) p)) (fails (λ h. contra (lex-first y x h) q))

      f : x.1 ≡ y.1
      f = ob.total _ _ (fails (λ h. contra (lex_second x y e h) p)) (fails (λ h. contra (lex_second y x (sym e) h) q))

  pub lex_order : Order (lex la lb)
  unfolding lex
  lex_order = record {
    irrefl = λ x. rw (oa.irrefl x.0) (ob.irrefl x.1);
    trans = lex_trans;
    total = lex_total;
  }

pub pair_order : Order pair_lt
unfolding pair_lt
pair_order = lex_order ltb ltb ltb_order ltb_order

pub row_order : Order row_lt
unfolding row_lt
row_order = lex_order ltb pair_lt ltb_order pair_order
