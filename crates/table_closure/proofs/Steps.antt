-- Each step of the definition marks states of block b only.
use Rattle.std.specs.Prelude.{◌≡◌, ℕ, zero, suc, ◌<◌, ◌≤◌, Bool, true, false, cond, eqb, List, get_or}
use native.Mathlib.Omega.{arith}
use borrow.Author.Tests.{eqb-true}
use mathlib.Core.Path.{refl, subst, ◌∙◌}
use Rattle.table_closure.specs.Closure.{silentb, mark_source, mark_into, goes_on, read_down, close}
use Rattle.columns.proofs.Bools.{and_left, and_right}
use Rattle.partition.specs.Mark.{mark}
use Rattle.partition.specs.Partition.{Partition, Sound}
use Rattle.table.specs.Lts.{Lts, Valid}
use Rattle.table_closure.proofs.Growing.{MarksGrown, grown_none, grown_more, mark_grown}

-- what the test of a row says
module _ (t : Lts) (home : List ℕ) (b i : ℕ) (e : silentb t home b i ≡ true) where
  pub silent_label : get_or t.label i 0 ≡ 0
  unfolding silentb
  silent_label = eqb-true _ _ (and_left (eqb (get_or t.label i 0) 0) (eqb (get_or home (get_or t.source i 0) 0) b) e)

  pub silent_home : get_or home (get_or t.source i 0) 0 ≡ b
  unfolding silentb
  silent_home = eqb-true _ _ (and_right (eqb (get_or t.label i 0) 0) (eqb (get_or home (get_or t.source i 0) 0) b) e)

module _ (t : Lts) (v : Valid t) (b : ℕ) where
  pub source_grown : (i : ℕ) (p : Partition) → i < t.m → p.n ≡ t.n → Sound p → MarksGrown b p (mark_source t b i p)
  unfolding mark_source
  source_grown i p h same g = go (silentb t p.element_to_block b i) refl
    where
      go : (c : Bool) → silentb t p.element_to_block b i ≡ c → MarksGrown b p (cond c (mark p (get_or t.source i 0)) p)
      go true e =
          subst (λ (x : ℕ). MarksGrown x p (mark p (get_or t.source i 0))) (silent_home t p.element_to_block b i e)
          (mark_grown p g (get_or t.source i 0) (omega (arith, same, (v.fields i h).source)))
      go false e = grown_none b p g

  pub into_grown : (u k : ℕ) (p : Partition) → k ≤ t.m → p.n ≡ t.n → Sound p → MarksGrown b p (mark_into t b u k p)
  unfolding mark_into
  into_grown u zero p h same g = grown_none b p g
  into_grown u (suc k) p h same g =
      let r = into_grown u k p (omega arith) same g in
      go (mark_into t b u k p) r (source_grown k (mark_into t b u k p) h (r.n ∙ same) r.sound) (eqb (get_or t.target k 0) u)
    where
      go : (q : Partition) → MarksGrown b p q → MarksGrown b q (mark_source t b k q) → (c : Bool)
          → MarksGrown b p (cond c (mark_source t b k q) q)
      go q r s true = grown_more r s
      go q r s false = r

  pub read_grown : (it : ℕ) (p : Partition) → p.n ≡ t.n → Sound p → MarksGrown b p (read_down t b it p)
  unfolding read_down
  read_grown zero p same g = grown_none b p g
  read_grown (suc it) p same g =
      let r = into_grown (get_or p.elements it 0) t.m p (omega arith) same g in
      go (mark_into t b (get_or p.elements it 0) t.m p) r
      (read_grown it (mark_into t b (get_or p.elements it 0) t.m p) (r.n ∙ same) r.sound) (goes_on p b (suc it))
    where
      go : (q : Partition) → MarksGrown b p q → MarksGrown b q (read_down t b it q) → (c : Bool)
          → MarksGrown b p (cond c (read_down t b it q) p)
      go q r s true = grown_more r s
      go q r s false = grown_none b p g

  pub close_grown : (p : Partition) → p.n ≡ t.n → Sound p → MarksGrown b p (close t p b)
  unfolding close
  close_grown p same g = read_grown (get_or p.end b 0) p same g
