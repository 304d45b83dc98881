-- Laws of the family of an operation that is given by its number.
use Rattle.std.proofs.Common.{ℕ, zero, suc, ◌≡◌, ◌<◌, ◌≤◌, ◌∙◌, refl, sym, ap, arith, Bool, true, false, cond, List, [], ◌∷◌, ltb, eqb, map, length, Some, inl, inr}
use Rattle.std.specs.List.{slice_get}
use Rattle.std.specs.Option.{unwrap_or}
use Rattle.std.proofs.lemmas.Bool.{ltb-true, lt-ltb, ne_eqb, cases_lt}
use Rattle.std.proofs.lemmas.Option.{slice_get_past}
use Rattle.std.proofs.Math.Nat.{eq-or-lt_of_le, le_of_suc-le-suc}
use Rattle.replay_calls.specs.declared.operations.TheConstants.{OPERATIONS}
use Rattle.replay_calls.specs.declared.operations.Operation.TheVariants.{ReduceFile}
use Rattle.replay_calls.specs.declared.operations.Family.{Family}
use Rattle.replay_calls.specs.declared.operations.Family.TheVariants.{Numbers, Readers, Tables, Parts, Texts, Few, Records, Six, Dividing, Signing, Walking, Reducing, Filing}
use Rattle.replay_calls.specs.Families.{family_of}
use Rattle.replay_calls.specs.Operations.{operation_at}

-- the family of the operation with a number
abbrev pub family_at : ℕ → Family
family_at n = family_of (operation_at OPERATIONS n)

-- the place of the run that a number is in, where the runs have these last numbers
abbrev pub run_of : List ℕ → ℕ → ℕ
run_of [] n = 0
run_of (last ∷ lasts) n = cond (ltb last n) (suc (run_of lasts n)) 0

-- the last number of each family but the last one
abbrev pub lasts : List ℕ
lasts = 8 ∷ 14 ∷ 17 ∷ 18 ∷ 19 ∷ 23 ∷ 25 ∷ 29 ∷ 30 ∷ 32 ∷ 34 ∷ 40 ∷ []

-- the place, among the families, of the one that a number is in; 0 is in the last one
abbrev pub place_of : ℕ → ℕ
place_of n = cond (eqb n 0) 12 (run_of lasts n)

-- the families, in the order of their numbers
abbrev pub families : List Family
families = Numbers ∷ Readers ∷ Tables ∷ Parts ∷ Texts ∷ Few ∷ Records ∷ Six ∷ Dividing ∷ Signing ∷ Walking ∷ Reducing ∷ Filing ∷ []

-- no operation's number
pub family_none : {n : ℕ} → n ≡ 0 → family_at n ≡ Filing
family_none e = ap family_at e

-- beyond a number of the last run every number is in it
run_rest : (l : List ℕ) {m n : ℕ} → m ≤ n → run_of l m ≡ length l → run_of l n ≡ length l
run_rest [] h e = refl
run_rest (x ∷ l) {m} {n} h e = go (ltb x m) refl e (run_rest l h)
  where
    go : (b : Bool) → ltb x m ≡ b → cond b (suc (run_of l m)) 0 ≡ suc (length l) → (run_of l m ≡ length l → run_of l n ≡ length l)
        → run_of (x ∷ l) n ≡ suc (length l)
    go true t k rest = rw (lt-ltb x n (omega (arith, ltb-true x m t))) (ap suc (rest (omega (arith, k))))
    go false t k rest = cc

-- beyond the other families is the last one
place_rest : {n : ℕ} → 40 < n → place_of n ≡ 12
place_rest {n} h = rw (ne_eqb n 0 (λ z. omega arith)) (run_rest lasts {m = 41} h refl)

-- the numbers below n
below : ℕ → List ℕ
below zero = []
below (suc n) = n ∷ below n

-- two functions with one value at each number below m
alike : {A : Type 0} (f g : ℕ → A) (m : ℕ) {n : ℕ} → n < m → map f (below m) ≡ map g (below m) → f n ≡ g n
unfolding below
alike f g zero h e = absurd (omega arith)
alike f g (suc m) {n} h e =
    elim (eq-or-lt_of_le (le_of_suc-le-suc h)) [
      | inl q ↦ let top : f m ≡ g m = cc in ap f q ∙ top ∙ sym (ap g q)
      | inr k ↦ alike f g m k cc
    ]

-- beyond the last operation's number
past : {n : ℕ} → 44 ≤ n → family_at n ≡ Filing
past {n} h =
    ap (λ o. family_of (unwrap_or o ReduceFile)) (slice_get_past (ReduceFile ∷ map (λ (name, kinds, operation). operation) OPERATIONS) n h)

-- the family of a number stands at its place
pub family_numbered : (n : ℕ) → slice_get families (place_of n) ≡ Some (family_at n)
unfolding below
family_numbered n =
    elim (cases_lt n 44) [
      | inl h ↦ alike (λ k. slice_get families (place_of k)) (λ k. Some (family_at k)) 44 h refl
      | inr h ↦ ap (slice_get families) (place_rest {n = n} (omega arith)) ∙ sym (ap Some (past h))
    ]

-- a number beyond those of the other families
pub family_rest : {n : ℕ} → 40 < n → family_at n ≡ Filing
family_rest {n} h =
    let last : slice_get families (place_of n) ≡ Some Filing = ap (slice_get families) (place_rest h) in
    let told = family_numbered n in
    cc
