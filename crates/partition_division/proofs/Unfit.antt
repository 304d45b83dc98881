-- Laws of the refusals 9 and 10, by what the code has read, and what holds where nothing is refused.
use Rattle.std.specs.Prelude.{◌≡◌, ℕ, ◌+◌, ◌-◌, ◌≤◌, Bool, true, cond, ◌||◌, eqb, ltb, leb, List, [], ◌∷◌, length, get_or, Result, IsErrAnd}
use native.Mathlib.Omega.{arith}
use borrow.Author.Tests.{ltb-true, leb-true, eq-eqb, ne_eqb}
use mathlib.Core.Path.{refl, ap, sym, ◌∙◌}
use Rattle.columns.specs.Limits.{not_dense, nothing_marked}
use Rattle.columns.specs.Answers.{Refusal}
use Rattle.columns.specs.Answers.{none, refusal_of, checked}
use Rattle.columns.specs.declared.answers.Refusal as code
use Rattle.columns.specs.Due.{Test, test, due, index_test, all_long, Roomy}
use Rattle.columns.specs.Counting.{first, all}
use Rattle.columns.proofs.Bools.{and_left, and_right}
use Rattle.columns.proofs.Chains.{passed_both, refused_first, refused_second}
use Rattle.columns.proofs.Rooms.{roomy_of}
use Rattle.columns.specs.Columns.{length_in}
use Rattle.partition.specs.Partition.{Partition}
use Rattle.partition.specs.Checks.{partition_tests}
use Rattle.partition.proofs.Refusals.{checked_of}
use Rattle.partition_division.specs.Marked.{numbered, absent, missing, denseb, len_at}
use Rattle.partition.specs.Marked.{marked_in, marked_from}
use Rattle.partition_division.specs.Steps.{Dividable}
use Rattle.partition_passes.specs.Invariants.{tallied}
use Rattle.partition_division.specs.Division.{unfit_tests, roomb, refusal_for}

-- the two tests
abbrev nine : Partition → ℕ → Test
nine p b = test (ltb (get_or p.marked_split b 0) (get_or p.end b 0)) nothing_marked b

abbrev ten : Partition → ℕ → List ℕ → Test
ten p b v = test (eqb (len_at p b) 1 || denseb p b v) not_dense (missing p b v)

module _ (p : Partition) (b : ℕ) (v : List ℕ) (m z : ℕ) (em : m ≡ get_or p.marked_split b 0) (ez : z ≡ get_or p.end b 0) where
  nine_is : due (test (ltb m z) nothing_marked b ∷ []) ≡ due (nine p b ∷ [])
  nine_is i = due (test (ltb (em i) (ez i)) nothing_marked b ∷ [])

  module _ (r : Result (Unit {0}) code.Refusal) where
    -- nothing is marked
    pub unfit_nine :
        (x : code.Refusal) → refusal_of x ≡ due (test (ltb m z) nothing_marked b ∷ []) → IsErrAnd r (λ e. e ≡ x)
        → checked r ≡ due (unfit_tests p b v)
    unfit_nine x e h = refused_first (nine p b ∷ []) (ten p b v ∷ []) refl r x (e ∙ nine_is) h

    module _ (some : none ≡ due (test (ltb m z) nothing_marked b ∷ [])) (x : ℕ) (ex : x ≡ get_or p.begin b 0) where
      by_ten : checked r ≡ due (ten p b v ∷ []) → checked r ≡ due (unfit_tests p b v)
      by_ten e = refused_second (nine p b ∷ []) (ten p b v ∷ []) refl r (some ∙ nine_is) e

      length-is : z - x ≡ len_at p b
      unfolding len_at length_in
      length-is = omega (arith, ex, ez)

      -- a block of one state is not asked for dense numbers
      pub unfit_alone : z - x ≡ 1 → checked r ≡ none → checked r ≡ due (unfit_tests p b v)
      unfolding due
      unfit_alone e d = by_ten (d ∙ rw (eq-eqb (len_at p b) 1 (sym length-is ∙ e)))

      module _ (ne : z - x ≡ 1 → ⊥) (j : ℕ) (t : Bool)
          (ej : j ≡ first p.n (λ k. eqb (tallied (marked_from p.element_offset p.element_to_block b m) (λ s. get_or v s 0) p.n k) 0))
          (et : t ≡ all p.n (λ s. cond (marked_from p.element_offset p.element_to_block b m s) (ltb (get_or v s 0) j) true)) where
        j_is : j ≡ missing p b v
        unfolding missing absent numbered marked_in tallied
        j_is = ej ∙
            ap
            (λ (y : ℕ).
            first p.n (λ k. eqb (tallied (marked_from p.element_offset p.element_to_block b y) (λ s. get_or v s 0) p.n k) 0))
            em

        t_is : t ≡ denseb p b v
        unfolding denseb marked_in
        t_is =
            et
            ∙ ap (λ (y : ℕ). all p.n (λ s. cond (marked_from p.element_offset p.element_to_block b y s) (ltb (get_or v s 0) j) true)) em
            ∙ ap (λ (y : ℕ). all p.n (λ s. cond (marked_from p.element_offset p.element_to_block b (get_or p.marked_split b 0) s)
            (ltb (get_or v s 0) y) true)) j_is

        -- any other is
        pub unfit_ten : checked r ≡ due (test t not_dense j ∷ []) → checked r ≡ due (unfit_tests p b v)
        unfit_ten e =
            let more = ne_eqb (len_at p b) 1 (λ e. ne (length-is ∙ e)) in
            let f : t ≡ eqb (len_at p b) 1 || denseb p b v = t_is ∙ sym (ap (λ (x : Bool). x || denseb p b v) more) in
            by_ten (e ∙ (λ i. due (test (f i) not_dense (j_is i) ∷ [])))

-- ---- what holds where nothing is refused
pub record DivisionReady (p : Partition) (b : ℕ) (v works : List ℕ) : Type 0 where
  pub ready : Dividable p b v
  pub numbers : p.n ≤ length v
  pub rooms : Roomy (p.n + 1) works

pub division_ready :
    (p : Partition) (b : ℕ) (v works : List ℕ) (t : Refusal) → t ≡ refusal_for p b v works → t.number ≡ 0 → DivisionReady p b v works
unfolding refusal_for roomb
division_ready p b v works t e z =
    let r = roomb p.n (length v) works in
    let h = passed_both (partition_tests p r) (index_test b p.count ∷ unfit_tests p b v) refl t e z in
    let c = checked_of p r h.0 in
    let l = leb p.n (length v) in
    let w = all_long (p.n + 1) works in
    record {
      ready = record {
        sound = c.sound;
        known = ltb-true _ _ h.1.0;
        some = ltb-true _ _ h.1.1.0;
        dense = λ n. sym (ap (λ (x : Bool). x || denseb p b v) (ne_eqb (len_at p b) 1 n)) ∙ h.1.1.1.0;
      };
      numbers = leb-true _ _ (and_left l w c.enough);
      rooms = roomy_of (p.n + 1) works (and_right l w c.enough);
    }
