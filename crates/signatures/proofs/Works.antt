-- Work slices, however many: that each is long enough, and what they are left as.
use Rattle.std.specs.Prelude.{◌≡◌, ℕ, ◌+◌, ◌<◌, ◌≤◌, Bool, true, ◌&&◌, leb, List, [], ◌∷◌, ◌++◌, map, length}
use mathlib.Core.Path.{refl, ap, ap₂, sym, ◌∙◌}
use mathlib.Core.List.{map-id, map-map, map-append}
use Rattle.columns.specs.Answers.{Refusal, none}
use Rattle.columns.specs.Columns.{zeros, zeroed}
use Rattle.columns.specs.Due.{Roomy}
use Rattle.columns.proofs.Rooms.{roomy_of}
use Rattle.columns.proofs.Bools.{and_left, and_right}
use Rattle.partition.specs.Partition.{Partition, Sound}
use Rattle.signatures.specs.Signing.{works_fit, signature_refusal}
use Rattle.signatures.specs.Pairs.{room_for}
use Rattle.table.specs.Checks.{works_long}
use Rattle.table.specs.Lts.{Lts, Valid}
use Rattle.table_partition.specs.Checks.{both_argument_refusal}
use Rattle.table_partition.proofs.Refusals.{both_ready}
use borrow.Author.Tests.{leb-true}

-- ---- they are long enough
-- every slice has n + m + 1 cells
abbrev pub Wide : Lts → List (List ℕ) → Type 0
Wide t works = Roomy (t.n + t.m + 1) (map (λ w. length w) works)

pub wide_of : (t : Lts) (works : List (List ℕ)) → works_fit t works ≡ true → Wide t works
unfolding works_fit
wide_of t works e = roomy_of (t.n + t.m + 1) (map (λ w. length w) works) e

-- ---- the checks of a call that writes a signature; `more` is what it asks of its other slices
module _ (t : Lts) (p : Partition) (s : ℕ) (more : Bool) (works : List (List ℕ)) where
  -- what a call goes by whose checks refuse nothing
  pub record Signable : Type 0 where
    pub valid : Valid t
    pub sound : Sound p
    pub known : s < t.n
    pub enough : more ≡ true
    pub wide : Wide t works

  -- the checks are made with b, what was found of the lengths of the work slices
  module _ (b : Bool) (f : b ≡ works_long t (map (λ w. length w) works)) where
    pub asked_long : (r : Refusal) → r ≡ both_argument_refusal t p s t.n (more && b) → r ≡ signature_refusal t p s (more && works_fit t works)
    unfolding signature_refusal works_fit
    asked_long r e = e ∙ ap (λ (x : Bool). both_argument_refusal t p s t.n (more && x)) f

    pub signable : p.n ≡ t.n → none ≡ both_argument_refusal t p s t.n (more && b) → Signable
    unfolding signature_refusal
    signable same e =
        let q = both_ready t p same s t.n (more && works_fit t works) none (asked_long none e) refl in
        record {
          valid = q.valid;
          sound = q.sound;
          known = q.known;
          enough = and_left more (works_fit t works) q.enough;
          wide = wide_of t works (and_right more (works_fit t works) q.enough);
        }

-- ---- what they are left as
-- two lists, slice by slice
abbrev pub Each : (List ℕ → List ℕ → Type 0) → List (List ℕ) → List (List ℕ) → Type 0
Each p [] [] = Unit {0}
Each p [] (b ∷ before) = ⊥
Each p (a ∷ works) [] = ⊥
Each p (a ∷ works) (b ∷ before) = p a b × Each p works before

each_map : {B : Type 0} (f g : List ℕ → B) (works before : List (List ℕ)) → Each (λ a b. f a ≡ g b) works before →
    map f works ≡ map g before
each_map f g [] [] e = refl
each_map f g [] (b ∷ before) e = absurd e
each_map f g (a ∷ works) [] e = absurd e
each_map f g (a ∷ works) (b ∷ before) e = ap₂ ◌∷◌ e.0 (each_map f g works before e.1)

pub zeroed_of : (works before : List (List ℕ)) → Each (λ a b. a ≡ zeros (length b)) works before → works ≡ zeroed before
zeroed_of works before e = sym (map-id works) ∙ each_map (λ a. a) (λ b. zeros (length b)) works before e

-- they are left alike where they are as long as before
pub level : (works before : List (List ℕ)) → Each (λ a b. length a ≡ length b) works before → zeroed works ≡ zeroed before
level works before e =
    sym (map-map zeros (λ (w : List ℕ). length w) works)
    ∙ ap (map zeros) (each_map (λ w. length w) (λ w. length w) works before e)
    ∙ map-map zeros (λ (w : List ℕ). length w) before

pub cleared-append : (l m : List (List ℕ)) → zeroed l ++ zeroed m ≡ zeroed (l ++ m)
cleared-append l m = sym (map-append (λ (w : List ℕ). zeros (length w)) l m)

-- two columns with room for d pairs
pub room_both : (d l b : ℕ) (r : Bool) → r ≡ room_for d l b → r ≡ true → (d ≤ l) × (d ≤ b)
unfolding room_for
room_both d l b r e f =
    (leb-true d l (and_left (leb d l) (leb d b) (sym e ∙ f)), leb-true d b (and_right (leb d l) (leb d b) (sym e ∙ f)))
