-- The ways out of a call that writes a signature.
use Rattle.std.specs.Prelude.{◌≡◌, ℕ, true, false, List, [], ◌∷◌, length}
use Rattle.columns.specs.Answers.{Refusal}
use Rattle.columns.specs.Answers.{Said, done, refused}
use Rattle.columns.specs.Columns.{zeroed}
use Rattle.columns.specs.Sets.{Pair}
use Rattle.columns.specs.Limits.{no_room}
use Rattle.columns.proofs.Saying.{unless_refused, unless_on}
use Rattle.signatures.specs.Pairs.{Columns, fits, pairs_over}
use Rattle.signatures.specs.Signing.{Left, writing, finishing, signing}

-- its checks have answered t
module _ (r t : Refusal) (e : t ≡ r) (pushed : ℕ) (pairs : List Pair) (out : Columns) (works : List (List ℕ)) where
  pub signing_refused : (s : Said) → (t.number ≡ 0 → ⊥) → s ≡ refused t.number t.place →
      ◌≡◌ {A = Said × Left} (s, (out, works)) (signing r pushed pairs out works)
  unfolding signing
  signing_refused s n f = unless_refused r t e (out, works) (finishing pushed pairs out works) s n f

  -- a call whose checks are passed writes its signature, or has no room
  pub signing_on :
      (d : ℕ) (l : List Pair) (w : List (List ℕ)) → t.number ≡ 0 → d ≡ pushed → l ≡ pairs → zeroed w ≡ zeroed works
      → finishing d l out w ≡ signing r pushed pairs out works
  unfolding finishing signing
  signing_on d l w z f g h =
      unless_on r t e (out, works) (finishing pushed pairs out works) (finishing d l out w) z
      (λ i. ((writing (f i) (g i) out).0, ((writing (f i) (g i) out).1, h i)))

module _ (pushed : ℕ) (pairs : List Pair) (out : Columns) where
  pub wrote_none : (s : Said) → fits pushed out ≡ false → s ≡ refused no_room pushed →
      ◌≡◌ {A = Said × Columns} (s, out) (writing pushed pairs out)
  unfolding writing
  wrote_none s f e = rw (f, e)

  pub wrote_all :
      (s : Said) (o : Columns) → fits pushed out ≡ true → s ≡ done (length pairs ∷ []) → o ≡ pairs_over pairs out
      → ◌≡◌ {A = Said × Columns} (s, o) (writing pushed pairs out)
  unfolding writing
  wrote_all s o f e h = rw (f, e, h)

  -- what is written and said doesn't depend on the work slices, and they are left cleared, whether there was room or not
  pub finished :
      (s : Said) (o : Columns) (works w : List (List ℕ)) → ◌≡◌ {A = Said × Columns} (s, o) (writing pushed pairs out) → w ≡ zeroed works
      → ◌≡◌ {A = Said × Left} (s, (o, w)) (finishing pushed pairs out works)
  unfolding finishing
  finished s o works w e g = λ i. ((e i).0, ((e i).1, g i))
