-- The strong signature of a state: (a, b) is in it exactly if some step (s, a, u) leads to block b.
use Rattle.std.specs.Prelude.{◌≡◌, ℕ, ◌↔◌, List, get_or}
use mathlib.Core.Path.{refl, sym, subst}
use Rattle.columns.specs.Sets.{Mem, Pair, pair_lt, Ascending}
use Rattle.signatures.specs.Strong.{row_pair, strong_pushed, strong_signature}
use Rattle.signatures.proofs.Rows.{pushed_in, pushed_out}
use Rattle.signatures.proofs.Sigs.{sig_in, sig_out, sig_ascending, sig_ext}
use Rattle.table.specs.Lts.{Lts, Step}

-- a step from s under label a to a state of block b
pub record Leads (t : Lts) (home : List ℕ) (s a b : ℕ) : Type 0 where
  pub target : ℕ
  pub step : Step t s a target
  pub block : get_or home target 0 ≡ b

module _ (t : Lts) (home : List ℕ) (s : ℕ) where
  pub strong_in : (a u : ℕ) → Step t s a u → Mem {A = Pair} (a, get_or home u 0) (strong_signature t home s)
  unfolding strong_signature strong_pushed row_pair
  strong_in a u k =
      sig_in (strong_pushed t home s) (a, get_or home u 0) (pushed_in t s (row_pair t home) (λ x v. (x, get_or home v 0)) (λ i. refl) a u k)

  pub strong_out : (a b : ℕ) → Mem {A = Pair} (a, b) (strong_signature t home s) → Leads t home s a b
  unfolding strong_signature strong_pushed row_pair
  strong_out a b m =
      let f = pushed_out t s (row_pair t home) (λ x v. (x, get_or home v 0)) (λ i. refl) (a, b) (sig_out (strong_pushed t home s) (a, b) m) in
      record {
        target = f.target;
        step = subst (λ (x : ℕ). Step t s x f.target) (λ i. (sym f.pair i).0) f.step;
        block = λ i. (sym f.pair i).1;
      }

  pub strong_exactly : (a b : ℕ) → Mem {A = Pair} (a, b) (strong_signature t home s) ↔ Leads t home s a b
  strong_exactly a b = (
    strong_out a b,
    λ l. subst (λ (x : ℕ). Mem {A = Pair} (a, x) (strong_signature t home s)) l.block (strong_in a l.target l.step),
  )

  pub strong_ascending : Ascending pair_lt (strong_signature t home s)
  unfolding strong_signature
  strong_ascending = sig_ascending (strong_pushed t home s)

-- two states that lead to the same blocks have one signature
pub strong_ext :
    (t : Lts) (home : List ℕ) (r s : ℕ) → ((a b : ℕ) → Leads t home r a b → Leads t home s a b)
    → ((a b : ℕ) → Leads t home s a b → Leads t home r a b) → strong_signature t home r ≡ strong_signature t home s
unfolding strong_signature
strong_ext t home r s f g =
    sig_ext (strong_pushed t home r) (strong_pushed t home s)
    (λ p m. (strong_exactly t home s p.0 p.1).1 (f p.0 p.1 (strong_out t home r p.0 p.1 m)))
    (λ p m. (strong_exactly t home r p.0 p.1).1 (g p.0 p.1 (strong_out t home s p.0 p.1 m)))
