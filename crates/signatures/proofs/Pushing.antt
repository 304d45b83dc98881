-- A loop that pushes a pair for each number that passes.
use Rattle.std.specs.Prelude.{◌≡◌, ℕ, ◌+◌, ◌<◌, ◌≤◌, Bool, true, false, List, [], ◌∷◌, ◌++◌, map, length, get_or, set}
use native.Mathlib.Omega.{arith}
use mathlib.Core.Path.{refl, ap, ap₂, sym, ◌∙◌}
use mathlib.Core.List.{map-append, append-nil, append_assoc}
use lib.ListN.{length-set}
use lib.Seq.{get_or-set_other}
use Rattle.columns.specs.Counting.{many, members}
use Rattle.columns.specs.Rows.{pairs_of}
use Rattle.columns.specs.Sets.{Pair}
use Rattle.columns.proofs.Counting.{bit_true, bit_false, many-suc, many_nothing}
use Rattle.columns.proofs.Members.{members_hit, members_miss, members-rest, members-none}
use Rattle.columns.proofs.TwoColumns.{length_pairs, pairs_more}

-- of the numbers from `first` to before `end`, those below i are seen, and behind the pairs l₀ the pairs of those that pass are pushed:
-- d pairs in all, and the cells behind them as they were
pub record Pushing (l₀ : List Pair) (g : ℕ → Pair) (f : ℕ → Bool) (first end : ℕ) (a₀ b₀ : List ℕ) (i d : ℕ) (a b : List ℕ) : Type 0 where
  pub low : first ≤ i
  pub high : i ≤ end
  pub count : d ≤ length l₀ + i
  pub exact : d ≡ length l₀ + many i f
  pub pairs : pairs_of d a b ≡ l₀ ++ map g (members i f)
  pub left : length a ≡ length a₀
  pub right : length b ≡ length b₀
  pub behind-left : (k : ℕ) → d ≤ k → get_or a k 0 ≡ get_or a₀ k 0
  pub behind_right : (k : ℕ) → d ≤ k → get_or b k 0 ≡ get_or b₀ k 0

module _ (l₀ : List Pair) (g : ℕ → Pair) (f : ℕ → Bool) (first end : ℕ) (a₀ b₀ : List ℕ) where
  pub push_start :
      (d : ℕ) → pairs_of d a₀ b₀ ≡ l₀ → first ≤ end → ((k : ℕ) → k < first → f k ≡ false) → Pushing l₀ g f first end a₀ b₀ first d a₀ b₀
  push_start d e h n = record {
    low = omega arith;
    high = h;
    count = omega (arith, sym (length_pairs d a₀ b₀), ap length e);
    exact = omega (arith, sym (length_pairs d a₀ b₀), ap length e, many_nothing first f n);
    pairs = e ∙ sym (append-nil l₀) ∙ ap (λ (l : List ℕ). l₀ ++ map g l) (sym (members-none f first n));
    left = refl;
    right = refl;
    behind-left = λ k h. refl;
    behind_right = λ k h. refl;
  }

  module _ (i d : ℕ) (a b : List ℕ) (p : Pushing l₀ g f first end a₀ b₀ i d a b) where
    module _ (h : i < end) where
      pub push_more :
          (x y : ℕ) → f i ≡ true → g i ≡ (x, y) → d < length a → d < length b
          → Pushing l₀ g f first end a₀ b₀ (i + 1) (d + 1) (set a d x) (set b d y)
      push_more x y t e ha hb = record {
        low = omega (arith, p.low);
        high = omega arith;
        count = omega (arith, p.count);
        exact = omega (arith, p.exact, many-suc i f, bit_true (f i) t);
        pairs =
            pairs_more d a b x y ha hb ∙ ap₂ (λ (l : List Pair) (q : Pair). l ++ (q ∷ [])) p.pairs (sym e)
            ∙ append_assoc l₀ (map g (members i f)) (g i ∷ [])
            ∙ ap (λ (l : List Pair). l₀ ++ l) (sym (ap (map g) (members_hit f i t) ∙ map-append g (members i f) (i ∷ [])));
        left = length-set a d x ∙ p.left;
        right = length-set b d y ∙ p.right;
        behind-left = λ k l. get_or-set_other a d k x 0 (λ e. omega (arith, e, l)) ∙ p.behind-left k (omega (arith, l));
        behind_right = λ k l. get_or-set_other b d k y 0 (λ e. omega (arith, e, l)) ∙ p.behind_right k (omega (arith, l));
      }

      pub push_pass : f i ≡ false → Pushing l₀ g f first end a₀ b₀ (i + 1) d a b
      push_pass t = record {
        low = omega (arith, p.low);
        high = omega arith;
        count = omega (arith, p.count);
        exact = omega (arith, p.exact, many-suc i f, bit_false (f i) t);
        pairs = p.pairs ∙ ap (λ (l : List ℕ). l₀ ++ map g l) (sym (members_miss f i t));
        left = p.left;
        right = p.right;
        behind-left = p.behind-left;
        behind_right = p.behind_right;
      }

    pub push_done :
        (m : ℕ) → end ≤ i → end ≤ m → ((k : ℕ) → end ≤ k → k < m → f k ≡ false) → pairs_of d a b ≡ l₀ ++ map g (members m f)
    push_done m h w n =
        p.pairs ∙ ap (λ (l : List ℕ). l₀ ++ map g l) (sym
        (members-rest f m i (omega (arith, p.high)) (λ k u v. n k (omega (arith, h, u)) v)))

    pub push_behind : (k : ℕ) → d ≤ k → (get_or a k 0 ≡ get_or a₀ k 0) × (get_or b k 0 ≡ get_or b₀ k 0)
    push_behind k l = (p.behind-left k l, p.behind_right k l)
