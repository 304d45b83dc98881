-- Texts as bytes.
use Rattle.std.specs.Prelude.{ℕ, ◌+◌, ◌≤◌, List, [], ◌∷◌, ◌++◌, ◌≡◌, length, take, drop}
use Prim.Native.Char.{code}
use Prim.Native.String.{String}
use Prim.Native.String.{[] as none, ◌∷◌ as ◌then◌}

-- the bytes of a text of ASCII characters
unfoldable pub text : String → List ℕ
text none = []
text (c then s) = code c ∷ text s

-- `words` put from byte `at` on, with room for them: what stood before, the words up to `next`, and what stood behind
pub record Put (before : List ℕ) (at : ℕ) (words after : List ℕ) (next : ℕ) : Type 0 where
  pub bytes : take next after ≡ take at before ++ words
  pub rest : drop next after ≡ drop next before
  pub place : next ≡ at + length words
  pub room : next ≤ length after
