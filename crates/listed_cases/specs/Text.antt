-- A text as the list of its bytes. Every character that a partition's text has is one byte.
use Rattle.std.specs.Prelude.{ℕ, Bool, List, [] as []ᴸ, ◌∷◌ as ◌∷ᴸ◌, eqb}
use Prim.Native.Char.{code}
use Prim.Native.String.{String, [], ◌∷◌}
use Rattle.columns.specs.Sets.{same}

unfoldable pub bytes : String → List ℕ
bytes [] = []ᴸ
bytes (c ∷ s) = code c ∷ᴸ bytes s

-- a list of bytes reads so
unfoldable pub reads : List ℕ → String → Bool
unfolding bytes same
reads l text = same eqb l (bytes text)
