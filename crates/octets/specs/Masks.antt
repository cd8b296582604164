-- Exclusive or, byte by byte.
use Rattle.std.specs.Prelude.{ℕ, List, [], ◌∷◌, bit_xor}

-- these bytes, each exclusive-or the byte at its place in the mask
unfoldable pub masked : List ℕ → List ℕ → List ℕ
masked [] mask = []
masked (x ∷ xs) [] = []
masked (x ∷ xs) (m ∷ ms) = bit_xor x m ∷ masked xs ms
