-- What the bits say in which two lists of bytes differ.
use Rattle.std.specs.Prelude.{◌≡◌, ℕ, List}

-- there are no such bits just where the lists are the same
abbrev pub Tells : ℕ → List ℕ → List ℕ → Type 0
Tells bits xs ys = (bits ≡ 0 → xs ≡ ys) × (xs ≡ ys → bits ≡ 0)
