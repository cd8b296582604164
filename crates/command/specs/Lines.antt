-- The line of a file, as far as it can be read: nothing of one that has more than 10,240 bytes.
use Rattle.std.specs.Prelude.{ℕ, Bool, false, cond, List, [], ◌∷◌, ◌++◌, length, Some, None, Option, ◌==◌, nat_le}

abbrev pub line_in : List ℕ → Option (List ℕ)
line_in line = cond (nat_le (length line) 10240) (Some line) None

-- with a byte more
abbrev pub longer : Option (List ℕ) → ℕ → Option (List ℕ)
longer None byte = None
longer (Some line) byte = line_in (line ++ byte ∷ [])

-- whether it has no bytes
abbrev pub is_blank : Option (List ℕ) → Bool
is_blank None = false
is_blank (Some line) = length line == 0
