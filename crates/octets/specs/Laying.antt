-- Bytes laid over others, and bytes filled up with zeros.
use Rattle.std.specs.Prelude.{ℕ, ◌+◌, ◌-◌, List, ◌++◌, length, take, drop, replicate}

-- `over` laid over `under` from the place `at` on, as far as `under` reaches
abbrev pub laid : List ℕ → ℕ → List ℕ → List ℕ
laid under at over = take at under ++ (take (length under - at) over ++ drop (at + length over) under)

-- the first n of these bytes, filled up with zeros where there are fewer
abbrev pub filled : ℕ → List ℕ → List ℕ
filled n bytes = take n bytes ++ replicate (n - length bytes) 0
