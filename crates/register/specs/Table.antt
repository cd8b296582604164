-- What a register holds.
use Rattle.std.specs.Prelude.{ℕ, ◌+◌, min, List, map, length}

-- The rows that are listed, in the order in which they were added, and those that memory has room for behind them, whose
-- contents mean nothing.
pub record Table (X : Type 0) : Type 0 where
  pub listed : List X
  pub spare : List X

-- how many rows of a kind, which has at most so many, can be listed in all
abbrev pub room : {X : Type 0} → ℕ → Table X → ℕ
room most t = min most (length t.listed + length t.spare)

-- the same table, of what each row shows
abbrev pub shown : {X V : Type 0} → (X → V) → Table X → Table V
shown view t = record { listed = map view t.listed; spare = map view t.spare }
