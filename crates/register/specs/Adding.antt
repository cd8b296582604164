-- Adding a row to a register.
use Rattle.std.specs.Prelude.{◌≡◌, ℕ, ◌+◌, cond, not, List, [], ◌∷◌, ◌++◌, map, length, drop, is_some, is_ok, Result, nat_lt}
use Rattle.std.specs.Result.{result_err}
use Rattle.refusal.specs.Checks.{Check, first_refused}
use Rattle.refusal.specs.declared.Refusal.{Refusal}
use Rattle.refusal.specs.declared.Refusal.TheVariants.{AlreadyListed, ListFull}
use Rattle.register.specs.Names.{place_in, Distinct}
use Rattle.register.specs.Table.{Table, room}

-- the checks of a new row, of this name, beside rows of those names, where there is room for so many
abbrev pub new_row : List ℕ → List (List ℕ) → ℕ → List Check
new_row name names room = (not (is_some (place_in name names)), AlreadyListed) ∷ (nat_lt (length names) room, ListFull) ∷ []

-- A row is added to a register, whose kind holds at most `most`, after checks of the row's own: with this answer, and it
-- holds that table then.
pub record Adds {X : Type 0} (name : X → List ℕ) (most : ℕ) (own : List Check) (row : X) (before : Table X) (answer : Result (Unit {0}) Refusal) (after : Table X) : Type 0 where
  -- it is refused by the first check that does not hold
  pub answers : result_err answer ≡ first_refused (own ++ new_row (name row) (map name before.listed) (room most before))
  -- the row stands behind the others, in the first spare place, and a refusal changes nothing
  pub listed : after.listed ≡ cond (is_ok answer) (before.listed ++ row ∷ []) before.listed
  pub spare : after.spare ≡ cond (is_ok answer) (drop 1 before.spare) before.spare
  -- memory holds as many as before
  pub size : length after.listed + length after.spare ≡ length before.listed + length before.spare
  -- no name is listed twice, if none was
  pub distinct : Distinct (map name before.listed) → Distinct (map name after.listed)
