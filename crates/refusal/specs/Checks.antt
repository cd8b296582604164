-- A call's checks as a list in their order, and what they come to.
use Rattle.std.specs.Prelude.{Bool, cond, List, [], ◌∷◌, Some, None, Option}
use Rattle.refusal.specs.declared.Refusal.{Refusal}

-- what has to hold, and the refusal where it does not
abbrev pub Check : Type 0
Check = Bool × Refusal

-- the refusal of the first check that does not hold, or none
abbrev pub first_refused : List Check → Option Refusal
first_refused [] = None
first_refused (c ∷ cs) = cond c.0 (first_refused cs) (Some c.1)
