-- What is written for an answer.
use Rattle.std.specs.Prelude.{ℕ, List, [], ◌∷◌, ◌++◌, Some, None, Ok, Err, Option, Result, decimal}
use Rattle.refusal.specs.Numbers.{number_of, place_of}
use Rattle.refusal.specs.declared.Refusal.{Refusal}

-- a tab and the place, for a refusal that has one
abbrev pub place_text : Option ℕ → List ℕ
place_text None = []
place_text (Some place) = 9 ∷ decimal place

-- "ok", or the refusal's number with its place
abbrev pub told : Result (Unit {0}) Refusal → List ℕ
told (Ok u) = 111 ∷ 107 ∷ []
told (Err r) = decimal (number_of r) ++ place_text (place_of r)

-- the line's number, a tab, the answer, a line feed
abbrev pub line_for : ℕ → Result (Unit {0}) Refusal → List ℕ
line_for number answer = decimal number ++ (9 ∷ (told answer ++ (10 ∷ [])))
