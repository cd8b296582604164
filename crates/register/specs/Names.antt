-- Names of rows, as lists of numbers.
use Rattle.std.specs.Prelude.{ℕ, ◌<◌, List, [], length, Option, ◌≢◌, position, slice_index_or}
use Rattle.std.specs.Str.{bytes_eq}

-- the place of the first of these names that is the one sought; nothing where there is none
abbrev pub place_in : List ℕ → List (List ℕ) → Option ℕ
place_in sought names = position (λ name. bytes_eq name sought) names

-- no name stands at two places
abbrev pub Distinct : List (List ℕ) → Type 0
Distinct ns = (i j : ℕ) → i < j → j < length ns → slice_index_or ns i [] ≢ slice_index_or ns j []
