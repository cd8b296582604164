-- Four words of a state, and a state in which four words are changed.
use Rattle.std.specs.Prelude.{ℕ, List, slice_index, slice_set}
use Rattle.octets.specs.declared.quarters.Four.{Four}

-- the words of the state at these places
abbrev pub four_at : List ℕ → ℕ → ℕ → ℕ → ℕ → Four
four_at s a b c d = record { a = slice_index s a; b = slice_index s b; c = slice_index s c; d = slice_index s d }

-- the state with these words at the places
abbrev pub with_four : List ℕ → ℕ → ℕ → ℕ → ℕ → Four → List ℕ
with_four s a b c d four = slice_set (slice_set (slice_set (slice_set s a four.a) b four.b) c four.c) d four.d
