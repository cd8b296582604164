-- The fields of a line.
use Rattle.std.specs.Prelude.{ℕ, List, ◌==◌}
use Rattle.std.specs.List.{slice_split}

-- the parts between separators: a line without one is one field, and a field may be empty
abbrev pub fields_of : ℕ → List ℕ → List (List ℕ)
fields_of separator line = slice_split (λ byte. byte == separator) line
