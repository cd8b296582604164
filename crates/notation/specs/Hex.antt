-- Which bytes are hexadecimal, and which bytes they spell.
use Rattle.std.specs.Prelude.{ℕ, zero, suc, ◌+◌, ◌-◌, ◌*◌, Bool, cond, ◌&&◌, List, [], ◌∷◌, ◌++◌, length, Some, None, Option, ◌==◌, nat_le, slice_index}
use Rattle.std.specs.Char.{is_ascii_hexdigit}
use Rattle.std.specs.List.{list_all}

-- the digits '0' to '9', 'A' to 'F' and 'a' to 'f'
abbrev pub is_hex : ℕ → Bool
is_hex c = is_ascii_hexdigit c

-- the value of such a digit
abbrev pub hex_value : ℕ → ℕ
hex_value c = cond (nat_le c 57) (c - 48) (cond (nat_le c 70) (c - 55) (c - 87))

abbrev pub all_hex : List ℕ → Bool
all_hex cs = list_all is_hex cs

-- the first n bytes that digits spell: byte k stands at digits 2 k and 2 k + 1, the high one first
unfoldable pub spelled_bytes : ℕ → List ℕ → List ℕ
spelled_bytes zero ds = []
spelled_bytes (suc n) ds = spelled_bytes n ds ++ (16 * hex_value (slice_index ds (2 * n)) + hex_value (slice_index ds (2 * n + 1))) ∷ []

-- the n bytes that hexadecimal digits spell, if they spell just so many
abbrev pub bytes_in : ℕ → List ℕ → Option (List ℕ)
bytes_in n ds = cond (length ds == 2 * n && all_hex ds) (Some (spelled_bytes n ds)) None
