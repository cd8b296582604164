-- Which bytes are a decimal number, and which number.
use Rattle.std.specs.Prelude.{ℕ, ◌+◌, ◌-◌, ◌*◌, Bool, cond, ◌&&◌, List, length, Some, None, Option, nat_le, fold}
use Rattle.std.specs.Char.{is_ascii_digit}
use Rattle.std.specs.List.{list_all}

-- the bytes '0' to '9'
abbrev pub is_digit : ℕ → Bool
is_digit b = is_ascii_digit b

abbrev pub all_digits : List ℕ → Bool
all_digits bs = list_all is_digit bs

-- the number that digits spell behind those that spell n
abbrev pub spelled_after : ℕ → List ℕ → ℕ
spelled_after n ds = fold (λ m d. m * 10 + (d - 48)) n ds

abbrev pub spelled : List ℕ → ℕ
spelled ds = spelled_after 0 ds

-- one or more digits are a number, unless it is over the most that it may be; `in_type` is what a number is in a type
abbrev pub number_as : {A : Type 0} → (ℕ → A) → ℕ → List ℕ → Option A
number_as in_type most ds = cond (nat_le 1 (length ds) && all_digits ds && nat_le (spelled ds) most) (Some (in_type (spelled ds))) None

-- the number itself
abbrev pub number_in : ℕ → List ℕ → Option ℕ
number_in most ds = number_as (λ n. n) most ds
