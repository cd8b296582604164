-- The three lists: how each names its rows, how many it holds, and what it asks of a new row before all else.
use Rattle.std.specs.Prelude.{ℕ, Bool, ◌&&◌, List, [], ◌∷◌, nat_le}
use Rattle.refusal.specs.Checks.{Check}
use Rattle.refusal.specs.declared.Refusal.TheVariants.{WrongLength, WrongOffice}
use Rattle.register.specs.Paths.{is_path, path_of}
use Rattle.register.specs.declared.rows.Keyed.{Keyed}
use Rattle.register.specs.declared.rows.Sheet.{Sheet}

-- accounts and offices go by their numbers, and sheets by their paths
abbrev pub number_name : Keyed ℕ → List ℕ
number_name row = row.number ∷ []

abbrev pub most_accounts : ℕ
most_accounts = 16

abbrev pub most_offices : ℕ
most_offices = 4

abbrev pub most_sheets : ℕ
most_sheets = 64

-- offices are 1 to 4
abbrev pub is_office : ℕ → Bool
is_office number = nat_le 1 number && nat_le number 4

abbrev pub office_checks : ℕ → List Check
office_checks number = (is_office number, WrongOffice) ∷ []

abbrev pub path_checks : List ℕ → List Check
path_checks path = (is_path path, WrongLength) ∷ []

-- a sheet as it is listed; it goes by its path
pub record Listing : Type 0 where
  pub path : List ℕ
  pub account : ℕ
  pub cards : ℕ

-- what a row of the register lists
abbrev pub listing : Sheet → Listing
listing s = record { path = path_of s.path; account = s.account; cards = s.cards }
