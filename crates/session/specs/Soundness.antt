-- What holds of the lists, whatever the lines.
use Rattle.std.specs.Prelude.{◌≡◌, ℕ, ◌≤◌, true, List, map, length}
use Rattle.std.specs.List.{AllByRecursion}
use Rattle.register.specs.Listing.{is_office, number_name}
use Rattle.register.specs.Names.{Distinct}
use Rattle.register.specs.Paths.{is_path}
use Rattle.session.specs.Files.{after}
use Rattle.session.specs.Replies.{Rows, State}

-- a list is sound: no name stands twice, there are no more rows than there is room for, and each row is within its limits
pub record SoundList {X : Type 0} (name : X → List ℕ) (Within : X → Type 0) (list : Rows X) : Type 0 where
  pub distinct : Distinct (map name list.rows)
  pub few : length list.rows ≤ list.room
  pub limits : AllByRecursion Within list.rows

-- any account will do; an office has an office's number, and a sheet a path
pub record Sound (s : State) : Type 0 where
  pub accounts : SoundList number_name (λ _. Unit {0}) s.accounts
  pub offices : SoundList number_name (λ o. is_office o.number ≡ true) s.offices
  pub sheets : SoundList (λ l. l.path) (λ l. is_path l.path ≡ true) s.sheets

-- it stays so, whatever lines follow
abbrev pub StaysSound : State → Type 0
StaysSound s = (lines : List (List ℕ)) → Sound (after s lines)
