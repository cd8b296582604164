-- Paths of sheets.
use Rattle.std.specs.Prelude.{ℕ, Bool, cond, ◌&&◌, List, length, take, Some, None, Option, nat_le}
use Rattle.register.specs.declared.path.SheetPath.{SheetPath}

-- the bytes of a path
abbrev pub path_of : SheetPath → List ℕ
path_of p = take p.len p.bytes

-- a path has 1 to 40 bytes
abbrev pub is_path : List ℕ → Bool
is_path bytes = nat_le 1 (length bytes) && nat_le (length bytes) 40

-- the path that bytes spell
abbrev pub path_in : List ℕ → Option (List ℕ)
path_in bytes = cond (is_path bytes) (Some bytes) None
