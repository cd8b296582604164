-- Each entry of the rounds' orders is the place of a word in a block.
use Rattle.std.proofs.Common.{◌≡◌, ℕ, zero, suc, ◌<◌, Bool, true, ◌&&◌, ltb, List, [], ◌∷◌, get_or, lit<}
use Rattle.std.proofs.lemmas.Bool.{and_parts, ltb-true}

-- whether each of these numbers is below sixteen, and the same of each row
abbrev below : List ℕ → Bool
below [] = true
below (x ∷ xs) = ltb x 16 && below xs

abbrev rows_below : List (List ℕ) → Bool
rows_below [] = true
rows_below (r ∷ rs) = below r && rows_below rs

-- where the test holds, any entry is below sixteen, and so is any entry of any row
entry_below : (xs : List ℕ) (i : ℕ) → below xs ≡ true → get_or xs i 0 < 16
entry_below [] i e = lit< tt
entry_below (x ∷ xs) zero e = ltb-true x 16 (and_parts (ltb x 16) (below xs) e).0
entry_below (x ∷ xs) (suc i) e = entry_below xs i (and_parts (ltb x 16) (below xs) e).1

pub row_below : (rs : List (List ℕ)) (round i : ℕ) → rows_below rs ≡ true → get_or (get_or rs round []) i 0 < 16
row_below [] round i e = lit< tt
row_below (r ∷ rs) zero i e = entry_below r i (and_parts (below r) (rows_below rs) e).0
row_below (r ∷ rs) (suc round) i e = row_below rs round i (and_parts (below r) (rows_below rs) e).1
