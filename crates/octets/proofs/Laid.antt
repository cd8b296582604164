-- What laying bytes over others comes to.
use Rattle.std.proofs.Common.{◌≡◌, ℕ, ◌+◌, ◌-◌, ◌≤◌, List, ◌++◌, length, take, drop, replicate, sym, ap, ◌∙◌, append_assoc, zero-add, arith}
use native.Mathlib.Nat.{sub-zero}
use Rattle.std.proofs.lemmas.List.{take_all, take_at, drop-replicate, length-append, length-replicate, length-take-le}
use Rattle.octets.specs.Laying.{laid, filled}

-- bytes laid over zeros are bytes filled up
pub laid_on_zeros : (n : ℕ) (over : List ℕ) → laid (replicate n 0) 0 over ≡ filled n over
laid_on_zeros n over = simp (length-replicate, sub-zero, zero-add, drop-replicate)

-- the bytes up to the end of what was laid
pub take-laid : (under : List ℕ) (at : ℕ) (over : List ℕ) (n : ℕ) → n ≡ at + length over → n ≤ length under → take n (laid under at over) ≡ take at under ++ over
take-laid under at over n e h =
    let all : length over ≤ length under - at = omega arith in
    let front : length (take at under ++ over) ≡ n = length-append (take at under) over ∙ ap (λ m. m + length over) (length-take-le at under (omega arith)) ∙ sym e in
    ap (λ xs. take n (take at under ++ (xs ++ drop (at + length over) under))) (take_all (length under - at) over all)
    ∙ ap (take n) (sym (append_assoc (take at under) over (drop (at + length over) under)))
    ∙ take_at (take at under ++ over) (drop (at + length over) under) n front
