-- Which number digits spell, seen from what is left of them behind those that are read.
use Rattle.std.proofs.Common.{◌≡◌, ℕ, ◌+◌, ◌-◌, ◌*◌, ◌≤◌, cond, ◌&&◌, leb, List, [], ◌∷◌, length, Some, None, Option, IfSome, arith}
use Rattle.std.proofs.lemmas.Bool.Decides.{nat_tests}
use Rattle.notation.specs.Decimal.{is_digit, all_digits, spelled_after, number_in}
use Rattle.notation.proofs.Folded.{folded}

-- the number that digits spell behind those of n, if all are digits and it is at most `most`
abbrev pub rest : ℕ → ℕ → List ℕ → Option ℕ
rest most n ds = cond (all_digits ds && leb (spelled_after n ds) most) (Some (spelled_after n ds)) None

-- the number with one digit more
abbrev longer : ℕ → ℕ → ℕ
longer n d = n * 10 + (d - 48)

-- what `append` answers
abbrev pub appended : ℕ → ℕ → ℕ → Option ℕ
appended most n d = cond (is_digit d && leb (longer n d) most) (Some (longer n d)) None

-- digits never make a number less
spelled_le : (n : ℕ) (ds : List ℕ) → n ≤ spelled_after n ds
spelled_le n [] = omega arith
spelled_le n (d ∷ ds) = omega (arith, spelled_le (longer n d) ds)

-- the steps give nothing at the first byte that is no digit, or takes the number over the most
folded_rest : (most n : ℕ) (ds : List ℕ) → n ≤ most → folded (appended most) n ds ≡ rest most n ds
folded_rest most n [] h = grind (arith, nat_tests)
folded_rest most n (d ∷ ds) h = grind (arith, nat_tests, folded_rest most (longer n d) ds, spelled_le (longer n d) ds)

-- of one digit or more, they give the number
pub folded-number_in : (most : ℕ) (ds : List ℕ) → 1 ≤ length ds → folded (appended most) 0 ds ≡ number_in most ds
folded-number_in most ds h = grind (arith, nat_tests, folded_rest most 0 ds)

pub number_in_bound : (most : ℕ) (ds : List ℕ) → IfSome (number_in most ds) (λ n. n ≤ most)
number_in_bound most ds = grind (arith, nat_tests)
