-- The rounds of ChaCha20: RFC 8439, sections 2.1 to 2.3.
use Rattle.std.specs.Prelude.{ℕ, zero, suc, List, bit_xor}
use Rattle.octets.specs.Words.{◌⊞◌, rotl}
use Rattle.octets.specs.Quarters.{four_at, with_four}
use Rattle.octets.specs.declared.quarters.Four.{Four}

-- the quarter round
abbrev pub quarter : Four → Four
quarter s =
    let a = s.a ⊞ s.b in
    let d = rotl 16 (bit_xor s.d a) in
    let c = s.c ⊞ d in
    let b = rotl 12 (bit_xor s.b c) in
    let a' = a ⊞ b in
    let d' = rotl 8 (bit_xor d a') in
    let c' = c ⊞ d' in
    let b' = rotl 7 (bit_xor b c') in
    record { a = a'; b = b'; c = c'; d = d' }

-- the quarter round on the words of the state at these places
unfoldable pub quarter_at : List ℕ → ℕ → ℕ → ℕ → ℕ → List ℕ
quarter_at s a b c d = with_four s a b c d (quarter (four_at s a b c d))

-- two rounds: columns, then diagonals
abbrev pub double_round : List ℕ → List ℕ
double_round s =
    let s1 = quarter_at s 0 4 8 12 in
    let s2 = quarter_at s1 1 5 9 13 in
    let s3 = quarter_at s2 2 6 10 14 in
    let s4 = quarter_at s3 3 7 11 15 in
    let s5 = quarter_at s4 0 5 10 15 in
    let s6 = quarter_at s5 1 6 11 12 in
    let s7 = quarter_at s6 2 7 8 13 in
    quarter_at s7 3 4 9 14

unfoldable pub double_rounds : ℕ → List ℕ → List ℕ
double_rounds zero s = s
double_rounds (suc n) s = double_round (double_rounds n s)
