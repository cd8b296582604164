-- The logical functions of FIPS 180-4, section 4.1.2.
use Rattle.std.specs.Prelude.{ℕ, ◌-◌, ◌/◌, ◌^◌, bit_and, bit_xor}
use Rattle.octets.specs.Words.{rotr}

abbrev pub ch : ℕ → ℕ → ℕ → ℕ
ch x y z = bit_xor (bit_and x y) (bit_and (2 ^ 32 - 1 - x) z)

abbrev pub maj : ℕ → ℕ → ℕ → ℕ
maj x y z = bit_xor (bit_xor (bit_and x y) (bit_and x z)) (bit_and y z)

-- a word turned right by a, b and c bits
abbrev pub big_sigma : ℕ → ℕ → ℕ → ℕ → ℕ
big_sigma a b c x = bit_xor (bit_xor (rotr a x) (rotr b x)) (rotr c x)

-- a word turned right by a and b bits, and shifted right by c
abbrev pub small_sigma : ℕ → ℕ → ℕ → ℕ → ℕ
small_sigma a b c x = bit_xor (bit_xor (rotr a x) (rotr b x)) (x / 2 ^ c)

abbrev pub big_sigma0 : ℕ → ℕ
big_sigma0 = big_sigma 2 13 22

abbrev pub big_sigma1 : ℕ → ℕ
big_sigma1 = big_sigma 6 11 25

abbrev pub small_sigma0 : ℕ → ℕ
small_sigma0 = small_sigma 7 18 3

abbrev pub small_sigma1 : ℕ → ℕ
small_sigma1 = small_sigma 17 19 10
