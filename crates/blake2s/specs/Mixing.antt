-- The mixing function of RFC 7693, section 3.1.
use Rattle.std.specs.Prelude.{ℕ, List, bit_xor}
use Rattle.octets.specs.Words.{◌⊞◌, rotr}
use Rattle.octets.specs.Quarters.{four_at, with_four}
use Rattle.octets.specs.declared.quarters.Four.{Four}

-- two words of the block mixed into four words of the state
abbrev pub mixed_four : Four → ℕ → ℕ → Four
mixed_four v x y =
    let a = v.a ⊞ v.b ⊞ x in
    let d = rotr 16 (bit_xor v.d a) in
    let c = v.c ⊞ d in
    let b = rotr 12 (bit_xor v.b c) in
    let a' = a ⊞ b ⊞ y in
    let d' = rotr 8 (bit_xor d a') in
    let c' = c ⊞ d' in
    let b' = rotr 7 (bit_xor b c') in
    record { a = a'; b = b'; c = c'; d = d' }

-- the same for the words of the state at these places
unfoldable pub mixed_at : List ℕ → ℕ → ℕ → ℕ → ℕ → ℕ → ℕ → List ℕ
mixed_at v a b c d x y = with_four v a b c d (mixed_four (four_at v a b c d) x y)
