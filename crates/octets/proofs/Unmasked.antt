-- The mask, byte by byte, and taken off again.
use Rattle.std.proofs.Common.{◌≡◌, ℕ, zero, suc, ◌<◌, ◌≤◌, List, [], ◌∷◌, map, length, get_or, refl, ap, ◌∙◌, arith}
use Rattle.std.specs.List.{range_with_len}
use Rattle.std.proofs.lemmas.List.FromFn.{fill_by_all}
use lib.Bits.{bit_xor, xor_assoc, xor_self, xor_zero_r}
use Rattle.octets.specs.Masks.{masked}

pub length-masked : (xs ms : List ℕ) → length xs ≤ length ms → length (masked xs ms) ≡ length xs
unfolding masked
length-masked [] ms h = refl
length-masked (x ∷ xs) [] h = absurd (omega arith)
length-masked (x ∷ xs) (m ∷ ms) h = ap suc (length-masked xs ms (omega arith))

get_or-masked : (xs ms : List ℕ) (i : ℕ) → length xs ≤ length ms → i < length xs → get_or (masked xs ms) i 0 ≡ bit_xor (get_or xs i 0) (get_or ms i 0)
unfolding masked
get_or-masked [] ms i h k = absurd (omega arith)
get_or-masked (x ∷ xs) [] i h k = absurd (omega arith)
get_or-masked (x ∷ xs) (m ∷ ms) zero h k = refl
get_or-masked (x ∷ xs) (m ∷ ms) (suc i) h k = get_or-masked xs ms i (omega arith) (omega arith)

-- made one by one
pub masked_range : (xs ms : List ℕ) (n : ℕ) → length xs ≡ n → length ms ≡ n → masked xs ms ≡ map (λ i. bit_xor (get_or xs i 0) (get_or ms i 0)) (range_with_len 0 n)
masked_range xs ms n h k =
    fill_by_all _ (masked xs ms) n 0 (length-masked xs ms (omega arith) ∙ h) (λ i l. get_or-masked xs ms i (omega arith) (omega arith))

-- the same mask twice is none
pub masked_twice : (xs ms : List ℕ) → length xs ≤ length ms → masked (masked xs ms) ms ≡ xs
unfolding masked
masked_twice [] ms h = refl
masked_twice (x ∷ xs) [] h = absurd (omega arith)
masked_twice (x ∷ xs) (m ∷ ms) h =
    ap (λ z. z ∷ masked (masked xs ms) ms) (xor_assoc x m m ∙ ap (bit_xor x) (xor_self m) ∙ xor_zero_r x)
    ∙ ap (λ zs. x ∷ zs) (masked_twice xs ms (omega arith))
