-- Two lists are the same where no exclusive or of their bytes leaves anything.
use Rattle.std.proofs.Common.{◌≡◌, ℕ, List, [], ◌∷◌, length, refl, ap, ◌∙◌, subst, arith}
use Rattle.std.specs.List.{fold, zip}
use lib.Bits.{bit_or, bit_xor, and_le_l, and_le_r, or_add_and, xor_add_and, xor_self, or_zero_r}
use Rattle.mac.specs.Differing.{Tells}

zeros_of_or : (a b : ℕ) → bit_or a b ≡ 0 → (a ≡ 0) × (b ≡ 0)
zeros_of_or a b e =
    let s = or_add_and a b in
    let l = and_le_l a b in
    let r = and_le_r a b in
    (omega arith, omega arith)

same_of_xor : (a b : ℕ) → bit_xor a b ≡ 0 → a ≡ b
same_of_xor a b e =
    let s = xor_add_and a b in
    let l = and_le_l a b in
    let r = and_le_r a b in
    omega arith

-- the bits of before, and those in which two bytes differ
abbrev pub more_bits : ℕ → ℕ × ℕ → ℕ
more_bits bits pair = bit_or bits (bit_xor pair.0 pair.1)

same_where_none : (bits : ℕ) (xs ys : List ℕ) → length xs ≡ length ys → fold more_bits bits (zip xs ys) ≡ 0 → (bits ≡ 0) × (xs ≡ ys)
same_where_none bits [] [] l e = (e, refl)
same_where_none bits [] (y ∷ ys) l e = absurd (omega arith)
same_where_none bits (x ∷ xs) [] l e = absurd (omega arith)
same_where_none bits (x ∷ xs) (y ∷ ys) l e =
    let rest = same_where_none (bit_or bits (bit_xor x y)) xs ys (omega arith) e in
    let here = zeros_of_or bits (bit_xor x y) rest.0 in
    (here.0, ap (λ z. z ∷ xs) (same_of_xor x y here.1) ∙ ap (λ zs. y ∷ zs) rest.1)

none_where_same : (bits : ℕ) (xs : List ℕ) → fold more_bits bits (zip xs xs) ≡ bits
none_where_same bits [] = refl
none_where_same bits (x ∷ xs) =
    none_where_same (bit_or bits (bit_xor x x)) xs ∙ ap (bit_or bits) (xor_self x) ∙ or_zero_r bits

pub fold_tells : (xs ys : List ℕ) → length xs ≡ length ys → Tells (fold more_bits 0 (zip xs ys)) xs ys
fold_tells xs ys l =
    (λ e. (same_where_none 0 xs ys l e).1, λ e. subst (λ zs. fold more_bits 0 (zip xs zs) ≡ 0) e (none_where_same 0 xs))
