-- The last blocks of a message: what is left of it, the bit that follows, zeros, and the length.
use Rattle.std.proofs.Common.{◌≡◌, ℕ, suc, ◌+◌, ◌-◌, ◌*◌, ◌/◌, ◌%◌, ◌^◌, ◌<◌, ◌≤◌, List, [], ◌∷◌, ◌++◌, length, take, replicate, sym, ap, ◌∙◌, append_assoc, arith}
use Rattle.std.proofs.lemmas.List.{length-append, length-replicate, replicate-append-replicate, take_all}
use Rattle.octets.specs.Laying.{filled}
use Rattle.octets.proofs.Filled.{filled_few, length-filled, take-filled}
use Rattle.sha256.specs.Compression.{compressed}
use Rattle.sha256.specs.Hashing.{absorbed, absorbed_all, length_bytes, padding}
use Rattle.sha256.proofs.Blocks.{absorbed_after}

-- the length is counted in 64 bits
pub padding_wrapped : (count : ℕ) → padding (count % 2 ^ 64) ≡ padding count
padding_wrapped count =
    let left : count % 2 ^ 64 % 64 ≡ count % 64 = omega arith in
    let bits : (count % 2 ^ 64 * 8) % 2 ^ 64 ≡ (count * 8) % 2 ^ 64 = omega arith in
    ap (λ n. 0x80 ∷ (replicate ((119 - n) % 64) 0 ++ length_bytes (count % 2 ^ 64))) left
    ∙ ap
    (λ n.
    0x80
    ∷ (replicate ((119 - count % 64) % 64) 0
    ++ ((n / 2 ^ 56 % 256) ∷ (n / 2 ^ 48 % 256) ∷ (n / 2 ^ 40 % 256) ∷ (n / 2 ^ 32 % 256)
    ∷ (n / 2 ^ 24 % 256) ∷ (n / 2 ^ 16 % 256) ∷ (n / 2 ^ 8 % 256) ∷ (n % 256) ∷ [])))
    bits

-- what is left of a message, with its end marked
abbrev marked : List ℕ → List ℕ
marked rest = rest ++ 0x80 ∷ []

length_marked : (rest : List ℕ) → length (marked rest) ≡ length rest + 1
length_marked rest = length-append rest (0x80 ∷ [])

-- what is left and the padding, where both fit one block
one_block : (rest : List ℕ) (count : ℕ) → count % 64 ≡ length rest → length rest < 56 → rest ++ padding count ≡ take 56 (filled 64 (marked rest)) ++ length_bytes count
one_block rest count e h =
    let long = length_marked rest in
    let zeros : (119 - count % 64) % 64 ≡ 56 - length (marked rest) = omega arith in
    ap (λ k. rest ++ (0x80 ∷ (replicate k 0 ++ length_bytes count))) zeros
    ∙ sym (append_assoc rest (0x80 ∷ []) (replicate (56 - length (marked rest)) 0 ++ length_bytes count))
    ∙ sym (append_assoc (marked rest) (replicate (56 - length (marked rest)) 0) (length_bytes count))
    ∙ ap (λ xs. xs ++ length_bytes count) (sym (take-filled 56 64 (marked rest) (omega arith) (omega arith) ∙ filled_few 56 (marked rest) (omega arith)))

-- and where they take two
two_blocks : (rest : List ℕ) (count : ℕ) → count % 64 ≡ length rest → 56 ≤ length rest → length rest < 64 → rest ++ padding count ≡ filled 64 (marked rest) ++ (replicate 56 0 ++ length_bytes count)
two_blocks rest count e h k =
    let long = length_marked rest in
    let zeros : (119 - count % 64) % 64 ≡ (64 - length (marked rest)) + 56 = omega arith in
    let some : List ℕ = replicate (64 - length (marked rest)) 0 in
    ap (λ n. rest ++ (0x80 ∷ (replicate n 0 ++ length_bytes count))) zeros
    ∙ ap (λ xs. rest ++ (0x80 ∷ (xs ++ length_bytes count))) (sym (replicate-append-replicate {A = ℕ} (64 - length (marked rest)) 56 0))
    ∙ sym (append_assoc rest (0x80 ∷ []) ((some ++ replicate 56 0) ++ length_bytes count))
    ∙ ap (λ xs. marked rest ++ xs) (append_assoc some (replicate 56 0) (length_bytes count))
    ∙ sym (append_assoc (marked rest) some (replicate 56 0 ++ length_bytes count))
    ∙ ap (λ xs. xs ++ (replicate 56 0 ++ length_bytes count)) (sym (filled_few 64 (marked rest) (omega arith)))

length-padding : (count : ℕ) → length (padding count) ≡ 9 + (119 - count % 64) % 64
length-padding count =
    let zeros = length-replicate {A = ℕ} ((119 - count % 64) % 64) 0 in
    let both = length-append (replicate ((119 - count % 64) % 64) 0) (length_bytes count) in
    omega arith

-- a block alone
absorbed_one : (a h : List ℕ) → length a ≡ 64 → absorbed 1 a h ≡ compressed h a
unfolding absorbed
absorbed_one a h e = ap (compressed h) (take_all 64 a (omega arith))

-- the end of a message, where it fits one block
pub ended_short : (h rest : List ℕ) (count : ℕ) → count % 64 ≡ length rest → length rest < 56 → absorbed_all (rest ++ padding count) h ≡ compressed h (take 56 (filled 64 (marked rest)) ++ length_bytes count)
ended_short h rest count e lt =
    let pad = length-padding count in
    let end = length-append rest (padding count) in
    let blocks : length (rest ++ padding count) / 64 ≡ 1 = omega arith in
    ap (λ k. absorbed k (rest ++ padding count) h) blocks
    ∙ absorbed_one (rest ++ padding count) h (omega arith)
    ∙ ap (compressed h) (one_block rest count e lt)

-- and where it takes two
pub ended_long : (h rest : List ℕ) (count : ℕ) → count % 64 ≡ length rest → 56 ≤ length rest → absorbed_all (rest ++ padding count) h ≡ compressed (compressed h (filled 64 (marked rest))) (replicate 56 0 ++ length_bytes count)
ended_long h rest count e le =
    let pad = length-padding count in
    let end = length-append rest (padding count) in
    let mark = length_marked rest in
    let blocks : length (rest ++ padding count) / 64 ≡ 2 = omega arith in
    let first : List ℕ = filled 64 (marked rest) in
    let last : List ℕ = replicate 56 0 ++ length_bytes count in
    ap (λ k. absorbed k (rest ++ padding count) h) blocks
    ∙ ap (λ xs. absorbed 2 xs h) (two_blocks rest count e le (omega arith))
    ∙ absorbed_after 1 first last h (length-filled 64 (marked rest) (omega arith))
    ∙ absorbed_one last (compressed h first) (length-append (replicate {A = ℕ} 56 0) (length_bytes count))

-- a block in front of a message is taken first, and counted
pub padded_after : (h a m : List ℕ) → length a ≡ 64 → absorbed_all (m ++ padding (64 + length m)) (compressed h a) ≡ absorbed_all ((a ++ m) ++ padding (length (a ++ m))) h
padded_after h a m e =
    let both = length-append a m in
    let count : length (a ++ m) ≡ 64 + length m = omega arith in
    let p : List ℕ = m ++ padding (64 + length m) in
    let all = length-append a p in
    let blocks : length (a ++ p) / 64 ≡ suc (length p / 64) = omega arith in
    sym
    (ap (λ n. absorbed_all ((a ++ m) ++ padding n) h) count
    ∙ ap (λ xs. absorbed_all xs h) (append_assoc a m (padding (64 + length m)))
    ∙ ap (λ n. absorbed n (a ++ p) h) blocks
    ∙ absorbed_after (length p / 64) a p h e)
