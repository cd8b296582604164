-- The blocks of a message, one at a time, and a block that goes before a message.
use Rattle.std.proofs.Common.{◌≡◌, ℕ, zero, suc, ◌+◌, ◌-◌, ◌*◌, ◌%◌, ◌^◌, ◌<◌, Bool, true, false, List, ◌++◌, length, drop, replicate, sym, refl, ap, ◌∙◌, append-nil, add-one, arith}
use Rattle.std.proofs.lemmas.List.{drop_at, drop-drop, length-append, take_at}
use Rattle.octets.specs.Laying.{filled}
use Rattle.blake2s.specs.Compression.{compressed}
use Rattle.blake2s.specs.Hashing.{absorbed, block_of, hashed_from, leading}

-- one block more
pub absorbed_more : (n before : ℕ) (bytes h : List ℕ) → absorbed (n + 1) before bytes h ≡ compressed (absorbed n before bytes h) (block_of n bytes) ((before + (64 * n + 64)) % 2 ^ 64) false
unfolding absorbed
absorbed_more n before bytes h = rw add-one

-- the same words, block and count compress to the same
pub compressed_same : (h h' b b' : List ℕ) (n n' : ℕ) (last : Bool) → h ≡ h' → b ≡ b' → n ≡ n' → compressed h b n last ≡ compressed h' b' n' last
compressed_same h h' b b' n n' last e f g =
    ap (λ x. compressed x b n last) e ∙ ap (λ x. compressed h' x n last) f ∙ ap (λ x. compressed h' b' x last) g

-- the first block of what begins with a whole block is that block
first_block : (block message : List ℕ) → length block ≡ 64 → block_of 0 (block ++ message) ≡ block
first_block block message e =
    let room : 64 - length (block ++ message) ≡ 0 = omega (arith, length-append block message) in
    ap (λ xs. xs ++ replicate (64 - length (block ++ message)) 0) (take_at block message 64 e)
    ∙ ap (λ n. block ++ replicate n 0) room
    ∙ append-nil block

-- and the others are the blocks of the rest
later_block : (n : ℕ) (block message : List ℕ) → length block ≡ 64 → block_of (suc n) (block ++ message) ≡ block_of n message
later_block n block message e =
    let at : 64 * suc n ≡ 64 + 64 * n = omega arith in
    ap (filled 64)
    (ap (λ k. drop k (block ++ message)) at
    ∙ sym (drop-drop (64 * n) 64 (block ++ message))
    ∙ ap (drop (64 * n)) (drop_at block message 64 e))

-- the leading blocks of what begins with a whole block: that block, and then the leading blocks of the rest
absorbed_after : (n : ℕ) (block message h : List ℕ) → length block ≡ 64 → absorbed (suc n) 0 (block ++ message) h ≡ absorbed n 64 message (compressed h block 64 false)
unfolding absorbed
absorbed_after zero block message h e = ap (λ x. compressed h x 64 false) (first_block block message e)
absorbed_after (suc n) block message h e =
    let count : 0 + (64 * suc n + 64) ≡ 64 + (64 * n + 64) = omega arith in
    compressed_same _ _ _ _ _ _ false (absorbed_after n block message h e) (later_block n block message e) (ap (λ k. k % 2 ^ 64) count)

-- a block before a message that is not empty is taken as a block that others follow
pub hashed_after : (block message h : List ℕ) → length block ≡ 64 → 0 < length message → hashed_from 64 (compressed h block 64 false) message ≡ hashed_from 0 h (block ++ message)
hashed_after block message h e some =
    let all = length-append block message in
    let blocks : leading (block ++ message) ≡ suc (leading message) = omega (arith, all) in
    let count : 0 + length (block ++ message) ≡ 64 + length message = omega (arith, all) in
    sym
    (ap (λ n. compressed (absorbed n 0 (block ++ message) h) (block_of n (block ++ message)) ((0 + length (block ++ message)) % 2 ^ 64) true) blocks
    ∙ compressed_same _ _ _ _ _ _ true (absorbed_after (leading message) block message h e) (later_block (leading message) block message e) (ap (λ k. k % 2 ^ 64) count))

-- and before an empty one it is the last block
pub hashed_alone : (block message h : List ℕ) → length block ≡ 64 → length message ≡ 0 → compressed h block 64 true ≡ hashed_from 0 h (block ++ message)
unfolding absorbed
hashed_alone block message h e none =
    let all = length-append block message in
    let blocks : leading (block ++ message) ≡ 0 = omega (arith, all) in
    let count : 0 + length (block ++ message) ≡ 64 = omega (arith, all) in
    sym
    (ap (λ n. compressed (absorbed n 0 (block ++ message) h) (block_of n (block ++ message)) ((0 + length (block ++ message)) % 2 ^ 64) true) blocks
    ∙ compressed_same h h _ _ _ _ true refl (first_block block message e) (ap (λ k. k % 2 ^ 64) count))
