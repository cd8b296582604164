-- The compression function of RFC 7693, section 3.2.
use Rattle.std.specs.Prelude.{ℕ, zero, suc, ◌+◌, ◌-◌, ◌/◌, ◌%◌, ◌^◌, Bool, cond, List, [], ◌∷◌, map, bit_xor, slice_index, slice_index_or}
use Rattle.octets.specs.Words.{words_of}
use Rattle.octets.specs.declared.order.ByteOrder.TheVariants.{LowFirst}
use Rattle.blake2s.specs.Mixing.{mixed_at}
use Rattle.blake2s.specs.Tables.{start_words, orders}

-- the words that the rounds work on: the hash so far, and the first words with the counter and the flag of the last block
abbrev pub working_state : List ℕ → ℕ → Bool → List ℕ
working_state h count last =
    slice_index h 0 ∷ slice_index h 1 ∷ slice_index h 2 ∷ slice_index h 3 ∷ slice_index h 4 ∷ slice_index h 5 ∷ slice_index h 6 ∷ slice_index h 7
    ∷ slice_index start_words 0 ∷ slice_index start_words 1 ∷ slice_index start_words 2 ∷ slice_index start_words 3
    ∷ bit_xor (slice_index start_words 4) (count % 2 ^ 32)
    ∷ bit_xor (slice_index start_words 5) (count / 2 ^ 32)
    ∷ bit_xor (slice_index start_words 6) (cond last (2 ^ 32 - 1) 0)
    ∷ slice_index start_words 7 ∷ []

-- the words of the block m in the order s
abbrev pub words_in : List ℕ → List ℕ → List ℕ
words_in m s = map (λ i. slice_index m (slice_index s i)) (0 ∷ 1 ∷ 2 ∷ 3 ∷ 4 ∷ 5 ∷ 6 ∷ 7 ∷ 8 ∷ 9 ∷ 10 ∷ 11 ∷ 12 ∷ 13 ∷ 14 ∷ 15 ∷ [])

-- the first half of a round, over the words w in its order: the columns
abbrev pub mixed_columns : List ℕ → List ℕ → List ℕ
mixed_columns v w =
    let v1 = mixed_at v 0 4 8 12 (slice_index w 0) (slice_index w 1) in
    let v2 = mixed_at v1 1 5 9 13 (slice_index w 2) (slice_index w 3) in
    let v3 = mixed_at v2 2 6 10 14 (slice_index w 4) (slice_index w 5) in
    mixed_at v3 3 7 11 15 (slice_index w 6) (slice_index w 7)

-- the second half: the diagonals
abbrev pub mixed_diagonals : List ℕ → List ℕ → List ℕ
mixed_diagonals v w =
    let v1 = mixed_at v 0 5 10 15 (slice_index w 8) (slice_index w 9) in
    let v2 = mixed_at v1 1 6 11 12 (slice_index w 10) (slice_index w 11) in
    let v3 = mixed_at v2 2 7 8 13 (slice_index w 12) (slice_index w 13) in
    mixed_at v3 3 4 9 14 (slice_index w 14) (slice_index w 15)

-- one round, over the words m in the order s
abbrev pub mixed_round : List ℕ → List ℕ → List ℕ → List ℕ
mixed_round v m s = mixed_diagonals (mixed_columns v (words_in m s)) (words_in m s)

-- the first n rounds
unfoldable pub mixed_rounds : ℕ → List ℕ → List ℕ → List ℕ
mixed_rounds zero m v = v
mixed_rounds (suc n) m v = mixed_round (mixed_rounds n m v) m (slice_index_or orders n [])

-- the hash's words after one block more
unfoldable pub compressed : List ℕ → List ℕ → ℕ → Bool → List ℕ
compressed h block count last =
    let v = mixed_rounds 10 (words_of LowFirst 16 block) (working_state h count last) in
    map (λ i. bit_xor (bit_xor (slice_index h i) (slice_index v i)) (slice_index v (i + 8))) (0 ∷ 1 ∷ 2 ∷ 3 ∷ 4 ∷ 5 ∷ 6 ∷ 7 ∷ [])
