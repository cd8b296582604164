-- The ChaCha20 block function: RFC 8439, section 2.3.
use Rattle.std.specs.Prelude.{ℕ, List, [], ◌∷◌, map, slice_index}
use Rattle.octets.specs.Words.{bytes_of_words, word_at, ◌⊞◌}
use Rattle.octets.specs.declared.order.ByteOrder.TheVariants.{LowFirst}
use Rattle.chacha20.specs.Rounds.{double_rounds}

-- the state that the rounds start from: four constants, eight words of key, the counter, three words of nonce
abbrev pub start_words : List ℕ → ℕ → List ℕ → List ℕ
start_words key counter nonce =
    0x61707865 ∷ 0x3320646e ∷ 0x79622d32 ∷ 0x6b206574
    ∷ word_at LowFirst key 0 ∷ word_at LowFirst key 4 ∷ word_at LowFirst key 8 ∷ word_at LowFirst key 12
    ∷ word_at LowFirst key 16 ∷ word_at LowFirst key 20 ∷ word_at LowFirst key 24 ∷ word_at LowFirst key 28
    ∷ counter ∷ word_at LowFirst nonce 0 ∷ word_at LowFirst nonce 4 ∷ word_at LowFirst nonce 8 ∷ []

-- the places of the sixteen words
abbrev pub places : List ℕ
places = 0 ∷ 1 ∷ 2 ∷ 3 ∷ 4 ∷ 5 ∷ 6 ∷ 7 ∷ 8 ∷ 9 ∷ 10 ∷ 11 ∷ 12 ∷ 13 ∷ 14 ∷ 15 ∷ []

-- the words of the key stream: ten double rounds, and each word of the start added
unfoldable pub mixed_words : List ℕ → List ℕ
mixed_words start = map (λ i. slice_index (double_rounds 10 start) i ⊞ slice_index start i) places

-- the 64 bytes of key stream
abbrev pub chacha20 : List ℕ → ℕ → List ℕ → List ℕ
chacha20 key counter nonce = bytes_of_words LowFirst (mixed_words (start_words key counter nonce))
