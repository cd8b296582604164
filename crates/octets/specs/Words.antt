-- Bytes as 32-bit words and back, and the operations on words.
use Rattle.std.specs.Prelude.{ℕ, zero, suc, ◌+◌, ◌-◌, ◌*◌, ◌/◌, ◌%◌, ◌^◌, List, [], ◌∷◌, ◌++◌, bit_or, slice_index}
use Rattle.octets.specs.Order.{word_of, bytes_of}
use Rattle.octets.specs.declared.order.ByteOrder.{ByteOrder}
use Rattle.std.specs.List.{flat_map}

-- the word that begins at this byte
abbrev pub word_at : ByteOrder → List ℕ → ℕ → ℕ
word_at order bytes i = word_of order (slice_index bytes i) (slice_index bytes (i + 1)) (slice_index bytes (i + 2)) (slice_index bytes (i + 3))

-- the first n words of these bytes
unfoldable pub words_of : ByteOrder → ℕ → List ℕ → List ℕ
words_of order zero bytes = []
words_of order (suc n) bytes = words_of order n bytes ++ word_at order bytes (4 * n) ∷ []

-- the bytes of these words, one word after the other
abbrev pub bytes_of_words : ByteOrder → List ℕ → List ℕ
bytes_of_words order words = flat_map (bytes_of order) words

-- the sum of two words
infixl 6 ◌⊞◌
abbrev pub ◌⊞◌ : ℕ → ℕ → ℕ
x ⊞ y = (x + y) % 2 ^ 32

-- a word turned by k bits: to the right, to the left
abbrev pub rotr : ℕ → ℕ → ℕ
rotr k x = bit_or (x / 2 ^ (k % 32)) ((x * 2 ^ ((32 - k % 32) % 32)) % 2 ^ 32)

abbrev pub rotl : ℕ → ℕ → ℕ
rotl k x = bit_or ((x * 2 ^ (k % 32)) % 2 ^ 32) (x / 2 ^ ((32 - k % 32) % 32))
