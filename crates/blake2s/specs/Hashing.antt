-- The hash of a whole message: RFC 7693, section 3.3, with a result of 32 bytes.
use Rattle.std.specs.Prelude.{ℕ, zero, suc, ◌+◌, ◌-◌, ◌*◌, ◌/◌, ◌%◌, ◌^◌, true, false, cond, List, [], ◌∷◌, ◌++◌, length, drop, ◌==◌, bit_xor, slice_index}
use Rattle.octets.specs.Laying.{filled}
use Rattle.octets.specs.Words.{bytes_of_words}
use Rattle.octets.specs.declared.order.ByteOrder.TheVariants.{LowFirst}
use Rattle.blake2s.specs.Compression.{compressed}
use Rattle.blake2s.specs.Tables.{start_words}

-- the first words of a hash with a key of this length and a result of 32 bytes
abbrev pub started : ℕ → List ℕ
started key_length = bit_xor (bit_xor (bit_xor (slice_index start_words 0) 0x01010000) (key_length * 256)) 32 ∷ drop 1 start_words

-- block number n of the data, the last one filled up with zeros
abbrev pub block_of : ℕ → List ℕ → List ℕ
block_of n bytes = filled 64 (drop (64 * n) bytes)

-- how many blocks come before the last one; empty data are one block of zeros
abbrev pub leading : List ℕ → ℕ
leading bytes = (length bytes - 1) / 64

-- the words after the first n blocks, none of them the last; the counter is of 64 bits, and stood at `before` at the start
unfoldable pub absorbed : ℕ → ℕ → List ℕ → List ℕ → List ℕ
absorbed zero before bytes h = h
absorbed (suc n) before bytes h = compressed (absorbed n before bytes h) (block_of n bytes) ((before + (64 * n + 64)) % 2 ^ 64) false

-- the words after the last block
abbrev pub hashed_from : ℕ → List ℕ → List ℕ → List ℕ
hashed_from before h bytes =
    compressed (absorbed (leading bytes) before bytes h) (block_of (leading bytes) bytes) ((before + length bytes) % 2 ^ 64) true

-- a key goes before the message, filled up to a block; no key takes no block
abbrev pub key_block : List ℕ → List ℕ
key_block key = cond (length key == 0) [] (filled 64 key)

-- the hash of a message, under a key of at most 32 bytes
abbrev pub blake2s : List ℕ → List ℕ → List ℕ
blake2s key message = bytes_of_words LowFirst (hashed_from 0 (started (length key)) (key_block key ++ message))
