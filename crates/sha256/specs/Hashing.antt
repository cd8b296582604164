-- The hash of a whole message: FIPS 180-4, section 5.1.1 (padding) and section 6.2.
use Rattle.std.specs.Prelude.{ℕ, ◌-◌, ◌*◌, ◌/◌, ◌%◌, ◌^◌, List, [], ◌∷◌, ◌++◌, length, replicate}
use Rattle.std.specs.List.{fold}
use Rattle.std.specs.Simd.{first_chunks}
use Rattle.octets.specs.Words.{bytes_of_words}
use Rattle.octets.specs.declared.order.ByteOrder.TheVariants.{HighFirst}
use Rattle.sha256.specs.Compression.{compressed}
use Rattle.sha256.specs.Tables.{start_words}

-- the length in bits, as a number of 64 bits, high byte first
abbrev pub length_bytes : ℕ → List ℕ
length_bytes count =
    let bits = (count * 8) % 2 ^ 64 in
    (bits / 2 ^ 56 % 256) ∷ (bits / 2 ^ 48 % 256) ∷ (bits / 2 ^ 40 % 256) ∷ (bits / 2 ^ 32 % 256)
    ∷ (bits / 2 ^ 24 % 256) ∷ (bits / 2 ^ 16 % 256) ∷ (bits / 2 ^ 8 % 256) ∷ (bits % 256) ∷ []

-- what follows a message of this many bytes: a bit that is set, as few zeros as fill up its last block, and its length
abbrev pub padding : ℕ → List ℕ
padding count = 0x80 ∷ (replicate ((119 - count % 64) % 64) 0 ++ length_bytes count)

-- the words after the first n blocks
unfoldable pub absorbed : ℕ → List ℕ → List ℕ → List ℕ
absorbed n bytes h = fold compressed h (first_chunks 64 n bytes)

-- the words after all blocks
abbrev pub absorbed_all : List ℕ → List ℕ → List ℕ
absorbed_all bytes h = absorbed (length bytes / 64) bytes h

abbrev pub sha256 : List ℕ → List ℕ
sha256 message = bytes_of_words HighFirst (absorbed_all (message ++ padding (length message)) start_words)
