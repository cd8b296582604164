-- HMAC: RFC 2104, section 2, for hashes with blocks of 64 bytes and keys of at most 64 bytes.
use Rattle.std.specs.Prelude.{ℕ, List, ◌++◌, map, bit_xor}
use Rattle.octets.specs.Laying.{filled}

-- the key filled up to a block with zeros, exclusive-or this byte at every place
abbrev pub key_pad : List ℕ → ℕ → List ℕ
key_pad key pad = map (λ x. bit_xor x pad) (filled 64 key)

abbrev pub hmac_of : (List ℕ → List ℕ) → List ℕ → List ℕ → List ℕ
hmac_of digest key message = digest (key_pad key 0x5c ++ digest (key_pad key 0x36 ++ message))
