-- The 32 bytes that a cipher's text is masked with.
use Rattle.std.specs.Prelude.{ℕ, List, [], ◌∷◌, take, replicate}
use Rattle.chacha20.specs.Block.{chacha20}

-- the first 32 bytes of the ChaCha20 block with counter 0 and a nonce of zeros
abbrev pub chacha_stream : List ℕ → List ℕ
chacha_stream key = take 32 (chacha20 key 0 (replicate 12 0))

-- the tag of the one-byte message 07
abbrev pub tag_stream : (List ℕ → List ℕ → List ℕ) → List ℕ → List ℕ
tag_stream tagof key = tagof key (7 ∷ [])
