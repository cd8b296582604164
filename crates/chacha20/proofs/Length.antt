-- How long the key stream is.
use Rattle.std.proofs.Common.{◌≡◌, ℕ, List, length, refl}
use Rattle.chacha20.specs.Block.{chacha20, mixed_words}

pub length-chacha20 : (key : List ℕ) (counter : ℕ) (nonce : List ℕ) → length (chacha20 key counter nonce) ≡ 64
unfolding mixed_words
length-chacha20 key counter nonce = refl
