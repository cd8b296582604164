-- What the laws of the ciphers cite: 32 bytes under a mask of 32 bytes.
use Rattle.std.specs.Prelude.{◌≡◌, ℕ, ◌≤◌, List, length, replicate}
use Rattle.std.proofs.Common.{lit≤, sym, subst, ◌∙◌}
use Rattle.std.proofs.Math.Nat.{le_of_eq}
use Rattle.std.proofs.lemmas.List.{length-take-le}
use Rattle.octets.specs.Masks.{masked}
use Rattle.octets.proofs.Unmasked.{length-masked, masked_twice}
use Rattle.chacha20.specs.Block.{chacha20}
use Rattle.chacha20.proofs.Length.{length-chacha20}
use Rattle.cipher.specs.Streams.{chacha_stream}

-- the same mask again takes it off
pub mask_back : (plain mask : List ℕ) → length plain ≡ 32 → length mask ≡ 32 → masked (masked plain mask) mask ≡ plain
mask_back plain mask p m = masked_twice plain mask (le_of_eq (p ∙ sym m))

pub mask_sized : (plain mask : List ℕ) → length plain ≡ 32 → length mask ≡ 32 → length (masked plain mask) ≡ 32
mask_sized plain mask p m = length-masked plain mask (le_of_eq (p ∙ sym m)) ∙ p

pub chacha_sized : (key : List ℕ) → length (chacha_stream key) ≡ 32
chacha_sized key =
    let block : List ℕ = chacha20 key 0 (replicate 12 0) in
    let enough : 32 ≤ 64 = lit≤ tt in
    length-take-le 32 block (subst (λ (n : ℕ). 32 ≤ n) (sym (length-chacha20 key 0 (replicate 12 0))) enough)
