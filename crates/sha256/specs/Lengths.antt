-- How long the results are, which the law of the code cites.
use Rattle.std.specs.Prelude.{◌≡◌, ℕ, ◌*◌, ◌/◌, List, [], ◌∷◌, ◌++◌, length, refl}
use Rattle.std.proofs.Common.{ap, ◌∙◌}
use Rattle.std.specs.List.{fold}
use Rattle.std.specs.Simd.{first_chunks}
use Rattle.octets.specs.declared.order.ByteOrder.TheVariants.{HighFirst}
use Rattle.octets.proofs.Stored.{length-bytes}
use Rattle.sha256.specs.Compression.{compressed}
use Rattle.sha256.specs.Hashing.{absorbed, absorbed_all, padding, sha256}
use Rattle.sha256.specs.Tables.{start_words}

length-folded : (blocks : List (List ℕ)) (h : List ℕ) → length h ≡ 8 → length (fold compressed h blocks) ≡ 8
length-folded [] h e = e
length-folded (block ∷ blocks) h e = length-folded blocks (compressed h block) refl

pub length-absorbed : (n : ℕ) (bytes h : List ℕ) → length h ≡ 8 → length (absorbed n bytes h) ≡ 8
unfolding absorbed
length-absorbed n bytes h = length-folded (first_chunks 64 n bytes) h

pub length-sha256 : (message : List ℕ) → length (sha256 message) ≡ 32
length-sha256 message =
    let padded : List ℕ = message ++ padding (length message) in
    length-bytes HighFirst (absorbed_all padded start_words)
    ∙ ap (λ n. 4 * n) (length-absorbed (length padded / 64) padded start_words refl)
