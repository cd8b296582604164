-- The rounds, one at a time.
use Rattle.std.proofs.Common.{◌≡◌, ℕ, ◌+◌, List, [], get_or, add-one}
use Rattle.blake2s.specs.Compression.{mixed_round, mixed_rounds}
use Rattle.blake2s.specs.Tables.{orders}

-- one round more
pub rounds_more : (n : ℕ) (m v : List ℕ) → mixed_rounds (n + 1) m v ≡ mixed_round (mixed_rounds n m v) m (get_or orders n [])
unfolding mixed_rounds
rounds_more n m v = rw add-one
