-- The rounds, one double round at a time.
use Rattle.std.proofs.Common.{◌≡◌, ℕ, ◌+◌, List, add-one}
use Rattle.chacha20.specs.Rounds.{double_round, double_rounds}

pub rounds_more : (n : ℕ) (s : List ℕ) → double_rounds (n + 1) s ≡ double_round (double_rounds n s)
unfolding double_rounds
rounds_more n s = rw add-one
