use Rattle.std.proofs.Common.{◌≡◌, ◌+◌, length, take}
use Rattle.sha256.specs.Compression.{scheduled}
use Rattle.sha256.proofs.schedule.schedule.Given as goal

abbrev pub invariant-loop-i : goal.invariant-loop-i
invariant-loop-i l = (length l.words ≡ 64) × (take (l.i + 16) l.words ≡ scheduled l.i l.block)
