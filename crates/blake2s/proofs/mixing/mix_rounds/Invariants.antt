use Rattle.std.proofs.Common.{◌≡◌}
use Rattle.blake2s.specs.Compression.{mixed_rounds}
use Rattle.blake2s.proofs.mixing.mix_rounds.Given as goal

abbrev pub invariant-loop-order : goal.invariant-loop-order
invariant-loop-order l = l.v ≡ mixed_rounds l.order-index l.m l.initial.v
