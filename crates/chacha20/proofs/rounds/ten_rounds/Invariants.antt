use Rattle.std.proofs.Common.{◌≡◌}
use Rattle.chacha20.specs.Rounds.{double_rounds}
use Rattle.chacha20.proofs.rounds.ten_rounds.Given as goal

abbrev pub invariant-loop : goal.invariant-loop
invariant-loop l = l.s ≡ double_rounds l.counter l.initial.s
