use Rattle.std.proofs.Common.{◌≡◌, take}
use Rattle.notation.specs.Hex.{spelled_bytes}
use Rattle.notation.proofs.hex.fill.Given as goal

abbrev pub invariant-loop-i : goal.invariant-loop-i
invariant-loop-i l = take l.i l.out ≡ spelled_bytes l.i l.digits
