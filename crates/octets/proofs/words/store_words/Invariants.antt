use Rattle.std.proofs.Common.{◌≡◌, ◌*◌, length, take}
use Rattle.octets.specs.Words.{bytes_of_words}
use Rattle.octets.proofs.words.store_words.Given as goal

abbrev pub invariant-loop-i : goal.invariant-loop-i
invariant-loop-i g l = record { long : length l.bytes ≡ g.row.N; laid : take (4 * l.i) l.bytes ≡ bytes_of_words l.order (take l.i l.words) }
