use Rattle.std.proofs.Common.{◌≡◌, ◌+◌, ◌*◌, ◌%◌, ◌^◌}
use Rattle.blake2s.specs.Hashing.{absorbed}
use Rattle.blake2s.proofs.hash.absorb.Given as goal

abbrev pub invariant-loop-block : goal.invariant-loop-block
invariant-loop-block l = record {
  words : l.words ≡ absorbed l.block-index l.before l.message l.initial.words;
  count : l.count ≡ (l.before + 64 * l.block-index) % 2 ^ 64;
}
