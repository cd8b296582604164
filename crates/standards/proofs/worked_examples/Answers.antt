use mathlib.Core.Path.{refl}
use Rattle.octets.specs.Words.{words_of}
use Rattle.blake2s.specs.Compression.{compressed as blake2s-compressed, mixed_rounds}
use Rattle.blake2s.specs.Hashing.{absorbed as blake2s-absorbed}
use Rattle.blake2s.specs.Mixing.{mixed_at}
use Rattle.chacha20.specs.Block.{mixed_words}
use Rattle.chacha20.specs.Rounds.{double_rounds, quarter_at}
use Rattle.sha256.specs.Compression.{round, scheduled}
use Rattle.sha256.specs.Hashing.{absorbed}
use Rattle.standards.proofs.worked_examples.Goals as goal

-- each by computation
pub returns-clause-proved : goal.returns-clause-proved
unfolding words_of absorbed round scheduled blake2s-absorbed blake2s-compressed mixed_rounds mixed_at mixed_words double_rounds quarter_at
returns-clause-proved c =
    record {
      hash_of_none = refl;
      hash_of_one_block = refl;
      hash_of_two_blocks = refl;
      hmac_case_1 = refl;
      blake2s_without_key = refl;
      blake2s_with_key = refl;
      quarter_round = refl;
      key_stream_block = refl;
    }
