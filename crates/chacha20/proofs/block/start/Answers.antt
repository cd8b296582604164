use Rattle.octets.specs.Words.{words_of}
use Rattle.chacha20.proofs.block.start.Goals as goal

pub returns : goal.returns
unfolding words_of
returns c =
    rw (
      c.copy_from_slice.ensures.after,
      c.copy_from_slice-2.ensures.after,
      c.load_words.ensures,
      c.copy_from_slice-3.ensures.after,
      c.load_words-2.ensures,
    )
