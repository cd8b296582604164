use Rattle.std.proofs.Common.{◌+◌, ◌++◌, length, ap, ◌∙◌}
use Rattle.octets.specs.Words.{bytes_of_words}
use Rattle.octets.specs.declared.order.ByteOrder.TheVariants.{HighFirst}
use Rattle.sha256.specs.Hashing.{absorbed_all, padding}
use Rattle.sha256.specs.Tables.{start_words}
use Rattle.sha256.proofs.LastBlocks.{padded_after}
use Rattle.sha256.proofs.hash.Sha256BlockHash.digest_after.Goals as goal

pub returns : goal.returns
returns c =
    let m = c.args.message.now in
    c.store.ensures
    ∙ ap (bytes_of_words HighFirst)
    (c.finish-words.ensures
    ∙ ap (absorbed_all (m ++ padding (64 + length m))) c.compress.ensures
    ∙ padded_after start_words c.args.block.now m c.told-block)
