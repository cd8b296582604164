use Rattle.std.proofs.Common.{◌++◌, length, ap, ◌∙◌, zero-add}
use Rattle.octets.specs.Words.{bytes_of_words}
use Rattle.octets.specs.declared.order.ByteOrder.TheVariants.{HighFirst}
use Rattle.sha256.specs.Hashing.{absorbed_all, padding}
use Rattle.sha256.specs.Tables.{start_words}
use Rattle.sha256.proofs.hash.digest.Goals as goal

pub returns : goal.returns
returns c =
    let m = c.args.message.now in
    c.store.ensures
    ∙ ap (bytes_of_words HighFirst) (c.finish.ensures ∙ ap (λ n. absorbed_all (m ++ padding n) start_words) (zero-add (length m)))
