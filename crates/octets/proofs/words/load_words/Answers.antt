use Rattle.std.proofs.Common.{◌*◌, sym, ◌∙◌, rules}
use Rattle.octets.specs.Words.{word_at}
use Rattle.octets.proofs.Made.{made}
use Rattle.octets.proofs.Stored.{words_of_range}
use Rattle.octets.proofs.words.load_words.Goals as goal

pub returns : goal.returns
returns g c =
    made _ (λ i. word_at c.args.order c.args.bytes.now (4 * i)) c.from_fn.ensures.items (λ i y q call. search rules)
    ∙ sym (words_of_range c.args.order g.row.N c.args.bytes.now)
