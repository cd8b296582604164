use Rattle.std.proofs.Common.{ℕ, List, map, get_or, ap, ◌∙◌, rules}
use Rattle.octets.proofs.Made.{made}
use Rattle.octets.specs.Words.{◌⊞◌}
use Rattle.chacha20.specs.Block.{mixed_words, places}
use Rattle.chacha20.proofs.block.mixed_words.Goals as goal

pub returns : goal.returns
unfolding mixed_words
returns c =
    made _ (λ i. get_or c.twenty_rounds.new.s i 0 ⊞ get_or c.args.start i 0) c.from_fn.ensures.items (λ i y q call. search rules)
    ∙ ap (λ (s : List ℕ). map (λ i. get_or s i 0 ⊞ get_or c.args.start i 0) places) c.twenty_rounds.ensures
