use Rattle.std.proofs.Common.{map, get_or, ap, ◌∙◌, rules}
use lib.Bits.{bit_xor}
use Rattle.octets.proofs.Made.{images, made}
use Rattle.hmac.proofs.key_pad.Goals as goal

pub returns : goal.returns
returns c =
    made _ (λ i. bit_xor (get_or c.block_at-block.result i 0) c.args.pad) c.from_fn.ensures.items (λ i y q call. search rules)
    ∙ images (λ x. bit_xor x c.args.pad) c.block_at-block.result 64 (search rules)
    ∙ ap (map (λ x. bit_xor x c.args.pad)) c.block_at-block.ensures
