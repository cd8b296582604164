use Rattle.std.proofs.Common.{get_or, sym, ◌∙◌, rules}
use lib.Bits.{bit_xor}
use Rattle.octets.proofs.Made.{made}
use Rattle.octets.proofs.Unmasked.{masked_range}
use Rattle.octets.proofs.mask.xor.Goals as goal

pub returns : goal.returns
returns c =
    made _ (λ i. bit_xor (get_or c.args.bytes.now i 0) (get_or c.args.mask.now i 0)) c.from_fn.ensures.items (λ i y q call. search rules)
    ∙ sym (masked_range c.args.bytes.now c.args.mask.now 32 c.told-bytes c.told-mask)
