use Rattle.std.proofs.Common.{get_or, rules}
use Rattle.octets.proofs.Made.{made}
use Rattle.blake2s.proofs.mixing.in_order.Goals as goal

pub returns : goal.returns
returns c =
    made _ (λ i. get_or c.args.m.now (get_or c.args.order.now i 0) 0) c.from_fn.ensures.items (λ i y q call. search rules)
