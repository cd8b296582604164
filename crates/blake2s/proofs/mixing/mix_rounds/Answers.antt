use Rattle.std.proofs.Common.{refl}
use Rattle.blake2s.specs.Compression.{mixed_rounds}
use Rattle.blake2s.specs.declared.tables.TheConstants.{ORDERS}
use Rattle.blake2s.proofs.Places.{row_below}
use Rattle.blake2s.proofs.Rounds.{rounds_more}
use Rattle.blake2s.proofs.mixing.mix_rounds.Goals as goal

pub loop-order-init : goal.loop-order-init
unfolding mixed_rounds
loop-order-init c = refl

pub in_order-words-requires : goal.in_order-words-requires
in_order-words-requires c = λ i. row_below ORDERS c.loop-order.order-index i refl

pub loop-order-preserved : goal.loop-order-preserved
loop-order-preserved c = let e = rounds_more c.loop-order.order-index c.args.m.now c.args.v.now in cc
