use Rattle.std.proofs.Common.{◌∙◌}
use Rattle.octets.proofs.Laid.{laid_on_zeros}
use Rattle.octets.proofs.block.filled_block.Goals as goal

pub returns : goal.returns
returns c = c.lay.ensures ∙ laid_on_zeros 64 c.args.bytes.now
