use Rattle.std.proofs.Common.{length, set, refl, ap, ◌∙◌}
use Rattle.octets.proofs.Filled.{set_filled}
use Rattle.sha256.proofs.padding.mark_end.Goals as goal

pub returns : goal.returns
returns c =
    let rest = c.args.rest.now in
    ap (λ xs. set xs (length rest) 0x80) c.block_at-block.ensures ∙ set_filled 64 rest (length rest) 0x80 refl c.requires
