use Rattle.std.proofs.Common.{ℕ, ◌+◌, ◌*◌, ◌/◌, ◌%◌, ◌^◌, ◌++◌, length, drop, sym, ap, ◌∙◌}
use Rattle.std.specs.List.{fold}
use Rattle.sha256.specs.Compression.{compressed}
use Rattle.sha256.specs.Hashing.{absorbed, absorbed_all, padding}
use Rattle.sha256.proofs.Blocks.{absorbed_rest}
use Rattle.sha256.proofs.LastBlocks.{padding_wrapped}
use Rattle.sha256.proofs.hash.finish.Goals as goal

pub returns : goal.returns
unfolding absorbed
returns c =
    let m = c.args.message.now in
    let h = c.args.h in
    let total : ℕ = c.args.before + length m in
    let p = padding (total % 2 ^ 64) in
    c.absorb_end.ensures
    ∙ ap (λ xs. absorbed_all (xs ++ p) c.absorb.result) c.as_chunks.ensures.back
    ∙ ap (absorbed_all (drop (length m / 64 * 64) m ++ p)) (c.absorb.ensures ∙ ap (fold compressed h) c.as_chunks.ensures.front)
    ∙ sym (absorbed_rest m p h)
    ∙ ap (λ q. absorbed_all (m ++ q) h) (padding_wrapped total)
