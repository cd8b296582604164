use Rattle.std.proofs.Common.{◌++◌, take, replicate, sym, ap, ◌∙◌}
use Rattle.sha256.specs.Compression.{compressed}
use Rattle.sha256.specs.Hashing.{length_bytes}
use Rattle.sha256.proofs.LastBlocks.{ended_long, ended_short}
use Rattle.sha256.proofs.hash.absorb_end.Goals as goal

pub returns-then-rest-lt56 : goal.returns-then-rest-lt56
returns-then-rest-lt56 c =
    c.compress.ensures
    ∙ ap (compressed c.args.h) (c.with_length.ensures ∙ ap (λ xs. take 56 xs ++ length_bytes c.args.count) c.mark_end-last.ensures)
    ∙ sym (ended_short c.args.h c.args.rest.now c.args.count c.requires c.if-rest-lt56.true)

pub returns : goal.returns
returns c =
    c.compress-3.ensures
    ∙ ap (compressed c.compress-2.result) c.with_length-2.ensures
    ∙ ap (λ s. compressed s (replicate 56 0 ++ length_bytes c.args.count)) (c.compress-2.ensures ∙ ap (compressed c.args.h) c.mark_end-last.ensures)
    ∙ sym (ended_long c.args.h c.args.rest.now c.args.count c.requires c.if-rest-lt56.false)
