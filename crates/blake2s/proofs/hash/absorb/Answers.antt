use Rattle.std.proofs.Common.{◌≡◌, ℕ, ◌+◌, ◌*◌, ◌%◌, ◌^◌, ◌<◌, false, List, get_or, sym, refl, ap, ◌∙◌, arith}
use Rattle.std.proofs.lemmas.List.{get_or-take, length-take-le}
use Rattle.octets.proofs.Chunks.{whole_block}
use Rattle.blake2s.specs.Hashing.{absorbed}
use Rattle.blake2s.proofs.Blocks.{absorbed_more, compressed_same}
use Rattle.blake2s.proofs.hash.absorb.Goals as goal

pub loop-block-init : goal.loop-block-init
unfolding absorbed
loop-block-init c = record { words = refl; count = omega arith }

pub loop-block-preserved : goal.loop-block-preserved
loop-block-preserved c =
    let i = c.loop-block.block-index in
    let message = c.args.message.now in
    let whole = c.as_chunks.result.0.now in
    let long = length-take-le c.args.blocks whole (omega arith) in
    let inside : i < c.args.blocks = omega arith in
    let count : (c.loop-block.count + 64) % 2 ^ 64 ≡ (c.args.before + (64 * i + 64)) % 2 ^ 64 = omega arith in
    record {
      words = c.compress-next.ensures
          ∙ compressed_same _ _ _ _ _ _ false c.loop-block.invariant.words
          (get_or-take c.args.blocks whole i _ inside ∙ ap (λ (chunks : List (List ℕ)). get_or chunks i _) c.as_chunks.ensures.front ∙ whole_block i message _ (omega arith))
          count
          ∙ sym (absorbed_more i c.args.before message c.args.h);
      count = omega arith;
    }
