use Rattle.std.proofs.Common.{◌≡◌, ℕ, ◌+◌, List, map, get_or, ap, ◌∙◌, rules}
use Rattle.std.specs.List.{range_with_len}
use lib.Bits.{bit_xor}
use Rattle.octets.proofs.Made.{made}
use Rattle.octets.specs.Words.{words_of}
use Rattle.octets.specs.declared.order.ByteOrder.TheVariants.{LowFirst}
use Rattle.blake2s.specs.Compression.{compressed, mixed_rounds, working_state}
use Rattle.blake2s.proofs.compression.compress.Goals as goal

pub returns : goal.returns
unfolding compressed
returns c =
    let sum : List ℕ → ℕ → ℕ = λ v i. bit_xor (bit_xor (get_or c.args.h i 0) (get_or v i 0)) (get_or v (i + 8) 0) in
    let state : c.mix_rounds.new.v ≡ mixed_rounds 10 (words_of LowFirst 16 c.args.block.now) (working_state c.args.h c.args.count c.args.last) = cc in
    made _ (sum c.mix_rounds.new.v) c.from_fn.ensures.items (λ i y q call. search rules)
    ∙ ap (λ (v : List ℕ). map (sum v) (range_with_len 0 8)) state
