use Rattle.std.proofs.Common.{◌+◌, ◌*◌, ◌<◌, length, refl, arith}
use Rattle.std.proofs.lemmas.List.{take_more_set}
use Rattle.notation.specs.Hex.{spelled_bytes}
use Rattle.notation.proofs.Nibbles.{digit_at, hex_at, spelled_more}
use Rattle.notation.proofs.hex.fill.Goals as goal

pub loop-i-init : goal.loop-i-init
unfolding spelled_bytes
loop-i-init c = refl

pub value-requires : goal.value-requires
value-requires c =
    let k = 2 * c.loop-i.i in
    hex_at c.args.digits.now k _ (digit_at _ _ c.loop-i.i 0 k c.as_chunks.ensures.front (omega arith) (omega arith) (omega arith)) (omega arith) c.requires.digits

pub value-requires-in-loop-i : goal.value-requires-in-loop-i
value-requires-in-loop-i c =
    let k = 2 * c.loop-i.i + 1 in
    hex_at c.args.digits.now k _ (digit_at _ _ c.loop-i.i 1 k c.as_chunks.ensures.front (omega arith) (omega arith) (omega arith)) (omega arith) c.requires.digits

pub loop-i-preserved : goal.loop-i-preserved
loop-i-preserved c =
    let i = c.loop-i.i in
    let high = digit_at c.args.digits.now _ i 0 (2 * i) c.as_chunks.ensures.front (omega arith) (omega arith) (omega arith) in
    let low = digit_at c.args.digits.now _ i 1 (2 * i + 1) c.as_chunks.ensures.front (omega arith) (omega arith) (omega arith) in
    let h : i < length c.loop-i.out = omega arith in
    let e = take_more_set c.loop-i.out i (16 * c.value.result + c.value-in-loop-i.result) h in
    let s = spelled_more i c.args.digits.now _ _ high low in
    cc
