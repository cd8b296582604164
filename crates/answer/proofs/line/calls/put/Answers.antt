use Rattle.std.proofs.Common.{◌+◌, ◌≤◌, length, ap, rules, arith}
use Rattle.std.proofs.lemmas.Slice.{drop-put_mid}
use Rattle.answer.proofs.line.calls.put.Goals as goal

pub returns-clause-behind : goal.returns-clause-behind
returns-clause-behind c =
    let room : c.args.at + length c.args.bytes.now ≤ length c.args.buffer.now = search rules in
    let long = ap length c.copy_from_slice.ensures.after in
    drop-put_mid c.args.at _ c.args.buffer.now c.copy_from_slice.new.self _ (omega arith) (omega (arith, room)) (omega (arith, long))
