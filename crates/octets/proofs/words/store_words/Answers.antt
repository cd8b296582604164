use Rattle.std.proofs.Common.{◌+◌, ◌*◌, ◌++◌, length, get_or, take, sym, ap, ◌∙◌, arith}
use Rattle.std.proofs.lemmas.List.{take_all}
use Rattle.octets.specs.Words.{bytes_of_words}
use Rattle.octets.proofs.Laid.{take-laid}
use Rattle.octets.proofs.Stored.{bytes_more, length-bytes_of}
use Rattle.octets.proofs.words.store_words.Goals as goal

pub loop-i-preserved : goal.loop-i-preserved
loop-i-preserved g c =
    let i = c.loop-i.i in
    let word = c.bytes.result in
    let long = c.loop-i.invariant.long in
    let four = ap length c.bytes.ensures ∙ length-bytes_of c.args.order (get_or c.args.words.now i 0) in
    record {
      long = c.lay.auto.dst ∙ long;
      laid = ap (take (4 * (i + 1))) c.lay.ensures
          ∙ take-laid c.loop-i.bytes (4 * i) word (4 * (i + 1)) (omega arith) (omega arith)
          ∙ ap (λ xs. xs ++ word) c.loop-i.invariant.laid
          ∙ ap (λ xs. bytes_of_words c.args.order (take i c.args.words.now) ++ xs) c.bytes.ensures
          ∙ sym (bytes_more c.args.order c.args.words.now i c.loop-i-test.true);
    }

pub returns : goal.returns
returns g c =
    let long = c.loop-i.invariant.long in
    sym (take_all (4 * c.loop-i.i) c.loop-i.bytes (omega arith))
    ∙ c.loop-i.invariant.laid
    ∙ ap (bytes_of_words c.args.order) (take_all c.loop-i.i c.args.words.now (omega arith))
