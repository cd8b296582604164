use Rattle.std.proofs.Common.{true, ◌&&◌, rules, tests, ◌∙◌}
use Rattle.std.proofs.lemmas.Iterator.{YieldsList-from_slice}
use Rattle.std.proofs.lemmas.Iterator.Consumers.{fold_from_yields_List}
use Rattle.notation.specs.Hex.{is_hex}
use Rattle.notation.proofs.Nibbles.{all_tested}
use Rattle.notation.proofs.hex.all_digits.Goals as goal

pub returns : goal.returns
returns c =
    let ds = c.args.bytes.now in
    fold_from_yields_List _ (λ all d. all && is_hex d) true c.fold.result c.fold.ensures.ran (YieldsList-from_slice ds (cc)) (λ all b r q call. search (rules, tests))
    ∙ all_tested ds
