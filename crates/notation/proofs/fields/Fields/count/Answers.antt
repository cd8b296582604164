use Rattle.std.proofs.Common.{◌≤◌, length, rules, tests, ap, subst, sym, ◌∙◌, arith}
use Rattle.std.proofs.lemmas.Iterator.{YieldsList-from_slice}
use Rattle.std.proofs.lemmas.Iterator.Consumers.{fold_from_yields_List}
use Rattle.notation.proofs.Parts.{fields_counted, one_more, some_field}
use Rattle.notation.proofs.fields.Fields.count.Goals as goal

pub returns : goal.returns
returns c =
    let s = c.self.inside.separator in
    let line = c.self.inside.line.now in
    let all = fold_from_yields_List _ (one_more s) 1 c.fold.result c.fold.ensures.ran (YieldsList-from_slice line (cc)) (λ n b r q call. search (rules, tests)) ∙ fields_counted s line (omega arith) in
    record { value = all ∙ ap length c.self.view_is; some = subst (λ n. 1 ≤ n) (sym all) (some_field s line) }
