use Rattle.std.proofs.Common.{subst, sym, ◌∙◌, rules}
use Rattle.std.proofs.lemmas.Iterator.{YieldsList-from_slice, YieldsList-from_zip}
use Rattle.std.proofs.lemmas.Iterator.Consumers.{fold_from_yields_List}
use Rattle.mac.specs.Differing.{Tells}
use Rattle.mac.proofs.Differences.{fold_tells, more_bits}
use Rattle.mac.proofs.comparison.difference.Goals as goal

pub returns : goal.returns
returns c =
    let a = c.args.a.now in
    let b = c.args.b.now in
    subst (λ bits. Tells bits a b)
    (sym (fold_from_yields_List _ more_bits 0 c.fold.result c.fold.ensures.ran (YieldsList-from_zip (YieldsList-from_slice a (cc)) (YieldsList-from_slice b (cc))) (λ bits pair r q call. search rules)))
    (fold_tells a b (c.told-a ∙ sym c.told-b))
