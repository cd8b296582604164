use Rattle.std.proofs.Common.{◌≡◌, ℕ, ◌≤◌, length, Option, IfSome, rules, sym, ap, subst, ◌∙◌, arith}
use Rattle.std.proofs.lemmas.Bool.Decides.{nat_tests}
use Rattle.std.proofs.lemmas.Fn.{fronts, slice_gives}
use Rattle.notation.specs.Decimal.{number_in}
use Rattle.notation.proofs.Folded.{folded, folded_from_try_fold}
use Rattle.notation.proofs.Number.{appended, folded-number_in, number_in_bound}
use Rattle.notation.proofs.decimal.read.Goals as goal

pub returns : goal.returns
returns c =
    let most = c.args.most in
    let ds = c.args.digits.now in
    let some : 1 ≤ length ds = grind (arith, nat_tests) in
    let e : c.try_fold.result ≡ number_in most ds =
    folded_from_try_fold _ fronts (λ d. d.now) _ (appended most) _ (λ a x w f k. search rules) c.iter.result c.try_fold.new.self 0 _ _ c.try_fold.ensures.ran (slice_gives c.iter.result)
    ∙ ap (folded (appended most) 0) c.iter.ensures.rest
    ∙ folded-number_in most ds some in
    record { value = e; bound = subst (λ (r : Option ℕ). IfSome r (λ n. n ≤ most)) (sym e) (number_in_bound most ds) }
