use Rattle.std.proofs.Common.{◌≡◌, List, [], ℕ, get_or, eqb, rules, tests, ap, ◌∙◌, Option, Some, None, Bor}
use Rattle.std.specs.Option.{option_map, unwrap_or, UnwrapsOrElse}
use Rattle.std.proofs.lemmas.Iterator.Consumers.{nth_from_yields_List}
use Rattle.std.proofs.lemmas.Iterator.Splits.{YieldsList-from_slice_split}
use Rattle.std.proofs.lemmas.Option.{unwrap_or-slice_get}
use Rattle.notation.specs.Fields.{fields_of}
use Rattle.notation.proofs.fields.Fields.nth.Goals as goal

or_empty : (o : Option (Bor (List ℕ))) (r : Bor (List ℕ)) → UnwrapsOrElse o (λ x. x.now ≡ []) r → r.now ≡ unwrap_or (option_map (λ x. x.now) o) []
or_empty None r e = e
or_empty (Some x) r e = ap (λ (y : Bor (List ℕ)). y.now) e

pub returns : goal.returns
returns c =
    let s = c.self.inside.separator in
    let e = c.split.ensures in
    let found = nth_from_yields_List c.nth.result c.nth.new.self c.args.place c.nth.ensures.ran (YieldsList-from_slice_split _ (λ b. eqb b s) _ e.rest e.done e.closure (λ x b q k. search (rules, tests))) in
    or_empty c.nth.result c.unwrap_or_default.result c.unwrap_or_default.ensures
    ∙ ap (λ (o : Option (List ℕ)). unwrap_or o []) found
    ∙ unwrap_or-slice_get (fields_of s c.self.inside.line.now) c.args.place []
    ∙ ap (λ (fs : List (List ℕ)). get_or fs c.args.place []) c.self.view_is
