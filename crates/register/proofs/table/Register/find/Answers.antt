use Rattle.std.proofs.Common.{sym, ◌∙◌, rules}
use Rattle.std.proofs.lemmas.Iterator.{YieldsList-from_slice}
use Rattle.std.proofs.lemmas.Iterator.Search.{position_from_yields_List}
use Rattle.std.specs.Str.{bytes_eq}
use Rattle.register.proofs.Places.{position-map}
use Rattle.register.proofs.table.Register.find.Goals as goal
use borrow.Author.Tests.{tests}

pub returns : goal.returns
returns g c =
    let name = g.R.Row.name in
    let sought = g.R.Row.sought c.args.key.now in
    position_from_yields_List (λ row. bytes_eq (name row) sought) _ _ _ c.position.ensures.ran
    (YieldsList-from_slice c.args.self.now.listed cc)
    (λ x b q k. search (rules, tests))
    ∙ sym (position-map name (λ n. bytes_eq n sought) c.args.self.now.listed)
