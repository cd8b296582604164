use Rattle.std.proofs.Common.{◌≡◌, ◌+◌, false, [], take, drop, set, map, is_some, Ok, sym, ap, ◌∙◌, subst, rules}
use Rattle.register.specs.Adding.{Adds}
use Rattle.register.specs.Names.{place_in}
use Rattle.register.proofs.Appended.{added}
use Rattle.register.proofs.table.Register.add.Goals as goal

pub returns : goal.returns
returns g c =
    let name = g.R.Row.name in
    let row = c.args.row in
    let used = c.self.inside.used in
    let rows = c.self.inside.rows.now in
    let absent : is_some c.find.result ≡ false = search rules in
    subst
    (λ t. Adds name g.R.Row.most [] row t (Ok tt) record { listed = take (used + 1) (set rows used row); spare = drop (used + 1) (set rows used row) })
    c.self.view_is
    (added name g.R.Row.most row used rows
    (ap (λ t. is_some (place_in (name row) (map name t.listed))) c.self.view_is
    ∙ ap (λ n. is_some (place_in n (map name c.args.self.now.listed))) (sym c.key.ensures)
    ∙ ap is_some (sym c.find.ensures)
    ∙ absent)
    (search rules)
    (search rules))
