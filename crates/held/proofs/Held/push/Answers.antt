use Rattle.std.proofs.Common.{◌++◌, ap, ◌∙◌, rules}
use Rattle.held.proofs.Pushed.{front, pushed}
use Rattle.held.proofs.Held.push.Goals as goal

pub invariant_of-self : goal.invariant_of-self
invariant_of-self g c =
    pushed g.row.N c.self.inside.bytes c.self.inside.len c.args.bytes.now c.copy_from_slice.new.self c.copy_from_slice.ensures.after (search rules) c.self.invariant

pub returns : goal.returns
returns g c =
    front g.row.N c.self.inside.bytes c.self.inside.len c.args.bytes.now c.copy_from_slice.new.self c.copy_from_slice.ensures.after (search rules) c.self.invariant
    ∙ ap (λ z. z ++ c.args.bytes.now) c.self.view_is
