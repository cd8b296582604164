use Rattle.std.proofs.Common.{rules}
use Rattle.held.proofs.Filling.{more_in_use}
use Rattle.answer.proofs.line.OutputLine.push.Goals as goal

pub invariant_of-self : goal.invariant_of-self
invariant_of-self c = record { fits = search rules; padded = more_in_use 80 _ _ _ _ c.args.self.now.padded (search rules) (search rules) c.put.ensures.behind }
