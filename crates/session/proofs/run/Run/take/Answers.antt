use Rattle.std.proofs.Common.{sym, ap, ◌∙◌}
use Rattle.std.proofs.lemmas.Bool.{both_ways}
use Rattle.session.specs.Replies.{has_ended}
use Rattle.session.proofs.Taken.{still, silent}
use Rattle.session.proofs.run.Run.take.Goals as goal

pub returns-then-has_ended : goal.returns-then-has_ended
returns-then-has_ended c = λ start file small h.
    let ended = sym c.if-has_ended.ensures in
    record {
      reached = record {
        state = h.state ∙ sym (still start file c.args.byte (ap has_ended (sym h.state) ∙ ended));
        number = λ going. absurd (both_ways _ going ended);
        line = λ going. absurd (both_ways _ going ended);
      };
      prints = silent start file c.args.byte (ap has_ended (sym h.state) ∙ ended);
    }
