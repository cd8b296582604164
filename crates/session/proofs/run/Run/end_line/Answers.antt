use Rattle.std.proofs.Common.{sym, ap, ◌∙◌}
use Rattle.command.specs.Commands.{asked}
use Rattle.command.specs.Lines.{line_in}
use Rattle.session.specs.Replies.{reply}
use Rattle.session.proofs.Cut.{remainder_end}
use Rattle.session.proofs.Taken.{line_answered, line_printed, line_counted}
use Rattle.session.proofs.run.Run.end_line.Goals as goal

pub returns : goal.returns
returns c = λ start file small h.
    let state = c.args.self.now.setup in
    let asks = c.read_buffer.ensures ∙ ap asked (h.line c.requires) in
    record {
      reached = record {
        state = line_answered start file state _ h.state (c.respond-answer.ensures.reply.after ∙ ap (λ k. (reply state k).after) asks);
        number = λ _. line_counted file _ _ small (h.number c.requires) c.saturating_add-self.ensures;
        line = λ _. c.clear.ensures ∙ ap line_in (sym (remainder_end file));
      };
      prints =
          line_printed start file state _ _ _ h.state c.requires (h.number c.requires)
          (c.respond-answer.ensures.reply.answer ∙ ap (λ k. (reply state k).answer) asks)
          c.report-output.ensures;
    }
