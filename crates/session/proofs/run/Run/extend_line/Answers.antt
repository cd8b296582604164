use Rattle.std.proofs.Common.{sym, ap, ◌∙◌}
use Rattle.std.proofs.lemmas.List.{append-nil}
use Rattle.command.specs.Lines.{line_in, longer}
use Rattle.session.specs.Files.{after, ended_lines, printed, remainder}
use Rattle.session.proofs.Cut.{lines_more, remainder_more, count_more}
use Rattle.session.proofs.Taken.{line_extended}
use Rattle.session.proofs.run.Run.extend_line.Goals as goal

pub returns : goal.returns
returns c = λ start file small h.
    let b = c.args.byte in
    record {
      reached = record {
        state = h.state ∙ ap (after start) (sym (lines_more file b c.requires));
        number = λ going. h.number going ∙ sym (count_more file b c.requires);
        line = λ going.
            c.push.ensures
            ∙ ap (λ l. longer l b) (h.line going)
            ∙ line_extended (remainder file) b
            ∙ ap line_in (sym (remainder_more file b c.requires));
      };
      prints = ap (printed start 1) (lines_more file b c.requires) ∙ sym (append-nil (printed start 1 (ended_lines file)));
    }
