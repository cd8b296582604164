use Rattle.std.proofs.Common.{◌≡◌, length, map, sym, ap, ◌∙◌, subst}
use Rattle.std.proofs.lemmas.List.{length-map}
use Rattle.register.specs.Listing.{listing, most_accounts, most_offices, most_sheets}
use Rattle.register.specs.Table.{shown}
use Rattle.session.specs.Replies.{fresh, state_in}
use Rattle.session.specs.Soundness.{StaysSound}
use Rattle.session.specs.declared.setup.Phase.TheVariants.{Start}
use Rattle.session.proofs.Kept.{empty_list, fresh_stays_sound}
use Rattle.session.proofs.setup.Setup.new.Goals as goal

pub returns : goal.returns
returns c =
    let a = length c.args.accounts.now in
    let o = length c.args.offices.now in
    let s = length c.args.sheets.now in
    let accounts = empty_list most_accounts c.new.result a c.new.ensures.0 (ap length c.new.ensures.1) in
    let offices = empty_list most_offices c.new-2.result o c.new-2.ensures.0 (ap length c.new-2.ensures.1) in
    let rows = length-map c.new-3.result.spare listing ∙ ap length c.new-3.ensures.1 in
    let sheets = empty_list most_sheets (shown listing c.new-3.result) s (ap (map listing) c.new-3.ensures.0) rows in
    let e : state_in Start c.new.result c.new-2.result (shown listing c.new-3.result) ≡ fresh a o s =
    λ j. record { phase = Start; accounts = accounts j; offices = offices j; sheets = sheets j } in
    record { empty = e; sound = subst StaysSound (sym e) (fresh_stays_sound a o s) }
