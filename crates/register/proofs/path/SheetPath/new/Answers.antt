use Rattle.std.proofs.Common.{◌≤◌, ◌&&◌, leb, length, Some, None, sym, ap, ◌∙◌, rules}
use Rattle.std.proofs.lemmas.List.{take_at}
use Rattle.std.proofs.lemmas.Bool.{cond-true, and_from, le-leb}
use Rattle.held.proofs.Filling.{first_in_use}
use Rattle.register.proofs.path.SheetPath.new.Goals as goal

pub returns : goal.returns
returns c =
    ap Some (take_at c.copy_from_slice.new.self _ (length c.args.bytes.now) (ap length c.copy_from_slice.ensures.after) ∙ c.copy_from_slice.ensures.after)
    ∙ sym (cond-true (leb 1 (length c.args.bytes.now) && leb (length c.args.bytes.now) 40) (Some c.args.bytes.now) None (and_from _ _ (le-leb 1 (length c.args.bytes.now) (search rules)) (le-leb (length c.args.bytes.now) 40 (search rules))))

pub invariant_of-result : goal.invariant_of-result
invariant_of-result c =
    let fits : length c.args.bytes.now ≤ 40 = search rules in
    record { fits = fits; padded = first_in_use 40 c.copy_from_slice.new.self _ (ap length c.copy_from_slice.ensures.after) fits }
