use Rattle.std.proofs.Common.{◌≡◌, ◌++◌, length, take, drop, ap, ◌∙◌, append-nil, arith, rules}
use Rattle.std.proofs.lemmas.List.{drop_all, length-drop}
use Rattle.sha256.proofs.padding.with_length.Goals as goal

pub returns : goal.returns
returns c =
    let block = c.args.block in
    let whole : length block ≡ 64 = search rules in
    let left = length-drop 56 block in
    ap (λ xs. take 56 block ++ (c.copy_from_slice.new.self ++ xs)) (drop_all 8 (drop 56 block) (omega arith))
    ∙ ap (λ xs. take 56 block ++ xs) (append-nil c.copy_from_slice.new.self ∙ c.copy_from_slice.ensures.after ∙ c.length_bytes.ensures)
