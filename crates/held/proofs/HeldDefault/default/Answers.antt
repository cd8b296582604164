use Rattle.std.proofs.Common.{◌≡◌, ◌-◌, replicate, sym, ap, ◌∙◌, subst, arith}
use Rattle.std.proofs.lemmas.List.{get_or-replicate, length-replicate, same_lists}
use Rattle.held.specs.Padded.{Padded}
use Rattle.held.proofs.HeldDefault.default.Goals as goal

pub invariant_of-result : goal.invariant_of-result
invariant_of-result g c =
    let all = c.default.ensures in
    let zeros : c.default.result ≡ replicate g.row.N 0 =
    same_lists c.default.result (replicate g.row.N 0) (all.long ∙ sym (length-replicate g.row.N 0))
    (λ k d h. let below = all.long in all.at k d (omega arith) ∙ sym (get_or-replicate g.row.N k 0 d (omega arith))) in
    let all_left : g.row.N ≡ g.row.N - 0 = omega arith in
    subst (Padded g.row.N c.default.result) (sym c.default-2.ensures) record { fits = omega arith; whole = all.long; rest = zeros ∙ ap (λ n. replicate n 0) all_left }
