use Rattle.std.proofs.Common.{ℕ, List, length, replicate, ◌≡◌, ◌+◌, [], ◌∷◌, ◌++◌, take, set, sym, ap, ◌∙◌, arith}
use Rattle.std.proofs.lemmas.List.{length-append, length-set, take_all, take_at, take_more_set}
use Rattle.sha256.specs.Compression.{next_word, scheduled}
use Rattle.sha256.proofs.Rounds.{next_word-front, scheduled_more}
use Rattle.sha256.proofs.schedule.schedule.Goals as goal

pub loop-i-init : goal.loop-i-init
unfolding scheduled
loop-i-init c =
    let zeros : List ℕ = replicate 48 0 in
    let b = c.told-block in
    let l : length c.copy_from_slice.new.self ≡ 16 = c.copy_from_slice.ensures.len in (
      length-append c.copy_from_slice.new.self zeros ∙ ap (λ n. n + 48) l,
      take_at c.copy_from_slice.new.self zeros 16 l ∙ c.copy_from_slice.ensures.after,
    )

pub loop-i-preserved : goal.loop-i-preserved
loop-i-preserved c =
    let i = c.loop-i.i in
    let words = c.loop-i.words in
    let block = c.args.block.now in
    let l = c.loop-i.invariant.0 in
    let next : (i + 1) + 16 ≡ (i + 16) + 1 = omega arith in (
      length-set words (i + 16) _ ∙ l,
      ap (λ n. take n (set words (i + 16) c.next_word.result)) next
          ∙ take_more_set words (i + 16) c.next_word.result (omega arith)
          ∙ ap (λ x. take (i + 16) words ++ x ∷ []) (c.next_word.ensures ∙ sym (next_word-front words i))
          ∙ ap (λ xs. xs ++ next_word xs i ∷ []) c.loop-i.invariant.1
          ∙ sym (scheduled_more i block),
    )

pub returns : goal.returns
returns c =
    let l = c.loop-i.invariant.0 in
    let e : c.loop-i.i ≡ 48 = omega arith in
    sym (take_all (c.loop-i.i + 16) c.loop-i.words (omega arith))
    ∙ c.loop-i.invariant.1
    ∙ ap (λ n. scheduled n c.args.block.now) e
