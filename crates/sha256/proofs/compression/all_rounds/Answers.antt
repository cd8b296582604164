use Rattle.std.proofs.Common.{◌≡◌, ◌/◌, refl, ap, ◌∙◌, rules}
use Rattle.std.proofs.lemmas.Iterator.{YieldsList-from_slice, YieldsList-from_zip}
use Rattle.std.proofs.lemmas.Iterator.Consumers.{fold_from_yields_List}
use Rattle.std.specs.Simd.{first_chunks}
use Rattle.sha256.specs.Compression.{rounds}
use Rattle.sha256.specs.Tables.{round_constants}
use Rattle.sha256.proofs.Rounds.{rounds_by_eights}
use Rattle.sha256.proofs.compression.all_rounds.Goals as goal

pub returns : goal.returns
returns c =
    let words = c.args.words.now in
    let front : c.as_chunks-2.result.0.now ≡ first_chunks 8 8 words = c.as_chunks-2.ensures.front ∙ ap (λ n. first_chunks 8 (n / 8) words) c.told-words in
    fold_from_yields_List _ (λ r p. rounds p.0 p.1 r) c.args.h c.fold.result c.fold.ensures.ran
    (YieldsList-from_zip (YieldsList-from_slice (first_chunks 8 8 round_constants) (cc)) (YieldsList-from_slice (first_chunks 8 8 words) (cc)))
    (λ a x b q k. search rules)
    ∙ rounds_by_eights 8 round_constants words c.args.h refl c.told-words
