use Rattle.std.proofs.Common.{◌+◌, refl, ap, sym, ◌∙◌, map, drop, Bool, ℕ, Some, arith}
use Rattle.std.specs.String.{string_bytes}
use Rattle.kept_log.specs.Unknown.{unknown_from}
use Rattle.kept_log.proofs.Looking.{all_known, found, passed}
use Rattle.kept_log.proofs.unknown.unknown_word.Goals as goal

pub loop-word-init : goal.loop-word-init
loop-word-init c = (refl, refl)

pub returns-then-unknown : goal.returns-then-unknown
returns-then-unknown c =
    let so = found c.args.header.now string_bytes c.args.words.now c.loop-word.word-index c.loop-word.waits c.loop-word.invariant.1 c.word-item.result c.as_bytes-bytes.result.now c.loop-word-test.true c.word-item.is c.as_bytes-bytes.ensures.value
    (sym c.in_ok-unknown.ensures ∙ c.if-unknown.true) in
    ap (λ (n : ℕ). Some n) c.loop-word.invariant.0 ∙ so

pub loop-word-preserved : goal.loop-word-preserved
loop-word-preserved c =
    let so = passed c.args.header.now string_bytes c.args.words.now c.loop-word.word-index c.loop-word.waits c.loop-word.invariant.1 c.word-item.result c.as_bytes-bytes.result.now c.loop-word-test.true c.word-item.is c.as_bytes-bytes.ensures.value
    (sym c.in_ok-unknown.ensures ∙ c.if-unknown.false) in (
      omega (arith, c.loop-word.invariant.0),
      ap (λ (b : Bool). unknown_from b c.args.header.now (c.loop-word.word-index + 1) (map string_bytes (drop (c.loop-word.word-index + 1) c.args.words.now))) c.waits_behind-waits.ensures ∙ so,
    )

pub returns : goal.returns
returns c = all_known c.args.header.now string_bytes c.args.words.now c.loop-word.word-index c.loop-word.waits c.loop-word.invariant.1 (omega (arith, c.loop-word-test.false))
