use Rattle.std.proofs.Common.{◌+◌, ap, sym, ◌∙◌, map, drop, Bool, arith}
use Rattle.std.specs.String.{string_bytes}
use Rattle.kept_names.specs.Words.{names_from}
use Rattle.kept_names.proofs.Naming.{all_named, one_lacks, taken, refused}
use Rattle.kept_names.proofs.words.names_kept.Goals as goal

pub loop-word-init : goal.loop-word-init
loop-word-init c = let e = c.new-names.ensures in cc

pub returns-in-None : goal.returns-in-None
returns-in-None c =
    refused string_bytes c.args.words.now c.loop-word.word-index c.loop-word.waits c.loop-word.names c.loop-word.invariant c.word-item.result c.as_bytes-bytes.result.now c.loop-word-test.true c.word-item.is c.as_bytes-bytes.ensures.value
    (sym c.in-None.is ∙ c.in_ok-found.ensures)

pub loop-word-preserved : goal.loop-word-preserved
loop-word-preserved c =
    let so = taken string_bytes c.args.words.now c.loop-word.word-index c.loop-word.waits c.loop-word.names c.loop-word.invariant c.word-item.result c.as_bytes-bytes.result.now c.loop-word-test.true c.word-item.is c.as_bytes-bytes.ensures.value c.in-Some.more
    (sym c.in-Some.is ∙ c.in_ok-found.ensures) in
    ap (λ (b : Bool). names_from b c.in-Some.more (map string_bytes (drop (c.loop-word.word-index + 1) c.args.words.now))) c.waits_behind-waits.ensures ∙ so

pub returns-then-waits : goal.returns-then-waits
returns-then-waits c =
    one_lacks string_bytes c.args.words.now c.loop-word.word-index c.loop-word.waits c.loop-word.names c.loop-word.invariant (omega (arith, c.loop-word-test.false)) c.if-waits.true

pub returns : goal.returns
returns c =
    all_named string_bytes c.args.words.now c.loop-word.word-index c.loop-word.waits c.loop-word.names c.loop-word.invariant (omega (arith, c.loop-word-test.false)) c.if-waits.false
