use Rattle.std.proofs.Common.{◌≡◌, ◌+◌, ◌-◌, ◌<◌, ◌≤◌, Some, length, take, drop, refl, sym, ap, ◌∙◌, subst, arith}
use Rattle.std.proofs.lemmas.List.{take_all, length-drop}
use Rattle.pota_base.specs.Limits.{longest_log}
use Rattle.event_log.specs.LogEnd.{log_upto}
use Rattle.fault_kinds.specs.declared.merge.MergeCode.TheVariants as code
use Rattle.fault_kinds.specs.declared.merge.MergeFault.{MergeFault}
use Rattle.log_sources.specs.declared.reader.SourceReader.{SourceReader}
use Rattle.log_sources.specs.Drafts.{with_items}
use Rattle.log_sources.specs.Sources.{Sources, turned}
use Rattle.log_sources.specs.Reading.{HasReadSources}
use Rattle.log_sources.proofs.ReadingOn.{Feeds, input_is_fault, own_is_fault, reads_more, reads_so_far, is_count, rest_less}
use Rattle.log_sources.proofs.reader.SourceReader.read_on.Goals as goal

pub returns-in-Some-clause-takes : goal.returns-in-Some-clause-takes
returns-in-Some-clause-takes c = input_is_fault c.args.self.now _ c.args.bytes.now c.in-Some.fault (Some c.in-Some.fault) c.requires.some c.requires.free c.in-Some.ensures.fault refl refl

pub returns-in-Some-fault-clause-takes : goal.returns-in-Some-fault-clause-takes
returns-in-Some-fault-clause-takes c =
    let k = c.min-count.result in
    let same = c.input_fault.ensures.same in
    let count = is_count c.args.self.now c.args.bytes.now k c.input_fault.new.self.total c.min-count.ensures (ap (λ (x : SourceReader). x.total) same) (c.in_default.ensures.bytes refl) c.requires.some in
    let few = c.in_default.ensures.sources refl in
    let small : c.args.self.now.total + length (take k c.args.bytes.now) ≤ longest_log = omega (arith, count.small, count.taken) in
    let feeds = subst (λ (x : SourceReader). Feeds x c.feed_log.new.self (take k c.args.bytes.now) c.in_ok-fed.fed c.in_ok-fed.behind.now) same c.in_ok-fed.ensures.read in
    let x = c.in-Some-fault.fault in
    let told : c.fault_at.result ≡ record { code = code.Log x.code; source = length c.input_fault.new.self.sources + 1; line = x.line } = cc c.fault_at.ensures in
    let place = ap (λ (f : MergeFault). Some f) (told ∙ ap (λ (y : SourceReader). record { code = code.Log x.code; source = length y.sources + 1; line = x.line }) same) in
    own_is_fault c.args.self.now c.args.bytes.now (take k c.args.bytes.now) k refl c.requires.some c.requires.free few small _ c.feed_log.new.self c.in_ok-fed.fed c.in_ok-fed.behind.now x feeds c.in-Some-fault.is place

pub overflow_sub-taken : goal.overflow_sub-taken
overflow_sub-taken c =
    let k = c.min-count.result in
    let same = c.input_fault.ensures.same in
    let count = is_count c.args.self.now c.args.bytes.now k c.input_fault.new.self.total c.min-count.ensures (ap (λ (x : SourceReader). x.total) same) (c.in_default.ensures.bytes refl) c.requires.some in
    let small : c.args.self.now.total + length (take k c.args.bytes.now) ≤ longest_log = omega (arith, count.small, count.taken) in
    let feeds = subst (λ (x : SourceReader). Feeds x c.feed_log.new.self (take k c.args.bytes.now) c.in_ok-fed.fed c.in_ok-fed.behind.now) same c.in_ok-fed.ensures.read in
    let some : 0 < length (take k c.args.bytes.now) = omega (arith, count.some, count.taken) in
    omega (arith, count.taken, rest_less c.args.self.now c.feed_log.new.self (take k c.args.bytes.now) c.in_ok-fed.fed c.in_ok-fed.behind.now c.requires.at.0 c.requires.at.1 c.requires.free feeds c.in_default-fault.is some)

pub close-requires-clause-at : goal.close-requires-clause-at
close-requires-clause-at c =
    let k = c.min-count.result in
    let n = k - length c.in_ok-fed.behind.now in
    let same = c.input_fault.ensures.same in
    let feeds = subst (λ (x : SourceReader). Feeds x c.feed_log.new.self (take k c.args.bytes.now) c.in_ok-fed.fed c.in_ok-fed.behind.now) same c.in_ok-fed.ensures.read in
    let s = c.requires.at.0 in
    let has = c.requires.at.1 in (
      record { before = (turned s).before; now = log_upto (turned s).now (take k c.args.bytes.now); total = (turned s).total + n; fault = (turned s).fault },
      reads_so_far c.args.self.now _ c.feed_log.new.self (take k c.args.bytes.now) c.in_ok-fed.fed c.in_ok-fed.behind.now n (turned s) feeds c.in_default-fault.is refl (ap (λ (x : SourceReader). x.total + n) same) (ap (λ (x : SourceReader). x.sources) same) (ap (λ (x : SourceReader). x.joined) same)
          (c.in_ok-take_all.ensures ∙ ap (λ (x : SourceReader). with_items x.draft c.in_ok-fed.fed.items) same) (has.reads (sym has.fault_is ∙ c.requires.free)),
    )

pub returns-clause-takes : goal.returns-clause-takes
returns-clause-takes c =
    let k = c.min-count.result in
    let same = c.input_fault.ensures.same in
    let count = is_count c.args.self.now c.args.bytes.now k c.input_fault.new.self.total c.min-count.ensures (ap (λ (x : SourceReader). x.total) same) (c.in_default.ensures.bytes refl) c.requires.some in
    let few = c.in_default.ensures.sources refl in
    let small : c.args.self.now.total + length (take k c.args.bytes.now) ≤ longest_log = omega (arith, count.small, count.taken) in
    let feeds = subst (λ (x : SourceReader). Feeds x c.feed_log.new.self (take k c.args.bytes.now) c.in_ok-fed.fed c.in_ok-fed.behind.now) same c.in_ok-fed.ensures.read in
    let n = k - length c.in_ok-fed.behind.now in
    let some : 0 < length (take k c.args.bytes.now) = omega (arith, count.some, count.taken) in
    let less = rest_less c.args.self.now c.feed_log.new.self (take k c.args.bytes.now) c.in_ok-fed.fed c.in_ok-fed.behind.now c.requires.at.0 c.requires.at.1 c.requires.free feeds c.in_default-fault.is some in
    let all : n + length c.in_ok-fed.behind.now ≡ length (take k c.args.bytes.now) = omega (arith, count.taken, less) in
    let left : take (length c.args.bytes.now - n) (drop n c.args.bytes.now) ≡ drop n c.args.bytes.now = take_all (length c.args.bytes.now - n) (drop n c.args.bytes.now) (omega (arith, length-drop n c.args.bytes.now)) in
    reads_more c.args.self.now c.args.bytes.now (take k c.args.bytes.now) k refl c.requires.some c.requires.free few small c.close.new.self c.feed_log.new.self c.in_ok-fed.fed c.in_ok-fed.behind.now _ n feeds c.in_default-fault.is all left
    (λ (s : Sources) (has : HasReadSources c.args.self.now s). c.in_ok-close.ensures (record { before = (turned s).before; now = log_upto (turned s).now (take k c.args.bytes.now); total = (turned s).total + n; fault = (turned s).fault })
    (reads_so_far c.args.self.now _ c.feed_log.new.self (take k c.args.bytes.now) c.in_ok-fed.fed c.in_ok-fed.behind.now n (turned s) feeds c.in_default-fault.is refl (ap (λ (x : SourceReader). x.total + n) same) (ap (λ (x : SourceReader). x.sources) same) (ap (λ (x : SourceReader). x.joined) same)
    (c.in_ok-take_all.ensures ∙ ap (λ (x : SourceReader). with_items x.draft c.in_ok-fed.fed.items) same) (has.reads (sym has.fault_is ∙ c.requires.free))))

pub returns-clause-less : goal.returns-clause-less
returns-clause-less c =
    let k = c.min-count.result in
    let same = c.input_fault.ensures.same in
    let count = is_count c.args.self.now c.args.bytes.now k c.input_fault.new.self.total c.min-count.ensures (ap (λ (x : SourceReader). x.total) same) (c.in_default.ensures.bytes refl) c.requires.some in
    let small : c.args.self.now.total + length (take k c.args.bytes.now) ≤ longest_log = omega (arith, count.small, count.taken) in
    let feeds = subst (λ (x : SourceReader). Feeds x c.feed_log.new.self (take k c.args.bytes.now) c.in_ok-fed.fed c.in_ok-fed.behind.now) same c.in_ok-fed.ensures.read in
    let n = k - length c.in_ok-fed.behind.now in
    let some : 0 < length (take k c.args.bytes.now) = omega (arith, count.some, count.taken) in
    let less = rest_less c.args.self.now c.feed_log.new.self (take k c.args.bytes.now) c.in_ok-fed.fed c.in_ok-fed.behind.now c.requires.at.0 c.requires.at.1 c.requires.free feeds c.in_default-fault.is some in
    let left : take (length c.args.bytes.now - n) (drop n c.args.bytes.now) ≡ drop n c.args.bytes.now = take_all (length c.args.bytes.now - n) (drop n c.args.bytes.now) (omega (arith, length-drop n c.args.bytes.now)) in
    omega (arith, ap length left, length-drop n c.args.bytes.now, less, count.taken, count.within)
