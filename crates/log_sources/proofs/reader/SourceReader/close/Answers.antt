use Rattle.std.proofs.Common.{◌≡◌, None, refl, sym, ◌∙◌, ap}
use Rattle.event_log.proofs.ReadLaws.{some_value}
use Rattle.event_log.proofs.FeedSteps.{none_value}
use Rattle.log_sources.specs.Drafts.{log_of}
use Rattle.log_sources.proofs.ReadingOn.{same_reads, stays_open, is_source, not_joined, is_joined}
use Rattle.log_sources.proofs.reader.SourceReader.close.Goals as goal

pub returns-then-is_some : goal.returns-then-is_some
returns-then-is_some c = λ s reads.
    let x = some_value c.finish.result (sym c.is_some.ensures ∙ c.if-is_some.true) in
    stays_open _ c.finish.result s (same_reads c.args.self.now _ s refl refl refl c.finish.ensures.same refl reads) c.requires.free c.requires.within (c.finish.ensures.fault s.now reads.log) x.0 x.1

pub join-requires-clause-source : goal.join-requires-clause-source
join-requires-clause-source c =
    let s = c.requires.at.0 in
    let reads = c.requires.at.1 in
    let none : c.finish.result ≡ None = none_value c.finish.result (sym c.is_some.ensures ∙ c.if-is_some.false) in
    is_source c.args.self.now c.in_ok-log.log s reads (sym (c.finish.ensures.fault s.now reads.log) ∙ none) (c.in_ok-log.ensures ∙ ap log_of c.replace-draft.ensures.value)

pub returns-in-Err : goal.returns-in-Err
returns-in-Err c = λ s reads.
    let none : c.finish.result ≡ None = none_value c.finish.result (sym c.is_some.ensures ∙ c.if-is_some.false) in
    not_joined c.args.self.now c.in_ok-log.log s reads (sym (c.finish.ensures.fault s.now reads.log) ∙ none) (c.in_ok-log.ensures ∙ ap log_of c.replace-draft.ensures.value) _ c.in-Err.refusal (rw c.as_slice.ensures at c.in-Err.ensures.fault) refl

pub returns : goal.returns
returns c = λ s reads.
    let none : c.finish.result ≡ None = none_value c.finish.result (sym c.is_some.ensures ∙ c.if-is_some.false) in
    is_joined c.args.self.now c.in_ok-log.log s reads (sym (c.finish.ensures.fault s.now reads.log) ∙ none) (c.in_ok-log.ensures ∙ ap log_of c.replace-draft.ensures.value) _ (rw c.as_slice.ensures at c.in_default.ensures.ok) (rw c.as_slice.ensures at c.in_default.ensures.next) c.in_ok-push.ensures.ok c.requires.free refl refl c.new-2.ensures (c.replace-draft.ensures.after ∙ c.new.ensures)
