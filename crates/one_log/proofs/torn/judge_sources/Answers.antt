use Rattle.std.proofs.Common.{List, sym, subst, ◌∙◌}
use Rattle.event_log.specs.declared.log.Log.{Log}
use Rattle.log_sources.specs.Sources.{no_sources, after}
use Rattle.log_sources.specs.declared.reader.SourceReader.{SourceReader}
use Rattle.log_sources.specs.Reading.{CanMerge, HasReadSources}
use Rattle.log_input.specs.declared.form.Form.TheVariants as form
use Rattle.one_log.specs.inside.Torn.{IsMergedTornOf, IsTornAt}
use Rattle.one_log.proofs.Beginnings.{merged_torn, merged_refused, torn_so}
use Rattle.one_log.proofs.torn.judge_sources.Goals as goal

pub feed-requires : goal.feed-requires
feed-requires c = record { at = (no_sources, c.new-reader.ensures) }

pub merge_logs-requires : goal.merge_logs-requires
merge_logs-requires c =
    let s = after no_sources c.args.text.now in
    let has = c.in_ok-feed.ensures.read no_sources c.new-reader.ensures in
    subst CanMerge (sym c.as_slice.ensures) (c.into_logs-logs.ensures.can_merge s (subst (λ (r : SourceReader). HasReadSources r s) (sym c.in-None.ensures.same) has) (sym (c.in-None.ensures.fault s has)))

pub returns-in-Some : goal.returns-in-Some
returns-in-Some c =
    let s = after no_sources c.args.text.now in
    merged_refused c.args.text.now c.in-Some.fault (sym (c.in-Some.ensures.fault s (c.in_ok-feed.ensures.read no_sources c.new-reader.ensures)))

pub returns-in-None : goal.returns-in-None
returns-in-None c =
    let s = after no_sources c.args.text.now in
    let has = c.in_ok-feed.ensures.read no_sources c.new-reader.ensures in
    let none = sym (c.in-None.ensures.fault s has) in
    torn_so c.merge_logs.result (IsMergedTornOf c.as_slice.result.now) (IsTornAt form.Merged c.args.text.now)
    (λ i j. merged_torn c.args.text.now none i (subst (λ (ls : List Log). IsMergedTornOf ls i) (c.as_slice.ensures ∙ c.into_logs-logs.ensures.logs s (subst (λ (r : SourceReader). HasReadSources r s) (sym c.in-None.ensures.same) has) none) j)) c.merge_logs.ensures
