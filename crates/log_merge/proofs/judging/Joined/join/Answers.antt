use Rattle.std.proofs.Common.{List, length, refl, ap, sym, ◌∙◌}
use Rattle.event_log.specs.declared.log.Event.{Event}
use Rattle.log_merge.specs.Sources.{all_events}
use Rattle.log_merge.proofs.Judged.{few_lines, seen_within, one_joined}
use Rattle.log_merge.proofs.judging.Joined.join.Goals as goal

pub seen_in-seen-requires : goal.seen_in-seen-requires
seen_in-seen-requires c = few_lines c.args.source.now c.requires.source

pub source_fault-requires-clause-within : goal.source_fault-requires-clause-within
source_fault-requires-clause-within c = seen_within c.args.source.now c.seen_in-seen.result c.requires.source c.seen_in-seen.ensures

pub note-requires : goal.note-requires
note-requires c = seen_within c.args.source.now c.seen_in-seen.result c.requires.source c.seen_in-seen.ensures

pub returns-clause-next : goal.returns-clause-next
returns-clause-next c =
    let size = c.count_of.ensures ∙ ap (λ (bs : List (List Event)). length (all_events bs)) c.as_slice.ensures in
    one_joined c.args.before.now c.args.source.now c.args.self.now _ c.count_of.result c.seen_in-seen.result c.requires.source c.requires.joined c.seen_in-seen.ensures (sym c.in_default.ensures) c.note.ensures size refl
