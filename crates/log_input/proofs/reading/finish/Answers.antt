use Rattle.std.proofs.Common.{[], sym}
use Rattle.event_log.specs.LogText.{onto}
use Rattle.log_input.proofs.Texts.{end_due, has_begun, is_filled}
use Rattle.log_input.proofs.reading.finish.Goals as goal

pub into_log-requires : goal.into_log-requires
into_log-requires c =
    let h = c.requires.1 in
    has_begun c.args.reader.now c.args.filled c.requires.0 h (sym (c.in-None.ensures.fault (onto c.requires.0 []) h.read))

pub returns-in-Some : goal.returns-in-Some
returns-in-Some c text h = end_due c.args.reader.now c.args.filled text h c.in-Some.fault (sym (c.in-Some.ensures.fault (onto text []) h.read))

pub returns-in-None : goal.returns-in-None
returns-in-None c text h =
    is_filled c.args.reader.now c.args.filled text h (sym (c.in-None.ensures.fault (onto text []) h.read)) c.into_log.result c.into_log.ensures
