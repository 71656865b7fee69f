use Rattle.event_log.proofs.ReadNames.{refused_value, texts_all}
use Rattle.event_log.proofs.line_reader.LineReader.take_procs.Goals as goal

pub names_of-requires : goal.names_of-requires
names_of-requires c =
    let found = refused_value c.read_procs.result _ c.in_ok-texts.texts _ c.in_ok-texts.ensures c.read_procs.ensures.found in
    rw c.deref.ensures.value (texts_all c.in_ok-texts.texts.items found.0.each)
