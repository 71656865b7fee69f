use Rattle.event_log.proofs.ReadNames.{refused_value, settings_all}
use Rattle.event_log.proofs.line_reader.LineReader.take_vars.Goals as goal

pub bindings_of-requires : goal.bindings_of-requires
bindings_of-requires c =
    let found = refused_value c.read_vars.result _ c.in_ok-draft.draft _ c.in_ok-draft.ensures c.read_vars.ensures.found in
    rw c.as_slice-2.ensures (settings_all c.in_ok-draft.draft.settings.items found.0.variables.each)
