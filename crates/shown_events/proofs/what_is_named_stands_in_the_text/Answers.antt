use Rattle.shown_events.proofs.Named.{text_names}
use Rattle.shown_events.proofs.Next.{no_next}
use Rattle.shown_events.proofs.what_is_named_stands_in_the_text.Goals as goal

pub returns-clause-names : goal.returns-clause-names
returns-clause-names c = text_names

pub returns-clause-next : goal.returns-clause-next
returns-clause-next c = no_next
