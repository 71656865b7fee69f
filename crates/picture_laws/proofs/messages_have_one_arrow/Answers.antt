use Rattle.picture_laws.proofs.Arrows.{arrows_are_drawn, messages_have_one_arrow, arrows_are_of_messages}
use Rattle.picture_laws.proofs.messages_have_one_arrow.Goals as goal

pub returns-clause-drawn : goal.returns-clause-drawn
returns-clause-drawn c = arrows_are_drawn

pub returns-clause-one : goal.returns-clause-one
returns-clause-one c = messages_have_one_arrow

pub returns-clause-no_other : goal.returns-clause-no_other
returns-clause-no_other c = arrows_are_of_messages
