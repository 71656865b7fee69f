use Rattle.picture_laws.proofs.Closed.{tags_are_closed, documents_are_printed}
use Rattle.picture_laws.proofs.documents_close_their_tags.Goals as goal

pub returns-clause-tags : goal.returns-clause-tags
returns-clause-tags c = tags_are_closed

pub returns-clause-printed : goal.returns-clause-printed
returns-clause-printed c = documents_are_printed
