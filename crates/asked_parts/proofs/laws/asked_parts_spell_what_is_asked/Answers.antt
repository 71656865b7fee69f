use Rattle.asked_parts.proofs.Spelling.{answered_by_parts, disjuncts-asked}
use Rattle.asked_parts.proofs.laws.asked_parts_spell_what_is_asked.Goals as goal

pub returns-clause-spelled : goal.returns-clause-spelled
returns-clause-spelled c = disjuncts-asked

pub returns-clause-answered : goal.returns-clause-answered
returns-clause-answered c = answered_by_parts
