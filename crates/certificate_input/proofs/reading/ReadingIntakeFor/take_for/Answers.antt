use Rattle.certificate_input.proofs.TellingLaws.{leads_on, nearer, refused_on}
use Rattle.certificate_input.proofs.reading.ReadingIntakeFor.take_for.Goals as goal

pub returns-in-Some : goal.returns-in-Some
returns-in-Some g c first bytes open_ =
    refused_on g.N.Said.follows first bytes c.args.piece.now c.args.self.now.input c.take.new.self c.in_ok-self.field-0 c.in-Some.field-0 open_.0 c.in-Some.is c.in_ok-self.ensures

pub returns-in-None : goal.returns-in-None
returns-in-None g c first bytes open_ = (
  (leads_on g.N.Said.follows first bytes c.args.piece.now c.args.self.now.input c.take.new.self c.in_ok-self.field-0 open_.0 c.in-None.is c.in_ok-self.ensures, c.in-None.is),
  nearer g.N.Said.follows first bytes c.args.piece.now c.args.self.now.input c.take.new.self c.in_ok-self.field-0 open_.0 c.requires.some c.in-None.is c.in_ok-self.ensures,
)
