use Rattle.picture_laws.proofs.Lost.{short_arrows_are_of_lost}
use Rattle.picture_laws.proofs.lost_messages_have_short_arrows.Goals as goal

pub returns : goal.returns
returns c = short_arrows_are_of_lost
