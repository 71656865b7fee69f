use Rattle.certificate_text.proofs.Accepting.{accepted_run, certificate_accepted}
use Rattle.certificate_text.proofs.runs.accepted_lines_are_a_run.Goals as goal

pub returns : goal.returns
returns g c = λ formula v texts told. (accepted_run g.N.Said.follows formula v texts told, certificate_accepted g.N.Said.follows formula v texts told)
