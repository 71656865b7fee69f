use Rattle.certificate_text.specs.Running.{certificate_lines}
use Rattle.certificate_next_line.proofs.PassedOn.{whole_accepted}
use Rattle.certify.specs.Certifying.{nodes_of}
use Rattle.certify.proofs.laws.certificates_tell_the_truth.Goals as goal

pub returns : goal.returns
returns c = λ seen ds formula text told trace fits counters is reading answers.
    c.an_accepted_certificate_tells_the_truth.ensures seen ds formula (certificate_lines formula is.lines) told trace fits counters is.nodes
    (whole_accepted formula (nodes_of seen ds) is.lines told is.nodes is.whole) reading answers
