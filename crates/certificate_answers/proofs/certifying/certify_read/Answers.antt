use Rattle.certificate_answers.specs.inside.Certifying.{aim_for}
use Rattle.certificate_answers.proofs.Certificates.{seen_log}
use Rattle.certificate_answers.proofs.certifying.certify_read.Goals as goal

pub returns : goal.returns
returns g c s text stated j log check closed =
    c.write_certificate.ensures s.formula.tree log
    (seen_log s text log c.into_observed.result stated (c.into_observed.ensures.log (aim_for s) j log check closed))
