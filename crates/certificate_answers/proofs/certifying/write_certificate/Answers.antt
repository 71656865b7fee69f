use Rattle.std.proofs.Common.{◌∙◌, ap, refl}
use Rattle.certificate_lines.specs.Spelling.{formula_line}
use Rattle.rctl_parts.specs.Pieces.{disjuncts_of}
use Rattle.certificate_answers.specs.inside.Certifying.{unwatched}
use Rattle.certificate_answers.proofs.Certificates.{unwritten, written_so}
use Rattle.certificate_answers.proofs.certifying.write_certificate.Goals as goal

pub returns-in_default : goal.returns-in_default
returns-in_default g c t log sees = unwritten t log c.args.checked sees _ _ c.args.batches c.without_memory.result c.without_memory.ensures

pub returns : goal.returns
returns g c t log sees =
    written_so t log c.args.checked sees c.args.checked.disjuncts refl c.as_slice-2.result.now (c.as_slice-2.ensures ∙ c.in-Ok.ensures ∙ ap formula_line c.as_slice.ensures)
    _ _ _ _ c.args.batches
    (λ text told is. c.certificates_tell_the_truth.ensures c.args.checked.seen (disjuncts_of c.args.checked.disjuncts) c.as_slice-2.result.now text told c.requires.trace c.requires.made.fit c.requires.rise
    is unwatched sees.answers)
    c.put_certificate.result c.put_certificate.ensures
