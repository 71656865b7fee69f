use Rattle.std.proofs.Common.{inl, inr, subst, sym, List}
use Rattle.pota_base.specs.Changes.{change_of}
use Rattle.rctl_parts.specs.declared.part.Part.{Part}
use Rattle.rctl_parts.specs.Pieces.{disjuncts_of}
use Rattle.certify.specs.Certifying.{CanBeCertified, HasFront, IsCertifying}
use Rattle.certificate_answers.proofs.Certificates.{stopped}
use Rattle.certificate_answers.proofs.certifying.put_certificate.Goals as goal

pub certify-told-requires : goal.certify-told-requires
certify-told-requires g c =
    record {
      can =
          subst (λ (ps : List (List Part)). CanBeCertified c.args.checked.seen (disjuncts_of ps)) (sym c.as_slice.ensures)
          (record { ready = c.requires.ready; fits = c.requires.made.fit; counters = c.requires.rise; count = c.requires.made.parts });
    }

pub returns-in-Ok : goal.returns-in-Ok
returns-in-Ok g c =
    inr (
      c.in-Ok.ended,
      c.verdict_of.ensures,
      subst (λ (ps : List (List Part)). IsCertifying c.in-Ok.ended (change_of (g.O.Sink.held c.args.out.now) (g.O.Sink.held c.certify-told.new.out) (g.O.Sink.faults c.args.out.now) (g.O.Sink.faults c.certify-told.new.out))
          c.args.checked.seen (disjuncts_of ps) c.args.line.now) c.as_slice.ensures c.in-Ok.ensures.certified,
    )

pub returns-in-Err : goal.returns-in-Err
returns-in-Err g c =
    inl (
      stopped _ _ c.without_memory.ensures,
      c.in-Err.ensures.calm,
      subst (λ (ps : List (List Part)). HasFront (g.O.Sink.held c.args.out.now) (g.O.Sink.held c.certify-told.new.out) c.args.checked.seen (disjuncts_of ps) c.args.line.now) c.as_slice.ensures c.in-Err.ensures.memory,
    )
