use Rattle.std.proofs.Common.{◌∷◌, [], ◌++◌, ap, ◌∙◌, refl}
use Rattle.std.proofs.lemmas.Result.{on_ok_weaker}
use Rattle.report_lines.specs.declared.kinds.WitnessText.{WitnessText}
use Rattle.answer_report.proofs.witnesses.push_witness.Goals as goal

pub returns : goal.returns
returns c = on_ok_weaker c.push.result (λ is. record {
  witness = record { disjunct = c.args.part.now.disjunct; part = c.args.part.now.part; witness = c.in_ok-witness.witness };
  is = is ∙ ap (λ (w : WitnessText). c.args.witnesses.now ++ w ∷ []) c.numbered.ensures.is;
  tells = record {
    disjunct = refl;
    number = refl;
    witness = c.in_ok-witness.ensures.given;
    fits = λ from_1. record {
      disjunct = record { some = from_1.disjunct; small = c.numbered.ensures.disjunct };
      part = record { some = from_1.number; small = c.numbered.ensures.part };
      witness = c.in_ok-witness.ensures.fits;
    };
  };
}) c.push.ensures.ok
