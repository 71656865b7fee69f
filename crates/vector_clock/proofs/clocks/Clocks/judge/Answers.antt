use Rattle.std.proofs.Common.{◌∙◌, ap, sym}
use Rattle.run_model.specs.Cut.{Clocks}
use Rattle.causal_order.specs.Growth.{with_clocks}
use Rattle.vector_clock.proofs.Growth.{clocks_more, fits_have_clocks}
use Rattle.vector_clock.proofs.clocks.Clocks.judge.Goals as goal

pub extend-requires : goal.extend-requires
extend-requires c = record {
  each = fits_have_clocks _ c.args.batch.now c.requires.fits.each;
  few = c.requires.fits.few;
  order = c.in_ok-fault.ensures.order c.in_default.is;
}

pub returns-clause-ok : goal.returns-clause-ok
returns-clause-ok c = λ events own has.
    (sym (c.in_ok-fault.ensures.fault events own has) ∙ c.in_default.is, c.in_ok-extend.ensures.ok ∙ ap (λ (o : Clocks). with_clocks o c.args.batch.now) own ∙ sym (clocks_more events c.args.batch.now))
