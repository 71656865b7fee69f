use Rattle.std.proofs.Common.{◌≡◌, length, [], ◌∷◌, Some, None, refl, sym, subst, arith}
use Rattle.event_log.specs.declared.item.LogFault.{LogFault}
use Rattle.event_log.specs.inside.Feeding.{TakesPlain}
use Rattle.event_log.proofs.FeedSteps.{Knows, byte_faults, byte_takes}
use Rattle.event_log.proofs.feeder.Feeder.take_byte.Goals as goal

pub returns-in-Some : goal.returns-in-Some
returns-in-Some c =
    let width : c.len.result ≡ length c.args.self.now.line.items = grind arith in
    let knows = subst (λ w. Knows c.args.self.now w c.args.byte (Some c.in-Some.code)) width c.in-Some.ensures.known in
    subst (λ (x : LogFault). TakesPlain c.args.self.now (c.args.byte ∷ []) (Some x) c.args.self.now) (sym c.placed.ensures) (byte_faults c.args.self.now c.args.self.now c.args.byte c.in-Some.code knows)

pub returns : goal.returns
returns c =
    let width : c.len.result ≡ length c.args.self.now.line.items = grind arith in
    let knows = subst (λ w. Knows c.args.self.now w c.args.byte None) width c.in_default.ensures.known in
    byte_takes c.args.self.now _ c.args.byte c.requires knows (record { total_is = refl; reader_is = refl; line_is = c.in_ok-push.ensures.items })
