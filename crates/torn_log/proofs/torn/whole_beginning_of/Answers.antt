use Rattle.std.proofs.Common.{◌≡◌, ◌∷◌, ◌++◌, [], ℕ, List, ap, ◌∙◌, subst, length, sym}
use Rattle.event_log.specs.declared.log.Event.{Event}
use Rattle.event_log.specs.LogText.{event_items, log_items}
use Rattle.torn_log.specs.Items.{ItemsStand}
use Rattle.torn_log.specs.Torn.{AreUpto}
use Rattle.torn_log.proofs.Keeping.{only, batch_stands, log_torn, torn_fits}
use Rattle.torn_log.proofs.torn.whole_beginning_of.Goals as goal

pub upto_greatest-requires : goal.upto_greatest-requires
upto_greatest-requires c =
    let one = only c.args.log.batches c.into_vec-batches.result.items c.pop.new.self.items c.in-Some.batch c.requires.batch c.into_vec-batches.ensures c.in-Some.ensures.items in
    subst (λ (n : ℕ). ItemsStand n (event_items c.in-Some.batch)) (sym c.len.ensures) (batch_stands c.args.log c.in-Some.batch one.0 c.requires.fits)

pub returns-clause-beginning : goal.returns-clause-beginning
returns-clause-beginning c =
    let one = only c.args.log.batches c.into_vec-batches.result.items c.pop.new.self.items c.in-Some.batch c.requires.batch c.into_vec-batches.ensures c.in-Some.ensures.items in
    let kept = c.in_ok-parts.field-0.parts in
    let now : c.from_vec.result ≡ kept ∷ [] = c.from_vec.ensures ∙ c.in_ok-push.ensures.items ∙ ap (λ (bs : List (List Event)). bs ++ kept ∷ []) one.1 in
    log_torn c.args.log c.in-Some.batch kept c.from_vec.result c.in_ok-parts.field-0.left_out one.0 now
    (subst (λ (n : ℕ). AreUpto n (event_items c.in-Some.batch) (event_items kept) c.in_ok-parts.field-0.left_out) c.len.ensures c.in_ok-parts.ensures)

pub returns-clause-fit : goal.returns-clause-fit
returns-clause-fit c =
    let one = only c.args.log.batches c.into_vec-batches.result.items c.pop.new.self.items c.in-Some.batch c.requires.batch c.into_vec-batches.ensures c.in-Some.ensures.items in
    let kept = c.in_ok-parts.field-0.parts in
    let now : c.from_vec.result ≡ kept ∷ [] = c.from_vec.ensures ∙ c.in_ok-push.ensures.items ∙ ap (λ (bs : List (List Event)). bs ++ kept ∷ []) one.1 in
    torn_fits (log_items c.args.log) (record { items = log_items (record { header = c.args.log.header; batches = c.from_vec.result }); left_out = c.in_ok-parts.field-0.left_out }) c.requires.fits
    (log_torn c.args.log c.in-Some.batch kept c.from_vec.result c.in_ok-parts.field-0.left_out one.0 now
    (subst (λ (n : ℕ). AreUpto n (event_items c.in-Some.batch) (event_items kept) c.in_ok-parts.field-0.left_out) c.len.ensures c.in_ok-parts.ensures))

pub returns-clause-batch : goal.returns-clause-batch
returns-clause-batch c =
    let one = only c.args.log.batches c.into_vec-batches.result.items c.pop.new.self.items c.in-Some.batch c.requires.batch c.into_vec-batches.ensures c.in-Some.ensures.items in
    let kept = c.in_ok-parts.field-0.parts in
    ap length (c.from_vec.ensures ∙ c.in_ok-push.ensures.items ∙ ap (λ (bs : List (List Event)). bs ++ kept ∷ []) one.1)
