use Rattle.std.proofs.Common.{◌≡◌, Some, ℕ, ap, sym, ◌∙◌, refl, arith, List, ◌++◌, ◌∷◌, [], to_z, of_z}
use Rattle.std.specs.Int.{w64}
use Rattle.event_log.specs.declared.log.Assign.{Assign}
use Rattle.event_log.specs.declared.log.Kind.TheVariants as kind
use Rattle.log_lines.specs.Names.{place_of}
use Rattle.vclog_import.specs.inside.Reading.{record_of}
use Rattle.vclog_import.specs.inside.Scans.{hosts_in}
use Rattle.vclog_import.proofs.MadeSteps.{made_more, small_count, signed_count}
use Rattle.vclog_import.proofs.events.Events.add.Goals as goal

pub returns-clause-made : goal.returns-clause-made
returns-clause-made c before so =
    let line = c.args.line.now in
    let place = c.unwrap-place.result in
    let value = to_z w64 (of_z w64 c.from.result) in
    let found : place_of (hosts_in c.args.self.now.hosts.now) line.host.now ≡ Some place = sym c.place_of.ensures.place ∙ c.unwrap-place.ensures in
    let assigns : c.push.new.self ≡ record { variable = 0; value = to_z w64 (of_z w64 c.from.result) } ∷ [] = c.in_ok-push.ensures.ok ∙ ap (λ (front : List Assign). front ++ record { variable = 0; value = to_z w64 (of_z w64 c.from.result) } ∷ []) c.in_ok-assigns.ensures in
    made_more c.args.self.now _ before (record_of line) place c.args.clock.items c.push.new.self value so c.requires.distinct found (omega (arith, so.few)) refl refl
    (c.in_ok-push-2.ensures.ok ∙ ap (λ (clock : List ℕ). c.args.self.now.events ++ record { process = place; line = line.line; clock = clock; kind = kind.Internal; assigns = c.push.new.self } ∷ []) c.from_vec.ensures)
    c.requires.clock assigns (signed_count c.from.result _ c.from.ensures (small_count c.args.self.now c.requires.made.0 line.host.now place c.requires.made.1 c.requires.made.2 found))
