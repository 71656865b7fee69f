use Rattle.std.proofs.Common.{List, length, map, sym, subst}
use Rattle.std.specs.List.{AllByRecursion}
use Rattle.pota_base.specs.declared.shape.EventId.{EventId}
use Rattle.pota_base.specs.Shape.{HasEvent}
use Rattle.view_picture.proofs.Places.{places_there}
use Rattle.view_picture.proofs.choice.kept_count.Goals as goal

pub kept_among-requires : goal.kept_among-requires
kept_among-requires c =
    let lens = map length c.args.states.now.events in
    subst (λ (es : List EventId). AllByRecursion (HasEvent lens) es) (sym c.requires) (places_there lens)
