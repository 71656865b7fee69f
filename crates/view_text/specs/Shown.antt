-- Which steps of a path are shown.
use Rattle.std.specs.Prelude.{ℕ, zero, suc, Bool, true, false, ◌&&◌, ◌||◌, nat_le, nat_lt, List, []}
use Rattle.std.specs.Prelude.{◌∷◌, length, get_or, if◌then◌else◌}
use Rattle.std.specs.List.{count_by}
use Rattle.run_model.specs.Cut.{count}
use Rattle.pota_base.specs.declared.shape.EventId.{EventId}
use Rattle.event_log.specs.States.{StatesView}
use Rattle.rctl_grammar.specs.declared.token.Token.{Token}
use Rattle.witness_kinds.specs.declared.Path.{Path}
use Rattle.view_parts.specs.Each.{each_below}
use Rattle.view_parts.specs.Parts.{place}
use Rattle.view_parts.specs.Naming.{begin_with_next, names}
use Rattle.view_parts.specs.About.{is_about}
use Rattle.view_parts.specs.declared.extent.Extent.{Extent}
use Rattle.view_parts.specs.declared.extent.Extent.TheVariants as extent

-- the formula is about the event; with `EX` it is about each
abbrev pub keeps : StatesView → List Token → EventId → Bool
keeps s tokens e = names begin_with_next tokens || is_about s tokens e

-- it is about the event at this position of the process
abbrev pub kept_at : StatesView → List Token → ℕ → ℕ → Bool
kept_at s tokens process position = keeps s tokens (place process position)

-- how many of the steps it is about
abbrev pub kept_among : StatesView → List Token → List EventId → ℕ
kept_among s tokens steps = count_by (keeps s tokens) steps

-- how many steps of each process are shown at most, where the formula is about so many in all
abbrev pub limit_of : Extent → ℕ → ℕ
limit_of extent.Folded kept = if nat_le kept 60 then 60 else 12
limit_of (extent.Last limit) kept = limit
limit_of extent.Whole kept = 0

-- the position above which lie the last `limit` kept ones of the first n events of a process
unfoldable pub shown_above : (ℕ → Bool) → ℕ → ℕ → ℕ
shown_above kept zero n = n
shown_above kept (suc limit) zero = zero
shown_above kept (suc limit) (suc n) =
    if kept (suc n) then shown_above kept limit n else shown_above kept (suc limit) n

-- how many events behind this position, up to event n, are kept
unfoldable pub kept_behind : (ℕ → Bool) → ℕ → ℕ → ℕ
kept_behind kept position zero = zero
kept_behind kept position (suc n) =
    if nat_lt position (suc n) && kept (suc n) then suc (kept_behind kept position n)
    else kept_behind kept position n

-- the position above which each process's steps on the way to the goal are shown
abbrev pub bounds_of : StatesView → List Token → Extent → Path → List ℕ
bounds_of s tokens e path =
    each_below (length s.events)
    (λ process. shown_above (kept_at s tokens process) (limit_of e (kept_among s tokens path.steps))
    (count path.goal process) ∷ [])

-- whether a path with so many steps is shown whole
abbrev pub is_whole : Extent → ℕ → Bool
is_whole extent.Folded steps = nat_le steps 30
is_whole (extent.Last limit) steps = false
is_whole extent.Whole steps = true

-- whether a step is shown, of a path that is shown whole or above these positions
abbrev pub is_shown : StatesView → List Token → Bool → List ℕ → EventId → Bool
is_shown s tokens whole bounds e =
    whole || (nat_lt (get_or bounds e.process 0) e.position && keeps s tokens e)
