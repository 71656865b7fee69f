-- Which events of a run are shown.
use Rattle.std.specs.Prelude.{ℕ, zero, suc, Bool, true, false, ◌==◌, ◌&&◌, ◌||◌, nat_lt, nat_le}
use Rattle.std.specs.Prelude.{List, [], ◌∷◌}
use Rattle.std.specs.Prelude.{length, map, get_or, Option, None, Some, if◌then◌else◌}
use Rattle.std.specs.List.{count_by, list_any}
use Rattle.run_model.specs.Cut.{Cut, count}
use Rattle.pota_base.specs.declared.shape.EventId.{EventId}
use Rattle.event_log.specs.States.{StatesView}
use Rattle.rctl_grammar.specs.declared.token.Token.{Token}
use Rattle.rctl_lexer.specs.Lexing.{lex}
use Rattle.report.specs.declared.report.Report.{Report}
use Rattle.view_parts.specs.Each.{each_below, places}
use Rattle.view_parts.specs.Parts.{place}
use Rattle.view_parts.specs.Naming.{begin_with_next, names}
use Rattle.view_parts.specs.About.{is_about}
use Rattle.view_parts.specs.declared.extent.Extent.{Extent}
use Rattle.view_parts.specs.declared.extent.Extent.TheVariants as extent
use Rattle.view_picture.specs.declared.choice.Span.{Span}
use Rattle.view_picture.specs.declared.choice.Choice.{Choice}
use Rattle.view_picture.specs.Told.{first_drawn, goal_of, named_in}

abbrev pub formula_tokens : Report → List Token
formula_tokens r = (lex r.formula).tokens

-- the formula is about the event, or about each
abbrev pub keeps : StatesView → List Token → Bool → EventId → Bool
keeps s tokens all e = all || is_about s tokens e

-- how many events of the run it is about
abbrev pub kept_count : StatesView → List Token → Bool → ℕ
kept_count s tokens all = count_by (keeps s tokens all) (places (map length s.events))

-- with `EX` a formula is about each event; and where it is about none, each may be shown
abbrev pub is_open : StatesView → List Token → Bool
is_open s tokens = names begin_with_next tokens || kept_count s tokens false == 0

abbrev pub is_whole : Extent → Bool
is_whole extent.Folded = false
is_whole (extent.Last limit) = false
is_whole extent.Whole = true

-- whether each event is kept
abbrev pub keeps_all : StatesView → List Token → Extent → Bool
keeps_all s tokens x = is_whole x || is_open s tokens

-- how many kept events of each process are shown at most, if there is a limit: where more than 60
-- are kept in all
abbrev pub limit_of : Extent → ℕ → Option ℕ
limit_of extent.Folded kept = if nat_le kept 60 then None else Some 12
limit_of (extent.Last limit) kept = Some limit
limit_of extent.Whole kept = None

-- how many events of a process the goal has, and all where there is no goal
abbrev pub end_of : StatesView → Option Cut → ℕ → ℕ
end_of s None process = get_or (map length s.events) process 0
end_of s (Some goal) process = count goal process

-- the position above which lie the last `limit` kept ones of the first n events of a process
unfoldable pub shown_above : (ℕ → Bool) → ℕ → ℕ → ℕ
shown_above kept zero n = n
shown_above kept (suc limit) zero = zero
shown_above kept (suc limit) (suc n) =
    if kept (suc n) then shown_above kept limit n else shown_above kept (suc limit) n

-- without a limit all events of a process, and else so many before the goal as have the last kept
-- ones
abbrev pub span_of : StatesView → List Token → Bool → Option ℕ → Option Cut → ℕ → Span
span_of s tokens all None goal process =
    record { above = 0; upto = get_or (map length s.events) process 0 }
span_of s tokens all (Some limit) goal process = record {
  above =
      shown_above (λ position. keeps s tokens all (place process position)) limit
      (end_of s goal process);
  upto = end_of s goal process;
}

abbrev pub spans_of : StatesView → List Token → Bool → Option ℕ → Option Cut → List Span
spans_of s tokens all limit goal =
    each_below (length s.events) (λ process. span_of s tokens all limit goal process ∷ [])

-- what is shown of a run by a report of it
abbrev pub choice_of : StatesView → List Token → Extent → Report → Choice
choice_of s tokens x r = record {
  all = keeps_all s tokens x;
  spans =
      spans_of s tokens (keeps_all s tokens x)
      (limit_of x (kept_count s tokens (keeps_all s tokens x)))
      (goal_of (first_drawn r.witnesses));
  named = named_in r;
}

abbrev pub no_span : Span
no_span = record { above = 0; upto = 0 }

abbrev pub is_within : Span → ℕ → Bool
is_within span position = nat_lt span.above position && nat_le position span.upto

abbrev pub is_place : EventId → EventId → Bool
is_place e f = f.process == e.process && f.position == e.position

-- whether an event is shown: a kept one within the span of its process, or one that the report
-- names
abbrev pub wants : StatesView → List Token → Choice → EventId → Bool
wants s tokens choice e =
    (keeps s tokens choice.all e && is_within (get_or choice.spans e.process no_span) e.position)
    || list_any (is_place e) choice.named

-- whether the picture of a run by a report of it shows the event
abbrev pub is_wanted : StatesView → Extent → Report → EventId → Bool
is_wanted s x r =
    wants s (formula_tokens r) (choice_of s (formula_tokens r) x r)
