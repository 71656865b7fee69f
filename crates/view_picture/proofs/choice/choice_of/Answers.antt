use Rattle.std.proofs.Common.{◌≡◌, ◌<◌, ◌≤◌, ℕ, Bool, List, [], length, get_or, sym, ap, subst, ◌∙◌}
use Rattle.std.proofs.lemmas.List.{length-map}
use Rattle.std.specs.Prelude.{Option, IfSome}
use Rattle.std.specs.Option.{option_copied}
use Rattle.run_model.specs.Cut.{Cut}
use Rattle.pota_base.specs.declared.shape.EventId.{EventId}
use Rattle.report_lines.specs.Spelling.{CutFits}
use Rattle.view_picture.specs.declared.choice.Span.{Span}
use Rattle.view_picture.specs.declared.choice.Choice.{Choice}
use Rattle.view_picture.specs.Told.{first_drawn, goal_of}
use Rattle.view_picture.specs.Choice.{keeps_all, kept_count, limit_of, spans_of, end_of}
use Rattle.view_picture.proofs.Places.{goal_fits, goal_width, goal_end}
use Rattle.view_picture.proofs.choice.choice_of.Goals as goal

pub spans_of-requires-clause-goal : goal.spans_of-requires-clause-goal
spans_of-requires-clause-goal c =
    let r = c.args.report.now in
    let n = length c.args.states.now.events in
    let is : option_copied c.goal_of-goal.result ≡ goal_of (first_drawn r.witnesses) = c.goal_of-goal.ensures ∙ ap goal_of (c.first_drawn.ensures ∙ ap first_drawn c.as_slice.ensures) in
    subst (λ (o : Option Cut). IfSome o (λ (cut : Cut). length cut ≡ n)) (sym is)
    (goal_width r.lengths n (goal_of (first_drawn r.witnesses)) (ap length c.requires.fits.lengths ∙ length-map c.args.states.now.events length) (goal_fits r.lengths r.witnesses c.requires.formed.witnesses))

pub spans_of-requires-clause-within : goal.spans_of-requires-clause-within
spans_of-requires-clause-within c =
    let s = c.args.states.now in
    let r = c.args.report.now in
    let is : option_copied c.goal_of-goal.result ≡ goal_of (first_drawn r.witnesses) = c.goal_of-goal.ensures ∙ ap goal_of (c.first_drawn.ensures ∙ ap first_drawn c.as_slice.ensures) in
    let fits = subst (λ (l : Cut). IfSome (goal_of (first_drawn r.witnesses)) (CutFits l)) c.requires.fits.lengths (goal_fits r.lengths r.witnesses c.requires.formed.witnesses) in
    subst (λ (o : Option Cut). (process : ℕ) → process < length s.events → end_of s o process ≤ length (get_or s.events process [])) (sym is) (goal_end s (goal_of (first_drawn r.witnesses)) fits)

pub returns : goal.returns
returns c =
    let s = c.args.states.now in
    let t = c.args.tokens.now in
    let x = c.args.extent in
    let r = c.args.report.now in
    let all : Bool = keeps_all s t x in
    let goals : Option Cut = goal_of (first_drawn r.witnesses) in
    let is : option_copied c.goal_of-goal.result ≡ goals = c.goal_of-goal.ensures ∙ ap goal_of (c.first_drawn.ensures ∙ ap first_drawn c.as_slice.ensures) in
    let given = option_copied c.goal_of-goal.result in
    let spans : c.in_ok-spans.spans ≡ spans_of s t all (limit_of x (kept_count s t all)) goals =
    c.in_ok-spans.ensures ∙ ap (λ (l : Option ℕ). spans_of s t c.keeps_all-all.result l given) (c.limit_of-limit.ensures ∙ ap (limit_of x) c.kept_count.ensures)
    ∙ ap (λ (a : Bool). spans_of s t a (limit_of x (kept_count s t a)) given) c.keeps_all-all.ensures ∙ ap (spans_of s t all (limit_of x (kept_count s t all))) is in
    let made : Bool → List Span → List EventId → Choice = λ a sp n. record { all = a; spans = sp; named = n } in
    ap (λ (a : Bool). made a c.in_ok-spans.spans c.in_ok-named.named) c.keeps_all-all.ensures ∙ ap (λ (sp : List Span). made all sp c.in_ok-named.named) spans ∙ ap (made all (spans_of s t all (limit_of x (kept_count s t all)) goals)) c.in_ok-named.ensures
