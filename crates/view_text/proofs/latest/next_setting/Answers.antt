use Rattle.std.proofs.Common.{◌≡◌, true, false, ◌<◌, ◌≤◌, [], ℕ, List, length, get_or, sym, ap, subst, ◌∙◌, arith}
use Rattle.std.proofs.lemmas.List.{get_or-map}
use Rattle.view_parts.specs.Parts.{no_event}
use Rattle.view_text.specs.Latest.{sets}
use Rattle.view_text.proofs.Settings.{next_here, next_later, next_never, one_less}
use Rattle.view_text.proofs.latest.next_setting.Goals as goal

pub returns-then-sets-clause-next : goal.returns-then-sets-clause-next
returns-then-sets-clause-next c =
    let events = get_or c.args.states.now.events c.args.process [] in
    let at = c.loop-before.before in
    let len : c.len_of-before-end.result ≡ length events =
    c.len_of-before-end.ensures.len ∙ ap (λ (l : List ℕ). get_or l c.args.process 0) c.shape.ensures ∙ get_or-map length c.args.states.now.events c.args.process [] 0 c.requires.process in
    let lt : at < length events = subst (λ (n : ℕ). at < n) len c.loop-before-test.true in
    let set : sets c.args.variable (get_or events at no_event) ≡ true =
    ap (λ (i : ℕ). sets c.args.variable (get_or events i no_event)) (sym (one_less at)) ∙ ap (sets c.args.variable) (sym c.event_at.ensures) ∙ sym c.sets.ensures ∙ c.if-sets.true in
    sym (c.loop-before.invariant ∙ next_here events c.args.variable at lt set)

pub loop-before-preserved : goal.loop-before-preserved
loop-before-preserved c =
    let events = get_or c.args.states.now.events c.args.process [] in
    let at = c.loop-before.before in
    let len : c.len_of-before-end.result ≡ length events =
    c.len_of-before-end.ensures.len ∙ ap (λ (l : List ℕ). get_or l c.args.process 0) c.shape.ensures ∙ get_or-map length c.args.states.now.events c.args.process [] 0 c.requires.process in
    let lt : at < length events = subst (λ (n : ℕ). at < n) len c.loop-before-test.true in
    let set : sets c.args.variable (get_or events at no_event) ≡ false =
    ap (λ (i : ℕ). sets c.args.variable (get_or events i no_event)) (sym (one_less at)) ∙ ap (sets c.args.variable) (sym c.event_at.ensures) ∙ sym c.sets.ensures ∙ c.if-sets.false in
    c.loop-before.invariant ∙ next_later events c.args.variable at lt set

pub returns-clause-next : goal.returns-clause-next
returns-clause-next c =
    let events = get_or c.args.states.now.events c.args.process [] in
    let at = c.loop-before.before in
    let len : c.len_of-before-end.result ≡ length events =
    c.len_of-before-end.ensures.len ∙ ap (λ (l : List ℕ). get_or l c.args.process 0) c.shape.ensures ∙ get_or-map length c.args.states.now.events c.args.process [] 0 c.requires.process in
    let past : length events ≤ at = subst (λ (n : ℕ). n ≤ at) len (omega (arith, c.loop-before-test.false)) in
    sym (c.loop-before.invariant ∙ next_never events c.args.variable at past)
