-- What is passed without a fault stays within the limits.
use Rattle.std.specs.Prelude.{ℕ, ◌+◌, ◌<◌, ◌≤◌, nat_lt, Bool, true, false, List, [], ◌∷◌, Option, None, Some, if◌then◌else◌}
use Rattle.std.proofs.Common.{◌≡◌, refl, subst, arith}
use Rattle.std.proofs.lemmas.Option.{same_Some}
use Rattle.std.proofs.lemmas.Bool.{and_from, cond_both, ltb-true}
use Rattle.pota_base.specs.Number.{◌>>=◌}
use Rattle.run_model.specs.Run.{Name}
use Rattle.rctl_grammar.specs.declared.token.Kind.{Kind}
use Rattle.rctl_grammar.specs.declared.token.Kind.TheVariants as kind
use Rattle.rctl_grammar.specs.declared.token.Word.{Word}
use Rattle.rctl_grammar.specs.declared.token.Word.TheVariants as word
use Rattle.rctl_grammar.specs.declared.token.Token.{Token}
use Rattle.run_model.specs.Formula as model
use Rattle.pota_base.specs.Limits.{deepest, most_nodes}
use Rattle.rctl_grammar.specs.declared.fault.FormulaFault.{FormulaFault}
use Rattle.rctl_grammar.specs.Grammar.{Spelled, number, variable, constant, comparison, watch, transit, emptiness, difference, Disjunction, one_conjunction, or, Conjunction, one_unary, and, Unary, leaf, negation, temporal, stepping, group, until, levels_disjunction, levels_conjunction, levels_unary, nodes_disjunction, nodes_conjunction, nodes_unary, in_range, counts, disjunction_in_range, conjunction_in_range, unary_in_range}
use Rattle.rctl_grammar.specs.Machine.{ChannelWord, of_transit, of_emptiness, Front, process_dot, left_side, compared, right_process, right_dot, process_at, channel_word, channel_opened, channel_sender, channel_comma, channel_receiver, transit_channel, transit_compared, subtracting, subtracted_process, subtracted_dot, both_sides, difference_compared, Before, nothing, bar, Outer, top, in_group, in_left, in_right, Open, first_of, next_of, in_negation, in_temporal, in_stepping, State, operand, a_word, in_leaf, a_path, a_stepping, after, joined, plug, settled, step, step_kind, step_now, step_close, no_sign, following}
use Rattle.rctl_grammar.specs.FirstFault.{depth, depth_outer, nodes_open, nodes_outer, nodes_before, level_opens, node_stands, either, word_limit, operand_limit, front_limit, path_limit, after_limit, limit_now, settled_limit, limit, Passed, passed, stopped, placed, number_at, too_deep_at, too_many_at}
use Rattle.rctl_laws.proofs.Scan.{and_on, step_limited, scan}

-- ---- what is within the limits

-- a disjunction inside so many levels
abbrev pub FitsIn : ℕ → Disjunction → Type 0
FitsIn levels d = (levels + levels_disjunction d ≤ deepest) × (disjunction_in_range d ≡ true)

abbrev pub FitsBefore : ℕ → Before → Type 0
FitsBefore levels nothing = Unit {0}
FitsBefore levels (bar d at) = FitsIn levels d

abbrev pub FitsConjunction : ℕ → Conjunction → Type 0
FitsConjunction levels c = (levels + levels_conjunction c ≤ deepest) × (conjunction_in_range c ≡ true)

abbrev mutual
  pub FitsOuter : Outer → Type 0
  FitsOuter top = Unit {0}
  FitsOuter (in_group o opened) = FitsOpen o × (depth o < deepest)
  FitsOuter (in_left o path) = FitsOpen o × (depth o < deepest)
  FitsOuter (in_right o path left name at) = FitsOpen o × FitsIn (depth o + 1) left

  pub FitsOpen : Open → Type 0
  FitsOpen (first_of outer before) = FitsOuter outer × FitsBefore (depth_outer outer) before
  FitsOpen (next_of outer before c at) = FitsOuter outer × FitsBefore (depth_outer outer) before × FitsConjunction (depth_outer outer) c
  FitsOpen (in_negation o at) = FitsOpen o × (depth o < deepest)
  FitsOpen (in_temporal o op name at) = FitsOpen o × (depth o < deepest)
  FitsOpen (in_stepping o name at process) = FitsOpen o × (depth o < deepest)

abbrev pub Fits : State → Type 0
Fits (operand o) = FitsOpen o × (nodes_open o ≤ most_nodes)
Fits (a_word o w) = FitsOpen o × (nodes_open o ≤ most_nodes)
Fits (in_leaf o front) = FitsOpen o × (nodes_open o < most_nodes)
Fits (a_path o all name at) = FitsOpen o × (nodes_open o < most_nodes)
Fits (a_stepping o name at) = FitsOpen o × (depth o < deepest) × (nodes_open o < most_nodes)
Fits (after outer before c) =
    FitsOuter outer × FitsBefore (depth_outer outer) before × FitsConjunction (depth_outer outer) c × (nodes_outer outer + nodes_before before + nodes_conjunction c ≤ most_nodes)

outer-depth : (outer : Outer) → FitsOuter outer → depth_outer outer ≤ deepest
outer-depth top h = omega arith
outer-depth (in_group o opened) h = omega (arith, h.1)
outer-depth (in_left o path) h = omega (arith, h.1)
outer-depth (in_right o path left name at) h = omega (arith, h.1.0)

open-depth : (o : Open) → FitsOpen o → depth o ≤ deepest
open-depth (first_of outer before) h = outer-depth outer h.0
open-depth (next_of outer before c at) h = outer-depth outer h.0
open-depth (in_negation o at) h = omega (arith, h.1)
open-depth (in_temporal o op name at) h = omega (arith, h.1)
open-depth (in_stepping o name at process) h = omega (arith, h.1)

plug-fits : (o : Open) (u : Unary) → FitsOpen o → depth o + levels_unary u ≤ deepest → unary_in_range u ≡ true → nodes_open o + nodes_unary u ≤ most_nodes → Fits (plug o u)
plug-fits (first_of outer before) u h levels range nodes = (h.0, h.1, (levels, range), nodes)
plug-fits (next_of outer before c at) u h levels range nodes =
    (h.0, h.1, (omega (arith, h.2.0), and_from (conjunction_in_range c) (unary_in_range u) h.2.1 range), omega arith)
plug-fits (in_negation o at) u h levels range nodes = plug-fits o (negation at u) h.0 (omega arith) range (omega arith)
plug-fits (in_temporal o op name at) u h levels range nodes = plug-fits o (temporal op name at u) h.0 (omega arith) range (omega arith)
plug-fits (in_stepping o name at process) u h levels range nodes = plug-fits o (stepping name at process u) h.0 (omega arith) range (omega arith)

-- ---- steps

abbrev Next : Option FormulaFault → Option State → Type 0
Next (Some fault) next = Unit {0}
Next None None = Unit {0}
Next None (Some s) = Fits s

-- a level opens, or a node stands, where there is room
if-level : (levels here : ℕ) (next : Option State) → (levels < deepest → Next None next) → Next (level_opens levels here) next
if-level levels here next h = cond_both (nat_lt levels deepest) None (Some (too_deep_at here)) (λ b. Next b next) (λ e. h (ltb-true levels deepest e)) (λ e. tt)

if-node : (nodes here : ℕ) (next : Option State) → (nodes < most_nodes → Next None next) → Next (node_stands nodes here) next
if-node nodes here next h = cond_both (nat_lt nodes most_nodes) None (Some (too_many_at here)) (λ b. Next b next) (λ e. h (ltb-true nodes most_nodes e)) (λ e. tt)

if-both : (levels nodes here : ℕ) (next : Option State) → (levels < deepest → nodes < most_nodes → Next None next) → Next (either (level_opens levels here) (node_stands nodes here)) next
if-both levels nodes here next h =
    cond_both (nat_lt levels deepest) None (Some (too_deep_at here)) (λ b. Next (either b (node_stands nodes here)) next)
    (λ e. if-node nodes here next (h (ltb-true levels deepest e))) (λ e. tt)

fits-operand : (o : Open) (k : Kind) (here : ℕ) → Fits (operand o) → Next (operand_limit o k here) (step_now (operand o) k here)
fits-operand o kind.Bang here h = if-both (depth o) (nodes_open o) here (Some (operand (in_negation o here))) (λ shallow room. ((h.0, shallow), omega arith))
fits-operand o kind.OpenRound here h = if-level (depth o) here (Some (operand (first_of (in_group o here) nothing))) (λ shallow. (((h.0, shallow), tt), omega (arith, h.1)))
fits-operand o (kind.Word w name) here h = h
fits-operand o k here h = tt

leaf-range : (o : Open) (here : ℕ) (is_in_range : Bool) (u : Unary) → unary_in_range u ≡ is_in_range → FitsOpen o → levels_unary u ≡ 0 → nodes_unary u ≡ 1 → nodes_open o < most_nodes
    → Next (if is_in_range then None else Some (number_at here)) (Some (plug o u))
leaf-range o here true u range h flat one room = plug-fits o u h (let d = open-depth o h in omega arith) range (omega arith)
leaf-range o here false u range h flat one room = tt

leaf-whole : (o : Open) (u : Unary) → unary_in_range u ≡ true → FitsOpen o → levels_unary u ≡ 0 → nodes_unary u ≡ 1 → nodes_open o < most_nodes → Fits (plug o u)
leaf-whole o u range h flat one room = plug-fits o u h (let d = open-depth o h in omega arith) range (omega arith)

fits-channel : (o : Open) (w : ChannelWord) (name : Name) (at opened : ℕ) (sender : Spelled) (comma : ℕ) (receiver : Spelled) (here : ℕ) → FitsOpen o → nodes_open o < most_nodes
    → Next None (step_now (in_leaf o (channel_receiver w name at opened sender comma receiver)) kind.CloseRound here)
fits-channel o of_transit name at opened sender comma receiver here h room = (h, room)
fits-channel o of_emptiness name at opened sender comma receiver here h room =
    leaf-whole o (leaf (emptiness name at (record { opened = opened; sender = sender; comma = comma; receiver = receiver; closed = here }))) refl h refl refl room

fits-leaf : (o : Open) (front : Front) (k : Kind) (here : ℕ) → Fits (in_leaf o front) → Next (front_limit front k here) (step_now (in_leaf o front) k here)
fits-leaf o (process_dot process dot) (kind.Word w name) here h = h
fits-leaf o (process_dot process dot) k here h = tt
fits-leaf o (left_side left) (kind.Compare c) here h = h
fits-leaf o (left_side left) kind.Minus here h = h
fits-leaf o (left_side left) k here h = tt
fits-leaf o (compared left c at) (kind.Number value) here h = leaf-range o here (in_range value) (leaf (comparison left c at (number value here))) refl h.0 refl refl h.1
fits-leaf o (compared left c at) (kind.Word w name) here h = h
fits-leaf o (compared left c at) k here h = tt
fits-leaf o (right_process left c at process) kind.Dot here h = h
fits-leaf o (right_process left c at process) k here h = tt
fits-leaf o (right_dot left c at process dot) (kind.Word w name) here h =
    leaf-whole o (leaf (comparison left c at (variable (record { process = process; dot = dot; variable = record { word = w; name = name; at = here } })))) refl h.0 refl refl h.1
fits-leaf o (right_dot left c at process dot) k here h = tt
fits-leaf o (process_at process at) (kind.Word w name) here h = leaf-whole o (leaf (watch process at (record { word = w; name = name; at = here }))) refl h.0 refl refl h.1
fits-leaf o (process_at process at) k here h = tt
fits-leaf o (channel_word w name at) kind.OpenRound here h = h
fits-leaf o (channel_word w name at) k here h = tt
fits-leaf o (channel_opened w name at opened) (kind.Word v sender) here h = h
fits-leaf o (channel_opened w name at opened) k here h = tt
fits-leaf o (channel_sender w name at opened sender) kind.Comma here h = h
fits-leaf o (channel_sender w name at opened sender) k here h = tt
fits-leaf o (channel_comma w name at opened sender comma) (kind.Word v receiver) here h = h
fits-leaf o (channel_comma w name at opened sender comma) k here h = tt
fits-leaf o (channel_receiver w name at opened sender comma receiver) kind.CloseRound here h = fits-channel o w name at opened sender comma receiver here h.0 h.1
fits-leaf o (channel_receiver w name at opened sender comma receiver) k here h = tt
fits-leaf o (transit_channel name at channel) (kind.Compare c) here h = h
fits-leaf o (transit_channel name at channel) k here h = tt
fits-leaf o (transit_compared name at channel c compare_at) (kind.Number value) here h = leaf-range o here (counts value) (leaf (transit name at channel c compare_at value here)) refl h.0 refl refl h.1
fits-leaf o (transit_compared name at channel c compare_at) k here h = tt
fits-leaf o (subtracting left minus) (kind.Word w name) here h = h
fits-leaf o (subtracting left minus) k here h = tt
fits-leaf o (subtracted_process left minus process) kind.Dot here h = h
fits-leaf o (subtracted_process left minus process) k here h = tt
fits-leaf o (subtracted_dot left minus process dot) (kind.Word w name) here h = h
fits-leaf o (subtracted_dot left minus process dot) k here h = tt
fits-leaf o (both_sides left minus right) (kind.Compare c) here h = h
fits-leaf o (both_sides left minus right) k here h = tt
fits-leaf o (difference_compared left minus right c compare_at) (kind.Number value) here h =
    leaf-range o here (in_range value) (leaf (difference left minus right c compare_at value here)) refl h.0 refl refl h.1
fits-leaf o (difference_compared left minus right c compare_at) k here h = tt

fits-path : (o : Open) (all : Bool) (name : Name) (at : ℕ) (k : Kind) (here : ℕ) → Fits (a_path o all name at) → Next (path_limit o k here) (step_now (a_path o all name at) k here)
fits-path o all name at kind.OpenSquare here h =
    if-level (depth o) here (Some (operand (first_of (in_left o (record { all = all; name = name; at = at; opened = here })) nothing))) (λ shallow. (((h.0, shallow), tt), omega (arith, h.1)))
fits-path o all name at k here h = tt

fits-stepping : (o : Open) (name : Name) (at : ℕ) (k : Kind) (here : ℕ) → Fits (a_stepping o name at) → Next None (step_now (a_stepping o name at) k here)
fits-stepping o name at (kind.Word w process) here h = ((h.0, h.1), omega (arith, h.2))
fits-stepping o name at k here h = tt

fits-close : (outer : Outer) (d : Disjunction) (k : Kind) (here : ℕ) → FitsOuter outer → FitsIn (depth_outer outer) d → nodes_outer outer + nodes_disjunction d ≤ most_nodes → Next None (step_close outer d k here)
fits-close top d k here h fits nodes = tt
fits-close (in_group o opened) d kind.CloseRound here h fits nodes = plug-fits o (group opened d here) h.0 (omega (arith, fits.0)) fits.1 nodes
fits-close (in_group o opened) d k here h fits nodes = tt
fits-close (in_left o path) d (kind.Word word.U name) here h fits nodes = (((h.0, fits), tt), omega arith)
fits-close (in_left o path) d k here h fits nodes = tt
fits-close (in_right o path left name at) d kind.CloseSquare here h fits nodes =
    plug-fits o (until path left name at d here) h.0 (omega (arith, fits.0, h.1.0)) (and_from (disjunction_in_range left) (disjunction_in_range d) h.1.1 fits.1) (omega arith)
fits-close (in_right o path left name at) d k here h fits nodes = tt

-- the disjunction that a conjunction ends
pub joined_fits : (levels : ℕ) (before : Before) (c : Conjunction) → FitsBefore levels before → FitsConjunction levels c → FitsIn levels (joined before c)
joined_fits levels nothing c hb hc = hc
joined_fits levels (bar d at) c hb hc = (omega (arith, hb.0, hc.0), and_from (disjunction_in_range d) (conjunction_in_range c) hb.1 hc.1)

fits-after : (outer : Outer) (before : Before) (c : Conjunction) (k : Kind) (here : ℕ) → Fits (after outer before c) → Next (after_limit outer before c (following k) here) (step_now (after outer before c) k here)
fits-after outer before (one_unary u) kind.Amp here h =
    if-node (nodes_outer outer + nodes_before before + nodes_conjunction (one_unary u)) here (Some (operand (next_of outer before (one_unary u) here))) (λ room. ((h.0, h.1, h.2), omega arith))
fits-after outer before (and c at u) kind.Amp here h = ((h.0, h.1, h.2), omega (arith, h.3))
fits-after outer nothing c kind.Bar here h =
    if-node (nodes_outer outer + nodes_conjunction c) here (Some (operand (first_of outer (bar (one_conjunction c) here)))) (λ room. ((h.0, h.2), omega arith))
fits-after outer (bar d at) c kind.Bar here h = ((h.0, joined_fits (depth_outer outer) (bar d at) c h.1 h.2), omega (arith, h.3))
fits-after outer nothing c k here h = fits-close outer (one_conjunction c) k here h.0 h.2 (omega (arith, h.3))
fits-after outer (bar d at) c k here h = fits-close outer (or d at c) k here h.0 (joined_fits (depth_outer outer) (bar d at) c h.1 h.2) (omega (arith, h.3))

fits-now : (s : State) (k : Kind) (here : ℕ) → Fits s → Next (limit_now s k here) (step_now s k here)
fits-now (operand o) k here h = fits-operand o k here h
fits-now (a_word o w) k here h = tt
fits-now (in_leaf o front) k here h = fits-leaf o front k here h
fits-now (a_path o all name at) k here h = fits-path o all name at k here h
fits-now (a_stepping o name at) k here h = fits-stepping o name at k here h
fits-now (after outer before c) k here h = fits-after outer before c k here h

-- ---- a word

pub either_none : (a b : Option FormulaFault) → either a b ≡ None → (a ≡ None) × (b ≡ None)
either_none None b e = (refl, e)
either_none (Some fault) b e = absurd cc

node-room : (nodes here : ℕ) → node_stands nodes here ≡ None → nodes < most_nodes
node-room nodes here = cond_both (nat_lt nodes most_nodes) None (Some (too_many_at here)) (λ b. b ≡ None → nodes < most_nodes) (λ e h. ltb-true nodes most_nodes e) (λ e h. absurd cc)

level-room : (levels here : ℕ) → level_opens levels here ≡ None → levels < deepest
level-room levels here = cond_both (nat_lt levels deepest) None (Some (too_deep_at here)) (λ b. b ≡ None → levels < deepest) (λ e h. ltb-true levels deepest e) (λ e h. absurd cc)

word-operator : (o : Open) (op : model.Operator) (name : Name) (at : ℕ) (s : State) → Some (operand (in_temporal o op name at)) ≡ Some s → FitsOpen o
    → either (level_opens (depth o) at) (node_stands (nodes_open o) at) ≡ None → Fits s
word-operator o op name at s e h free =
    let each = either_none (level_opens (depth o) at) (node_stands (nodes_open o) at) free in
    let room = node-room (nodes_open o) at each.1 in
    subst Fits (same_Some _ _ e) ((h, level-room (depth o) at each.0), omega arith)

word-fits : (o : Open) (w : Word) (name : Name) (at : ℕ) (s : State) → settled o (record { word = w; name = name; at = at }) ≡ Some s → FitsOpen o
    → word_limit o (record { word = w; name = name; at = at }) no_sign ≡ None → Fits s
word-fits o word.Ef name at s e h free = word-operator o model.Ef name at s e h free
word-fits o word.Ag name at s e h free = word-operator o model.Ag name at s e h free
word-fits o word.Eg name at s e h free = word-operator o model.Eg name at s e h free
word-fits o word.Ex name at s e h free =
    let each = either_none (level_opens (depth o) at) (node_stands (nodes_open o) at) free in
    subst Fits (same_Some _ _ e) (h, level-room (depth o) at each.0, node-room (nodes_open o) at each.1)
word-fits o word.Af name at s e h free = word-operator o model.Af name at s e h free
word-fits o word.Ax name at s e h free = word-operator o model.Ax name at s e h free
word-fits o word.E name at s e h free = subst Fits (same_Some _ _ e) (h, node-room (nodes_open o) at free)
word-fits o word.A name at s e h free = subst Fits (same_Some _ _ e) (h, node-room (nodes_open o) at free)
word-fits o word.U name at s e h free = absurd cc
word-fits o word.True name at s e h free = subst Fits (same_Some _ _ e) (leaf-whole o (leaf (constant true name at)) refl h refl refl (node-room (nodes_open o) at free))
word-fits o word.False name at s e h free = subst Fits (same_Some _ _ e) (leaf-whole o (leaf (constant false name at)) refl h refl refl (node-room (nodes_open o) at free))
word-fits o word.InTransit name at s e h free = subst Fits (same_Some _ _ e) (h, node-room (nodes_open o) at free)
word-fits o word.Empty name at s e h free = subst Fits (same_Some _ _ e) (h, node-room (nodes_open o) at free)
word-fits o word.Plain name at s e h free = absurd cc

pub settled_fits : (o : Open) (w : Spelled) (s : State) → settled o w ≡ Some s → Fits (a_word o w) → word_limit o w no_sign ≡ None → Fits s
settled_fits o w s e h free = word-fits o w.word w.name w.at s e h.0 free

word-next : (o : Open) (w : Spelled) (k : Kind) (here : ℕ) → Fits (a_word o w) → (broken : Option FormulaFault) → word_limit o w no_sign ≡ broken → (next : Option State) → settled o w ≡ next
    → Next (either broken (settled_limit next k here)) (next >>= λ s. step_now s k here)
word-next o w k here h (Some fault) free next e = tt
word-next o w k here h None free None e = tt
word-next o w k here h None free (Some s) e = fits-now s k here (settled_fits o w s e h free)

named-next : (o : Open) (at : ℕ) (front : Front) → Fits (operand o) → Next (either (node_stands (nodes_open o) at) None) (Some (in_leaf o front))
named-next o at front h =
    cond_both (nat_lt (nodes_open o) most_nodes) None (Some (too_many_at at)) (λ b. Next (either b None) (Some (in_leaf o front))) (λ e. (h.0, ltb-true (nodes_open o) most_nodes e)) (λ e. tt)

fits-word : (o : Open) (w : Spelled) (k : Kind) (here : ℕ) → Fits (a_word o w) → Next (limit (a_word o w) k here) (step_kind (a_word o w) k here)
fits-word o w kind.Dot here h = named-next o w.at (process_dot w here) h
fits-word o w kind.At here h = named-next o w.at (process_at w here) h
fits-word o w k here h = word-next o w k here h (word_limit o w no_sign) refl (settled o w) refl

fits-step : (s : State) (k : Kind) (here : ℕ) → Fits s → Next (limit s k here) (step_kind s k here)
fits-step (operand o) k here h = fits-operand o k here h
fits-step (a_word o w) k here h = fits-word o w k here h
fits-step (in_leaf o front) k here h = fits-leaf o front k here h
fits-step (a_path o all name at) k here h = fits-path o all name at k here h
fits-step (a_stepping o name at) k here h = fits-stepping o name at k here h
fits-step (after outer before c) k here h = fits-after outer before c k here h

-- ---- the tokens that are passed

placed-fits : (broken : Option FormulaFault) (next : Option State) (here : ℕ) (x : State) → Next broken next → placed broken next here ≡ passed x → Fits x
placed-fits (Some fault) next here x h e = absurd cc
placed-fits None (Some s) here x h e = let same : s ≡ x = cc in subst Fits same h
placed-fits None None here x h e = absurd cc

fits-on : (p : List Token) (x : State) (after_step : Passed) → ((y : State) → after_step ≡ passed y → scan y p ≡ passed x → Fits x) → and_on after_step (λ y. scan y p) ≡ passed x → Fits x
fits-on p x (passed y) more e = more y refl e
fits-on p x (stopped fault) more e = absurd cc

pub scan_fits : (p : List Token) (s x : State) → Fits s → scan s p ≡ passed x → Fits x
scan_fits [] s x h e = let same : s ≡ x = cc in subst Fits same h
scan_fits (t ∷ p) s x h e =
    fits-on p x (step_limited s t) (λ y is. scan_fits p y x (placed-fits (limit s t.kind t.at) (step s t) t.at y (fits-step s t.kind t.at h) is)) e
