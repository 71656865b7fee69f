-- No level too deep and no node too many comes before the first fault.
use Rattle.std.specs.Prelude.{ℕ, ◌+◌, ◌≤◌, ◌⊎◌, nat_lt, Bool, true, List, [], ◌∷◌, ◌++◌, Option, None, Some}
use Rattle.std.proofs.Common.{◌≡◌, refl, sym, ◌∙◌, ap, subst, inl, inr, arith}
use Rattle.std.proofs.lemmas.Bool.{cond_both, le-ltb}
use Rattle.pota_base.specs.Number.{◌>>=◌}
use Rattle.run_model.specs.Run.{Name}
use Rattle.pota_base.specs.Limits.{deepest, most_nodes}
use Rattle.rctl_grammar.specs.declared.token.Kind.{Kind}
use Rattle.rctl_grammar.specs.declared.token.Kind.TheVariants as kind
use Rattle.rctl_grammar.specs.declared.token.Word.{Word}
use Rattle.rctl_grammar.specs.declared.token.Token.{Token}
use Rattle.rctl_grammar.specs.declared.token.End.{End}
use Rattle.rctl_grammar.specs.declared.token.End.TheVariants as end
use Rattle.rctl_grammar.specs.declared.fault.FormulaCode.{FormulaCode}
use Rattle.rctl_grammar.specs.declared.fault.FormulaCode.TheVariants as code
use Rattle.rctl_grammar.specs.declared.fault.FormulaFault.{FormulaFault}
use Rattle.rctl_grammar.specs.Grammar.{Spelled, Conjunction, Unary, tok, spelled, named, path_word, text_conjunction, text_unary, nodes_conjunction, nodes_unary}
use Rattle.rctl_grammar.specs.Machine.{Front, process_dot, left_side, compared, right_process, right_dot, process_at, channel_word, channel_opened, channel_sender, channel_comma, channel_receiver, transit_channel, transit_compared, subtracting, subtracted_process, subtracted_dot, both_sides, difference_compared, Before, nothing, bar, Outer, Open, first_of, State, operand, a_word, in_leaf, a_path, a_stepping, after, start, settled, step, run, NameSign, by_dot, by_at, no_sign, sign, text_before, text_outer, text_open}
use Rattle.rctl_grammar.specs.FirstFault.{depth, nodes_open, nodes_outer, nodes_before, level_opens, node_stands, either, is_operator, word_limit, operand_limit, front_limit, limit_now, settled_limit, Passed, passed, stopped, fault_of, too_deep_at, too_many_at}
use Rattle.rctl_lexer.specs.Lexing.{Ascend, place_of}
use Rattle.rctl_laws.specs.Table.{NamesNone, OpensOperand, OpensUntil, IsTooDeep, IsNode, IsTooMany, rank}
use Rattle.rctl_laws.proofs.Settled.{settled_path}
use Rattle.rctl_laws.proofs.Texts.{appends_open}
use Rattle.rctl_laws.proofs.Keeps.{bind_some}
use Rattle.rctl_laws.proofs.Begins.{run_append}
use Rattle.rctl_laws.proofs.Reading.{goes, reads-unary, reads-conjunction}
use Rattle.rctl_laws.proofs.Leads.{leads-outer, leads-before, leads-open, leads_word}
use Rattle.rctl_laws.proofs.Scan.{scan, fault_scan, scan_run, Waits, own, later, limit_is, own_before, ascend_front, scan_stops, scan_waits}
use Rattle.rctl_laws.proofs.Scan.{At, at_word}
use Rattle.rctl_laws.proofs.Precedes.{First, Stops, token-first, stops-later, later-settled, along}

-- ---- a token where no word waits for it

reached-from : (before other : List Token) (s : State) → before ≡ other → run start before ≡ Some s → run start other ≡ Some s
reached-from before other s same e = ap (λ (xs : List Token). run start xs) (sym same) ∙ e

-- what the token breaks in the place of a unary
later-open : (k : Kind) (here : ℕ) → sign k ≡ no_sign → (o : Open) (s : State) → run start (text_open o []) ≡ Some s → later s k here ≡ operand_limit o k here
later-open k here plain o s e =
    let final = λ (x : State). later x k here in
    let reached : goes final start (text_open o []) ≡ later s k here = rw e refl in
    sym reached ∙ leads-open final o [] (later-settled k here plain)

-- and behind `E` or `A`
later-path : (here : ℕ) (o : Open) (all : Bool) (name : Name) (at : ℕ) (s : State) → run start (text_open o (spelled (path_word all) name at ∷ [])) ≡ Some s
    → later s kind.OpenSquare here ≡ level_opens (depth o) here
later-path here o all name at s e =
    let final = λ (x : State). later x kind.OpenSquare here in
    let reached : goes final start (text_open o (spelled (path_word all) name at ∷ [])) ≡ later s kind.OpenSquare here = rw e refl in
    let settled_now : later (a_word o (record { word = path_word all; name = name; at = at })) kind.OpenSquare here ≡ level_opens (depth o) here = rw (settled_path o all name at) refl in
    sym reached ∙ leads-open final o (spelled (path_word all) name at ∷ []) refl ∙ settled_now

-- and behind the first unary of a conjunction, and the first conjunction of a disjunction
later-amp : (here : ℕ) (outer : Outer) (before : Before) (u : Unary) (s : State) → run start (text_outer outer (text_before before (text_unary u []))) ≡ Some s
    → later s kind.Amp here ≡ node_stands (nodes_outer outer + nodes_before before + nodes_unary u) here
later-amp here outer before u s e =
    let final = λ (x : State). later x kind.Amp here in
    let reached : goes final start (text_outer outer (text_before before (text_unary u []))) ≡ later s kind.Amp here = rw e refl in
    sym reached ∙ leads-before final outer before (text_unary u []) ∙ reads-unary final u (first_of outer before) [] (later-settled kind.Amp here refl)

later-bar : (here : ℕ) (outer : Outer) (c : Conjunction) (s : State) → run start (text_outer outer (text_conjunction c [])) ≡ Some s
    → later s kind.Bar here ≡ node_stands (nodes_outer outer + nodes_conjunction c) here
later-bar here outer c s e =
    let final = λ (x : State). later x kind.Bar here in
    let reached : goes final start (text_outer outer (text_conjunction c [])) ≡ later s kind.Bar here = rw e refl in
    sym reached ∙ leads-outer final outer (text_conjunction c []) ∙ reads-conjunction final c outer nothing [] (later-settled kind.Bar here refl)

-- ---- a word, whose own faults wait for what is behind it

later-front : (front : Front) (w : Word) (name : Name) (here : ℕ) → front_limit front (kind.Word w name) here ≡ None
later-front (compared left c at) w name here = refl
later-front (transit_compared word at channel c compare_at) w name here = refl
later-front (process_dot process dot) w name here = refl
later-front (left_side left) w name here = refl
later-front (right_process left c at process) w name here = refl
later-front (right_dot left c at process dot) w name here = refl
later-front (process_at process at) w name here = refl
later-front (channel_word v word at) w name here = refl
later-front (channel_opened v word at opened) w name here = refl
later-front (channel_sender v word at opened sender) w name here = refl
later-front (channel_comma v word at opened sender comma) w name here = refl
later-front (channel_receiver v word at opened sender comma receiver) w name here = refl
later-front (transit_channel word at channel) w name here = refl
later-front (subtracting left minus) w name here = refl
later-front (subtracted_process left minus process) w name here = refl
later-front (subtracted_dot left minus process dot) w name here = refl
later-front (both_sides left minus right) w name here = refl
later-front (difference_compared left minus right c compare_at) w name here = refl

word-now : (s : State) (w : Word) (name : Name) (here : ℕ) → limit_now s (kind.Word w name) here ≡ None
word-now (operand o) w name here = refl
word-now (a_word o v) w name here = refl
word-now (in_leaf o front) w name here = later-front front w name here
word-now (a_path o all word at) w name here = refl
word-now (a_stepping o word at) w name here = refl
word-now (after outer nothing c) w name here = refl
word-now (after outer (bar d at) c) w name here = refl

word-settled : (next : Option State) (w : Word) (name : Name) (here : ℕ) → settled_limit next (kind.Word w name) here ≡ None
word-settled None w name here = refl
word-settled (Some s) w name here = word-now s w name here

word-later : (s : State) (w : Word) (name : Name) (here : ℕ) → later s (kind.Word w name) here ≡ None
word-later (a_word o v) w name here = word-settled (settled o v) w name here
word-later (operand o) w name here = refl
word-later (in_leaf o front) w name here = later-front front w name here
word-later (a_path o all word at) w name here = refl
word-later (a_stepping o word at) w name here = refl
word-later (after outer nothing c) w name here = refl
word-later (after outer (bar d at) c) w name here = refl

-- what is behind the word
abbrev Follows : NameSign → List Token → Type 0
Follows g [] = g ≡ no_sign
Follows g (t ∷ ts) = sign t.kind ≡ g

-- the word breaks something with that behind it
abbrev Breaks : Open → Spelled → List Token → FormulaCode → Type 0
Breaks o w rest c = (g : NameSign) → Follows g rest → (fault : FormulaFault) × (word_limit o w g ≡ Some fault) × (rank fault.code ≤ rank c)

abbrev Waited : Open → Spelled → List Token → End → FormulaCode → Type 0
Waited o w rest ending c = (fault : FormulaFault) × (fault_of (a_word o w) rest ending ≡ Some fault) × (fault.place ≡ w.at) × (rank fault.code ≤ rank c)

word-place : (o : Open) (w : Spelled) (g : NameSign) (fault : FormulaFault) → word_limit o w g ≡ Some fault → fault.place ≡ w.at
word-place o w g fault e = subst (At w.at) e (at_word o w g)

waited : (o : Open) (w : Spelled) (rest : List Token) (ending : End) (c : FormulaCode) → Breaks o w rest c → Waited o w rest ending c
waited o w [] (end.BadToken at) c breaks = let b = breaks no_sign refl in (b.0, rw b.1 refl, word-place o w no_sign b.0 b.1, b.2)
waited o w [] (end.Ends at) c breaks = let b = breaks no_sign refl in (b.0, rw b.1 refl, word-place o w no_sign b.0 b.1, b.2)
waited o w (t ∷ ts) ending c breaks =
    let b = breaks (sign t.kind) refl in
    (b.0, rw b.1 refl, word-place o w (sign t.kind) b.0 b.1, b.2)

word-step : (before : List Token) (o : Open) (w : Spelled) (s : State) → before ≡ text_open o [] → run start before ≡ Some s → step s (named w) ≡ Some (a_word o w)
word-step before o w s text e =
    let text_on : text_open o (named w ∷ []) ≡ before ++ named w ∷ [] = appends_open o (named w ∷ []) ∙ ap (λ (xs : List Token). xs ++ named w ∷ []) (sym text) in
    let reached : run start (before ++ named w ∷ []) ≡ Some (a_word o w) = ap (λ (xs : List Token). run start xs) (sym text_on) ∙ leads_word o w.word w.name w.at in
    let parts : (run start before >>= λ x. run x (named w ∷ [])) ≡ Some (a_word o w) = sym (run_append before (named w ∷ []) start) ∙ reached in
    let b = bind_some (step s (named w)) (λ x. Some x) (a_word o w) (rw e at parts) in
    b.1 ∙ b.2

word-behind : (before rest : List Token) (o : Open) (w : Spelled) (ending : End) (c : FormulaCode) (s : State) → scan start before ≡ passed s → Waits s w.at → step s (named w) ≡ Some (a_word o w)
    → Waited o w rest ending c → (mine : Option FormulaFault) → own s no_sign ≡ mine → First (before ++ named w ∷ rest) ending c w.at
word-behind before rest o w ending c s scanned waits stepped waited_on (Some fault) mine =
    (fault, fault_scan before (named w ∷ rest) ending start ∙ rw (scanned, limit_is s (kind.Word w.word w.name) w.at, mine) refl, inl (own_before s no_sign w.at fault waits mine))
word-behind before rest o w ending c s scanned waits stepped waited_on None mine = (
  waited_on.0,
  fault_scan before (named w ∷ rest) ending start ∙ rw (scanned, limit_is s (kind.Word w.word w.name) w.at, mine, word-later s w.word w.name w.at, stepped) waited_on.1,
  inr (waited_on.2, waited_on.3),
)

word-scanned : (before rest : List Token) (o : Open) (w : Spelled) (ending : End) (c : FormulaCode) → before ≡ text_open o [] → Ascend 0 before w.at → Waited o w rest ending c
    → (x : Passed) → scan start before ≡ x → First (before ++ named w ∷ rest) ending c w.at
word-scanned before rest o w ending c text rises waited_on (stopped fault) e =
    (fault, fault_scan before (named w ∷ rest) ending start ∙ rw e refl, inl (scan_stops before start 0 w.at fault tt rises e))
word-scanned before rest o w ending c text rises waited_on (passed s) e =
    word-behind before rest o w ending c s e (scan_waits before start s 0 w.at tt rises e) (word-step before o w s text (scan_run before start s e)) waited_on (own s no_sign) refl

word-first : (before rest : List Token) (o : Open) (w : Spelled) (ending : End) (c : FormulaCode) → before ≡ text_open o [] → Ascend 0 (before ++ named w ∷ rest) (place_of ending)
    → Breaks o w rest c → First (before ++ named w ∷ rest) ending c w.at
word-first before rest o w ending c text rises breaks =
    word-scanned before rest o w ending c text (ascend_front before 0 (named w) rest (place_of ending) rises) (waited o w rest ending c breaks) (scan start before) refl

-- ---- levels

too-deep : (levels here : ℕ) → deepest ≤ levels → level_opens levels here ≡ Some (too_deep_at here)
too-deep levels here deep = rw (le-ltb levels deepest deep) refl

operator-limit : (o : Open) (w : Spelled) → is_operator w.word ≡ true → deepest ≤ depth o → word_limit o w no_sign ≡ Some (too_deep_at w.at)
operator-limit o w is deep = rw (is, le-ltb (depth o) deepest deep) refl

follows-none : (g : NameSign) (rest : List Token) → Follows g rest → NamesNone rest → g ≡ no_sign
follows-none g [] h none = h
follows-none g (t ∷ ts) h none = sym h ∙ none

operator-breaks : (o : Open) (w : Spelled) (rest : List Token) → is_operator w.word ≡ true → deepest ≤ depth o → NamesNone rest → Breaks o w rest code.TooDeep
operator-breaks o w rest is deep none g h =
    (too_deep_at w.at, ap (λ (x : NameSign). word_limit o w x) (follows-none g rest h none) ∙ operator-limit o w is deep, omega arith)

-- a token that is a word, as one
word-here : (before rest : List Token) (t : Token) (v : Word) (name : Name) (ending : End) (c : FormulaCode) → t.kind ≡ kind.Word v name
    → (Ascend 0 (before ++ spelled v name t.at ∷ rest) (place_of ending) → First (before ++ spelled v name t.at ∷ rest) ending c t.at)
    → Ascend 0 (before ++ t ∷ rest) (place_of ending) → First (before ++ t ∷ rest) ending c t.at
word-here before rest t v name ending c is first rises =
    along (before ++ t ∷ rest) (before ++ spelled v name t.at ∷ rest) ending c t.at t.at (ap (λ (k : Kind). before ++ tok k t.at ∷ rest) is) refl first rises

deep-here : (before rest : List Token) (t : Token) (around : Open) (ending : End) → deepest ≤ depth around → ((before ≡ text_open around []) × OpensOperand t.kind rest) ⊎ OpensUntil around before t.kind
    → Ascend 0 (before ++ t ∷ rest) (place_of ending) → First (before ++ t ∷ rest) ending code.TooDeep t.at
deep-here before rest t around ending deep (inl (text, inl is)) rises =
    token-first before rest t ending code.TooDeep rises (λ s e waits. stops-later code.TooDeep s t (too_deep_at t.at) waits
    (later-open t.kind t.at (ap sign is) around s (reached-from before (text_open around []) s text e) ∙ rw (is, le-ltb (depth around) deepest deep) refl) (omega arith))
deep-here before rest t around ending deep (inl (text, inr (inl is))) rises =
    token-first before rest t ending code.TooDeep rises (λ s e waits. stops-later code.TooDeep s t (too_deep_at t.at) waits
    (later-open t.kind t.at (ap sign is) around s (reached-from before (text_open around []) s text e) ∙ rw (is, le-ltb (depth around) deepest deep) refl) (omega arith))
deep-here before rest t around ending deep (inl (text, inr (inr (v, name, is, operates, none)))) rises =
    let w : Spelled = record { word = v; name = name; at = t.at } in
    word-here before rest t v name ending code.TooDeep is (λ h. word-first before rest around w ending code.TooDeep text h (operator-breaks around w rest operates deep none)) rises
deep-here before rest t around ending deep (inr u) rises =
    token-first before rest t ending code.TooDeep rises (λ s e waits. stops-later code.TooDeep s t (too_deep_at t.at) waits
    (ap (λ (k : Kind). later s k t.at) u.square ∙ later-path t.at around u.all u.name u.at s (reached-from before (text_open around (spelled (path_word u.all) u.name u.at ∷ [])) s u.text e)
    ∙ too-deep (depth around) t.at deep) (omega arith))

pub deep_first : (tokens : List Token) (ending : End) (at : ℕ) → IsTooDeep tokens at → Ascend 0 tokens (place_of ending) → First tokens ending code.TooDeep at
deep_first tokens ending at d =
    along tokens (d.before ++ d.token ∷ d.rest) ending code.TooDeep at d.token.at d.stands.whole d.stands.place
    (deep-here d.before d.rest d.token d.around ending d.deep d.opens)

-- ---- nodes

too-many : (nodes here : ℕ) → most_nodes ≤ nodes → node_stands nodes here ≡ Some (too_many_at here)
too-many nodes here many = rw (le-ltb nodes most_nodes many) refl

-- a level too deep or a node too many
abbrev Crowded : ℕ → ℕ → Option FormulaFault → Type 0
Crowded nodes here broken = (fault : FormulaFault) × (either broken (node_stands nodes here) ≡ Some fault) × (rank fault.code ≤ 4)

crowded-none : (nodes here : ℕ) → most_nodes ≤ nodes → Crowded nodes here None
crowded-none nodes here many = (too_many_at here, too-many nodes here many, omega arith)

crowded-level : (nodes here levels : ℕ) → most_nodes ≤ nodes → Crowded nodes here (level_opens levels here)
crowded-level nodes here levels many =
    cond_both (nat_lt levels deepest) None (Some (too_deep_at here)) (Crowded nodes here) (λ e. crowded-none nodes here many) (λ e. (too_deep_at here, refl, omega arith))

word-crowded : (o : Open) (w : Spelled) (g : NameSign) → most_nodes ≤ nodes_open o → (fault : FormulaFault) × (word_limit o w g ≡ Some fault) × (rank fault.code ≤ 4)
word-crowded o w by_dot many = crowded-none (nodes_open o) w.at many
word-crowded o w by_at many = crowded-none (nodes_open o) w.at many
word-crowded o w no_sign many =
    cond_both (is_operator w.word) (level_opens (depth o) w.at) None (Crowded (nodes_open o) w.at) (λ e. crowded-level (nodes_open o) w.at (depth o) many) (λ e. crowded-none (nodes_open o) w.at many)

-- the token breaks a level or a node
stops-crowded : (s : State) (t : Token) (fault : FormulaFault) → Waits s t.at → later s t.kind t.at ≡ Some fault → rank fault.code ≤ 4 → Stops code.TooManyNodes s t
stops-crowded s t fault waits e le = stops-later code.TooManyNodes s t fault waits e le

node-here : (before rest : List Token) (t : Token) (nodes : ℕ) (ending : End) → most_nodes ≤ nodes → IsNode before t.kind nodes
    → Ascend 0 (before ++ t ∷ rest) (place_of ending) → First (before ++ t ∷ rest) ending code.TooManyNodes t.at
node-here before rest t nodes ending many (inl b) rises = unary-here b.unary
  where
    unary-here : ((t.kind ≡ kind.Bang) ⊎ ((w : Word) × (name : Name) × (t.kind ≡ kind.Word w name))) → First (before ++ t ∷ rest) ending code.TooManyNodes t.at
    unary-here (inl is) =
        token-first before rest t ending code.TooManyNodes rises (λ s e waits.
        let broken = crowded-level (nodes_open b.around) t.at (depth b.around) (omega (arith, b.count)) in
        stops-crowded s t broken.0 waits
        (later-open t.kind t.at (ap sign is) b.around s (reached-from before (text_open b.around []) s b.text e) ∙ rw is broken.1) broken.2)
    unary-here (inr (v, name, is)) =
        word-here before rest t v name ending code.TooManyNodes is
        (λ h. word-first before rest b.around (record { word = v; name = name; at = t.at }) ending code.TooManyNodes b.text h
        (λ g follows. word-crowded b.around (record { word = v; name = name; at = t.at }) g (omega (arith, b.count)))) rises
node-here before rest t nodes ending many (inr (inl a)) rises =
    token-first before rest t ending code.TooManyNodes rises (λ s e waits. stops-crowded s t (too_many_at t.at) waits
    (ap (λ (k : Kind). later s k t.at) a.amp ∙ later-amp t.at a.outer a.disjuncts a.first s (reached-from before (text_outer a.outer (text_before a.disjuncts (text_unary a.first []))) s a.text e)
    ∙ too-many (nodes_outer a.outer + nodes_before a.disjuncts + nodes_unary a.first) t.at (omega (arith, a.count))) (omega arith))
node-here before rest t nodes ending many (inr (inr b)) rises =
    token-first before rest t ending code.TooManyNodes rises (λ s e waits. stops-crowded s t (too_many_at t.at) waits
    (ap (λ (k : Kind). later s k t.at) b.bar ∙ later-bar t.at b.outer b.first s (reached-from before (text_outer b.outer (text_conjunction b.first [])) s b.text e)
    ∙ too-many (nodes_outer b.outer + nodes_conjunction b.first) t.at (omega (arith, b.count))) (omega arith))

pub many_first : (tokens : List Token) (ending : End) (at : ℕ) → IsTooMany tokens at → Ascend 0 tokens (place_of ending) → First tokens ending code.TooManyNodes at
many_first tokens ending at m =
    along tokens (m.before ++ m.token ∷ m.rest) ending code.TooManyNodes at m.token.at m.stands.whole m.stands.place
    (node-here m.before m.rest m.token m.nodes ending m.many m.node)
