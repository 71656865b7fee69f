-- The parser's unaries: what a token makes of them.
use Rattle.std.specs.Prelude.{ℕ, Bool, true, false, ◌<◌, ◌≤◌, ◌+◌, length, List, [], ◌∷◌, Option, None, Some, Result, Ok, Err, MatchResult}
use Rattle.std.specs.Borrow.{Bor}
use Rattle.std.proofs.Common.{◌≡◌, refl, sym, ◌∙◌, ap, arith}
use Rattle.std.proofs.lemmas.Bool.{lt-ltb, le-ltb}
use Rattle.pota_base.specs.declared.fault.Refused.{Refused}
use Rattle.run_model.specs.Run.{Name}
use Rattle.pota_base.specs.Limits.{deepest, most_nodes}
use Rattle.rctl_grammar.specs.declared.token.Kind.{Kind}
use Rattle.rctl_grammar.specs.declared.token.Kind.TheVariants as kind
use Rattle.rctl_grammar.specs.declared.token.Word.{Word}
use Rattle.rctl_grammar.specs.declared.token.Word.TheVariants as word
use Rattle.rctl_grammar.specs.declared.token.Token.{Token}
use Rattle.rctl_grammar.specs.declared.token.End.{End}
use Rattle.rctl_grammar.specs.declared.token.End.TheVariants as end
use Rattle.rctl_grammar.specs.declared.fault.FormulaFault.{FormulaFault}
use Rattle.rctl_grammar.specs.declared.tree.Place.{Place}
use Rattle.rctl_grammar.specs.declared.tree.Atom.{Atom}
use Rattle.rctl_grammar.specs.declared.tree.Atom.TheVariants as atom
use Rattle.rctl_grammar.specs.declared.tree.Tree.TheVariants as tree
use Rattle.rctl_grammar.specs.Grammar.{Spelled, constant, Unary, leaf, negation, temporal, stepping, tok, spelled, named, first_token, placed_name, truth_word}
use Rattle.rctl_grammar.specs.Machine.{Open, first_of, next_of, in_negation, in_temporal, in_stepping, State, operand, a_word, in_leaf, a_path, a_stepping, after, plug, settled, step_now, step_kind, whole_now, whole_of, process_dot, process_at, channel_word, of_transit, of_emptiness, no_sign, sign}
use Rattle.rctl_grammar.specs.FirstFault.{fault_of, end_fault, end_limit, limit, limit_now, nodes_open, level_opens, node_stands, word_limit, too_deep_at, too_many_at}
use Rattle.rctl_parse.specs.declared.around.Around.{Around}
use Rattle.rctl_parse.specs.Reading.{Faults}
use Rattle.rctl_parse.specs.inside.Reading.{here, LeafFault, LeafRead}
use Rattle.rctl_parse.proofs.LeafSteps.{for_fault}
use Rattle.rctl_parse.specs.declared.role.LeafRole.{LeafRole}
use Rattle.rctl_parse.specs.declared.role.LeafRole.TheVariants as leaf_role
use Rattle.rctl_parse.specs.inside.Parts.{sign_of, NoRole, IsLeafRole, WordRead, WordFault, UnaryFault, UnaryRead}

-- ---- the limits

pub level_passes : (level at : ℕ) → level < deepest → level_opens level at ≡ None
level_passes level at h = rw (lt-ltb level deepest h) refl

pub level_stops : (level at : ℕ) → deepest ≤ level → level_opens level at ≡ Some (too_deep_at at)
level_stops level at h = rw (le-ltb level deepest h) refl

pub node_passes : (nodes at : ℕ) → nodes < most_nodes → node_stands nodes at ≡ None
node_passes nodes at h = rw (lt-ltb nodes most_nodes h) refl

pub node_stops : (nodes at : ℕ) → most_nodes ≤ nodes → node_stands nodes at ≡ Some (too_many_at at)
node_stops nodes at h = rw (le-ltb nodes most_nodes h) refl

-- ---- states in which other word waits

pub no_word : State → Bool
no_word (operand o) = true
no_word (a_word o w) = false
no_word (in_leaf o front) = true
no_word (a_path o all name at) = true
no_word (a_stepping o name at) = true
no_word (after outer before c) = true

pub plugged : (o : Open) (u : Unary) → no_word (plug o u) ≡ true
unfolding no_word
plugged (first_of outer before) u = refl
plugged (next_of outer before c at) u = refl
plugged (in_negation o at) u = plugged o (negation at u)
plugged (in_temporal o op name at) u = plugged o (temporal op name at u)
plugged (in_stepping o name at process) u = plugged o (stepping name at process u)

-- what waits of a word is settled, and the next token goes on from there
unfoldable pub settle : Option State → List Token → End → Option FormulaFault
settle None ts ending = Some (here ts ending)
settle (Some s) ts ending = fault_of s ts ending

now_limit : (s : State) (k : Kind) (at : ℕ) → no_word s ≡ true → limit s k at ≡ limit_now s k at
unfolding no_word
now_limit (operand o) k at h = refl
now_limit (a_word o w) k at h = cc
now_limit (in_leaf o front) k at h = refl
now_limit (a_path o all name at') k at h = refl
now_limit (a_stepping o name at') k at h = refl
now_limit (after outer before c) k at h = refl

now_step : (s : State) (k : Kind) (at : ℕ) → no_word s ≡ true → step_kind s k at ≡ step_now s k at
unfolding no_word
now_step (operand o) k at h = refl
now_step (a_word o w) k at h = cc
now_step (in_leaf o front) k at h = refl
now_step (a_path o all name at') k at h = refl
now_step (a_stepping o name at') k at h = refl
now_step (after outer before c) k at h = refl

now_whole : (s : State) → no_word s ≡ true → whole_of s ≡ whole_now s
unfolding no_word
now_whole (operand o) h = refl
now_whole (a_word o w) h = cc
now_whole (in_leaf o front) h = refl
now_whole (a_path o all name at') h = refl
now_whole (a_stepping o name at') h = refl
now_whole (after outer before c) h = refl

now_end : (s : State) → no_word s ≡ true → end_limit s ≡ None
unfolding no_word
now_end (operand o) h = refl
now_end (a_word o w) h = cc
now_end (in_leaf o front) h = refl
now_end (a_path o all name at') h = refl
now_end (a_stepping o name at') h = refl
now_end (after outer before c) h = refl

-- every state that a word is settled to is such
abbrev NoWord : Option State → Type 0
NoWord None = Unit {0}
NoWord (Some s) = no_word s ≡ true

settled_no_word : (o : Open) (w : Word) (name : Name) (at : ℕ) → NoWord (settled o (record { word = w; name = name; at = at }))
unfolding no_word
settled_no_word o word.Ef name at = refl
settled_no_word o word.Ag name at = refl
settled_no_word o word.Eg name at = refl
settled_no_word o word.Ex name at = refl
settled_no_word o word.Af name at = refl
settled_no_word o word.Ax name at = refl
settled_no_word o word.E name at = refl
settled_no_word o word.A name at = refl
settled_no_word o word.U name at = tt
settled_no_word o word.True name at = plugged o (leaf (constant true name at))
settled_no_word o word.False name at = plugged o (leaf (constant false name at))
settled_no_word o word.InTransit name at = refl
settled_no_word o word.Empty name at = refl
settled_no_word o word.Plain name at = tt

-- a word that breaks other limit, where it is other name
word_ends : (o : Open) (w : Spelled) (x : Option State) (ending : End) → settled o w ≡ x → NoWord x → word_limit o w no_sign ≡ None
    → end_fault (a_word o w) ending ≡ settle x [] ending
unfolding settle
word_ends o w None (end.Ends at) is plain free = rw (free, is) refl
word_ends o w (Some s) (end.Ends at) is plain free = rw (free, is, now_end s plain, now_whole s plain) refl
word_ends o w None (end.BadToken at) is plain free = rw free refl
word_ends o w (Some s) (end.BadToken at) is plain free = rw (free, now_end s plain) refl

word_goes : (o : Open) (w : Spelled) (x : Option State) (t : Token) (ts : List Token) (ending : End) → settled o w ≡ x → NoWord x → word_limit o w no_sign ≡ None → sign t.kind ≡ no_sign
    → fault_of (a_word o w) (t ∷ ts) ending ≡ settle x (t ∷ ts) ending
unfolding settle
word_goes o w None t ts ending is plain free other = rw (other, free, is) refl
word_goes o w (Some s) t ts ending is plain free other = rw (other, free, is, now_limit s t.kind t.at plain, now_step s t.kind t.at plain) refl

pub word_free : (o : Open) (w : Spelled) (ts : List Token) (ending : End) → sign_of ts ≡ no_sign → word_limit o w no_sign ≡ None
    → fault_of (a_word o w) ts ending ≡ settle (settled o w) ts ending
word_free o w [] ending other free = word_ends o w (settled o w) ending refl (settled_no_word o w.word w.name w.at) free
word_free o w (t ∷ ts) ending other free = word_goes o w (settled o w) t ts ending refl (settled_no_word o w.word w.name w.at) free other

-- a word that breaks one
pub word_bound : (o : Open) (w : Spelled) (ts : List Token) (ending : End) (f : FormulaFault) → sign_of ts ≡ no_sign → word_limit o w no_sign ≡ Some f
    → fault_of (a_word o w) ts ending ≡ Some f
word_bound o w [] (end.Ends at) f other bound = rw bound refl
word_bound o w [] (end.BadToken at) f other bound = rw bound refl
word_bound o w (t ∷ ts) ending f other bound = rw (other, bound) refl

-- ---- leaves

-- a leaf's word breaks nothing but the limit on nodes
leaf_word : (o : Open) (l : LeafRole) (w : Word) (name : Name) (at : ℕ) (ts : List Token) → IsLeafRole l w ts
    → word_limit o (record { word = w; name = name; at = at }) (sign_of ts) ≡ node_stands (nodes_open o) at
leaf_word o (leaf_role.Compared rest) w name at ts is = rw is.1 refl
leaf_word o (leaf_role.Watched rest) w name at ts is = rw is.1 refl
leaf_word o (leaf_role.Constant true) w name at ts is = rw (is.0, is.1) refl
leaf_word o (leaf_role.Constant false) w name at ts is = rw (is.0, is.1) refl
leaf_word o leaf_role.Transit w name at ts is = rw (is.0, is.1) refl
leaf_word o leaf_role.Emptiness w name at ts is = rw (is.0, is.1) refl
leaf_word o leaf_role.Nothing w name at ts is = rw is.1 (no_role_limit o w name at is.0)
  where
    no_role_limit : (o : Open) (w : Word) (name : Name) (at : ℕ) → NoRole w → word_limit o (record { word = w; name = name; at = at }) no_sign ≡ node_stands (nodes_open o) at
    no_role_limit o word.Ef name at h = let e = h o name at in cc
    no_role_limit o word.Ag name at h = let e = h o name at in cc
    no_role_limit o word.Eg name at h = let e = h o name at in cc
    no_role_limit o word.Ex name at h = let e = h o name at in cc
    no_role_limit o word.Af name at h = let e = h o name at in cc
    no_role_limit o word.Ax name at h = let e = h o name at in cc
    no_role_limit o word.E name at h = refl
    no_role_limit o word.A name at h = refl
    no_role_limit o word.U name at h = refl
    no_role_limit o word.True name at h = refl
    no_role_limit o word.False name at h = refl
    no_role_limit o word.InTransit name at h = refl
    no_role_limit o word.Empty name at h = refl
    no_role_limit o word.Plain name at h = refl

-- too many nodes, at the word
any_word_bound : (o : Open) (w : Spelled) (ts : List Token) (ending : End) (f : FormulaFault) → word_limit o w (sign_of ts) ≡ Some f → fault_of (a_word o w) ts ending ≡ Some f
any_word_bound o w [] ending f bound = word_bound o w [] ending f refl bound
any_word_bound o w (t ∷ ts) ending f bound = rw bound refl

pub leaf_too_many : (around : Around) (l : LeafRole) (w : Word) (name : Name) (at : ℕ) (ts : List Token) (f : FormulaFault) → IsLeafRole l w ts → most_nodes ≤ around.nodes → f ≡ too_many_at at
    → UnaryFault (spelled w name at ∷ ts) around f
leaf_too_many around l w name at ts f is many named_so o deep many_before =
    any_word_bound o (record { word = w; name = name; at = at }) ts around.end f (leaf_word o l w name at ts is ∙ node_stops (nodes_open o) at (omega arith) ∙ ap Some (sym named_so))

-- behind `.`
pub compared_word : (w : Spelled) (dot : ℕ) (more rest ts : List Token) (ending : End) (a : Atom) → ts ≡ tok kind.Dot dot ∷ more → LeafRead (process_dot w dot) more rest ending a w.at
    → WordRead w ts rest ending a
compared_word w dot more rest ts ending a is read = record {
  l = read.l;
  atom = read.atom;
  place = read.place;
  in_range = read.in_range;
  text = ap (λ x. named w ∷ x) is ∙ read.moves.text;
  goes = λ o room. rw (is, node_passes (nodes_open o) w.at room) (read.moves.goes o);
  shorter = let less : length rest < length more = read.moves.shorter in rw is (omega arith);
}

pub compared_fault : (w : Spelled) (dot : ℕ) (more ts : List Token) (ending : End) (f : FormulaFault) → ts ≡ tok kind.Dot dot ∷ more → LeafFault (process_dot w dot) more ending f → WordFault w ts ending f
compared_fault w dot more ts ending f is bad o room = rw (is, node_passes (nodes_open o) w.at room) (bad o)

-- behind `@`
pub watched_word : (w : Spelled) (at : ℕ) (more rest ts : List Token) (ending : End) (a : Atom) → ts ≡ tok kind.At at ∷ more → LeafRead (process_at w at) more rest ending a w.at
    → WordRead w ts rest ending a
watched_word w at more rest ts ending a is read = record {
  l = read.l;
  atom = read.atom;
  place = read.place;
  in_range = read.in_range;
  text = ap (λ x. named w ∷ x) is ∙ read.moves.text;
  goes = λ o room. rw (is, node_passes (nodes_open o) w.at room) (read.moves.goes o);
  shorter = let less : length rest < length more = read.moves.shorter in rw is (omega arith);
}

pub watched_fault : (w : Spelled) (at : ℕ) (more ts : List Token) (ending : End) (f : FormulaFault) → ts ≡ tok kind.At at ∷ more → LeafFault (process_at w at) more ending f → WordFault w ts ending f
watched_fault w at more ts ending f is bad o room = rw (is, node_passes (nodes_open o) w.at room) (bad o)

-- a word of its own
alone_goes : (o : Open) (l : LeafRole) (w : Word) (name : Name) (at : ℕ) (ts : List Token) (ending : End) → IsLeafRole l w ts → sign_of ts ≡ no_sign → nodes_open o < most_nodes
    → fault_of (a_word o (record { word = w; name = name; at = at })) ts ending ≡ settle (settled o (record { word = w; name = name; at = at })) ts ending
alone_goes o l w name at ts ending is other room = word_free o (record { word = w; name = name; at = at }) ts ending other
    (ap (word_limit o (record { word = w; name = name; at = at })) (sym other) ∙ leaf_word o l w name at ts is ∙ node_passes (nodes_open o) at room)

constant_goes : (o : Open) (value : Bool) (name : Name) (at : ℕ) (ts : List Token) (ending : End)
    → settle (settled o (record { word = truth_word value; name = name; at = at })) ts ending ≡ fault_of (plug o (leaf (constant value name at))) ts ending
unfolding settle
constant_goes o true name at ts ending = refl
constant_goes o false name at ts ending = refl

pub constant_word : (w : Word) (name : Name) (at : ℕ) (value : Bool) (ts : List Token) (ending : End) → (w ≡ truth_word value) × (sign_of ts ≡ no_sign)
    → WordRead (record { word = w; name = name; at = at }) ts ts ending (atom.Truth value)
constant_word w name at value ts ending is = record {
  l = constant value name at;
  atom = refl;
  place = refl;
  in_range = refl;
  text = ap (λ x. spelled x name at ∷ ts) is.0;
  goes = λ o room. alone_goes o (leaf_role.Constant value) w name at ts ending is is.1 room
      ∙ ap (λ x. settle (settled o (record { word = x; name = name; at = at })) ts ending) is.0 ∙ constant_goes o value name at ts ending;
  shorter = omega arith;
}

pub transit_word : (w : Word) (name : Name) (at : ℕ) (ts rest : List Token) (ending : End) (a : Atom) → (w ≡ word.InTransit) × (sign_of ts ≡ no_sign)
    → LeafRead (channel_word of_transit name at) ts rest ending a at → WordRead (record { word = w; name = name; at = at }) ts rest ending a
unfolding settle
transit_word w name at ts rest ending a is read = record {
  l = read.l;
  atom = read.atom;
  place = read.place;
  in_range = read.in_range;
  text = ap (λ x. spelled x name at ∷ ts) is.0 ∙ read.moves.text;
  goes = λ o room. alone_goes o leaf_role.Transit w name at ts ending is is.1 room
      ∙ ap (λ x. settle (settled o (record { word = x; name = name; at = at })) ts ending) is.0 ∙ read.moves.goes o;
  shorter = let less : length rest < length ts = read.moves.shorter in omega arith;
}

pub transit_fault : (w : Word) (name : Name) (at : ℕ) (ts : List Token) (ending : End) (f : FormulaFault) → (w ≡ word.InTransit) × (sign_of ts ≡ no_sign)
    → LeafFault (channel_word of_transit name at) ts ending f → WordFault (record { word = w; name = name; at = at }) ts ending f
unfolding settle
transit_fault w name at ts ending f is bad o room = alone_goes o leaf_role.Transit w name at ts ending is is.1 room
    ∙ ap (λ x. settle (settled o (record { word = x; name = name; at = at })) ts ending) is.0 ∙ bad o

pub emptiness_word : (w : Word) (name : Name) (at : ℕ) (ts rest : List Token) (ending : End) (a : Atom) → (w ≡ word.Empty) × (sign_of ts ≡ no_sign)
    → LeafRead (channel_word of_emptiness name at) ts rest ending a at → WordRead (record { word = w; name = name; at = at }) ts rest ending a
unfolding settle
emptiness_word w name at ts rest ending a is read = record {
  l = read.l;
  atom = read.atom;
  place = read.place;
  in_range = read.in_range;
  text = ap (λ x. spelled x name at ∷ ts) is.0 ∙ read.moves.text;
  goes = λ o room. alone_goes o leaf_role.Emptiness w name at ts ending is is.1 room
      ∙ ap (λ x. settle (settled o (record { word = x; name = name; at = at })) ts ending) is.0 ∙ read.moves.goes o;
  shorter = let less : length rest < length ts = read.moves.shorter in omega arith;
}

pub emptiness_fault : (w : Word) (name : Name) (at : ℕ) (ts : List Token) (ending : End) (f : FormulaFault) → (w ≡ word.Empty) × (sign_of ts ≡ no_sign)
    → LeafFault (channel_word of_emptiness name at) ts ending f → WordFault (record { word = w; name = name; at = at }) ts ending f
unfolding settle
emptiness_fault w name at ts ending f is bad o room = alone_goes o leaf_role.Emptiness w name at ts ending is is.1 room
    ∙ ap (λ x. settle (settled o (record { word = x; name = name; at = at })) ts ending) is.0 ∙ bad o

pub no_role_fault : (w : Word) (name : Name) (at : ℕ) (ts : List Token) (ending : End) → NoRole w × (sign_of ts ≡ no_sign) → WordFault (record { word = w; name = name; at = at }) ts ending (here ts ending)
unfolding settle
no_role_fault w name at ts ending is o room = alone_goes o leaf_role.Nothing w name at ts ending is is.1 room ∙ ap (λ x. settle x ts ending) (is.0 o name at)

-- ---- what the functions of leaves answer

abbrev Answer : Type 0
Answer = Result (Atom × Bor (List Token)) (Refused FormulaFault)

-- what the word and the tokens behind it are read as
abbrev Words : Answer → Spelled → List Token → End → Type 0
Words answer w ts ending = MatchResult answer (λ x. WordRead w ts x.1.now ending x.0) (λ stop. Faults stop (λ f. WordFault w ts ending f))

pub compared_answer : (answer : Answer) (w : Spelled) (dot : ℕ) (more ts : List Token) (ending : End) (process : Place) → ts ≡ tok kind.Dot dot ∷ more → process ≡ placed_name w
    → MatchResult answer (λ x. (p : Spelled) (at : ℕ) → placed_name p ≡ process → LeafRead (process_dot p at) more x.1.now ending x.0 p.at)
    (λ stop. Faults stop (λ f. (p : Spelled) (at : ℕ) → LeafFault (process_dot p at) more ending f)) → Words answer w ts ending
compared_answer (Ok x) w dot more ts ending process is same read = compared_word w dot more x.1.now ts ending x.0 is (read w dot (sym same))
compared_answer (Err stop) w dot more ts ending process is same bad = for_fault stop (λ f h. compared_fault w dot more ts ending f is (h w dot)) bad

pub watched_answer : (answer : Answer) (w : Spelled) (at : ℕ) (more ts : List Token) (ending : End) (process : Place) → ts ≡ tok kind.At at ∷ more → process ≡ placed_name w
    → MatchResult answer (λ x. (p : Spelled) (a : ℕ) → placed_name p ≡ process → LeafRead (process_at p a) more x.1.now ending x.0 p.at)
    (λ stop. Faults stop (λ f. (p : Spelled) (a : ℕ) → LeafFault (process_at p a) more ending f)) → Words answer w ts ending
watched_answer (Ok x) w at more ts ending process is same read = watched_word w at more x.1.now ts ending x.0 is (read w at (sym same))
watched_answer (Err stop) w at more ts ending process is same bad = for_fault stop (λ f h. watched_fault w at more ts ending f is (h w at)) bad

pub transit_answer : (answer : Answer) (w : Word) (name : Name) (at : ℕ) (ts : List Token) (ending : End) → (w ≡ word.InTransit) × (sign_of ts ≡ no_sign)
    → MatchResult answer (λ x. (n : Name) (a : ℕ) → LeafRead (channel_word of_transit n a) ts x.1.now ending x.0 a)
    (λ stop. Faults stop (λ f. (n : Name) (a : ℕ) → LeafFault (channel_word of_transit n a) ts ending f)) → Words answer (record { word = w; name = name; at = at }) ts ending
transit_answer (Ok x) w name at ts ending is read = transit_word w name at ts x.1.now ending x.0 is (read name at)
transit_answer (Err stop) w name at ts ending is bad = for_fault stop (λ f h. transit_fault w name at ts ending f is (h name at)) bad

pub emptiness_answer : (answer : Answer) (w : Word) (name : Name) (at : ℕ) (ts : List Token) (ending : End) → (w ≡ word.Empty) × (sign_of ts ≡ no_sign)
    → MatchResult answer (λ x. (n : Name) (a : ℕ) → LeafRead (channel_word of_emptiness n a) ts x.1.now ending x.0 a)
    (λ stop. Faults stop (λ f. (n : Name) (a : ℕ) → LeafFault (channel_word of_emptiness n a) ts ending f)) → Words answer (record { word = w; name = name; at = at }) ts ending
emptiness_answer (Ok x) w name at ts ending is read = emptiness_word w name at ts x.1.now ending x.0 is (read name at)
emptiness_answer (Err stop) w name at ts ending is bad = for_fault stop (λ f h. emptiness_fault w name at ts ending f is (h name at)) bad

-- a leaf as a unary
pub leaf_read : (around behind : Around) (w : Spelled) (ts rest : List Token) (a : Atom) → (around.nodes < most_nodes) × (behind ≡ record around { nodes = around.nodes + 1 })
    → WordRead w ts rest around.end a → UnaryRead (named w ∷ ts) rest around behind.nodes (tree.Leaf a w.at)
leaf_read around behind w ts rest a (room, one_more) read = record {
  u = leaf read.l;
  tree = ap (λ x. tree.Leaf x (first_token read.l)) read.atom ∙ ap (tree.Leaf a) read.place;
  text = read.text;
  goes = λ o deep many. read.goes o (omega arith);
  counts = ap (λ (b : Around). b.nodes) one_more;
  fits = let one : behind.nodes ≡ around.nodes + 1 = ap (λ (b : Around). b.nodes) one_more in omega arith;
  levels = omega arith;
  in_range = read.in_range;
  shorter = read.shorter;
}
