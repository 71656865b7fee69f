-- The parser's leaves: what a function reads, from what those that it calls read.
use Rattle.std.specs.Prelude.{ℕ, ℤ, pos, true, List, ◌∷◌, Option, None, Some}
use Rattle.std.proofs.Common.{◌≡◌, refl, sym, ◌∙◌, ap, subst, arith}
use Rattle.run_model.specs.Run.{Name}
use Rattle.rctl_grammar.specs.declared.token.Kind.{Kind}
use Rattle.rctl_grammar.specs.declared.token.Kind.TheVariants as kind
use Rattle.rctl_grammar.specs.declared.token.Token.{Token}
use Rattle.rctl_grammar.specs.declared.token.End.{End}
use Rattle.rctl_grammar.specs.declared.fault.FormulaFault.{FormulaFault}
use Rattle.rctl_grammar.specs.declared.tree.Compare.{Compare}
use Rattle.rctl_grammar.specs.declared.tree.Place.{Place}
use Rattle.rctl_grammar.specs.declared.tree.Side.{Side}
use Rattle.rctl_grammar.specs.declared.tree.Side.TheVariants as side
use Rattle.rctl_grammar.specs.declared.tree.Atom.TheVariants as atom
use Rattle.rctl_grammar.specs.Grammar.{Spelled, Channel, Variable, number, variable, comparison, watch, transit, emptiness, tok, named, placed_name, side_of, in_range, number_of}
use Rattle.rctl_grammar.specs.Machine.{process_dot, left_side, compared, right_process, right_dot, process_at, channel_word, channel_opened, channel_sender, channel_comma, channel_receiver, transit_channel, transit_compared, ChannelWord, of_transit, of_emptiness, going, whole, step_channel, word_in, compare_in, number_in, dot_in, comma_in, open_round_in, close_round_in}
use Rattle.rctl_parse.specs.inside.Reading.{found, here, minus_in, place_in, comparison_in, CountRead, LeafFault, Moves, LeafRead, SideRead, ChannelRead}
use Rattle.rctl_parse.proofs.LeafSteps.{found_is, number_token, number_is, moves, stops, and_then, then_fault, place_word, compare_word, process_on_the_right, behind_dot, compared_on_the_left, left_stops, behind_right, behind_right_dot, behind_at, behind_channel_word, behind_opened, behind_sender, behind_comma, behind_receiver, behind_channel, variable_of, channel_of, compare_token}

-- what misses a token at this place
abbrev pub MissesHere : {A : Type 0} → (Kind → ℕ → Option A) → List Token → End → FormulaFault → Type 0
MissesHere look ts ending f = (found look ts ≡ None) × (f ≡ here ts ending)

pub watch_read : (p : Spelled) (at : ℕ) (process name : Place) (ts rest : List Token) (ending : End) → found place_in ts ≡ Some (name, rest)
    → placed_name p ≡ process → LeafRead (process_at p at) ts rest ending (atom.Watch process name) p.at
watch_read p at process name ts rest ending h is = let w = place_word ts rest name h in record {
  l = watch p at w.0;
  atom = ap (λ x. atom.Watch x (placed_name w.0)) is ∙ ap (atom.Watch process) w.2;
  place = refl;
  in_range = refl;
  moves = moves word_in named (process_at p at) (λ v. whole (watch p at v)) (behind_at p at) ts rest ending w.0 w.1;
}

-- ---- comparisons

number_moves : (left : Variable) (c : Compare) (at : ℕ) (rest : List Token) (ending : End) (value : Option ℤ) (here_at : ℕ) → in_range value ≡ true
    → Moves (compared left c at) (tok (kind.Number value) here_at ∷ rest) rest ending (whole (comparison left c at (number value here_at)))
number_moves left c at rest ending (Some v) here_at is = record { text = refl; goes = λ o. refl; shorter = omega arith }
number_moves left c at rest ending None here_at is = cc

pub number_side : (ts rest : List Token) (ending : End) (value : Option ℤ) (at : ℕ) (s : Side) → found number_in ts ≡ Some ((value, at), rest)
    → (in_range value ≡ true) × (s ≡ side.Number (number_of value)) → SideRead ts rest ending s
number_side ts rest ending value at s is ok = record {
  r = number value at;
  side = sym ok.1;
  in_range = ok.0;
  moves = λ left c here_at. subst (λ (x : List Token). Moves (compared left c here_at) x rest ending (whole (comparison left c here_at (number value at))))
      (sym (found_is number_in number_token number_is ts rest (value, at) is)) (number_moves left c here_at rest ending value at ok.0);
}

pub variable_side : (ts a b rest : List Token) (ending : End) (process name : Place) (dot : ℕ)
    → found place_in ts ≡ Some (process, a) → found dot_in a ≡ Some (dot, b) → found place_in b ≡ Some (name, rest) → SideRead ts rest ending (side.Variable process name)
variable_side ts a b rest ending process name dot hp hd hn = let p = place_word ts a process hp in let v = place_word b rest name hn in record {
  r = variable (variable_of p.0 dot v.0);
  side = ap (λ x. side.Variable x (placed_name v.0)) p.2 ∙ ap (side.Variable process) v.2;
  in_range = refl;
  moves = λ left c at. and_then (compared left c at) (right_process left c at p.0) ts a rest ending (whole (comparison left c at (variable (variable_of p.0 dot v.0))))
      (process_on_the_right left c at ts a ending p.0 p.1)
      (and_then (right_process left c at p.0) (right_dot left c at p.0 dot) a b rest ending (whole (comparison left c at (variable (variable_of p.0 dot v.0))))
      (moves dot_in (tok kind.Dot) (right_process left c at p.0) (λ d. going (right_dot left c at p.0 d)) (behind_right left c at p.0) a b ending dot hd)
      (moves word_in named (right_dot left c at p.0 dot) (λ w. whole (comparison left c at (variable (variable_of p.0 dot w)))) (behind_right_dot left c at p.0 dot) b rest ending v.0 v.1));
}

pub side_without_name : (ts a b : List Token) (ending : End) (process : Place) (dot : ℕ) (f : FormulaFault) → found place_in ts ≡ Some (process, a) → found dot_in a ≡ Some (dot, b)
    → MissesHere word_in b ending f → (left : Variable) (c : Compare) (at : ℕ) → LeafFault (compared left c at) ts ending f
side_without_name ts a b ending process dot f hp hd miss left c at = let p = place_word ts a process hp in
    then_fault (compared left c at) (right_process left c at p.0) ts a ending f (process_on_the_right left c at ts a ending p.0 p.1)
    (then_fault (right_process left c at p.0) (right_dot left c at p.0 dot) a b ending f
    (moves dot_in (tok kind.Dot) (right_process left c at p.0) (λ d. going (right_dot left c at p.0 d)) (behind_right left c at p.0) a b ending dot hd)
    (stops word_in named (right_dot left c at p.0 dot) (λ w. whole (comparison left c at (variable (variable_of p.0 dot w)))) (behind_right_dot left c at p.0 dot) b ending f miss))

pub comparison_read : (p : Spelled) (dot : ℕ) (process name : Place) (c : Compare) (s : Side) (ts a b rest : List Token) (ending : End)
    → found place_in ts ≡ Some (name, a) → found comparison_in a ≡ Some (c, b) → SideRead b rest ending s → placed_name p ≡ process
    → LeafRead (process_dot p dot) ts rest ending (atom.Local process name c s) p.at
comparison_read p dot process name c s ts a b rest ending hn hc read is =
    let v = place_word ts a name hn in
    let k = compare_word a b c hc in
    let left : Variable = variable_of p dot v.0 in record {
      l = comparison left c k.0 read.r;
      atom = ap (λ x. atom.Local x (placed_name v.0) c (side_of read.r)) is ∙ ap (λ x. atom.Local process x c (side_of read.r)) v.2 ∙ ap (atom.Local process name c) read.side;
      place = refl;
      in_range = read.in_range;
      moves = and_then (process_dot p dot) (left_side left) ts a rest ending (whole (comparison left c k.0 read.r))
          (moves word_in named (process_dot p dot) (λ w. going (left_side (variable_of p dot w))) (behind_dot p dot) ts a ending v.0 v.1)
          (and_then (left_side left) (compared left c k.0) a b rest ending (whole (comparison left c k.0 read.r))
          (compared_on_the_left left a b ending (c, k.0) k.1) (read.moves left c k.0));
    }

pub comparison_without_sign : (ts a : List Token) (ending : End) (name : Place) (f : FormulaFault) → found place_in ts ≡ Some (name, a) → found minus_in a ≡ None → MissesHere compare_in a ending f
    → (p : Spelled) (dot : ℕ) → LeafFault (process_dot p dot) ts ending f
comparison_without_sign ts a ending name f hn none miss p dot = let v = place_word ts a name hn in let left : Variable = variable_of p dot v.0 in
    then_fault (process_dot p dot) (left_side left) ts a ending f
    (moves word_in named (process_dot p dot) (λ w. going (left_side (variable_of p dot w))) (behind_dot p dot) ts a ending v.0 v.1)
    (left_stops left a ending f none miss)

pub comparison_without_side : (ts a b : List Token) (ending : End) (name : Place) (c : Compare) (f : FormulaFault)
    → found place_in ts ≡ Some (name, a) → found comparison_in a ≡ Some (c, b) → ((left : Variable) (d : Compare) (at : ℕ) → LeafFault (compared left d at) b ending f)
    → (p : Spelled) (dot : ℕ) → LeafFault (process_dot p dot) ts ending f
comparison_without_side ts a b ending name c f hn hc bad p dot =
    let v = place_word ts a name hn in
    let k = compare_word a b c hc in
    let left : Variable = variable_of p dot v.0 in
    then_fault (process_dot p dot) (left_side left) ts a ending f
    (moves word_in named (process_dot p dot) (λ w. going (left_side (variable_of p dot w))) (behind_dot p dot) ts a ending v.0 v.1)
    (then_fault (left_side left) (compared left c k.0) a b ending f
    (compared_on_the_left left a b ending (c, k.0) k.1) (bad left c k.0))

-- ---- channels

-- behind the word as far as the receiver
pub record Inside (ts rest : List Token) (ending : End) (sender : Place) : Type 0 where
  pub opened : ℕ
  pub s : Spelled
  pub sender_is : placed_name s ≡ sender
  pub moves : (w : ChannelWord) (name : Name) (at : ℕ) → Moves (channel_word w name at) ts rest ending (going (channel_sender w name at opened s))

pub inside : (ts a b : List Token) (ending : End) (opened : ℕ) (sender : Place) → found open_round_in ts ≡ Some (opened, a) → found place_in a ≡ Some (sender, b) → Inside ts b ending sender
inside ts a b ending opened sender ho hs = let s = place_word a b sender hs in record {
  opened = opened;
  s = s.0;
  sender_is = s.2;
  moves = λ w name at. and_then (channel_word w name at) (channel_opened w name at opened) ts a b ending (going (channel_sender w name at opened s.0))
      (moves open_round_in (tok kind.OpenRound) (channel_word w name at) (λ x. going (channel_opened w name at x)) (behind_channel_word w name at) ts a ending opened ho)
      (moves word_in named (channel_opened w name at opened) (λ x. going (channel_sender w name at opened x)) (behind_opened w name at opened) a b ending s.0 s.1);
}

pub channel_read : (ts b c d rest : List Token) (ending : End) (sender receiver : Place) (comma closed : ℕ) → Inside ts b ending sender
    → found comma_in b ≡ Some (comma, c) → found place_in c ≡ Some (receiver, d) → found close_round_in d ≡ Some (closed, rest) → ChannelRead ts rest ending sender receiver
channel_read ts b c d rest ending sender receiver comma closed i hc hr hd = let r = place_word c d receiver hr in record {
  c = channel_of i.opened i.s comma r.0 closed;
  sender_is = i.sender_is;
  receiver_is = r.2;
  moves = λ w name at. and_then (channel_word w name at) (channel_sender w name at i.opened i.s) ts b rest ending (step_channel w name at (channel_of i.opened i.s comma r.0 closed)) (i.moves w name at)
      (and_then (channel_sender w name at i.opened i.s) (channel_comma w name at i.opened i.s comma) b c rest ending (step_channel w name at (channel_of i.opened i.s comma r.0 closed))
      (moves comma_in (tok kind.Comma) (channel_sender w name at i.opened i.s) (λ x. going (channel_comma w name at i.opened i.s x)) (behind_sender w name at i.opened i.s) b c ending comma hc)
      (and_then (channel_comma w name at i.opened i.s comma) (channel_receiver w name at i.opened i.s comma r.0) c d rest ending (step_channel w name at (channel_of i.opened i.s comma r.0 closed))
      (moves word_in named (channel_comma w name at i.opened i.s comma) (λ x. going (channel_receiver w name at i.opened i.s comma x)) (behind_comma w name at i.opened i.s comma) c d ending r.0 r.1)
      (moves close_round_in (tok kind.CloseRound) (channel_receiver w name at i.opened i.s comma r.0) (λ x. step_channel w name at (channel_of i.opened i.s comma r.0 x))
      (behind_receiver w name at i.opened i.s comma r.0) d rest ending closed hd)));
}

pub channel_without_comma : (ts b : List Token) (ending : End) (sender : Place) (f : FormulaFault) → Inside ts b ending sender → MissesHere comma_in b ending f
    → (w : ChannelWord) (name : Name) (at : ℕ) → LeafFault (channel_word w name at) ts ending f
channel_without_comma ts b ending sender f i miss w name at = then_fault (channel_word w name at) (channel_sender w name at i.opened i.s) ts b ending f (i.moves w name at)
    (stops comma_in (tok kind.Comma) (channel_sender w name at i.opened i.s) (λ x. going (channel_comma w name at i.opened i.s x)) (behind_sender w name at i.opened i.s) b ending f miss)

pub channel_without_receiver : (ts b c : List Token) (ending : End) (sender : Place) (comma : ℕ) (f : FormulaFault) → Inside ts b ending sender → found comma_in b ≡ Some (comma, c)
    → MissesHere word_in c ending f → (w : ChannelWord) (name : Name) (at : ℕ) → LeafFault (channel_word w name at) ts ending f
channel_without_receiver ts b c ending sender comma f i hc miss w name at = then_fault (channel_word w name at) (channel_sender w name at i.opened i.s) ts b ending f (i.moves w name at)
    (then_fault (channel_sender w name at i.opened i.s) (channel_comma w name at i.opened i.s comma) b c ending f
    (moves comma_in (tok kind.Comma) (channel_sender w name at i.opened i.s) (λ x. going (channel_comma w name at i.opened i.s x)) (behind_sender w name at i.opened i.s) b c ending comma hc)
    (stops word_in named (channel_comma w name at i.opened i.s comma) (λ x. going (channel_receiver w name at i.opened i.s comma x)) (behind_comma w name at i.opened i.s comma) c ending f miss))

pub channel_without_closing : (ts b c d : List Token) (ending : End) (sender receiver : Place) (comma : ℕ) (f : FormulaFault) → Inside ts b ending sender → found comma_in b ≡ Some (comma, c)
    → found place_in c ≡ Some (receiver, d) → MissesHere close_round_in d ending f → (w : ChannelWord) (name : Name) (at : ℕ) → LeafFault (channel_word w name at) ts ending f
channel_without_closing ts b c d ending sender receiver comma f i hc hr miss w name at = let r = place_word c d receiver hr in
    then_fault (channel_word w name at) (channel_sender w name at i.opened i.s) ts b ending f (i.moves w name at)
    (then_fault (channel_sender w name at i.opened i.s) (channel_comma w name at i.opened i.s comma) b c ending f
    (moves comma_in (tok kind.Comma) (channel_sender w name at i.opened i.s) (λ x. going (channel_comma w name at i.opened i.s x)) (behind_sender w name at i.opened i.s) b c ending comma hc)
    (then_fault (channel_comma w name at i.opened i.s comma) (channel_receiver w name at i.opened i.s comma r.0) c d ending f
    (moves word_in named (channel_comma w name at i.opened i.s comma) (λ x. going (channel_receiver w name at i.opened i.s comma x)) (behind_comma w name at i.opened i.s comma) c d ending r.0 r.1)
    (stops close_round_in (tok kind.CloseRound) (channel_receiver w name at i.opened i.s comma r.0) (λ x. step_channel w name at (channel_of i.opened i.s comma r.0 x))
    (behind_receiver w name at i.opened i.s comma r.0) d ending f miss)))

pub emptiness_read : (ts rest : List Token) (ending : End) (sender receiver : Place) → ChannelRead ts rest ending sender receiver
    → (name : Name) (at : ℕ) → LeafRead (channel_word of_emptiness name at) ts rest ending (atom.Empty sender receiver) at
emptiness_read ts rest ending sender receiver read name at = record {
  l = emptiness name at read.c;
  atom = ap (λ x. atom.Empty x (placed_name read.c.receiver)) read.sender_is ∙ ap (atom.Empty sender) read.receiver_is;
  place = refl;
  in_range = refl;
  moves = read.moves of_emptiness name at;
}

count_moves : (name : Name) (at : ℕ) (channel : Channel) (c : Compare) (c_at : ℕ) (ts rest : List Token) (ending : End) (k k_at : ℕ) → ts ≡ tok (kind.Number (Some (pos k))) k_at ∷ rest
    → Moves (transit_compared name at channel c c_at) ts rest ending (whole (transit name at channel c c_at (Some (pos k)) k_at))
count_moves name at channel c c_at ts rest ending k k_at is =
    subst (λ (x : List Token). Moves (transit_compared name at channel c c_at) x rest ending (whole (transit name at channel c c_at (Some (pos k)) k_at))) (sym is)
    (record { text = refl; goes = λ o. refl; shorter = omega arith })

pub transit_read : (ts a b rest : List Token) (ending : End) (sender receiver : Place) (c : Compare) (k : ℕ) → ChannelRead ts a ending sender receiver
    → found comparison_in a ≡ Some (c, b) → CountRead b rest k
    → (name : Name) (at : ℕ) → LeafRead (channel_word of_transit name at) ts rest ending (atom.InTransit sender receiver c k) at
transit_read ts a b rest ending sender receiver c k read hc count name at = let x = compare_word a b c hc in record {
  l = transit name at read.c c x.0 (Some (pos k)) count.0;
  atom = ap (λ y. atom.InTransit y (placed_name read.c.receiver) c k) read.sender_is ∙ ap (λ y. atom.InTransit sender y c k) read.receiver_is;
  place = refl;
  in_range = refl;
  moves = and_then (channel_word of_transit name at) (transit_channel name at read.c) ts a rest ending (whole (transit name at read.c c x.0 (Some (pos k)) count.0)) (read.moves of_transit name at)
      (and_then (transit_channel name at read.c) (transit_compared name at read.c c x.0) a b rest ending (whole (transit name at read.c c x.0 (Some (pos k)) count.0))
      (moves compare_in compare_token (transit_channel name at read.c) (λ y. going (transit_compared name at read.c y.0 y.1)) (behind_channel name at read.c) a b ending (c, x.0) x.1)
      (count_moves name at read.c c x.0 b rest ending k count.0 count.1));
}

pub transit_without_sign : (ts a : List Token) (ending : End) (sender receiver : Place) (f : FormulaFault) → ChannelRead ts a ending sender receiver → MissesHere compare_in a ending f
    → (name : Name) (at : ℕ) → LeafFault (channel_word of_transit name at) ts ending f
transit_without_sign ts a ending sender receiver f read miss name at = then_fault (channel_word of_transit name at) (transit_channel name at read.c) ts a ending f (read.moves of_transit name at)
    (stops compare_in compare_token (transit_channel name at read.c) (λ y. going (transit_compared name at read.c y.0 y.1)) (behind_channel name at read.c) a ending f miss)

pub transit_without_count : (ts a b : List Token) (ending : End) (sender receiver : Place) (c : Compare) (f : FormulaFault) → ChannelRead ts a ending sender receiver
    → found comparison_in a ≡ Some (c, b) → ((name : Name) (at : ℕ) (channel : Channel) (d : Compare) (d_at : ℕ) → LeafFault (transit_compared name at channel d d_at) b ending f)
    → (name : Name) (at : ℕ) → LeafFault (channel_word of_transit name at) ts ending f
transit_without_count ts a b ending sender receiver c f read hc bad name at = let x = compare_word a b c hc in
    then_fault (channel_word of_transit name at) (transit_channel name at read.c) ts a ending f (read.moves of_transit name at)
    (then_fault (transit_channel name at read.c) (transit_compared name at read.c c x.0) a b ending f
    (moves compare_in compare_token (transit_channel name at read.c) (λ y. going (transit_compared name at read.c y.0 y.1)) (behind_channel name at read.c) a b ending (c, x.0) x.1)
    (bad name at read.c c x.0))
