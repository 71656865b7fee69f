-- What the tokens of a formula name.
use Rattle.std.specs.Prelude.{Bool, true, false, ◌&&◌, ◌||◌, List, [], ◌∷◌}
use Rattle.std.specs.Str.{bytes_eq}
use Rattle.log_lines.specs.Names.{Name}
use Rattle.rctl_grammar.specs.declared.token.Kind.{Kind}
use Rattle.rctl_grammar.specs.declared.token.Kind.TheVariants as kind
use Rattle.rctl_grammar.specs.declared.token.Token.{Token}
use Rattle.rctl_grammar.specs.declared.token.Word.TheVariants as word
use Rattle.view_parts.specs.declared.naming.Sought.{Sought}
use Rattle.view_parts.specs.declared.naming.Sought.TheVariants as sought

-- whether the token is this word
abbrev pub is_word : Name → Kind → Bool
is_word name (kind.Word word bytes) = bytes_eq bytes name
is_word name k = false

abbrev pub is_dot : Kind → Bool
is_dot kind.Dot = true
is_dot k = false

abbrev pub is_at : Kind → Bool
is_at kind.At = true
is_at k = false

abbrev pub is_opening : Kind → Bool
is_opening kind.OpenRound = true
is_opening k = false

abbrev pub is_comma : Kind → Bool
is_comma kind.Comma = true
is_comma k = false

-- whether the token begins an atom of a channel, by `intransit` or `empty`
abbrev pub is_transit : Kind → Bool
is_transit (kind.Word word.InTransit bytes) = true
is_transit (kind.Word word.Empty bytes) = true
is_transit k = false

abbrev pub is_next : Kind → Bool
is_next (kind.Word word.Ex bytes) = true
is_next k = false

abbrev pub is_some_word : Kind → Bool
is_some_word (kind.Word word bytes) = true
is_some_word k = false

-- whether the tokens begin with `PROCESS.VARIABLE`
abbrev pub begin_with_variable : Name → Name → List Token → Bool
begin_with_variable process variable [] = false
begin_with_variable process variable (t ∷ []) = false
begin_with_variable process variable (t ∷ u ∷ []) = false
begin_with_variable process variable (t ∷ u ∷ v ∷ ts) =
    is_dot u.kind && (is_word process t.kind && is_word variable v.kind)

-- whether they begin with `PROCESS.`
abbrev pub begin_with_owner : Name → List Token → Bool
begin_with_owner process [] = false
begin_with_owner process (t ∷ []) = false
begin_with_owner process (t ∷ u ∷ ts) = is_dot u.kind && is_word process t.kind

-- whether they begin with `intransit(SENDER,RECEIVER` or `empty(SENDER,RECEIVER`
abbrev pub begin_with_channel : Name → Name → List Token → Bool
begin_with_channel sender receiver [] = false
begin_with_channel sender receiver (t ∷ []) = false
begin_with_channel sender receiver (t ∷ u ∷ []) = false
begin_with_channel sender receiver (t ∷ u ∷ v ∷ []) = false
begin_with_channel sender receiver (t ∷ u ∷ v ∷ w ∷ []) = false
begin_with_channel sender receiver (t ∷ u ∷ v ∷ w ∷ x ∷ ts) =
    is_transit t.kind
    && (is_opening u.kind
    && (is_word sender v.kind && (is_comma w.kind && is_word receiver x.kind)))

-- whether they begin with `PROCESS@`
abbrev pub begin_with_watch : Name → List Token → Bool
begin_with_watch process [] = false
begin_with_watch process (t ∷ []) = false
begin_with_watch process (t ∷ u ∷ ts) = is_at u.kind && is_word process t.kind

-- whether they begin with `EX` and a name behind it: then it is the operator
abbrev pub begin_with_next : List Token → Bool
begin_with_next [] = false
begin_with_next (t ∷ []) = false
begin_with_next (t ∷ u ∷ ts) = is_next t.kind && is_some_word u.kind

-- what the tokens begin with
abbrev pub beginning : Sought → List Token → Bool
beginning (sought.Variable process variable) ts = begin_with_variable process.now variable.now ts
beginning (sought.Owner process) ts = begin_with_owner process.now ts
beginning (sought.Channel sender receiver) ts = begin_with_channel sender.now receiver.now ts
beginning (sought.Watch process) ts = begin_with_watch process.now ts
beginning sought.Next ts = begin_with_next ts

-- whether the tokens begin so from some token on
unfoldable pub names : (List Token → Bool) → List Token → Bool
names begin [] = false
names begin (t ∷ ts) = begin (t ∷ ts) || names begin ts
