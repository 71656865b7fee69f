-- How the tokens of a text follow a loop over what stands at the front.
use Rattle.std.proofs.Common.{◌≡◌, ℕ, zero, suc, ◌+◌, ◌<◌, ◌≤◌, List, [], ◌∷◌, ◌++◌, length, drop, refl, arith, append_assoc, append-nil, length-drop}
use Rattle.rctl_grammar.specs.declared.token.Kind.{Kind}
use Rattle.rctl_grammar.specs.declared.token.Token.{Token}
use Rattle.rctl_grammar.specs.declared.token.End.TheVariants as end_is
use Rattle.rctl_lexer.specs.declared.front.Front.TheVariants as at_front
use Rattle.rctl_lexer.specs.declared.lexer.Lexed.{Lexed}
use Rattle.rctl_lexer.specs.Front.{front}
use Rattle.rctl_lexer.specs.Lexing.{after, lex_from}

-- the bytes of a token are passed
pub passes : (n at : ℕ) (xs : List ℕ) → n ≤ length xs → lex_from n at xs ≡ lex_from 0 (at + n) (drop n xs)
unfolding lex_from
passes zero at xs le = let e : at + 0 ≡ at = omega arith in rw e refl
passes (suc n) at [] le = absurd (omega arith)
passes (suc n) at (x ∷ xs) le =
    let e : at + 1 + n ≡ at + suc n = omega arith in
    rw (← e) (passes n (at + 1) xs (omega arith))

pub lex-ended : (ts : List Token) (at : ℕ) (rest : List ℕ) (all : Lexed) → after ts (lex_from 0 at rest) ≡ all → length rest ≡ 0
    → record { tokens = ts; end = end_is.Ends at } ≡ all
unfolding lex_from
lex-ended ts at [] all read none = rw (append-nil ts) at read
lex-ended ts at (x ∷ xs) all read none = absurd (omega arith)

pub lex-bad : (ts : List Token) (at : ℕ) (rest : List ℕ) (all : Lexed) → after ts (lex_from 0 at rest) ≡ all → 0 < length rest → at_front.Bad ≡ front rest
    → record { tokens = ts; end = end_is.BadToken at } ≡ all
unfolding lex_from
lex-bad ts at [] all read some bad = absurd (omega arith)
lex-bad ts at (x ∷ xs) all read some bad = rw (append-nil ts) at (rw (← bad) at read)

pub lex-blank : (ts : List Token) (at : ℕ) (rest next : List ℕ) (all : Lexed) → after ts (lex_from 0 at rest) ≡ all → 0 < length rest → at_front.Blank ≡ front rest
    → next ≡ drop 1 rest → after ts (lex_from 0 (at + 1) next) ≡ all
unfolding lex_from
lex-blank ts at [] next all read some blank is = absurd (omega arith)
lex-blank ts at (x ∷ xs) next all read some blank is = rw is (rw (← blank) at read)

pub lex-token : (ts now : List Token) (at : ℕ) (rest next : List ℕ) (all : Lexed) (kind : Kind) (extra : ℕ) → after ts (lex_from 0 at rest) ≡ all → extra < length rest → at_front.Token kind extra ≡ front rest
    → now ≡ ts ++ record { kind = kind; at = at } ∷ [] → next ≡ drop (extra + 1) rest → after now (lex_from 0 (at + (extra + 1)) next) ≡ all
unfolding lex_from
lex-token ts now at [] next all kind extra read within token pushed is = absurd (omega arith)
lex-token ts now at (x ∷ xs) next all kind extra read within token pushed is =
    let e : at + 1 + extra ≡ at + (extra + 1) = omega arith in
    let s : extra + 1 ≡ suc extra = omega arith in
    let p : lex_from extra (at + 1) xs ≡ lex_from 0 (at + (extra + 1)) (drop extra xs) = rw e at (passes extra (at + 1) xs (omega arith)) in
    let n : next ≡ drop extra xs = rw s at is in
    let r = rw (← token) at read in
    rw (pushed, n, ← p, append_assoc) r

pub goes-on : (at k len : ℕ) (rest next : List ℕ) → at + length rest ≡ len → k ≤ length rest → next ≡ drop k rest → at + k + length next ≡ len
goes-on at k len rest next place within is = rw is (omega (arith, length-drop k rest))
