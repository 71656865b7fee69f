-- A text that is lexed to its end has no line feed, since none is a blank or in a token.
use Rattle.std.proofs.Common.{◌≡◌, ℕ, zero, suc, ◌+◌, Bool, true, false, List, [], ◌∷◌, take, refl}
use Rattle.std.specs.Prelude.{◌==◌, Option, Some, None, is_some, if◌then◌else◌}
use Rattle.pota_base.specs.Number.{is_digit}
use Rattle.pota_names.specs.Names.{is_name, is_name_start, is_name_byte}
use Rattle.rctl_grammar.specs.declared.token.Kind.{Kind}
use Rattle.rctl_grammar.specs.declared.token.End.TheVariants as end_is
use Rattle.rctl_lexer.specs.Front.{is_blank, starts_with, word_front, leads_number, begins_number, number_front, sign_of, with_equals, longer_of, sign_front, front}
use Rattle.rctl_lexer.specs.Lexing.{lex_front, lex_from}
use Rattle.rctl_lexer.specs.Runs.{run_of}
use Rattle.rctl_lexer.specs.declared.front.Front.{Front}
use Rattle.rctl_lexer.specs.declared.front.Front.TheVariants as at_front
use Rattle.rctl_lexer.specs.declared.lexer.Lexed.{Lexed}
use Rattle.question_lines.specs.Lines.{IsOneLine}
use Rattle.question_lines.proofs.Runs.{passed, run-free}

-- what stands at the front of a text is no line feed, and none is in it
abbrev IsFine : Front → ℕ → List ℕ → Type 0
IsFine at_front.Blank x xs = x == 10 ≡ false
IsFine (at_front.Token k extra) x xs = (x == 10 ≡ false) × IsOneLine (take extra xs)
IsFine at_front.Bad x xs = Unit {0}

either : (b : Bool) (f g : Front) (x : ℕ) (xs : List ℕ) → (b ≡ true → IsFine f x xs) → (b ≡ false → IsFine g x xs) → IsFine (if b then f else g) x xs
either true f g x xs h k = h refl
either false f g x xs h k = k refl

word-fine : (x : ℕ) (xs : List ℕ) → is_name_start x ≡ true → IsFine (word_front (x ∷ xs) (run_of is_name_byte xs)) x xs
unfolding word_front
word-fine x xs h =
    either (is_name (take (run_of is_name_byte xs + 1) (x ∷ xs))) _ at_front.Bad x xs (λ _. (passed is_name_start refl x h, run-free is_name_byte refl xs)) (λ _. tt)

number-fine : (x : ℕ) (xs : List ℕ) → leads_number x xs ≡ true → IsFine (number_front (x ∷ xs) (run_of is_digit xs)) x xs
unfolding number_front
number-fine x xs h = (passed (λ b. leads_number b xs) refl x h, run-free is_digit refl xs)

no-sign : is_some (sign_of 10) ≡ false
unfolding sign_of
no-sign = refl

no-sign-of-two : is_some (with_equals 10) ≡ false
unfolding with_equals
no-sign-of-two = refl

equals-free : (xs : List ℕ) → starts_with 61 xs ≡ true → IsOneLine (take 1 xs)
equals-free [] h = tt
equals-free (b ∷ bs) h = (passed (λ c. c == 61) refl b h, tt)

of_two : (b : Bool) (two : Option Kind) → is_some (if b then two else None) ≡ true → (b ≡ true) × (is_some two ≡ true)
of_two true two h = (refl, h)
of_two false two h = absurd cc

longer-fine : (two one : Option Kind) (x : ℕ) (xs : List ℕ) → (is_some two ≡ true → (x == 10 ≡ false) × IsOneLine (take 1 xs)) → (is_some one ≡ true → x == 10 ≡ false) → IsFine (longer_of two one) x xs
longer-fine (Some two) one x xs h k = h refl
longer-fine None (Some one) x xs h k = (k refl, tt)
longer-fine None None x xs h k = tt

sign-fine : (x : ℕ) (xs : List ℕ) → IsFine (sign_front x xs) x xs
unfolding sign_front
sign-fine x xs =
    longer-fine (if starts_with 61 xs then with_equals x else None) (sign_of x) x xs
    (λ h. let p = of_two (starts_with 61 xs) (with_equals x) h in (passed (λ b. is_some (with_equals b)) no-sign-of-two x p.1, equals-free xs p.0))
    (λ h. passed (λ b. is_some (sign_of b)) no-sign x h)

front-fine : (x : ℕ) (xs : List ℕ) → IsFine (front (x ∷ xs)) x xs
unfolding front
front-fine x xs =
    let word = word_front (x ∷ xs) (run_of is_name_byte xs) in
    let number = if begins_number x xs then number_front (x ∷ xs) (run_of is_digit xs) else at_front.Bad in
    let sign = sign_front x xs in
    let unnamed = if leads_number x xs then number else sign in
    either (is_blank x) at_front.Blank (if is_name_start x then word else unnamed) x xs (λ h. passed is_blank refl x h)
    (λ _. either (is_name_start x) word unnamed x xs (λ h. word-fine x xs h)
    (λ _. either (leads_number x xs) number sign x xs
    (λ h. either (begins_number x xs) (number_front (x ∷ xs) (run_of is_digit xs)) at_front.Bad x xs (λ _. number-fine x xs h) (λ _. tt))
    (λ _. sign-fine x xs)))

go_on : (f : Front) (at x : ℕ) (xs : List ℕ) (len : ℕ) (more : ℕ → Lexed) → IsFine f x xs → ((extra : ℕ) → (more extra).end ≡ end_is.Ends len → IsOneLine (take extra xs) → IsOneLine xs)
    → (lex_front f at more).end ≡ end_is.Ends len → IsOneLine (x ∷ xs)
go_on at_front.Blank at x xs len more fine rest e = (fine, rest 0 e tt)
go_on (at_front.Token k extra) at x xs len more fine rest e = (fine.0, rest extra e fine.1)
go_on at_front.Bad at x xs len more fine rest e = absurd cc

pub lexed-free : (behind at : ℕ) (text : List ℕ) (len : ℕ) → (lex_from behind at text).end ≡ end_is.Ends len → IsOneLine (take behind text) → IsOneLine text
unfolding lex_from
lexed-free behind at [] len e h = tt
lexed-free zero at (x ∷ xs) len e h =
    go_on (front (x ∷ xs)) at x xs len (λ extra. lex_from extra (at + 1) xs) (front-fine x xs) (λ extra. lexed-free extra (at + 1) xs len) e
lexed-free (suc behind) at (x ∷ xs) len e h = (h.0, lexed-free behind (at + 1) xs len e h.1)
