-- The walk over the tokens of a formula, one token further, and texts that are told once.
use Rattle.std.proofs.Common.{◌≡◌, ℕ, ◌+◌, ◌-◌, ◌<◌, ◌≤◌, true, false, List, [], ◌∷◌, ◌++◌, length, take, drop, get_or, refl, sym, ap, ◌∙◌, append_assoc, arith}
use Rattle.std.proofs.lemmas.List.{at_drop_more, at_drop_all, append-nil, take_more}
use Rattle.rctl_grammar.specs.declared.token.Kind.{Kind}
use Rattle.rctl_grammar.specs.declared.token.Kind.TheVariants as kind
use Rattle.rctl_grammar.specs.declared.token.Token.{Token}
use Rattle.view_text.specs.declared.claims.Walk.{Walk}
use Rattle.std.specs.Prelude.{Bool, not, ◌&&◌}
use Rattle.view_text.specs.Alternatives.{between, alternatives, is_first, begin_with_operators}
use Rattle.view_text.specs.Claims.{is_plain, claim_of, said, depth_behind, walked, is_outer_bar, disjunct_claims, told_new, told_once}

ends_step : (w : Walk) (text : List ℕ) (t : Token) (ts : List Token) → is_outer_bar w.depth t.kind ≡ true → disjunct_claims w text (t ∷ ts) ≡ text ∷ disjunct_claims (walked w t.kind ts) [] ts
unfolding disjunct_claims
ends_step w text t ts h = rw h refl

goes_on : (w : Walk) (text : List ℕ) (t : Token) (ts : List Token) → is_outer_bar w.depth t.kind ≡ false → disjunct_claims w text (t ∷ ts) ≡ disjunct_claims (walked w t.kind ts) (text ++ said w (claim_of t.kind ts)) ts
unfolding disjunct_claims
goes_on w text t ts h = rw h refl

split_at : (w : Walk) (text : List ℕ) (tokens : List Token) (i : ℕ) (t : Token) → i < length tokens → t ≡ get_or tokens i t → disjunct_claims w text (drop i tokens) ≡ disjunct_claims w text (t ∷ drop (i + 1) tokens)
split_at w text tokens i t lt is =
    at_drop_more (disjunct_claims w text) tokens i t lt ∙ ap (λ (x : Token). disjunct_claims w text (x ∷ drop (i + 1) tokens)) (sym is)

-- a disjunct that ends stands behind those that ended before it
pub ends_next : (w : Walk) (text : List ℕ) (tokens : List Token) (i : ℕ) (t : Token) (texts new all : List (List ℕ)) → i < length tokens → t ≡ get_or tokens i t → is_outer_bar w.depth t.kind ≡ true
    → texts ++ disjunct_claims w text (drop i tokens) ≡ all → new ≡ texts ++ text ∷ [] → new ++ disjunct_claims (walked w t.kind (drop (i + 1) tokens)) [] (drop (i + 1) tokens) ≡ all
ends_next w text tokens i t texts new all lt is ends so_far put =
    let rest = drop (i + 1) tokens in
    let behind = disjunct_claims (walked w t.kind rest) [] rest in
    ap (λ (x : List (List ℕ)). x ++ behind) put ∙ append_assoc texts (text ∷ []) behind ∙ ap (λ (x : List (List ℕ)). texts ++ x) (sym (split_at w text tokens i t lt is ∙ ends_step w text t rest ends)) ∙ so_far

-- what is said of a token stands behind what was said of its disjunct
pub said_next : (w : Walk) (text new : List ℕ) (tokens : List Token) (i : ℕ) (t : Token) (texts all : List (List ℕ)) → i < length tokens → t ≡ get_or tokens i t → is_outer_bar w.depth t.kind ≡ false
    → texts ++ disjunct_claims w text (drop i tokens) ≡ all → new ≡ text ++ said w (claim_of t.kind (drop (i + 1) tokens)) → texts ++ disjunct_claims (walked w t.kind (drop (i + 1) tokens)) new (drop (i + 1) tokens) ≡ all
said_next w text new tokens i t texts all lt is goes so_far put =
    let rest = drop (i + 1) tokens in
    ap (λ (x : List ℕ). texts ++ disjunct_claims (walked w t.kind rest) x rest) put ∙ ap (λ (x : List (List ℕ)). texts ++ x) (sym (split_at w text tokens i t lt is ∙ goes_on w text t rest goes)) ∙ so_far

pub said_all : (w : Walk) (text : List ℕ) (tokens : List Token) (i : ℕ) (texts all : List (List ℕ)) → length tokens ≤ i → texts ++ disjunct_claims w text (drop i tokens) ≡ all → texts ++ text ∷ [] ≡ all
unfolding disjunct_claims
said_all w text tokens i texts all past so_far = ap (λ (x : List (List ℕ)). texts ++ x) (sym (at_drop_all (disjunct_claims w text) tokens i past)) ∙ so_far

once_step : (earlier : List (List ℕ)) (text : List ℕ) (texts : List (List ℕ)) → told_once earlier (text ∷ texts) ≡ told_new earlier text ++ told_once (earlier ++ text ∷ []) texts
unfolding told_once
once_step earlier text texts = refl

-- what is told of a text stands behind what was told of the earlier ones
pub once_next : (texts : List (List ℕ)) (i : ℕ) (out new all : List ℕ) → i < length texts → out ++ told_once (take i texts) (drop i texts) ≡ all → new ≡ out ++ told_new (take i texts) (get_or texts i [])
    → new ++ told_once (take (i + 1) texts) (drop (i + 1) texts) ≡ all
once_next texts i out new all lt so_far put =
    let text = get_or texts i [] in
    let rest = told_once (take (i + 1) texts) (drop (i + 1) texts) in
    let more : take i texts ++ text ∷ [] ≡ take (i + 1) texts = sym (take_more texts i [] lt) in
    let split : told_once (take i texts) (drop i texts) ≡ told_new (take i texts) text ++ rest =
    at_drop_more (told_once (take i texts)) texts i [] lt ∙ once_step (take i texts) text (drop (i + 1) texts) ∙ ap (λ (x : List (List ℕ)). told_new (take i texts) text ++ told_once x (drop (i + 1) texts)) more in
    ap (λ (x : List ℕ). x ++ rest) put ∙ append_assoc out (told_new (take i texts) text) rest ∙ ap (λ (x : List ℕ). out ++ x) (sym split) ∙ so_far

pub once_all : (texts : List (List ℕ)) (i : ℕ) (out all : List ℕ) → length texts ≤ i → out ++ told_once (take i texts) (drop i texts) ≡ all → out ≡ all
unfolding told_once
once_all texts i out all past so_far = sym (append-nil out) ∙ ap (λ (x : List ℕ). out ++ x) (sym (at_drop_all (told_once (take i texts)) texts i past)) ∙ so_far

-- ---- the alternatives

bar_step : (f : List ℕ) (begin depth : ℕ) (t : Token) (ts : List Token) → is_outer_bar depth t.kind ≡ true → alternatives f begin depth (t ∷ ts) ≡ between f begin (t.at - 1) ∷ alternatives f (t.at + 2) depth ts
unfolding alternatives
bar_step f begin depth t ts h = rw h refl

within_step : (f : List ℕ) (begin depth : ℕ) (t : Token) (ts : List Token) → is_outer_bar depth t.kind ≡ false → alternatives f begin depth (t ∷ ts) ≡ alternatives f begin (depth_behind depth t.kind) ts
unfolding alternatives
within_step f begin depth t ts h = rw h refl

alternatives_at : (f : List ℕ) (begin depth : ℕ) (tokens : List Token) (i : ℕ) (t : Token) → i < length tokens → t ≡ get_or tokens i t → alternatives f begin depth (drop i tokens) ≡ alternatives f begin depth (t ∷ drop (i + 1) tokens)
alternatives_at f begin depth tokens i t lt is =
    at_drop_more (alternatives f begin depth) tokens i t lt ∙ ap (λ (x : Token). alternatives f begin depth (x ∷ drop (i + 1) tokens)) (sym is)

-- an alternative that ends stands behind those that ended before it
pub bar_next : (f : List ℕ) (begin depth : ℕ) (tokens : List Token) (i : ℕ) (t : Token) (texts new all : List (List ℕ)) → i < length tokens → t ≡ get_or tokens i t → is_outer_bar depth t.kind ≡ true
    → texts ++ alternatives f begin depth (drop i tokens) ≡ all → new ≡ texts ++ between f begin (t.at - 1) ∷ [] → new ++ alternatives f (t.at + 2) depth (drop (i + 1) tokens) ≡ all
bar_next f begin depth tokens i t texts new all lt is bar so_far put =
    let behind = alternatives f (t.at + 2) depth (drop (i + 1) tokens) in
    let text = between f begin (t.at - 1) in
    ap (λ (x : List (List ℕ)). x ++ behind) put ∙ append_assoc texts (text ∷ []) behind ∙ ap (λ (x : List (List ℕ)). texts ++ x) (sym (alternatives_at f begin depth tokens i t lt is ∙ bar_step f begin depth t (drop (i + 1) tokens) bar)) ∙ so_far

pub within_next : (f : List ℕ) (begin depth : ℕ) (tokens : List Token) (i : ℕ) (t : Token) (texts all : List (List ℕ)) → i < length tokens → t ≡ get_or tokens i t → is_outer_bar depth t.kind ≡ false
    → texts ++ alternatives f begin depth (drop i tokens) ≡ all → texts ++ alternatives f begin (depth_behind depth t.kind) (drop (i + 1) tokens) ≡ all
within_next f begin depth tokens i t texts all lt is bar so_far =
    ap (λ (x : List (List ℕ)). texts ++ x) (sym (alternatives_at f begin depth tokens i t lt is ∙ within_step f begin depth t (drop (i + 1) tokens) bar)) ∙ so_far

pub alternatives_all : (f : List ℕ) (begin depth : ℕ) (tokens : List Token) (i : ℕ) (texts all : List (List ℕ)) → length tokens ≤ i → texts ++ alternatives f begin depth (drop i tokens) ≡ all → texts ++ between f begin (length f) ∷ [] ≡ all
unfolding alternatives
alternatives_all f begin depth tokens i texts all past so_far = ap (λ (x : List (List ℕ)). texts ++ x) (sym (at_drop_all (alternatives f begin depth) tokens i past)) ∙ so_far

first_step : (w : Walk) (t : Token) (ts : List Token) → begin_with_operators w (t ∷ ts) ≡ (not (is_first w.stand && is_plain (claim_of t.kind ts)) && begin_with_operators (walked w t.kind ts) ts)
unfolding begin_with_operators
first_step w t ts = refl

operators_at : (w : Walk) (tokens : List Token) (i : ℕ) (t : Token) → i < length tokens → t ≡ get_or tokens i t
    → begin_with_operators w (drop i tokens) ≡ (not (is_first w.stand && is_plain (claim_of t.kind (drop (i + 1) tokens))) && begin_with_operators (walked w t.kind (drop (i + 1) tokens)) (drop (i + 1) tokens))
operators_at w tokens i t lt is =
    at_drop_more (begin_with_operators w) tokens i t lt ∙ ap (λ (x : Token). begin_with_operators w (x ∷ drop (i + 1) tokens)) (sym is) ∙ first_step w t (drop (i + 1) tokens)

pub plain_here : (w : Walk) (tokens : List Token) (i : ℕ) (t : Token) → i < length tokens → t ≡ get_or tokens i t → (is_first w.stand && is_plain (claim_of t.kind (drop (i + 1) tokens))) ≡ true → begin_with_operators w (drop i tokens) ≡ false
plain_here w tokens i t lt is h = operators_at w tokens i t lt is ∙ ap (λ (b : Bool). not b && begin_with_operators (walked w t.kind (drop (i + 1) tokens)) (drop (i + 1) tokens)) h

pub operators_next : (w : Walk) (tokens : List Token) (i : ℕ) (t : Token) → i < length tokens → t ≡ get_or tokens i t → (is_first w.stand && is_plain (claim_of t.kind (drop (i + 1) tokens))) ≡ false
    → begin_with_operators w (drop i tokens) ≡ begin_with_operators (walked w t.kind (drop (i + 1) tokens)) (drop (i + 1) tokens)
operators_next w tokens i t lt is h = operators_at w tokens i t lt is ∙ ap (λ (b : Bool). not b && begin_with_operators (walked w t.kind (drop (i + 1) tokens)) (drop (i + 1) tokens)) h

pub operators_all : (w : Walk) (tokens : List Token) (i : ℕ) → length tokens ≤ i → begin_with_operators w (drop i tokens) ≡ true
unfolding begin_with_operators
operators_all w tokens i past = at_drop_all (begin_with_operators w) tokens i past

pub deeper : (depth : ℕ) (k : Kind) → depth_behind depth k ≤ depth + 1
deeper depth kind.OpenRound = omega arith
deeper depth kind.OpenSquare = omega arith
deeper depth kind.CloseRound = omega arith
deeper depth kind.CloseSquare = omega arith
deeper depth (kind.Word w n) = omega arith
deeper depth (kind.Number n) = omega arith
deeper depth kind.Comma = omega arith
deeper depth kind.Dot = omega arith
deeper depth kind.At = omega arith
deeper depth kind.Bang = omega arith
deeper depth kind.Amp = omega arith
deeper depth kind.Bar = omega arith
deeper depth kind.Minus = omega arith
deeper depth (kind.Compare c) = omega arith
