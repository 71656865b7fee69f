-- Clocks of a batch behind those that were admitted.
use Rattle.std.proofs.Common.{◌≡◌, ℕ, zero, suc, ◌+◌, ◌-◌, ◌<◌, ◌≤◌, List, [], ◌∷◌, ◌++◌, length, get_or, replicate, refl, sym, ap, ◌∙◌, arith, append_assoc, append-nil, length-append}
use Rattle.std.proofs.lemmas.List.{length-set, length-replicate, get_or_append_left, get_or-append-add}
use Rattle.event_log.specs.declared.log.Event.{Event}
use Rattle.run_model.specs.Cut.{Cut, Clocks}
use Rattle.run_model.specs.Consistent.{clock}
use Rattle.causal_order.specs.Growth.{with_row, with_clocks}
use Rattle.vector_clock.specs.inside.Sound.{joined_clocks}

pub length-joined : (o added : Clocks) → length (joined_clocks o added) ≡ length o
length-joined [] added = refl
length-joined (rows ∷ o) [] = refl
length-joined (rows ∷ o) (more ∷ added) = ap (λ (n : ℕ). suc n) (length-joined o added)

pub joined_at : (o added : Clocks) (p : ℕ) → length added ≡ length o → get_or (joined_clocks o added) p [] ≡ get_or o p [] ++ get_or added p []
joined_at [] [] p h = refl
joined_at [] (more ∷ added) p h = absurd (omega arith)
joined_at (rows ∷ o) [] p h = absurd (omega arith)
joined_at (rows ∷ o) (more ∷ added) zero h = refl
joined_at (rows ∷ o) (more ∷ added) (suc p) h = joined_at o added p (omega arith)

joined_row : (o added : Clocks) (p : ℕ) (row : Cut) → length added ≡ length o → joined_clocks o (with_row added p row) ≡ with_row (joined_clocks o added) p row
joined_row [] [] p row h = refl
joined_row [] (more ∷ added) p row h = absurd (omega arith)
joined_row (rows ∷ o) [] p row h = absurd (omega arith)
joined_row (rows ∷ o) (more ∷ added) zero row h = ap (λ (rs : List Cut). rs ∷ joined_clocks o added) (sym (append_assoc rows more (row ∷ [])))
joined_row (rows ∷ o) (more ∷ added) (suc p) row h = ap (λ (rest : Clocks). (rows ++ more) ∷ rest) (joined_row o added p row (omega arith))

joined_more : (o added : Clocks) (events : List Event) → length added ≡ length o → joined_clocks o (with_clocks added events) ≡ with_clocks (joined_clocks o added) events
unfolding with_clocks
joined_more o added [] h = refl
joined_more o added (e ∷ events) h =
    joined_more o (with_row added e.process e.clock) events (length-set added e.process _ ∙ h)
    ∙ ap (λ (x : Clocks). with_clocks x events) (joined_row o added e.process e.clock h)

joined_none : (o : Clocks) → joined_clocks o (replicate (length o) []) ≡ o
joined_none [] = refl
joined_none (rows ∷ o) = ap (λ (rs : List Cut). rs ∷ joined_clocks o (replicate (length o) [])) (append-nil rows) ∙ ap (λ (rest : Clocks). rows ∷ rest) (joined_none o)

pub joined_batch : (o added : Clocks) (events : List Event) (n : ℕ) → n ≡ length o → added ≡ with_clocks (replicate n []) events → joined_clocks o added ≡ with_clocks o events
joined_batch o added events n count is =
    ap (joined_clocks o) (is ∙ ap (λ (k : ℕ). with_clocks (replicate k []) events) count)
    ∙ joined_more o (replicate (length o) []) events (length-replicate (length o) []) ∙ ap (λ (x : Clocks). with_clocks x events) (joined_none o)

-- ---- one clock

pub first_clock : (o added all : Clocks) (p a : ℕ) → joined_clocks o added ≡ all → length added ≡ length o → 1 ≤ a → a ≤ length (get_or o p []) → clock o p a ≡ clock all p a
unfolding clock
first_clock o added all p zero is same some le = absurd (omega (arith, some))
first_clock o added all p (suc a) is same some le =
    sym (ap (λ (x : Clocks). get_or (get_or x p []) a []) (sym is) ∙ ap (λ (rs : List Cut). get_or rs a []) (joined_at o added p same)
    ∙ get_or_append_left (get_or o p []) (get_or added p []) [] a (omega (arith, le)))

pub later_clock : (o added all : Clocks) (p a n : ℕ) → joined_clocks o added ≡ all → length added ≡ length o → n ≡ length (get_or o p []) → n < a
    → clock added p (a - n) ≡ clock all p a
unfolding clock
later_clock o added all p zero n is same len lt = absurd (omega (arith, lt))
later_clock o added all p (suc a) n is same len lt =
    let behind : suc a - n ≡ suc (a - n) = omega (arith, lt) in
    let place : length (get_or o p []) + (a - n) ≡ a = omega (arith, len, lt) in
    ap (λ (k : ℕ). clock added p k) behind
    ∙ sym (ap (λ (x : Clocks). get_or (get_or x p []) a []) (sym is) ∙ ap (λ (rs : List Cut). get_or rs a []) (joined_at o added p same)
    ∙ ap (λ (k : ℕ). get_or (get_or o p [] ++ get_or added p []) k []) (sym place) ∙ get_or-append-add (get_or o p []) (get_or added p []) (a - n) [])

pub joined_len : (o added all : Clocks) (p : ℕ) → joined_clocks o added ≡ all → length added ≡ length o → length (get_or all p []) ≡ length (get_or o p []) + length (get_or added p [])
joined_len o added all p is same =
    ap (λ (x : Clocks). length (get_or x p [])) (sym is) ∙ ap length (joined_at o added p same) ∙ length-append (get_or o p []) (get_or added p [])

pub joined_count : (o added all : Clocks) → joined_clocks o added ≡ all → length all ≡ length o
joined_count o added all is = ap length (sym is) ∙ length-joined o added
