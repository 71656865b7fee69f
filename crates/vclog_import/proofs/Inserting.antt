-- A host that is put in its place by a walk from the front.
use Rattle.std.proofs.Common.{◌≡◌, ℕ, zero, suc, ◌+◌, ◌<◌, ◌≤◌, Bool, List, [], ◌∷◌, ◌++◌, length, take, drop, get_or, refl, sym, ap, subst, ◌∙◌, arith, append_assoc}
use Rattle.std.specs.Borrow.{Bor}
use Rattle.std.specs.Prelude.{◌||◌}
use Rattle.std.specs.List.{insert, list_any}
use Rattle.std.specs.declared.cmp.Ordering.{Ordering}
use Rattle.std.specs.declared.cmp.Ordering.TheVariants.{Less, Equal, Greater}
use Rattle.std.specs.Ordering.{match_ordering, nat_cmp}
use Rattle.std.specs.Cmp.Lexicographic.{slice_cmp}
use Rattle.std.specs.Str.{bytes_eq}
use Rattle.std.proofs.lemmas.Slice.Eq.{bytes_eq-Decides}
use Rattle.std.proofs.lemmas.Bool.{or_right}
use Rattle.std.proofs.lemmas.List.{take-append-drop, take_all, drop_all, drop_more, take_more, length-map}
use Rattle.vclog_import.specs.Hosts.{Host, with_host}
use Rattle.vclog_import.specs.inside.Scans.{hosts_in, Has}
use Rattle.vclog_import.proofs.HostLaws.{same_host}
use Rattle.vclog_import.proofs.LineLists.{host_at}

-- so far the host stands behind all hosts
abbrev pub Walks : Host → List Host → ℕ → Type 0
Walks host hosts i = with_host host hosts ≡ take i hosts ++ with_host host (drop i hosts)

module _ (host : Host) (hosts : List Host) (i : ℕ) (next : Host) (lt : i < length hosts) (is : next ≡ get_or hosts i next) where
  cut : drop i hosts ≡ next ∷ drop (i + 1) hosts
  cut = drop_more hosts i next lt ∙ ap (λ (h : Host). h ∷ drop (i + 1) hosts) (sym is)

  at : (o : Ordering) → slice_cmp nat_cmp host next ≡ o → with_host host (drop i hosts) ≡ match_ordering o (host ∷ next ∷ drop (i + 1) hosts) (next ∷ drop (i + 1) hosts) (next ∷ with_host host (drop (i + 1) hosts))
  unfolding with_host
  at o ordered = ap (with_host host) cut ∙ ap (λ (x : Ordering). match_ordering x (host ∷ next ∷ drop (i + 1) hosts) (next ∷ drop (i + 1) hosts) (next ∷ with_host host (drop (i + 1) hosts))) ordered

  pub walks_in : Walks host hosts i → slice_cmp nat_cmp host next ≡ Less → with_host host hosts ≡ insert hosts i host
  walks_in so less = so ∙ ap (λ (hs : List Host). take i hosts ++ hs) (at Less less ∙ ap (λ (hs : List Host). host ∷ hs) (sym cut))

  pub walks_onto : Walks host hosts i → slice_cmp nat_cmp host next ≡ Equal → with_host host hosts ≡ hosts
  walks_onto so equal = so ∙ ap (λ (hs : List Host). take i hosts ++ hs) (at Equal equal ∙ sym cut) ∙ take-append-drop i hosts

  pub walks_on : Walks host hosts i → slice_cmp nat_cmp host next ≡ Greater → Walks host hosts (i + 1)
  walks_on so greater =
      so ∙ ap (λ (hs : List Host). take i hosts ++ hs) (at Greater greater)
      ∙ sym (append_assoc (take i hosts) (next ∷ []) (with_host host (drop (i + 1) hosts)))
      ∙ ap (λ (front : List Host). front ++ with_host host (drop (i + 1) hosts)) (sym (take_more hosts i next lt ∙ ap (λ (h : Host). take i hosts ++ h ∷ []) (sym is)))

  pub there : slice_cmp nat_cmp host next ≡ Equal → Has host hosts
  there equal = go hosts i lt is
    where
      go : (hs : List Host) (j : ℕ) → j < length hs → next ≡ get_or hs j next → Has host hs
      go [] j low at_j = absurd (omega arith)
      go (h ∷ hs) zero low at_j = ap (λ (b : Bool). b || list_any (λ (x : Host). bytes_eq x host) hs) ((bytes_eq-Decides h host).1 (sym at_j ∙ sym (same_host host next equal)))
      go (h ∷ hs) (suc j) low at_j = or_right (bytes_eq h host) (list_any (λ (x : Host). bytes_eq x host) hs) (go hs j (omega arith) at_j)

pub walks_out : (host : Host) (hosts : List Host) (i : ℕ) → length hosts ≤ i → Walks host hosts i → with_host host hosts ≡ hosts ++ host ∷ []
unfolding with_host
walks_out host hosts i past so = so ∙ ap (λ (hs : List Host). take i hosts ++ with_host host hs) (drop_all i hosts past) ∙ ap (λ (hs : List Host). hs ++ host ∷ []) (take_all i hosts past)

pub hosts_in-insert : (hosts : List (Bor Host)) (i : ℕ) (host : Bor Host) → hosts_in (insert hosts i host) ≡ insert (hosts_in hosts) i host.now
hosts_in-insert [] zero host = refl
hosts_in-insert [] (suc i) host = refl
hosts_in-insert (h ∷ hosts) zero host = refl
hosts_in-insert (h ∷ hosts) (suc i) host = ap (λ (hs : List Host). h.now ∷ hs) (hosts_in-insert hosts i host)

pub hosts_in-push : (hosts : List (Bor Host)) (host : Bor Host) → hosts_in (hosts ++ host ∷ []) ≡ hosts_in hosts ++ host.now ∷ []
hosts_in-push [] host = refl
hosts_in-push (h ∷ hosts) host = ap (λ (hs : List Host). h.now ∷ hs) (hosts_in-push hosts host)

-- a host that is put before the next one
pub puts_in : (host : Bor Host) (items old new : List (Bor Host)) (i : ℕ) (next : Bor Host) → items ≡ old → Walks host.now (hosts_in items) i → i < length items → next ≡ get_or items i next → slice_cmp nat_cmp host.now next.now ≡ Less → new ≡ insert items i host → hosts_in new ≡ with_host host.now (hosts_in old)
puts_in host items old new i next same so lt is less put =
    ap (λ (hs : List (Bor Host)). hosts_in hs) put ∙ hosts_in-insert items i host
    ∙ sym (walks_in host.now (hosts_in items) i next.now (omega (arith, lt, length-map items (λ (h : Bor Host). h.now))) (host_at items i next lt is) so less)
    ∙ ap (λ (hs : List (Bor Host)). with_host host.now (hosts_in hs)) same

-- a host that is there
pub stays_there : (host : Bor Host) (items old : List (Bor Host)) (i : ℕ) (next : Bor Host) → items ≡ old → Walks host.now (hosts_in items) i → i < length items → next ≡ get_or items i next → slice_cmp nat_cmp host.now next.now ≡ Equal → hosts_in items ≡ with_host host.now (hosts_in old)
stays_there host items old i next same so lt is equal =
    sym (walks_onto host.now (hosts_in items) i next.now (omega (arith, lt, length-map items (λ (h : Bor Host). h.now))) (host_at items i next lt is) so equal)
    ∙ ap (λ (hs : List (Bor Host)). with_host host.now (hosts_in hs)) same

pub is_there : (host : Bor Host) (items old : List (Bor Host)) (i : ℕ) (next : Bor Host) → items ≡ old → i < length items → next ≡ get_or items i next → slice_cmp nat_cmp host.now next.now ≡ Equal → Has host.now (hosts_in old)
is_there host items old i next same lt is equal = subst (λ (hs : List (Bor Host)). Has host.now (hosts_in hs)) same (there host.now (hosts_in items) i next.now (omega (arith, lt, length-map items (λ (h : Bor Host). h.now))) (host_at items i next lt is) equal)

pub goes_past : (host : Bor Host) (items : List (Bor Host)) (i : ℕ) (next : Bor Host) → Walks host.now (hosts_in items) i → i < length items → next ≡ get_or items i next → slice_cmp nat_cmp host.now next.now ≡ Greater → Walks host.now (hosts_in items) (i + 1)
goes_past host items i next so lt is greater = walks_on host.now (hosts_in items) i next.now (omega (arith, lt, length-map items (λ (h : Bor Host). h.now))) (host_at items i next lt is) so greater

pub puts_last : (host : Bor Host) (items old new : List (Bor Host)) (i : ℕ) → items ≡ old → Walks host.now (hosts_in items) i → length items ≤ i → new ≡ items ++ host ∷ [] → hosts_in new ≡ with_host host.now (hosts_in old)
puts_last host items old new i same so past put =
    ap (λ (hs : List (Bor Host)). hosts_in hs) put ∙ hosts_in-push items host
    ∙ sym (walks_out host.now (hosts_in items) i (omega (arith, past, length-map items (λ (h : Bor Host). h.now))) so)
    ∙ ap (λ (hs : List (Bor Host)). with_host host.now (hosts_in hs)) same
