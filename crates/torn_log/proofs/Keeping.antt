-- Items up to a cut.
use Rattle.std.proofs.Common.{◌≡◌, ℕ, ◌+◌, ◌-◌, ◌^◌, ◌<◌, ◌≤◌, ◌⊎◌, Bool, true, false, List, [], ◌∷◌, ◌++◌, length, drop, map, replicate, get_or, refl, sym, ap, ◌∙◌, subst, inl, inr, arith, append_assoc, append-nil}
use Rattle.std.proofs.lemmas.Bool.{cases_Bool, cond-true, cond-false}
use Rattle.std.proofs.lemmas.List.{drop_all, length_push, nil_from_length}
use Rattle.run_model.specs.Cut.{Cut}
use Rattle.event_log.specs.declared.item.Item.{Item}
use Rattle.event_log.specs.declared.item.Item.TheVariants as item
use Rattle.event_log.specs.declared.log.Event.{Event}
use Rattle.event_log.specs.declared.log.Header.{Header}
use Rattle.event_log.specs.declared.log.Kind.{Kind}
use Rattle.event_log.specs.declared.log.Log.{Log}
use Rattle.event_log.specs.declared.log.Kind.TheVariants as kind
use Rattle.event_log.specs.LogText.{KindWithin, KindFits, EventFits, ClockStands, event_items, log_items}
use Rattle.event_log.specs.FittingItems.{FitFrom, FitFirst}
use Rattle.vector_clock.specs.Events.{Events, EventStands, own_events, no_events}
use Rattle.torn_log.specs.Counts.{HasRoom}
use Rattle.torn_log.proofs.Passing.{counts_none, length-none, own_none, length-lens, count-lens, length-with_item, length-with_items, own_more, with_items-append}
use Rattle.std.specs.Prelude.{if◌then◌else◌}
use Rattle.torn_log.specs.Torn.{IsKept, AreUpto, IsTornOf}
use Rattle.torn_log.specs.declared.torn.Torn.{Torn}
use Rattle.torn_log.proofs.Standing.{length-needs}
use Rattle.torn_log.specs.Items.{events_in, procs_in, with_item, with_items, ItemStands, ItemsStand, stays, kept_item, kept_from, items_upto, differences, left_out}

-- ---- which items stand

kind_within : (procs p : ℕ) (k : Kind) → KindFits procs p k → KindWithin procs k
kind_within procs p kind.Internal fits = tt
kind_within procs p (kind.Send to id) fits = fits.0
kind_within procs p (kind.Receive sender id) fits = fits.0

clock_stands : (version procs : ℕ) (clock : List ℕ) → ClockStands version procs clock → (length clock ≡ procs) ⊎ (clock ≡ [])
clock_stands version procs clock stands = elim stands [ inl e ↦ inl e | inr e ↦ inr e.1 ]

event_stands : (h : Header) (e : Event) → EventFits h e → EventStands (length h.procs) e
event_stands h e fits = record {
  process = fits.process;
  width = clock_stands h.version (length h.procs) e.clock fits.width;
  peer = kind_within (length h.procs) e.process e.kind fits.kind;
}

from_stands : (h : Header) (n : ℕ) (items : List Item) → FitFrom h n items → ItemsStand (length h.procs) items
from_stands h n [] fit = tt
from_stands h n (item.Header g ∷ items) fit = absurd fit
from_stands h n (item.Event e ∷ items) fit = (event_stands h e fit.0, from_stands h (n + 1) items fit.2)
from_stands h n (item.BatchEnd ∷ items) fit = (tt, from_stands h n items fit)
from_stands h n (item.End ∷ items) fit = (tt, from_stands h n items fit)

pub first_stands : (items : List Item) → FitFirst items → ItemsStand (procs_in items) items
first_stands [] fit = tt
first_stands (item.Header h ∷ items) fit = (tt, from_stands h 0 items fit.1)
first_stands (item.Event e ∷ items) fit = absurd fit
first_stands (item.BatchEnd ∷ items) fit = absurd fit
first_stands (item.End ∷ items) fit = absurd fit

-- ---- what stays

pub kept_there : (cut : Cut) (before : Events) (i : Item) → stays cut before i ≡ true → kept_item cut before i ≡ i ∷ []
kept_there cut before i h = cond-true (stays cut before i) (i ∷ []) [] h

pub kept_gone : (cut : Cut) (before : Events) (i : Item) → stays cut before i ≡ false → kept_item cut before i ≡ []
kept_gone cut before i h = cond-false (stays cut before i) (i ∷ []) [] h

from_kept : (h : Header) (cut : Cut) (before : Events) (m n : ℕ) (items : List Item) → m ≤ n → FitFrom h n items → FitFrom h m (kept_from cut before items)
from_kept h cut before m n [] few fit = tt
from_kept h cut before m n (item.Header g ∷ items) few fit = absurd fit
from_kept h cut before m n (item.Event e ∷ items) few fit = elim (cases_Bool (stays cut before (item.Event e))) [
  | inl on ↦
      subst (λ one. FitFrom h m (one ++ kept_from cut (with_item before (item.Event e)) items)) (sym (kept_there cut before (item.Event e) on))
      (fit.0, omega (arith, few, fit.1), from_kept h cut (with_item before (item.Event e)) (m + 1) (n + 1) items (omega (arith, few)) fit.2)
  | inr off ↦
      subst (λ one. FitFrom h m (one ++ kept_from cut (with_item before (item.Event e)) items)) (sym (kept_gone cut before (item.Event e) off))
      (from_kept h cut (with_item before (item.Event e)) m (n + 1) items (omega (arith, few)) fit.2)
]
from_kept h cut before m n (item.BatchEnd ∷ items) few fit = from_kept h cut before m n items few fit
from_kept h cut before m n (item.End ∷ items) few fit = from_kept h cut before m n items few fit

pub first_kept : (cut : Cut) (items : List Item) → FitFirst items → FitFirst (items_upto cut items)
first_kept cut [] fit = tt
first_kept cut (item.Header h ∷ items) fit = (fit.0, from_kept h cut (no_events (length h.procs)) 0 0 items (omega arith) fit.1)
first_kept cut (item.Event e ∷ items) fit = absurd fit
first_kept cut (item.BatchEnd ∷ items) fit = absurd fit
first_kept cut (item.End ∷ items) fit = absurd fit

-- ---- one item more

pub kept_append : (cut : Cut) (before : Events) (xs : List Item) (i : Item) (behind : Events) → behind ≡ with_items before xs → kept_from cut before (xs ++ i ∷ []) ≡ kept_from cut before xs ++ kept_item cut behind i
kept_append cut before [] i behind at = append-nil (kept_item cut before i) ∙ ap (λ (b : Events). kept_item cut b i) (sym at)
kept_append cut before (x ∷ xs) i behind at =
    ap (λ ys. kept_item cut before x ++ ys) (kept_append cut (with_item before x) xs i behind at)
    ∙ sym (append_assoc (kept_item cut before x) (kept_from cut (with_item before x) xs) (kept_item cut behind i))

-- ---- differences

pub difference_all : (counts : List ℕ) (cut : Cut) (left : List ℕ) (i : ℕ) → length counts ≡ length cut → length cut ≤ i → left ++ differences (drop i counts) (drop i cut) ≡ differences counts cut → left ≡ differences counts cut
difference_all counts cut left i same done so_far =
    sym (append-nil left)
    ∙ ap (λ (xs : List ℕ). left ++ differences xs (drop i cut)) (sym (drop_all i counts (omega (arith, same, done))))
    ∙ so_far

-- ---- all items

-- the items so far are kept, and these are left
pub record KeepsOn (cut : Cut) (items kept : List Item) (counts : List ℕ) (rest : List Item) : Type 0 where
  pub before : Events
  pub counts_are : counts ≡ map length before
  pub long : length before ≡ length cut
  pub stand : ItemsStand (length cut) rest
  pub few : (p : ℕ) → length (own_events before p) + length rest ≤ length items
  pub same : kept ++ kept_from cut before rest ≡ kept_from cut (no_events (length cut)) items

pub keeps_none : (cut : Cut) (items kept : List Item) (counts : List ℕ) (rest : List Item) → kept ≡ [] → counts ≡ replicate (length cut) 0 → rest ≡ items → ItemsStand (length cut) items → KeepsOn cut items kept counts rest
keeps_none cut items kept counts rest empty zeros all stand = record {
  before = no_events (length cut);
  counts_are = zeros ∙ counts_none (length cut);
  long = length-none (length cut);
  stand = subst (ItemsStand (length cut)) (sym all) stand;
  few = λ p. omega (arith, ap length all, ap length (own_none (length cut) p));
  same = ap (λ (xs : List Item). xs ++ kept_from cut (no_events (length cut)) rest) empty ∙ ap (kept_from cut (no_events (length cut))) all;
}

pub keeps_stand : (cut : Cut) (items kept : List Item) (counts : List ℕ) (rest rest' : List Item) (i : Item) → rest ≡ i ∷ rest' → KeepsOn cut items kept counts rest → ItemStands (length counts) i
keeps_stand cut items kept counts rest rest' i split k =
    let stand : ItemsStand (length cut) (i ∷ rest') = subst (ItemsStand (length cut)) split k.stand in
    subst (λ (n : ℕ). ItemStands n i) (sym (ap length k.counts_are ∙ length-lens k.before ∙ k.long)) stand.0

pub keeps_long : (cut : Cut) (items kept : List Item) (counts : List ℕ) (rest : List Item) → KeepsOn cut items kept counts rest → length counts ≡ length cut
keeps_long cut items kept counts rest k = ap length k.counts_are ∙ length-lens k.before ∙ k.long

pub keeps_room : (cut : Cut) (items kept : List Item) (counts : List ℕ) (rest rest' : List Item) (i : Item) → rest ≡ i ∷ rest' → length items < 2 ^ 64 → KeepsOn cut items kept counts rest → HasRoom counts
keeps_room cut items kept counts rest rest' i split small k p =
    omega (arith, small, k.few p, ap length split, ap (λ (cs : List ℕ). get_or cs p 0) k.counts_are, count-lens k.before p)

keeps_more : (cut : Cut) (items kept kept' : List Item) (counts counts' : List ℕ) (rest rest' : List Item) (i : Item) → rest ≡ i ∷ rest' → (k : KeepsOn cut items kept counts rest) → counts' ≡ map length (with_item k.before i) → kept' ≡ kept ++ kept_item cut k.before i → KeepsOn cut items kept' counts' rest'
keeps_more cut items kept kept' counts counts' rest rest' i split k are more =
    let stand : ItemsStand (length cut) (i ∷ rest') = subst (ItemsStand (length cut)) split k.stand in
    record {
      before = with_item k.before i;
      counts_are = are;
      long = length-with_item k.before i ∙ k.long;
      stand = stand.1;
      few = λ p. omega (arith, k.few p, ap length split, own_more k.before i p (subst (λ (n : ℕ). ItemStands n i) (sym k.long) stand.0));
      same = ap (λ (xs : List Item). xs ++ kept_from cut (with_item k.before i) rest') more
          ∙ append_assoc kept (kept_item cut k.before i) (kept_from cut (with_item k.before i) rest')
          ∙ ap (λ (xs : List Item). kept ++ kept_from cut k.before xs) (sym split)
          ∙ k.same;
    }

pub keeps_next : (cut : Cut) (items kept kept' : List Item) (counts counts' : List ℕ) (rest rest' : List Item) (i : Item) (stay : Bool) → rest ≡ i ∷ rest' → KeepsOn cut items kept counts rest
    → ((before : Events) → counts ≡ map length before → stay ≡ stays cut before i) → ((before : Events) → counts ≡ map length before → counts' ≡ map length (with_item before i))
    → kept' ≡ kept ++ (if stay then i ∷ [] else []) → KeepsOn cut items kept' counts' rest'
keeps_next cut items kept kept' counts counts' rest rest' i stay split k tells counted more =
    keeps_more cut items kept kept' counts counts' rest rest' i split k (counted k.before k.counts_are)
    (more ∙ ap (λ (b : Bool). kept ++ (if b then i ∷ [] else [])) (tells k.before k.counts_are))

pub keeps_all : (cut : Cut) (items kept : List Item) (counts : List ℕ) (rest : List Item) → rest ≡ [] → KeepsOn cut items kept counts rest → kept ≡ kept_from cut (no_events (length cut)) items
keeps_all cut items kept counts rest none k = sym (append-nil kept) ∙ ap (λ (xs : List Item). kept ++ kept_from cut k.before xs) (sym none) ∙ k.same

-- ---- all together

cut_long : (procs : ℕ) (items : List Item) (cut : Cut) → IsKept (with_items (no_events procs) items) cut → length cut ≡ procs
cut_long procs items cut kept = kept.member.shaped ∙ length-needs (with_items (no_events procs) items) ∙ length-with_items (no_events procs) items ∙ length-none procs

pub cut_stands : (procs : ℕ) (items : List Item) (cut : Cut) → ItemsStand procs items → IsKept (with_items (no_events procs) items) cut → ItemsStand (length cut) items
cut_stands procs items cut stand kept = subst (λ (n : ℕ). ItemsStand n items) (sym (cut_long procs items cut kept)) stand

pub are_upto : (procs : ℕ) (items : List Item) (cut : Cut) (counts left : List ℕ) (kept : List Item) → IsKept (with_items (no_events procs) items) cut
    → counts ≡ map length (with_items (no_events procs) items) → left ≡ differences counts cut → kept ≡ kept_from cut (no_events (length cut)) items → AreUpto procs items kept left
are_upto procs items cut counts left kept great are left_is kept_is = record {
  cut = cut;
  greatest = great;
  kept_are = kept_is ∙ ap (λ (n : ℕ). kept_from cut (no_events n) items) (cut_long procs items cut great);
  left_out_are = left_is ∙ ap (λ cs. differences cs cut) are;
}

-- ---- of items

pub stands_by : (items : List Item) (procs : ℕ) → FitFirst items → procs ≡ procs_in items → ItemsStand procs items
stands_by items procs fit is = subst (λ (n : ℕ). ItemsStand n items) (sym is) (first_stands items fit)

pub is_torn : (items kept : List Item) (left : List ℕ) (procs : ℕ) → procs ≡ procs_in items → AreUpto procs items kept left → IsTornOf items (record { items = kept; left_out = left })
is_torn items kept left procs is upto = record {
  cut = upto.cut;
  greatest = subst (λ (n : ℕ). IsKept (with_items (no_events n) items) upto.cut) is upto.greatest;
  items_are = upto.kept_are ∙ ap (λ (n : ℕ). kept_from upto.cut (no_events n) items) is;
  left_out_are = upto.left_out_are ∙ ap (λ (n : ℕ). left_out (with_items (no_events n) items) upto.cut) is;
}

pub torn_fits : (items : List Item) (torn : Torn) → FitFirst items → IsTornOf items torn → FitFirst torn.items
torn_fits items torn fit is = subst FitFirst (sym is.items_are) (first_kept is.cut items fit)

-- ---- of a log of one batch

-- the one that was taken out is all
pub only : (all given rest : List (List Event)) (b : List Event) → length all ≡ 1 → given ≡ all → given ≡ rest ++ b ∷ [] → (all ≡ b ∷ []) × (rest ≡ [])
only all given rest b one is split =
    let long : length rest + 1 ≡ 1 = sym (length_push rest b) ∙ ap length (sym split ∙ is) ∙ one in
    let none : rest ≡ [] = nil_from_length rest (omega (arith, long)) in
    (sym is ∙ split ∙ ap (λ (xs : List (List Event)). xs ++ b ∷ []) none, none)

abbrev one_batch : Header → List Event → Log
one_batch h b = record { header = h; batches = b ∷ [] }

ends_there : (events : Events) (b : List Event) → with_items events (event_items b ++ item.End ∷ []) ≡ with_items events (event_items b)
ends_there events b = with_items-append events (event_items b) (item.End ∷ [])

front_stands_so : (procs : ℕ) (b : List Event) → ItemsStand procs (event_items b ++ item.End ∷ []) → ItemsStand procs (event_items b)
front_stands_so procs [] all = tt
front_stands_so procs (e ∷ b) all = (all.0, front_stands_so procs b all.1)

pub batch_stands : (log : Log) (b : List Event) → log.batches ≡ b ∷ [] → FitFirst (log_items log) → ItemsStand (length log.header.procs) (event_items b)
batch_stands log b is fit =
    front_stands_so (length log.header.procs) b
    (first_stands (log_items (one_batch log.header b)) (subst (λ (bs : List (List Event)). FitFirst (log_items (record { header = log.header; batches = bs }))) is fit)).1

pub log_torn : (log : Log) (b kept : List Event) (batches : List (List Event)) (left : List ℕ) → log.batches ≡ b ∷ [] → batches ≡ kept ∷ [] → AreUpto (length log.header.procs) (event_items b) (event_items kept) left
    → IsTornOf (log_items log) (record { items = log_items (record { header = log.header; batches = batches }); left_out = left })
log_torn log b kept batches left is now upto =
    let procs = length log.header.procs in
    let all : log_items log ≡ log_items (one_batch log.header b) = ap (λ (bs : List (List Event)). log_items (record { header = log.header; batches = bs })) is in
    let same : with_items (no_events procs) (event_items b) ≡ events_in (log_items log) = sym (ends_there (no_events procs) b) ∙ ap events_in (sym all) in
    record {
      cut = upto.cut;
      greatest = subst (λ (events : Events). IsKept events upto.cut) same upto.greatest;
      items_are = ap (λ (bs : List (List Event)). log_items (record { header = log.header; batches = bs })) now
          ∙ ap (λ (xs : List Item). item.Header log.header ∷ (xs ++ item.End ∷ [])) upto.kept_are
          ∙ ap (λ (xs : List Item). item.Header log.header ∷ xs) (sym (kept_append upto.cut (no_events procs) (event_items b) item.End (with_items (no_events procs) (event_items b)) refl))
          ∙ ap (items_upto upto.cut) (sym all);
      left_out_are = upto.left_out_are ∙ ap (λ (events : Events). left_out events upto.cut) same;
    }
