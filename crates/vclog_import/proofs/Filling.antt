-- Counts that are filled in as the members of a clock come.
use Rattle.std.proofs.Common.{◌≡◌, ℕ, ◌<◌, ◌≤◌, Bool, true, false, Option, Some, None, List, [], ◌∷◌, length, map, get_or, set, replicate, refl, sym, ap, ◌∙◌, arith}
use Rattle.std.specs.Prelude.{unwrap_or, option_and_then, not, is_some, nat_lt, ◌||◌, ◌&&◌, String, string_bytes}
use Rattle.std.specs.String.{string_cmp}
use Rattle.std.specs.declared.alloc.Global.{Global}
use Rattle.std.proofs.lemmas.Bool.Decides.{nat_tests}
use Rattle.serde_json.specs.View.{view, members_view}
use Rattle.serde_json.specs.declared.value.Value.{Value}
use Rattle.std.specs.Borrow.{Bor}
use Rattle.std.proofs.lemmas.Slice.Eq.{bytes_eq-Decides}
use Rattle.vclog_import.specs.inside.Scans.{hosts_in}
use Rattle.std.specs.List.{AllByRecursion}
use Rattle.std.specs.List.Sorted.{IsStrictlySortedBy}
use Rattle.std.specs.declared.cmp.Ordering.{Ordering}
use Rattle.std.specs.declared.cmp.Ordering.TheVariants.{Less, Equal, Greater}
use Rattle.std.specs.Ordering.{match_ordering, nat_cmp}
use Rattle.std.specs.Cmp.Lexicographic.{slice_cmp}
use Rattle.std.specs.Str.{bytes_eq}
use Rattle.std.proofs.lemmas.Cmp.{nat_list_cmp_total, tied_itself}
use Rattle.std.proofs.lemmas.List.{length-set, length-replicate, length-map, get_or-replicate, get_or-map, get_or-set_same, get_or-set_other}
use Rattle.std.proofs.lemmas.Grind.{same_number_lists}
use Rattle.log_lines.specs.Names.{place_of, are_distinct}
use Rattle.event_log.specs.LogText.{name_at}
use Rattle.event_log.proofs.NameLaws.{place_some, place_again}
use Rattle.serde_json.specs.Data.{Data, Members, no_members, member}
use Rattle.serde_json.specs.Find.{get_member}
use Rattle.vclog_import.specs.Hosts.{Host}
use Rattle.vclog_import.specs.Clock.{counter, count_of, all_known}
use Rattle.vclog_import.proofs.HostLaws.{same_host}

-- the counter that a value is, or 0
abbrev pub number_in : Data → ℕ
number_in value = unwrap_or (counter value) 0

-- the counts with this one at the place, where there is one
abbrev pub put_at : Option ℕ → ℕ → List ℕ → List ℕ
put_at None n counts = counts
put_at (Some place) n counts = set counts place n

-- the counts behind these members
unfoldable pub fill : List Host → Members → List ℕ → List ℕ
fill hosts no_members counts = counts
fill hosts (member key value rest) counts = fill hosts rest (put_at (place_of hosts key) (number_in value) counts)

-- no key stands twice
abbrev pub AreFresh : Members → Type 0
AreFresh no_members = Unit {0}
AreFresh (member key value rest) = (get_member key rest ≡ None) × AreFresh rest

-- the number of a member that may be there
abbrev told : Option Data → ℕ → ℕ
told None n = n
told (Some value) n = number_in value

length-put_at : (place : Option ℕ) (n : ℕ) (counts : List ℕ) → length (put_at place n counts) ≡ length counts
length-put_at None n counts = refl
length-put_at (Some place) n counts = length-set counts place n

pub length-fill : (hosts : List Host) (ms : Members) (counts : List ℕ) → length (fill hosts ms counts) ≡ length counts
unfolding fill
length-fill hosts no_members counts = refl
length-fill hosts (member key value rest) counts = length-fill hosts rest (put_at (place_of hosts key) (number_in value) counts) ∙ length-put_at (place_of hosts key) (number_in value) counts

-- what stands at a place behind the members
filled_at : (hosts : List Host) (ms : Members) (counts : List ℕ) (j : ℕ) → are_distinct hosts ≡ true → AreFresh ms → length counts ≡ length hosts → j < length hosts
    → get_or (fill hosts ms counts) j 0 ≡ told (get_member (name_at hosts j) ms) (get_or counts j 0)
unfolding fill
filled_at hosts no_members counts j distinct fresh long lt = refl
filled_at hosts (member key value rest) counts j distinct fresh long lt =
    filled_at hosts rest next j distinct fresh.1 (length-put_at (place_of hosts key) (number_in value) counts ∙ long) lt
    ∙ go (slice_cmp nat_cmp (name_at hosts j) key) refl
  where
    next : List ℕ
    next = put_at (place_of hosts key) (number_in value) counts

    -- another place stays
    elsewhere : (place : Option ℕ) → (place ≡ Some j → ⊥) → get_or (put_at place (number_in value) counts) j 0 ≡ get_or counts j 0
    elsewhere None other = refl
    elsewhere (Some place) other = get_or-set_other counts place j (number_in value) 0 (λ same. other (ap (λ (k : ℕ). Some k) (sym same)))

    apart : (o : Ordering) → slice_cmp nat_cmp (name_at hosts j) key ≡ o → (o ≡ Equal → ⊥) → place_of hosts key ≡ Some j → ⊥
    apart o is not_equal found =
        let same : name_at hosts j ≡ key = (place_some hosts key j found).1 in
        not_equal (sym is ∙ ap (λ (h : Host). slice_cmp nat_cmp h key) same ∙ tied_itself nat_list_cmp_total key)

    go : (o : Ordering) → slice_cmp nat_cmp (name_at hosts j) key ≡ o
        → told (get_member (name_at hosts j) rest) (get_or next j 0) ≡ told (match_ordering o (get_member (name_at hosts j) rest) (Some value) (get_member (name_at hosts j) rest)) (get_or counts j 0)
    go Less is = ap (told (get_member (name_at hosts j) rest)) (elsewhere (place_of hosts key) (apart Less is (λ e. cc)))
    go Greater is = ap (told (get_member (name_at hosts j) rest)) (elsewhere (place_of hosts key) (apart Greater is (λ e. cc)))
    go Equal is =
        let same : name_at hosts j ≡ key = same_host (name_at hosts j) key is in
        let none : get_member (name_at hosts j) rest ≡ None = ap (λ (h : Host). get_member h rest) same ∙ fresh.0 in
        let found : place_of hosts key ≡ Some j = ap (place_of hosts) (sym same) ∙ place_again hosts j distinct lt in
        ap (λ (o : Option Data). told o (get_or next j 0)) none
        ∙ ap (λ (p : Option ℕ). get_or (put_at p (number_in value) counts) j 0) found
        ∙ get_or-set_same counts j (number_in value) 0 (omega arith)

told_none : (o : Option Data) → told o 0 ≡ unwrap_or (option_and_then counter o) 0
told_none None = refl
told_none (Some value) = refl

-- from zeros on, the members fill in the counter of each host
pub filled : (slices : List (Bor Host)) (ms : Members) → are_distinct (hosts_in slices) ≡ true → AreFresh ms → fill (hosts_in slices) ms (replicate (length slices) 0) ≡ map (count_of ms) (hosts_in slices)
filled slices ms distinct fresh =
    same_number_lists (fill hosts ms zeros) (map (count_of ms) hosts)
    (length-fill hosts ms zeros ∙ long ∙ sym (length-map hosts (count_of ms)))
    (λ j lt.
    let within : j < length hosts = omega (arith, lt, length-fill hosts ms zeros, long) in
    filled_at hosts ms zeros j distinct fresh long within
    ∙ ap (told (get_member (name_at hosts j) ms)) (get_or-replicate (length slices) j 0 0 (omega (arith, within, count)))
    ∙ told_none (get_member (name_at hosts j) ms)
    ∙ sym (get_or-map (count_of ms) hosts j [] 0 within))
  where
    hosts : List Host
    hosts = hosts_in slices

    count : length hosts ≡ length slices
    count = length-map slices (λ (h : Bor Host). h.now)

    zeros : List ℕ
    zeros = replicate (length slices) 0

    long : length zeros ≡ length hosts
    long = length-replicate (length slices) 0 ∙ sym count

pub fill_none : (hosts : List Host) (counts : List ℕ) → fill hosts no_members counts ≡ counts
unfolding fill
fill_none hosts counts = refl

-- a host that is the key has its place
pub near_is : (hosts : List (Bor Host)) (near : ℕ) (key : Host) (d : Bor Host) → are_distinct (hosts_in hosts) ≡ true → near < length hosts → bytes_eq (get_or hosts near d).now key ≡ true → Some near ≡ place_of (hosts_in hosts) key
near_is hosts near key d distinct lt same =
    let at : name_at (hosts_in hosts) near ≡ key = get_or-map (λ (h : Bor Host). h.now) hosts near d [] lt ∙ (bytes_eq-Decides (get_or hosts near d).now key).0 same in
    sym (ap (place_of (hosts_in hosts)) (sym at) ∙ place_again (hosts_in hosts) near distinct (omega (arith, lt, length-map hosts (λ (h : Bor Host). h.now))))

-- ---- one member more

pub fill_found : (hosts : List Host) (key : Host) (value : Data) (ms : Members) (counts : List ℕ) (place n : ℕ) → place_of hosts key ≡ Some place → n ≡ number_in value → fill hosts (member key value ms) counts ≡ fill hosts ms (set counts place n)
unfolding fill
fill_found hosts key value ms counts place n found is = ap (λ (o : Option ℕ). fill hosts ms (put_at o (number_in value) counts)) found ∙ ap (λ (k : ℕ). fill hosts ms (set counts place k)) (sym is)

pub fill_missing : (hosts : List Host) (key : Host) (value : Data) (ms : Members) (counts : List ℕ) → place_of hosts key ≡ None → fill hosts (member key value ms) counts ≡ fill hosts ms counts
unfolding fill
fill_missing hosts key value ms counts missing = ap (λ (o : Option ℕ). fill hosts ms (put_at o (number_in value) counts)) missing

pub known_found : (hosts : List Host) (key : Host) (value : Data) (ms : Members) (place : ℕ) → place_of hosts key ≡ Some place → all_known hosts (member key value ms) ≡ all_known hosts ms
known_found hosts key value ms place found = ap (λ (o : Option ℕ). (not (nat_lt 0 (number_in value)) || is_some o) && all_known hosts ms) found ∙ go (not (nat_lt 0 (number_in value)))
  where
    go : (b : Bool) → ((b || true) && all_known hosts ms) ≡ all_known hosts ms
    go true = refl
    go false = refl

pub known_zero : (hosts : List Host) (key : Host) (value : Data) (ms : Members) (n : ℕ) → n ≡ number_in value → n ≤ 0 → all_known hosts (member key value ms) ≡ all_known hosts ms
known_zero hosts key value ms n is le =
    let none : number_in value ≡ 0 = omega (arith, is, le) in
    ap (λ (k : ℕ). (not (nat_lt 0 k) || is_some (place_of hosts key)) && all_known hosts ms) none

pub unknown_key : (hosts : List Host) (key : Host) (value : Data) (ms : Members) (n : ℕ) → place_of hosts key ≡ None → n ≡ number_in value → 0 < n → all_known hosts (member key value ms) ≡ false
unknown_key hosts key value ms n missing is more =
    let some : nat_lt 0 (number_in value) ≡ true = positive (number_in value) (omega (arith, is, more)) in
    ap (λ (o : Option ℕ). (not (nat_lt 0 (number_in value)) || is_some o) && all_known hosts ms) missing
    ∙ ap (λ (b : Bool). (not b || false) && all_known hosts ms) some
  where
    positive : (k : ℕ) → 0 < k → nat_lt 0 k ≡ true
    positive k lt = grind (arith, nat_tests)

pub and_none : (a : Bool) → (a && false) ≡ false
and_none true = refl
and_none false = refl

-- ---- the members of a map

-- a key below all others is none of them
none_below : (k : Host) (es : List (String Global × Value)) → AllByRecursion (λ (s : String Global). slice_cmp nat_cmp k (string_bytes s) ≡ Less) (map (λ (e : String Global × Value). e.0) es) → get_member k (members_view es) ≡ None
none_below k [] all = refl
none_below k (e ∷ es) all = ap (λ (o : Ordering). match_ordering o (get_member k (members_view es)) (Some (view e.1)) (get_member k (members_view es))) all.0 ∙ none_below k es all.1

-- the members of a map have each key once
pub fresh : (es : List (String Global × Value)) → IsStrictlySortedBy string_cmp (map (λ (e : String Global × Value). e.0) es) → AreFresh (members_view es)
unfolding IsStrictlySortedBy
fresh [] sorted = tt
fresh (e ∷ es) sorted = (none_below (string_bytes e.0) es sorted.0, fresh es sorted.1)
