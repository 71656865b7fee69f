-- The events of records among those of all processes.
use Rattle.std.proofs.Common.{◌≡◌, ℕ, ◌+◌, ◌<◌, Bool, true, false, cond, Option, Some, None, List, [], ◌∷◌, ◌++◌, length, filter, get_or, refl, sym, ap, subst, ◌∙◌, arith, inl, inr, append_assoc}
use Rattle.std.specs.Prelude.{is_some, unwrap_or, ◌==◌}
use Rattle.std.specs.List.{AllByRecursion}
use Rattle.std.specs.Str.{bytes_eq}
use Rattle.std.proofs.lemmas.Bool.{cases_eq, cases_Bool, eq-eqb, ne_eqb}
use Rattle.std.proofs.lemmas.List.Sums.{sum_by-cons}
use Rattle.std.proofs.lemmas.List.{append-nil, length-set, get_or-set_same, get_or-set_other}
use Rattle.std.proofs.lemmas.Slice.Eq.{bytes_eq-Decides}
use Rattle.log_lines.specs.Names.{place_of, are_distinct}
use Rattle.event_log.specs.declared.log.Event.{Event}
use Rattle.event_log.specs.LogText.{name_at}
use Rattle.event_log.specs.States.{with_event, with_batch}
use Rattle.event_log.proofs.NameLaws.{place_some}
use Rattle.vclog_import.specs.Lines.{Record}
use Rattle.vclog_import.specs.Hosts.{Host, hosts_of, records_of}
use Rattle.vclog_import.specs.Imported.{event_of, events_from}
use Rattle.vclog_import.proofs.HostLaws.{host_is_placed}

-- the host of a record has this place
pub record IsPlaced (hosts : List Host) (r : Record) : Type 0 where
  pub place : ℕ
  pub there : place < length hosts
  pub is : place_of hosts r.host ≡ Some place

placed_some : (hosts : List Host) (r : Record) (o : Option ℕ) → place_of hosts r.host ≡ o → is_some o ≡ true → IsPlaced hosts r
placed_some hosts r None is some = absurd cc
placed_some hosts r (Some p) is some = record { place = p; there = (place_some hosts r.host p is).0; is = is }

pub placed_one : (before : List Record) (r : Record) (behind : List Record) → IsPlaced (hosts_of (before ++ r ∷ behind)) r
placed_one before r behind = placed_some (hosts_of (before ++ r ∷ behind)) r (place_of (hosts_of (before ++ r ∷ behind)) r.host) refl (host_is_placed before r behind)

pub placed_all : (front rs : List Record) → AllByRecursion (IsPlaced (hosts_of (front ++ rs))) rs
placed_all front [] = tt
placed_all front (r ∷ rs) = (placed_one front r rs, subst (λ (all : List Record). AllByRecursion (IsPlaced (hosts_of all)) rs) (append_assoc front (r ∷ []) rs) (placed_all (front ++ r ∷ []) rs))

-- ---- the events of one process

abbrev pub own : ℕ → List Event → List Event
own p es = filter (λ (e : Event). e.process == p) es

own-append : (p : ℕ) (xs ys : List Event) → own p (xs ++ ys) ≡ own p xs ++ own p ys
own-append p [] ys = refl
own-append p (x ∷ xs) ys = elim (cases_Bool (x.process == p)) [
  | inl on ↦ rw on (ap (λ (es : List Event). x ∷ es) (own-append p xs ys))
  | inr off ↦ rw off (own-append p xs ys)
]

-- a batch puts its events of a process behind those before
pub own_batch : (events : List (List Event)) (es : List Event) (p : ℕ) → AllByRecursion (λ (e : Event). e.process < length events) es → get_or (with_batch events es) p [] ≡ get_or events p [] ++ own p es
unfolding with_batch
own_batch events [] p all = sym (append-nil (get_or events p []))
own_batch events (e ∷ es) p all =
    let rest = own_batch (with_event events e) es p (subst (λ (n : ℕ). AllByRecursion (λ (x : Event). x.process < n) es) (sym (length-set events e.process (get_or events e.process [] ++ e ∷ []))) all.1) in
    elim (cases_eq p e.process) [
      | inl same ↦
          let on : (e.process == p) ≡ true = eq-eqb e.process p (sym same) in
          let now : get_or (with_event events e) p [] ≡ get_or events p [] ++ e ∷ [] = subst (λ (k : ℕ). get_or (with_event events e) k [] ≡ get_or events k [] ++ e ∷ []) (sym same) (get_or-set_same events e.process (get_or events e.process [] ++ e ∷ []) [] all.0) in
          rest ∙ ap (λ (xs : List Event). xs ++ own p es) now ∙ append_assoc (get_or events p []) (e ∷ []) (own p es) ∙ ap (λ (b : Bool). get_or events p [] ++ cond b (e ∷ own p es) (own p es)) (sym on)
      | inr other ↦
          let off : (e.process == p) ≡ false = ne_eqb e.process p (λ same. other (sym same)) in
          rest ∙ ap (λ (xs : List Event). xs ++ own p es) (get_or-set_other events e.process p (get_or events e.process [] ++ e ∷ []) [] other) ∙ ap (λ (b : Bool). get_or events p [] ++ cond b (e ∷ own p es) (own p es)) (sym off)
    ]

-- ---- the events of records

module _ (hosts : List Host) (distinct : are_distinct hosts ≡ true) where
  process_is : (front : List Record) (r : Record) (placed : IsPlaced hosts r) → (event_of hosts front r).process ≡ placed.place
  process_is front r placed = ap (λ (o : Option ℕ). unwrap_or o 0) placed.is

  pub processes_are : (front rs : List Record) → AllByRecursion (IsPlaced hosts) rs → AllByRecursion (λ (e : Event). e.process < length hosts) (events_from hosts front rs)
  unfolding events_from
  processes_are front [] all = tt
  processes_are front (r ∷ rs) all = (subst (λ (n : ℕ). n < length hosts) (sym (process_is front r all.0)) all.0.there, processes_are (front ++ r ∷ []) rs all.1)

  -- a record is of the host at a place exactly where its event is of that process
  same_process : (host : Host) (p : ℕ) → place_of hosts host ≡ Some p → (r : Record) (q : ℕ) → place_of hosts r.host ≡ Some q → (q == p) ≡ bytes_eq r.host host
  same_process host p is r q at = elim (cases_Bool (bytes_eq r.host host)) [
    | inl same ↦ eq-eqb q p (one q p (sym at ∙ ap (place_of hosts) ((bytes_eq-Decides r.host host).0 same) ∙ is)) ∙ sym same
    | inr other ↦ ne_eqb q p (λ e. differ (sym (place_some hosts r.host q at).1 ∙ ap (name_at hosts) e ∙ (place_some hosts host p is).1) other) ∙ sym other
  ]
    where
      one : (m n : ℕ) → ◌≡◌ {A = Option ℕ} (Some m) (Some n) → m ≡ n
      one m n e = cc

      differ : r.host ≡ host → bytes_eq r.host host ≡ false → ⊥
      differ e no_eq = absurd (let t = (bytes_eq-Decides r.host host).1 e in cc)

  -- so a process has as many events as its host has records
  pub own_records : (host : Host) (p : ℕ) → place_of hosts host ≡ Some p → (front rs : List Record) → AllByRecursion (IsPlaced hosts) rs → length (own p (events_from hosts front rs)) ≡ records_of host rs
  unfolding events_from
  own_records host p is front [] all = refl
  own_records host p is front (r ∷ rs) all =
      let e = event_of hosts front r in
      let rest = own_records host p is (front ++ r ∷ []) rs all.1 in
      let test : (e.process == p) ≡ bytes_eq r.host host = ap (λ (n : ℕ). n == p) (process_is front r all.0) ∙ same_process host p is r all.0.place all.0.is in
      ap (λ (b : Bool). length (cond b (e ∷ own p (events_from hosts (front ++ r ∷ []) rs)) (own p (events_from hosts (front ++ r ∷ []) rs)))) test
      ∙ count (bytes_eq r.host host) e (own p (events_from hosts (front ++ r ∷ []) rs)) (records_of host rs) rest
      ∙ sym (sum_by-cons (λ (q : Record). cond (bytes_eq q.host host) 1 0) r rs)
    where
      count : (b : Bool) (x : Event) (xs : List Event) (n : ℕ) → length xs ≡ n → length (cond b (x ∷ xs) xs) ≡ cond b 1 0 + n
      count true x xs n long = omega arith
      count false x xs n long = omega arith

  events_from-append : (front xs ys : List Record) → events_from hosts front (xs ++ ys) ≡ events_from hosts front xs ++ events_from hosts (front ++ xs) ys
  unfolding events_from
  events_from-append front [] ys = ap (λ (before : List Record). events_from hosts before ys) (sym (append-nil front))
  events_from-append front (x ∷ xs) ys = ap (λ (es : List Event). event_of hosts front x ∷ es) (events_from-append (front ++ x ∷ []) xs ys ∙ ap (λ (before : List Record). events_from hosts (front ++ x ∷ []) xs ++ events_from hosts before ys) (append_assoc front (x ∷ []) xs))

  -- the events of the process of a record: those of the records before it, its own, and more
  pub record IsAmong (p : ℕ) (es : List Event) (a : ℕ) (e : Event) : Type 0 where
    pub front : List Event
    pub rest : List Event
    pub split : own p es ≡ front ++ e ∷ rest
    pub place_is : a ≡ length front + 1

  pub is_among : (before : List Record) (r : Record) (behind : List Record) (p a : ℕ) → AllByRecursion (IsPlaced hosts) before → place_of hosts r.host ≡ Some p → a ≡ records_of r.host before + 1
      → IsAmong p (events_from hosts [] (before ++ r ∷ behind)) a (event_of hosts before r)
  unfolding events_from
  is_among before r behind p a all is at =
      let e = event_of hosts before r in
      let later = events_from hosts (before ++ r ∷ []) behind in
      let on : (e.process == p) ≡ true = eq-eqb e.process p (ap (λ (o : Option ℕ). unwrap_or o 0) is) in
      record {
        front = own p (events_from hosts [] before);
        rest = own p later;
        split = ap (own p) (events_from-append [] before (r ∷ behind)) ∙ own-append p (events_from hosts [] before) (e ∷ later) ∙ ap (λ (b : Bool). own p (events_from hosts [] before) ++ cond b (e ∷ own p later) (own p later)) on;
        place_is = at ∙ ap (λ (n : ℕ). n + 1) (sym (own_records r.host p is [] before all));
      }
