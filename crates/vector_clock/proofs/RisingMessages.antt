-- Messages whose numbers rise stand in a list, the others in a map.
use Rattle.std.proofs.Common.{◌≡◌, ◌≢◌, ◌∙◌, ℕ, ◌+◌, ◌<◌, ◌≤◌, zero, suc, Bool, true, false, List, [], ◌∷◌, ◌++◌, length, get_or, set, refl, sym, ap, subst, arith, inl, inr, length-set, length-append}
use Rattle.std.specs.Prelude.{Option, None, Some, ◌&&◌, nat_lt, if◌then◌else◌}
use Rattle.std.specs.Option.{option_or}
use Rattle.std.proofs.lemmas.Option.{same_Some, none-some}
use Rattle.std.proofs.lemmas.Bool.{cases_Bool, cases_eq, cases_lt, cond-true, cond-false, and_parts, ltb-true, lt-ltb, le-ltb}
use Rattle.std.proofs.lemmas.List.{get_or-set_same, get_or-set_other, get_or_append_left, get_or_push}
use Rattle.vector_clock.specs.declared.message.Message.{Message}
use Rattle.vector_clock.specs.declared.places.Kept.{Kept}
use Rattle.vector_clock.specs.declared.places.Mapped.{Mapped}
use Rattle.vector_clock.specs.declared.places.Met.{Met}
use Rattle.vector_clock.specs.Messages.{is_same}
use Rattle.vector_clock.specs.Met.{nowhere, mapped_at}
use Rattle.vector_clock.specs.Rising.{nothing_kept, rank_of, is_among}
use Rattle.vector_clock.specs.inside.Met.{IsNoted, IsForgotten, without}
use Rattle.vector_clock.specs.inside.Rising.{IsNext}
use Rattle.vector_clock.proofs.FirstPlaces.{same_message}

-- what is kept for a message in this list, and in this map where it is not in the list
abbrev pub at : List Kept → Mapped → Message → Met
at kept others m = if is_among kept m then (get_or kept (rank_of kept m.id) nothing_kept).met else mapped_at others m

abbrev message_at : List Kept → ℕ → Message
message_at kept j = (get_or kept j nothing_kept).message

-- ---- where messages stand

-- what the answer of where it stands says
pub found : (kept list : List Kept) (m : Message) (o : Option ℕ) (p : ℕ) → kept ≡ list → o ≡ Some p → o ≡ (if is_among kept m then Some (rank_of kept m.id) else None) → (is_among list m ≡ true) × (p ≡ rank_of list m.id)
found kept list m o p same is place = go (is_among list m) refl
  where
    here : Some p ≡ (if is_among list m then Some (rank_of list m.id) else None)
    here = subst (λ (k : List Kept). Some p ≡ (if is_among k m then Some (rank_of k m.id) else None)) same (sym is ∙ place)

    go : (b : Bool) → is_among list m ≡ b → (is_among list m ≡ true) × (p ≡ rank_of list m.id)
    go true e = (e, same_Some _ _ (here ∙ cond-true (is_among list m) (Some (rank_of list m.id)) None e))
    go false e = absurd (none-some p (sym (here ∙ cond-false (is_among list m) (Some (rank_of list m.id)) None e)))

pub not_found : (kept list : List Kept) (m : Message) (o : Option ℕ) → kept ≡ list → o ≡ None → o ≡ (if is_among kept m then Some (rank_of kept m.id) else None) → is_among list m ≡ false
not_found kept list m o same is place = go (is_among list m) refl
  where
    here : None ≡ (if is_among list m then Some (rank_of list m.id) else None)
    here = subst (λ (k : List Kept). None ≡ (if is_among k m then Some (rank_of k m.id) else None)) same (sym is ∙ place)

    go : (b : Bool) → is_among list m ≡ b → is_among list m ≡ false
    go false e = e
    go true e = absurd (none-some (rank_of list m.id) (here ∙ cond-true (is_among list m) (Some (rank_of list m.id)) None e))

pub there : (kept : List Kept) (m : Message) → is_among kept m ≡ true → rank_of kept m.id < length kept
there kept m is = ltb-true (rank_of kept m.id) (length kept) (and_parts _ _ is).0

same_there : (kept : List Kept) (m : Message) → is_among kept m ≡ true → message_at kept (rank_of kept m.id) ≡ m
same_there kept m is = same_message (message_at kept (rank_of kept m.id)) m (and_parts _ _ is).1

self_same : (m : Message) → is_same m m ≡ true
self_same m = grind arith

-- lists of the same messages have the same ones
record Alike (kept now : List Kept) : Type 0 where
  size : length now ≡ length kept
  messages : (j : ℕ) → message_at now j ≡ message_at kept j

-- behind the first of both
rest_alike : (k n : Kept) (kept now : List Kept) → Alike (k ∷ kept) (n ∷ now) → Alike kept now
rest_alike k n kept now alike = record { size = omega (arith, alike.size); messages = λ j. alike.messages (suc j) }

same_place : (kept now : List Kept) → Alike kept now → (id : ℕ) → rank_of now id ≡ rank_of kept id
same_place [] [] alike id = refl
same_place [] (n ∷ now) alike id = absurd (omega (arith, alike.size))
same_place (k ∷ kept) [] alike id = absurd (omega (arith, alike.size))
same_place (k ∷ kept) (n ∷ now) alike id =
    ap (λ (m : Message). if nat_lt m.id id then suc (rank_of now id) else 0) (alike.messages 0)
    ∙ ap (λ (p : ℕ). if nat_lt k.message.id id then suc p else 0) (same_place kept now (rest_alike k n kept now alike) id)

same_among : (kept now : List Kept) → Alike kept now → (m : Message) → is_among now m ≡ is_among kept m
same_among kept now alike m =
    ap (λ (j : ℕ). nat_lt j (length now) && is_same (message_at now j) m) (same_place kept now alike m.id)
    ∙ ap (λ (k : ℕ). nat_lt (rank_of kept m.id) k && is_same (message_at now (rank_of kept m.id)) m) alike.size
    ∙ ap (λ (x : Message). nat_lt (rank_of kept m.id) (length kept) && is_same x m) (alike.messages (rank_of kept m.id))

-- ---- a message of the list

abbrev pub rewritten : List Kept → Message → Met → List Kept
rewritten kept n w = set kept (rank_of kept n.id) (record { message = n; met = w })

alike : (kept : List Kept) (n : Message) (w : Met) → is_among kept n ≡ true → Alike kept (rewritten kept n w)
alike kept n w is = record {
  size = length-set kept (rank_of kept n.id) (record { message = n; met = w });
  messages = λ j. elim (cases_eq j (rank_of kept n.id)) [
    | inl here ↦
        ap (message_at (rewritten kept n w)) here
        ∙ ap (λ (k : Kept). k.message) (get_or-set_same kept (rank_of kept n.id) (record { message = n; met = w }) nothing_kept (there kept n is))
        ∙ sym (same_there kept n is) ∙ sym (ap (message_at kept) here)
    | inr other ↦ ap (λ (k : Kept). k.message) (get_or-set_other kept (rank_of kept n.id) j (record { message = n; met = w }) nothing_kept other)
  ];
}

-- another message stands at another place
apart : (kept : List Kept) (n m : Message) → is_among kept n ≡ true → is_among kept m ≡ true → is_same n m ≡ false → rank_of kept m.id ≢ rank_of kept n.id
apart kept n m first second other here =
    let both : n ≡ m = sym (same_there kept n first) ∙ ap (message_at kept) (sym here) ∙ same_there kept m second in
    cc (other, sym (subst (λ (x : Message). is_same n x ≡ true) both (self_same n)))

rewritten_at : (kept : List Kept) (others : Mapped) (n : Message) (w : Met) → is_among kept n ≡ true → (m : Message) → at (rewritten kept n w) others m ≡ (if is_same n m then w else at kept others m)
rewritten_at kept others n w is m = elim (cases_Bool (is_same n m)) [
  | inl same ↦
      let one : m ≡ n = sym (same_message n m same) in
      ap (at (rewritten kept n w) others) one
      ∙ cond-true (is_among (rewritten kept n w) n) _ _ (same_among kept (rewritten kept n w) (alike kept n w is) n ∙ is)
      ∙ ap (λ (j : ℕ). (get_or (rewritten kept n w) j nothing_kept).met) (same_place kept (rewritten kept n w) (alike kept n w is) n.id)
      ∙ ap (λ (k : Kept). k.met) (get_or-set_same kept (rank_of kept n.id) (record { message = n; met = w }) nothing_kept (there kept n is))
      ∙ sym (cond-true (is_same n m) w (at kept others m) same)
  | inr other ↦ other_at other ∙ sym (cond-false (is_same n m) w (at kept others m) other)
]
  where
    other_at : is_same n m ≡ false → at (rewritten kept n w) others m ≡ at kept others m
    other_at other = elim (cases_Bool (is_among kept m)) [
      | inl is_in ↦
          cond-true (is_among (rewritten kept n w) m) _ _ (same_among kept (rewritten kept n w) (alike kept n w is) m ∙ is_in)
          ∙ ap (λ (j : ℕ). (get_or (rewritten kept n w) j nothing_kept).met) (same_place kept (rewritten kept n w) (alike kept n w is) m.id)
          ∙ ap (λ (k : Kept). k.met) (get_or-set_other kept (rank_of kept n.id) (rank_of kept m.id) (record { message = n; met = w }) nothing_kept (apart kept n m is is_in other))
          ∙ sym (cond-true (is_among kept m) _ _ is_in)
      | inr out ↦ cond-false (is_among (rewritten kept n w) m) _ _ (same_among kept (rewritten kept n w) (alike kept n w is) m ∙ out) ∙ sym (cond-false (is_among kept m) _ _ out)
    ]

-- ---- the next message of the list

abbrev pub pushed : List Kept → Message → Met → List Kept
pushed kept n w = kept ++ record { message = n; met = w } ∷ []

-- it stands last, and the others stand where they stood
record StandsLast (kept : List Kept) (n : Message) (w : Met) : Type 0 where
  own : rank_of (pushed kept n w) n.id ≡ length kept
  last : get_or (pushed kept n w) (length kept) nothing_kept ≡ record { message = n; met = w }
  size : length (pushed kept n w) ≡ length kept + 1
  first : (j : ℕ) → j < length kept → get_or (pushed kept n w) j nothing_kept ≡ get_or kept j nothing_kept

-- the place is where smaller numbers end
pub place_is : (kept : List Kept) (id k : ℕ) → k ≤ length kept → ((i : ℕ) → i < k → (message_at kept i).id < id) → (k < length kept → id ≤ (message_at kept k).id) → rank_of kept id ≡ k
place_is [] id zero within below end = refl
place_is [] id (suc k) within below end = absurd (omega (arith, within))
place_is (x ∷ kept) id zero within below end = cond-false (nat_lt x.message.id id) (suc (rank_of kept id)) 0 (le-ltb x.message.id id (end (omega arith)))
place_is (x ∷ kept) id (suc k) within below end =
    cond-true (nat_lt x.message.id id) (suc (rank_of kept id)) 0 (lt-ltb x.message.id id (below 0 (omega arith)))
    ∙ ap suc (place_is kept id k (omega (arith, within)) (λ i lt. below (suc i) (omega (arith, lt))) (λ lt. end (omega (arith, lt))))

own_place : (kept : List Kept) (n : Message) (w : Met) → IsNext kept n → rank_of (pushed kept n w) n.id ≡ length kept
own_place kept n w next =
    let entry : Kept = record { message = n; met = w } in
    place_is (pushed kept n w) n.id (length kept) (omega (arith, length-append kept (entry ∷ [])))
    (λ i lt. subst (λ (k : Kept). k.message.id < n.id) (sym (get_or_append_left kept (entry ∷ []) nothing_kept i lt)) (next i lt))
    (λ _. omega (arith, ap (λ (k : Kept). k.message.id) (get_or_push kept entry nothing_kept (length kept) refl)))

-- a place among the first stays one
place_stays : (kept more : List Kept) (id : ℕ) → rank_of kept id < length kept → rank_of (kept ++ more) id ≡ rank_of kept id
place_stays [] more id less = absurd (omega (arith, less))
place_stays (x ∷ kept) more id less = elim (cases_Bool (nat_lt x.message.id id)) [
  | inl smaller ↦
      let here : rank_of (x ∷ kept) id ≡ suc (rank_of kept id) = cond-true (nat_lt x.message.id id) (suc (rank_of kept id)) 0 smaller in
      cond-true (nat_lt x.message.id id) (suc (rank_of (kept ++ more) id)) 0 smaller
      ∙ ap suc (place_stays kept more id (omega (arith, less, here))) ∙ sym here
  | inr ends ↦ cond-false (nat_lt x.message.id id) (suc (rank_of (kept ++ more) id)) 0 ends ∙ sym (cond-false (nat_lt x.message.id id) (suc (rank_of kept id)) 0 ends)
]

-- a place behind the first is no place among them
place_behind : (kept more : List Kept) (id : ℕ) → length kept ≤ rank_of kept id → length kept ≤ rank_of (kept ++ more) id
place_behind [] more id past = omega arith
place_behind (x ∷ kept) more id past = elim (cases_Bool (nat_lt x.message.id id)) [
  | inl smaller ↦
      let here : rank_of (x ∷ kept) id ≡ suc (rank_of kept id) = cond-true (nat_lt x.message.id id) (suc (rank_of kept id)) 0 smaller in
      let now : rank_of ((x ∷ kept) ++ more) id ≡ suc (rank_of (kept ++ more) id) = cond-true (nat_lt x.message.id id) (suc (rank_of (kept ++ more) id)) 0 smaller in
      omega (arith, now, place_behind kept more id (omega (arith, past, here)))
  | inr ends ↦ absurd (omega (arith, past, cond-false (nat_lt x.message.id id) (suc (rank_of kept id)) 0 ends))
]

stands_last : (kept : List Kept) (n : Message) (w : Met) → IsNext kept n → StandsLast kept n w
stands_last kept n w next = record {
  own = own_place kept n w next;
  last = get_or_push kept (record { message = n; met = w }) nothing_kept (length kept) refl;
  size = length-append kept (record { message = n; met = w } ∷ []);
  first = λ j lt. get_or_append_left kept (record { message = n; met = w } ∷ []) nothing_kept j lt;
}

-- the place of another message in the longer list, where it stands there
record OthersStay (kept : List Kept) (n m : Message) (w : Met) : Type 0 where
  among : is_among (pushed kept n w) m ≡ is_among kept m
  place : is_among kept m ≡ true → rank_of (pushed kept n w) m.id ≡ rank_of kept m.id

-- in the longer list the message there is another one
not_last : (kept : List Kept) (n m : Message) (w : Met) → IsNext kept n → is_same n m ≡ false → length kept ≤ rank_of kept m.id → is_among (pushed kept n w) m ≡ false
not_last kept n m w next other past = elim (cases_Bool (is_among (pushed kept n w) m)) [
  | inr out ↦ out
  | inl is_in ↦
      let last = stands_last kept n w next in
      let end : rank_of (pushed kept n w) m.id ≡ length kept = omega (arith, there (pushed kept n w) m is_in, last.size, place_behind kept (record { message = n; met = w } ∷ []) m.id past) in
      let same : n ≡ m = sym (ap (λ (x : Kept). x.message) last.last) ∙ ap (λ (j : ℕ). message_at (pushed kept n w) j) (sym end) ∙ same_there (pushed kept n w) m is_in in
      absurd (cc (other, sym (subst (λ (x : Message). is_same n x ≡ true) same (self_same n))))
]

out_behind : (kept : List Kept) (m : Message) → length kept ≤ rank_of kept m.id → is_among kept m ≡ false
out_behind kept m past = elim (cases_Bool (is_among kept m)) [ inl is_in ↦ absurd (omega (arith, past, there kept m is_in)) | inr outside ↦ outside ]

pub next_is_out : (kept : List Kept) (n : Message) → IsNext kept n → is_among kept n ≡ false
next_is_out kept n next =
    let end : rank_of kept n.id ≡ length kept = place_is kept n.id (length kept) (omega arith) next (λ less. absurd (omega (arith, less))) in
    out_behind kept n (omega (arith, end))

others_stay : (kept : List Kept) (n m : Message) (w : Met) → IsNext kept n → is_same n m ≡ false → OthersStay kept n m w
others_stay kept n m w next other =
    let last = stands_last kept n w next in
    let all : List Kept = pushed kept n w in
    let p : ℕ = rank_of kept m.id in
    elim (cases_lt p (length kept)) [
      | inl less ↦
          let place : rank_of all m.id ≡ p = place_stays kept (record { message = n; met = w } ∷ []) m.id less in
          record {
            among =
                ap (λ (j : ℕ). nat_lt j (length all) && is_same (message_at all j) m) place
                ∙ ap (λ (b : Bool). b && is_same (message_at all p) m) (lt-ltb p (length all) (omega (arith, less, last.size)) ∙ sym (lt-ltb p (length kept) less))
                ∙ ap (λ (x : Kept). nat_lt p (length kept) && is_same x.message m) (last.first p less);
            place = λ _. place;
          }
      | inr past ↦ record {
        among = not_last kept n m w next other (omega (arith, past)) ∙ sym (out_behind kept m (omega (arith, past)));
        place = λ is_in. absurd (omega (arith, past, there kept m is_in));
      }
    ]

pushed_at : (kept : List Kept) (others : Mapped) (n : Message) (w : Met) → IsNext kept n → (m : Message) → at (pushed kept n w) others m ≡ (if is_same n m then w else at kept others m)
pushed_at kept others n w next m = elim (cases_Bool (is_same n m)) [
  | inl same ↦
      let one : m ≡ n = sym (same_message n m same) in
      let last = stands_last kept n w next in
      let within : nat_lt (rank_of (pushed kept n w) n.id) (length (pushed kept n w)) ≡ true = lt-ltb _ _ (omega (arith, last.own, last.size)) in
      let stands : get_or (pushed kept n w) (rank_of (pushed kept n w) n.id) nothing_kept ≡ record { message = n; met = w } = ap (λ (j : ℕ). get_or (pushed kept n w) j nothing_kept) last.own ∙ last.last in
      let own : is_same (message_at (pushed kept n w) (rank_of (pushed kept n w) n.id)) n ≡ true = ap (λ (x : Kept). is_same x.message n) stands ∙ self_same n in
      ap (at (pushed kept n w) others) one
      ∙ cond-true (is_among (pushed kept n w) n) _ _ (ap (λ (b : Bool). b && is_same (message_at (pushed kept n w) (rank_of (pushed kept n w) n.id)) n) within ∙ own)
      ∙ ap (λ (x : Kept). x.met) stands
      ∙ sym (cond-true (is_same n m) w (at kept others m) same)
  | inr other ↦ other_at other ∙ sym (cond-false (is_same n m) w (at kept others m) other)
]
  where
    other_at : is_same n m ≡ false → at (pushed kept n w) others m ≡ at kept others m
    other_at other =
        let stay = others_stay kept n m w next other in
        let last = stands_last kept n w next in
        elim (cases_Bool (is_among kept m)) [
          | inl is_in ↦
              cond-true (is_among (pushed kept n w) m) _ _ (stay.among ∙ is_in)
              ∙ ap (λ (j : ℕ). (get_or (pushed kept n w) j nothing_kept).met) (stay.place is_in)
              ∙ ap (λ (x : Kept). x.met) (last.first (rank_of kept m.id) (there kept m is_in))
              ∙ sym (cond-true (is_among kept m) _ _ is_in)
          | inr out ↦ cond-false (is_among (pushed kept n w) m) _ _ (stay.among ∙ out) ∙ sym (cond-false (is_among kept m) _ _ out)
        ]

-- ---- the places of each message

-- of places that are this for the message and the old ones else, a part is so too
by_part : (old new : Message → Met) (n : Message) (w : Met) (part : Met → Option ℕ) (o : Option ℕ) → ((m : Message) → new m ≡ (if is_same n m then w else old m)) → part w ≡ o
    → (m : Message) → part (new m) ≡ (if is_same n m then o else part (old m))
by_part old new n w part o is now m = ap part (is m) ∙ elim (cases_Bool (is_same n m)) [
  | inl same ↦ ap part (cond-true (is_same n m) w (old m) same) ∙ now ∙ sym (cond-true (is_same n m) o (part (old m)) same)
  | inr other ↦ ap part (cond-false (is_same n m) w (old m) other) ∙ sym (cond-false (is_same n m) o (part (old m)) other)
]

-- a message that is not in the list changes no other in the map, and none in the list
out_part : (kept : List Kept) (old new : Mapped) (n : Message) (part : Met → Option ℕ) (f : Option ℕ → Option ℕ) → is_among kept n ≡ false
    → ((m : Message) → part (mapped_at new m) ≡ (if is_same n m then f (part (mapped_at old n)) else part (mapped_at old m)))
    → (m : Message) → part (at kept new m) ≡ (if is_same n m then f (part (at kept old n)) else part (at kept old m))
out_part kept old new n part f out is m = elim (cases_Bool (is_among kept m)) [
  | inl is_in ↦
      let other : is_same n m ≡ false = elim (cases_Bool (is_same n m)) [
        | inl same ↦ absurd (cc (out, sym (subst (λ (x : Message). is_among kept x ≡ true) (sym (same_message n m same)) is_in)))
        | inr differs ↦ differs
      ] in
      ap part (cond-true (is_among kept m) _ (mapped_at new m) is_in) ∙ ap part (sym (cond-true (is_among kept m) _ (mapped_at old m) is_in)) ∙ sym (cond-false (is_same n m) _ (part (at kept old m)) other)
  | inr outside ↦
      ap part (cond-false (is_among kept m) _ (mapped_at new m) outside) ∙ is m
      ∙ ap (λ (x : Met). if is_same n m then f (part (mapped_at old n)) else part x) (sym (cond-false (is_among kept m) _ (mapped_at old m) outside))
      ∙ ap (λ (x : Met). if is_same n m then f (part x) else part (at kept old m)) (sym (cond-false (is_among kept n) _ (mapped_at old n) out))
]

pub met_among : (kept : List Kept) (others : Mapped) (n : Message) → is_among kept n ≡ true → (get_or kept (rank_of kept n.id) nothing_kept).met ≡ at kept others n
met_among kept others n is = sym (cond-true (is_among kept n) _ _ is)

module _ (kept : List Kept) (others : Mapped) (n : Message) (met w : Met) (place : ℕ) (is : is_among kept n ≡ true) (stands : place ≡ rank_of kept n.id) where
  written_at : (m : Message) → at (set kept place (record { message = n; met = w })) others m ≡ (if is_same n m then w else at kept others m)
  written_at m = ap (λ (k : ℕ). at (set kept k (record { message = n; met = w })) others m) stands ∙ rewritten_at kept others n w is m

  pub noted_among : w.sent ≡ option_or (at kept others n).sent met.sent → w.received ≡ option_or (at kept others n).received met.received
      → IsNoted (at kept others) (at (set kept place (record { message = n; met = w })) others) n met
  noted_among sent received = record {
    sent = by_part (at kept others) (at (set kept place (record { message = n; met = w })) others) n w (λ x. x.sent) _ written_at sent;
    received = by_part (at kept others) (at (set kept place (record { message = n; met = w })) others) n w (λ x. x.received) _ written_at received;
  }

  pub forgotten_among : w.sent ≡ without (at kept others n).sent met.sent → w.received ≡ without (at kept others n).received met.received
      → IsForgotten (at kept others) (at (set kept place (record { message = n; met = w })) others) n met
  forgotten_among sent received = record {
    sent = by_part (at kept others) (at (set kept place (record { message = n; met = w })) others) n w (λ x. x.sent) _ written_at sent;
    received = by_part (at kept others) (at (set kept place (record { message = n; met = w })) others) n w (λ x. x.received) _ written_at received;
  }

pub noted_next : (kept now : List Kept) (others : Mapped) (n : Message) (met : Met) → IsNext kept n → mapped_at others n ≡ nowhere → now ≡ pushed kept n met → IsNoted (at kept others) (at now others) n met
noted_next kept now others n met next none is =
    let out = next_is_out kept n next in
    let nothing : at kept others n ≡ nowhere = cond-false (is_among kept n) _ _ out ∙ none in
    let all : (m : Message) → at now others m ≡ (if is_same n m then met else at kept others m) = λ m. ap (λ (k : List Kept). at k others m) is ∙ pushed_at kept others n met next m in
    record {
      sent = by_part (at kept others) (at now others) n met (λ x. x.sent) _ all (sym (ap (λ (x : Met). option_or x.sent met.sent) nothing));
      received = by_part (at kept others) (at now others) n met (λ x. x.received) _ all (sym (ap (λ (x : Met). option_or x.received met.received) nothing));
    }

module _ (kept : List Kept) (old new : Mapped) (n : Message) (met : Met) (out : is_among kept n ≡ false) where
  pub noted_out : IsNoted (mapped_at old) (mapped_at new) n met → IsNoted (at kept old) (at kept new) n met
  noted_out noted = record {
    sent = out_part kept old new n (λ x. x.sent) (λ o. option_or o met.sent) out noted.sent;
    received = out_part kept old new n (λ x. x.received) (λ o. option_or o met.received) out noted.received;
  }

  pub forgotten_out : IsForgotten (mapped_at old) (mapped_at new) n met → IsForgotten (at kept old) (at kept new) n met
  forgotten_out forgotten = record {
    sent = out_part kept old new n (λ x. x.sent) (λ o. without o met.sent) out forgotten.sent;
    received = out_part kept old new n (λ x. x.received) (λ o. without o met.received) out forgotten.received;
  }

-- where all in the map stays, all stays
pub all_stays : (kept : List Kept) (old new : Mapped) → ((m : Message) → mapped_at new m ≡ mapped_at old m) → (m : Message) → at kept new m ≡ at kept old m
all_stays kept old new same m = ap (λ (x : Met). if is_among kept m then (get_or kept (rank_of kept m.id) nothing_kept).met else x) (same m)

-- ---- numbers that rise

-- ---- halves
