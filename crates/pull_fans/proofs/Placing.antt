-- The places of pulls among fans, and what holds of each pull of a fan.
use Rattle.std.proofs.Common.{◌≡◌, ℕ, ◌+◌, ◌^◌, ◌<◌, ◌⊎◌, inl, inr, List, [], ◌∷◌, ◌++◌, All, length, get_or, map, take, arith, sym, ap, ◌∙◌, subst, length-append, append_assoc}
use Rattle.std.specs.List.{range_with_len}
use Rattle.std.proofs.lemmas.List.{get_or_push, get_or_default, take_more, flat_map_more}
use Rattle.std.proofs.lemmas.List.Concat.{get_or-flat_map}
use Rattle.std.proofs.lemmas.List.Folds.{length-flat_map-take}
use Rattle.std.proofs.lemmas.List.FromFn.{map-range_with_len_more}
use Rattle.std.proofs.lemmas.List.Elements.{All-get_or}
use Rattle.std.proofs.Math.ListN.{get_or-append}
use Rattle.pota_base.specs.Shape.{IsShape}
use Rattle.pull_system.specs.declared.pull.Pull.{Pull}
use Rattle.pull_fans.specs.declared.places.Place.{Place}
use Rattle.pull_system.specs.System.{IsPull, no_pull}
use Rattle.pull_fans.specs.Fans.{FanView, pull_of_fan, pulls_of_fan, pulls_of_fans}
use Rattle.pull_fans.specs.inside.Places.{no_fan, no_place, fan_at, IsPlaceOf, ArePlaces}
use Rattle.pull_fans.proofs.Raising.{length-pulls_of_fan, pulls_of_fan-at}
use Rattle.pull_system.proofs.Sums.{component_le}

within_one : (i n : ℕ) → i < n + 1 → (i < n) ⊎ (i ≡ n)
within_one i n h = grind arith

places_push : (fans : List FanView) (places : List Place) (pulls : List Pull) (place : Place) (pull : Pull) → ArePlaces fans places pulls → IsPlaceOf fans place pull → ArePlaces fans (places ++ place ∷ []) (pulls ++ pull ∷ [])
places_push fans places pulls place pull are is = record {
  count = omega (arith, length-append places (place ∷ []), length-append pulls (pull ∷ []), are.count);
  each = λ k there. elim (within_one k (length pulls) (omega (arith, there, length-append pulls (pull ∷ [])))) [
    | inl less ↦
        let P : Place → Type 0 = λ p. IsPlaceOf fans p (get_or (pulls ++ pull ∷ []) k no_pull) in
        let Q : Pull → Type 0 = λ p. IsPlaceOf fans (get_or places k no_place) p in
        subst P (sym (get_or-append places (place ∷ []) no_place k (omega (arith, less, are.count)))) (subst Q (sym (get_or-append pulls (pull ∷ []) no_pull k less)) (are.each k less))
    | inr last ↦
        let P : Place → Type 0 = λ p. IsPlaceOf fans p (get_or (pulls ++ pull ∷ []) k no_pull) in
        let Q : Pull → Type 0 = λ p. IsPlaceOf fans place p in
        subst P (sym (get_or_push places place no_place k (omega (arith, last, are.count)))) (subst Q (sym (get_or_push pulls pull no_pull k (sym last))) is)
  ];
}

-- the places of one target more
pub places_next : (fans : List FanView) (places now : List Place) (pulls : List Pull) (fan : FanView) (place : Place) → ArePlaces fans places (pulls ++ map (pull_of_fan fan) (range_with_len 0 place.index)) → now ≡ places ++ place ∷ []
    → place.fan < length fans → fan_at fans place.fan ≡ fan → place.index < length fan.targets → ArePlaces fans now (pulls ++ map (pull_of_fan fan) (range_with_len 0 (place.index + 1)))
places_next fans places now pulls fan place are more there is inside =
    let P : List Place → Type 0 = λ ps. ArePlaces fans ps (pulls ++ map (pull_of_fan fan) (range_with_len 0 (place.index + 1))) in
    let Q : List Pull → Type 0 = λ ps. ArePlaces fans (places ++ place ∷ []) ps in
    let list : (pulls ++ map (pull_of_fan fan) (range_with_len 0 place.index)) ++ pull_of_fan fan place.index ∷ [] ≡ pulls ++ map (pull_of_fan fan) (range_with_len 0 (place.index + 1)) =
    append_assoc pulls (map (pull_of_fan fan) (range_with_len 0 place.index)) (pull_of_fan fan place.index ∷ [])
    ∙ ap (λ (ps : List Pull). pulls ++ ps) (sym (map-range_with_len_more (pull_of_fan fan) 0 place.index place.index (omega arith))) in
    subst P (sym more) (subst Q list (places_push fans places (pulls ++ map (pull_of_fan fan) (range_with_len 0 place.index)) place (pull_of_fan fan place.index) are
    record { fan = there; index = omega (arith, inside, ap (λ (f : FanView). length f.targets) is); is = ap (λ (f : FanView). pull_of_fan f place.index) is }))

-- the fan that a loop has come to
pub item_is : (fans items : List FanView) (number : ℕ) (fan : FanView) → items ≡ fans → number < length items → fan ≡ get_or items number fan → fan_at fans number ≡ fan
item_is fans items number fan same there is = ap (λ (fs : List FanView). get_or fs number no_fan) (sym same) ∙ get_or_default items number no_fan fan there ∙ sym is

-- the pulls of one fan more
pub pulls_more : (fans : List FanView) (number : ℕ) (fan : FanView) → number < length fans → fan_at fans number ≡ fan → pulls_of_fans (take (number + 1) fans) ≡ pulls_of_fans (take number fans) ++ pulls_of_fan fan
pulls_more fans number fan there is =
    ap pulls_of_fans (take_more fans number no_fan there) ∙ sym (flat_map_more pulls_of_fan [] (take number fans) (fan_at fans number))
    ∙ ap (λ (f : FanView). pulls_of_fans (take number fans) ++ pulls_of_fan f) is

-- what holds of each pull holds of each pull of a fan
pub of_each : (P : Pull → Type 0) (fans : List FanView) (number i : ℕ) → number < length fans → i < length (fan_at fans number).targets → All P (pulls_of_fans fans) → P (pull_of_fan (fan_at fans number) i)
of_each P fans number i there inside all =
    let begin : ℕ = length (pulls_of_fans (take number fans)) in
    let width = length-pulls_of_fan (fan_at fans number) in
    let below : begin + i < length (pulls_of_fans fans) = omega (arith, length-flat_map-take pulls_of_fan fans number no_fan there, width, inside) in
    let at : get_or (pulls_of_fans fans) (begin + i) no_pull ≡ pull_of_fan (fan_at fans number) i =
    get_or-flat_map pulls_of_fan fans number i no_fan no_pull there (omega (arith, width, inside)) ∙ pulls_of_fan-at (fan_at fans number) i inside in
    subst P at (All-get_or P (pulls_of_fans fans) (begin + i) no_pull below all)

-- a fan's tables have an entry for each value of its source, and its targets are there
pub record FanFits (lens : List ℕ) (process : ℕ) (fan : FanView) : Type 0 where
  pub sizes : (i : ℕ) → i < length fan.targets → length (get_or fan.tables i []) ≡ get_or lens process 0 + 2
  pub targets : (i : ℕ) → i < length fan.targets → get_or fan.targets i 0 < length lens

pub fan_fits : (lens : List ℕ) (fans : List FanView) (number process : ℕ) (fan : FanView) → All (IsPull lens) (pulls_of_fans fans) → number < length fans → fan_at fans number ≡ fan → fan.src ≡ process → FanFits lens process fan
fan_fits lens fans number process fan all there is from =
    let P : FanView → Type 0 = λ f. f.src ≡ process → FanFits lens process f in
    subst P is
    (λ source. record {
      sizes = λ i inside. let fits = of_each (IsPull lens) fans number i there inside all in fits.size ∙ ap (λ (n : ℕ). get_or lens n 0 + 2) source;
      targets = λ i inside. let fits = of_each (IsPull lens) fans number i there inside all in fits.target;
    })
    from

-- an entry of a pull fits 16 bits
pub entries_small : (lens : List ℕ) → IsShape lens → (pull : Pull) → IsPull lens pull → (x : ℕ) → get_or pull.table x 0 < 2 ^ 16
entries_small lens shape pull fits x = omega (arith, fits.table.within x, shape.events, component_le lens pull.dst)
