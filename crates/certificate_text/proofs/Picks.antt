-- What is picked by a test.
use Rattle.std.proofs.Common.{◌≡◌, Bool, true, false}
use Rattle.certificate_text.specs.Bytes.{pick}

pub pick_first : (b : Bool) (A B : Type 0) → b ≡ true → A → pick b A B
pick_first true A B e h = h
pick_first false A B e h = absurd cc

pub pick_other : (b : Bool) (A B : Type 0) → b ≡ false → B → pick b A B
pick_other true A B e h = absurd cc
pick_other false A B e h = h

pub picked_first : (b : Bool) (A B : Type 0) → b ≡ true → pick b A B → A
picked_first true A B e h = h
picked_first false A B e h = absurd cc

pub picked_other : (b : Bool) (A B : Type 0) → b ≡ false → pick b A B → B
picked_other true A B e h = absurd cc
picked_other false A B e h = h
