-- Where the numbers of the counters of an association are.
use Rattle.std.proofs.Common.{◌≡◌, ℕ, ◌==◌, ◌&&◌, Bool, true, false, Some, None, refl, if◌then◌else◌}
use Rattle.std.proofs.lemmas.Bool.{eq-eqb}
use Rattle.keeper_book.specs.declared.counters.Counter.{Counter}
use Rattle.keeper_book.specs.declared.records.Record.{Record}
use Rattle.turn_laws.proofs.Entries.{is_counter-same}
use Rattle.turn_laws.proofs.Pools.{is_pool-same}
use Rattle.turn_laws.proofs.Same.{is_name-same}
use Rattle.turn_laws.specs.Acts.{begun_named, begun_theirs}
use Rattle.turn_laws.specs.Places.{Ours, Place, Pooled, Theirs, is_place, place_of}
use Rattle.turn_rules.proofs.Readies.{counter-named}
use Rattle.turn_rules.specs.Draws.{counter_name}
use Rattle.turn_rules.specs.Slots.{peer_counter}

-- the cluster's counter
pub place-ours : (sa : Record) (c : Counter) → place_of (counter_name sa c) ≡ Ours sa.spir c
place-ours sa c = let own : _ = sa.origin_is_own in let named : _ = counter-named c in rw (own, named)

-- a number where a test passes, and one where it fails whatever the test
pub number-passed : (b : Bool) (n : ℕ) → (if b then Some n else None) ≡ (if b && true then Some n else None)
number-passed true n = refl
number-passed false n = refl

pub number-failed : (b : Bool) (n : ℕ) → None ≡ (if b && false then Some n else None)
number-failed true n = refl
number-failed false n = refl

pub is_place-same : (p : Place) → is_place p p ≡ true
is_place-same (Ours spir c) = let a : (spir == spir) ≡ true = eq-eqb spir spir refl in let b : _ = is_counter-same c in rw (a, b)
is_place-same (Pooled q) = is_pool-same q
is_place-same (Theirs name) = is_name-same name

-- the peer begins each counter of an association under its name
pub begun-same : (sa : Record) (c : Counter) → begun_named (peer_counter sa c) sa ≡ Some (begun_theirs c sa)
begun-same sa c = let named : _ = counter-named c in let here : _ = is_name-same (peer_counter sa c) in rw (named, here)
