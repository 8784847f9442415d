-- A request above the others, in a ring that has slots for it and for them.
use Rattle.std.proofs.Common.{◌≡◌, ℕ, ◌+◌, ◌-◌, ◌<◌, true, false, nat_le, List, filter, arith}
use Rattle.std.proofs.lemmas.Bool.Decides.{nat_tests}
use Rattle.std.proofs.lemmas.List.Elements.{All-contains, All-weaker}
use Rattle.ike_window.specs.Asking.{FitsBeside}
use Rattle.ike_window.specs.Kept.{AllBelow, KeptMessage, message_ids_of, has_message_id}
use Rattle.ike_window.proofs.Rising.{filter_all, none_among}

pub nothing_dropped : (id : ℕ) (kept : List KeptMessage) → FitsBeside id kept → filter (λ message. nat_le (id - 7) message.id) kept ≡ kept
nothing_dropped id kept fits =
    filter_all (λ other. nat_le (id - 7) other) kept
    (All-weaker (λ other. id < other + 8) (λ other. nat_le (id - 7) other ≡ true) (λ other h. near id other h) (message_ids_of kept) fits)
  where
    near : (id other : ℕ) → id < other + 8 → nat_le (id - 7) other ≡ true
    near id other h = grind (arith, nat_tests)

pub not_yet : (id : ℕ) (kept : List KeptMessage) → AllBelow id kept → has_message_id (message_ids_of kept) id ≡ false
not_yet id kept below =
    none_among (message_ids_of kept) id (λ among. let less : id < id = All-contains (λ other. other < id) (message_ids_of kept) id below among in
    absurd (omega arith))
