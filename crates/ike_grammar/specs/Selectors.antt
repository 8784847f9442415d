-- Reading the selectors of a TSi or TSr payload. What is read ends at the place end.
use Rattle.std.specs.Prelude.{ℕ, ◌+◌, ◌-◌, ◌*◌, Bool, ◌&&◌, ◌==◌, nat_lt, not, List, [], ◌∷◌, length, slice_index, take, drop, Result, Ok}
use Rattle.ike_values.specs.Values.{SelectorValue}
use Rattle.ike_values.specs.Spelling.{address_len}
use Rattle.ike_values.specs.declared.fault.Bad.{Bad}
use Rattle.ike_values.specs.declared.fault.Reason.TheVariants.{Short, Length, Field, Trailing}
use Rattle.ike_grammar.specs.Faults.{◌>>=◌, refuse, unless, two_at, so_many}

-- type, IP protocol, length, start port, end port, start address, end address
abbrev pub selector_tests : ℕ → List ℕ → List (Bool × Bad)
selector_tests end bytes =
    refuse (nat_lt (length bytes) 8) (end - length bytes) Short
    ∷ refuse (not (slice_index bytes 0 == 7) && not (slice_index bytes 0 == 8))
    (end - length bytes) Field
    ∷ refuse (not (two_at bytes 2 == 8 + 2 * address_len (slice_index bytes 0)))
    (end - length bytes + 2) Length
    ∷ refuse (nat_lt (length bytes) (two_at bytes 2)) (end - length bytes) Short
    ∷ []

abbrev pub selector_read : List ℕ → SelectorValue × List ℕ
selector_read bytes =
    let len = address_len (slice_index bytes 0) in (
      record {
        kind = slice_index bytes 0;
        protocol = slice_index bytes 1;
        start_port = two_at bytes 4;
        end_port = two_at bytes 6;
        start = take len (drop 8 bytes);
        end = take len (drop len (drop 8 bytes));
      },
      drop len (drop len (drop 8 bytes)),
    )

unfoldable pub selector_at : ℕ → List ℕ → Result (SelectorValue × List ℕ) Bad
selector_at end bytes = unless (selector_tests end bytes) (Ok (selector_read bytes))

-- number of selectors, three reserved octets, selectors
abbrev pub traffic_tests : ℕ → List ℕ → List (Bool × Bad)
traffic_tests end body =
    refuse (nat_lt (length body) 4) (end - length body) Short
    ∷ refuse (slice_index body 0 == 0) (end - length body) Field
    ∷ []

abbrev pub behind_tests : ℕ → List ℕ → List (Bool × Bad)
behind_tests end left = refuse (nat_lt 0 (length left)) (end - length left) Trailing ∷ []

abbrev pub traffic_made : ℕ → List SelectorValue × List ℕ → Result (List SelectorValue) Bad
traffic_made end selectors = unless (behind_tests end selectors.1) (Ok selectors.0)

unfoldable pub traffic_at : ℕ → List ℕ → Result (List SelectorValue) Bad
traffic_at end body = unless (traffic_tests end body) (do
  selectors ← so_many (selector_at end) (slice_index body 0) (drop 4 body)
  traffic_made end selectors)
