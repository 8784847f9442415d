-- Reading bodies without an inner list. They end at the place end.
use Rattle.std.specs.Prelude.{ℕ, ◌+◌, ◌-◌, ◌*◌, ◌==◌, nat_lt, not, ◌||◌, List, [], ◌∷◌, length, slice_index, take, drop, Bool, Result, Ok}
use Rattle.std.specs.Int.{w64, from_be_bytes}
use Rattle.ike_values.specs.Values.{IdValue, AuthValue, NotifyValue, DeleteValue, SkValue}
use Rattle.ike_values.specs.declared.fault.Bad.{Bad}
use Rattle.ike_values.specs.declared.fault.Reason.TheVariants.{Short, Length}
use Rattle.ike_grammar.specs.Faults.{refuse, unless, two_at}

-- a number, three reserved octets and content
abbrev pub numbered_tests : ℕ → List ℕ → List (Bool × Bad)
numbered_tests end body = refuse (nat_lt (length body) 4) (end - length body) Short ∷ []

unfoldable pub id_at : ℕ → List ℕ → Result IdValue Bad
id_at end body = unless (numbered_tests end body) (Ok
    (record { kind = slice_index body 0; content = drop 4 body }))

unfoldable pub auth_at : ℕ → List ℕ → Result AuthValue Bad
auth_at end body = unless (numbered_tests end body)
    (Ok (record { method = slice_index body 0; content = drop 4 body }))

abbrev pub nonce_tests : ℕ → List ℕ → List (Bool × Bad)
nonce_tests end body = refuse (nat_lt (length body) 16 || nat_lt 256 (length body))
    (end - length body - 2) Length ∷ []

unfoldable pub nonce_at : ℕ → List ℕ → Result (List ℕ) Bad
nonce_at end body = unless (nonce_tests end body) (Ok body)

-- protocol, SPI size, type, SPI, data
abbrev pub notify_tests : ℕ → List ℕ → List (Bool × Bad)
notify_tests end body =
    refuse (nat_lt (length body) 4) (end - length body) Short
    ∷ refuse (nat_lt (length (drop 4 body)) (slice_index body 1)) (end - length body + 1) Length
    ∷ []

abbrev pub notify_read : List ℕ → NotifyValue
notify_read body = record {
  protocol = slice_index body 0;
  spi = take (slice_index body 1) (drop 4 body);
  kind = two_at body 2;
  content =
      drop (slice_index body 1) (drop 4 body);
}

unfoldable pub notify_at : ℕ → List ℕ → Result NotifyValue Bad
notify_at end body = unless (notify_tests end body) (Ok (notify_read body))

-- protocol, SPI size, number of SPIs, SPIs
abbrev pub delete_tests : ℕ → List ℕ → List (Bool × Bad)
delete_tests end body =
    refuse (nat_lt (length body) 4) (end - length body) Short
    ∷ refuse (not (length (drop 4 body) == slice_index body 1 * two_at body 2))
    (end - length body + 2) Length
    ∷ []

abbrev pub delete_read : List ℕ → DeleteValue
delete_read body = record {
  protocol = slice_index body 0;
  size = slice_index body 1;
  number = two_at body 2;
  spis = drop 4 body;
}

unfoldable pub delete_at : ℕ → List ℕ → Result DeleteValue Bad
delete_at end body = unless (delete_tests end body) (Ok (delete_read body))

-- IV, ciphertext, integrity check value; first is the type of the first inner payload
abbrev pub sk_tests : ℕ → List ℕ → List (Bool × Bad)
sk_tests end body = refuse (nat_lt (length body) 25) (end - length body) Short ∷ []

abbrev pub sk_read : ℕ → List ℕ → SkValue
sk_read first body =
    record {
      first = first;
      iv = from_be_bytes w64 (take 8 body);
      ciphertext = take (length (drop 8 body) - 16) (drop 8 body);
      icv = drop (length (drop 8 body) - 16) (drop 8 body);
    }

unfoldable pub sk_at : ℕ → ℕ → List ℕ → Result SkValue Bad
sk_at end first body = unless (sk_tests end body) (Ok (sk_read first body))
