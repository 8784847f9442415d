-- What a message in the making takes once a notification is put in.
use Rattle.std.proofs.Common.{◌≡◌, ℕ, ◌+◌, ◌≤◌, List, [], ◌∷◌, ◌++◌, length, refl, length-append, arith}
use Rattle.ha_base.specs.Octets.{WithRoom}
use Rattle.ike_sas.specs.Drafts.{IsDraft, IsEmptyFor}
use Rattle.ike_values.specs.Notifications.{notify_of}
use Rattle.ike_values.specs.Values.{PayloadValue}
use Rattle.ike_values.specs.Writing.{body_written, chain_written}
use Rattle.sk_payload.specs.Framed.{Framed}
use Rattle.sk_payload.specs.Message.{plain_of}

pub chain_longer : (xs : List PayloadValue) (y : PayloadValue) →
    length (chain_written (xs ++ y ∷ [])) ≡ length (chain_written xs) + 4 + length (body_written y)
chain_longer [] y = omega (arith, length-append (body_written y) [])
chain_longer (x ∷ xs) y = omega (
  arith,
  chain_longer xs y,
  length-append (body_written x) (chain_written (xs ++ y ∷ [])),
  length-append (body_written x) (chain_written xs),
)

-- a notification more makes the plaintext as much longer as it takes
plain_longer : (xs : List PayloadValue) (kind : ℕ) (content : List ℕ) →
    length (plain_of (xs ++ notify_of kind content ∷ [])) ≡ length (plain_of xs) + 8 + length content
plain_longer xs kind content = omega (
  arith,
  chain_longer xs (notify_of kind content),
  length-append (chain_written (xs ++ notify_of kind content ∷ [])) (0 ∷ []),
  length-append (chain_written xs) (0 ∷ []),
)

empty_still : (size more : ℕ) (list : WithRoom) → IsEmptyFor size list → more ≤ size → IsEmptyFor more list
empty_still size more list is up = record { none = is.none; fits = let fits = is.fits in omega arith }

pub draft_after : (old new : Framed) (left left' kind : ℕ) (content : List ℕ) (plain sealed given kept : WithRoom) →
    IsDraft old left plain sealed given kept → new.payloads ≡ old.payloads ++ notify_of kind content ∷ [] →
    new.room + 8 + length content ≡ old.room → left' + 8 + length content ≡ left → IsDraft new left' plain sealed given kept
draft_after old new left left' kind content plain sealed given kept is payloads room now =
    let longer : length (plain_of new.payloads) ≡ length (plain_of old.payloads) + 8 + length content =
    rw payloads (plain_longer old.payloads kind content) in
    let within : left ≤ old.room = is.within in
    record {
      within = omega arith;
      plain_room = empty_still (length (plain_of old.payloads) + left) (length (plain_of new.payloads) + left') plain is.plain_room (omega arith);
      sealed_room = empty_still (length (plain_of old.payloads) + 56 + left) (length (plain_of new.payloads) + 56 + left') sealed is.sealed_room (omega arith);
      given_room = empty_still (length (plain_of old.payloads) + 56 + left) (length (plain_of new.payloads) + 56 + left') given is.given_room (omega arith);
      kept_room = empty_still (length (plain_of old.payloads) + 56 + left) (length (plain_of new.payloads) + 56 + left') kept is.kept_room (omega arith);
    }
