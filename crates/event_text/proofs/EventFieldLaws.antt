-- A field that only events have and its word determine each other.
use Rattle.std.proofs.Common.{◌≡◌, ℕ, ◌^◌, ◌<◌, ◌≤◌, true, false, cond, List, length, Result, Ok, Err, refl, sym, ap, ◌∙◌, subst, arith, inl, inr, codes, lit≤}
use Rattle.std.proofs.lemmas.Bool.{cases_Bool, false≢true}
use Rattle.std.proofs.lemmas.Bool.Decides.{eqb_tells}
use Rattle.std.proofs.lemmas.Fmt.{digits_decimal}
use Rattle.std.proofs.lemmas.Slice.Eq.{bytes_eq-Decides}
use Rattle.std.specs.Fmt.{decimal}
use Rattle.std.specs.List.{list_all}
use Rattle.std.specs.Str.{bytes_eq}
use Rattle.line_fields.specs.declared.fault.LineReason.{LineReason}
use Rattle.line_fields.specs.declared.fault.LineReason.TheVariants as reasons
use Rattle.line_fields.specs.Numbers.{is_digit, number_in_word}
use Rattle.line_fields.specs.Octets.{IsOctetField, octets_text, sized}
use Rattle.line_fields.proofs.NumberLaws.{own}
use Rattle.line_fields.proofs.FieldLaws.{IsField, number_field, ok_is, pick, range_field, sized_field}
use Rattle.events.specs.declared.event.Party.{Party}
use Rattle.events.specs.declared.event.Party.TheVariants as parties
use Rattle.events.specs.declared.event.Which.{Which}
use Rattle.events.specs.declared.event.Which.TheVariants as whiches
use Rattle.events.specs.declared.turn.Medium.{Medium}
use Rattle.events.specs.declared.turn.Medium.TheVariants as mediums
use Rattle.events.specs.EventFields.{is_ticket_key_size, is_window_size, medium_of, member_in, member_in_word, numbered_in, party_of, ticket_key_in, ticket_key_of, which_of, window_field_in, window_in_word}
use Rattle.replay_set.specs.Window.{IsWindowSize}
use Rattle.events.specs.FieldWords.{medium_word, party_text, which_text}
use Rattle.events.specs.FieldRanges.{IsParty, IsTicketKey, IsWhich}

-- ---- numbers

pub member_field : IsField member_in_word decimal (λ n. n < 2 ^ 63)
member_field = number_field (2 ^ 63) (lit≤ tt)

-- a place in a datagram, or how many octets of it are kept
pub place_field : IsField (number_in_word 0 (2 ^ 32)) decimal (λ n. n < 2 ^ 32)
place_field = number_field (2 ^ 32) (lit≤ tt)

-- seconds of a lifetime, or the number of a datagram
pub count_field : IsField (number_in_word 1 (2 ^ 32)) decimal (λ n. (1 ≤ n) × (n < 2 ^ 32))
count_field = range_field 1 (2 ^ 32) (lit≤ tt)

-- digits are no word of letters
no_letters : (w v : List ℕ) → list_all is_digit w ≡ true → list_all is_digit v ≡ false → bytes_eq w v ≡ false
no_letters w v digits letters =
    elim (cases_Bool (bytes_eq w v)) [
      | inl hit ↦ absurd (false≢true (sym letters ∙ (rw ((bytes_eq-Decides w v).0 hit) at digits)))
      | inr miss ↦ miss
    ]

-- ---- ends and datagrams

member_takes : (w : List ℕ) (r : Result ℕ LineReason) (x : Party) → member_in_word w ≡ r → member_in r ≡ Ok x → (w ≡ party_text x) × IsParty x
member_takes w (Ok n) x read e =
    let took = member_field.takes w n read in subst (λ (p : Party). (w ≡ party_text p) × IsParty p) (ok_is (parties.Member n) x e) (took.0, took.1)
member_takes w (Err reason) x read e = absurd cc

party_takes : (w : List ℕ) (x : Party) → party_of w ≡ Ok x → (w ≡ party_text x) × IsParty x
party_takes w x e =
    pick (bytes_eq w (codes "peer")) (Ok parties.Peer) (member_in (member_in_word w)) (Ok x) e
    (λ hit same. subst (λ (p : Party). (w ≡ party_text p) × IsParty p) (ok_is parties.Peer x same) ((bytes_eq-Decides w (codes "peer")).0 hit, tt))
    (λ miss same. member_takes w (member_in_word w) x refl same)

party_again : (x : Party) → IsParty x → party_of (party_text x) ≡ Ok x
party_again parties.Peer h = refl
party_again (parties.Member n) h =
    let other = no_letters (decimal n) (codes "peer") (digits_decimal own n (omega arith)) refl in
    rw (other, member_field.again n h) refl

pub party_field : IsField party_of party_text IsParty
party_field = record { takes = party_takes; again = party_again }

numbered_takes : (w : List ℕ) (r : Result ℕ LineReason) (x : Which) → number_in_word 1 (2 ^ 32) w ≡ r → numbered_in r ≡ Ok x → (w ≡ which_text x) × IsWhich x
numbered_takes w (Ok n) x read e =
    let took = count_field.takes w n read in subst (λ (p : Which). (w ≡ which_text p) × IsWhich p) (ok_is (whiches.Number n) x e) (took.0, took.1)
numbered_takes w (Err reason) x read e = absurd cc

which_takes : (w : List ℕ) (x : Which) → which_of w ≡ Ok x → (w ≡ which_text x) × IsWhich x
which_takes w x e =
    pick (bytes_eq w (codes "last")) (Ok whiches.Last) (numbered_in (number_in_word 1 (2 ^ 32) w)) (Ok x) e
    (λ hit same. subst (λ (p : Which). (w ≡ which_text p) × IsWhich p) (ok_is whiches.Last x same) ((bytes_eq-Decides w (codes "last")).0 hit, tt))
    (λ miss same. numbered_takes w (number_in_word 1 (2 ^ 32) w) x refl same)

which_again : (x : Which) → IsWhich x → which_of (which_text x) ≡ Ok x
which_again whiches.Last h = refl
which_again (whiches.Number n) h =
    let below = h.1 in
    let other = no_letters (decimal n) (codes "last") (digits_decimal own n (omega arith)) refl in
    rw (other, count_field.again n h) refl

pub which_field : IsField which_of which_text IsWhich
which_field = record { takes = which_takes; again = which_again }

medium_takes : (w : List ℕ) (x : Medium) → medium_of w ≡ Ok x → (w ≡ medium_word x) × Unit {0}
medium_takes w x e =
    pick (bytes_eq w (codes "ike")) (Ok mediums.Ike) (cond (bytes_eq w (codes "esp")) (Ok mediums.Esp) (Err reasons.Word)) (Ok x) e
    (λ hit same. ((bytes_eq-Decides w (codes "ike")).0 hit ∙ ap medium_word (ok_is mediums.Ike x same), tt))
    (λ miss rest. pick (bytes_eq w (codes "esp")) (Ok mediums.Esp) (Err reasons.Word) (Ok x) rest
    (λ hit same. ((bytes_eq-Decides w (codes "esp")).0 hit ∙ ap medium_word (ok_is mediums.Esp x same), tt))
    (λ neither same. absurd cc))

medium_again : (x : Medium) → Unit {0} → medium_of (medium_word x) ≡ Ok x
medium_again mediums.Ike h = refl
medium_again mediums.Esp h = refl

pub medium_field : IsField medium_of medium_word (λ _. Unit {0})
medium_field = record { takes = medium_takes; again = medium_again }

-- ---- the size of a receive window

window_size : (n : ℕ) → is_window_size n ≡ true → IsWindowSize n
window_size n h =
    elim (eqb_tells n 64) [
      | inl a ↦ inl a.1
      | inr a ↦
          elim (eqb_tells n 128) [
            | inl b ↦ inr (inl b.1)
            | inr b ↦
                elim (eqb_tells n 256) [
                  | inl c ↦ inr (inr (inl c.1))
                  | inr c ↦
                      elim (eqb_tells n 512) [
                        | inl d ↦ inr (inr (inr (inl d.1)))
                        | inr d ↦
                            elim (eqb_tells n 1024) [
                              | inl e ↦ inr (inr (inr (inr e.1)))
                              | inr e ↦ absurd (let k : false ≡ true = rw (a.0, b.0, c.0, d.0, e.0) at h in cc)
                            ]
                      ]
                ]
          ]
    ]

is_size : (n : ℕ) → IsWindowSize n → is_window_size n ≡ true
is_size n (inl e) = rw e refl
is_size n (inr (inl e)) = rw e refl
is_size n (inr (inr (inl e))) = rw e refl
is_size n (inr (inr (inr (inl e)))) = rw e refl
is_size n (inr (inr (inr (inr e)))) = rw e refl

pub window_small : (n : ℕ) → IsWindowSize n → n < 2 ^ 32
window_small n (inl e) = omega (arith, e)
window_small n (inr (inl e)) = omega (arith, e)
window_small n (inr (inr (inl e))) = omega (arith, e)
window_small n (inr (inr (inr (inl e)))) = omega (arith, e)
window_small n (inr (inr (inr (inr e)))) = omega (arith, e)

size_takes : (w : List ℕ) (r : Result ℕ LineReason) (n : ℕ) → number_in_word 0 (2 ^ 32) w ≡ r → window_field_in r ≡ Ok n → (w ≡ decimal n) × IsWindowSize n
size_takes w (Ok m) n read e =
    pick (is_window_size m) (Ok m) (Err reasons.Number) (Ok n) e
    (λ hit same.
    let took = place_field.takes w m read in
    subst (λ (k : ℕ). (w ≡ decimal k) × IsWindowSize k) (ok_is m n same) (took.0, window_size m hit))
    (λ miss same. absurd cc)
size_takes w (Err reason) n read e = absurd cc

window_again : (n : ℕ) → IsWindowSize n → window_in_word (decimal n) ≡ Ok n
window_again n h = rw (place_field.again n (window_small n h), is_size n h) refl

pub window_field : IsField window_in_word decimal IsWindowSize
window_field = record { takes = λ w n e. size_takes w (number_in_word 0 (2 ^ 32) w) n refl e; again = window_again }

-- ---- ticket keys

-- octets of one number
exactly : (n least most : ℕ) (xs : List ℕ) → IsOctetField least most xs → length xs ≡ n → IsOctetField n n xs
exactly n least most xs h long = record { least_size = omega (arith, long); most_size = omega (arith, long); bytes = h.bytes }

ticket_key_size : (xs : List ℕ) → IsOctetField 0 36 xs → is_ticket_key_size (length xs) ≡ true → IsTicketKey xs
ticket_key_size xs within h =
    elim (eqb_tells (length xs) 0) [
      | inl a ↦ inl (exactly 0 0 36 xs within a.1)
      | inr a ↦
          elim (eqb_tells (length xs) 20) [
            | inl b ↦ inr (inl (exactly 20 0 36 xs within b.1))
            | inr b ↦
                elim (eqb_tells (length xs) 36) [
                  | inl c ↦ inr (inr (exactly 36 0 36 xs within c.1))
                  | inr c ↦ absurd (let k : false ≡ true = rw (a.0, b.0, c.0) at h in cc)
                ]
          ]
    ]

size_is : (n : ℕ) (xs : List ℕ) → IsOctetField n n xs → length xs ≡ n
size_is n xs h =
    let least = h.least_size in
    let most = h.most_size in
    omega (arith, least, most)

is_key_size : (xs : List ℕ) → IsTicketKey xs → is_ticket_key_size (length xs) ≡ true
is_key_size xs (inl h) = rw (size_is 0 xs h) refl
is_key_size xs (inr (inl h)) = rw (size_is 20 xs h) refl
is_key_size xs (inr (inr h)) = rw (size_is 36 xs h) refl

wider : (n : ℕ) (xs : List ℕ) → n ≤ 36 → IsOctetField n n xs → IsOctetField 0 36 xs
wider n xs le h =
    let most = h.most_size in
    record { least_size = omega arith; most_size = omega (arith, most, le); bytes = h.bytes }

pub key_octets : (xs : List ℕ) → IsTicketKey xs → IsOctetField 0 36 xs
key_octets xs (inl h) = wider 0 xs (omega arith) h
key_octets xs (inr (inl h)) = wider 20 xs (omega arith) h
key_octets xs (inr (inr h)) = wider 36 xs (omega arith) h

key_takes : (w : List ℕ) (r : Result (List ℕ) LineReason) (xs : List ℕ) → sized 0 36 w ≡ r → ticket_key_in r ≡ Ok xs → (w ≡ octets_text xs) × IsTicketKey xs
key_takes w (Ok ys) xs read e =
    pick (is_ticket_key_size (length ys)) (Ok ys) (Err reasons.Size) (Ok xs) e
    (λ hit same.
    let took = (sized_field 0 36).takes w ys read in
    subst (λ (zs : List ℕ). (w ≡ octets_text zs) × IsTicketKey zs) (ok_is ys xs same) (took.0, ticket_key_size ys took.1 hit))
    (λ miss same. absurd cc)
key_takes w (Err reason) xs read e = absurd cc

ticket_key_again : (xs : List ℕ) → IsTicketKey xs → ticket_key_of (octets_text xs) ≡ Ok xs
ticket_key_again xs h = rw ((sized_field 0 36).again xs (key_octets xs h), is_key_size xs h) refl

pub ticket_key_field : IsField ticket_key_of octets_text IsTicketKey
ticket_key_field = record { takes = λ w xs e. key_takes w (sized 0 36 w) xs refl e; again = ticket_key_again }
