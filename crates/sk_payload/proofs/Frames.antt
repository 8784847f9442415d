-- Messages in the making, and the payloads that are put in.
use Rattle.std.proofs.Common.{◌≡◌, ℕ, ◌+◌, ◌-◌, ◌<◌, ◌≤◌, true, List, [], ◌∷◌, ◌++◌, length, take, drop, set, replicate, get_or, refl, sym, ap, subst, ◌∙◌, append_assoc, append-nil, length-append, length-set, length-drop, take_at, take_all, true≢false, arith}
use Rattle.std.proofs.lemmas.List.{set-append_right}
use Rattle.ike_values.specs.Values.{PayloadValue, sk}
use Rattle.ike_values.specs.Spelling.{two, type_of, leading_type, next_field, payload_spelling, chain_spelling}
use Rattle.ike_values.specs.Writing.{body_written, first_type_of, chain_written}
use Rattle.ike_values.specs.Validity.{AreValid}
use Rattle.ike_values.proofs.SpellingLaws.{chain_spelled}
use Rattle.ike_grammar.specs.Chain.{chain_at}
use Rattle.ike_grammar.proofs.ChainLaws.{chain_again}
use Rattle.sk_payload.specs.HeldFrame.{read_or_none, payloads_in, octets_before, IsFrame}
use Rattle.ike_values.specs.Notifications.{notify_of}
use Rattle.sk_payload.specs.Message.{plain_of}
use Rattle.sk_payload.specs.declared.frame.Frame.TheInside.{Inside}

-- ---- what a message in the making holds

pub held_is : (xs : List PayloadValue) → AreValid true xs → payloads_in (octets_before 0 xs) ≡ xs
unfolding payloads_in
held_is xs valid =
    let long : length (octets_before 0 xs) - 41 ≡ length (chain_written xs) = omega (arith, length-append (chain_written xs) (0 ∷ [])) in
    let chain : take (length (octets_before 0 xs) - 41) (chain_written xs ++ 0 ∷ []) ≡ chain_written xs =
    take_at (chain_written xs) (0 ∷ []) (length (octets_before 0 xs) - 41) (sym long) in
    (λ i. read_or_none (chain_at (length (octets_before 0 xs) - 41) true (first_type_of xs) (chain i)))
    ∙ ap read_or_none (chain_again (length (octets_before 0 xs) - 41) true xs (first_type_of xs) (chain_written xs) (chain_spelled true xs valid))

-- ---- one payload more

valid_more : (xs : List PayloadValue) (y : PayloadValue) → AreValid true xs → AreValid true (y ∷ []) → AreValid true (xs ++ y ∷ [])
valid_more [] y valid one = one
valid_more (sk x ∷ xs) y valid one = absurd (true≢false valid.1.0)
valid_more (item ∷ xs) y valid one = (valid.0, tt, valid_more xs y valid.2 one)

first_more : (next : ℕ) (xs : List PayloadValue) (y : PayloadValue) → leading_type next (xs ++ y ∷ []) ≡ leading_type (type_of y) xs
first_more next [] y = refl
first_more next (x ∷ xs) y = refl

next_more : (next : ℕ) (x : PayloadValue) (xs : List PayloadValue) (y : PayloadValue) → next_field next x (xs ++ y ∷ []) ≡ next_field (type_of y) x xs
next_more next (sk x) xs y = refl
next_more next item xs y = first_more next xs y

-- a payload that has this next payload
abbrev one : ℕ → PayloadValue → List ℕ
one next y = payload_spelling next 0 (body_written y)

one_is : (next : ℕ) (y : PayloadValue) → AreValid true (y ∷ []) → next_field next y [] ≡ next
one_is next (sk x) fits = absurd (true≢false fits.1.0)
one_is next item fits = refl

chain_more : (next : ℕ) (xs : List PayloadValue) (y : PayloadValue) → AreValid true (y ∷ []) → chain_spelling next [] (xs ++ y ∷ []) ≡ chain_spelling (type_of y) [] xs ++ one next y
chain_more next [] y fits = append-nil (one (next_field next y []) y) ∙ ap (λ n. one n y) (one_is next y fits)
chain_more next (x ∷ xs) y fits =
    (λ i. payload_spelling (next_more next x xs y i) 0 (body_written x) ++ chain_more next xs y fits i)
    ∙ sym (append_assoc (payload_spelling (next_field (type_of y) x xs) 0 (body_written x)) (chain_spelling (type_of y) [] xs) (one next y))

-- what stands before the last octet once the payload is named, and what comes behind it
abbrev pub named : List PayloadValue → PayloadValue → List ℕ
named xs y = replicate 28 0 ++ (leading_type (type_of y) xs ∷ replicate 11 0 ++ chain_spelling (type_of y) [] xs)

abbrev pub behind : PayloadValue → List ℕ
behind y = 0 ∷ two (4 + length (body_written y)) ++ body_written y ++ 0 ∷ []

octets_named : (xs : List PayloadValue) (y : PayloadValue) → octets_before (type_of y) xs ≡ named xs y ++ 0 ∷ []
octets_named xs y = refl

octets_more : (next : ℕ) (xs : List PayloadValue) (y : PayloadValue) → AreValid true (y ∷ []) → octets_before next (xs ++ y ∷ []) ≡ named xs y ++ next ∷ behind y
octets_more next xs y fits =
    (λ i. replicate 28 0 ++ (first_more next xs y i ∷ replicate 11 0 ++ (chain_more next xs y fits i ++ 0 ∷ [])))
    ∙ ap (λ ys. replicate 28 0 ++ (leading_type (type_of y) xs ∷ replicate 11 0 ++ ys)) (append_assoc (chain_spelling (type_of y) [] xs) (one next y) (0 ∷ []))

module _ (items : List ℕ) (link : ℕ) (xs : List PayloadValue) (y : PayloadValue) (after : List ℕ) (link' : ℕ)
    (links : (next : ℕ) → set items link next ≡ octets_before next xs) (valid : AreValid true xs) (fits : AreValid true (y ∷ []))
    (is : after ≡ set items link (type_of y) ++ behind y) (link_is : link' + 1 ≡ length items) where
  whole : after ≡ named xs y ++ 0 ∷ behind y
  whole = is ∙ ap (λ ys. ys ++ behind y) (links (type_of y)) ∙ append_assoc (named xs y) (0 ∷ []) (behind y)

  front : length (named xs y) ≡ link'
  front =
      let lengths : length items ≡ length (named xs y) + 1 =
      sym (length-set items link (type_of y)) ∙ ap length (links (type_of y)) ∙ length-append (named xs y) (0 ∷ []) in
      omega (arith, lengths, link_is)

  pub octets_after : after ≡ octets_before 0 (xs ++ y ∷ [])
  octets_after = whole ∙ sym (octets_more 0 xs y fits)

  pub valid_after : AreValid true (xs ++ y ∷ [])
  valid_after = valid_more xs y valid fits

  pub held_after : payloads_in after ≡ xs ++ y ∷ []
  held_after = ap payloads_in octets_after ∙ held_is (xs ++ y ∷ []) valid_after

  pub links_after : (next : ℕ) → set after link' next ≡ octets_before next (xs ++ y ∷ [])
  links_after next =
      let none : link' - link' ≡ 0 = omega arith in
      ap (λ ys. set ys link' next) whole
      ∙ set-append_right (named xs y) (0 ∷ behind y) link' link' next front (omega arith)
      ∙ ap (λ k. named xs y ++ set (0 ∷ behind y) k next) none
      ∙ sym (octets_more next xs y fits)

-- ---- frames

pub frame_begun : (f : Inside) → f.message.octets ≡ octets_before 0 [] → f.link ≡ 28 → 2048 ≤ length f.message.octets + f.message.spare → IsFrame f
frame_begun f is link room =
    let held : payloads_in f.message.octets ≡ [] = ap payloads_in is ∙ held_is [] tt in
    let long : length f.message.octets ≡ 41 = ap length is in
    record {
      valid = subst (AreValid true) (sym held) tt;
      octets = is ∙ ap (octets_before 0) (sym held);
      links = λ next. (λ i. set (is i) (link i) next) ∙ ap (octets_before next) (sym held);
      link_within = omega (arith, link, long);
      small = omega (arith, long);
      room = room;
    }

module _ (old new : Inside) (y : PayloadValue) (frame : IsFrame old) (fits : AreValid true (y ∷ []))
    (is : new.message.octets ≡ set old.message.octets old.link (type_of y) ++ behind y) (link_is : new.link + 1 ≡ length old.message.octets)
    (spare : old.message.spare ≤ new.message.spare + 4 + length (body_written y)) (room : 4 + length (body_written y) ≤ 2032 - length old.message.octets) where
  long : length new.message.octets ≡ length old.message.octets + 4 + length (body_written y)
  long = omega (
    arith,
    ap length is,
    length-append (set old.message.octets old.link (type_of y)) (behind y),
    length-set old.message.octets old.link (type_of y),
    length-append (body_written y) (0 ∷ []),
  )

  pub payloads_after : payloads_in new.message.octets ≡ payloads_in old.message.octets ++ y ∷ []
  payloads_after = held_after old.message.octets old.link (payloads_in old.message.octets) y new.message.octets new.link frame.links frame.valid fits is link_is

  pub frame_after : IsFrame new
  frame_after =
      let xs : List PayloadValue = payloads_in old.message.octets in
      record {
        valid = subst (AreValid true) (sym payloads_after) (valid_after old.message.octets old.link xs y new.message.octets new.link frame.links frame.valid fits is link_is);
        octets = octets_after old.message.octets old.link xs y new.message.octets new.link frame.links frame.valid fits is link_is ∙ ap (octets_before 0) (sym payloads_after);
        links = λ next. links_after old.message.octets old.link xs y new.message.octets new.link frame.links frame.valid fits is link_is next ∙ ap (octets_before next) (sym payloads_after);
        link_within = omega (arith, link_is, long);
        small = omega (arith, long, room, frame.small);
        room = omega (arith, long, spare, frame.room);
      }

  pub room_after : 2032 - length new.message.octets + 4 + length (body_written y) ≡ 2032 - length old.message.octets
  room_after = omega (arith, long, room)

-- a payload that was written piece by piece: what tells its type and length, its body, and a pad length
pub put_together : (front : List ℕ) (y : PayloadValue) (begun written done : List ℕ) (size : ℕ) → size ≡ length (body_written y) →
    begun ≡ front ++ (0 ∷ two (4 + size)) → written ≡ begun ++ body_written y → done ≡ written ++ 0 ∷ [] → done ≡ front ++ behind y
put_together front y begun written done size size_is begun_is written_is is =
    is
    ∙ ap (λ ys. ys ++ 0 ∷ []) (written_is ∙ ap (λ ys. ys ++ body_written y) (begun_is ∙ ap (λ n. front ++ (0 ∷ two (4 + n))) size_is))
    ∙ ap (λ ys. ys ++ 0 ∷ []) (append_assoc front (0 ∷ two (4 + length (body_written y))) (body_written y))
    ∙ append_assoc front (0 ∷ two (4 + length (body_written y)) ++ body_written y) (0 ∷ [])

-- ---- slices

pub plain_is : (shown items : List ℕ) (payloads : List PayloadValue) → shown ≡ items → items ≡ octets_before 0 payloads → AreValid true payloads →
    take (length shown - 40) (drop 40 shown) ≡ plain_of payloads
plain_is shown items payloads same is valid =
    let whole : shown ≡ octets_before 0 payloads = same ∙ is in
    let text : drop 40 shown ≡ plain_of payloads = ap (drop 40) whole in
    ap (take (length shown - 40)) text
    ∙ take_all (length shown - 40) (plain_of payloads) (omega (arith, sym (ap length text), length-drop 40 shown))

-- a notification without an SPI has a spelling
pub notify_valid : (kind : ℕ) (content : List ℕ) → 8 + length content < 65536 → AreValid true (notify_of kind content ∷ [])
notify_valid kind content small = (record { body = omega arith; length_fits = omega (arith, small) }, tt, tt)

-- ---- what is sealed

pub text_is : (items : List ℕ) (payloads : List PayloadValue) → items ≡ octets_before 0 payloads → AreValid true payloads → drop 40 items ≡ plain_of payloads
text_is items payloads is valid = ap (drop 40) is

pub front_is : (items : List ℕ) (payloads : List PayloadValue) (other : ℕ) → items ≡ octets_before 0 payloads → get_or items 28 other ≡ first_type_of payloads
front_is items payloads other is = ap (λ ys. get_or ys 28 other) is

pub octets_long : (items : List ℕ) (payloads : List PayloadValue) → items ≡ octets_before 0 payloads → AreValid true payloads → length items ≡ 40 + length (plain_of payloads)
octets_long items payloads is valid =
    omega (arith, ap length is)
