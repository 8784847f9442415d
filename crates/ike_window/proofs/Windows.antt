-- What is kept of the responses that were stored.
use Rattle.std.proofs.Common.{◌≡◌, ℕ, ◌+◌, ◌<◌, ◌≤◌, ◌⊎◌, inl, inr, ⊎_elim, Bool, true, false, cond, nat_le, max, ◌==◌, ◌&&◌, ◌||◌, List, [], ◌∷◌, filter, zero, subst, refl, sym, ap, ◌∙◌, arith}
use Rattle.std.proofs.lemmas.Bool.{cases_lt, or_right}
use Rattle.std.proofs.lemmas.Bool.Decides.{nat_tests}
use Rattle.std.specs.List.{Contains}
use Rattle.ike_window.specs.Kept.{KeptMessage, by_message_id, message_ids_of, has_message_id, kept_octets, with_kept}
use Rattle.ike_window.specs.Laws.{AnsweredAreStored, AnsweredHaveAResponse, IsWindowOf, JumpingRaisesTheFloor, JumpsAreRaised, NewAreFromTheFloorOn, NewHaveNoResponse, NothingIsStored, RaisingByNoMoreKeepsAll, RaisingGivesOneWindow, RepeatsAreTheResponses, ResponsesGiveOneWindow, ResponsesHaveAWindow, StoringAddsTheResponse}
use Rattle.ike_window.specs.Requests.{IsLeastFree}
use Rattle.ike_window.specs.Stored.{least_free, raised_to, window_of_responses, with_response}
use Rattle.ike_window.specs.Windows.{IsAnswered, Jumps, ResponseWindow, is_repeatable}
use Rattle.ike_window.proofs.Lows.{Contains-cases, Contains-more, among_from, free_alike, from_among, one_least_free}
use Rattle.ike_window.proofs.Orders.{NotFalling, among_ascending, among_filter, ascending_not_falling, filter_again, filter_not_falling, inserted_filter, inserted_not_falling, octets_ascending, octets_filter}
use Rattle.ike_window.proofs.Stored.{inserted_among, inserted_cases, least_free_is}

pub repeatable_true : (floor low id : ℕ) → floor ≤ id → low ≤ id + 8 → (nat_le floor id && nat_le low (id + 8)) ≡ true
repeatable_true floor low id from near = grind (arith, nat_tests)

repeatable_more : (floor low higher_floor higher_low id : ℕ) → floor ≤ higher_floor → low ≤ higher_low →
    (nat_le higher_floor id && nat_le higher_low (id + 8)) ≡ true → (nat_le floor id && nat_le low (id + 8)) ≡ true
repeatable_more floor low higher_floor higher_low id up over passed = grind (arith, nat_tests)

-- what passes a test is among what was tested
pub among_tested : (test : KeptMessage → Bool) (kept : List KeptMessage) (m : ℕ) → has_message_id (message_ids_of (filter test kept)) m ≡ true →
    has_message_id (message_ids_of kept) m ≡ true
among_tested test [] m among = among
among_tested test (message ∷ kept) m among = go (test message) (message.id == m) (among_tested test kept m) among
  where
    go : (t b : Bool) → (has_message_id (message_ids_of (filter test kept)) m ≡ true → has_message_id (message_ids_of kept) m ≡ true) →
        has_message_id (message_ids_of (cond t (message ∷ filter test kept) (filter test kept))) m ≡ true →
        ((message.id == m) || has_message_id (message_ids_of kept) m) ≡ true
    go true b rest so = either (message.id == m) rest so
      where
        either : (c : Bool) → (has_message_id (message_ids_of (filter test kept)) m ≡ true → has_message_id (message_ids_of kept) m ≡ true) →
            (c || has_message_id (message_ids_of (filter test kept)) m) ≡ true → (c || has_message_id (message_ids_of kept) m) ≡ true
        either true rest so = refl
        either false rest so = rest so
    go false b rest so = or_right (message.id == m) (has_message_id (message_ids_of kept) m) (rest so)

-- what a window knows of the responses that were stored
pub answered_are : AnsweredAreStored
answered_are floor stored window id is from = (there, back)
  where
    there : IsAnswered window id → Contains (message_ids_of stored) id
    there (inl below) = is.low.taken id from below.1
    there (inr among) =
        from_among (message_ids_of stored) id
        (sym (among_ascending stored id)
        ∙ among_tested (is_repeatable floor window.low) (by_message_id stored) id
        (ap (λ kept. has_message_id (message_ids_of kept) id) (sym is.responses) ∙ among_from (message_ids_of window.responses) id among))

    back : Contains (message_ids_of stored) id → IsAnswered window id
    back among = go (cases_lt id window.low)
      where
        go : (id < window.low) ⊎ (window.low ≤ id) → IsAnswered window id
        go (inl below) = inl (omega (arith, is.same_floor), below)
        go (inr above) =
            inr (from_among (message_ids_of window.responses) id
            (ap (λ kept. has_message_id (message_ids_of kept) id) is.responses
            ∙ among_filter (is_repeatable floor window.low) (by_message_id stored) id
            (λ message same. repeatable_true floor window.low message.id (omega arith) (omega arith))
            ∙ among_ascending stored id ∙ among_from (message_ids_of stored) id among))

pub nothing_stored : NothingIsStored
nothing_stored floor = refl

-- the least that was not answered does not fall
low_rises : (floor : ℕ) (old : ResponseWindow) (low : ℕ) → old.floor ≤ floor → floor ≤ low → ¬ IsAnswered old low → old.low ≤ low
low_rises floor old low up from free = go (cases_lt low old.low)
  where
    go : (low < old.low) ⊎ (old.low ≤ low) → old.low ≤ low
    go (inl below) = absurd (free (inl (omega arith, below)))
    go (inr above) = above

-- a response that is stored beside what is kept of others
with_response_is : (floor : ℕ) (stored : List KeptMessage) (response : KeptMessage) (old : ResponseWindow) → IsWindowOf floor stored old →
    IsWindowOf floor (response ∷ stored) (with_response response old)
with_response_is floor stored response old is = record {
  same_floor = is.same_floor;
  low = record {
    from = let up = is.low.from in let more = least.from in omega arith;
    taken = λ m from below. ⊎_elim (λ less. Contains-more response.id (message_ids_of stored) m (is.low.taken m from less))
        (λ more. there m from (inserted_cases response old.responses m (least.taken m more below))) (cases_lt m old.low);
    free = λ among. least.free (inserted_among response old.responses low
        (⊎_elim (λ same. inl (sym same)) (λ later. inr (back later)) (Contains-cases response.id (message_ids_of stored) low among)));
  };
  responses =
      (λ i. filter (is_repeatable (is.same_floor i) low) (with_kept response (is.responses i)))
      ∙ inserted_filter (is_repeatable floor low) (is_repeatable floor old.low) response 0 (by_message_id stored) (ascending_not_falling stored)
      (λ message passed. repeatable_more floor old.low floor low message.id (omega arith) least.from passed);
}
  where
    low : ℕ
    low = least_free old.low (with_kept response old.responses)

    falls : NotFalling 0 old.responses
    falls = rw is.responses (filter_not_falling (is_repeatable floor old.low) 0 (by_message_id stored) (ascending_not_falling stored))

    least : IsLeastFree old.low (Contains (message_ids_of (with_kept response old.responses))) low
    least = least_free_is old.low 0 (with_kept response old.responses) (inserted_not_falling response 0 old.responses (omega arith) falls)

    there : (m : ℕ) → floor ≤ m → (m ≡ response.id) ⊎ Contains (message_ids_of old.responses) m → Contains (message_ids_of (response ∷ stored)) m
    there m from (inl same) = (zero, omega arith, sym same)
    there m from (inr among) = Contains-more response.id (message_ids_of stored) m ((answered_are floor stored old m is from).0 (inr among))

    back : Contains (message_ids_of stored) low → Contains (message_ids_of old.responses) low
    back among = go ((answered_are floor stored old low is (let up = is.low.from in let more = least.from in omega arith)).1 among)
      where
        go : IsAnswered old low → Contains (message_ids_of old.responses) low
        go (inl below) = let more = least.from in absurd (omega (arith, below.1))
        go (inr kept) = kept

pub jumping_raises : JumpingRaisesTheFloor
jumping_raises floor to stored old new is jumps = record {
  same_floor = floor_is;
  low = free_alike (max floor to) new.low (IsAnswered old) (Contains (message_ids_of stored)) (λ m from. answered_are floor stored old m is (omega arith)) low;
  responses =
      jumps.responses
      ∙ (λ i. filter (is_repeatable (floor_is i) new.low) (is.responses i))
      ∙ filter_again (is_repeatable (max floor to) new.low) (is_repeatable floor old.low) (by_message_id stored)
      (λ message passed. repeatable_more floor old.low (max floor to) new.low message.id (omega arith) up passed);
}
  where
    floor_is : new.floor ≡ max floor to
    floor_is = jumps.floor ∙ ap (λ n. max n to) is.same_floor

    low : IsLeastFree (max floor to) (IsAnswered old) new.low
    low = subst (λ n. IsLeastFree n (IsAnswered old) new.low) floor_is jumps.low

    up : old.low ≤ new.low
    up = low_rises (max floor to) old new.low (omega (arith, is.same_floor)) low.from low.free

pub repeats_are : RepeatsAreTheResponses
repeats_are floor stored window id is from near =
    ap (kept_octets id) is.responses
    ∙ octets_filter (is_repeatable floor window.low) (by_message_id stored) id
    (λ message same. repeatable_true floor window.low message.id (omega arith) (omega arith))
    ∙ octets_ascending stored id

pub one_window : ResponsesGiveOneWindow
one_window floor stored first second is so =
    (λ i. record { floor = floors i; low = lows i; responses = responses i })
  where
    floors : first.floor ≡ second.floor
    floors = is.same_floor ∙ sym so.same_floor

    lows : first.low ≡ second.low
    lows = one_least_free floor first.low second.low (Contains (message_ids_of stored)) is.low so.low

    responses : first.responses ≡ second.responses
    responses = is.responses ∙ ap (λ low. filter (is_repeatable floor low) (by_message_id stored)) lows ∙ sym so.responses

pub made_window : ResponsesHaveAWindow
made_window floor stored = record {
  same_floor = refl;
  low = free_alike floor (least_free floor (by_message_id stored)) (Contains (message_ids_of (by_message_id stored))) (Contains (message_ids_of stored))
      alike (least_free_is floor 0 (by_message_id stored) (ascending_not_falling stored));
  responses = refl;
}
  where
    alike : (m : ℕ) → floor ≤ m → (Contains (message_ids_of (by_message_id stored)) m → Contains (message_ids_of stored) m) ×
        (Contains (message_ids_of stored) m → Contains (message_ids_of (by_message_id stored)) m)
    alike m from = (
      (λ among. from_among (message_ids_of stored) m (sym (among_ascending stored m) ∙ among_from (message_ids_of (by_message_id stored)) m among)),
      (λ among. from_among (message_ids_of (by_message_id stored)) m (among_ascending stored m ∙ among_from (message_ids_of stored) m among)),
    )

pub storing_adds : StoringAddsTheResponse
storing_adds floor stored response =
    one_window floor (response ∷ stored) (window_of_responses floor (response ∷ stored)) (with_response response (window_of_responses floor stored))
    (made_window floor (response ∷ stored))
    (with_response_is floor stored response (window_of_responses floor stored) (made_window floor stored))

pub answered_have : AnsweredHaveAResponse
answered_have floor stored id from = answered_are floor stored (window_of_responses floor stored) id (made_window floor stored) from

pub new_have_none : NewHaveNoResponse
new_have_none floor stored id new among =
    new.unanswered ((answered_have floor stored id (let up : floor ≤ (window_of_responses floor stored).low = (made_window floor stored).low.from in
    let more = new.from in omega arith)).1 among)

-- a window of some responses, and how it is raised
not_falling : (floor : ℕ) (stored : List KeptMessage) (old : ResponseWindow) → IsWindowOf floor stored old → NotFalling 0 old.responses
not_falling floor stored old is = rw is.responses (filter_not_falling (is_repeatable floor old.low) 0 (by_message_id stored) (ascending_not_falling stored))

raised_jumps : (to : ℕ) (old : ResponseWindow) → old.floor ≤ old.low → NotFalling 0 old.responses → Jumps to old (raised_to to old)
raised_jumps to old up falls = record {
  floor = refl;
  low = record {
    from = let more = least.from in omega arith;
    taken = λ m from below. ⊎_elim (λ less. inl (omega arith, less)) (λ more. inr (least.taken m (omega arith) below)) (cases_lt m old.low);
    free = λ either. ⊎_elim (λ below. let more = least.from in absurd (omega (arith, below.1))) least.free either;
  };
  responses = refl;
}
  where
    low : ℕ
    low = least_free (max old.low to) old.responses

    least : IsLeastFree (max old.low to) (Contains (message_ids_of old.responses)) low
    least = least_free_is (max old.low to) 0 old.responses falls

raised_window : (floor to : ℕ) (stored : List KeptMessage) (old : ResponseWindow) → IsWindowOf floor stored old → IsWindowOf (max floor to) stored (raised_to to old)
raised_window floor to stored old is =
    jumping_raises floor to stored old (raised_to to old) is
    (raised_jumps to old (let from = is.low.from in omega (arith, is.same_floor)) (not_falling floor stored old is))

pub raising_gives : RaisingGivesOneWindow
raising_gives floor to stored =
    one_window (max floor to) stored (raised_to to (window_of_responses floor stored)) (window_of_responses (max floor to) stored)
    (raised_window floor to stored (window_of_responses floor stored) (made_window floor stored)) (made_window (max floor to) stored)

pub jumps_raise : JumpsAreRaised
jumps_raise floor to stored old new is jumps =
    one_window (max floor to) stored new (raised_to to old) (jumping_raises floor to stored old new is jumps) (raised_window floor to stored old is)

pub raising_no_more : RaisingByNoMoreKeepsAll
raising_no_more floor to stored up = raising_gives floor to stored ∙ ap (λ n. window_of_responses n stored) same
  where
    same : max floor to ≡ floor
    same = omega arith

pub new_from_floor : NewAreFromTheFloorOn
new_from_floor floor stored id new =
    let up : floor ≤ (window_of_responses floor stored).low = (made_window floor stored).low.from in let more = new.from in omega arith
