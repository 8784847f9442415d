-- The text of the newest turn.
use Rattle.std.proofs.Common.{◌≡◌, ℕ, ◌+◌, List, [], ◌∷◌, length, Option, Some, None, refl, ap, sym, ◌∙◌, length-append, add-one, arith}
use Rattle.std.specs.Prelude.{option_to_list, slice_get, unwrap_or}
use Rattle.std.specs.Option.{option_map}
use Rattle.report_text.specs.Report.{datagrams_given, given_in, turn_text}
use Rattle.events.specs.declared.turn.Datagram.{Datagram}
use Rattle.events.specs.declared.turn.Turn.{Turn}
use Rattle.run_ends.specs.Runs.{CausedSince}
use Rattle.run_lines.specs.Writes.{newest_text}
use Rattle.turn_rules.specs.Datagrams.{datagrams_of, plain_datagram}

some_same : {T : Type 0} {x y : T} → Some x ≡ Some y → x ≡ y
some_same {T} {x} e = ap (λ o. unwrap_or o x) e

-- as many datagrams were given as the report counts
counted-given : (past : List Turn) → length (datagrams_of past) ≡ datagrams_given past
counted-given [] = refl
counted-given (turn ∷ past) =
    length-append (datagrams_of past) (option_to_list (option_map plain_datagram turn.step.gives))
    ∙ ap (λ n. n + length (option_to_list (option_map plain_datagram turn.step.gives))) (counted-given past)
    ∙ ap (λ n. datagrams_given past + n) (counted_in turn.step.gives)
  where
    counted_in : (gives : Option Datagram) → length (option_to_list (option_map plain_datagram gives)) ≡ given_in gives
    counted_in None = refl
    counted_in (Some datagram) = refl

-- where a turn gives a datagram, it is the newest one
turn_text-newest : (number : ℕ) (past : List Turn) (turn : Turn) → turn_text number (datagrams_given (turn ∷ past)) turn ≡ turn_text number (datagrams_given past + 1) turn
unfolding turn_text
turn_text-newest number past turn = go turn.step.gives refl
  where
    go : (gives : Option Datagram) → turn.step.gives ≡ gives → turn_text number (datagrams_given past + given_in turn.step.gives) turn ≡ turn_text number (datagrams_given past + 1) turn
    go None e = rw e refl
    go (Some datagram) e = rw e refl

-- the text that a turn has by the numbers that are told
pub newest_text-is : (past : List Turn) (t : Turn) (n d : ℕ) → Some t ≡ slice_get past 0 → n ≡ length past → d ≡ length (datagrams_of past) → turn_text n d t ≡ newest_text past
newest_text-is [] t n d is counted sent = absurd (cc)
newest_text-is (turn ∷ past) t n d is counted sent =
    ap (λ k. turn_text k d t) (counted ∙ sym (add-one (length past)))
    ∙ ap (λ k. turn_text (length past + 1) k t) (sent ∙ counted-given (turn ∷ past))
    ∙ ap (λ x. turn_text (length past + 1) (datagrams_given (turn ∷ past)) x) (some_same is)
    ∙ turn_text-newest (length past + 1) past turn

-- no turn has none
pub newest_text-none : (past : List Turn) → None ≡ slice_get past 0 → newest_text past ≡ []
newest_text-none [] none = refl
newest_text-none (turn ∷ past) none = absurd (cc)

pub none_caused : (faults : ℕ) → CausedSince faults faults []
none_caused faults = record { later = omega arith; failed = λ none. absurd none }
