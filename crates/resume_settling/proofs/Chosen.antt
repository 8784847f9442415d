-- Where an IKE_AUTH is as it has to be, a proposal and a selector of each end are taken, and they fit.
use Rattle.std.proofs.Common.{◌≡◌, ◌<◌, Bool, true, false, List, [], ◌∷◌, length, filter, Option, Some, None, is_some, cond, refl, arith, subst}
use Rattle.std.specs.Prelude.{slice_get, IsSome, MatchOption}
use Rattle.std.specs.List.{AllByRecursion}
use Rattle.ha_base.specs.declared.key_material.KeySize.{KeySize}
use Rattle.ike_values.specs.Validity.{AreValid, FitsSelector, FitsSelectors}
use Rattle.ike_values.specs.Values.{PayloadValue, ProposalValue, SelectorValue, tsi, tsr}
use Rattle.resume_exchange.specs.Offers.{fits}
use Rattle.resume_exchange.specs.Parts.{first_of, tsi_data, tsr_data}
use Rattle.resume_exchange.specs.declared.half_opens.HalfOpen.{HalfOpen}
use Rattle.resume_settling.specs.Choosing.{Chooses, IsNarrowed, TakesProposal}
use Rattle.resume_settling.specs.Judgements.{IsCorrect}

-- ---- what a call found

pub is_there : {X : Type 0} (found : Option X) (P : Type 0) (Q : X → Type 0) → MatchOption found P Q → ¬ P → IsSome found
is_there None P Q is never = absurd (never is)
is_there (Some x) P Q is never = refl

pub found_as : {X : Type 0} (found : Option X) (x : X) (P : Type 0) (Q : X → Type 0) → MatchOption found P Q → found ≡ Some x → Q x
found_as None x P Q is same = cc
found_as (Some y) x P Q is same = let e : y ≡ x = cc in subst Q e is

-- ---- the selectors of valid payloads

tsi_fits : (payloads : List PayloadValue) (xs : List SelectorValue) → first_of tsi_data payloads ≡ Some xs → AreValid true payloads → FitsSelectors xs
tsi_fits [] xs is valid = cc
tsi_fits (tsi x ∷ items) xs is valid = let same : x ≡ xs = cc in subst FitsSelectors same valid.0.body
tsi_fits (item ∷ items) xs is valid = tsi_fits items xs is valid.2

tsr_fits : (payloads : List PayloadValue) (xs : List SelectorValue) → first_of tsr_data payloads ≡ Some xs → AreValid true payloads → FitsSelectors xs
tsr_fits [] xs is valid = cc
tsr_fits (tsr x ∷ items) xs is valid = let same : x ≡ xs = cc in subst FitsSelectors same valid.0.body
tsr_fits (item ∷ items) xs is valid = tsr_fits items xs is valid.2

first_fits : (xs : List SelectorValue) (x : SelectorValue) → AllByRecursion FitsSelector xs → slice_get xs 0 ≡ Some x → FitsSelector x
first_fits [] x all is = cc
first_fits (y ∷ ys) x all is = let same : y ≡ x = cc in subst FitsSelector same all.0

pub initiator_fits : (payloads : List PayloadValue) (x : SelectorValue) → AreValid true payloads → IsNarrowed tsi_data payloads x → FitsSelector x
initiator_fits payloads x valid is = first_fits is.0 x (tsi_fits payloads is.0 is.1 valid).selectors is.2

pub responder_fits : (payloads : List PayloadValue) (x : SelectorValue) → AreValid true payloads → IsNarrowed tsr_data payloads x → FitsSelector x
responder_fits payloads x valid is = first_fits is.0 x (tsr_fits payloads is.0 is.1 valid).selectors is.2

-- ---- there is one to take

first_there : (xs : List SelectorValue) → 0 < length xs → (x : SelectorValue) × (slice_get xs 0 ≡ Some x)
first_there [] some = absurd (omega arith)
first_there (x ∷ xs) some = (x, refl)

some_is : {X : Type 0} (found : Option X) → is_some found ≡ true → (x : X) × (found ≡ Some x)
some_is None is = cc
some_is (Some x) is = (x, refl)

narrowed : (part : PayloadValue → Option (List SelectorValue)) (payloads : List PayloadValue) →
    ((xs : List SelectorValue) → first_of part payloads ≡ Some xs → FitsSelectors xs) → is_some (first_of part payloads) ≡ true →
    (x : SelectorValue) × IsNarrowed part payloads x
narrowed part payloads fit there =
    let found = some_is (first_of part payloads) there in
    let first = first_there found.0 (fit found.0 found.1).some in
    (first.0, (found.0, found.1, first.1))

pub something_chosen : (half_open : HalfOpen) (payloads : List PayloadValue) → IsCorrect half_open payloads → AreValid true payloads →
    (proposal : ProposalValue) × (initiator : SelectorValue) × (responder : SelectorValue) × Chooses half_open.content.size payloads proposal initiator responder
something_chosen half_open payloads correct valid =
    let found = correct.2 in
    let parts = found.1.1 in
    let initiator = narrowed tsi_data payloads (λ xs is. tsi_fits payloads xs is valid) parts.initiator in
    let responder = narrowed tsr_data payloads (λ xs is. tsr_fits payloads xs is valid) parts.responder in (
      found.2.0,
      initiator.0,
      responder.0,
      record {
        proposal_is = (found.0, parts.proposals_are, found.2.1);
        initiator_is = initiator.1;
        responder_is = responder.1;
      },
    )

-- ---- the proposal that is taken has an SPI of four octets

passes_or : {X : Type 0} (p : X → Bool) (y : X) (rest : List X) (x : X) (b : Bool) → p y ≡ b → (slice_get rest 0 ≡ Some x → p x ≡ true) →
    slice_get (cond b (y ∷ rest) rest) 0 ≡ Some x → p x ≡ true
passes_or p y rest x true passes later is = let same : y ≡ x = cc in subst (λ z. p z ≡ true) same passes
passes_or p y rest x false fails later is = later is

first_passes : {X : Type 0} (p : X → Bool) (xs : List X) (x : X) → slice_get (filter p xs) 0 ≡ Some x → p x ≡ true
first_passes p [] x is = cc
first_passes p (y ∷ ys) x is = passes_or p y (filter p ys) x (p y) refl (first_passes p ys x) is

pub spi_has_four : (size : KeySize) (payloads : List PayloadValue) (proposal : ProposalValue) → TakesProposal size payloads proposal → length proposal.spi ≡ 4
spi_has_four size payloads proposal is =
    let fit : fits size proposal ≡ true = first_passes (fits size) is.0 proposal is.2 in
    grind arith
