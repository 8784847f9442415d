-- What an end does with a covered genuine packet: it opens, and where its number is acknowledged it is taken.
use Rattle.std.proofs.Common.{◌≡◌, ℕ, ◌/◌, ◌%◌, ◌^◌, ◌<◌, ◌⊎◌, List, [], ◌∷◌, length, take, Option, Some, Result, Err, ⊎_elim, refl, ap, sym, ◌∙◌, arith, subst}
use Rattle.std.proofs.lemmas.Bool.{cases_lt}
use Rattle.std.proofs.lemmas.Nat.{from_be_bytes-to_be_bytes_4}
use Rattle.std.specs.Int.{w32, from_be_bytes, to_be_bytes}
use Rattle.esp_packets.specs.Laws.{Accepts, SealedPacketsOpen}
use Rattle.ha_base.specs.declared.esp_outcomes.EspDrop.{EspDrop}
use Rattle.ha_base.specs.declared.esp_outcomes.EspDrop.TheVariants as drop
use Rattle.ha_base.specs.declared.esp_outcomes.EspOpened.{EspOpened}
use Rattle.horizons.specs.Reaches.{Reach, cover_of}
use Rattle.horizons.specs.Ready.{Answered, Covers, Ready}
use Rattle.horizons.specs.declared.stop.Stop.{Stop}
use Rattle.keeper_book.specs.Told.{seen}
use Rattle.keeper_book.specs.declared.calls.Call.{Call}
use Rattle.keeper_book.specs.declared.calls.KeeperAnswer.{KeeperAnswer}
use Rattle.keeper_book.specs.declared.calls.KeeperAnswer.TheVariants as answers
use Rattle.keeper_book.specs.declared.calls.KeeperAsk.{KeeperAsk}
use Rattle.keeper_book.specs.declared.calls.KeeperAsk.TheVariants as ask
use Rattle.keeper_book.specs.CounterEnds.{end_of}
use Rattle.keeper_book.specs.declared.counters.Counter.TheVariants as counter
use Rattle.turn_rules.specs.Draws.{reach_of}
use Rattle.turn_rules.specs.Genuine.{IsAcknowledged, IsCoveredNow, IsGenuine}
use Rattle.turn_rules.specs.Held.{Held, covered}
use Rattle.turn_rules.specs.MemberPackets.{IsReceiver}
use Rattle.turn_rules.specs.Packets.{Inbound, OpensEsp}

-- the key of what is received with has one of the two lengths that there are
abbrev pub IsSized : Inbound → Type 0
IsSized inbound = (length inbound.key ≡ 20) ⊎ (length inbound.key ≡ 36)

-- four octets name an SPI of four octets
spi-small : (spi : ℕ) → from_be_bytes w32 (to_be_bytes w32 spi) < 2 ^ 32
spi-small spi =
    let third : spi / 16777216 % 256 ≡ spi % 4294967296 / 16777216 % 256 = omega arith in
    let second : spi / 65536 % 256 ≡ spi % 4294967296 / 65536 % 256 = omega arith in
    let first : spi / 256 % 256 ≡ spi % 4294967296 / 256 % 256 = omega arith in
    let last : spi % 256 ≡ spi % 4294967296 % 256 = omega arith in
    let same : to_be_bytes w32 spi ≡ to_be_bytes w32 (spi % 2 ^ 32) = λ i. third i ∷ second i ∷ first i ∷ last i ∷ [] in
    let small : spi % 2 ^ 32 < 2 ^ 32 = omega arith in
    subst (λ n. n < 2 ^ 32) (sym (ap (from_be_bytes w32) same ∙ from_be_bytes-to_be_bytes_4 (spi % 2 ^ 32) small)) small

module _ (law : SealedPacketsOpen) (inbound : Inbound) (sized : IsSized inbound) (number : ℕ) (payload octets : List ℕ) (genuine : IsGenuine inbound number payload octets) where
  genuine-spi : inbound.spi < 2 ^ 32
  genuine-spi = subst (λ n. n < 2 ^ 32) (sym (ap (from_be_bytes w32) (ap (take 4) genuine.sealed.sealed)) ∙ genuine.named) (spi-small inbound.spi)

  -- a genuine packet opens, with its number and its payload
  pub genuine-opens : (opened : Result EspOpened EspDrop) (after : List ℕ) → OpensEsp inbound octets opened after → Accepts number payload 4 opened after
  genuine-opens opened after opens = law inbound.key inbound.spi number payload 4 octets inbound.window opened after sized genuine-spi genuine.sealed genuine.covered genuine.first opens

  -- and is not too short
  pub genuine-long : length octets < 34 → ⊥
  genuine-long short = let never = (genuine-opens (Err drop.Short) octets (short, refl)).accepted in cc

answered_done : (P : Stop → Type 0) (G : Type 0) (answered : KeeperAnswer) → answered ≡ answers.Done → Answered answered P G → G
answered_done P G answered e a = subst (λ k. Answered k P G) e a

-- a cover that was acknowledged
is_done : (spir : ℕ) (asked : KeeperAsk) (answered : KeeperAnswer) (upto : ℕ) → covered spir counter.EspIn asked answered ≡ Some upto → answered ≡ answers.Done
is_done spir (ask.Cover other kind child epoch until) answers.Done upto is = refl
is_done spir asked answered upto is = absurd (cc)

covers_done : {X : Type 0} (P : Stop → List Call → Type 0) (G : ℕ → List Call → Type 0) (h : Reach) (at spir : ℕ) (calls : List Call) → ((high : ℕ) (rest : List Call) → G high rest → X) → IsCoveredNow spir at calls → Covers h at calls P G → X
covers_done P G h at spir [] f d c = absurd c
covers_done P G h at spir (call ∷ rest) f d c = f (cover_of h at) rest (answered_done (λ why. P why rest) (G (cover_of h at) rest) (seen call) (is_done spir call.asked (seen call) d.0 d.1) c.1)

-- where the number of a packet is acknowledged, it is ready
pub ready-goes : {X : Type 0} {P : Stop → List Call → Type 0} {G : ℕ → List Call → Type 0} (held : Held) (at : ℕ) (calls : List Call) → at < end_of held.sa counter.EspIn → ((high : ℕ) (rest : List Call) → G high rest → X) → IsAcknowledged held at calls → Ready (reach_of held counter.EspIn) at calls P G → X
ready-goes {X} {P} {G} held at calls below f allowed r =
    ⊎_elim (λ w. f held.highs.esp_in calls (r.within w))
    (λ l. ⊎_elim (λ w. f held.highs.esp_in calls (r.within w)) (λ d. covers_done P G (reach_of held counter.EspIn) at held.sa.spir calls f d (r.asked l below)) allowed)
    (cases_lt at held.highs.esp_in)

-- where several receive at an SPI, one is meant
pub same_receiver : (held : ℕ → Option Held) (spi s t : ℕ) (g h : Held) → IsReceiver held spi s g → IsReceiver held spi t h → g ≡ h
same_receiver held spi s t g h p q =
    let same : s ≡ t = omega (arith, p.least t h q.is_held q.receives, q.least s g p.is_held p.receives) in
    let both : Some g ≡ Some h = sym p.is_held ∙ ap held same ∙ q.is_held in
    cc
