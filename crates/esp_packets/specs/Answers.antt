-- What the parts of the receiver answer.
use Rattle.std.specs.Prelude.{◌≡◌, ℕ, ◌+◌, ◌<◌, List, length, Result, Ok, Err}
use Rattle.ha_base.specs.declared.esp_outcomes.EspOpened.{EspOpened}
use Rattle.ha_base.specs.declared.esp_outcomes.EspDrop.{EspDrop}
use Rattle.ha_base.specs.declared.esp_outcomes.EspDrop.TheVariants as drops
use Rattle.esp_packets.specs.Packet.{LiesIn, esp_pad_length_in}
use Rattle.replay_set.specs.Window.{Window, IsMeant, judged}
use Rattle.ha_base.specs.declared.limits.TheConstants.{SEQUENCE_END}
use Rattle.replay_set.specs.declared.judgement.Judgement.TheVariants.{Stale, Seen, Fresh}

-- the fresh number that is meant by these low 32 bits, or why there is none
abbrev pub IsNumberAnswer : Window → ℕ → Result ℕ EspDrop → Type 0
IsNumberAnswer window low32 (Ok number) =
    IsMeant window low32 number × (number < SEQUENCE_END) × (judged window number ≡ Fresh)
IsNumberAnswer window low32 (Err drops.Stale) =
    (number : ℕ) → IsMeant window low32 number → number < SEQUENCE_END
    → judged window number ≡ Stale
IsNumberAnswer window low32 (Err drops.Seen) =
    (number : ℕ) × IsMeant window low32 number × (number < SEQUENCE_END)
    × (judged window number ≡ Seen)
IsNumberAnswer window low32 _ = ⊥

-- the packet of this number that a plaintext is, or that its pad length does not fit it
abbrev pub IsPlainAnswer : ℕ → List ℕ → Result EspOpened EspDrop → Type 0
IsPlainAnswer number plain (Ok packet) = (packet.number ≡ number) × LiesIn plain packet
IsPlainAnswer number plain (Err drops.Padding) = length plain < esp_pad_length_in plain + 2
IsPlainAnswer number plain _ = ⊥
