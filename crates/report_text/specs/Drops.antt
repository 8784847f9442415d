-- Why octets were dropped, by the words that tell it.
use Rattle.std.specs.Prelude.{ℕ, List, [], ◌∷◌, codes}
use Rattle.std.specs.Fmt.{decimal}
use Rattle.ha_base.specs.declared.esp_outcomes.EspDrop.{EspDrop}
use Rattle.ha_base.specs.declared.esp_outcomes.EspDrop.TheVariants as packets
use Rattle.ike_values.specs.declared.fault.Reason.{Reason}
use Rattle.events.specs.declared.ike_outcomes.IkeDrop.{IkeDrop}
use Rattle.events.specs.declared.ike_outcomes.IkeDrop.TheVariants as messages
use Rattle.fault_text.specs.FaultWords.{bad_words}

-- A message and a packet that do not open have the same word. The event tells which it was.
pub data PlainDrop : Type 0 where
  NotOpened : PlainDrop
  -- an ESP packet
  Short : PlainDrop
  WrongSpi : PlainDrop
  Stale : PlainDrop
  Seen : PlainDrop
  Padding : PlainDrop
  -- an IKE message
  Bad : ℕ → Reason → PlainDrop  -- the place, and the reason
  Direction : PlainDrop
  Exchange : ℕ → PlainDrop  -- the exchange type
  UnknownSpi : PlainDrop
  Old : ℕ → PlainDrop  -- the Message ID
  Ahead : ℕ → PlainDrop  -- the Message ID
  NotSynced : ℕ → PlainDrop  -- the Message ID
  NotAsked : PlainDrop
  SyncOld : ℕ → PlainDrop  -- the highest Message ID
  Nonce : PlainDrop
  Delta : PlainDrop

abbrev pub dropped_packet : EspDrop → PlainDrop
dropped_packet packets.Short = Short
dropped_packet packets.WrongSpi = WrongSpi
dropped_packet packets.Stale = Stale
dropped_packet packets.Seen = Seen
dropped_packet packets.NotOpened = NotOpened
dropped_packet packets.Padding = Padding

abbrev pub dropped_message : IkeDrop → PlainDrop
dropped_message (messages.Bad bad) = Bad bad.place bad.reason
dropped_message messages.Direction = Direction
dropped_message (messages.Exchange number) = Exchange number
dropped_message messages.UnknownSpi = UnknownSpi
dropped_message messages.NotOpened = NotOpened
dropped_message (messages.Old id) = Old id
dropped_message (messages.Ahead id) = Ahead id
dropped_message (messages.NotSynced id) = NotSynced id
dropped_message messages.NotAsked = NotAsked
dropped_message (messages.SyncOld id) = SyncOld id
dropped_message messages.Nonce = Nonce
dropped_message messages.Delta = Delta

abbrev pub drop_words : PlainDrop → List (List ℕ)
drop_words NotOpened = codes "not-opened" ∷ []
drop_words Short = codes "short" ∷ []
drop_words WrongSpi = codes "wrong-spi" ∷ []
drop_words Stale = codes "stale" ∷ []
drop_words Seen = codes "seen" ∷ []
drop_words Padding = codes "padding" ∷ []
drop_words (Bad place reason) = codes "bad" ∷ bad_words place reason
drop_words Direction = codes "direction" ∷ []
drop_words (Exchange number) = codes "exchange" ∷ decimal number ∷ []
drop_words UnknownSpi = codes "unknown-spi" ∷ []
drop_words (Old id) = codes "old" ∷ decimal id ∷ []
drop_words (Ahead id) = codes "ahead" ∷ decimal id ∷ []
drop_words (NotSynced id) = codes "not-synced" ∷ decimal id ∷ []
drop_words NotAsked = codes "not-asked" ∷ []
drop_words (SyncOld id) = codes "sync-old" ∷ decimal id ∷ []
drop_words Nonce = codes "nonce" ∷ []
drop_words Delta = codes "delta" ∷ []
