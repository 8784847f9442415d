-- What the decoders promise, from what they give.
use Rattle.std.proofs.Common.{◌≡◌, ℕ, Bool, List, length, Result, Ok, Err, sym, subst}
use Rattle.std.specs.Prelude.{IfOk, IfErr}
use Rattle.ha_base.specs.Octets.{WithRoom}
use Rattle.ike_values.specs.Values.{PayloadValue}
use Rattle.ike_values.specs.Chains.{Spells}
use Rattle.ike_values.specs.Headers.{IsHeader, IsMessage}
use Rattle.ike_values.specs.declared.header.Header.{Header}
use Rattle.ike_values.specs.declared.header.Message.{Message}
use Rattle.ike_values.specs.declared.fault.Bad.{Bad}
use Rattle.ike_grammar.specs.declared.fault.Unread.{Unread}
use Rattle.ike_grammar.specs.declared.fault.Unread.TheVariants as unread
use Rattle.ike_grammar.specs.OctetRange.{IsOctets}
use Rattle.ike_grammar.specs.Faults.{Gives, IsFaultAt}
use Rattle.ike_grammar.specs.Chain.{chain_at, Refused}
use Rattle.ike_grammar.specs.Messages.{header_at, message_at, MessageRefused}
use Rattle.ike_grammar.proofs.ChainLaws.{chain_found, chain_again}
use Rattle.ike_grammar.proofs.MessageLaws.{header_found, message_found, message_again}

refused_at : {A : Type 0} (r : Result A Unread) (read : Result A Bad) → Gives (λ x. x) r read → IfErr r (IsFaultAt (λ place reason. read ≡ Err (record { place = place; reason = reason })))
refused_at (Ok x) read g = tt
refused_at (Err (unread.Memory m)) read g = tt
refused_at (Err (unread.Bad b)) read g = g

-- ---- chains

pub chain_is_found : (first : ℕ) (inner : Bool) (bytes : List ℕ) (r : Result (List PayloadValue) Unread) → IsOctets bytes → Gives (λ x. x) r (chain_at (length bytes) inner first bytes) → IfOk r (λ payloads. Spells payloads first inner bytes)
chain_is_found first inner bytes (Ok xs) fits g = chain_found (length bytes) inner first bytes xs fits g
chain_is_found first inner bytes (Err e) fits g = tt

pub chain_is_only : (first : ℕ) (inner : Bool) (bytes : List ℕ) (r : Result (List PayloadValue) Unread) → Gives (λ x. x) r (chain_at (length bytes) inner first bytes) → (payloads : List PayloadValue) → Spells payloads first inner bytes → Gives (λ x. x) r (Ok payloads)
chain_is_only first inner bytes r g xs s = subst (Gives (λ x. x) r) (chain_again (length bytes) inner xs first bytes s) g

pub chain_is_refused : (first : ℕ) (inner : Bool) (bytes : List ℕ) (r : Result (List PayloadValue) Unread) → Gives (λ x. x) r (chain_at (length bytes) inner first bytes) → IfErr r (IsFaultAt (Refused first inner bytes))
chain_is_refused first inner bytes r g = refused_at r (chain_at (length bytes) inner first bytes) g

-- ---- messages

pub message_is_found : (bytes : List ℕ) (r : Result Message Unread) → IsOctets bytes → Gives (λ x. x) r (message_at bytes) → IfOk r (λ m. IsMessage m bytes)
message_is_found bytes (Ok m) fits g = message_found bytes m fits g
message_is_found bytes (Err e) fits g = tt

pub message_is_only : (bytes : List ℕ) (r : Result Message Unread) → Gives (λ x. x) r (message_at bytes) → (m : Message) → IsMessage m bytes → Gives (λ x. x) r (Ok m)
message_is_only bytes r g m s = subst (Gives (λ x. x) r) (message_again bytes m s) g

pub message_is_refused : (bytes : List ℕ) (r : Result Message Unread) → Gives (λ x. x) r (message_at bytes) → IfErr r (IsFaultAt (MessageRefused bytes))
message_is_refused bytes r g = refused_at r (message_at bytes) g

-- ---- headers

pub header_is_found : (bytes : List ℕ) (r : Result Header Bad) → IsOctets bytes → r ≡ header_at bytes → IfOk r (λ h. IsHeader h bytes)
header_is_found bytes (Ok h) fits e = (_, header_found bytes h fits (sym e))
header_is_found bytes (Err b) fits e = tt

-- ---- what is written

pub message_is_again : {E : Type 0} (m : Message) (r : Result WithRoom E) → IfOk r (λ out. IsMessage m out.octets) → IfOk r (λ out. message_at out.octets ≡ Ok m)
message_is_again m (Ok out) s = message_again out.octets m s
message_is_again m (Err e) s = tt
