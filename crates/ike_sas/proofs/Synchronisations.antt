-- A message asks for a synchronisation exactly where its first notification of that kind is whole.
use Rattle.std.proofs.Common.{◌≡◌, List, Result, Ok, Err, is_ok, is_some, ap, sym}
use Rattle.ike_values.specs.Values.{PayloadValue}
use Rattle.sync_exchange.specs.Answers.{IsRequestAnswer}
use Rattle.sync_exchange.specs.Notifications.{ids_in}
use Rattle.sync_exchange.specs.declared.request.SyncRequest.{SyncRequest}
use Rattle.sync_exchange.specs.declared.sync_drop.SyncDrop.{SyncDrop}
use Rattle.sync_exchange.specs.declared.sync_drop.SyncDrop.TheVariants.{NotSync, NotAbove, Nonce, Delta}

pub asks_exactly : (payloads : List PayloadValue) (answer : Result SyncRequest SyncDrop) →
    IsRequestAnswer payloads answer → is_ok answer ≡ is_some (ids_in payloads)
asks_exactly payloads (Ok request) is = sym (ap is_some is.ids)
asks_exactly payloads (Err NotSync) is = sym (ap is_some is)
asks_exactly payloads (Err (NotAbove highest)) is = absurd is
asks_exactly payloads (Err Nonce) is = absurd is
asks_exactly payloads (Err Delta) is = absurd is
