-- What a holding has of IKE messages is what the rules say that is held of them.
use Rattle.std.proofs.Common.{◌≡◌, sym}
use Rattle.horizons.specs.Reaches.{Reach}
use Rattle.ike_sas.specs.Held.{IkeHeld}
use Rattle.turn_rules.specs.Held.{Held}
use Rattle.turn_rules.specs.MemberMessages.{held_ike}
use Rattle.cluster_member.specs.Holdings.{AreMessages}

pub held_ike-is : (held : Held) (ask : Reach) (ike : IkeHeld) → AreMessages held.sa ask ike → held_ike (record held { nexts = record held.nexts { ask = ask.next }; asked = ike.asked; answered = ike.answered; synced = ike.synced }) ≡ ike
held_ike-is held ask ike are i = record ike { keys = sym are.keys i; next = sym are.next i }
