-- The words of the fields of an event's line.
use Rattle.std.specs.Prelude.{ℕ, List, [], ◌∷◌, codes}
use Rattle.std.specs.Fmt.{decimal}
use Rattle.ha_base.specs.declared.key_material.SaKeys.{SaKeys}
use Rattle.ha_base.specs.declared.key_material.ChildKeys.{ChildKeys}
use Rattle.keeper_book.specs.declared.counters.Five.{Five}
use Rattle.line_fields.specs.Octets.{octets_text}
use Rattle.events.specs.declared.event.Party.{Party}
use Rattle.events.specs.declared.event.Party.TheVariants as parties
use Rattle.events.specs.declared.event.Which.{Which}
use Rattle.events.specs.declared.event.Which.TheVariants as whiches
use Rattle.events.specs.declared.turn.Medium.{Medium}
use Rattle.events.specs.declared.turn.Medium.TheVariants as mediums

abbrev pub sa_key_words : SaKeys → List (List ℕ)
sa_key_words keys =
    octets_text keys.sk_d ∷ octets_text keys.sk_ei ∷ octets_text keys.sk_er ∷ octets_text keys.sk_pi
    ∷ octets_text keys.sk_pr ∷ []

abbrev pub child_key_words : ChildKeys → List (List ℕ)
child_key_words keys = octets_text keys.to_cluster ∷ octets_text keys.to_peer ∷ []

abbrev pub five_words : Five → List (List ℕ)
five_words five = decimal five.esp_out ∷ decimal five.esp_in ∷ decimal five.iv ∷ decimal five.ask
    ∷ decimal five.answer ∷ []

abbrev pub party_text : Party → List ℕ
party_text parties.Peer = codes "peer"
party_text (parties.Member number) = decimal number

abbrev pub which_text : Which → List ℕ
which_text (whiches.Number number) = decimal number
which_text whiches.Last = codes "last"

abbrev pub medium_word : Medium → List ℕ
medium_word mediums.Ike = codes "ike"
medium_word mediums.Esp = codes "esp"
