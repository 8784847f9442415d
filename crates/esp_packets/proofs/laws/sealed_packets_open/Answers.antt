use Rattle.esp_packets.proofs.SealedPackets.{accepts}
use Rattle.esp_packets.proofs.laws.sealed_packets_open.Goals as goal

pub returns : goal.returns
returns c = λ key spi number payload next_header octets window answer after size small packet covers fresh.
    accepts c.meaning_is_unique.ensures key (c.sealing_laws.ensures key size) spi number payload next_header octets window after small packet covers fresh answer
