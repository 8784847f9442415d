use Rattle.esp_packets.proofs.Plaintexts.{padding_shortest}
use Rattle.esp_packets.proofs.laws.padding_is_shortest.Goals as goal

pub returns : goal.returns
returns c = padding_shortest
