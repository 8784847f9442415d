use Rattle.std.proofs.Common.{◌≡◌, ◌≤◌, [], ◌++◌, length, take, drop, arith, ap, ◌∙◌}
use Rattle.esp_packets.proofs.Seals.{packet_written, sealed_front}
use Rattle.esp_packets.specs.Packet.{header, esp_associated_data, esp_plaintext}
use Rattle.esp_packets.proofs.seal.seal_packet.Goals as goal

pub returns-clause-datagram : goal.returns-clause-datagram
returns-clause-datagram c =
    let first : c.append.new.out.octets ≡ [] ++ c.header_octets.result = rw c.requires.empty at c.append.ensures.octets in
    let front : c.header_octets.result ≡ header c.args.spi c.args.n.value c.args.n.value = rw c.value-number.ensures at c.header_octets.ensures in
    let associated : c.associated.result ≡ esp_associated_data c.args.spi c.args.n.value = rw c.value-number.ensures at c.associated.ensures in
    let within : c.write_plain-end.result ≤ length c.write_plain-end.new.buffer = omega (arith, c.write_plain-end.array_long, c.write_plain-end.ensures.fits) in
    let text : take c.write_plain-end.result (c.seal_in_place.new.buf ++ drop c.write_plain-end.result c.write_plain-end.new.buffer) ≡ c.seal_in_place.new.buf =
    sealed_front c.seal_in_place.new.buf (drop c.write_plain-end.result c.write_plain-end.new.buffer) c.write_plain-end.new.buffer c.write_plain-end.result c.seal_in_place.auto.buf within in
    packet_written c.args.key.now.octets c.args.spi c.args.n.value (esp_plaintext c.args.payload.now c.args.next_header)
    (take c.write_plain-end.result c.write_plain-end.new.buffer) c.associated.result c.header_octets.result c.seal_in_place.new.buf c.seal_in_place.new.tag
    c.append.new.out.octets c.append-2.new.out.octets c.append-3.new.out.octets
    first (c.append-2.ensures.octets ∙ ap (λ ys. c.append.new.out.octets ++ ys) text) c.append-3.ensures.octets
    front associated c.write_plain-end.ensures.plain c.seal_in_place.ensures.ciphertext c.seal_in_place.ensures.tag
