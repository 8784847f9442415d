use Rattle.std.proofs.Common.{◌≡◌, ◌-◌, length, take, drop, arith, ◌∙◌}
use Rattle.std.proofs.lemmas.List.{length-take-le, length-drop, take_rest}
use Rattle.esp_packets.proofs.Packets.{header_is}
use Rattle.esp_packets.proofs.Openings.{opens, refuses}
use Rattle.esp_packets.specs.Packet.{header}
use Rattle.esp_packets.proofs.open.open_text.Goals as goal

front : (c : goal.After-slice_known-2-1) → header c.args.spi c.args.number c.read_u64-iv.result ≡ take 16 c.args.bytes.now
front c = header_is c.args.bytes.now c.args.spi c.args.number c.read_u64-iv.result c.requires.named c.requires.low_half c.read_u64-iv.ensures.spelled

pub returns-clause-opened : goal.returns-clause-opened
returns-clause-opened c =
    let size : length c.open_in_place.new.buf ≡ length c.args.bytes.now - 16 - 16 =
    c.open_in_place.auto.buf ∙ length-take-le (length c.args.bytes.now - 16 - 16) (drop 16 c.args.bytes.now) (omega (arith, length-drop 16 c.args.bytes.now)) in
    opens c.args.key.now.octets (c.sealing_laws.ensures c.args.key.now.octets c.open_in_place.ensures.key_size) c.args.spi c.args.number c.read_u64-iv.result
    c.args.bytes.now c.open_in_place.new.buf c.associated.result c.check_value-tag.result c.requires.long (front c) c.read_u64-iv.ensures.value
    c.associated.ensures (c.check_value-tag.ensures ∙ take_rest c.args.bytes.now (length c.args.bytes.now - 16)) c.open_in_place.result
    c.open_in_place.ensures.opened
    c.open_in_place.ensures.unsealed size

pub returns-clause-refused : goal.returns-clause-refused
returns-clause-refused c =
    refuses c.args.key.now.octets (c.sealing_laws.ensures c.args.key.now.octets c.open_in_place.ensures.key_size) c.args.spi c.args.number c.read_u64-iv.result
    c.args.bytes.now c.open_in_place.new.buf c.associated.result c.check_value-tag.result c.requires.long (front c) c.read_u64-iv.ensures.value
    c.associated.ensures (c.check_value-tag.ensures ∙ take_rest c.args.bytes.now (length c.args.bytes.now - 16)) c.open_in_place.result
    c.open_in_place.ensures.refused
    c.open_in_place.ensures.unsealed
