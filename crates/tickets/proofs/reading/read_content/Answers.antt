use Rattle.std.proofs.Common.{◌≡◌, length, take, drop, get_or, sym, ap, subst, ◌∙◌, arith}
use Rattle.std.proofs.lemmas.List.{length-take-le, length-drop, take_rest}
use Rattle.tickets.specs.declared.content.Content.{Content}
use Rattle.tickets.specs.Tickets.{IsIdentityKind}
use Rattle.tickets.proofs.Contents.{content_read}
use Rattle.tickets.proofs.reading.read_content.Goals as goal

pub returns-clause-some : goal.returns-clause-some
returns-clause-some c =
    let plain = c.args.plain.now in
    let identity = c.in_ok-identity.ensures in
    let kind : c.in_ok-identity.identity.kind ≡ get_or plain 65 0 = ap (λ found. found.kind) identity.0 in
    let octets : c.in_ok-identity.identity.octets ≡ drop 66 plain = ap (λ found. found.octets) identity.0 ∙ take_rest plain 66 in
    let sk_d : c.copy_from_slice.new.self ≡ take 32 (drop 16 plain) = c.copy_from_slice.ensures.after in
    let long : length (take 32 (drop 16 plain)) ≡ 32 = length-take-le 32 (drop 16 plain) (omega (arith, c.requires, length-drop 16 plain)) in
    let content : Content = record {
      spii = c.read_u64.result;
      spir = c.read_u64-2.result;
      sk_d = c.copy_from_slice.new.self;
      size = c.in_ok-size.size;
      issued = c.read_u64-3.result;
      expiry = c.read_u64-4.result;
      identity = c.in_ok-identity.identity;
    } in (
      record {
        spii = omega (arith, c.read_u64.type_inv);
        spir = omega (arith, c.read_u64-2.type_inv);
        sk_d = ap length sk_d ∙ long;
        issued = omega (arith, c.read_u64-3.type_inv);
        expiry = omega (arith, c.read_u64-4.type_inv);
        kind = subst IsIdentityKind (sym kind) identity.1;
        identity = omega (arith, ap (λ found. length found.octets) identity.0, identity.2);
      },
      content_read plain content c.requires c.read_u64.ensures.spelled c.read_u64-2.ensures.spelled sk_d c.in_ok-size.ensures
          c.read_u64-3.ensures.spelled c.read_u64-4.ensures.spelled kind octets,
    )
