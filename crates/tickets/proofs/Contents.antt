-- A content and its octets.
use Rattle.std.proofs.Common.{◌≡◌, ℕ, ◌+◌, ◌^◌, ◌<◌, ◌≤◌, List, ◌∷◌, ◌++◌, length, get_or, take, drop, refl, sym, ap, ◌∙◌, append_assoc, take-append-drop, drop-drop, drop-cons, arith}
use borrow.Rule.Slice.PartMut.{put_mid}
use Rattle.std.proofs.lemmas.Slice.{take-put_mid}
use Rattle.std.specs.Int.{w64, to_be_bytes, from_be_bytes}
use Rattle.std.proofs.lemmas.Nat.{from_be_bytes-to_be_bytes_8}
use Rattle.ha_base.proofs.Fronts.{front_same, rest_same}
use Rattle.ha_base.specs.declared.key_material.KeySize.{KeySize}
use Rattle.ha_base.specs.declared.key_material.KeySize.TheVariants.{Bits128, Bits256}
use Rattle.tickets.specs.declared.content.Content.{Content}
use Rattle.tickets.specs.Tickets.{IsCarried, content_octets, size_octet, terms_octets}

-- ---- a content that is written part after part

-- what stands before the end of octets that were written at a place
pub front_put : (before ys : List ℕ) (at size end : ℕ) → end ≡ at + length ys → at ≤ length before → take end (put_mid at size before ys) ≡ take at before ++ ys
front_put before ys at size end is within = take-put_mid at size before ys end is within

pub written : (one two three four five six seven eight : List ℕ) (a b c d e f g h : List ℕ) →
    a ≡ one → b ≡ a ++ two → c ≡ b ++ three → d ≡ c ++ four → e ≡ d ++ five → f ≡ e ++ six → g ≡ f ++ seven → h ≡ g ++ eight →
    h ≡ one ++ (two ++ (three ++ (four ++ (five ++ (six ++ (seven ++ eight))))))
written one two three four five six seven eight a b c d e f g h ia ib ic id ie if_ ig ih =
    ih
    ∙ ap (λ ys. ys ++ eight) (ig ∙ ap (λ ys. ys ++ seven) (if_ ∙ ap (λ ys. ys ++ six) (ie ∙ ap (λ ys. ys ++ five) (id ∙ ap (λ ys. ys ++ four) (ic ∙ ap (λ ys. ys ++ three) (ib ∙ ap (λ ys. ys ++ two) ia))))))
    ∙ append_assoc (((((one ++ two) ++ three) ++ four) ++ five) ++ six) seven eight
    ∙ append_assoc ((((one ++ two) ++ three) ++ four) ++ five) six (seven ++ eight)
    ∙ append_assoc (((one ++ two) ++ three) ++ four) five (six ++ (seven ++ eight))
    ∙ append_assoc ((one ++ two) ++ three) four (five ++ (six ++ (seven ++ eight)))
    ∙ append_assoc (one ++ two) three (four ++ (five ++ (six ++ (seven ++ eight))))
    ∙ append_assoc one two (three ++ (four ++ (five ++ (six ++ (seven ++ eight)))))

-- ---- a content that is read part after part

next_part : (plain : List ℕ) (n m : ℕ) → drop n plain ≡ take m (drop n plain) ++ drop (n + m) plain
next_part plain n m = sym (take-append-drop m (drop n plain)) ∙ ap (λ ys. take m (drop n plain) ++ ys) (drop-drop m n plain)

whole : (plain : List ℕ) → 66 ≤ length plain →
    plain ≡ take 8 plain ++ (take 8 (drop 8 plain) ++ (take 32 (drop 16 plain) ++ (get_or plain 48 0 ∷ (take 8 (drop 49 plain) ++ (take 8 (drop 57 plain) ++ (get_or plain 65 0 ∷ drop 66 plain))))))
whole plain long =
    sym (take-append-drop 8 plain)
    ∙ ap (λ ys. take 8 plain ++ ys) (next_part plain 8 8
    ∙ ap (λ ys. take 8 (drop 8 plain) ++ ys) (next_part plain 16 32
    ∙ ap (λ ys. take 32 (drop 16 plain) ++ ys) (drop-cons plain 48 0 (omega arith)
    ∙ ap (λ ys. get_or plain 48 0 ∷ ys) (next_part plain 49 8
    ∙ ap (λ ys. take 8 (drop 49 plain) ++ ys) (next_part plain 57 8
    ∙ ap (λ ys. take 8 (drop 57 plain) ++ ys) (drop-cons plain 65 0 (omega arith)))))))

pub content_read : (plain : List ℕ) (content : Content) → 66 ≤ length plain →
    to_be_bytes w64 content.spii ≡ take 8 plain → to_be_bytes w64 content.spir ≡ take 8 (drop 8 plain) → content.sk_d ≡ take 32 (drop 16 plain) →
    get_or plain 48 0 ≡ size_octet content.size → to_be_bytes w64 content.issued ≡ take 8 (drop 49 plain) → to_be_bytes w64 content.expiry ≡ take 8 (drop 57 plain) →
    content.identity.kind ≡ get_or plain 65 0 → content.identity.octets ≡ drop 66 plain → plain ≡ content_octets content
content_read plain content long spii spir sk_d size issued expiry kind octets =
    whole plain long
    ∙ (λ i. sym spii i ++ (sym spir i ++ (sym sk_d i ++ (size i ∷ (sym issued i ++ (sym expiry i ++ (sym kind i ∷ sym octets i)))))))

-- ---- octets are those of one content

size_same : (size other : KeySize) → size_octet size ≡ size_octet other → size ≡ other
size_same Bits128 Bits128 e = refl
size_same Bits128 Bits256 e = absurd (omega (arith, e))
size_same Bits256 Bits128 e = absurd (omega (arith, e))
size_same Bits256 Bits256 e = refl

number_same : (n m : ℕ) → n < 2 ^ 64 → m < 2 ^ 64 → to_be_bytes w64 n ≡ to_be_bytes w64 m → n ≡ m
number_same n m small less e = sym (from_be_bytes-to_be_bytes_8 n small) ∙ ap (from_be_bytes w64) e ∙ from_be_bytes-to_be_bytes_8 m less

pub content_same : (content other : Content) → IsCarried content → IsCarried other → content_octets content ≡ content_octets other → content ≡ other
content_same content other carried is e =
    let keys : content.sk_d ++ terms_octets content ≡ other.sk_d ++ terms_octets other = ap (drop 16) e in
    let long : length content.sk_d ≡ length other.sk_d = carried.sk_d ∙ sym is.sk_d in
    let sk_d : content.sk_d ≡ other.sk_d = front_same content.sk_d other.sk_d (terms_octets content) (terms_octets other) long keys in
    let behind : terms_octets content ≡ terms_octets other = rest_same content.sk_d other.sk_d (terms_octets content) (terms_octets other) long keys in
    let spii : content.spii ≡ other.spii = number_same content.spii other.spii carried.spii is.spii (ap (take 8) e) in
    let spir : content.spir ≡ other.spir = number_same content.spir other.spir carried.spir is.spir (ap (λ ys. take 8 (drop 8 ys)) e) in
    let size : content.size ≡ other.size = size_same content.size other.size (ap (λ ys. get_or ys 0 0) behind) in
    let issued : content.issued ≡ other.issued = number_same content.issued other.issued carried.issued is.issued (ap (λ ys. take 8 (drop 1 ys)) behind) in
    let expiry : content.expiry ≡ other.expiry = number_same content.expiry other.expiry carried.expiry is.expiry (ap (λ ys. take 8 (drop 9 ys)) behind) in
    let kind : content.identity.kind ≡ other.identity.kind = ap (λ ys. get_or ys 17 0) behind in
    let octets : content.identity.octets ≡ other.identity.octets = ap (drop 18) behind in
    λ i. record {
      spii = spii i;
      spir = spir i;
      sk_d = sk_d i;
      size = size i;
      issued = issued i;
      expiry = expiry i;
      identity = record { kind = kind i; octets = octets i };
    }
