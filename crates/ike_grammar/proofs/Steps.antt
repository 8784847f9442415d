-- Spellings one item after another, as a reader meets them: what it ignores, and what stands behind.
-- They are the spellings.
use Rattle.std.proofs.Common.{◌≡◌, ℕ, ◌+◌, ◌*◌, ◌<◌, ◌≤◌, ◌^◌, Bool, true, false, IsTrue, List, [], ◌∷◌, ◌++◌, length, refl, sym, ap, subst, ◌∙◌, arith, length-append}
use Rattle.std.proofs.lemmas.List.{append-nil}
use Rattle.std.specs.List.{AllByRecursion}
use Rattle.ike_values.specs.declared.lengths.TheConstants.{LENGTH_END}
use Rattle.ike_values.specs.Values.{TransformValue, ProposalValue, SelectorValue, NotifyValue, DeleteValue, SkValue, PayloadValue, sa, ke, idi, idr, cert, certreq, auth, nonce, notify, delete, vendor, tsi, tsr, sk, cp, eap, other}
use Rattle.ike_values.specs.Spelling.{is_last, first_or, behind_first, attributes_spelling, transform_spelling, IgnoredInTransform, nothing_in_transform, transforms_spelling, proposal_spelling, IgnoredInProposal, nothing_in_proposal, proposals_spelling, selectors_spelling, numbered_spelling, notify_spelling, delete_spelling, sk_spelling, Ignored, nothing_ignored, body_spelling, type_of, leading_type, next_field, payload_spelling, chain_spelling}
use Rattle.ike_values.specs.Writing.{transforms_written, proposals_written, body_written}
use Rattle.ike_values.specs.Validity.{FitsAttribute, FitsTransform, FitsProposal, FitsSelector, is_unknown, FitsBody, MayStand, AreValid}
use Rattle.ike_values.specs.Chains.{MayHave, HaveFlags, SpellsTo, Spells}
use Rattle.ike_grammar.specs.Places.{EndsWith, NoneBegins}

pub record TransformParts : Type 0 where
  pub reserved : ℕ
  pub reserved_behind : ℕ
  pub rest : List ℕ

pub record SpellsTransform (x : TransformValue) (last : Bool) (bytes : List ℕ)
    (p : TransformParts) : Type 0 where
  pub bytes_are : bytes ≡ transform_spelling x last p.reserved p.reserved_behind ++ p.rest
  pub length_fits : 8 + length (attributes_spelling x.attributes) < LENGTH_END
  pub attributes : AllByRecursion FitsAttribute x.attributes

abbrev pub SpellsTransforms : List TransformValue → List ℕ → Type 0
SpellsTransforms [] bytes = bytes ≡ []
SpellsTransforms (x ∷ xs) bytes = (p : TransformParts) × SpellsTransform x (is_last xs) bytes p
    × SpellsTransforms xs p.rest

pub record ProposalParts : Type 0 where
  pub reserved : ℕ
  pub inside : List ℕ
  pub rest : List ℕ

pub record SpellsProposal (x : ProposalValue) (last : Bool) (bytes : List ℕ)
    (p : ProposalParts) : Type 0 where
  pub bytes_are : bytes ≡ proposal_spelling x last p.reserved p.inside ++ p.rest
  pub length_fits : 8 + length (x.spi ++ p.inside) < LENGTH_END
  pub spi_fits : length x.spi < 256
  pub count_fits : length x.transforms < 256
  pub transforms : SpellsTransforms x.transforms p.inside

abbrev pub SpellsProposals : List ProposalValue → List ℕ → Type 0
SpellsProposals [] bytes = bytes ≡ []
SpellsProposals (x ∷ xs) bytes = (p : ProposalParts) × SpellsProposal x (is_last xs) bytes p
    × SpellsProposals xs p.rest

pub record SpellsTraffic (xs : List SelectorValue) (body : List ℕ)
    (reserved : ℕ × ℕ × ℕ) : Type 0 where
  pub bytes_are : body ≡ numbered_spelling (length xs) reserved (selectors_spelling xs)
  pub some : 0 < length xs
  pub count_fits : length xs < 256
  pub selectors : AllByRecursion FitsSelector xs

pub record SpellsNumbered (number : ℕ) (content body : List ℕ) (reserved : ℕ × ℕ × ℕ) : Type 0 where
  pub bytes_are : body ≡ numbered_spelling number reserved content

pub record SpellsNonce (octets body : List ℕ) : Type 0 where
  pub bytes_are : body ≡ octets
  pub long : 16 ≤ length octets
  pub short : length octets ≤ 256

pub record SpellsNotify (x : NotifyValue) (body : List ℕ) : Type 0 where
  pub bytes_are : body ≡ notify_spelling x
  pub spi_fits : length x.spi < 256

pub record SpellsDelete (x : DeleteValue) (body : List ℕ) : Type 0 where
  pub bytes_are : body ≡ delete_spelling x
  pub spis_fit : length x.spis ≡ x.size * x.number

pub record SpellsSk (x : SkValue) (body : List ℕ) : Type 0 where
  pub bytes_are : body ≡ sk_spelling x
  pub iv_fits : x.iv < 2 ^ 64
  pub some : 0 < length x.ciphertext
  pub icv_len : length x.icv ≡ 16

abbrev pub SpellsBody : PayloadValue → List ℕ → Type 0
SpellsBody (sa x) body = (0 < length x) × SpellsProposals x body
SpellsBody (ke x) body = body ≡ x
SpellsBody (idi x) body = (reserved : ℕ × ℕ × ℕ) × SpellsNumbered x.kind x.content body reserved
SpellsBody (idr x) body = (reserved : ℕ × ℕ × ℕ) × SpellsNumbered x.kind x.content body reserved
SpellsBody (cert x) body = body ≡ x
SpellsBody (certreq x) body = body ≡ x
SpellsBody (auth x) body = (reserved : ℕ × ℕ × ℕ) × SpellsNumbered x.method x.content body reserved
SpellsBody (nonce x) body = SpellsNonce x body
SpellsBody (notify x) body = SpellsNotify x body
SpellsBody (delete x) body = SpellsDelete x body
SpellsBody (vendor x) body = body ≡ x
SpellsBody (tsi x) body = (reserved : ℕ × ℕ × ℕ) × SpellsTraffic x body reserved
SpellsBody (tsr x) body = (reserved : ℕ × ℕ × ℕ) × SpellsTraffic x body reserved
SpellsBody (sk x) body = SpellsSk x body
SpellsBody (cp x) body = body ≡ x
SpellsBody (eap x) body = body ≡ x
SpellsBody (other x) body = (body ≡ x.body) × IsTrue (is_unknown x.kind)

pub record Front : Type 0 where
  pub next : ℕ
  pub flags : ℕ
  pub body : List ℕ
  pub rest : List ℕ

pub record SpellsFront (item : PayloadValue) (first : ℕ) (bytes : List ℕ) (f : Front) : Type 0 where
  pub first_is : first ≡ type_of item
  pub bytes_are : bytes ≡ payload_spelling f.next f.flags f.body ++ f.rest
  pub length_fits : 4 + length f.body < LENGTH_END
  pub flags_fit : MayHave item f.flags
  pub body_is : SpellsBody item f.body

abbrev pub GoesOn : PayloadValue → Bool → List PayloadValue → Front → Type 0 → Type 0
GoesOn (sk x) inner items f others = (inner ≡ false) × (items ≡ []) × (f.rest ≡ [])
    × (f.next ≡ x.first)
GoesOn item inner items f others = others

abbrev pub ChainSteps : List PayloadValue → ℕ → Bool → List ℕ → Type 0
ChainSteps [] first inner bytes = (first ≡ 0) × (bytes ≡ [])
ChainSteps (item ∷ items) first inner bytes = (f : Front) × SpellsFront item first bytes f
    × GoesOn item inner items f (ChainSteps items f.next inner f.rest)

-- ---- transforms

transforms_steps : (ignored : List IgnoredInTransform) (xs : List TransformValue) → AllByRecursion FitsTransform xs → SpellsTransforms xs (transforms_spelling ignored xs)
transforms_steps ignored [] fits = refl
transforms_steps ignored (x ∷ xs) fits =
    let own = first_or nothing_in_transform ignored in
    (record { reserved = own.reserved; reserved_behind = own.reserved_behind; rest = transforms_spelling (behind_first ignored) xs }, record { bytes_are = refl; length_fits = fits.0.length_fits; attributes = fits.0.attributes }, transforms_steps (behind_first ignored) xs fits.1)

transforms_long : (ignored : List IgnoredInTransform) (xs : List TransformValue) → length (transforms_spelling ignored xs) ≡ length (transforms_written xs)
transforms_long ignored [] = refl
transforms_long ignored (x ∷ xs) =
    let inside = attributes_spelling x.attributes in
    omega (arith, length-append inside (transforms_spelling (behind_first ignored) xs), length-append inside (transforms_written xs), transforms_long (behind_first ignored) xs)

transforms_spelled : (xs : List TransformValue) (bytes : List ℕ) → SpellsTransforms xs bytes → (ignored : List IgnoredInTransform) × (bytes ≡ transforms_spelling ignored xs) × AllByRecursion FitsTransform xs
transforms_spelled [] bytes s = ([], s, tt)
transforms_spelled (x ∷ xs) bytes s =
    let others = transforms_spelled xs s.0.rest s.2 in
    let own : IgnoredInTransform = record { reserved = s.0.reserved; reserved_behind = s.0.reserved_behind } in
    (own ∷ others.0, s.1.bytes_are ∙ ap (λ (r : List ℕ). transform_spelling x (is_last xs) s.0.reserved s.0.reserved_behind ++ r) others.1, (record { attributes = s.1.attributes; length_fits = s.1.length_fits }, others.2))

-- ---- proposals

proposals_steps : (ignored : List IgnoredInProposal) (xs : List ProposalValue) → AllByRecursion FitsProposal xs → SpellsProposals xs (proposals_spelling ignored xs)
proposals_steps ignored [] fits = refl
proposals_steps ignored (x ∷ xs) fits =
    let own = first_or nothing_in_proposal ignored in
    let inside = transforms_spelling own.transforms x.transforms in (
      record { reserved = own.reserved; inside = inside; rest = proposals_spelling (behind_first ignored) xs },
      record {
        bytes_are = refl;
        length_fits = omega (arith, fits.0.length_fits, length-append x.spi inside, transforms_long own.transforms x.transforms);
        spi_fits = fits.0.spi_fits;
        count_fits = fits.0.count_fits;
        transforms = transforms_steps own.transforms x.transforms fits.0.transforms;
      },
      proposals_steps (behind_first ignored) xs fits.1,
    )

proposals_long : (ignored : List IgnoredInProposal) (xs : List ProposalValue) → length (proposals_spelling ignored xs) ≡ length (proposals_written xs)
proposals_long ignored [] = refl
proposals_long ignored (x ∷ xs) =
    let inside = transforms_spelling (first_or nothing_in_proposal ignored).transforms x.transforms in
    let written = transforms_written x.transforms in
    omega (arith, length-append (x.spi ++ inside) (proposals_spelling (behind_first ignored) xs), length-append (x.spi ++ written) (proposals_written xs), length-append x.spi inside, length-append x.spi written, transforms_long (first_or nothing_in_proposal ignored).transforms x.transforms, proposals_long (behind_first ignored) xs)

proposals_spelled : (xs : List ProposalValue) (bytes : List ℕ) → SpellsProposals xs bytes → (ignored : List IgnoredInProposal) × (bytes ≡ proposals_spelling ignored xs) × AllByRecursion FitsProposal xs
proposals_spelled [] bytes s = ([], s, tt)
proposals_spelled (x ∷ xs) bytes s =
    let others = proposals_spelled xs s.0.rest s.2 in
    let inside = transforms_spelled x.transforms s.0.inside s.1.transforms in
    let own : IgnoredInProposal = record { reserved = s.0.reserved; transforms = inside.0 } in (
      own ∷ others.0,
      s.1.bytes_are ∙ ap (λ (t : List ℕ). proposal_spelling x (is_last xs) s.0.reserved t ++ s.0.rest) inside.1 ∙
          ap (λ (r : List ℕ). proposal_spelling x (is_last xs) s.0.reserved (transforms_spelling inside.0 x.transforms) ++ r) others.1,
      (
        record {
          spi_fits = s.1.spi_fits;
          count_fits = s.1.count_fits;
          transforms = inside.2;
          length_fits = omega (arith, s.1.length_fits, length-append x.spi s.0.inside, ap length inside.1, transforms_long inside.0 x.transforms);
        },
        others.2,
      ),
    )

-- ---- bodies

body_steps : (ignored : Ignored) (item : PayloadValue) → FitsBody item → SpellsBody item (body_spelling ignored item)
body_steps ignored (sa x) fits = (fits.0, proposals_steps ignored.proposals x fits.1)
body_steps ignored (ke x) fits = refl
body_steps ignored (idi x) fits = (ignored.reserved, record { bytes_are = refl })
body_steps ignored (idr x) fits = (ignored.reserved, record { bytes_are = refl })
body_steps ignored (cert x) fits = refl
body_steps ignored (certreq x) fits = refl
body_steps ignored (auth x) fits = (ignored.reserved, record { bytes_are = refl })
body_steps ignored (nonce x) fits = record { bytes_are = refl; long = fits.0; short = fits.1 }
body_steps ignored (notify x) fits = record { bytes_are = refl; spi_fits = fits }
body_steps ignored (delete x) fits = record { bytes_are = refl; spis_fit = fits }
body_steps ignored (vendor x) fits = refl
body_steps ignored (tsi x) fits = (ignored.reserved, record { bytes_are = refl; some = fits.some; count_fits = fits.count_fits; selectors = fits.selectors })
body_steps ignored (tsr x) fits = (ignored.reserved, record { bytes_are = refl; some = fits.some; count_fits = fits.count_fits; selectors = fits.selectors })
body_steps ignored (sk x) fits = record { bytes_are = refl; iv_fits = fits.iv_fits; some = fits.some; icv_len = fits.icv_len }
body_steps ignored (cp x) fits = refl
body_steps ignored (eap x) fits = refl
body_steps ignored (other x) fits = (refl, fits)

body_long : (ignored : Ignored) (item : PayloadValue) → length (body_spelling ignored item) ≡ length (body_written item)
body_long ignored (sa x) = proposals_long ignored.proposals x
body_long ignored item = refl

-- what a reader ignores where it is these flags alone, these and reserved octets, or those of proposals
abbrev only_flags : ℕ → Ignored
only_flags flags = record { flags = flags; reserved = (0, 0, 0); proposals = [] }

abbrev with_reserved : ℕ → ℕ × ℕ × ℕ → Ignored
with_reserved flags reserved = record { flags = flags; reserved = reserved; proposals = [] }

abbrev in_proposals : ℕ → List IgnoredInProposal → Ignored
in_proposals flags proposals = record { flags = flags; reserved = (0, 0, 0); proposals = proposals }

pub record BodySpelled (item : PayloadValue) (flags : ℕ) (body : List ℕ) : Type 0 where
  pub ignored : Ignored
  pub flags_are : ignored.flags ≡ flags
  pub body_is : body ≡ body_spelling ignored item
  pub fits : FitsBody item

body_spelled : (item : PayloadValue) (flags : ℕ) (body : List ℕ) → SpellsBody item body → BodySpelled item flags body
body_spelled (sa x) flags body s = let all = proposals_spelled x body s.1 in record { ignored = in_proposals flags all.0; flags_are = refl; body_is = all.1; fits = (s.0, all.2) }
body_spelled (ke x) flags body s = record { ignored = only_flags flags; flags_are = refl; body_is = s; fits = tt }
body_spelled (idi x) flags body s = record { ignored = with_reserved flags s.0; flags_are = refl; body_is = s.1.bytes_are; fits = tt }
body_spelled (idr x) flags body s = record { ignored = with_reserved flags s.0; flags_are = refl; body_is = s.1.bytes_are; fits = tt }
body_spelled (cert x) flags body s = record { ignored = only_flags flags; flags_are = refl; body_is = s; fits = tt }
body_spelled (certreq x) flags body s = record { ignored = only_flags flags; flags_are = refl; body_is = s; fits = tt }
body_spelled (auth x) flags body s = record { ignored = with_reserved flags s.0; flags_are = refl; body_is = s.1.bytes_are; fits = tt }
body_spelled (nonce x) flags body s = record { ignored = only_flags flags; flags_are = refl; body_is = s.bytes_are; fits = (s.long, s.short) }
body_spelled (notify x) flags body s = record { ignored = only_flags flags; flags_are = refl; body_is = s.bytes_are; fits = s.spi_fits }
body_spelled (delete x) flags body s = record { ignored = only_flags flags; flags_are = refl; body_is = s.bytes_are; fits = s.spis_fit }
body_spelled (vendor x) flags body s = record { ignored = only_flags flags; flags_are = refl; body_is = s; fits = tt }
body_spelled (tsi x) flags body s = record { ignored = with_reserved flags s.0; flags_are = refl; body_is = s.1.bytes_are; fits = record { some = s.1.some; count_fits = s.1.count_fits; selectors = s.1.selectors } }
body_spelled (tsr x) flags body s = record { ignored = with_reserved flags s.0; flags_are = refl; body_is = s.1.bytes_are; fits = record { some = s.1.some; count_fits = s.1.count_fits; selectors = s.1.selectors } }
body_spelled (sk x) flags body s = record { ignored = only_flags flags; flags_are = refl; body_is = s.bytes_are; fits = record { iv_fits = s.iv_fits; some = s.some; icv_len = s.icv_len } }
body_spelled (cp x) flags body s = record { ignored = only_flags flags; flags_are = refl; body_is = s; fits = tt }
body_spelled (eap x) flags body s = record { ignored = only_flags flags; flags_are = refl; body_is = s; fits = tt }
body_spelled (other x) flags body s = record { ignored = only_flags flags; flags_are = refl; body_is = s.0; fits = s.1 }

-- ---- chains

same_payload : (n n' c c' : ℕ) (b b' r r' : List ℕ) → n ≡ n' → c ≡ c' → b ≡ b' → r ≡ r' → payload_spelling n c b ++ r ≡ payload_spelling n' c' b' ++ r'
same_payload n n' c c' b b' r r' e f g h = rw (e, f, g, h) refl

-- a payload in front of others
pub cons_spelled : (behind : ℕ) (item : PayloadValue) (items : List PayloadValue) (first k : ℕ) (inner : Bool) (bytes : List ℕ) (f : Front) → SpellsFront item first bytes f → f.next ≡ next_field behind item items → MayStand item inner items
    → SpellsTo behind items k inner f.rest → SpellsTo behind (item ∷ items) first inner bytes
cons_spelled behind item items first k inner bytes f s next stands others =
    let b = body_spelled item f.flags f.body s.body_is in (
      b.ignored ∷ others.0,
      record {
        first_is = s.first_is;
        bytes_are = s.bytes_are ∙ same_payload f.next (next_field behind item items) f.flags b.ignored.flags f.body (body_spelling b.ignored item) f.rest (chain_spelling behind others.0 items) next (sym b.flags_are) b.body_is others.1.bytes_are;
        flags_fit = (subst (MayHave item) (sym b.flags_are) s.flags_fit, others.1.flags_fit);
        valid = (record { body = b.fits; length_fits = omega (arith, s.length_fits, ap length b.body_is, body_long b.ignored item) }, stands, others.1.valid);
      },
    )

pub nothing_spelled : (first : ℕ) (inner : Bool) → SpellsTo first [] first inner []
nothing_spelled first inner = ([], record { first_is = refl; bytes_are = refl; flags_fit = tt; valid = tt })

pub steps_spell : (items : List PayloadValue) (first : ℕ) (inner : Bool) (bytes : List ℕ) → ChainSteps items first inner bytes → Spells items first inner bytes
steps_spell [] first inner bytes s = ([], record { first_is = s.0; bytes_are = s.1; flags_fit = tt; valid = tt })
steps_spell (sk x ∷ items) first inner bytes s =
    let none : SpellsTo 0 items 0 inner s.0.rest = subst (λ (ys : List PayloadValue). SpellsTo 0 ys 0 inner s.0.rest) (sym s.2.1) (subst (SpellsTo 0 [] 0 inner) (sym s.2.2) (nothing_spelled 0 inner)) in
    cons_spelled 0 (sk x) items first 0 inner bytes s.0 s.1 s.2.3 (s.2.0, s.2.1) none
steps_spell (item ∷ items) first inner bytes s =
    let others = steps_spell items s.0.next inner s.0.rest s.2 in
    cons_spelled 0 item items first s.0.next inner bytes s.0 s.1 others.1.first_is tt others

goes_steps : (own : Ignored) (item : PayloadValue) (inner : Bool) (more : List Ignored) (items : List PayloadValue) → MayStand item inner items → ChainSteps items (leading_type 0 items) inner (chain_spelling 0 more items)
    → GoesOn item inner items (record { next = next_field 0 item items; flags = own.flags; body = body_spelling own item; rest = chain_spelling 0 more items }) (ChainSteps items (next_field 0 item items) inner (chain_spelling 0 more items))
goes_steps own (sk x) inner more items stands others = (stands.0, stands.1, ap (chain_spelling 0 more) stands.1, refl)
goes_steps own item inner more items stands others = others

chain_steps : (ignored : List Ignored) (items : List PayloadValue) (inner : Bool) → HaveFlags ignored items → AreValid inner items → ChainSteps items (leading_type 0 items) inner (chain_spelling 0 ignored items)
chain_steps ignored [] inner flags valid = (refl, refl)
chain_steps ignored (item ∷ items) inner flags valid =
    let own = first_or nothing_ignored ignored in
    let more = behind_first ignored in (
      record { next = next_field 0 item items; flags = own.flags; body = body_spelling own item; rest = chain_spelling 0 more items },
      record { first_is = refl; bytes_are = refl; length_fits = omega (arith, valid.0.length_fits, body_long own item); flags_fit = flags.0; body_is = body_steps own item valid.0.body },
      goes_steps own item inner more items valid.1 (chain_steps more items inner flags.1 valid.2),
    )

pub spelled_steps : (items : List PayloadValue) (first : ℕ) (inner : Bool) (bytes : List ℕ) → Spells items first inner bytes → ChainSteps items first inner bytes
spelled_steps items first inner bytes s =
    let made = chain_steps s.0 items inner s.1.flags_fit s.1.valid in
    let leading : ChainSteps items (leading_type 0 items) inner bytes = subst (ChainSteps items (leading_type 0 items) inner) (sym s.1.bytes_are) made in
    subst (λ (k : ℕ). ChainSteps items k inner bytes) (sym s.1.first_is) leading

-- ---- what stands before a fault, and what does not begin there

-- behind SK stands no other payload
abbrev pub MayLead : PayloadValue → Type 0
MayLead (sk x) = ⊥
MayLead item = Unit {0}

pub lead_next : (item : PayloadValue) (behind k : ℕ) (items : List PayloadValue) → MayLead item → k ≡ leading_type behind items → k ≡ next_field behind item items
lead_next (sk x) behind k items leads e = absurd leads
lead_next item behind k items leads e = e

pub lead_stands : (item : PayloadValue) (items : List PayloadValue) → MayLead item → MayStand item true items
lead_stands (sk x) items leads = absurd leads
lead_stands item items leads = tt

abbrev pub NoSteps : ℕ → Bool → List ℕ → Type 0
NoSteps number inner bytes = (item : PayloadValue) (f : Front) → SpellsFront item number bytes f → GoesOn item inner [] f (Unit {0}) → ⊥

alone_goes : (item : PayloadValue) (inner : Bool) (behind : ℕ) (f : Front) → MayStand item inner [] → EndsWith item f.rest → f.next ≡ next_field behind item [] → GoesOn item inner [] f (Unit {0})
alone_goes (sk x) inner behind f stands ends next = (stands.0, refl, ends, next)
alone_goes item inner behind f stands ends next = tt

pub none_spelled : (number : ℕ) (inner : Bool) (bytes : List ℕ) → NoSteps number inner bytes → NoneBegins number inner bytes
none_spelled number inner bytes none = λ item behind front rest parts s ends.
    let own = first_or nothing_ignored s.0 in
    let f : Front = record { next = next_field behind item []; flags = own.flags; body = body_spelling own item; rest = rest } in
    let whole : front ≡ payload_spelling (next_field behind item []) own.flags (body_spelling own item) = s.1.bytes_are ∙ append-nil (payload_spelling (next_field behind item []) own.flags (body_spelling own item)) in
    none item f
    (record {
      first_is = s.1.first_is;
      bytes_are = parts ∙ ap (λ (t : List ℕ). t ++ rest) whole;
      length_fits = omega (arith, s.1.valid.0.length_fits, body_long own item);
      flags_fit = s.1.flags_fit.0;
      body_is = body_steps own item s.1.valid.0.body;
    }) (alone_goes item inner behind f s.1.valid.1 ends refl)
