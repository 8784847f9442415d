-- Payloads that are read are spelled so, and what is spelled so is read.
use Rattle.std.proofs.Common.{◌≡◌, ℕ, ◌+◌, ◌-◌, ◌*◌, ◌/◌, ◌%◌, ◌≤◌, ◌<◌, Bool, false, List, [], ◌∷◌, ◌++◌, length, drop, Result, Ok, refl, sym, ap, subst, ◌∙◌, arith, length-append}
use Rattle.std.specs.Prelude.{slice_index, nat_le, ◌&&◌}
use Rattle.std.proofs.lemmas.Bool.{ltb-false, le-ltb, leb-false, lt-leb, or_parts, or_from, and_left, and_right}
use Rattle.std.proofs.lemmas.List.{take_at, drop_at, nil_from_length}
use Rattle.ike_values.specs.Values.{PayloadValue, OtherValue, sa, ke, idi, idr, cert, certreq, auth, nonce, notify, delete, vendor, tsi, tsr, sk, cp, eap, other}
use Rattle.ike_values.specs.Spelling.{two, type_of}
use Rattle.ike_values.specs.Chains.{MayHave}
use Rattle.ike_grammar.proofs.Steps.{SpellsBody, Front, SpellsFront}
use Rattle.ike_values.specs.declared.fault.Bad.{Bad}
use Rattle.ike_grammar.specs.declared.kind.Kind.{Kind}
use Rattle.ike_grammar.specs.declared.kind.Kind.TheVariants.{Sa, Ke, IdI, IdR, Cert, CertReq, Auth, Nonce, Notify, Delete, Vendor, TsI, TsR, Sk, Cp, Eap, Other}
use Rattle.ike_grammar.specs.OctetRange.{IsOctets}
use Rattle.ike_grammar.specs.Kinds.{payload_kind, is_sk, is_other}
use Rattle.ike_grammar.specs.Faults.{◌>>=◌, two_at}
use Rattle.ike_grammar.specs.Bodies.{id_at, auth_at, nonce_at, notify_at, delete_at, sk_at}
use Rattle.ike_grammar.specs.Proposals.{proposals_at}
use Rattle.ike_grammar.specs.Selectors.{traffic_at}
use Rattle.ike_grammar.specs.Chain.{made, body_at, payload_tests, body_of, behind_payload, last_tests, leads_to, payload_at}
use Rattle.ike_grammar.proofs.Binds.{done, bind_ok, ok_is, unless_ok, unless_passes, and_false}
use Rattle.ike_grammar.proofs.Cells.{IsOctets-drop, IsOctets-take, heads4, same4, high, low, two_again, split_within, length-within}
use Rattle.ike_grammar.proofs.Chains.{leads_left}
use Rattle.ike_grammar.proofs.KindLaws.{KindIs, kind_is, unknown_kind}
use Rattle.ike_grammar.proofs.BodyLaws.{id_found, id_again, auth_found, auth_again, nonce_found, nonce_again, notify_found, notify_again, delete_found, delete_again, sk_found, sk_again}
use Rattle.ike_grammar.proofs.ProposalLaws.{proposals_found, proposals_again}
use Rattle.ike_grammar.proofs.SelectorLaws.{traffic_found, traffic_again}

-- ---- bodies, by the kind of the payload

-- SK tells the type of the first inner payload in the next payload field
abbrev pub NextIs : PayloadValue → ℕ → Type 0
NextIs (sk x) next = x.first ≡ next
NextIs item next = Unit {0}

abbrev FoundBody : ℕ → ℕ → List ℕ → PayloadValue → Type 0
FoundBody number next body x = SpellsBody x body × (type_of x ≡ number) × NextIs x next

made_ok : {X : Type 0} (payload : X → PayloadValue) (r : Result X Bad) (y : PayloadValue) → made payload r ≡ Ok y → (x : X) × (r ≡ Ok x) × (payload x ≡ y)
made_ok payload r y e = let b = bind_ok r (λ x. Ok (payload x)) y e in (b.0, b.1, ok_is (payload b.0) y b.2)

pub body_found : (kind : Kind) (end number next : ℕ) (body : List ℕ) (x : PayloadValue) → IsOctets body → KindIs kind number → body_at kind end number next body ≡ Ok x → SpellsBody x body × (type_of x ≡ number) × NextIs x next
unfolding body_at
body_found Sa end number next body x fits k e = let m = made_ok sa (proposals_at end body) x e in subst (FoundBody number next body) m.2 (proposals_found end body m.0 fits m.1, sym k, tt)
body_found Ke end number next body x fits k e = subst (FoundBody number next body) (ok_is (ke body) x e) (refl, sym k, tt)
body_found IdI end number next body x fits k e = let m = made_ok idi (id_at end body) x e in subst (FoundBody number next body) m.2 (id_found end body m.0 m.1, sym k, tt)
body_found IdR end number next body x fits k e = let m = made_ok idr (id_at end body) x e in subst (FoundBody number next body) m.2 (id_found end body m.0 m.1, sym k, tt)
body_found Cert end number next body x fits k e = subst (FoundBody number next body) (ok_is (cert body) x e) (refl, sym k, tt)
body_found CertReq end number next body x fits k e = subst (FoundBody number next body) (ok_is (certreq body) x e) (refl, sym k, tt)
body_found Auth end number next body x fits k e = let m = made_ok auth (auth_at end body) x e in subst (FoundBody number next body) m.2 (auth_found end body m.0 m.1, sym k, tt)
body_found Nonce end number next body x fits k e = let m = made_ok nonce (nonce_at end body) x e in subst (FoundBody number next body) m.2 (nonce_found end body m.0 m.1, sym k, tt)
body_found Notify end number next body x fits k e = let m = made_ok notify (notify_at end body) x e in subst (FoundBody number next body) m.2 (notify_found end body m.0 fits m.1, sym k, tt)
body_found Delete end number next body x fits k e = let m = made_ok delete (delete_at end body) x e in subst (FoundBody number next body) m.2 (delete_found end body m.0 fits m.1, sym k, tt)
body_found Vendor end number next body x fits k e = subst (FoundBody number next body) (ok_is (vendor body) x e) (refl, sym k, tt)
body_found TsI end number next body x fits k e = let m = made_ok tsi (traffic_at end body) x e in subst (FoundBody number next body) m.2 (traffic_found end body m.0 fits m.1, sym k, tt)
body_found TsR end number next body x fits k e = let m = made_ok tsr (traffic_at end body) x e in subst (FoundBody number next body) m.2 (traffic_found end body m.0 fits m.1, sym k, tt)
body_found Sk end number next body x fits k e = let m = made_ok sk (sk_at end next body) x e in let f = sk_found end next body m.0 fits m.1 in subst (FoundBody number next body) m.2 (f.0, sym k, f.1)
body_found Cp end number next body x fits k e = subst (FoundBody number next body) (ok_is (cp body) x e) (refl, sym k, tt)
body_found Eap end number next body x fits k e = subst (FoundBody number next body) (ok_is (eap body) x e) (refl, sym k, tt)
body_found Other end number next body x fits k e =
    let read : PayloadValue = other (record { kind = number; body = body }) in
    subst (FoundBody number next body) (ok_is read x e) ((refl, k), refl, tt)

pub body_again : (x : PayloadValue) (end next : ℕ) (body : List ℕ) → SpellsBody x body → NextIs x next → body_at (payload_kind (type_of x)) end (type_of x) next body ≡ Ok x
unfolding body_at
body_again (sa x) end next body s n = ap (λ r. made sa r) (proposals_again end body x s.0 s.1)
body_again (ke x) end next body s n = ap (λ (b : List ℕ). done (ke b)) s
body_again (idi x) end next body s n = ap (λ r. made idi r) (id_again end body x s.0 s.1)
body_again (idr x) end next body s n = ap (λ r. made idr r) (id_again end body x s.0 s.1)
body_again (cert x) end next body s n = ap (λ (b : List ℕ). done (cert b)) s
body_again (certreq x) end next body s n = ap (λ (b : List ℕ). done (certreq b)) s
body_again (auth x) end next body s n = ap (λ r. made auth r) (auth_again end body x s.0 s.1)
body_again (nonce x) end next body s n = ap (λ r. made nonce r) (nonce_again end body x s)
body_again (notify x) end next body s n = ap (λ r. made notify r) (notify_again end body x s)
body_again (delete x) end next body s n = ap (λ r. made delete r) (delete_again end body x s)
body_again (vendor x) end next body s n = ap (λ (b : List ℕ). done (vendor b)) s
body_again (tsi x) end next body s n = ap (λ r. made tsi r) (traffic_again end body x s.0 s.1)
body_again (tsr x) end next body s n = ap (λ r. made tsr r) (traffic_again end body x s.0 s.1)
body_again (sk x) end next body s n = ap (λ r. made sk r) (sk_again end next body x s (sym n))
body_again (cp x) end next body s n = ap (λ (b : List ℕ). done (cp b)) s
body_again (eap x) end next body s n = ap (λ (b : List ℕ). done (eap b)) s
body_again (other x) end next body s n =
    ap (λ (kind : Kind). body_at kind end x.kind next body) (unknown_kind x.kind s.1) ∙
    ap (λ (b : List ℕ). let made_of : OtherValue = record { kind = x.kind; body = b } in done (other made_of)) s.0

-- ---- what comes behind a payload

-- nothing behind SK, and else the next payload
abbrev pub Leads : PayloadValue → ℕ → List ℕ → PayloadValue × ℕ × List ℕ → Type 0
Leads (sk x) next left y = (y ≡ (sk x, 0, left)) × (left ≡ [])
Leads item next left y = y ≡ (item, next, left)

leads_found : (x : PayloadValue) (end next : ℕ) (left body : List ℕ) (y : PayloadValue × ℕ × List ℕ) → SpellsBody x body → leads_to (payload_kind (type_of x)) end next left x ≡ Ok y → Leads x next left y
leads_found (sk x) end next left body y s e =
    let u = unless_ok (last_tests end left) (Ok (sk x, 0, left)) y e in
    let le = ltb-false 0 (length left) u.0.0 in
    (sym (ok_is (sk x, 0, left) y u.1), nil_from_length left (omega arith))
leads_found (other x) end next left body y s e =
    sym (ok_is (other x, next, left) y (sym (ap (λ (kind : Kind). leads_to kind end next left (other x)) (unknown_kind x.kind s.1)) ∙ e))
leads_found item end next left body y s e = sym (ok_is (item, next, left) y e)

flags_found : (x : PayloadValue) (number flags : ℕ) (body : List ℕ) → flags < 256 → type_of x ≡ number → (is_other (payload_kind number) && nat_le 128 flags) ≡ false → SpellsBody x body → MayHave x flags
flags_found (other x) number flags body l t e s =
    let kind : payload_kind number ≡ Other = ap payload_kind (sym t) ∙ unknown_kind x.kind s.1 in
    leb-false 128 flags (and_false (is_other (payload_kind number)) (nat_le 128 flags) (ap is_other kind) e)
flags_found item number flags body l t e s = l

pub record FoundPayload (number : ℕ) (inner : Bool) (bytes : List ℕ) (x : PayloadValue × ℕ × List ℕ) : Type 0 where
  pub payload : PayloadValue
  pub front : Front
  pub spelled : SpellsFront payload number bytes front
  pub leads : Leads payload front.next front.rest x
  pub next_is : NextIs payload front.next
  pub stands : (is_sk (payload_kind number) && inner) ≡ false
  pub left_is : x.2 ≡ front.rest
  pub rest_fits : IsOctets front.rest

pub payload_found : (end number : ℕ) (inner : Bool) (bytes : List ℕ) (x : PayloadValue × ℕ × List ℕ) → IsOctets bytes → 0 < number → payload_at end number inner bytes ≡ Ok x → FoundPayload number inner bytes x
unfolding payload_at
payload_found end number inner bytes x fits some e =
    let next = slice_index bytes 0 in
    let left = behind_payload bytes in
    let body = body_of bytes in
    let n = two_at bytes 2 in
    let read = body_at (payload_kind number) (end - length left) number next body in
    let u = unless_ok (payload_tests end number inner bytes) (read >>= λ payload. leads_to (payload_kind number) end next left payload) x e in
    let b = bind_ok read (λ payload. leads_to (payload_kind number) end next left payload) x u.1 in
    let t = or_parts _ _ u.0.1.0 in
    let long : 4 ≤ length bytes = ltb-false _ _ u.0.0 in
    let least : 4 ≤ n = ltb-false _ _ t.0 in
    let most : n ≤ length bytes = ltb-false _ _ t.1 in
    let len : 4 + length body ≡ n = length-within 4 n bytes least most in
    let found = body_found (payload_kind number) (end - length left) number next body b.0 (IsOctets-drop 4 _ (IsOctets-take n bytes fits)) (kind_is number some) b.1 in
    let upper : (4 + length body) / 256 ≡ slice_index bytes 2 = ap (λ (k : ℕ). k / 256) len ∙ high (slice_index bytes 2) (slice_index bytes 3) (fits 3) in
    let lower : (4 + length body) % 256 ≡ slice_index bytes 3 = ap (λ (k : ℕ). k % 256) len ∙ low (slice_index bytes 2) (slice_index bytes 3) (fits 3) in
    record {
      payload = b.0;
      front = record { next = next; flags = slice_index bytes 1; body = body; rest = left };
      spelled = record {
        first_is = sym found.1;
        bytes_are = heads4 bytes long ∙ same4 refl refl (sym upper) (sym lower) (split_within 4 n bytes least);
        length_fits = omega (arith, len, fits 2, fits 3);
        flags_fit = flags_found b.0 number (slice_index bytes 1) body (fits 1) found.1 u.0.1.1.0 found.0;
        body_is = found.0;
      };
      leads = leads_found b.0 end next left body x found.0 (ap (λ (k : ℕ). leads_to (payload_kind k) end next left b.0) found.1 ∙ b.2);
      next_is = found.2;
      stands = u.0.1.1.1.0;
      left_is = leads_left (payload_kind number) end next left b.0 x b.2;
      rest_fits = IsOctets-drop n bytes fits;
    }

-- ---- reading again

-- where SK may stand, and what is then behind it
abbrev pub Stands : PayloadValue → Bool → Front → Type 0
Stands (sk x) inner f = (inner ≡ false) × (f.rest ≡ []) × (f.next ≡ x.first)
Stands item inner f = Unit {0}

-- the type of the next payload in this chain
abbrev pub goes_to : PayloadValue → Front → ℕ
goes_to (sk x) f = 0
goes_to item f = f.next

flags_pass : (x : PayloadValue) (flags : ℕ) → MayHave x flags → (is_other (payload_kind (type_of x)) && nat_le 128 flags) ≡ false
flags_pass (other x) flags l = and_right (is_other (payload_kind x.kind)) (nat_le 128 flags) (lt-leb 128 flags l)
flags_pass item flags l = refl

stands_pass : (x : PayloadValue) (inner : Bool) (f : Front) (body : List ℕ) → SpellsBody x body → Stands x inner f → (is_sk (payload_kind (type_of x)) && inner) ≡ false
stands_pass (sk x) inner f body s l = l.0
stands_pass (other x) inner f body s l = and_left (is_sk (payload_kind x.kind)) inner (ap is_sk (unknown_kind x.kind s.1))
stands_pass item inner f body s l = refl

stands_next : (x : PayloadValue) (inner : Bool) (f : Front) → Stands x inner f → NextIs x f.next
stands_next (sk x) inner f l = sym l.2
stands_next item inner f l = tt

leads_again : (x : PayloadValue) (inner : Bool) (end : ℕ) (f : Front) (body : List ℕ) → SpellsBody x body → Stands x inner f → leads_to (payload_kind (type_of x)) end f.next f.rest x ≡ Ok (x, goes_to x f, f.rest)
leads_again (sk x) inner end f body s l = unless_passes (last_tests end f.rest) (Ok (sk x, 0, f.rest)) (le-ltb 0 (length f.rest) (omega (arith, ap length l.1)), tt)
leads_again (other x) inner end f body s l = ap (λ (kind : Kind). leads_to kind end f.next f.rest (other x)) (unknown_kind x.kind s.1)
leads_again item inner end f body s l = refl

pub payload_again : (end number : ℕ) (inner : Bool) (bytes : List ℕ) (x : PayloadValue) (f : Front) → SpellsFront x number bytes f → Stands x inner f → payload_at end number inner bytes ≡ Ok (x, goes_to x f, f.rest)
unfolding payload_at
payload_again end number inner bytes x f s l =
    let octets : List ℕ = f.next ∷ f.flags ∷ two (4 + length f.body) ++ f.body ++ f.rest in
    let whole : List ℕ = f.next ∷ f.flags ∷ (4 + length f.body) / 256 ∷ (4 + length f.body) % 256 ∷ f.body in
    let n : 256 * ((4 + length f.body) / 256) + (4 + length f.body) % 256 ≡ 4 + length f.body = two_again (4 + length f.body) in
    let whole_len : length whole ≡ 256 * ((4 + length f.body) / 256) + (4 + length f.body) % 256 = omega (arith, n) in
    let kind = payload_kind (type_of x) in
    let body_is : body_of octets ≡ f.body = ap (λ (t : List ℕ). drop 4 t) (take_at whole f.rest _ whole_len) in
    let left_is : behind_payload octets ≡ f.rest = drop_at whole f.rest _ whole_len in
    let inside_end = end - length (behind_payload octets) in
    let read : body_at kind inside_end (type_of x) f.next (body_of octets) ≡ Ok x = ap (λ (b : List ℕ). body_at kind inside_end (type_of x) f.next b) body_is ∙ body_again x inside_end f.next f.body s.body_is (stands_next x inner f l) in
    ap (λ (k : ℕ). payload_at end k inner bytes) s.first_is ∙
    ap (λ (b : List ℕ). payload_at end (type_of x) inner b) s.bytes_are ∙
    unless_passes (payload_tests end (type_of x) inner octets) (body_at kind inside_end (type_of x) f.next (body_of octets) >>= λ payload. leads_to kind end f.next (behind_payload octets) payload)
    (le-ltb (length octets) 4 (omega arith), (or_from _ _ (le-ltb _ _ (omega (arith, n))) (le-ltb (length octets) _ (omega (arith, n, length-append f.body f.rest))), (flags_pass x f.flags s.flags_fit, (stands_pass x inner f f.body s.body_is l, tt)))) ∙
    ap (λ (r : Result PayloadValue Bad). r >>= λ payload. leads_to kind end f.next (behind_payload octets) payload) read ∙
    ap (λ (left : List ℕ). leads_to kind end f.next left x) left_is ∙
    leads_again x inner end f f.body s.body_is l
