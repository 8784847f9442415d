-- Where a payload is refused.
use Rattle.std.proofs.Common.{◌≡◌, ℕ, ◌+◌, ◌-◌, ◌≤◌, ◌<◌, Bool, true, List, [], length, take, drop, Result, Ok, Err, refl, sym, ap, subst, ◌∙◌, arith, inl, inr}
use Rattle.std.specs.Prelude.{slice_index, nat_le, IsTrue}
use Rattle.std.proofs.lemmas.Bool.{ltb-true, ltb-false, leb-true, and_parts, or_parts}
use Rattle.std.proofs.lemmas.List.{length-drop}
use Rattle.ike_values.specs.Values.{PayloadValue, sa, idi, idr, auth, nonce, notify, delete, tsi, tsr, sk, ke, cert, certreq, vendor, cp, eap, other}
use Rattle.ike_values.specs.Validity.{is_unknown}
use Rattle.ike_grammar.proofs.Steps.{Front, SpellsFront, GoesOn, MayLead, NoSteps}
use Rattle.ike_values.specs.declared.payload_types.TheConstants.{SK}
use Rattle.ike_values.specs.declared.fault.Bad.{Bad}
use Rattle.ike_values.specs.declared.fault.Reason.{Reason}
use Rattle.ike_values.specs.declared.fault.Reason.TheVariants.{Short, Length, Field, Trailing, SkNotLast}
use Rattle.ike_grammar.specs.declared.kind.Kind.{Kind}
use Rattle.ike_grammar.specs.declared.kind.Kind.TheVariants.{Sa, Ke, IdI, IdR, Cert, CertReq, Auth, Nonce, Notify, Delete, Vendor, TsI, TsR, Sk, Cp, Eap, Other}
use Rattle.ike_grammar.specs.OctetRange.{IsOctets}
use Rattle.ike_grammar.specs.Kinds.{payload_kind, is_other}
use Rattle.ike_grammar.specs.Faults.{◌>>=◌, Passes, two_at}
use Rattle.ike_grammar.specs.Bodies.{id_at, auth_at, nonce_at, notify_at, delete_at, sk_at}
use Rattle.ike_grammar.specs.Proposals.{proposals_at}
use Rattle.ike_grammar.specs.Selectors.{traffic_at}
use Rattle.ike_grammar.specs.Chain.{made, body_at, payload_tests, body_of, behind_payload, last_tests, leads_to, payload_at}
use Rattle.ike_grammar.specs.Places.{IsWrong}
use Rattle.ike_grammar.proofs.Binds.{differ}
use Rattle.ike_grammar.proofs.Cells.{IsOctets-drop, IsOctets-take, length-within}
use Rattle.ike_grammar.proofs.KindLaws.{KindIs, kind_is}
use Rattle.ike_grammar.proofs.PayloadLaws.{Stands, goes_to, payload_again}
use Rattle.ike_grammar.proofs.Alike.{Alike, alike_drop, alike_take, alike_two, same_all}
use Rattle.ike_grammar.proofs.Faulty.{placed, Meet, met, WrongIn, in_more, tested, bind_err, no_fault, made_err, err_first, err_then, FaultIn}
use Rattle.ike_grammar.proofs.BodyFaults.{id_fault, auth_fault, nonce_fault, notify_fault, delete_fault, sk_fault}
use Rattle.ike_grammar.proofs.ListFaults.{proposals_fault, traffic_fault}

-- ---- bodies, by the kind of the payload

made_fault : {X : Type 0} (payload : X → PayloadValue) (read : List ℕ → Result X Bad) (end back : ℕ) (body : List ℕ) (b : Bad) → back ≤ 2
    → (read body ≡ Err b → FaultIn read end back body b) → made payload (read body) ≡ Err b → FaultIn (λ bytes. made payload (read bytes)) end 2 body b
made_fault payload read end back body b small fault e =
    let f = fault (made_err (read body) payload b e) in
    record {
      not_before = omega (arith, f.not_before);
      not_behind = f.not_behind;
      wrong = f.wrong;
      stays = λ n others a k. err_first (read others) (λ x. Ok (payload x)) b (f.stays n others a k);
    }

body_fault : (kind : Kind) (end number next : ℕ) (body : List ℕ) (b : Bad) → IsOctets body → 0 < end → length body ≤ end → body_at kind end number next body ≡ Err b → FaultIn (body_at kind end number next) end 2 body b
unfolding body_at
body_fault Sa end number next body b fits some l e = made_fault sa (proposals_at end) end 0 body b (omega arith) (proposals_fault end body b fits l) e
body_fault Ke end number next body b fits some l e = no_fault (ke body) b e
body_fault IdI end number next body b fits some l e = made_fault idi (id_at end) end 2 body b (omega arith) (id_fault end body b some l) e
body_fault IdR end number next body b fits some l e = made_fault idr (id_at end) end 2 body b (omega arith) (id_fault end body b some l) e
body_fault Cert end number next body b fits some l e = no_fault (cert body) b e
body_fault CertReq end number next body b fits some l e = no_fault (certreq body) b e
body_fault Auth end number next body b fits some l e = made_fault auth (auth_at end) end 2 body b (omega arith) (auth_fault end body b some l) e
body_fault Nonce end number next body b fits some l e = made_fault nonce (nonce_at end) end 2 body b (omega arith) (nonce_fault end body b some l) e
body_fault Notify end number next body b fits some l e = made_fault notify (notify_at end) end 2 body b (omega arith) (notify_fault end body b some l) e
body_fault Delete end number next body b fits some l e = made_fault delete (delete_at end) end 2 body b (omega arith) (delete_fault end body b some l) e
body_fault Vendor end number next body b fits some l e = no_fault (vendor body) b e
body_fault TsI end number next body b fits some l e = made_fault tsi (traffic_at end) end 0 body b (omega arith) (traffic_fault end body b fits l) e
body_fault TsR end number next body b fits some l e = made_fault tsr (traffic_at end) end 0 body b (omega arith) (traffic_fault end body b fits l) e
body_fault Sk end number next body b fits some l e = made_fault sk (sk_at end next) end 2 body b (omega arith) (sk_fault end next body b some l) e
body_fault Cp end number next body b fits some l e = no_fault (cp body) b e
body_fault Eap end number next body b fits some l e = no_fault (eap body) b e
body_fault Other end number next body b fits some l e = no_fault (other (record { kind = number; body = body })) b e

-- ---- what comes behind a payload

-- SK with something behind it
record LeadsFault (kind : Kind) (end number : ℕ) (left : List ℕ) (b : Bad) : Type 0 where
  reason_is : b.reason ≡ SkNotLast
  place_is : b.place ≡ end - length left
  number_is : number ≡ SK
  some : 0 < length left
  stays : (next' : ℕ) (left' : List ℕ) (payload' : PayloadValue) → length left' ≡ length left → leads_to kind end next' left' payload' ≡ Err b

behind_sk : (end : ℕ) (left : List ℕ) (b : Bad) → b ≡ record { place = end - length left; reason = SkNotLast } → (b.reason ≡ SkNotLast) × (b.place ≡ end - length left)
behind_sk end left b e = (ap (λ (c : Bad). c.reason) e, ap (λ (c : Bad). c.place) e)

leads_err : (kind : Kind) (end number next : ℕ) (left : List ℕ) (payload : PayloadValue) (b : Bad) → KindIs kind number → leads_to kind end next left payload ≡ Err b → LeadsFault kind end number left b
leads_err Sk end number next left payload b k e =
    let m = met (λ c. (c ≡ record { place = end - length left; reason = SkNotLast }) × (0 < length left)) (last_tests end left) (Ok (payload, 0, left)) b (λ t. (refl, ltb-true 0 (length left) t), λ f. tt) (λ _ f. no_fault (payload, 0, left) b f) e in
    let is = behind_sk end left b m.0 in
    record {
      reason_is = is.0;
      place_is = is.1;
      number_is = k;
      some = m.1;
      stays = λ next' left' payload' len. tested (last_tests end left) (last_tests end left') (Ok (payload, 0, left)) (Ok (payload', 0, left')) b (rw len refl) (λ _ f. no_fault (payload, 0, left) b f) e;
    }
leads_err kind end number next left payload b k e = no_fault (payload, next, left) b e

-- ---- what is wrong in a payload

pub record WrongAt (end number : ℕ) (bytes : List ℕ) (b : Bad) : Type 0 where
  pub offset : ℕ
  pub place_is : b.place + length bytes ≡ end + offset
  pub wrong : IsWrong b.reason number bytes offset

body_wrong : (reason : Reason) (number : ℕ) (bytes : List ℕ) (place end offset : ℕ) → place ≤ end → place + length bytes ≡ end + offset → WrongIn reason place end → IsWrong reason number bytes offset
body_wrong Short number bytes place end offset l e w = omega (arith, l, e)
body_wrong Length number bytes place end offset l e w = omega (arith, w, e)
body_wrong Field number bytes place end offset l e w = omega (arith, w, e)
body_wrong Trailing number bytes place end offset l e w = omega (arith, w, e)
body_wrong reason number bytes place end offset l e w = absurd w

other_unknown : (kind : Kind) (number : ℕ) → KindIs kind number → is_other kind ≡ true → IsTrue (is_unknown number)
other_unknown Other number k e = k
other_unknown kind number k e = absurd cc

payload_wrong : (end number : ℕ) (inner : Bool) (bytes : List ℕ) → 0 < number → length bytes ≤ end → Meet (WrongAt end number bytes) (payload_tests end number inner bytes)
payload_wrong end number inner bytes some l = (
  λ t. record { offset = 0; place_is = omega (arith, l); wrong = omega arith },
  λ f. (let long = ltb-false (length bytes) 4 f in (
    λ t. record { offset = 2; place_is = omega (arith, l); wrong = omega (arith, long) },
    λ g. (
      λ t. (let both = and_parts (is_other (payload_kind number)) (nat_le 128 (slice_index bytes 1)) t in
          record { offset = 0; place_is = omega (arith, l); wrong = (refl, other_unknown (payload_kind number) number (kind_is number some) both.0, leb-true 128 (slice_index bytes 1) both.1, refl, omega (arith, long)) }),
      λ h. (λ t. record { offset = 0; place_is = omega (arith, l); wrong = omega (arith, long) }, λ i. tt),
    ),
  )),
)

-- ---- payloads

pub record PayloadFault (end number : ℕ) (inner : Bool) (bytes : List ℕ) (b : Bad) : Type 0 where
  pub not_before : end ≤ b.place + length bytes
  pub not_behind : b.place ≤ end
  pub stays : (n : ℕ) (others : List ℕ) → Alike n bytes others → b.place + 8 + length bytes ≤ end + n → payload_at end number inner others ≡ Err b
  pub wrong : WrongAt end number bytes b
  pub within_payload : 4 ≤ two_at bytes 2 → two_at bytes 2 ≤ length bytes → b.place + length bytes ≤ end + two_at bytes 2

-- where the body of a payload lies
record Inside (bytes : List ℕ) : Type 0 where
  least : 4 ≤ two_at bytes 2
  len : 4 + length (body_of bytes) ≡ two_at bytes 2
  left : length (behind_payload bytes) + two_at bytes 2 ≡ length bytes

inside : (end number : ℕ) (inner : Bool) (bytes : List ℕ) → Passes (payload_tests end number inner bytes) → Inside bytes
inside end number inner bytes p =
    let t = or_parts _ _ p.1.0 in
    let least : 4 ≤ two_at bytes 2 = ltb-false _ _ t.0 in
    let most : two_at bytes 2 ≤ length bytes = ltb-false _ _ t.1 in
    record { least = least; len = length-within 4 (two_at bytes 2) bytes least most; left = omega (arith, most, length-drop (two_at bytes 2) bytes) }

body_alike : (n : ℕ) (bytes others : List ℕ) → Alike n bytes others → 4 ≤ n → Alike (n - 4) (body_of bytes) (body_of others)
body_alike n bytes others a l =
    let k = two_at bytes 2 in
    subst (λ (m : ℕ). Alike (n - 4) (body_of bytes) (drop 4 (take m others))) (sym (alike_two n 2 bytes others a (omega arith))) (alike_drop 4 n (take k bytes) (take k others) (alike_take k n bytes others a))

behind_same : (n : ℕ) (bytes others : List ℕ) → Alike n bytes others → 4 ≤ n → length (behind_payload others) ≡ length (behind_payload bytes)
behind_same n bytes others a l =
    ap (λ (k : ℕ). length (drop k others)) (alike_two n 2 bytes others a (omega arith)) ∙ (alike_drop (two_at bytes 2) n bytes others a).long

body_same : (kind : Kind) (number end end' next next' : ℕ) (body : List ℕ) → end' ≡ end → next' ≡ next → body_at kind end' number next' body ≡ body_at kind end number next body
body_same kind number end end' next next' body e f = rw (e, f) refl

pub payload_fault : (end number : ℕ) (inner : Bool) (bytes : List ℕ) (b : Bad) → IsOctets bytes → 0 < number → length bytes ≤ end → payload_at end number inner bytes ≡ Err b → PayloadFault end number inner bytes b
unfolding payload_at
payload_fault end number inner bytes b fits some l e =
    let kind = payload_kind number in
    let next = slice_index bytes 0 in
    let left = behind_payload bytes in
    let body = body_of bytes in
    let inside_end = end - length left in
    let low = end - length bytes in
    let tests = payload_tests end number inner bytes in
    let leads = λ (payload : PayloadValue). leads_to kind end next left payload in
    let read = body_at kind inside_end number next body in
    let at_body : Passes tests → read ≡ Err b → FaultIn (body_at kind inside_end number next) inside_end 2 body b =
    λ p f. (let i = inside end number inner bytes p in body_fault kind inside_end number next body b (IsOctets-drop 4 _ (IsOctets-take (two_at bytes 2) bytes fits)) (omega (arith, i.least, i.left, l)) (omega (arith, i.len, i.left, l)) f) in
    let leads_fault : (payload : PayloadValue) → leads payload ≡ Err b → LeadsFault kind end number left b = λ payload f. leads_err kind end number next left payload b (kind_is number some) f in
    let behind : Passes tests → (read >>= leads) ≡ Err b → (low ≤ b.place) × (b.place ≤ inside_end) =
    λ p f. (let i = inside end number inner bytes p in elim (bind_err read leads b f) [
      | inl h ↦ (omega (arith, (at_body p h).not_before, i.len, i.left, l), (at_body p h).not_behind)
      | inr h ↦ (let is = (leads_fault h.0 h.2).place_is in (omega (arith, is, i.left, l), omega (arith, is)))
    ]) in
    let at = placed low end tests (read >>= leads) b
    (λ t. (omega arith, omega arith), λ f. (λ t. (omega arith, omega (arith, ltb-false (length bytes) 4 f)), λ g. (λ t. (omega arith, omega arith), λ h. (λ t. (omega arith, omega arith), λ i. tt))))
    (λ p f. (let w = behind p f in (w.0, omega (arith, w.1)))) e in
    record {
      not_before = omega (arith, at.0);
      not_behind = at.1;
      wrong = met (WrongAt end number bytes) tests (read >>= leads) b (payload_wrong end number inner bytes some l)
          (λ p f. (let i = inside end number inner bytes p in elim (bind_err read leads b f) [
            | inl h ↦
                let g = at_body p h in
                let offset : b.place + length bytes ≡ end + (b.place + length bytes - end) = omega (arith, at.0) in
                record {
                  offset = b.place + length bytes - end;
                  place_is = offset;
                  wrong = body_wrong b.reason number bytes b.place end (b.place + length bytes - end) at.1 offset (in_more b.reason b.place inside_end end (omega arith) g.wrong);
                }
            | inr h ↦
                let g = leads_fault h.0 h.2 in
                record {
                  offset = two_at bytes 2;
                  place_is = omega (arith, g.place_is, i.left, l);
                  wrong = subst (λ (r : Reason). IsWrong r number bytes (two_at bytes 2)) (sym g.reason_is) (g.number_is, refl, omega (arith, g.some, i.left));
                }
          ])) e;
      stays = λ n others a k.
          let eight : 8 ≤ n = omega (arith, at.0, k) in
          let rest = behind_same n bytes others a (omega (arith, eight)) in
          let ends : end - length (behind_payload others) ≡ inside_end = ap (λ (m : ℕ). end - m) rest in
          let next_same : slice_index others 0 ≡ next = a.same 0 (omega (arith, eight)) in
          let alike : Alike (n - 4) body (body_of others) = body_alike n bytes others a (omega (arith, eight)) in
          let read' = body_at kind (end - length (behind_payload others)) number (slice_index others 0) (body_of others) in
          let reads : read' ≡ body_at kind inside_end number next (body_of others) = body_same kind number inside_end _ next _ (body_of others) ends next_same in
          let leads' = λ (payload : PayloadValue). leads_to kind end (slice_index others 0) (behind_payload others) payload in
          tested tests (payload_tests end number inner others) (read >>= leads) (read' >>= leads') b
          (rw (a.long, a.same 1 (omega (arith, eight)), a.same 2 (omega (arith, eight)), a.same 3 (omega (arith, eight))) refl)
          (λ p f. (let i = inside end number inner bytes p in elim (bind_err read leads b f) [
            | inl h ↦
                let g = at_body p h in
                err_first read' leads' b (reads ∙ g.stays (n - 4) (body_of others) alike (omega (arith, k, l, i.least, i.len, i.left, eight)))
            | inr h ↦
                let g = leads_fault h.0 h.2 in
                let same : body_of others ≡ body = same_all (n - 4) body (body_of others) alike (omega (arith, k, l, g.place_is, i.least, i.len, i.left)) in
                err_then read' leads' h.0 b (reads ∙ ap (λ (t : List ℕ). body_at kind inside_end number next t) same ∙ h.1) (g.stays (slice_index others 0) (behind_payload others) h.0 rest)
          ])) e;
      within_payload = λ least most.
          let within = placed low (low + two_at bytes 2) tests (read >>= leads) b
          (λ t. (omega arith, omega arith), λ f. (λ t. (omega arith, omega arith), λ g. (λ t. (omega arith, omega arith), λ h. (λ t. (omega arith, omega arith), λ i. tt))))
          (λ p f. (let w = behind p f in let i = inside end number inner bytes p in (w.0, omega (arith, w.1, i.left, l)))) e in
          omega (arith, within.1, l);
    }

-- ---- where none begins, and where one goes on

stands_alone : (item : PayloadValue) (inner : Bool) (f : Front) → GoesOn item inner [] f (Unit {0}) → Stands item inner f
stands_alone (sk x) inner f g = (g.0, g.2, g.3)
stands_alone item inner f g = tt

pub none_begins : (end number : ℕ) (inner : Bool) (bytes : List ℕ) (b : Bad) → payload_at end number inner bytes ≡ Err b → NoSteps number inner bytes
none_begins end number inner bytes b e item f s g =
    differ (item, goes_to item f, f.rest) b (payload_at end number inner bytes) (payload_again end number inner bytes item f s (stands_alone item inner f g)) e

pub payload_leads : (end number : ℕ) (inner : Bool) (bytes : List ℕ) (item : PayloadValue) (f : Front) → MayLead item → SpellsFront item number bytes f → payload_at end number inner bytes ≡ Ok (item, f.next, f.rest)
payload_leads end number inner bytes (sk x) f leads s = absurd leads
payload_leads end number inner bytes item f leads s = payload_again end number inner bytes item f s tt
