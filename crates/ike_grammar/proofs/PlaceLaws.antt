-- What the place of a refusal means.
use Rattle.std.proofs.Common.{◌≡◌, ℕ, zero, suc, ◌+◌, ◌-◌, ◌≤◌, ◌<◌, Bool, true, List, [], ◌∷◌, ◌++◌, length, Result, Ok, Err, refl, sym, ap, subst, ◌∙◌, append_assoc, arith, inl, inr, length-append}
use Rattle.std.proofs.lemmas.Bool.{ltb-true}
use Rattle.ike_values.specs.Values.{PayloadValue, sk}
use Rattle.ike_values.specs.Spelling.{two}
use Rattle.ike_grammar.proofs.Steps.{Front, SpellsFront, MayLead, lead_next, lead_stands, NoSteps, none_spelled, nothing_spelled, cons_spelled}
use Rattle.ike_values.specs.declared.fault.Bad.{Bad}
use Rattle.ike_values.specs.declared.fault.Reason.{Reason}
use Rattle.ike_grammar.specs.OctetRange.{IsOctets}
use Rattle.ike_grammar.specs.Faults.{◌>>=◌, unless}
use Rattle.ike_grammar.specs.Chain.{payload_at, end_tests, chain_by, Refused}
use Rattle.ike_grammar.specs.Places.{IsWrong, IsFirstFault, fixed_len, BeginAlike}
use Rattle.ike_grammar.proofs.Chains.{payload_shortens}
use Rattle.ike_grammar.proofs.ChainLaws.{some_first}
use Rattle.ike_grammar.proofs.PayloadLaws.{Leads, payload_found}
use Rattle.ike_grammar.proofs.Alike.{Alike, begin_alike, alike_behind}
use Rattle.ike_grammar.proofs.Faulty.{placed, met, tested, bind_err, no_fault, made_err, err_first, err_then}
use Rattle.ike_grammar.proofs.PayloadFaults.{payload_fault, none_begins, payload_leads}

-- The fault of a chain that ends at the place end, counted from its first octet.
pub record ChainFault (n end : ℕ) (inner : Bool) (number : ℕ) (bytes : List ℕ) (b : Bad) : Type 0 where
  pub place : ℕ
  pub place_is : b.place + length bytes ≡ end + place
  pub found : IsFirstFault number inner bytes place b.reason
  pub stays : (k : ℕ) (others : List ℕ) → Alike k bytes others → b.place + 8 + length bytes ≤ end + k → chain_by n end inner number others ≡ Err b

no_type : (inner : Bool) (bytes : List ℕ) → NoSteps 0 inner bytes
no_type inner bytes item f s g = absurd (omega (arith, s.first_is, some_first item f.body s.body_is))

-- where the chain is to end
abbrev at_end : ℕ → List ℕ → Result (List PayloadValue) Bad
at_end end bytes = unless (end_tests end bytes) (Ok [])

some_at_end : (end : ℕ) (bytes : List ℕ) (b : Bad) → at_end end bytes ≡ Err b → 0 < length bytes
some_at_end end [] b e = no_fault [] b e
some_at_end end (c ∷ bytes) b e = omega arith

end_fault : (n end : ℕ) (inner : Bool) (bytes : List ℕ) (b : Bad) → length bytes ≤ end → at_end end bytes ≡ Err b → ChainFault (suc n) end inner 0 bytes b
unfolding chain_by
end_fault n end inner bytes b l e =
    let at = placed (end - length bytes) (end - length bytes) (end_tests end bytes) (Ok []) b (λ t. (omega arith, omega arith), λ f. tt) (λ _ f. no_fault [] b f) e in
    record {
      place = 0;
      place_is = omega (arith, at.0, at.1, l);
      found = record {
        items = [];
        number = 0;
        front = [];
        left = bytes;
        parts = refl;
        before = nothing_spelled 0 true;
        offset = 0;
        place_is = refl;
        none = none_spelled 0 inner bytes (no_type inner bytes);
        some_left = λ _. some_at_end end bytes b e;
        within_payload = λ least most. omega arith;
        wrong = met (λ c. IsWrong c.reason 0 bytes 0) (end_tests end bytes) (Ok []) b (λ t. ltb-true 0 (length bytes) t, λ f. tt) (λ _ f. no_fault [] b f) e;
      };
      stays = λ k others a m. tested (end_tests end bytes) (end_tests end others) (Ok []) (Ok []) b (rw a.long refl) (λ _ f. no_fault [] b f) e;
    }

none_behind : (n end : ℕ) (inner : Bool) (b : Bad) → 0 < n → chain_by n end inner 0 [] ≡ Err b → ⊥
unfolding chain_by
none_behind zero end inner b some e = absurd (omega arith)
none_behind (suc n) end inner b some e = no_fault [] b e

-- what is before a fault leads to it
leads_on : (item : PayloadValue) (n end : ℕ) (inner : Bool) (next : ℕ) (left : List ℕ) (y : PayloadValue × ℕ × List ℕ) (b : Bad) → 0 < n → Leads item next left y → chain_by n end inner y.1 y.2 ≡ Err b
    → MayLead item × (y ≡ (item, next, left))
leads_on (sk x) n end inner next left y b some l e =
    absurd (none_behind n end inner b some (subst (λ (r : List ℕ). chain_by n end inner 0 r ≡ Err b) l.1 (subst (λ (z : PayloadValue × ℕ × List ℕ). chain_by n end inner z.1 z.2 ≡ Err b) l.0 e)))
leads_on item n end inner next left y b some l e = (tt, l)

first_payload : (n end number : ℕ) (inner : Bool) (bytes : List ℕ) (b : Bad) → IsOctets bytes → length bytes ≤ end → payload_at end (suc number) inner bytes ≡ Err b → ChainFault (suc n) end inner (suc number) bytes b
unfolding chain_by
first_payload n end number inner bytes b fits l e =
    let f = payload_fault end (suc number) inner bytes b fits (omega arith) l e in
    record {
      place = f.wrong.offset;
      place_is = f.wrong.place_is;
      found = record {
        items = [];
        number = suc number;
        front = [];
        left = bytes;
        parts = refl;
        before = nothing_spelled (suc number) true;
        none = none_spelled (suc number) inner bytes (none_begins end (suc number) inner bytes b e);
        some_left = λ none. absurd (omega arith);
        offset = f.wrong.offset;
        place_is = omega arith;
        within_payload = λ least most. omega (arith, f.within_payload least most, f.wrong.place_is);
        wrong = f.wrong.wrong;
      };
      stays = λ k others a m. err_first (payload_at end (suc number) inner others) (λ x. chain_by n end inner x.1 x.2 >>= λ ys. Ok (x.0 ∷ ys)) b (f.stays k others a m);
    }

-- a fault behind a payload
behind_payload_fault : (n end number : ℕ) (inner : Bool) (bytes : List ℕ) (b : Bad) (item : PayloadValue) (f : Front) → length bytes ≤ end → MayLead item → SpellsFront item (suc number) bytes f
    → ChainFault n end inner f.next f.rest b → ChainFault (suc n) end inner (suc number) bytes b
unfolding chain_by
behind_payload_fault n end number inner bytes b item f l leads s c =
    let whole : List ℕ = f.next ∷ f.flags ∷ two (4 + length f.body) ++ f.body in
    let i = c.found in
    let len : length bytes ≡ length whole + length f.rest = ap length s.bytes_are ∙ length-append whole f.rest in
    let behind_front : length (whole ++ i.front) ≡ length whole + length i.front = length-append whole i.front in
    record {
      place = length whole + c.place;
      place_is = omega (arith, c.place_is, len);
      found = record {
        items = item ∷ i.items;
        number = i.number;
        front = whole ++ i.front;
        left = i.left;
        parts = s.bytes_are ∙ ap (λ (r : List ℕ). whole ++ r) i.parts ∙ sym (append_assoc whole i.front i.left);
        before = cons_spelled i.number item i.items (suc number) f.next true (whole ++ i.front) (record { next = f.next; flags = f.flags; body = f.body; rest = i.front })
            (record { first_is = s.first_is; bytes_are = refl; length_fits = s.length_fits; flags_fit = s.flags_fit; body_is = s.body_is }) (lead_next item i.number f.next i.items leads i.before.1.first_is) (lead_stands item i.items leads) i.before;
        none = i.none;
        some_left = i.some_left;
        offset = i.offset;
        place_is = omega (arith, i.place_is, behind_front);
        within_payload = i.within_payload;
        wrong = i.wrong;
      };
      stays = λ k others a m.
          let o = alike_behind k whole f.rest bytes others s.bytes_are a (omega (arith, c.place_is, len, m)) in
          let reads : payload_at end (suc number) inner others ≡ Ok (item, f.next, o.left) =
          payload_leads end (suc number) inner others item (record { next = f.next; flags = f.flags; body = f.body; rest = o.left }) leads
          (record { first_is = s.first_is; bytes_are = o.parts; length_fits = s.length_fits; flags_fit = s.flags_fit; body_is = s.body_is }) in
          let more : chain_by n end inner f.next o.left ≡ Err b = c.stays (k - length whole) o.left o.alike (omega (arith, c.place_is, len, m)) in
          err_then (payload_at end (suc number) inner others) (λ x. chain_by n end inner x.1 x.2 >>= λ ys. Ok (x.0 ∷ ys)) (item, f.next, o.left) b reads
          (err_first (chain_by n end inner f.next o.left) (λ ys. Ok (item ∷ ys)) b more);
    }

pub chain_fault : (n end : ℕ) (inner : Bool) (number : ℕ) (bytes : List ℕ) (b : Bad) → IsOctets bytes → length bytes < n → length bytes ≤ end → chain_by n end inner number bytes ≡ Err b → ChainFault n end inner number bytes b
unfolding chain_by
chain_fault zero end inner number bytes b fits s l e = absurd (omega arith)
chain_fault (suc n) end inner zero bytes b fits s l e = end_fault n end inner bytes b l e
chain_fault (suc n) end inner (suc number) bytes b fits s l e =
    elim (bind_err (payload_at end (suc number) inner bytes) (λ x. chain_by n end inner x.1 x.2 >>= λ ys. Ok (x.0 ∷ ys)) b e) [
      | inl h ↦ first_payload n end number inner bytes b fits l h
      | inr h ↦
          let x = h.0 in
          let inner_err : chain_by n end inner x.1 x.2 ≡ Err b = made_err (chain_by n end inner x.1 x.2) (λ ys. x.0 ∷ ys) b h.2 in
          let found = payload_found end (suc number) inner bytes x fits (omega arith) h.1 in
          let shorter = payload_shortens end (suc number) inner bytes x h.1 in
          let f = found.front in
          let on = leads_on found.payload n end inner f.next f.rest x b (omega (arith, s, shorter)) found.leads inner_err in
          let len : length f.rest ≡ length x.2 = ap length (sym found.left_is) in
          let err : chain_by n end inner f.next f.rest ≡ Err b = subst (λ (z : PayloadValue × ℕ × List ℕ). chain_by n end inner z.1 z.2 ≡ Err b) on.1 inner_err in
          behind_payload_fault n end number inner bytes b found.payload f l on.0 found.spelled
          (chain_fault n end inner f.next f.rest b found.rest_fits (omega (arith, s, shorter, len)) (omega (arith, l, shorter, len)) err)
    ]

refused_fault : (first : ℕ) (inner : Bool) (bytes : List ℕ) (place : ℕ) (reason : Reason) → IsOctets bytes → Refused first inner bytes place reason
    → ChainFault (length bytes + 1) (length bytes) inner first bytes (record { place = place; reason = reason })
refused_fault first inner bytes place reason fits r = chain_fault (length bytes + 1) (length bytes) inner first bytes _ fits (omega arith) (omega arith) r

pub first_is_found : (first : ℕ) (inner : Bool) (bytes : List ℕ) (place : ℕ) (reason : Reason) → IsOctets bytes → Refused first inner bytes place reason → IsFirstFault first inner bytes place reason
first_is_found first inner bytes place reason fits r =
    let c = refused_fault first inner bytes place reason fits r in
    subst (λ (p : ℕ). IsFirstFault first inner bytes p reason) (omega (arith, c.place_is)) c.found

pub behind_is_same : (first : ℕ) (inner : Bool) (bytes others : List ℕ) (place : ℕ) (reason : Reason) → IsOctets bytes → Refused first inner bytes place reason → BeginAlike (place + fixed_len) bytes others → Refused first inner others place reason
behind_is_same first inner bytes others place reason fits r a =
    let c = refused_fault first inner bytes place reason fits r in
    ap (λ (n : ℕ). chain_by (n + 1) n inner first others) a.long ∙ c.stays (place + 8) others (begin_alike (place + 8) bytes others a) (omega arith)
