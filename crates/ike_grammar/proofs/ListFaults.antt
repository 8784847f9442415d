-- Where attributes, transforms, proposals and selectors are refused.
use Rattle.std.proofs.Common.{◌≡◌, ℕ, ◌+◌, ◌-◌, ◌≤◌, Bool, true, false, cond, List, [], ◌∷◌, ◌++◌, length, take, drop, Result, Ok, Err, refl, sym, ap, subst, ◌∙◌, arith, inl, inr}
use Rattle.std.specs.Prelude.{slice_index, ◌==◌, nat_lt}
use Rattle.std.proofs.lemmas.Bool.{ltb-true, ltb-false}
use Rattle.std.proofs.lemmas.List.{length-drop}
use Rattle.ike_values.specs.Values.{TransformValue, SelectorValue}
use Rattle.ike_values.specs.Spelling.{two, last_mark, attribute_spelling, attributes_spelling, selector_spelling}
use Rattle.ike_values.specs.declared.fault.Bad.{Bad}
use Rattle.ike_values.specs.declared.fault.Reason.TheVariants.{Length}
use Rattle.ike_grammar.specs.OctetRange.{IsOctets}
use Rattle.ike_grammar.specs.Faults.{◌>>=◌, refuse, unless, Passes, two_at, many, so_many}
use Rattle.ike_grammar.specs.Proposals.{fixed_read, free_tests, free_read, attribute_tests, formed_at, attribute_at, item_tests, within, behind_item, transform_read, transform_at, transforms_at, proposal_tests, left_tests, proposal_read, inside_at, proposal_made, proposal_at, proposals_tests, proposals_at}
use Rattle.ike_grammar.specs.Selectors.{selector_tests, selector_read, selector_at, traffic_tests, traffic_made, traffic_at}
use Rattle.ike_grammar.proofs.Cells.{IsOctets-drop, IsOctets-take, length-within}
use Rattle.ike_grammar.proofs.Shorter.{item_length, transforms_count, selectors_count}
use Rattle.ike_grammar.proofs.AttributeLaws.{attribute_takes, attribute_again, when_true}
use Rattle.ike_grammar.proofs.TransformLaws.{transform_found, transform_again}
use Rattle.ike_grammar.proofs.ProposalLaws.{proposal_found, proposal_again}
use Rattle.ike_grammar.proofs.SelectorLaws.{selector_takes, selector_again}
use Rattle.ike_grammar.proofs.Alike.{Alike, alike_less, alike_drop, alike_take, alike_two}
use Rattle.ike_grammar.proofs.Faulty.{Within, placed, Meet, met, IsIn, in_more, tested, bind_err, no_fault, made_err, err_first, err_then, FaultIn, Takes, Steps, goes_on, front_len, many_fault, all_fault, all_take}

-- ---- attributes

chosen_err : {A : Type 0} (test : Bool) (read : Result A Bad) (x : A) (b : Bad) → cond test read (Ok x) ≡ Err b → (test ≡ true) × (read ≡ Err b)
chosen_err true read x b e = (refl, e)
chosen_err false read x b e = no_fault x b e

free_same : (end len len' left left' size size' : ℕ) → len ≡ len' → left ≡ left' → size ≡ size' → refuse (nat_lt left size) (end - len + 2) Length ∷ [] ≡ refuse (nat_lt left' size') (end - len' + 2) Length ∷ []
free_same end len len' left left' size size' e f g = rw (e, f, g) refl

formed_err : (end : ℕ) (bytes : List ℕ) (b : Bad) → formed_at end bytes ≡ Err b → (nat_lt (two_at bytes 0) 32768 ≡ true) × (unless (free_tests end bytes) (Ok (free_read bytes)) ≡ Err b)
formed_err end bytes b e = chosen_err (nat_lt (two_at bytes 0) 32768) (unless (free_tests end bytes) (Ok (free_read bytes))) (fixed_read bytes) b e

attribute_fault : (end : ℕ) (bytes : List ℕ) (b : Bad) → IsOctets bytes → length bytes ≤ end → attribute_at end bytes ≡ Err b → FaultIn (attribute_at end) end 0 bytes b
unfolding attribute_at
attribute_fault end bytes b fits l e =
    let low = end - length bytes in
    let free : (p : Passes (attribute_tests end bytes)) → formed_at end bytes ≡ Err b → (low ≤ b.place) × (b.place ≤ end) =
    λ p f. placed low end (free_tests end bytes) (Ok (free_read bytes)) b (λ t. (omega arith, omega (arith, ltb-false (length bytes) 4 p.0)), λ g. tt) (λ _ g. no_fault (free_read bytes) b g) (formed_err end bytes b f).1 in
    let at = placed low end (attribute_tests end bytes) (formed_at end bytes) b (λ t. (omega arith, omega arith), λ f. tt) free e in
    record {
      not_before = omega (arith, at.0);
      not_behind = at.1;
      wrong = met (IsIn end) (attribute_tests end bytes) (formed_at end bytes) b (λ t. tt, λ f. tt)
          (λ p f. met (IsIn end) (free_tests end bytes) (Ok (free_read bytes)) b (λ t. omega (arith, l, ltb-false (length bytes) 4 p.0), λ g. tt) (λ _ g. no_fault (free_read bytes) b g) (formed_err end bytes b f).1) e;
      stays = λ n others a k.
          let four : Alike 4 bytes others = alike_less n 4 bytes others a (omega (arith, at.0, k)) in
          let tests : attribute_tests end others ≡ attribute_tests end bytes = rw four.long refl in
          let size : two_at others 2 ≡ two_at bytes 2 = alike_two 4 2 bytes others four (omega arith) in
          let kind : two_at others 0 ≡ two_at bytes 0 = alike_two 4 0 bytes others four (omega arith) in
          let behind : length (drop 4 others) ≡ length (drop 4 bytes) = (alike_drop 4 4 bytes others four).long in
          let frees : free_tests end others ≡ free_tests end bytes = free_same end (length others) (length bytes) _ _ _ _ four.long behind size in
          tested (attribute_tests end bytes) (attribute_tests end others) (formed_at end bytes) (formed_at end others) b tests
          (λ p f.
          let m = formed_err end bytes b f in
          let small : nat_lt (two_at others 0) 32768 ≡ true = ap (λ (i : ℕ). nat_lt i 32768) kind ∙ m.0 in
          when_true (nat_lt (two_at others 0) 32768) (unless (free_tests end others) (Ok (free_read others))) (Ok (fixed_read others)) small ∙
          tested (free_tests end bytes) (free_tests end others) (Ok (free_read bytes)) (Ok (free_read others)) b frees (λ _ g. no_fault (free_read bytes) b g) m.1) e;
    }

pub attribute_step : (end : ℕ) → Steps (attribute_at end) end
attribute_step end =
    record {
      fault = attribute_fault end;
      takes = λ bytes x fits e.
          let t = attribute_takes end bytes x fits e in
          record { front = attribute_spelling x.0; parts = t.parts; again = λ rest l. attribute_again end x.0 rest t.fits; rest_fits = t.rest_fits };
    }

-- ---- what transforms and proposals begin with

item_places : (end more least : ℕ) (last : Bool) (bytes : List ℕ) → length bytes ≤ end → Within (end - length bytes) end (item_tests end more least last bytes)
item_places end more least last bytes l =
    (λ t. (omega arith, omega arith), λ f. (λ t. (omega arith, omega arith), λ g. (λ t. (omega arith, omega (arith, ltb-false (length bytes) 8 f)), λ h. (λ t. (omega arith, omega arith), λ i. tt))))

item_meets : (end more least : ℕ) (last : Bool) (bytes : List ℕ) → length bytes ≤ end → Meet (IsIn end) (item_tests end more least last bytes)
item_meets end more least last bytes l =
    (λ t. tt, λ f. (let long = ltb-false (length bytes) 8 f in (λ t. omega (arith, l, long), λ g. (λ t. omega (arith, l, long), λ h. (λ t. omega (arith, l, long), λ i. tt)))))

item_same : (end more least least' : ℕ) (last last' : Bool) (bytes others : List ℕ) → Alike 8 bytes others → least' ≡ least → last' ≡ last → item_tests end more least' last' others ≡ item_tests end more least last bytes
item_same end more least least' last last' bytes others a e f = rw (e, f, a.long, a.same 0 (omega arith), a.same 2 (omega arith), a.same 3 (omega arith)) refl

-- where the octets inside an item lie
pub record Inside (end : ℕ) (bytes : List ℕ) : Type 0 where
  pub long : 8 ≤ length bytes
  pub len : 8 + length (within bytes) ≡ two_at bytes 2
  pub left : length (behind_item bytes) + two_at bytes 2 ≡ length bytes

inside_item : (end more least : ℕ) (last : Bool) (bytes : List ℕ) → 8 ≤ least → Passes (item_tests end more least last bytes) → Inside end bytes
inside_item end more least last bytes l p =
    let lens = item_length end more least last bytes l p in
    record {
      long = lens.0;
      len = length-within 8 (two_at bytes 2) bytes (omega (arith, lens.1)) lens.2;
      left = omega (arith, lens.2, length-drop (two_at bytes 2) bytes);
    }

within_fits : (bytes : List ℕ) → IsOctets bytes → IsOctets (within bytes)
within_fits bytes fits = IsOctets-drop 8 _ (IsOctets-take (two_at bytes 2) bytes fits)

within_alike : (n : ℕ) (bytes others : List ℕ) → Alike n bytes others → 8 ≤ n → Alike (n - 8) (within bytes) (within others)
within_alike n bytes others a l =
    let k = two_at bytes 2 in
    subst (λ (m : ℕ). Alike (n - 8) (within bytes) (drop 8 (take m others))) (sym (alike_two n 2 bytes others a (omega arith))) (alike_drop 8 n (take k bytes) (take k others) (alike_take k n bytes others a))

behind_same : (n : ℕ) (bytes others : List ℕ) → Alike n bytes others → 8 ≤ n → length (behind_item others) ≡ length (behind_item bytes)
behind_same n bytes others a l =
    ap (λ (k : ℕ). length (drop k others)) (alike_two n 2 bytes others a (omega arith)) ∙ (alike_drop (two_at bytes 2) n bytes others a).long

-- ---- transforms

transform_fault : (end : ℕ) (last : Bool) (bytes : List ℕ) (b : Bad) → IsOctets bytes → length bytes ≤ end → transform_at end last bytes ≡ Err b → FaultIn (transform_at end last) end 0 bytes b
unfolding transform_at
transform_fault end last bytes b fits l e =
    let inside_end = end - length (behind_item bytes) in
    let inside = many (attribute_at inside_end) (within bytes) in
    let tests = item_tests end 3 8 last bytes in
    let item : Passes tests → Inside end bytes = λ p. inside_item end 3 8 last bytes (omega arith) p in
    let inner : Passes tests → (inside >>= λ attributes. Ok (transform_read bytes attributes)) ≡ Err b → FaultIn (many (attribute_at inside_end)) inside_end 0 (within bytes) b =
    λ p f. many_fault (attribute_at inside_end) inside_end (attribute_step inside_end) (within bytes) b (within_fits bytes fits) (omega (arith, (item p).len, (item p).left, l)) (made_err inside (transform_read bytes) b f) in
    let at = placed (end - length bytes) end tests (inside >>= λ attributes. Ok (transform_read bytes attributes)) b (item_places end 3 8 last bytes l)
    (λ p f. (omega (arith, (inner p f).not_before, (item p).len, (item p).left), omega (arith, (inner p f).not_behind))) e in
    record {
      not_before = omega (arith, at.0);
      not_behind = at.1;
      wrong = met (IsIn end) tests (inside >>= λ attributes. Ok (transform_read bytes attributes)) b (item_meets end 3 8 last bytes l)
          (λ p f. in_more b.reason b.place inside_end end (omega arith) (inner p f).wrong) e;
      stays = λ n others a k.
          let eight : 8 ≤ n = omega (arith, at.0, k) in
          let rest = behind_same n bytes others a eight in
          let read' = many (attribute_at (end - length (behind_item others))) (within others) in
          tested tests (item_tests end 3 8 last others) (inside >>= λ attributes. Ok (transform_read bytes attributes)) (read' >>= λ attributes. Ok (transform_read others attributes)) b
          (item_same end 3 8 8 last last bytes others (alike_less n 8 bytes others a eight) refl refl)
          (λ p f. err_first read' (λ attributes. Ok (transform_read others attributes)) b
          (ap (λ (m : ℕ). many (attribute_at (end - m)) (within others)) rest ∙
          (inner p f).stays (n - 8) (within others) (within_alike n bytes others a eight) (omega (arith, k, l, (item p).len, (item p).left)))) e;
    }

transform_step : (end : ℕ) (last : Bool) → Steps (transform_at end last) end
transform_step end last =
    record {
      fault = transform_fault end last;
      takes = λ bytes x fits e.
          let f = transform_found end last bytes x fits e in
          let p = f.0 in
          let spelled = attributes_spelling x.0.attributes in
          let front : List ℕ = last_mark 3 last ∷ p.reserved ∷ two (8 + length spelled) ++ (x.0.kind ∷ p.reserved_behind ∷ two x.0.id) ++ spelled in
          record {
            front = front;
            parts = f.1.bytes_are ∙ ap (λ (r : List ℕ). front ++ r) f.2;
            again = λ rest l. transform_again end last (front ++ rest) x.0 (record { reserved = p.reserved; reserved_behind = p.reserved_behind; rest = rest }) (record { bytes_are = refl; length_fits = f.1.length_fits; attributes = f.1.attributes });
            rest_fits = f.3;
          };
    }

-- ---- proposals

left_places : {A : Type 0} (end : ℕ) (left : List ℕ) (x : A) (b : Bad) → unless (left_tests end left) (Ok x) ≡ Err b → b.place ≡ end - length left
left_places end left x b e =
    let at = placed (end - length left) (end - length left) (left_tests end left) (Ok x) b (λ t. (omega arith, omega arith), λ f. tt) (λ _ f. no_fault x b f) e in
    omega (arith, at.0, at.1)

left_wrong : {A : Type 0} (end : ℕ) (left : List ℕ) (x : A) (b : Bad) → length left ≤ end → unless (left_tests end left) (Ok x) ≡ Err b → IsIn end b
left_wrong end left x b l e = met (IsIn end) (left_tests end left) (Ok x) b (λ t. omega (arith, l, ltb-true 0 (length left) t), λ f. tt) (λ _ f. no_fault x b f) e

left_stays : {A : Type 0} (end end' : ℕ) (left left' : List ℕ) (x y : A) (b : Bad) → end' ≡ end → length left' ≡ length left → unless (left_tests end left) (Ok x) ≡ Err b → unless (left_tests end' left') (Ok y) ≡ Err b
left_stays end end' left left' x y b e f g = tested (left_tests end left) (left_tests end' left') (Ok x) (Ok y) b (rw (e, f) refl) (λ _ h. no_fault x b h) g

inside_same : (end end' count count' size size' : ℕ) (inside : List ℕ) → end' ≡ end → count' ≡ count → size' ≡ size → transforms_at end' count' (drop size' inside) ≡ transforms_at end count (drop size inside)
inside_same end end' count count' size size' inside e f g = rw (e, f, g) refl

proposal_fault : (end : ℕ) (bytes : List ℕ) (b : Bad) → IsOctets bytes → length bytes ≤ end → proposal_at end bytes ≡ Err b → FaultIn (proposal_at end) end 0 bytes b
unfolding proposal_at
proposal_fault end bytes b fits l e =
    let inside_end = end - length (behind_item bytes) in
    let size = slice_index bytes 6 in
    let count = slice_index bytes 7 in
    let content = drop size (within bytes) in
    let tests = proposal_tests end bytes in
    let read = inside_at end bytes >>= λ inside. proposal_made end bytes inside in
    let item : Passes tests → Inside end bytes = λ p. inside_item end 2 (8 + size) (length (behind_item bytes) == 0) bytes (omega arith) p in
    let size_fits : Passes tests → size ≤ length (within bytes) = λ p. (let lens = item_length end 2 (8 + size) (length (behind_item bytes) == 0) bytes (omega arith) p in omega (arith, lens.1, (item p).len)) in
    let content_len : length content ≡ length (within bytes) - size = length-drop size (within bytes) in
    let content_fits : IsOctets content = IsOctets-drop size (within bytes) (within_fits bytes fits) in
    let one = λ (k : ℕ). transform_at inside_end (k == 0) in
    let steps : (k : ℕ) → Steps (transform_at inside_end (k == 0)) inside_end = λ k. transform_step inside_end (k == 0) in
    let inner : Passes tests → inside_at end bytes ≡ Err b → FaultIn (transforms_at inside_end count) inside_end 0 content b =
    λ p f. all_fault one (transforms_at inside_end) (transforms_count inside_end) inside_end steps count content b content_fits (omega (arith, (item p).len, (item p).left, l, content_len)) f in
    let takes : (x : List TransformValue × List ℕ) → inside_at end bytes ≡ Ok x → Takes (transforms_at inside_end count) content x =
    λ x f. all_take one (transforms_at inside_end) (transforms_count inside_end) inside_end steps count content x content_fits f in
    let at = placed (end - length bytes) end tests read b (item_places end 2 (8 + size) (length (behind_item bytes) == 0) bytes l)
    (λ p f. elim (bind_err (inside_at end bytes) (λ inside. proposal_made end bytes inside) b f) [
      | inl h ↦ (omega (arith, (inner p h).not_before, (item p).len, (item p).left, content_len), omega (arith, (inner p h).not_behind))
      | inr h ↦
          let t = takes h.0 h.1 in
          let len = front_len (transforms_at inside_end count) content h.0 t in
          let is = left_places inside_end h.0.1 (proposal_read bytes h.0.0) b h.2 in
          (omega (arith, is, len, (item p).len, (item p).left, content_len), omega (arith, is))
    ]) e in
    record {
      not_before = omega (arith, at.0);
      not_behind = at.1;
      wrong = met (IsIn end) tests read b (item_meets end 2 (8 + size) (length (behind_item bytes) == 0) bytes l)
          (λ p f. elim (bind_err (inside_at end bytes) (λ inside. proposal_made end bytes inside) b f) [
            | inl h ↦ in_more b.reason b.place inside_end end (omega arith) (inner p h).wrong
            | inr h ↦ in_more b.reason b.place inside_end end (omega arith) (left_wrong inside_end h.0.1 (proposal_read bytes h.0.0) b
                (let len = front_len (transforms_at inside_end count) content h.0 (takes h.0 h.1) in omega (arith, len, l, (item p).len, (item p).left, content_len)) h.2)
          ]) e;
      stays = λ n others a k.
          let eight : 8 ≤ n = omega (arith, at.0, k) in
          let rest = behind_same n bytes others a eight in
          let ends : end - length (behind_item others) ≡ inside_end = ap (λ (m : ℕ). end - m) rest in
          let same_size : slice_index others 6 ≡ size = a.same 6 (omega (arith, eight)) in
          let reads : inside_at end others ≡ transforms_at inside_end count (drop size (within others)) = inside_same inside_end _ count _ size _ (within others) ends (a.same 7 (omega (arith, eight))) same_size in
          let alike : Alike (n - 8 - size) content (drop size (within others)) = alike_drop size (n - 8) (within bytes) (within others) (within_alike n bytes others a eight) in
          tested tests (proposal_tests end others) read (inside_at end others >>= λ inside. proposal_made end others inside) b
          (item_same end 2 (8 + size) (8 + slice_index others 6) (length (behind_item bytes) == 0) (length (behind_item others) == 0) bytes others (alike_less n 8 bytes others a eight) (ap (λ (m : ℕ). 8 + m) same_size) (ap (λ (m : ℕ). m == 0) rest))
          (λ p f. elim (bind_err (inside_at end bytes) (λ inside. proposal_made end bytes inside) b f) [
            | inl h ↦
                let i = inner p h in
                err_first (inside_at end others) (λ inside. proposal_made end others inside) b
                (reads ∙ i.stays (n - 8 - size) (drop size (within others)) alike (omega (arith, k, l, i.not_before, content_len, size_fits p, (item p).len, (item p).left)))
            | inr h ↦
                let t = takes h.0 h.1 in
                let len = front_len (transforms_at inside_end count) content h.0 t in
                let is = left_places inside_end h.0.1 (proposal_read bytes h.0.0) b h.2 in
                let g = goes_on (transforms_at inside_end count) content (drop size (within others)) h.0 (n - 8 - size) t alike (omega (arith, k, l, is, len, content_len, size_fits p, (item p).len, (item p).left)) in
                err_then (inside_at end others) (λ inside. proposal_made end others inside) (h.0.0, g.left) b (reads ∙ g.read)
                (left_stays inside_end (end - length (behind_item others)) h.0.1 g.left (proposal_read bytes h.0.0) (proposal_read others h.0.0) b ends g.alike.long h.2)
          ]) e;
    }

proposal_step : (end : ℕ) → Steps (proposal_at end) end
proposal_step end =
    record {
      fault = proposal_fault end;
      takes = λ bytes x fits e.
          let f = proposal_found end bytes x fits e in
          let p = f.0 in
          let last = length p.rest == 0 in
          let front : List ℕ = last_mark 2 last ∷ p.reserved ∷ two (8 + length (x.0.spi ++ p.inside)) ++ (x.0.number ∷ x.0.protocol ∷ length x.0.spi ∷ length x.0.transforms ∷ []) ++ (x.0.spi ++ p.inside) in
          record {
            front = front;
            parts = f.1.bytes_are ∙ ap (λ (r : List ℕ). front ++ r) f.2;
            again = λ rest l.
                proposal_again end last (front ++ rest) x.0 (record { reserved = p.reserved; inside = p.inside; rest = rest })
                (record { bytes_are = refl; length_fits = f.1.length_fits; spi_fits = f.1.spi_fits; count_fits = f.1.count_fits; transforms = f.1.transforms })
                (ap (λ (m : ℕ). m == 0) (l ∙ ap length (sym f.2)));
            rest_fits = f.3;
          };
    }

pub proposals_fault : (end : ℕ) (body : List ℕ) (b : Bad) → IsOctets body → length body ≤ end → proposals_at end body ≡ Err b → FaultIn (proposals_at end) end 0 body b
unfolding proposals_at
proposals_fault end body b fits l e =
    let inner : many (proposal_at end) body ≡ Err b → FaultIn (many (proposal_at end)) end 0 body b = λ f. many_fault (proposal_at end) end (proposal_step end) body b fits l f in
    let at = placed (end - length body) end (proposals_tests end body) (many (proposal_at end) body) b (λ t. (omega arith, omega arith), λ f. tt) (λ _ f. (omega (arith, (inner f).not_before), (inner f).not_behind)) e in
    record {
      not_before = omega (arith, at.0);
      not_behind = at.1;
      wrong = met (IsIn end) (proposals_tests end body) (many (proposal_at end) body) b (λ t. tt, λ f. tt) (λ _ f. (inner f).wrong) e;
      stays = λ n others a k. tested (proposals_tests end body) (proposals_tests end others) (many (proposal_at end) body) (many (proposal_at end) others) b (rw a.long refl) (λ _ f. (inner f).stays n others a k) e;
    }

-- ---- selectors

selector_fault : (end : ℕ) (bytes : List ℕ) (b : Bad) → IsOctets bytes → length bytes ≤ end → selector_at end bytes ≡ Err b → FaultIn (selector_at end) end 0 bytes b
unfolding selector_at
selector_fault end bytes b fits l e =
    let at = placed (end - length bytes) end (selector_tests end bytes) (Ok (selector_read bytes)) b
    (λ t. (omega arith, omega arith), λ f. (λ t. (omega arith, omega arith), λ g. (λ t. (omega arith, omega (arith, ltb-false (length bytes) 8 f)), λ h. (λ t. (omega arith, omega arith), λ i. tt))))
    (λ _ f. no_fault (selector_read bytes) b f) e in
    record {
      not_before = omega (arith, at.0);
      not_behind = at.1;
      wrong = met (IsIn end) (selector_tests end bytes) (Ok (selector_read bytes)) b
          (λ t. tt, λ f. (λ t. omega (arith, l, ltb-false (length bytes) 8 f), λ g. (λ t. omega (arith, l, ltb-false (length bytes) 8 f), λ h. (λ t. tt, λ i. tt))))
          (λ _ f. no_fault (selector_read bytes) b f) e;
      stays = λ n others a k.
          let four : Alike 4 bytes others = alike_less n 4 bytes others a (omega (arith, at.0, k)) in
          tested (selector_tests end bytes) (selector_tests end others) (Ok (selector_read bytes)) (Ok (selector_read others)) b
          (rw (four.long, four.same 0 (omega arith), four.same 2 (omega arith), four.same 3 (omega arith)) refl) (λ _ f. no_fault (selector_read bytes) b f) e;
    }

selector_step : (end : ℕ) → Steps (selector_at end) end
selector_step end =
    record {
      fault = selector_fault end;
      takes = λ bytes x fits e.
          let t = selector_takes end bytes x fits e in
          record { front = selector_spelling x.0; parts = t.parts; again = λ rest l. selector_again end x.0 rest t.fits; rest_fits = t.rest_fits };
    }

pub traffic_fault : (end : ℕ) (body : List ℕ) (b : Bad) → IsOctets body → length body ≤ end → traffic_at end body ≡ Err b → FaultIn (traffic_at end) end 0 body b
unfolding traffic_at
traffic_fault end body b fits l e =
    let count = slice_index body 0 in
    let all = so_many (selector_at end) in
    let content = drop 4 body in
    let content_len : length content ≡ length body - 4 = length-drop 4 body in
    let content_fits : IsOctets content = IsOctets-drop 4 body fits in
    let tests = traffic_tests end body in
    let read = all count content >>= λ selectors. traffic_made end selectors in
    let inner : all count content ≡ Err b → FaultIn (so_many (selector_at end) count) end 0 content b =
    λ f. all_fault (λ k. selector_at end) (so_many (selector_at end)) (selectors_count end) end (λ k. selector_step end) count content b content_fits (omega (arith, content_len, l)) f in
    let takes : (x : List SelectorValue × List ℕ) → all count content ≡ Ok x → Takes (so_many (selector_at end) count) content x =
    λ x f. all_take (λ k. selector_at end) (so_many (selector_at end)) (selectors_count end) end (λ k. selector_step end) count content x content_fits f in
    let at = placed (end - length body) end tests read b (λ t. (omega arith, omega arith), λ f. (λ t. (omega arith, omega arith), λ g. tt))
    (λ p f. elim (bind_err (all count content) (λ selectors. traffic_made end selectors) b f) [
      | inl h ↦ (omega (arith, (inner h).not_before, content_len), (inner h).not_behind)
      | inr h ↦
          let len = front_len (so_many (selector_at end) count) content h.0 (takes h.0 h.1) in
          let is = left_places end h.0.1 h.0.0 b h.2 in
          (omega (arith, is, len, content_len), omega (arith, is))
    ]) e in
    record {
      not_before = omega (arith, at.0);
      not_behind = at.1;
      wrong = met (IsIn end) tests read b (λ t. tt, λ f. (λ t. omega (arith, l, ltb-false (length body) 4 f), λ g. tt))
          (λ p f. elim (bind_err (all count content) (λ selectors. traffic_made end selectors) b f) [
            | inl h ↦ (inner h).wrong
            | inr h ↦ left_wrong end h.0.1 h.0.0 b (let len = front_len (so_many (selector_at end) count) content h.0 (takes h.0 h.1) in omega (arith, len, l, content_len)) h.2
          ]) e;
      stays = λ n others a k.
          let some : 4 ≤ n = omega (arith, at.0, k) in
          let same_count : slice_index others 0 ≡ count = a.same 0 (omega (arith, some)) in
          let alike : Alike (n - 4) content (drop 4 others) = alike_drop 4 n body others a in
          let reads : all (slice_index others 0) (drop 4 others) ≡ all count (drop 4 others) = ap (λ (m : ℕ). so_many (selector_at end) m (drop 4 others)) same_count in
          tested tests (traffic_tests end others) read (all (slice_index others 0) (drop 4 others) >>= λ selectors. traffic_made end selectors) b
          (rw (a.long, same_count) refl)
          (λ p f. elim (bind_err (all count content) (λ selectors. traffic_made end selectors) b f) [
            | inl h ↦
                err_first (all (slice_index others 0) (drop 4 others)) (λ selectors. traffic_made end selectors) b
                (reads ∙ (inner h).stays (n - 4) (drop 4 others) alike (omega (arith, k, l, content_len, ltb-false (length body) 4 p.0)))
            | inr h ↦
                let t = takes h.0 h.1 in
                let len = front_len (so_many (selector_at end) count) content h.0 t in
                let is = left_places end h.0.1 h.0.0 b h.2 in
                let g = goes_on (so_many (selector_at end) count) content (drop 4 others) h.0 (n - 4) t alike (omega (arith, k, l, is, len, content_len, ltb-false (length body) 4 p.0)) in
                err_then (all (slice_index others 0) (drop 4 others)) (λ selectors. traffic_made end selectors) (h.0.0, g.left) b (reads ∙ g.read)
                (left_stays end end h.0.1 g.left h.0.0 h.0.0 b refl g.alike.long h.2)
          ]) e;
    }
