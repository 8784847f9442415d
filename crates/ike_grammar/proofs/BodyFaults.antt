-- Where a body without an inner list is refused.
use Rattle.std.proofs.Common.{◌≡◌, ℕ, ◌-◌, ◌≤◌, ◌<◌, Bool, List, length, drop, Ok, Err, refl, arith}
use Rattle.std.specs.Prelude.{slice_index}
use Rattle.std.proofs.lemmas.Bool.{ltb-false}
use Rattle.ike_values.specs.Values.{IdValue, AuthValue}
use Rattle.ike_values.specs.declared.fault.Bad.{Bad}
use Rattle.ike_grammar.specs.Faults.{unless}
use Rattle.ike_grammar.specs.Bodies.{numbered_tests, id_at, auth_at, nonce_tests, nonce_at, notify_tests, notify_read, notify_at, delete_tests, delete_read, delete_at, sk_tests, sk_read, sk_at}
use Rattle.ike_grammar.proofs.Alike.{Alike, alike_less, alike_drop}
use Rattle.ike_grammar.proofs.Faulty.{Within, placed, Meet, met, IsIn, tested, no_fault, FaultIn}

-- A reader that tests the first four octets and how many there are, and then reads. A nonce is
-- refused at its payload's length, two octets before the body.
pub record Plain (tests : List ℕ → List (Bool × Bad)) (end : ℕ) : Type 0 where
  pub within : (body : List ℕ) → length body ≤ end → Within (end - length body - 2) end (tests body)
  pub meets : 0 < end → (body : List ℕ) → length body ≤ end → Meet (IsIn end) (tests body)
  pub same : (body others : List ℕ) → Alike 4 body others → tests others ≡ tests body

pub plain_fault : {A : Type 0} (tests : List ℕ → List (Bool × Bad)) (read : List ℕ → A) (end : ℕ) → Plain tests end → (body : List ℕ) (b : Bad) → 0 < end → length body ≤ end
    → unless (tests body) (Ok (read body)) ≡ Err b → FaultIn (λ bytes. unless (tests bytes) (Ok (read bytes))) end 2 body b
plain_fault tests read end p body b some l e =
    let at = placed (end - length body - 2) end (tests body) (Ok (read body)) b (p.within body l) (λ _ f. no_fault (read body) b f) e in
    record {
      not_before = omega (arith, at.0);
      not_behind = at.1;
      wrong = met (IsIn end) (tests body) (Ok (read body)) b (p.meets some body l) (λ _ f. no_fault (read body) b f) e;
      stays = λ n others a k.
          let four : Alike 4 body others = alike_less n 4 body others a (omega (arith, at.0, k)) in
          tested (tests body) (tests others) (Ok (read body)) (Ok (read others)) b (p.same body others four) (λ _ f. no_fault (read body) b f) e;
    }

numbered_plain : (end : ℕ) → Plain (numbered_tests end) end
numbered_plain end =
    record {
      within = λ body l. (λ t. (omega arith, omega arith), λ f. tt);
      meets = λ some body l. (λ t. tt, λ f. tt);
      same = λ body others a. rw a.long refl;
    }

pub id_fault : (end : ℕ) (body : List ℕ) (b : Bad) → 0 < end → length body ≤ end → id_at end body ≡ Err b → FaultIn (id_at end) end 2 body b
unfolding id_at
id_fault end body b some l e = plain_fault (numbered_tests end) (λ bytes. (let read : IdValue = record { kind = slice_index bytes 0; content = drop 4 bytes } in read)) end (numbered_plain end) body b some l e

pub auth_fault : (end : ℕ) (body : List ℕ) (b : Bad) → 0 < end → length body ≤ end → auth_at end body ≡ Err b → FaultIn (auth_at end) end 2 body b
unfolding auth_at
auth_fault end body b some l e = plain_fault (numbered_tests end) (λ bytes. (let read : AuthValue = record { method = slice_index bytes 0; content = drop 4 bytes } in read)) end (numbered_plain end) body b some l e

pub nonce_fault : (end : ℕ) (body : List ℕ) (b : Bad) → 0 < end → length body ≤ end → nonce_at end body ≡ Err b → FaultIn (nonce_at end) end 2 body b
unfolding nonce_at
nonce_fault end body b some l e =
    plain_fault (nonce_tests end) (λ bytes. bytes) end
    (record {
      within = λ bytes m. (λ t. (omega arith, omega arith), λ f. tt);
      meets = λ some bytes m. (λ t. omega (arith, some), λ f. tt);
      same = λ bytes others a. rw a.long refl;
    }) body b some l e

pub notify_fault : (end : ℕ) (body : List ℕ) (b : Bad) → 0 < end → length body ≤ end → notify_at end body ≡ Err b → FaultIn (notify_at end) end 2 body b
unfolding notify_at
notify_fault end body b some l e =
    plain_fault (notify_tests end) notify_read end
    (record {
      within = λ bytes m. (λ t. (omega arith, omega arith), λ f. (λ t. (omega arith, omega (arith, ltb-false (length bytes) 4 f)), λ g. tt));
      meets = λ some bytes m. (λ t. tt, λ f. (λ t. omega (arith, m, ltb-false (length bytes) 4 f), λ g. tt));
      same = λ bytes others a. rw (a.long, (alike_drop 4 4 bytes others a).long, a.same 1 (omega arith)) refl;
    }) body b some l e

pub delete_fault : (end : ℕ) (body : List ℕ) (b : Bad) → 0 < end → length body ≤ end → delete_at end body ≡ Err b → FaultIn (delete_at end) end 2 body b
unfolding delete_at
delete_fault end body b some l e =
    plain_fault (delete_tests end) delete_read end
    (record {
      within = λ bytes m. (λ t. (omega arith, omega arith), λ f. (λ t. (omega arith, omega (arith, ltb-false (length bytes) 4 f)), λ g. tt));
      meets = λ some bytes m. (λ t. tt, λ f. (λ t. omega (arith, m, ltb-false (length bytes) 4 f), λ g. tt));
      same = λ bytes others a. rw (a.long, (alike_drop 4 4 bytes others a).long, a.same 1 (omega arith), a.same 2 (omega arith), a.same 3 (omega arith)) refl;
    }) body b some l e

pub sk_fault : (end first : ℕ) (body : List ℕ) (b : Bad) → 0 < end → length body ≤ end → sk_at end first body ≡ Err b → FaultIn (sk_at end first) end 2 body b
unfolding sk_at
sk_fault end first body b some l e =
    plain_fault (sk_tests end) (sk_read first) end
    (record {
      within = λ bytes m. (λ t. (omega arith, omega arith), λ f. tt);
      meets = λ some bytes m. (λ t. tt, λ f. tt);
      same = λ bytes others a. rw a.long refl;
    }) body b some l e
