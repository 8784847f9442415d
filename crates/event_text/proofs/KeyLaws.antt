-- The keys and starts of an association are spelled by the words that stood there.
use Rattle.std.proofs.Common.{◌≡◌, ℕ, ◌-◌, ◌^◌, ◌<◌, List, ◌++◌, Ok, refl, subst, lit≤}
use Rattle.std.specs.Fmt.{decimal}
use Rattle.ha_base.specs.KeySizes.{sealing_octets}
use Rattle.ha_base.specs.declared.key_material.ChildKeys.{ChildKeys}
use Rattle.ha_base.specs.declared.key_material.KeySize.{KeySize}
use Rattle.ha_base.specs.declared.key_material.SaKeys.{SaKeys}
use Rattle.keeper_book.specs.declared.counters.Five.{Five}
use Rattle.line_fields.specs.Numbers.{number_in_word}
use Rattle.line_fields.specs.Words.{Cursor}
use Rattle.line_fields.proofs.FieldLaws.{IsField, IsReader, column_behind, field_again, number_field, ok_is, reader, sized_field, then_word, walk}
use Rattle.events.specs.FieldRanges.{AreChildKeys, AreSaKeys, AreStarts}
use Rattle.events.specs.FieldWords.{child_key_words, five_words, sa_key_words}
use Rattle.events.specs.KeyFields.{child_keys_at, sa_keys_at, starts_at}
use Rattle.event_text.proofs.EventFieldLaws.{member_field}

message_id_field : IsField (number_in_word 0 (2 ^ 32 - 1)) decimal (λ n. n < 2 ^ 32 - 1)
message_id_field = number_field (2 ^ 32 - 1) (lit≤ tt)

sa_keys_takes : (size : KeySize) (s : Cursor) (x : SaKeys) (t : Cursor) → sa_keys_at size s ≡ Ok (x, t) → (s.words ≡ sa_key_words x ++ t.words) × AreSaKeys size x
unfolding sa_keys_at
sa_keys_takes size s x t e =
    let n = sealing_octets size in
    walk (reader (sized_field 32 32)) s _ (x, t) e (λ sk_d s1 w1 f1 e1.
    walk (reader (sized_field n n)) s1 _ (x, t) e1 (λ sk_ei s2 w2 f2 e2.
    walk (reader (sized_field n n)) s2 _ (x, t) e2 (λ sk_er s3 w3 f3 e3.
    walk (reader (sized_field 32 32)) s3 _ (x, t) e3 (λ sk_pi s4 w4 f4 e4.
    walk (reader (sized_field 32 32)) s4 _ (x, t) e4 (λ sk_pr s5 w5 f5 e5.
    subst (λ (p : SaKeys × Cursor). (s.words ≡ sa_key_words p.0 ++ p.1.words) × AreSaKeys size p.0)
    (ok_is (record { sk_d = sk_d; sk_ei = sk_ei; sk_er = sk_er; sk_pi = sk_pi; sk_pr = sk_pr }, s5) (x, t) e5)
    (then_word _ w1 (then_word _ w2 (then_word _ w3 (then_word _ w4 w5))), record { sk_d = f1; sk_ei = f2; sk_er = f3; sk_pi = f4; sk_pr = f5 }))))))

sa_keys_again : (size : KeySize) (x : SaKeys) → AreSaKeys size x → (c : ℕ) (ws : List (List ℕ)) → sa_keys_at size (record { column = c; words = sa_key_words x ++ ws }) ≡ Ok (x, record { column = column_behind c (sa_key_words x); words = ws })
unfolding sa_keys_at
sa_keys_again size x h c ws =
    let n = sealing_octets size in
    rw (field_again (sized_field 32 32) x.sk_d h.sk_d, field_again (sized_field n n) x.sk_ei h.sk_ei, field_again (sized_field n n) x.sk_er h.sk_er, field_again (sized_field 32 32) x.sk_pi h.sk_pi, field_again (sized_field 32 32) x.sk_pr h.sk_pr) refl

pub sa_keys_reader : (size : KeySize) → IsReader (sa_keys_at size) sa_key_words (AreSaKeys size)
sa_keys_reader size = record { takes = sa_keys_takes size; again = sa_keys_again size }

child_keys_takes : (size : KeySize) (s : Cursor) (x : ChildKeys) (t : Cursor) → child_keys_at size s ≡ Ok (x, t) → (s.words ≡ child_key_words x ++ t.words) × AreChildKeys size x
unfolding child_keys_at
child_keys_takes size s x t e =
    let n = sealing_octets size in
    walk (reader (sized_field n n)) s _ (x, t) e (λ to_cluster s1 w1 f1 e1.
    walk (reader (sized_field n n)) s1 _ (x, t) e1 (λ to_peer s2 w2 f2 e2.
    subst (λ (p : ChildKeys × Cursor). (s.words ≡ child_key_words p.0 ++ p.1.words) × AreChildKeys size p.0)
    (ok_is (record { to_cluster = to_cluster; to_peer = to_peer }, s2) (x, t) e2)
    (then_word _ w1 w2, record { to_cluster = f1; to_peer = f2 })))

child_keys_again : (size : KeySize) (x : ChildKeys) → AreChildKeys size x → (c : ℕ) (ws : List (List ℕ)) → child_keys_at size (record { column = c; words = child_key_words x ++ ws }) ≡ Ok (x, record { column = column_behind c (child_key_words x); words = ws })
unfolding child_keys_at
child_keys_again size x h c ws =
    let n = sealing_octets size in
    rw (field_again (sized_field n n) x.to_cluster h.to_cluster, field_again (sized_field n n) x.to_peer h.to_peer) refl

pub child_keys_reader : (size : KeySize) → IsReader (child_keys_at size) child_key_words (AreChildKeys size)
child_keys_reader size = record { takes = child_keys_takes size; again = child_keys_again size }

starts_takes : (s : Cursor) (x : Five) (t : Cursor) → starts_at s ≡ Ok (x, t) → (s.words ≡ five_words x ++ t.words) × AreStarts x
unfolding starts_at
starts_takes s x t e =
    walk (reader member_field) s _ (x, t) e (λ esp_out s1 w1 f1 e1.
    walk (reader member_field) s1 _ (x, t) e1 (λ esp_in s2 w2 f2 e2.
    walk (reader member_field) s2 _ (x, t) e2 (λ iv s3 w3 f3 e3.
    walk (reader message_id_field) s3 _ (x, t) e3 (λ ask s4 w4 f4 e4.
    walk (reader message_id_field) s4 _ (x, t) e4 (λ answer s5 w5 f5 e5.
    subst (λ (p : Five × Cursor). (s.words ≡ five_words p.0 ++ p.1.words) × AreStarts p.0)
    (ok_is (record { esp_out = esp_out; esp_in = esp_in; iv = iv; ask = ask; answer = answer }, s5) (x, t) e5)
    (then_word _ w1 (then_word _ w2 (then_word _ w3 (then_word _ w4 w5))), record { esp_out = f1; esp_in = f2; iv = f3; ask = f4; answer = f5 }))))))

starts_again : (x : Five) → AreStarts x → (c : ℕ) (ws : List (List ℕ)) → starts_at (record { column = c; words = five_words x ++ ws }) ≡ Ok (x, record { column = column_behind c (five_words x); words = ws })
unfolding starts_at
starts_again x h c ws =
    rw (field_again member_field x.esp_out h.esp_out, field_again member_field x.esp_in h.esp_in, field_again member_field x.iv h.iv, field_again message_id_field x.ask h.ask, field_again message_id_field x.answer h.answer) refl

pub starts_reader : IsReader starts_at five_words AreStarts
starts_reader = record { takes = starts_takes; again = starts_again }
