use Rattle.std.proofs.Common.{◌++◌, vec_len, subst, take_at, ◌≡◌, ◌-◌, length, take, drop, sym, ◌∙◌}
use Rattle.std.proofs.lemmas.List.{take_rest}
use Rattle.std.proofs.lemmas.Bool.{false≢true}
use Rattle.tickets.specs.Answers.{IsSealedIn}
use Rattle.tickets.proofs.Openings.{front_is, sealed_in, text_of}
use Rattle.tickets.proofs.opening.open_text.Goals as goal

pub returns-then-not-open_in_place-clause-refused : goal.returns-then-not-open_in_place-clause-refused
returns-then-not-open_in_place-clause-refused c =
    λ plain is.
    let ticket = c.args.ticket.now in
    let front = front_is ticket c.args.number c.requires.long c.requires.version c.requires.number in
    let text = text_of c.args.key.now.octets (c.sealing_laws.ensures c.args.key.now.octets c.open_in_place.ensures.key_size) c.args.number ticket c.requires.long front c.requires.named plain is in
    let buffer : c.deref_mut.result.now ≡ take (length ticket - 16 - 9) (drop 9 ticket) = c.deref_mut.ensures.value ∙ c.in_ok-plain.ensures.copy in
    let tag : c.copy_from_slice.new.self ≡ drop (length ticket - 16) ticket = c.copy_from_slice.ensures.after ∙ take_rest ticket (length ticket - 16) in
    absurd (false≢true (sym c.if-not-open_in_place.true ∙ (c.open_in_place.ensures.unsealed plain (text ∙ (λ i. record { ciphertext = sym buffer i; tag = sym tag i }))).0))

pub returns-clause-opened : goal.returns-clause-opened
returns-clause-opened c =
    let ticket = c.args.ticket.now in
    let front = front_is ticket c.args.number c.requires.long c.requires.version c.requires.number in
    let buffer : c.deref_mut.result.now ≡ take (length ticket - 16 - 9) (drop 9 ticket) = c.deref_mut.ensures.value ∙ c.in_ok-plain.ensures.copy in
    let tag : c.copy_from_slice.new.self ≡ drop (length ticket - 16) ticket = c.copy_from_slice.ensures.after ∙ take_rest ticket (length ticket - 16) in
    let opened = sealed_in c.args.key.now.octets (c.sealing_laws.ensures c.args.key.now.octets c.open_in_place.ensures.key_size) c.args.number ticket c.requires.long front c.requires.named
    c.open_in_place.new.buf (c.if-not-open_in_place.ensures.opened ∙ (λ i. record { ciphertext = buffer i; tag = tag i })) in
    let whole : take (vec_len c.in_ok-plain.plain) (c.open_in_place.new.buf ++ drop (length c.open_in_place.new.buf) c.in_ok-plain.plain.items) ≡ c.open_in_place.new.buf =
    take_at c.open_in_place.new.buf (drop (length c.open_in_place.new.buf) c.in_ok-plain.plain.items) (vec_len c.in_ok-plain.plain) (c.open_in_place.auto.buf ∙ c.deref_mut.ensures.len) in
    subst (IsSealedIn c.args.key.now.octets ticket) (sym whole) opened
