-- What is taken on is what was accepted, and the response is sealed under the next IV.
use Rattle.std.proofs.Common.{rules, ◌≡◌, ◌+◌, ◌-◌, ◌<◌, ap, ◌∙◌, subst, arith}
use Rattle.events.specs.declared.turn.Step.{Step}
use Rattle.events.specs.declared.verdict.Verdict.TheVariants as out
use Rattle.ike_sas.specs.Held.{response_header}
use Rattle.ike_sas.specs.Sending.{SendsIke}
use Rattle.ike_sas.specs.declared.draft.SentMessage.{SentMessage}
use Rattle.ike_sas.specs.declared.keys.IkeKeys.{IkeKeys}
use Rattle.keeper_book.specs.CounterEnds.{end_of}
use Rattle.keeper_book.specs.declared.counters.Counter.TheVariants as counter
use Rattle.sk_payload.specs.declared.open.Opened.{Opened}
use Rattle.spend_once.specs.Lot.{Drawn}
use Rattle.sync_exchange.specs.Counters.{rise_of}
use Rattle.sync_exchange.specs.Laws.{response_ids, response_of}
use Rattle.sync_exchange.specs.declared.peer.Accepted.{Accepted}
use Rattle.sync_exchange.specs.declared.replay_counter.TheConstants.{DELTA_OCTETS}
use Rattle.sync_exchange.specs.declared.request.SyncRequest.{SyncRequest}
use Rattle.turn_rules.specs.PeerMessages.{AcceptsSync, MayAcceptSync, peer_keys}
use Rattle.turn_rules.specs.Slots.{Slot}
use Rattle.cluster_peer.specs.Associations.{IsIkeOfRecord}
use Rattle.cluster_peer.proofs.association.Association.accept.Goals as goal

may : (old now : Slot) (request : Opened) (asked : SyncRequest) (accepted : Accepted) (step : Step) → old ≡ now → AcceptsSync old request asked accepted step → old.iv < end_of old.sa counter.Iv → MayAcceptSync now request asked accepted step
may old now request asked accepted step same does below = subst (λ slot. MayAcceptSync slot request asked accepted step) same
    (record { within = λ _. does; ended = λ above. absurd (omega arith) })

pub returns-clause-accepts : goal.returns-clause-accepts
returns-clause-accepts c =
    let sa = c.self.inside.sa in
    let ike = c.self.inside.ike in
    let ivs = c.self.inside.ivs in
    let keeps : IsIkeOfRecord sa ivs ike = c.self.invariant.1 in
    let old : Slot = record { sa = sa; live = c.self.inside.live; next = c.self.inside.lot.next; window = c.self.inside.inbound.window; iv = ivs.next; ask = ike.next; asked = ike.asked; answered = ike.answered; highest = c.self.inside.highest; ticket = c.self.inside.ticket } in
    let accepted = c.args.accepted.now in
    let asked = c.args.asked.now in
    let request = c.args.request.now in
    let sent : SentMessage = c.accept_sync-done.result.sent in
    let next_is : c.self.inside.lot.next ≡ c.args.self.now.next = ap (λ (s : Slot). s.next) c.self.view_is in
    let risen : accepted.next_esp ≡ c.args.self.now.next + rise_of DELTA_OCTETS asked = ap (λ (a : Accepted). a.next_esp) c.requires.is.2 in
    let seen : c.next.result ≡ c.self.inside.lot.next = search rules in
    let delta : accepted.next_esp - c.next.result ≡ rise_of DELTA_OCTETS asked = omega (arith, risen, next_is, seen) in
    let numbered : c.in-Some.iv ≡ record { name = ivs.name; value = ivs.next } = c.in-Some.ensures.number in
    let sends : SendsIke (peer_keys sa).sending ivs.next (response_header (peer_keys sa) request.header) (response_of (response_ids asked accepted)) sent =
    subst (λ (keys : IkeKeys). SendsIke keys.sending ivs.next (response_header keys request.header) (response_of (response_ids asked accepted)) sent) keeps.keys
    (subst (λ n. SendsIke ike.keys.sending n (response_header ike.keys request.header) (response_of (response_ids asked accepted)) sent) (ap (λ (n : Drawn). n.value) numbered) c.accept_sync-done.ensures.sends) in
    let does : AcceptsSync old request asked accepted c.sent_step.result = record {
      said = c.sent_step.ensures.verdict ∙ (λ i. out.SyncAccepted (c.name_at.ensures i) accepted.p2 accepted.m2 (delta i) (c.accept_sync-done.ensures.unknown i));
      served = c.sent_step.ensures.served;
      responds = record { sent = sent; sends = sends; seals = c.sent_step.ensures.seals; gives = c.sent_step.ensures.gives };
    } in
    let below : ivs.next < ivs.end = search rules in
    let end : ivs.end ≡ end_of sa counter.Iv = keeps.numbers.end in
    may old c.args.self.now request asked accepted c.sent_step.result c.self.view_is does (omega (arith, below, end))
