-- A member takes an IKE message, or an ESP packet.
use Rattle.std.proofs.Common.{◌≡◌, sym, subst, rules}
use Rattle.events.specs.declared.turn.Medium.TheVariants as medium
use Rattle.turn_rules.specs.Deliveries.{MemberGets, MemberTakes}
use Rattle.turn_rules.specs.MemberMessages.{member_listener}
use Rattle.turn_rules.specs.Messages.{TakesMessage}
use Rattle.run_ends.proofs.Events.{asked-as, if_ok-as}
use Rattle.run_ends.proofs.deliveries.member_takes.Goals as goal
use Rattle.cluster_member.specs.Members.{member_held}

pub returns-in-Ike-clause-takes : goal.returns-in-Ike-clause-takes
returns-in-Ike-clause-takes g c =
    let was = member_held c.args.member.now in
    let medium_is : c.args.arrival.medium ≡ medium.Ike = search rules in
    let octets_are : c.deref.result.now ≡ c.args.arrival.octets = search rules in
    if_ok-as c.receive_ike.result
    (λ step. asked-as (λ calls it.
    (subst (λ m. MemberGets m was c.args.now c.args.arrival.octets calls step) (sym medium_is) (subst (λ o. TakesMessage (member_listener was c.args.now) o calls step) octets_are it.0), it.1)))
    c.receive_ike.ensures.takes

pub returns-in-Esp-clause-takes : goal.returns-in-Esp-clause-takes
returns-in-Esp-clause-takes g c =
    let was = member_held c.args.member.now in
    let medium_is : c.args.arrival.medium ≡ medium.Esp = search rules in
    let octets_are : c.arrival.inside.octets.items ≡ c.args.arrival.octets = search rules in
    let step = c.member_takes_packet.result in
    asked-as (λ calls it. (subst (λ m. MemberGets m was c.args.now c.args.arrival.octets calls step) (sym medium_is) (subst (λ o. MemberTakes was.held o calls step) octets_are it.0), it.1)) c.member_takes_packet.ensures.takes
