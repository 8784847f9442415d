-- What each event makes of what the ends hold, by what their calls say.
use Rattle.std.proofs.Common.{◌≡◌, ℕ, suc, ◌+◌, ◌≤◌, not, Some, None, Result, Ok, Err, List, [], ◌∷◌, ◌++◌, length, refl, ap, sym, ◌∙◌, subst, arith}
use Rattle.std.proofs.Math.ListN.{set}
use Rattle.std.proofs.lemmas.Option.{same_Some}
use Rattle.std.specs.Prelude.{IfOk, is_some}
use Rattle.events.specs.declared.event.Event.{Event}
use Rattle.events.specs.declared.event.Event.TheVariants as event
use Rattle.events.specs.declared.event.Party.{Party}
use Rattle.events.specs.declared.event.Party.TheVariants as parties
use Rattle.events.specs.declared.turn.Step.{Step}
use Rattle.events.specs.declared.turn.Turn.{Turn}
use Rattle.events.specs.declared.verdict.Refusal.{Refusal}
use Rattle.events.specs.declared.verdict.Refusal.TheVariants as refusal
use Rattle.events.specs.declared.verdict.Verdict.TheVariants as out
use Rattle.ha_base.specs.Octets.{WithRoom}
use Rattle.ha_base.specs.declared.limits.TheConstants.{PAYLOAD_OCTETS}
use Rattle.ha_base.specs.declared.outside.Moment.{Moment}
use Rattle.ha_base.specs.declared.services.TheConstants.{LONGEST_REQUEST}
use Rattle.keeper_book.specs.Asks.{AsksFor}
use Rattle.keeper_book.specs.declared.calls.Call.{Call}
use Rattle.keeper_book.specs.declared.keepers.Keeper.{Ghosts}
use Rattle.keeper_book.specs.declared.records.Record.{Record}
use Rattle.turn_rules.specs.Configurations.{Configuration, first_ticket_key, fresh_octets, gateway_of}
use Rattle.turn_rules.specs.Datagrams.{PlainDatagram, arrives}
use Rattle.turn_rules.specs.Deliveries.{MemberGets, PeerGets}
use Rattle.turn_rules.specs.Draws.{EntersRecord, TakesOver}
use Rattle.turn_rules.specs.Fits.{DrawsOf, Quietly, Receives, Refusing, SendsOf, member_of, named_in}
use Rattle.turn_rules.specs.Held.{held_at}
use Rattle.turn_rules.specs.MemberMessages.{AsksOf, ResendsOf, SyncsOf}
use Rattle.turn_rules.specs.PeerMessages.{PeerAsks, PeerResends}
use Rattle.turn_rules.specs.PeerStates.{PeerHeld}
use Rattle.turn_rules.specs.Slots.{PeerSends, entered_slot, admits, PeerForgets}
use Rattle.turn_rules.specs.States.{RunState}
use Rattle.turn_rules.specs.Steps.{Says}
use Rattle.turn_rules.specs.Tasks as task
use Rattle.cluster_member.specs.Members.{Holder, IsAfter, member_held}
use Rattle.cluster_peer.specs.Slots.{IsPeerAfter, PeerWithRoom, IsPeerAfterAt}
use Rattle.run_ends.proofs.Acting.{brings}
use Rattle.run_ends.proofs.Asking.{asks-proper, peer_asks-proper, peer_resends-alone, peer_resends-said, resends_of-alone, resends_of-said, peer_forgets-proper}
use Rattle.run_ends.proofs.Holding.{Holds, configured-holds, crash-holds, entered-after, join-holds, not_entered-after}
use Rattle.run_ends.proofs.Performing.{member_gets-said, peer_gets-said}
use Rattle.run_ends.proofs.Seats.{counted, ended-in_place, joined-in_place}
use Rattle.run_ends.proofs.Syncing.{syncs-proper}
use Rattle.run_ends.proofs.Verdicts.{IsProper, draws-proper, imports-proper, peer_sends-proper, sends-proper, takes-proper}
use Rattle.run_ends.specs.Acting.{IsOwnStep, MemberActs, PeerActs}
use Rattle.run_ends.specs.Arrivals.{MemberTakesIn, PeerTakesIn}
use Rattle.run_ends.specs.Parties.{Acts, AreInPlace, EndsHeld, IsMemberPlace, member_seen}
use Rattle.turn_rules.specs.MemberStates.{MemberHeld}
use Rattle.ike_sas.specs.Answers.{request_payloads}
use Rattle.ike_sas.specs.TicketMessages.{ticket_request_payloads}
use Rattle.run_ends.proofs.MessageBounds.{request-few, ticket_request-few}
use Rattle.turn_rules.specs.TicketNumbers.{no_ticket_numbers}
use Rattle.turn_rules.specs.Tasks.{Task}

-- a call that was asked for one thing was asked for what follows from it
pub asked-as : {K : Type 0} {keeper : Ghosts K} {old new : K} {P Q : List Call → Type 0} → ((calls : List Call) → P calls → Q calls) → AsksFor keeper old new P → AsksFor keeper old new Q
asked-as f it = record { calls = it.calls; follows = f it.calls it.follows; asked = it.asked; held = it.held }

pub if_ok-as : {T E : Type 0} {P Q : T → Type 0} (result : Result T E) → ((value : T) → P value → Q value) → IfOk result P → IfOk result Q
if_ok-as (Ok value) f p = f value p
if_ok-as (Err why) f p = tt

-- a step of an end's own, and one by which something was delivered
own-step : (at : Event) (calls : List Call) (step : Step) → IsProper calls step → IsOwnStep at step
own-step at calls step proper = record { said = proper.said; alone = λ none. proper.alone }

module _ (datagrams : List PlainDatagram) (moment : Moment) (was now : Holder) (calls : List Call) (step : Step) where
  -- what a rule says of what the member holds, it says of the member of its number
  seen : (P : MemberHeld → Type 0) (state : RunState) (member : ℕ) → member ≡ was.number → state.members was.number ≡ member_seen (Some was) → P (member_seen (Some was)) → P (state.members member)
  seen P state member named sits p = subst P (sym (ap (λ n. state.members n) named ∙ sits)) p

  its-party : (party : Party) → member_of party ≡ Some was.number → parties.Member was.number ≡ party
  its-party parties.Peer named = absurd (cc)
  its-party (parties.Member member) named = ap parties.Member (sym (same_Some member was.number named))

  pub owns : (member spir : ℕ) → Some member ≡ Some was.number → Quietly (TakesOver spir was.number) calls step → IsAfter (task.TakeOver spir) calls step was now → MemberActs datagrams moment (event.Own member spir) calls step was now
  owns member spir named does after = record {
    performs = λ state sits given. subst (λ n. Quietly (TakesOver spir n) calls step) (sym (same_Some member was.number named)) does;
    after = after;
    own = own-step (event.Own member spir) calls step (takes-proper spir was.number calls step does);
  }

  pub draws : (member spir : ℕ) → Some member ≡ Some was.number → DrawsOf (held_at was.held spir) calls step → IsAfter (task.Draw spir) calls step was now → MemberActs datagrams moment (event.Draw member spir) calls step was now
  draws member spir named does after = record {
    performs = λ state sits given. seen (λ m. DrawsOf (m.held spir) calls step) state member (same_Some member was.number named) sits does;
    after = after;
    own = own-step (event.Draw member spir) calls step (draws-proper (held_at was.held spir) calls step does);
  }

  pub sends : (from : Party) (spir : ℕ) (payload : WithRoom) → member_of from ≡ Some was.number → length payload.octets ≤ PAYLOAD_OCTETS → SendsOf (held_at was.held spir) payload.octets calls step → IsAfter (task.Send spir payload.octets) calls step was now
      → MemberActs datagrams moment (event.Send from spir payload) calls step was now
  sends from spir payload named size does after = subst (λ party. MemberActs datagrams moment (event.Send party spir payload) calls step was now) (its-party from named) (record {
    performs = λ state sits given. seen (λ m. SendsOf (m.held spir) payload.octets calls step) state was.number refl sits does;
    after = after;
    own = own-step (event.Send (parties.Member was.number) spir payload) calls step (sends-proper (held_at was.held spir) payload.octets calls step size does);
  })

  pub asks : (from : Party) (spir : ℕ) (request : WithRoom) → member_of from ≡ Some was.number → length request.octets ≤ LONGEST_REQUEST → AsksOf (held_at was.held spir) (request_payloads request.octets) calls step → IsAfter (task.Ask spir (request_payloads request.octets)) calls step was now
      → MemberActs datagrams moment (event.Ask from spir request) calls step was now
  asks from spir request named size does after = subst (λ party. MemberActs datagrams moment (event.Ask party spir request) calls step was now) (its-party from named) (record {
    performs = λ state sits given. seen (λ m. AsksOf (m.held spir) (request_payloads request.octets) calls step) state was.number refl sits does;
    after = after;
    own = own-step (event.Ask (parties.Member was.number) spir request) calls step (asks-proper (held_at was.held spir) (request_payloads request.octets) calls step (request-few request.octets size) does);
  })

  pub asks_again : (from : Party) (spir id : ℕ) → member_of from ≡ Some was.number → ResendsOf (held_at was.held spir) id calls step → IsAfter (task.Again spir id) calls step was now → MemberActs datagrams moment (event.Again from spir id) calls step was now
  asks_again from spir id named does after = subst (λ party. MemberActs datagrams moment (event.Again party spir id) calls step was now) (its-party from named) (record {
    performs = λ state sits given. seen (λ m. ResendsOf (m.held spir) id calls step) state was.number refl sits does;
    after = after;
    own = record { said = resends_of-said (held_at was.held spir) id calls step does; alone = λ none. resends_of-alone (held_at was.held spir) id calls step does };
  })

  pub syncs : (member spir : ℕ) → Some member ≡ Some was.number → SyncsOf was.fresh (held_at was.held spir) calls step → IsAfter (task.Sync spir) calls step was now → MemberActs datagrams moment (event.Sync member spir) calls step was now
  syncs member spir named does after = record {
    performs = λ state sits given. seen (λ m. SyncsOf (fresh_octets m.given) (m.held spir) calls step) state member (same_Some member was.number named) sits does;
    after = after;
    own = own-step (event.Sync member spir) calls step (syncs-proper was.fresh (held_at was.held spir) calls step does);
  }

  -- what arrives is taken by a member
  pub takes : (at : Event) → named_in at ≡ Some was.number → (datagram : PlainDatagram) → arrives datagrams at ≡ Ok datagram → MemberTakesIn datagram.medium moment datagram.octets calls step was now → MemberActs datagrams moment at calls step was now
  takes at named datagram found it =
      let brought = brings datagrams at datagram found in
      let to : parties.Member was.number ≡ brought.0 = its-party brought.0 (sym brought.1.named ∙ named) in
      record {
        performs = λ state sits given. brought.1.performs state moment calls step
            (subst (λ found. Receives state moment brought.0 found calls step) (sym (ap (λ ds. arrives ds at) given ∙ found))
            (subst (λ party. Receives state moment party (Ok datagram) calls step) to
            (seen (λ m. MemberGets datagram.medium m moment datagram.octets calls step) state was.number refl sits it.0)));
        after = subst (λ t. IsAfter t calls step was now) (sym brought.1.member) it.1;
        own = record { said = member_gets-said datagram.medium (member_held was) moment datagram.octets calls step it.0; alone = λ none. let never = sym (ap is_some none) ∙ brought.1.delivers in absurd (cc) };
      }

-- an association is entered, or not
module _ (was now : PeerWithRoom) (step : Step) where
  pub not_entered : (sa : Record) (why : Refusal) → now ≡ record was { spare = now.spare } → Says (out.Refused why) step → IsPeerAfter (task.Enter sa) step was now
  not_entered sa why same says = record {
    window = ap (λ (p : PeerWithRoom). p.window) same;
    holds = λ moment. ap (λ (p : PeerWithRoom). p.held) same ∙ ap (λ slots. record was.held { slots = slots }) (not_entered-after was.window moment sa step was.held.slots why says.said says.quiet.seals);
  }

  abbrev with_entry : Record → PeerWithRoom → PeerWithRoom
  with_entry sa peer = record peer { held = record peer.held { slots = peer.held.slots ++ entered_slot peer.window sa ∷ [] }; spare = now.spare }

  pub entered : (sa : Record) (roomy : PeerWithRoom) → roomy ≡ record was { spare = roomy.spare } → now ≡ with_entry sa roomy → Says out.Entered step → IsPeerAfter (task.Enter sa) step was now
  entered sa roomy same grown says =
      let is : now ≡ with_entry sa was = grown ∙ ap (with_entry sa) same in
      record {
        window = ap (λ (p : PeerWithRoom). p.window) is;
        holds = λ moment. ap (λ (p : PeerWithRoom). p.held) is ∙ ap (λ slots. record was.held { slots = slots }) (entered-after was.window moment sa step was.held.slots says.said says.quiet.seals);
      }

module _ (datagrams : List PlainDatagram) (moment : Moment) (was now : PeerWithRoom) (step : Step) where
  -- what is so at every moment is so at this one
  at_moment : (asked : Task) → IsPeerAfter asked step was now → IsPeerAfterAt moment asked step was now
  at_moment asked after = record { window = after.window; holds = after.holds moment }

  of_peer : (P : PeerHeld → Type 0) (state : RunState) → state.peer ≡ was.held → P was.held → P state.peer
  of_peer P state sits p = subst P (sym sits) p

  peers-party : (party : Party) → member_of party ≡ None → parties.Peer ≡ party
  peers-party parties.Peer named = refl
  peers-party (parties.Member member) named = absurd (cc)

  pub imports : (sa : Record) (calls : List Call) → Refusing (not (admits was.held.slots sa)) refusal.SpiInUse calls step (Quietly (EntersRecord sa) calls step) → IsPeerAfter (task.Enter sa) step was now → PeerActs datagrams moment (event.Import sa) calls step was now
  imports sa calls does after = record {
    performs = λ state sits given. of_peer (λ peer. Refusing (not (admits peer.slots sa)) refusal.SpiInUse calls step (Quietly (EntersRecord sa) calls step)) state sits does;
    after = at_moment (task.Enter sa) after;
    own = own-step (event.Import sa) calls step (imports-proper sa (not (admits was.held.slots sa)) calls step does);
  }

  pub peer_sends : (from : Party) (spir : ℕ) (payload : WithRoom) → member_of from ≡ None → length payload.octets ≤ PAYLOAD_OCTETS → PeerSends spir was.held.slots payload.octets step → IsPeerAfter (task.Send spir payload.octets) step was now → PeerActs datagrams moment (event.Send from spir payload) [] step was now
  peer_sends from spir payload named size does after = subst (λ party. PeerActs datagrams moment (event.Send party spir payload) [] step was now) (peers-party from named) (record {
    performs = λ state sits given. (refl, of_peer (λ peer. PeerSends spir peer.slots payload.octets step) state sits does);
    after = at_moment (task.Send spir payload.octets) after;
    own = own-step (event.Send parties.Peer spir payload) [] step (peer_sends-proper spir was.held.slots payload.octets step size does);
  })

  pub peer_asks : (from : Party) (spir : ℕ) (request : WithRoom) → member_of from ≡ None → length request.octets ≤ LONGEST_REQUEST → PeerAsks spir was.held.slots (request_payloads request.octets) step → IsPeerAfter (task.Ask spir (request_payloads request.octets)) step was now → PeerActs datagrams moment (event.Ask from spir request) [] step was now
  peer_asks from spir request named size does after = subst (λ party. PeerActs datagrams moment (event.Ask party spir request) [] step was now) (peers-party from named) (record {
    performs = λ state sits given. (refl, of_peer (λ peer. PeerAsks spir peer.slots (request_payloads request.octets) step) state sits does);
    after = at_moment (task.Ask spir (request_payloads request.octets)) after;
    own = own-step (event.Ask parties.Peer spir request) [] step (peer_asks-proper spir was.held.slots (request_payloads request.octets) step (request-few request.octets size) does);
  })

  pub peer_asks_again : (from : Party) (spir id : ℕ) → member_of from ≡ None → PeerResends spir was.held.slots id step → IsPeerAfter (task.Again spir id) step was now → PeerActs datagrams moment (event.Again from spir id) [] step was now
  peer_asks_again from spir id named does after = subst (λ party. PeerActs datagrams moment (event.Again party spir id) [] step was now) (peers-party from named) (record {
    performs = λ state sits given. (refl, of_peer (λ peer. PeerResends spir peer.slots id step) state sits does);
    after = at_moment (task.Again spir id) after;
    own = record { said = peer_resends-said spir was.held.slots id step does; alone = λ none. peer_resends-alone spir was.held.slots id step does };
  })

  -- what arrives is taken by the peer

  pub asks_ticket : (spir : ℕ) → PeerAsks spir was.held.slots ticket_request_payloads step → IsPeerAfter (task.Ask spir ticket_request_payloads) step was now → PeerActs datagrams moment (event.Ticket spir) [] step was now
  asks_ticket spir does after = record {
    performs = λ state sits given. (refl, of_peer (λ peer. PeerAsks spir peer.slots ticket_request_payloads step) state sits does);
    after = at_moment (task.Ask spir ticket_request_payloads) after;
    own = own-step (event.Ticket spir) [] step (peer_asks-proper spir was.held.slots ticket_request_payloads step ticket_request-few does);
  }

  pub forgets : (spir : ℕ) → PeerForgets spir was.held.slots step → IsPeerAfter (task.Forget spir) step was now → PeerActs datagrams moment (event.Forget spir) [] step was now
  forgets spir does after = record {
    performs = λ state sits given. (refl, of_peer (λ peer. PeerForgets spir peer.slots step) state sits does);
    after = at_moment (task.Forget spir) after;
    own = own-step (event.Forget spir) [] step (peer_forgets-proper spir was.held.slots step does);
  }

  pub peer_takes : (at : Event) → named_in at ≡ None → (datagram : PlainDatagram) → arrives datagrams at ≡ Ok datagram → PeerTakesIn datagram.medium moment datagram.octets step was now → PeerActs datagrams moment at [] step was now
  peer_takes at named datagram found it =
      let brought = brings datagrams at datagram found in
      let to : parties.Peer ≡ brought.0 = peers-party brought.0 (sym brought.1.named ∙ named) in
      record {
        performs = λ state sits given. brought.1.performs state moment [] step
            (subst (λ found. Receives state moment brought.0 found [] step) (sym (ap (λ ds. arrives ds at) given ∙ found))
            (subst (λ party. Receives state moment party (Ok datagram) [] step) to (of_peer (λ peer. PeerGets datagram.medium peer.slots datagram.octets [] step) state sits it.0)));
        after = subst (λ t. IsPeerAfterAt moment t step was now) (sym brought.1.peer) it.1;
        own = record { said = peer_gets-said datagram.medium was.held.slots datagram.octets [] step it.0; alone = λ none. let never = sym (ap is_some none) ∙ brought.1.delivers in absurd (cc) };
      }

module _ (past : List Turn) (s : EndsHeld) (moment : Moment) (in_place : AreInPlace s) (step : Step) where
  -- a member ends
  pub crashes : (member place : ℕ) → IsMemberPlace member place s.members → Says out.Down step → Acts past s moment (event.Crash member) [] step (record s { members = set s.members place None })
  crashes member place is says = record {
    performs = record { no_calls = refl; says = says };
    holds = subst (λ n. Holds past s moment (event.Crash n) [] step (record s { members = set s.members place None })) (sym (counted member place s.members is)) (crash-holds past s moment [] step place is.within refl says.said says.quiet.seals);
    in_place = ended-in_place s place is.within in_place;
  }

  -- one joins
  pub joins : (fresh : List ℕ) → Says (out.Member (length s.members + 1)) step
      → Acts past s moment (event.Join fresh) [] step (record s { members = s.members ++ Some (record { number = length s.members + 1; config = s.config; fresh = fresh; held = []; numbers = no_ticket_numbers }) ∷ [] })
  joins fresh says =
      let x : Holder = record { number = length s.members + 1; config = s.config; fresh = fresh; held = []; numbers = no_ticket_numbers } in
      let last : length s.members + 1 ≡ suc (length s.members) = omega arith in
      record {
        performs = record { no_calls = refl; says = says };
        holds = join-holds past s moment fresh [] step x refl refl refl refl (length s.members + 1) last says.said says.quiet.seals;
        in_place = joined-in_place s x in_place (record { number_is = last; config_is = refl });
      }

-- the cluster is configured
pub is_configured : (past : List Turn) (s : EndsHeld) (moment : Moment) (config : Configuration) (ticket_key : List ℕ) (step : Step) → config.ticket_key ≡ first_ticket_key ticket_key → s.members ≡ [] → Says out.Configured step
    → Acts past s moment (event.Cluster config.identity config.lifetime config.window ticket_key) [] step (record s { config = config; peer = record s.peer { gateway = gateway_of config } })
is_configured past s moment config ticket_key step same nobody says = record {
  performs = record { no_calls = refl; says = says };
  holds = configured-holds past s moment config ticket_key same [] step says.said;
  in_place = λ place holder l sits. absurd (omega (arith, l, ap length nobody));
}
