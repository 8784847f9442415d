-- A packet is received at the place of what receives at its SPI.
use Rattle.std.proofs.Common.{◌≡◌, [], inl, inr, refl, ap, subst}
use Rattle.esp_packets.specs.Packet.{spi_of}
use Rattle.ha_base.specs.declared.esp_outcomes.EspDrop.TheVariants as drop
use Rattle.keeper_book.proofs.Asking.{asks_none}
use Rattle.turn_rules.specs.Held.{held_at}
use Rattle.turn_rules.specs.MemberPackets.{IsReceiver}
use Rattle.turn_rules.specs.Tasks as task
use Rattle.cluster_member.proofs.AtPlace.{holds-here, stays-apart}
use Rattle.cluster_member.proofs.Placed.{dropped-holds}
use Rattle.cluster_member.proofs.ReceiverLemmas.{nowhere, place_is, receiver_at}
use Rattle.cluster_member.proofs.holdings.Holdings.receive_at.Goals as goal
use Rattle.cluster_member.specs.Places.{AllHeld, IsLeastAt, IsHoldingPlace, NoneReceives}

pub invariant_of-self : goal.invariant_of-self
invariant_of-self g c =
    let items = c.self.inside.items.items in
    let holding = c.index_mut-holding.result.now in
    let new = c.receive.new.self in
    let least : IsLeastAt c.args.spi c.in-Some.place items items = rw c.deref.ensures.value at c.in-Some.ensures in
    let place : IsHoldingPlace holding.sa.spir c.in-Some.place items = place_is c.in-Some.place items holding c.self.invariant least.within c.index_mut-holding.ensures.value in
    stays-apart holding.sa.spir c.in-Some.place items holding new place c.index_mut-holding.ensures.value c.receive.ensures.sa c.self.invariant

pub returns-in-Some-clause-receives : goal.returns-in-Some-clause-receives
returns-in-Some-clause-receives g c =
    let items = c.self.inside.items.items in
    let holding = c.index_mut-holding.result.now in
    let new = c.receive.new.self in
    let it = c.receive.ensures.receives in
    let old : items ≡ c.args.self.now.held = ap (λ (v : AllHeld). v.held) c.self.view_is in
    let least : IsLeastAt c.args.spi c.in-Some.place items items = rw c.deref.ensures.value at c.in-Some.ensures in
    let place : IsHoldingPlace holding.sa.spir c.in-Some.place items = place_is c.in-Some.place items holding c.self.invariant least.within c.index_mut-holding.ensures.value in
    let receiver : IsReceiver (held_at c.args.self.now.held) (spi_of c.args.bytes.now) holding.sa.spir holding =
    subst (λ spi. IsReceiver (held_at c.args.self.now.held) spi holding.sa.spir holding) c.requires.spi
    (subst (λ hs. IsReceiver (held_at hs) c.args.spi holding.sa.spir holding) old
    (receiver_at c.args.spi c.in-Some.place items holding c.self.invariant least c.index_mut-holding.ensures.value)) in
    record {
      calls = it.calls;
      follows = (
        inr (record {
          spir = holding.sa.spir;
          receiver = holding;
          is_receiver = receiver;
          receives = it.follows.0;
        }),
        λ step worded quiet. holds-here holding.sa.spir c.in-Some.place items holding new place c.index_mut-holding.ensures.value c.receive.ensures.sa c.args.self.now.held old (λ k. task.Receive) it.calls step (it.follows.1 step worded quiet),
      );
      asked = it.asked;
      held = it.held;
    }

pub returns-in-None-clause-receives : goal.returns-in-None-clause-receives
returns-in-None-clause-receives g c =
    let items = c.self.inside.items.items in
    let old : items ≡ c.args.self.now.held = ap (λ (v : AllHeld). v.held) c.self.view_is in
    let none : NoneReceives c.args.spi items = rw c.deref.ensures.value at c.in-None.ensures in
    record {
      calls = [];
      follows = (
        inl (
          nowhere (spi_of c.args.bytes.now) c.args.self.now.held (subst (λ spi. NoneReceives spi c.args.self.now.held) c.requires.spi (subst (NoneReceives c.args.spi) old none)),
          (refl, record { said = refl; same = refl }),
        ),
        λ step worded quiet. dropped-holds step drop.WrongSpi c.args.bytes.now c.args.self.now.held worded quiet,
      );
      asked = asks_none c.args.keeper.now;
      held = refl;
    }
