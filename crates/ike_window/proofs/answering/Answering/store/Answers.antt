use Rattle.std.proofs.Common.{◌+◌, lit<, arith}
use Rattle.ike_window.specs.Requests.{IsNewRequest}
use Rattle.ike_window.specs.Windows.{IsAnswered}
use Rattle.ike_window.proofs.Keeping.{new_not_among, seen, stored_window, stored_as}
use Rattle.ike_window.proofs.Rising.{below_inserted}
use Rattle.ike_window.proofs.answering.Answering.store.Goals as goal

pub insert-requires : goal.insert-requires
insert-requires c =
    let new : IsNewRequest c.self.inside.low (IsAnswered (seen c.self.inside.floor c.self.inside.low c.self.inside.ring)) c.args.id = rw
    (← c.self.view_is) at c.requires in (
      lit< tt,
      (
        (let from = new.from in let below = c.self.invariant.room_below in omega arith),
        (
          (let within = new.within in let above = c.self.invariant.room_above in omega arith),
          new_not_among c.self.inside.floor c.self.inside.low c.self.inside.ring c.args.id new,
        ),
      ),
    )

pub settle-self-inside-requires-clause-below : goal.settle-self-inside-requires-clause-below
settle-self-inside-requires-clause-below c =
    let new : IsNewRequest c.self.inside.low (IsAnswered (seen c.self.inside.floor c.self.inside.low c.self.inside.ring)) c.args.id = rw
    (← c.self.view_is) at c.requires in
    rw c.insert.ensures (below_inserted (c.self.inside.low + 8)
    (record { id = c.args.id; octets = c.args.response.octets }) c.self.inside.ring.kept new.within c.self.invariant.below)

pub settle-self-inside-requires-clause-below_the_end : goal.settle-self-inside-requires-clause-below_the_end
settle-self-inside-requires-clause-below_the_end c =
    let new : IsNewRequest c.self.inside.low (IsAnswered (seen c.self.inside.floor c.self.inside.low c.self.inside.ring)) c.args.id = rw
    (← c.self.view_is) at c.requires in
    rw c.insert.ensures (below_inserted 4294967295
    (record { id = c.args.id; octets = c.args.response.octets }) c.self.inside.ring.kept new.below_the_end c.self.invariant.below_the_end)

pub invariant_of-self : goal.invariant_of-self
invariant_of-self c =
    let new : IsNewRequest c.self.inside.low (IsAnswered (seen c.self.inside.floor c.self.inside.low c.self.inside.ring)) c.args.id = rw
    (← c.self.view_is) at c.requires in
    stored_window c.self.inside.floor c.self.inside.low c.settle-self-inside.result c.self.inside.ring c.settle-self-inside.new.ring
    (record { id = c.args.id; octets = c.args.response.octets }) c.self.invariant
    (rw c.insert.ensures at c.settle-self-inside.ensures.low) (rw c.insert.ensures at c.settle-self-inside.ensures.kept)
    new c.settle-self-inside.ensures.first

pub returns : goal.returns
returns c =
    rw (← c.self.view_is)
    (stored_as c.self.inside.floor c.self.inside.low c.settle-self-inside.result c.self.inside.ring c.settle-self-inside.new.ring
    (record { id = c.args.id; octets = c.args.response.octets }) c.self.invariant
    (rw c.insert.ensures at c.settle-self-inside.ensures.low) (rw c.insert.ensures at c.settle-self-inside.ensures.kept))
