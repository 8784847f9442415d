-- What is dropped or repeated changes nothing.
use Rattle.turn_rules.proofs.Cases.{ok-map}
use Rattle.cluster_peer.proofs.MessageLaws.{drop-kept, repeat-kept}
use Rattle.cluster_peer.proofs.slots.Slots.take_arrival.Goals as goal

pub returns-in-Dropped-clause-after : goal.returns-in-Dropped-clause-after
returns-in-Dropped-clause-after g c = drop-kept c.args.now _ c.drop_message.result c.args.self.now.slots c.drop_message.ensures

pub returns-in-Resumption-clause-after : goal.returns-in-Resumption-clause-after
returns-in-Resumption-clause-after g c = drop-kept c.args.now _ c.drop_message-in-Resumption.result c.args.self.now.slots c.drop_message-in-Resumption.ensures

pub returns-in-Repeat-clause-after : goal.returns-in-Repeat-clause-after
returns-in-Repeat-clause-after g c = repeat-kept c.args.now _ _ c.repeat.result c.args.self.now.slots c.repeat.ensures

-- what is answered is answered so at any moment
pub returns-in-Synchronisation-clause-after : goal.returns-in-Synchronisation-clause-after
returns-in-Synchronisation-clause-after g c = ok-map c.synchronise.result (λ step after. after c.args.now) c.synchronise.ensures.after

pub returns-clause-after : goal.returns-clause-after
returns-clause-after g c = ok-map c.take_request.result (λ step after. after c.args.now) c.take_request.ensures.after
