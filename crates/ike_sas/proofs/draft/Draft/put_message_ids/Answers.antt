use Rattle.ike_sas.proofs.draft.Draft.put_message_ids.Goals as goal

pub returns-clause-payloads : goal.returns-clause-payloads
returns-clause-payloads c = rw c.octets.ensures at c.put_notify.ensures.payloads
