use Rattle.report_text.proofs.sync_verdicts.put_sync_accepted.Goals as goal

pub returns : goal.returns
returns c = rw (c.in_ok-put_number.ensures, c.in_ok-put_ids.ensures) at c.put_numbers.ensures
