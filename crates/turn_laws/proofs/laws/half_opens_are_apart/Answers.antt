use Rattle.turn_laws.proofs.Halves.{half-above, half-alone, half-none, half-unheld, half-unused, high-above, later-above, opened-drawn, recorded-its, used-drawn}
use Rattle.turn_laws.proofs.laws.half_opens_are_apart.Goals as goal

pub returns-clause-alone : goal.returns-clause-alone
returns-clause-alone c = half-alone

pub returns-clause-unused : goal.returns-clause-unused
returns-clause-unused c = half-unused

pub returns-clause-none_yet : goal.returns-clause-none_yet
returns-clause-none_yet c = half-none

pub returns-clause-above : goal.returns-clause-above
returns-clause-above c = half-above

pub returns-clause-unheld : goal.returns-clause-unheld
returns-clause-unheld c = half-unheld

pub returns-clause-goes_on : goal.returns-clause-goes_on
returns-clause-goes_on c acts book owned = owned.goes_on

pub returns-clause-later : goal.returns-clause-later
returns-clause-later c = later-above

pub returns-clause-high : goal.returns-clause-high
returns-clause-high c = high-above

pub returns-clause-drawn : goal.returns-clause-drawn
returns-clause-drawn c = opened-drawn

pub returns-clause-its_record : goal.returns-clause-its_record
returns-clause-its_record c acts book owned spir o is e found = (recorded-its acts book owned spir o is e found).0

pub returns-clause-spent : goal.returns-clause-spent
returns-clause-spent c acts book owned spir o is e found = (recorded-its acts book owned spir o is e found).1

pub returns-clause-used : goal.returns-clause-used
returns-clause-used c = used-drawn
