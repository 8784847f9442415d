-- The requests that an end answered are those that it took.
use Rattle.std.proofs.Common.{◌≡◌, ℕ, ◌↔◌, Option, Some, None, List, subst}
use Rattle.std.proofs.lemmas.Option.{same_Some}
use Rattle.std.specs.List.{Contains, filter_map}
use Rattle.std.specs.Option.{option_map}
use Rattle.events.specs.declared.event.Event.{Event}
use Rattle.events.specs.declared.turn.Turn.{Turn}
use Rattle.events.specs.declared.verdict.Verdict.{Verdict}
use Rattle.ike_window.proofs.Windows.{answered_have, made_window, repeats_are}
use Rattle.ike_window.specs.Kept.{KeptMessage, message_ids_of}
use Rattle.ike_window.specs.Stored.{window_of_responses}
use Rattle.ike_window.specs.Windows.{IsAnswered}
use Rattle.keeper_book.specs.declared.records.Record.{Record}
use Rattle.keeper_book.specs.declared.records.Taken.{Taken}
use Rattle.turn_laws.proofs.Answered.{AreAnswering, answered-member, answered-peer, ids-answered, since-all, since_entered-all}
use Rattle.turn_laws.proofs.Deeds.{IsAnswering}
use Rattle.turn_laws.proofs.Lists.{all-filter}
use Rattle.turn_laws.proofs.Records.{answering-run}
use Rattle.turn_laws.specs.Answered.{KeepsTaken, ids_taken}
use Rattle.turn_laws.specs.Turns.{answered, answered_in}
use Rattle.turn_rules.specs.Ends.{Member, Peer, Performer, is_by, own}
use Rattle.turn_rules.specs.Held.{Held, agreements_of, floor_of, found, grant_of, held_by, holding, since, window_by}
use Rattle.turn_rules.specs.IkeState.{turn_agreed, turn_response}
use Rattle.turn_rules.specs.Local.{Explained}
use Rattle.turn_rules.specs.Slots.{since_entered, slot_by}
use Rattle.turn_rules.specs.Tasks.{Task, member_task, peer_task}

module _ (floor : ℕ) (task_of : Event → Task) (same : (spir : ℕ) (event : Event) (verdict : Verdict) → answered spir event verdict ≡ answered_in spir (task_of event) verdict) (spir : ℕ) (turns : List Turn) (answering : AreAnswering turns) where
  abbrev stored : List KeptMessage
  stored = filter_map (turn_response task_of spir) turns

  ids : message_ids_of stored ≡ ids_taken spir turns
  ids = ids-answered task_of same spir turns answering

  keeps : KeepsTaken (window_of_responses floor stored) task_of spir turns
  keeps = record {
    taken = λ id from. subst (λ ns. IsAnswered (window_of_responses floor stored) id ↔ Contains ns id) ids (answered_have floor stored id from);
    octets = λ id from near. repeats_are floor stored (window_of_responses floor stored) id (made_window floor stored) from near;
  }

-- in each of an end's own turns what was taken was answered
answering-own : (boxes : ℕ) (past : List Turn) → Explained boxes past → (end : Performer) → AreAnswering (own end past)
answering-own boxes past local end = all-filter (λ (turn : Turn). IsAnswering turn.step) (is_by end) past (answering-run boxes past local)

-- what own turns say that a member holds of the association
holding-keeps : (size spir : ℕ) (mine : List Turn) (held : Held) → AreAnswering mine → (x : Option Taken) → option_map (holding size spir mine) x ≡ Some held
    → KeepsTaken held.answered member_task spir (since spir mine)
holding-keeps size spir mine held answering None is = absurd (cc)
holding-keeps size spir mine held answering (Some taken) is =
    subst (λ (y : Held). KeepsTaken y.answered member_task spir (since spir mine)) (same_Some (holding size spir mine taken) held is)
    (keeps (floor_of taken.bases.answer (agreements_of spir mine)) member_task answered-member spir (since spir mine) (since-all (λ turn. IsAnswering turn.step) spir mine answering))

pub members-keep : (boxes : ℕ) (past : List Turn) → Explained boxes past → (member spir : ℕ) (held : Held)
    → held_by (window_by past) (own (Member member) past) spir ≡ Some held
    → KeepsTaken held.answered member_task spir (since spir (own (Member member) past))
members-keep boxes past local member spir held is =
    holding-keeps (window_by past) spir (own (Member member) past) held (answering-own boxes past local (Member member)) (found (grant_of spir) (own (Member member) past)) is

pub peer-keeps : (boxes : ℕ) (past : List Turn) → Explained boxes past → (sa : Record)
    → KeepsTaken (slot_by (window_by past) (own Peer past) sa).answered peer_task sa.spir (since_entered sa.spir (own Peer past))
peer-keeps boxes past local sa = keeps (floor_of sa.starts.ask (filter_map (turn_agreed peer_task sa.spir) (since_entered sa.spir (own Peer past)))) peer_task answered-peer sa.spir (since_entered sa.spir (own Peer past))
    (since_entered-all (λ turn. IsAnswering turn.step) sa.spir (own Peer past) (answering-own boxes past local Peer))
