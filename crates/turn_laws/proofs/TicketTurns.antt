-- What a member's own turns say that is left of its lot of tickets is what the acts of all turns make of it.
use Rattle.std.proofs.Common.{◌≡◌, ◌≢◌, ℕ, ◌+◌, ◌<◌, ◌≤◌, max, Bool, true, false, Option, Some, None, List, [], ◌∷◌, ◌++◌, length, map, option_to_list, ◌⊎◌, ⊎_elim, refl, ap, sym, ◌∙◌, subst, arith, if◌then◌else◌}
use Rattle.std.specs.Prelude.{reverse}
use Rattle.std.specs.List.{AllByRecursion}
use Rattle.std.specs.Option.{option_map}
use Rattle.events.specs.declared.event.Event.{Event}
use Rattle.events.specs.declared.turn.Step.{Step}
use Rattle.events.specs.declared.turn.Turn.{Turn}
use Rattle.keeper_book.specs.Told.{seen}
use Rattle.keeper_book.specs.declared.calls.Call.{Call}
use Rattle.keeper_book.specs.declared.pools.Pool.{Pool}
use Rattle.keeper_book.specs.declared.pools.Pool.TheVariants as pools
use Rattle.pool_lots.specs.Lots.{leased_lot}
use Rattle.pool_lots.specs.declared.lots.TheConstants.{LEASED_NUMBERS}
use Rattle.spend_once.specs.Lot.{Remaining}
use Rattle.turn_laws.proofs.Acting.{moves_onto}
use Rattle.turn_laws.proofs.Begun.{is_place-true}
use Rattle.turn_laws.proofs.Covers.{are_ready-calls}
use Rattle.turn_laws.proofs.Deeds.{AreReady, AreTicketsTold, Asked, Deed, Ended, InVain, IsLotReady, Leased, Left, LotNeed, Need, Rested, Rests, Used, Used_theirs, UsesIt, lots_of, rest_of, spent_by, untaken-ticket, with_lot}
use Rattle.turn_laws.proofs.Listed.{moved}
use Rattle.turn_laws.proofs.Moved.{moved-holds, having-none, rest-using}
use Rattle.turn_laws.proofs.Outcomes.{idle-untaken, over-rest, rests-rest}
use Rattle.turn_laws.proofs.Members.{is_end-false, is_end-true}
use Rattle.turn_laws.proofs.Runs.{others-hold}
use Rattle.turn_laws.proofs.Settled.{lease-lot}
use Rattle.turn_laws.proofs.Uses.{Spent, all-among, spent_at, spent_of, uses-moved}
use Rattle.turn_laws.specs.Acts.{Act, Calls, act_by, begun_at, effect_begun, holding_at, lot_begun, lot_of}
use Rattle.turn_laws.specs.Holdings.{Actor, End, Holding, holding_after}
use Rattle.turn_laws.specs.OwnTurns.{left_of_lot}
use Rattle.turn_laws.specs.PeerTurns.{having_used}
use Rattle.turn_laws.specs.Places.{Place, Pooled, is_place}
use Rattle.turn_laws.specs.Turns.{actor_as, actor_of, acts_of, moves_of}
use Rattle.turn_rules.specs.Configurations.{first_ticket_counter}
use Rattle.turn_rules.specs.Ends.{Member, Peer, is_by, own, performer, performer_at}
use Rattle.turn_rules.specs.Held.{first_some}
use Rattle.turn_rules.specs.TicketNumbers.{after_lease, after_ticket, first_leased, lease_in, numbers_after, numbers_by, ticket_number}

abbrev tickets : Place
tickets = Pooled pools.Ticket

-- what holds of the numbers of a place among those that were spent
spent-hold : (p : Place) (P : ℕ → Type 0) (ss : List Spent) → AllByRecursion (λ s. s.place ≡ p → P s.number) ss
    → AllByRecursion P (spent_at p ss)
spent-hold p P [] all = tt
spent-hold p P (s ∷ ss) all = by_test (is_place s.place p) refl (spent-hold p P ss all.1)
  where
    by_test : (b : Bool) → is_place s.place p ≡ b → AllByRecursion P (spent_at p ss) → AllByRecursion P (spent_at p (s ∷ ss))
    by_test true t rest = rw t (all.0 (is_place-true s.place p t), rest)
    by_test false t rest = rw t rest

-- what was left of a lot has the name of the first key
left-named : (x : Option Holding) → (left_of_lot x).name ≡ first_ticket_counter
left-named None = refl
left-named (Some h) = refl

module _ (past : List Turn) (member : ℕ) (event : Event) (step : Step) where
  abbrev w : Actor
  w = End (Member member)

  -- what the member holds after these acts, and what is left of it
  abbrev lot_at : List Act → Option Holding
  lot_at acts = holding_at tickets acts w

  abbrev left_at : List Act → Remaining
  left_at acts = left_of_lot (lot_at acts)

  abbrev IsWithin : Remaining → Type 0
  IsWithin lot = lot.next ≤ lot.end

  -- after calls and the moves beside them that is what the turn leaves
  record LeavesLot (acts : List Act) (calls : List Call) : Type 0 where
    left : left_at (moves_onto w (map Calls calls ++ rest_of event step) acts) ≡ numbers_after calls step (left_at acts)
    within : IsWithin (numbers_after calls step (left_at acts))

  -- a call that leases nothing comes before others
  unleased-first : (acts : List Act) (call : Call) (calls : List Call) → lot_at (act_by w (Calls call) ∷ acts) ≡ lot_at acts
      → first_leased call.asked (seen call) ≡ None → LeavesLot (act_by w (Calls call) ∷ acts) calls → LeavesLot acts (call ∷ calls)
  unleased-first acts call calls same none later = record {
    left = later.left ∙ is;
    within = subst IsWithin is later.within;
  }
    where
      is : numbers_after calls step (left_at (act_by w (Calls call) ∷ acts)) ≡ numbers_after (call ∷ calls) step (left_at acts)
      is = ap (λ x. numbers_after calls step (left_of_lot x)) same
          ∙ sym (ap (λ x. after_ticket (ticket_number step.verdict) (after_lease (first_some x (lease_in calls)) (left_at acts))) none)

  -- what is held after the moves beside the calls, by the number of the ticket
  held-now : (acts : List Act) (ticket : Option ℕ) → moved tickets (rest_of event step) ≡ option_to_list ticket
      → lot_at (moves_onto w (rest_of event step) acts) ≡ option_map (having_used (reverse (option_to_list ticket))) (lot_at acts)
  held-now acts ticket numbers = moved-holds tickets w (rest_of event step) (rest-using event step) acts
      ∙ ap (λ ns. option_map (having_used (reverse ns)) (lot_at acts)) numbers

  none-leaves : (acts : List Act) → IsWithin (left_at acts) → ticket_number step.verdict ≡ None → moved tickets (rest_of event step) ≡ []
      → LeavesLot acts []
  none-leaves acts within none numbers = record {
    left = ap left_of_lot (held-now acts None numbers ∙ having-none (lot_at acts)) ∙ is;
    within = subst IsWithin is within;
  }
    where
      is : left_at acts ≡ numbers_after [] step (left_at acts)
      is = sym (ap (λ t. after_ticket t (left_at acts)) none)

  -- the next number of the lot is used
  next-leaves : (acts : List Act) (h : Holding) → lot_at acts ≡ Some h → h.next < h.high → ticket_number step.verdict ≡ Some h.next
      → moved tickets (rest_of event step) ≡ h.next ∷ [] → LeavesLot acts []
  next-leaves acts h holds below some numbers = record {
    left = ap left_of_lot (held-now acts (Some h.next) numbers ∙ ap (option_map (having_used (h.next ∷ []))) holds) ∙ is;
    within = subst IsWithin is (let n : max (h.next + 1) h.next ≡ h.next + 1 = next in omega (arith, below, n));
  }
    where
      next : max (h.next + 1) h.next ≡ h.next + 1
      next = omega arith

      used : left_of_lot (Some (having_used (h.next ∷ []) h)) ≡ after_ticket (Some h.next) (left_of_lot (Some h))
      used i = record { name = first_ticket_counter; next = next i; end = h.high }

      is : left_of_lot (Some (having_used (h.next ∷ []) h)) ≡ numbers_after [] step (left_at acts)
      is = used ∙ sym (ap (λ t. after_ticket t (left_at acts)) some ∙ ap (λ x. after_ticket (Some h.next) (left_of_lot x)) holds)

  rests-leaves : (acts : List Act) → IsWithin (left_at acts) → Rests step → LeavesLot acts []
  rests-leaves acts within rests = none-leaves acts within (untaken-ticket step.verdict (idle-untaken step.verdict rests.idle))
      (ap (moved tickets) (rests-rest event step rests))

  module _ (needed : List Spent) (it : UsesIt needed event step) where
    its-numbers : moved tickets (rest_of event step) ≡ option_to_list (ticket_number step.verdict)
    its-numbers = uses-moved tickets it.ss (rest_of event step) it.uses_them ∙ it.tickets

    its-hold : (P : ℕ → Type 0) → AllByRecursion (λ s. s.place ≡ tickets → P s.number) needed
        → AllByRecursion P (option_to_list (ticket_number step.verdict))
    its-hold P all = subst (λ ns. AllByRecursion P ns) it.tickets (spent-hold tickets P it.ss
        (all-among (λ s. s.place ≡ tickets → P s.number) it.ss needed all it.were_needed))

    -- no number of the pool was needed
    other-leaves : (acts : List Act) → IsWithin (left_at acts) → AllByRecursion (λ s. s.place ≢ tickets) needed → LeavesLot acts []
    other-leaves acts within all = go (ticket_number step.verdict) refl
      where
        go : (x : Option ℕ) → ticket_number step.verdict ≡ x → LeavesLot acts []
        go None e = none-leaves acts within e (its-numbers ∙ ap option_to_list e)
        go (Some n) e = absurd (subst (λ x. AllByRecursion (λ n. ⊥) (option_to_list x)) e (its-hold (λ n. ⊥) all)).0

    -- the next number was
    lot-leaves : (acts : List Act) (h : Holding) → lot_at acts ≡ Some h → h.next < h.high
        → AllByRecursion (λ s. s.place ≡ tickets → s.number ≡ h.next) needed → LeavesLot acts []
    lot-leaves acts h holds below all = go (ticket_number step.verdict) refl
      where
        within : IsWithin (left_at acts)
        within = subst (λ x. IsWithin (left_of_lot x)) (sym holds) (omega (arith, below))

        go : (x : Option ℕ) → ticket_number step.verdict ≡ x → LeavesLot acts []
        go None e = none-leaves acts within e (its-numbers ∙ ap option_to_list e)
        go (Some n) e =
            let same : n ≡ h.next = (subst (λ x. AllByRecursion (λ n. n ≡ h.next) (option_to_list x)) e (its-hold (λ n. n ≡ h.next) all)).0
            in
            next-leaves acts h holds below (e ∙ ap Some same) (its-numbers ∙ (ap option_to_list e ∙ ap (λ k. k ∷ []) same))

  -- numbers of associations are none of the pool
  needs-elsewhere : (needs : List (Need past member)) → AllByRecursion (λ s. s.place ≢ tickets) (map spent_by needs)
  needs-elsewhere [] = tt
  needs-elsewhere (need ∷ needs) = ((λ same. absurd (cc)), needs-elsewhere needs)

  needs-next : (n : ℕ) (needs : List (Need past member)) → AllByRecursion (λ s. s.place ≡ tickets → s.number ≡ n) (map spent_by needs)
  needs-next n [] = tt
  needs-next n (need ∷ needs) = ((λ same. absurd (cc)), needs-next n needs)

  abbrev IsAsBefore : List Act → Type 0
  IsAsBefore acts = lot_at acts ≡ lots_of past member pools.Ticket

  -- a call that was answered so leaves the lot
  same-lot : (acts : List Act) (call : Call) → lot_of pools.Ticket (length (begun_at tickets acts).bases) call.asked (seen call) ≡ None
      → lot_at (act_by w (Calls call) ∷ acts) ≡ lot_at acts
  same-lot acts call none = ap (λ x. holding_after (effect_begun w x) (holding_at tickets acts) w) none

  module _ (needs : List (Need past member)) where
    abbrev needed : List Spent
    needed = map spent_by needs

    without-leaves : (acts : List Act) → IsWithin (left_at acts) → Rests step ⊎ UsesIt needed event step → LeavesLot acts []
    without-leaves acts within so = ⊎_elim (λ rests. rests-leaves acts within rests)
        (λ it. other-leaves needed it acts within (needs-elsewhere needs)) so

    -- a number of the pool of tickets, or of another one
    pool-leaves : (q : Pool) (number : ℕ) (acts : List Act) → IsAsBefore acts → IsWithin (left_at acts) → (calls : List Call)
        → IsLotReady (Some (record { pool = q; number = number })) (lots_of past member) calls (Rests step ⊎ UsesIt needed event step)
        (UsesIt (spent_of (Pooled q) number ∷ needed) event step) → LeavesLot acts calls
    pool-leaves pools.Ticket number acts same within calls (Left h holds below is ended it) = subst (LeavesLot acts) (sym ended)
        (lot-leaves (spent_of tickets number ∷ needed) it acts h (same ∙ holds) below ((λ at. is), needs-next h.next needs))
    pool-leaves pools.Ticket number acts same within calls (Leased call one asked sees it) = subst (LeavesLot acts) (sym one) (record {
      left = later.left ∙ is;
      within = subst IsWithin is later.within;
    })
      where
        now : List Act
        now = act_by w (Calls call) ∷ acts

        begun : Holding
        begun = lot_begun (length (begun_at tickets acts).bases) pools.Ticket number LEASED_NUMBERS

        holds : lot_at now ≡ Some begun
        holds = lease-lot acts w pools.Ticket number LEASED_NUMBERS call asked sees

        later : LeavesLot now []
        later = lot-leaves (spent_of tickets number ∷ needed) it now begun holds (omega arith) ((λ at. refl), needs-next number needs)

        leased : left_at now ≡ leased_lot (left_at acts) number
        leased = ap left_of_lot holds ∙ (λ i. record {
          name = sym (left-named (lot_at acts)) i;
          next = number;
          end = number + LEASED_NUMBERS;
        })

        first : first_leased call.asked (seen call) ≡ Some number
        first = rw (asked, sees)

        is : numbers_after [] step (left_at now) ≡ numbers_after (call ∷ []) step (left_at acts)
        is = ap (after_ticket (ticket_number step.verdict)) leased
            ∙ sym (ap (λ x. after_ticket (ticket_number step.verdict) (after_lease (first_some x None) (left_at acts))) first)
    pool-leaves pools.Ticket number acts same within calls (InVain call why one asked sees so) = subst (LeavesLot acts) (sym one)
        (unleased-first acts call [] kept (rw (asked, sees)) (without-leaves (act_by w (Calls call) ∷ acts)
        (subst (λ x. IsWithin (left_of_lot x)) (sym kept) within) so))
      where
        kept : lot_at (act_by w (Calls call) ∷ acts) ≡ lot_at acts
        kept = rw (asked, sees) refl
    pool-leaves pools.Nonce number acts same within calls (Left h holds below is ended it) = subst (LeavesLot acts) (sym ended)
        (other-leaves (spent_of (Pooled pools.Nonce) number ∷ needed) it acts within ((λ at. absurd (cc)), needs-elsewhere needs))
    pool-leaves pools.Nonce number acts same within calls (Leased call one asked sees it) = subst (LeavesLot acts) (sym one)
        (unleased-first acts call [] kept (rw asked refl) (other-leaves (spent_of (Pooled pools.Nonce) number ∷ needed) it
        (act_by w (Calls call) ∷ acts) (subst (λ x. IsWithin (left_of_lot x)) (sym kept) within)
        ((λ at. absurd (cc)), needs-elsewhere needs)))
      where
        kept : lot_at (act_by w (Calls call) ∷ acts) ≡ lot_at acts
        kept = rw (asked, sees) refl
    pool-leaves pools.Nonce number acts same within calls (InVain call why one asked sees so) = subst (LeavesLot acts) (sym one)
        (unleased-first acts call [] kept (rw asked refl) (without-leaves (act_by w (Calls call) ∷ acts)
        (subst (λ x. IsWithin (left_of_lot x)) (sym kept) within) so))
      where
        kept : lot_at (act_by w (Calls call) ∷ acts) ≡ lot_at acts
        kept = rw (asked, sees) refl

    need-leaves : (lot : Option LotNeed) (acts : List Act) → IsAsBefore acts → IsWithin (left_at acts) → (calls : List Call)
        → IsLotReady lot (lots_of past member) calls (Rests step ⊎ UsesIt needed event step) (UsesIt (with_lot lot needed) event step)
        → LeavesLot acts calls
    need-leaves None acts same within calls last = subst (LeavesLot acts) (sym last.ended)
        (other-leaves needed last.is acts within (needs-elsewhere needs))
    need-leaves (Some need) acts same within calls ready = pool-leaves need.pool need.number acts same within calls ready

    -- numbers get ready, and are used
    uses-leaves : (lot : Option LotNeed) (acts : List Act) → IsAsBefore acts → IsWithin (left_at acts) → (calls : List Call)
        → AreReady needs calls (Rests step) (λ rest. IsLotReady lot (lots_of past member) rest (Rests step ⊎ UsesIt needed event step)
        (UsesIt (with_lot lot needed) event step)) → LeavesLot acts calls
    uses-leaves lot acts same within calls ready = are_ready-calls Leaves (Rests step) _
        (λ call rest cover later acts same within.
        let kept : lot_at (act_by w (Calls call) ∷ acts) ≡ lot_at acts = (let asked : _ = cover.asked in rw asked refl) in
        let none : first_leased call.asked (seen call) ≡ None = (let asked : _ = cover.asked in rw asked refl) in
        unleased-first acts call rest kept none (later (act_by w (Calls call) ∷ acts) (kept ∙ same)
        (subst (λ x. IsWithin (left_of_lot x)) (sym kept) within)))
        (λ rest last acts same within. subst (LeavesLot acts) (sym last.ended) (rests-leaves acts within last.is))
        (λ rest so acts same within. need-leaves lot acts same within rest so)
        needs calls ready acts same within
      where
        Leaves : List Call → Type 0
        Leaves calls = (acts : List Act) → IsAsBefore acts → IsWithin (left_at acts) → LeavesLot acts calls

module _ (past : List Turn) (event : Event) (calls : List Call) (step : Step)
    (within : (member : ℕ) → (left_of_lot (lots_of past member pools.Ticket)).next ≤ (left_of_lot (lots_of past member pools.Ticket)).end)
  where
    -- what a turn of a member leaves
    deed-leaves : (member : ℕ) → Deed past event calls step → performer_at event step.verdict ≡ Some (Member member)
        → LeavesLot past member event step (acts_of past) calls
    deed-leaves member (Rested none rests no_entry) by = subst (LeavesLot past member event step (acts_of past)) (sym none)
        (rests-leaves past member event step (acts_of past) (within member) rests)
    deed-leaves member (Asked asks) by = subst (LeavesLot past member event step (acts_of past)) (sym asks.one)
        (unleased-first past member event step (acts_of past) asks.call [] kept asks.unleased
        (rests-leaves past member event step (act_by (End (Member member)) (Calls asks.call) ∷ acts_of past)
        (subst (λ x. (left_of_lot x).next ≤ (left_of_lot x).end) (sym kept) (within member)) asks.rests))
      where
        kept : holding_at tickets (act_by (End (Member member)) (Calls asks.call) ∷ acts_of past) (End (Member member)) ≡ holding_at tickets
            (acts_of past) (End (Member member))
        kept = same-lot past member event step (acts_of past) asks.call (asks.no_lot (length (begun_at tickets (acts_of past)).bases))
    deed-leaves member (Ended other by_it none said ends quiet) by = subst (LeavesLot past member event step (acts_of past)) (sym none)
        (none-leaves past member event step (acts_of past) (within member) (ap ticket_number said)
        (ap (moved tickets) (over-rest event step other said ends quiet)))
    deed-leaves member (Used u) by =
        let same : Some (Member u.member) ≡ Some (Member member) = sym u.by_it ∙ by in
        subst (λ k. LeavesLot past k event step (acts_of past) calls) (let k : u.member ≡ member = cc in k)
        (uses-leaves past u.member event step u.needs u.lot (acts_of past) refl (within u.member) calls u.ready)
    deed-leaves member (Used_theirs u) by = let no : Some Peer ≡ Some (Member member) = sym u.by_it ∙ by in absurd (cc)

-- so it is after one more turn
pub tickets-told : (past : List Turn) (turn : Turn) → Deed past turn.event turn.calls turn.step
    → ((member : ℕ) → AreTicketsTold past member) → (member : ℕ) → AreTicketsTold (turn ∷ past) member
tickets-told past turn deed before member = by_test (is_by (Member member) turn) refl
  where
    within : (k : ℕ) → (left_of_lot (lots_of past k pools.Ticket)).next ≤ (left_of_lot (lots_of past k pools.Ticket)).end
    within k = subst (λ (lot : Remaining). lot.next ≤ lot.end) (before k).left (before k).within

    own_turns : Bool → List Turn
    own_turns b = if b then turn ∷ own (Member member) past else own (Member member) past

    by_test : (b : Bool) → is_by (Member member) turn ≡ b → AreTicketsTold (turn ∷ past) member
    by_test true t =
        let by : performer turn ≡ Some (Member member) = is_end-true (Member member) (performer turn) t in
        let leaves : LeavesLot past member turn.event turn.step (acts_of past) turn.calls = deed-leaves past turn.event turn.calls turn.step
        within member deed by in
        let is : numbers_by (own (Member member) (turn ∷ past)) ≡ numbers_after turn.calls turn.step
        (left_of_lot (lots_of past member pools.Ticket)) =
        ap (λ b. numbers_by (own_turns b)) t ∙ ap (numbers_after turn.calls turn.step) (before member).left in
        record {
          left = is ∙ subst (λ v. numbers_after turn.calls turn.step (left_of_lot (lots_of past member pools.Ticket)) ≡ left_of_lot
              (holding_at tickets (moves_onto v (moves_of turn) (acts_of past)) (End (Member member)))) (sym (ap actor_as by))
              (sym leaves.left);
          within = subst (λ (lot : Remaining). lot.next ≤ lot.end) (sym is) leaves.within;
        }
    by_test false t =
        let is : numbers_by (own (Member member) (turn ∷ past)) ≡ numbers_by (own (Member member) past) = ap (λ b. numbers_by (own_turns b))
        t in
        record {
          left = is ∙ ((before member).left ∙ ap left_of_lot (sym
              (others-hold tickets (actor_of turn) (Member member) (is_end-false (Member member) (performer turn) t) (moves_of turn)
              (acts_of past))));
          within = subst (λ (lot : Remaining). lot.next ≤ lot.end) (sym is) (before member).within;
        }
