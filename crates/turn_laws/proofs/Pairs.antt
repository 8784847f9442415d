-- Turns in which one number is used beside the IV of an IKE message.
use Rattle.std.proofs.Common.{◌≡◌, ◌≢◌, ℕ, ◌==◌, ◌&&◌, Bool, true, false, Option, Some, None, MatchOption, option_to_list, List, [], ◌∷◌, ◌++◌, map, inl, inr, refl, ap, sym, ◌∙◌, subst, if◌then◌else◌}
use Rattle.std.specs.Prelude.{IsSome, is_some}
use Rattle.std.specs.List.{cons_option}
use Rattle.events.specs.declared.event.Event.{Event}
use Rattle.events.specs.declared.seals.Seal.{Seal}
use Rattle.events.specs.declared.turn.Datagram.{Datagram}
use Rattle.events.specs.declared.turn.Step.{Step}
use Rattle.events.specs.declared.verdict.Verdict.{Verdict}
use Rattle.ha_base.specs.declared.counter_names.CounterName.{CounterName}
use Rattle.ha_base.specs.declared.counter_names.End.{End}
use Rattle.ha_base.specs.declared.counter_names.Kind.TheVariants as kind
use Rattle.ike_sas.specs.Answers.{answer_payloads, error_of}
use Rattle.ike_sas.specs.Held.{IkeHeld, request_header, response_header}
use Rattle.ike_sas.specs.declared.answers.RequestError.{RequestError}
use Rattle.ike_sas.specs.declared.ticket_messages.TicketAnswer.{TicketAnswer}
use Rattle.ike_sas.specs.declared.ticket_messages.TicketAnswer.TheVariants.{Declined, Issued}
use Rattle.ike_values.specs.Values.{PayloadValue}
use Rattle.ike_values.specs.declared.header.Header.{Header}
use Rattle.keeper_book.specs.Records.{spir_of_origin}
use Rattle.keeper_book.specs.declared.counters.Counter.{Counter}
use Rattle.keeper_book.specs.declared.counters.Counter.TheVariants as counter
use Rattle.keeper_book.specs.declared.pools.Pool.TheVariants as pools
use Rattle.keeper_book.specs.declared.records.Record.{Record}
use Rattle.sk_payload.specs.declared.open.Opened.{Opened}
use Rattle.turn_laws.proofs.Begun.{is_place-true}
use Rattle.turn_laws.proofs.Deeds.{IsAnswering, Spends, UsesIt, none-answering, rest_of}
use Rattle.turn_laws.proofs.Uses.{AreUses, Counts, IsUse, Seals_it, Spent, number_at, spent_at, spent_of, used-alone}
use Rattle.turn_laws.specs.Acts.{Seals, Uses}
use Rattle.turn_laws.specs.Listed.{request_at}
use Rattle.turn_laws.specs.Places.{Ours, Place, Pooled, is_place, place_of}
use Rattle.turn_laws.specs.Turns.{answered, asked_by, asks_beside, key_iv, number_taken, place_answered, taken_by, uses_of}
use Rattle.turn_rules.specs.Ends.{is_refused_by_run}
use Rattle.turn_rules.specs.Held.{accepted, first_some, iv_in}
use Rattle.turn_rules.specs.CountersOf.{is_of_spir, number_under}
use Rattle.turn_rules.specs.IkeState.{is_same_end, sealed_iv, taken_id}
use Rattle.turn_rules.specs.Messages.{AnswersRequest, ExecutesRequest, RefusesRequest, SendsAfter, SendsMessage, SendsRequest, mark_of, seals_of, with_ticket}
use Rattle.turn_rules.specs.Safe.{Packet, accepted_as, request_taken, taken_as}
use Rattle.turn_rules.specs.TicketNumbers.{ticket_number}
use Rattle.turn_rules.specs.Configurations.{first_ticket_counter}
use Rattle.events.specs.declared.verdict.Verdict.TheVariants as out

-- two numbers of different places: of each place there is one at most
pub pair-at : (p q r : Place) (n k : ℕ) → q ≢ r → spent_at p (spent_of q n ∷ spent_of r k ∷ []) ≡ option_to_list (first_some (number_at p q n) (number_at p r k))
pair-at p q r n k apart = by_test (is_place q p) (is_place r p) refl refl
  where
    by_test : (a b : Bool) → is_place q p ≡ a → is_place r p ≡ b
        → cons_option (if a then Some n else None) (cons_option (if b then Some k else None) []) ≡ option_to_list (first_some (if a then Some n else None) (if b then Some k else None))
    by_test true true s t = absurd (apart (is_place-true q p s ∙ sym (is_place-true r p t)))
    by_test true false s t = refl
    by_test false true s t = refl
    by_test false false s t = refl

-- the same by a test that both places pass or fail
pub pair-none : (b : Bool) (n k : ℕ) → None ≡ first_some (if b && false then Some n else None) (if b && false then Some k else None)
pair-none true n k = refl
pair-none false n k = refl

pub pair-first : (b : Bool) (n k : ℕ) → (if b then Some n else None) ≡ first_some (if b && true then Some n else None) (if b && false then Some k else None)
pair-first true n k = refl
pair-first false n k = refl

pub pair-second : (b : Bool) (n k : ℕ) → (if b then Some k else None) ≡ first_some (if b && false then Some n else None) (if b && true then Some k else None)
pair-second true n k = refl
pair-second false n k = refl

-- one IKE message was sealed under an IV of this name, and given
pub record SealsIke (name : CounterName) (iv : ℕ) (step : Step) : Type 0 where
  pub seal : Seal
  pub one : step.seals ≡ seal ∷ []
  pub named : seal.name ≡ name
  pub iv_is : seal.iv ≡ iv
  pub given : IsSome step.gives

pub sends-seals : (held : IkeHeld) (iv : ℕ) (header : Header) (payloads : List PayloadValue) (step : Step) → SendsMessage held iv header payloads step → SealsIke held.keys.sending.name iv step
sends-seals held iv header payloads step sends = record {
  seal = sends.sent.seal;
  one = sends.seals;
  named = sends.sends.named;
  iv_is = sends.sends.iv_is;
  given = subst (λ (x : Option Datagram). IsSome x) (sym sends.gives) refl;
}

-- the seal of a ticket of this number, where there is one
abbrev pub IsTicketSeal : Option ℕ → List Seal → Type 0
IsTicketSeal None seals = seals ≡ []
IsTicketSeal (Some n) seals = (seal : Seal) × (seals ≡ seal ∷ []) × (seal.name ≡ first_ticket_counter) × (seal.iv ≡ n)

-- an IKE message was sealed under an IV of this name, and given, and before it a ticket, where there is one
pub record SealsBehind (ticket : Option ℕ) (name : CounterName) (iv : ℕ) (step : Step) : Type 0 where
  pub before : List Seal
  pub tickets : IsTicketSeal ticket before
  pub seal : Seal
  pub all : step.seals ≡ before ++ seal ∷ []
  pub named : seal.name ≡ name
  pub iv_is : seal.iv ≡ iv
  pub given : IsSome step.gives

-- the number of a ticket that is issued, under the first key
abbrev pub number_in : Option TicketAnswer → Option ℕ
number_in None = None
number_in (Some Declined) = None
number_in (Some (Issued lifetime seal)) = Some seal.iv

abbrev pub IsOfFirstKey : Option TicketAnswer → Type 0
IsOfFirstKey None = Unit {0}
IsOfFirstKey (Some Declined) = Unit {0}
IsOfFirstKey (Some (Issued lifetime seal)) = seal.name ≡ first_ticket_counter

pub sends-behind : (ticket : Option TicketAnswer) (held : IkeHeld) (iv : ℕ) (header : Header) (payloads : List PayloadValue) (step : Step) → IsOfFirstKey ticket → SendsAfter (seals_of ticket) held iv header payloads step
    → SealsBehind (number_in ticket) held.keys.sending.name iv step
sends-behind ticket held iv header payloads step first sends = record {
  before = seals_of ticket;
  tickets = by_ticket ticket first;
  seal = sends.sent.seal;
  all = sends.seals;
  named = sends.sends.named;
  iv_is = sends.sends.iv_is;
  given = subst (λ (x : Option Datagram). IsSome x) (sym sends.gives) refl;
}
  where
    by_ticket : (ticket : Option TicketAnswer) → IsOfFirstKey ticket → IsTicketSeal (number_in ticket) (seals_of ticket)
    by_ticket None first = refl
    by_ticket (Some Declined) first = refl
    by_ticket (Some (Issued lifetime seal)) first = (seal, refl, first, refl)

-- the number of a ticket beside others
abbrev pub ticketed : Option ℕ → List Spent → List Spent
ticketed None ss = ss
ticketed (Some n) ss = spent_of (Pooled pools.Ticket) n ∷ ss

-- a number that a verdict uses beside this IV and the number of a ticket, where there is one, and no packet is accepted
pub record UsesPair (p q : Place) (n iv : ℕ) (ticket : Option ℕ) (event : Event) (step : Step) : Type 0 where
  pub answering : IsAnswering step
  pub uses_them : AreUses (spent_of p n ∷ ticketed ticket (spent_of q iv ∷ [])) (rest_of event step)
  pub ticket_is : ticket_number step.verdict ≡ ticket
  pub no_packet : accepted_as step.verdict ≡ None
  pub not_run : is_refused_by_run step.verdict ≡ false

pub no-packet-is : {Y : Type 0} (verdict : Verdict) (packet : Packet) → accepted_as verdict ≡ None → accepted_as verdict ≡ Some packet → Y
no-packet-is verdict packet none is = absurd (cc)

seals-used : (step : Step) (name : CounterName) (q : Place) (iv : ℕ) (ticket : Option ℕ) (s : SealsBehind ticket name iv step) → place_of name ≡ q → AreUses (ticketed ticket (spent_of q iv ∷ [])) (map (λ seal. Seals (key_iv seal)) step.seals)
seals-used step name q iv ticket s place = subst (λ seals. AreUses (ticketed ticket (spent_of q iv ∷ [])) (map (λ seal. Seals (key_iv seal)) seals)) (sym s.all) (by_ticket ticket s.before s.tickets)
  where
    last : IsUse q iv (Seals (key_iv s.seal))
    last = Seals_it (key_iv s.seal) (ap place_of s.named ∙ place) s.iv_is refl

    by_ticket : (ticket : Option ℕ) (before : List Seal) → IsTicketSeal ticket before → AreUses (ticketed ticket (spent_of q iv ∷ [])) (map (λ seal. Seals (key_iv seal)) (before ++ s.seal ∷ []))
    by_ticket None before none = subst (λ seals. AreUses (spent_of q iv ∷ []) (map (λ seal. Seals (key_iv seal)) (seals ++ s.seal ∷ []))) (sym none) (last, tt)
    by_ticket (Some n) before one = subst (λ seals. AreUses (spent_of (Pooled pools.Ticket) n ∷ spent_of q iv ∷ []) (map (λ seal. Seals (key_iv seal)) (seals ++ s.seal ∷ []))) (sym one.1)
        (Seals_it (key_iv one.0) (ap place_of one.2) one.3 refl, (last, tt))

seals-pair : (event : Event) (step : Step) (name : CounterName) (p q : Place) (n iv : ℕ) (ticket : Option ℕ) (seals : SealsBehind ticket name iv step) → uses_of event step.verdict step.seals ≡ Uses p n ∷ [] → place_of name ≡ q
    → AreUses (spent_of p n ∷ ticketed ticket (spent_of q iv ∷ [])) (rest_of event step)
seals-pair event step name p q n iv ticket seals uses place =
    subst (λ us. AreUses (spent_of p n ∷ ticketed ticket (spent_of q iv ∷ [])) (us ++ map (λ seal. Seals (key_iv seal)) step.seals)) (sym uses)
    (Counts refl, seals-used step name q iv ticket seals place)

-- nothing else was sealed
behind-none : (name : CounterName) (iv : ℕ) (step : Step) → SealsIke name iv step → SealsBehind None name iv step
behind-none name iv step seals = record {
  before = [];
  tickets = refl;
  seal = seals.seal;
  all = seals.one;
  named = seals.named;
  iv_is = seals.iv_is;
  given = seals.given;
}

-- the IV of a message that an end sealed
pub sealed-here : (sa : Record) (user : End) (name : CounterName) (iv : ℕ) (step : Step) → name.origin ≡ sa.origin → name.kind ≡ kind.Iv → is_same_end user name.end ≡ true → SealsIke name iv step
    → (other : ℕ) → iv_in user other step.seals ≡ (if sa.spir == other then Some iv else None)
sealed-here sa user name iv step origin of_iv same seals other =
    ap (iv_in user other) seals.one
    ∙ (ap (λ (n : CounterName). first_some (sealed_as n seals.seal.iv) None) seals.named
    ∙ (ap (λ k. first_some (sealed_as name k) None) seals.iv_is
    ∙ (by_kind ∙ none-after (sa.spir == other))))
  where
    sealed_as : CounterName → ℕ → Option ℕ
    sealed_as n k = sealed_iv user other (record seals.seal { name = n; iv = k }) n.kind

    by_kind : first_some (sealed_as name iv) None ≡ first_some (if sa.spir == other then Some iv else None) None
    by_kind = ap (λ k. first_some (sealed_iv user other (record seals.seal { name = name; iv = iv }) k) None) of_iv
        ∙ (ap (λ b. first_some (if b then number_under other name iv else None) None) same
        ∙ ap (λ o. first_some (if is_of_spir other o then Some iv else None) None) (ap spir_of_origin origin ∙ sa.origin_is_own))

    none-after : (b : Bool) → first_some (if b then Some iv else None) None ≡ (if b then Some iv else None)
    none-after true = refl
    none-after false = refl

-- an end sealed none where the other one sealed
pub sealed-elsewhere : (user : End) (name : CounterName) (iv : ℕ) (step : Step) → name.kind ≡ kind.Iv → is_same_end user name.end ≡ false → SealsIke name iv step → (other : ℕ) → iv_in user other step.seals ≡ None
sealed-elsewhere user name iv step of_iv differs seals other =
    ap (iv_in user other) seals.one
    ∙ (ap (λ (n : CounterName). first_some (sealed_iv user other (record seals.seal { name = n }) n.kind) None) seals.named
    ∙ (ap (λ k. first_some (sealed_iv user other (record seals.seal { name = name }) k) None) of_iv
    ∙ ap (λ b. first_some (if b then number_under other name seals.seal.iv else None) None) differs))

-- a ticket has no IV of an IKE message
after-ticket : (user : End) (other : ℕ) (ticket : Option ℕ) (before more : List Seal) → IsTicketSeal ticket before → iv_in user other (before ++ more) ≡ iv_in user other more
after-ticket user other None before more none = ap (λ seals. iv_in user other (seals ++ more)) none
after-ticket user other (Some n) before more one =
    ap (λ seals. iv_in user other (seals ++ more)) one.1
    ∙ ap (λ (name : CounterName). first_some (sealed_iv user other (record one.0 { name = name }) name.kind) (iv_in user other more)) one.2

-- the message alone
abbrev alone_in : Step → Seal → Step
alone_in step seal = record step { seals = seal ∷ [] }

message-alone : (ticket : Option ℕ) (name : CounterName) (iv : ℕ) (step : Step) (s : SealsBehind ticket name iv step) → SealsIke name iv (alone_in step s.seal)
message-alone ticket name iv step s = record { seal = s.seal; one = refl; named = s.named; iv_is = s.iv_is; given = s.given }

pub behind-here : (sa : Record) (user : End) (name : CounterName) (iv : ℕ) (ticket : Option ℕ) (step : Step) → name.origin ≡ sa.origin → name.kind ≡ kind.Iv → is_same_end user name.end ≡ true → SealsBehind ticket name iv step
    → (other : ℕ) → iv_in user other step.seals ≡ (if sa.spir == other then Some iv else None)
behind-here sa user name iv ticket step origin of_iv same s other =
    ap (iv_in user other) s.all
    ∙ (after-ticket user other ticket s.before (s.seal ∷ []) s.tickets
    ∙ sealed-here sa user name iv (alone_in step s.seal) origin of_iv same (message-alone ticket name iv step s) other)

pub behind-elsewhere : (user : End) (name : CounterName) (iv : ℕ) (ticket : Option ℕ) (step : Step) → name.kind ≡ kind.Iv → is_same_end user name.end ≡ false → SealsBehind ticket name iv step → (other : ℕ) → iv_in user other step.seals ≡ None
behind-elsewhere user name iv ticket step of_iv differs s other =
    ap (iv_in user other) s.all
    ∙ (after-ticket user other ticket s.before (s.seal ∷ []) s.tickets
    ∙ sealed-elsewhere user name iv (alone_in step s.seal) of_iv differs (message-alone ticket name iv step s) other)

-- an IV alone is used by a verdict that uses no number
pub sealed-spends : (event : Event) (step : Step) (name : CounterName) (p : Place) (iv : ℕ) → SealsIke name iv step → place_of name ≡ p → step.served ≡ None → taken_as step.verdict ≡ None → accepted_as step.verdict ≡ None
    → uses_of event step.verdict step.seals ≡ [] → Spends p iv event step
sealed-spends event step name p iv seals place served untaken no_packet uses = record {
  served = served;
  untaken = untaken;
  uses_it = used-alone p iv (Seals (key_iv seals.seal)) (rest_of event step) (Seals_it (key_iv seals.seal) (ap place_of seals.named ∙ place) seals.iv_is refl)
      (ap (λ us. us ++ map (λ seal. Seals (key_iv seal)) step.seals) uses ∙ ap (λ ss. map (λ seal. Seals (key_iv seal)) ss) seals.one);
  of_packet = λ packet is. no-packet-is step.verdict packet no_packet is;
}

-- a request was answered: it was executed, or has an error
pub record Answering (name : CounterName) (id : ℕ) (sealer : CounterName) (iv : ℕ) (ticket : Option ℕ) (step : Step) : Type 0 where
  pub seals : SealsBehind ticket sealer iv step
  pub ticket_is : ticket_number step.verdict ≡ ticket
  pub answering : IsAnswering step
  pub taken : (spir : ℕ) → taken_id spir step.verdict ≡ number_under spir name id
  pub is_taken : taken_as step.verdict ≡ Some (request_taken name id)
  pub uses : (event : Event) (seals : List Seal) → uses_of event step.verdict seals ≡ taken_by (request_taken name id)
  pub no_packet : accepted_as step.verdict ≡ None
  pub none_received : (spir : ℕ) → accepted spir step.verdict ≡ None
  pub not_run : is_refused_by_run step.verdict ≡ false

some-answering : (step : Step) (name : CounterName) (id : ℕ) → IsSome step.gives → taken_as step.verdict ≡ Some (request_taken name id) → IsAnswering step
some-answering step name id given taken = record {
  takes = λ some. ap is_some taken;
  gives = λ some. given;
}

-- a ticket stands only in the response to a request that is executed
abbrev pub IsForExecuted : Opened → Option TicketAnswer → Type 0
IsForExecuted request ticket = (error : RequestError) → error_of request ≡ Some error → ticket ≡ None

pub request-answering : (name : CounterName) (held : IkeHeld) (iv : ℕ) (request : Opened) (ticket : Option TicketAnswer) (step : Step) → IsOfFirstKey ticket → IsForExecuted request ticket → AnswersRequest name held iv request ticket step
    → Answering name request.header.id held.keys.sending.name iv (number_in ticket) step
request-answering name held iv request ticket step first executed answers = go (error_of request) refl answers
  where
    marked : (ticket : Option TicketAnswer) → ticket_number (out.Executed name request.header.id (mark_of ticket)) ≡ number_in ticket
    marked None = refl
    marked (Some Declined) = refl
    marked (Some (Issued lifetime seal)) = refl

    go : (x : Option RequestError) → error_of request ≡ x → MatchOption x (ExecutesRequest name held iv request ticket step) (λ error. RefusesRequest name held iv request error step) → Answering name request.header.id held.keys.sending.name iv (number_in ticket) step
    go None is e =
        let seals : SealsBehind (number_in ticket) held.keys.sending.name iv step = sends-behind ticket held iv (response_header held.keys request.header) (with_ticket (answer_payloads request e.executed.reply.octets) ticket) step first e.responds in
        record {
          seals = seals;
          ticket_is = ap ticket_number e.said ∙ marked ticket;
          answering = some-answering step name request.header.id seals.given (ap taken_as e.said);
          taken = λ spir. ap (taken_id spir) e.said;
          is_taken = ap taken_as e.said;
          uses = λ event seals. ap (λ v. uses_of event v seals) e.said;
          no_packet = ap accepted_as e.said;
          none_received = λ spir. ap (accepted spir) e.said;
          not_run = ap is_refused_by_run e.said;
        }
    go (Some error) is r =
        let seals : SealsBehind None held.keys.sending.name iv step = sends-behind None held iv (response_header held.keys request.header) (answer_payloads request []) step tt r.responds in
        record {
          seals = subst (λ t. SealsBehind (number_in t) held.keys.sending.name iv step) (sym (executed error is)) seals;
          ticket_is = ap ticket_number r.said ∙ sym (ap number_in (executed error is));
          answering = some-answering step name request.header.id seals.given (ap taken_as r.said);
          taken = λ spir. ap (taken_id spir) r.said;
          is_taken = ap taken_as r.said;
          uses = λ event seals. ap (λ v. uses_of event v seals) r.said;
          no_packet = ap accepted_as r.said;
          none_received = λ spir. ap (accepted spir) r.said;
          not_run = ap is_refused_by_run r.said;
        }

-- the Message ID of a request that was answered, the number of a ticket, where there is one, and the IV of the response
pub answering-pair : (event : Event) (step : Step) (name sealer : CounterName) (p q : Place) (id iv : ℕ) (ticket : Option ℕ) → place_answered (request_taken name id) ≡ p → place_of sealer ≡ q → Answering name id sealer iv ticket step → UsesPair p q id iv ticket event step
answering-pair event step name sealer p q id iv ticket first second a = record {
  answering = a.answering;
  uses_them = seals-pair event step sealer p q id iv ticket a.seals (a.uses event step.seals ∙ ap (λ r. Uses r id ∷ []) first) second;
  ticket_is = a.ticket_is;
  no_packet = a.no_packet;
  not_run = a.not_run;
}

-- the Message ID of a request that was asked, and the IV of it
pub asking-pair : (event : Event) (step : Step) (held : IkeHeld) (p q : Place) (id iv : ℕ) (payloads : List PayloadValue) → place_of (asks_beside held.keys.sending.name) ≡ p → place_of held.keys.sending.name ≡ q → SendsRequest held id iv payloads step → UsesPair p q id iv None event step
asking-pair event step held p q id iv payloads first second s =
    let seals : SealsIke held.keys.sending.name iv step = sends-seals held iv (request_header held.keys id) payloads step s.sends in
    record {
      answering = none-answering step s.served (ap taken_as s.said);
      uses_them = seals-pair event step held.keys.sending.name p q id iv None (behind-none held.keys.sending.name iv step seals)
          (ap (λ v. uses_of event v step.seals) s.said
          ∙ (ap (λ ss. asked_by ss id) seals.one
          ∙ (ap (λ name. Uses (place_of (asks_beside name)) id ∷ []) seals.named
          ∙ ap (λ r. Uses r id ∷ []) first))) second;
      ticket_is = ap ticket_number s.said;
      no_packet = ap accepted_as s.said;
      not_run = ap is_refused_by_run s.said;
    }

-- the numbers that a member uses so are those that it needs, where own turns tell them
pub pair-it : (spir : ℕ) (c : Counter) (n iv : ℕ) (ticket : Option ℕ) (event : Event) (step : Step) → Ours spir c ≢ Ours spir counter.Iv → UsesPair (Ours spir c) (Ours spir counter.Iv) n iv ticket event step
    → ((other : ℕ) (d : Counter) → number_taken other d event step ≡ first_some (number_at (Ours other d) (Ours spir c) n) (number_at (Ours other d) (Ours spir counter.Iv) iv))
    → ((other : ℕ) → answered other event step.verdict ≡ request_at (Ours other counter.Answer) (taken_as step.verdict))
    → UsesIt (ticketed ticket (spent_of (Ours spir c) n ∷ spent_of (Ours spir counter.Iv) iv ∷ [])) event step
pair-it spir c n iv None event step apart pair told answers = record {
  ss = spent_of (Ours spir c) n ∷ spent_of (Ours spir counter.Iv) iv ∷ [];
  were_needed = (inl refl, (inr (inl refl), tt));
  answering = pair.answering;
  uses_them = pair.uses_them;
  apart = ((apart, tt), (tt, tt));
  told = λ other d. pair-at (Ours other d) (Ours spir c) (Ours spir counter.Iv) n iv apart ∙ ap option_to_list (sym (told other d));
  answers = answers;
  not_theirs = λ name. refl;
  tickets = sym (ap option_to_list pair.ticket_is);
  named = λ packet accepted other k is. no-packet-is step.verdict packet pair.no_packet accepted;
}
pair-it spir c n iv (Some number) event step apart pair told answers = record {
  ss = spent_of (Ours spir c) n ∷ spent_of (Pooled pools.Ticket) number ∷ spent_of (Ours spir counter.Iv) iv ∷ [];
  were_needed = (inr (inl refl), (inl refl, (inr (inr (inl refl)), tt)));
  answering = pair.answering;
  uses_them = pair.uses_them;
  apart = (((λ same. absurd (cc)), (apart, tt)), (((λ same. absurd (cc)), tt), (tt, tt)));
  told = λ other d. pair-at (Ours other d) (Ours spir c) (Ours spir counter.Iv) n iv apart ∙ ap option_to_list (sym (told other d));
  answers = answers;
  not_theirs = λ name. refl;
  tickets = sym (ap option_to_list pair.ticket_is);
  named = λ packet accepted other k is. no-packet-is step.verdict packet pair.no_packet accepted;
}
