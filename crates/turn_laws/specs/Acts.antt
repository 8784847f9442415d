-- What ends do, as data, and what it does to the numbers of each counter. A list of acts has the
-- newest first.
use Rattle.std.specs.Prelude.{ℕ, ◌+◌, ◌≡◌, ◌≢◌, ◌≤◌, Bool, false, Option, Some, None, MatchOption, List, [], ◌∷◌, length, map, is_some, if◌then◌else◌, ◌==◌}
use Rattle.std.specs.List.{AllByRecursion}
use Rattle.ha_base.specs.declared.counter_names.CounterName.{CounterName}
use Rattle.ha_base.specs.declared.counter_names.Derivation.{Derivation}
use Rattle.keeper_book.specs.Book.{Book, settled_highs}
use Rattle.ha_base.specs.declared.limits.TheConstants.{LEAST_ESP_SPI, LEAST_SPI}
use Rattle.keeper_book.specs.CounterEnds.{end_of}
use Rattle.keeper_book.specs.Counters.{counter_named, extended_end, five_at}
use Rattle.keeper_book.specs.Pools.{pool_end}
use Rattle.keeper_book.specs.Told.{seen}
use Rattle.keeper_book.specs.declared.TheConstants.{SETTLED_IV_HIGH}
use Rattle.keeper_book.specs.declared.calls.Call.{Call}
use Rattle.keeper_book.specs.declared.calls.KeeperAnswer.{KeeperAnswer}
use Rattle.keeper_book.specs.declared.calls.KeeperAnswer.TheVariants as answer
use Rattle.keeper_book.specs.declared.calls.KeeperAsk.{KeeperAsk}
use Rattle.keeper_book.specs.declared.calls.KeeperAsk.TheVariants as ask
use Rattle.keeper_book.specs.declared.counters.Counter.{Counter}
use Rattle.keeper_book.specs.declared.counters.Counter.TheVariants as counter
use Rattle.keeper_book.specs.declared.pools.Pool.{Pool}
use Rattle.keeper_book.specs.declared.pools.Pool.TheVariants as pools
use Rattle.keeper_book.specs.declared.records.Record.{Record}
use Rattle.keeper_book.specs.declared.records.Taken.{Taken}
use Rattle.turn_laws.specs.Columns.{Column, nothing}
use Rattle.turn_laws.specs.Holdings.{Actor, Begins, Draws, Effect, Half, Holding, Jumps, MayUse, Nothing, Passes, Rises, Use, column_begun, holding_after, uses_after}
use Rattle.turn_laws.specs.Names.{is_name}
use Rattle.turn_laws.specs.Places.{Place, Ours, Pooled, Theirs, column, is_place, is_pool, place_of, start_of}
use Rattle.turn_laws.specs.Resumed.{IsResumedRecord, resumed_starts}
use Rattle.turn_rules.specs.Held.{covered, first_some, granted}
use Rattle.turn_rules.specs.Safe.{KeyIv}
use Rattle.turn_rules.specs.Slots.{peer_counter}

pub data Move : Type 0 where
  -- a call of the keeper
  Calls : (call : Call) → Move
  -- a number is used, or taken
  Uses : (place : Place) → (number : ℕ) → Move
  -- something is sealed under a key and an IV, which is a number of the key's counter
  Seals : (key : KeyIv) → Move
  -- an end goes on with a number of a place, or with a later one
  Leaps : (place : Place) → (number : ℕ) → Move
  -- A resumption by a ticket gets half open, whose keys will be derived so: the responder's SPI is a
  -- number that is drawn of the nonces' pool.
  Opens : (ticket : ℕ) → (made : Derivation) → Move
  -- the peer begins an association that was resumed
  Starts : (sa : Record) → Move
  -- a member ends
  Ends : Move

pub record Act : Type 0 where
  pub by : Actor
  pub move : Move

abbrev pub act_by : Actor → Move → Act
act_by w move = record { by = w; move = move }

-- a holding of an epoch that was granted: of each counter it begins and ends at the base
abbrev pub holding_begun : Counter → Taken → Holding
holding_begun c taken = record {
  epoch = taken.epoch;
  base = five_at taken.bases c;
  next = five_at taken.bases c;
  high = five_at taken.bases c;
  end = end_of taken.sa c;
  numbers = [];
}

-- what the peer holds of an association that came to it: all numbers of its counter
abbrev pub begun_theirs : Counter → Record → Holding
begun_theirs c sa = record {
  epoch = 1;
  base = start_of sa c;
  next = start_of sa c;
  high = end_of sa c;
  end = end_of sa c;
  numbers = [];
}

-- of its counter of this name, where it has one
abbrev pub begun_as : CounterName → Record → Option Counter → Option Holding
begun_as name sa None = None
begun_as name sa (Some c) = if is_name (peer_counter sa c) name then Some (begun_theirs c sa)
    else None

abbrev pub begun_named : CounterName → Record → Option Holding
begun_named name sa = begun_as name sa (counter_named name.kind name.child)

abbrev pub begun_by : CounterName → Option Record → Option Holding
begun_by name None = None
begun_by name (Some sa) = begun_named name sa

-- What is half open holds the first IVs of what it will be, up to where the highs of a settled
-- association begin. They pass to the member that settles it, and later epochs begin above them.
abbrev pub half_begun : Holding
half_begun = record {
  epoch = 1;
  base = resumed_starts.iv;
  next = resumed_starts.iv;
  high = SETTLED_IV_HIGH;
  end = extended_end counter.Iv;
  numbers = [];
}

-- what a member holds of a counter of an association that it settled
abbrev pub holding_settled : Counter → Record → Holding
holding_settled c sa = record {
  epoch = 1;
  base = five_at sa.starts c;
  next = five_at sa.starts c;
  high = five_at (settled_highs sa.starts) c;
  end = end_of sa c;
  numbers = [];
}

-- by what was granted, and up to where was covered
abbrev pub effect_ours : Actor → Counter → Option Taken → Option ℕ → Effect
effect_ours w c (Some taken) upto = Begins w (holding_begun c taken)
effect_ours w c None (Some upto) = Rises w upto
effect_ours w c None None = Nothing

-- The association that the caller saw settled: it holds the first numbers of it, and of the IVs
-- what was half open held.
abbrev pub settled_as : ℕ → KeeperAsk → KeeperAnswer → Option Record
settled_as spir (ask.Settle ticket old_spir sa member) answer.Done =
    if sa.spir == spir then Some sa else None
settled_as spir asked answered = None

abbrev pub effect_settled : Actor → Counter → Record → Effect
effect_settled w counter.Iv sa = Passes (Half sa.spir) w
effect_settled w c sa = Begins w (holding_settled c sa)

-- by what was settled, and else by what was granted or covered
abbrev pub effect_of_ours : Actor → Counter → Option Record → Option Taken → Option ℕ → Effect
effect_of_ours w c (Some sa) taken upto = effect_settled w c sa
effect_of_ours w c None taken upto = effect_ours w c taken upto

-- by what begins, if something does
abbrev pub effect_begun : Actor → Option Holding → Effect
effect_begun w (Some h) = Begins w h
effect_begun w None = Nothing

-- the association that the caller saw entered
abbrev pub entered_as : KeeperAsk → KeeperAnswer → Option Record
entered_as (ask.Enter sa) answer.Done = Some sa
entered_as asked answered = None

abbrev pub effect_of_use : Place → Place → Actor → ℕ → Effect
effect_of_use p q w n = if is_place q p then Draws w n else Nothing

-- a lot that was leased after so many: all its numbers may be used
abbrev pub lot_begun : ℕ → Pool → ℕ → ℕ → Holding
lot_begun before pool first count = record {
  epoch = before + 1;
  base = first;
  next = first;
  high = first + count;
  end = pool_end pool;
  numbers = [];
}

-- The lot of a pool that a caller saw leased, after so many: all its numbers may be used, in place
-- of an earlier lot.
abbrev pub lot_of : Pool → ℕ → KeeperAsk → KeeperAnswer → Option Holding
lot_of q before (ask.Lease pool count) (answer.First first) =
    if is_pool pool q then Some (lot_begun before pool first count) else None
lot_of q before asked answered = None

-- what a call begins at a place, by what its caller saw, but for what the book begins
abbrev pub begun_called : Place → Column → KeeperAsk → KeeperAnswer → Option Holding
begun_called (Ours spir c) begun asked answered = None
begun_called (Theirs name) begun asked answered = begun_by name (entered_as asked answered)
begun_called (Pooled q) begun asked answered = lot_of q (length begun.bases) asked answered

-- what a call does at a place, by what its caller saw
abbrev pub effect_of_call : Place → Column → Actor → KeeperAsk → KeeperAnswer → Effect
effect_of_call (Ours spir c) begun w asked answered = effect_of_ours w c
    (settled_as spir asked answered) (granted spir asked answered) (covered spir c asked answered)
effect_of_call p begun w asked answered = effect_begun w (begun_called p begun asked answered)

-- what gets half open at a place, under this responder's SPI
abbrev pub begun_open : Place → ℕ → Option Holding
begun_open (Ours spir c) drawn =
    if is_place (Ours drawn counter.Iv) (Ours spir c) then Some half_begun else None
begun_open p drawn = None

-- what the peer begins at a place
abbrev pub begun_started : Place → Record → Option Holding
begun_started (Theirs name) sa = begun_named name sa
begun_started p sa = None

-- what a resumption does at a place as it gets half open: a number of the pool is used, and the
-- holding is that of no end yet
abbrev pub effect_of_open : Place → Actor → ℕ → Effect
effect_of_open (Pooled q) w drawn = effect_of_use (Pooled q) (Pooled pools.Nonce) w drawn
effect_of_open p w drawn = effect_begun (Half drawn) (begun_open p drawn)

-- what a move does at a place, after what began there without the book
abbrev pub effect_of : Place → Column → Actor → Move → Effect
effect_of p begun w (Calls call) = effect_of_call p begun w call.asked (seen call)
effect_of p begun w (Uses q n) = effect_of_use p q w n
effect_of p begun w (Seals key) = effect_of_use p (place_of key.name) w key.iv
effect_of p begun w (Leaps q n) = if is_place q p then Jumps w n else Nothing
effect_of p begun w (Opens ticket made) = effect_of_open p w made.spir
effect_of p begun w (Starts sa) = effect_begun w (begun_started p sa)
effect_of p begun w Ends = Nothing

-- what a move begins at a place, but for what the book begins
abbrev pub begun_moved : Move → Place → Column → Option Holding
begun_moved (Calls call) p begun = begun_called p begun call.asked (seen call)
begun_moved (Opens ticket made) p begun = begun_open p made.spir
begun_moved (Starts sa) p begun = begun_started p sa
begun_moved move p begun = None

abbrev pub with_begun : Option Holding → Column → Column
with_begun None begun = begun
with_begun (Some h) begun = column_begun h begun

abbrev pub begun_after : Move → Place → Column → Column
begun_after move p begun = with_begun (begun_moved move p begun) begun

-- and what these acts began there
abbrev pub begun_at : Place → List Act → Column
begun_at p [] = nothing
begun_at p (act ∷ acts) = begun_after act.move p (begun_at p acts)

-- the numbers of a place, after these acts and by the book
abbrev pub column_at : Place → List Act → Book → Column
column_at p acts book = column p (begun_at p acts) book

-- no number of a place reaches this end, which the record of the association gives
abbrev pub end_at : Place → List Act → Book → ℕ
end_at p acts book = (column_at p acts book).end

-- what each end holds at a place
abbrev pub holding_at : Place → List Act → Actor → Option Holding
holding_at p [] = λ w. None
holding_at p (act ∷ acts) = holding_after (effect_of p (begun_at p acts) act.by act.move)
    (holding_at p acts)

-- the numbers of a place that were used
abbrev pub uses_at : Place → List Act → List Use
uses_at p [] = []
uses_at p (act ∷ acts) = uses_after (effect_of p (begun_at p acts) act.by act.move)
    (holding_at p acts) (uses_at p acts)

abbrev pub numbers_at : Place → List Act → List ℕ
numbers_at p acts = map (λ u. u.number) (uses_at p acts)

-- a number is used of what is held
pub record HoldsFor (held : Option Holding) (n : ℕ) : Type 0 where
  pub holding : Holding
  pub holds : held ≡ Some holding
  pub may : MayUse holding n

-- a cover is asked in the epoch of a holding, and does not pass the counter's end
pub record MayCover (held : Option Holding) (epoch upto : ℕ) : Type 0 where
  pub holding : Holding
  pub holds : held ≡ Some holding
  pub in_epoch : holding.epoch ≡ epoch
  pub within_end : upto ≤ holding.end

-- Imports have these SPIs: lower ones are for what the cluster draws itself, the responder's of a
-- resumed association and, above it, the one at which the cluster receives in it.
pub record IsImport (sa : Record) : Type 0 where
  pub spir : LEAST_SPI ≤ sa.spir
  pub spi_in : LEAST_ESP_SPI ≤ sa.spi_in

-- the peer did not begin an association of this name by a resumption
abbrev pub starts_name : CounterName → Move → Bool
starts_name name (Starts sa) = is_some (begun_named name sa)
starts_name name move = false

abbrev pub IsUnstarted : CounterName → List Act → Type 0
IsUnstarted name acts = AllByRecursion (λ act. starts_name name act.move ≡ false) acts

-- a resumption that got half open: by which ticket, and under which derivation
pub record Opened : Type 0 where
  pub ticket : ℕ
  pub made : Derivation

-- the one under this responder's SPI
abbrev pub opened_by : ℕ → Move → Option Opened
opened_by spir (Opens ticket made) =
    if made.spir == spir then Some (record { ticket = ticket; made = made }) else None
opened_by spir move = None

abbrev pub opened_at : ℕ → List Act → Option Opened
opened_at spir [] = None
opened_at spir (act ∷ acts) = first_some (opened_by spir act.move) (opened_at spir acts)

-- a resumption that is half open and used no IV
abbrev pub IsHalfOpen : List Act → ℕ → Type 0
IsHalfOpen acts spir = holding_at (Ours spir counter.Iv) acts (Half spir) ≡ Some half_begun

-- A member settles what is half open by its own ticket, and with the record of its derivation.
pub record MaySettle (acts : List Act) (w : Actor) (ticket : ℕ) (sa : Record) : Type 0 where
  pub half_open : IsHalfOpen acts sa.spir
  pub opened : Opened
  pub is_its : opened_at sa.spir acts ≡ Some opened
  pub its_ticket : opened.ticket ≡ ticket
  pub its_record : IsResumedRecord opened.made sa
  pub by_other : w ≢ Half sa.spir

-- what a call needs beside the book
abbrev pub MayAsk : List Act → Actor → KeeperAsk → Type 0
MayAsk acts w (ask.Cover spir kind child epoch upto) =
    MatchOption (counter_named kind child) ⊥ (λ c. MayCover
    (holding_at (Ours spir c) acts w) epoch upto)
MayAsk acts w (ask.Enter sa) = IsImport sa
    × ((c : Counter) → IsUnstarted (peer_counter sa c) acts)
MayAsk acts w (ask.Settle ticket old_spir sa member) = MaySettle acts w ticket sa
MayAsk acts w asked = Unit {0}

-- what a move needs beside the book
abbrev pub MayDo : List Act → Actor → Move → Type 0
MayDo acts w (Calls call) = MayAsk acts w call.asked
MayDo acts w (Uses p n) = HoldsFor (holding_at p acts w) n
MayDo acts w (Seals key) = HoldsFor (holding_at (place_of key.name) acts w) key.iv
MayDo acts w (Leaps p n) = Unit {0}
MayDo acts w (Opens ticket made) =
    HoldsFor (holding_at (Pooled pools.Nonce) acts w) made.spir
MayDo acts w (Starts sa) = (c : Counter) → begun_at (Theirs (peer_counter sa c)) acts ≡ nothing
MayDo acts w Ends = Unit {0}

-- each of these acts, the first one first, may come after those before it
abbrev pub MayDoAll : List Act → List Act → Type 0
MayDoAll acts [] = Unit {0}
MayDoAll acts (act ∷ more) = MayDo acts act.by act.move × MayDoAll (act ∷ acts) more

-- the acts with these after them, the first one first
abbrev pub acts_onto : List Act → List Act → List Act
acts_onto [] acts = acts
acts_onto (act ∷ more) acts = acts_onto more (act ∷ acts)

-- an act that leaves what another one holds: it is not by it, and neither opens it nor settles it
abbrev pub Spares : Actor → Move → Type 0
Spares (Half spir) (Opens ticket made) = made.spir ≢ spir
Spares (Half spir) (Calls call) = settled_as spir call.asked (seen call) ≡ None
Spares w move = Unit {0}

pub record IsNotBy (w : Actor) (act : Act) : Type 0 where
  pub other : act.by ≢ w
  pub spares : Spares w act.move
