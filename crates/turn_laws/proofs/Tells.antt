-- What own turns say that a member holds of a counter, and that what is open to it was not used.
use Rattle.std.proofs.Common.{◌≡◌, ℕ, ◌+◌, ◌≤◌, Option, Some, None, List, map, refl, ap, sym, subst, arith}
use Rattle.std.proofs.lemmas.Option.{same_Some}
use Rattle.std.specs.List.{filter_map}
use Rattle.std.specs.Option.{option_map}
use Rattle.events.specs.declared.turn.Turn.{Turn}
use Rattle.keeper_book.specs.CounterEnds.{end_of}
use Rattle.keeper_book.specs.Counters.{five_at}
use Rattle.keeper_book.specs.declared.counters.Counter.{Counter}
use Rattle.keeper_book.specs.declared.counters.Counter.TheVariants as counter
use Rattle.keeper_book.specs.declared.records.Taken.{Taken}
use Rattle.turn_laws.proofs.Answered.{AreAnswering, answered-member, ids-answered, new-unused, since-all}
use Rattle.turn_laws.proofs.Deeds.{IsAnswering, IsOpen}
use Rattle.turn_laws.proofs.Runs.{greatest-least}
use Rattle.turn_laws.proofs.Unused.{fresh-unused, next-unused}
use Rattle.turn_laws.specs.Holdings.{Holding, IsNotIn}
use Rattle.turn_laws.specs.Turns.{turn_taken, told}
use Rattle.turn_rules.proofs.Ties.{five_at-five_of}
use Rattle.turn_rules.specs.IkeState.{turn_response}
use Rattle.turn_rules.specs.Synchronised.{Agreed}
use Rattle.turn_rules.specs.Tasks.{member_task}
use Rattle.turn_rules.specs.Held.{Held, agreements_of, floor_of, found, grant_of, greatest, held_by, high_of, holding, jump_of, next_number_of, number_of, received_of, since}

-- a Message ID from the floor on lies from where the epoch began on
pub floor-base : (base n : ℕ) (agreements : List Agreed) → floor_of base agreements ≤ n → base ≤ n
floor-base base n agreements above =
    let low : base ≤ floor_of base agreements = greatest-least base (map (λ (a : Agreed). a.floor) agreements) in
    omega (arith, above, low)

-- what own turns say that a member holds, at one counter
pub record Tells (mine : List Turn) (spir : ℕ) (c : Counter) (held : Held) (h : Holding) : Type 0 where
  pub told_so : told spir c mine ≡ Some h
  pub epoch : h.epoch ≡ held.epoch
  pub base : h.base ≡ five_at held.bases c
  pub high : h.high ≡ five_at held.highs c
  pub end : h.end ≡ end_of held.sa c
  pub unused : (n : ℕ) → AreAnswering mine → IsOpen held c n → (h.base ≤ n) × IsNotIn n h.numbers

module _ (size spir : ℕ) (mine : List Turn) (taken : Taken) where
  next-open : (c : Counter) (n : ℕ) → five_at (holding size spir mine taken).nexts c ≤ n → (five_at taken.bases c ≤ n) × IsNotIn n (filter_map (number_of spir c) (since spir mine))
  next-open c n above =
      let used : ℕ = greatest (five_at taken.bases c) (map (λ k. k + 1) (filter_map (number_of spir c) (since spir mine))) in
      let next : five_at (holding size spir mine taken).nexts c ≡ greatest used (filter_map (jump_of spir c) (since spir mine)) = five_at-five_of (λ d. next_number_of spir d taken.bases mine) c in
      let jumps : used ≤ greatest used (filter_map (jump_of spir c) (since spir mine)) = greatest-least used (filter_map (jump_of spir c) (since spir mine)) in
      next-unused (five_at taken.bases c) n (filter_map (number_of spir c) (since spir mine)) (omega (arith, above, next, jumps))

  open-unused : (c : Counter) (n : ℕ) → AreAnswering mine → IsOpen (holding size spir mine taken) c n → (five_at taken.bases c ≤ n) × IsNotIn n (filter_map (turn_taken spir c) (since spir mine))
  open-unused counter.EspOut n all is = next-open counter.EspOut n is
  open-unused counter.EspIn n all fresh = fresh-unused size taken.bases.esp_in n (filter_map (received_of spir) (since spir mine)) fresh
  open-unused counter.Iv n all is = next-open counter.Iv n is
  open-unused counter.Ask n all is = next-open counter.Ask n is
  open-unused counter.Answer n all new =
      let floor : ℕ = floor_of taken.bases.answer (agreements_of spir mine) in
      let unused : (floor ≤ n) × IsNotIn n (filter_map (turn_taken spir counter.Answer) (since spir mine)) =
      new-unused floor n (filter_map (turn_response member_task spir) (since spir mine)) (filter_map (turn_taken spir counter.Answer) (since spir mine))
      (ids-answered member_task answered-member spir (since spir mine) (since-all (λ turn. IsAnswering turn.step) spir mine all)) new in
      (floor-base taken.bases.answer n (agreements_of spir mine) unused.0, unused.1)

  abbrev as_told : Counter → Taken → Holding
  as_told c t = record { epoch = t.epoch; base = five_at t.bases c; next = greatest (five_at t.bases c) (map (λ n. n + 1) (filter_map (turn_taken spir c) (since spir mine))); high = high_of spir c t.bases mine; end = end_of t.sa c; numbers = filter_map (turn_taken spir c) (since spir mine) }

pub tells : (size : ℕ) (mine : List Turn) (spir : ℕ) (c : Counter) (held : Held) → held_by size mine spir ≡ Some held → (h : Holding) × Tells mine spir c held h
tells size mine spir c held is = go (found (grant_of spir) mine) refl is
  where
    go : (x : Option Taken) → found (grant_of spir) mine ≡ x → option_map (holding size spir mine) x ≡ Some held → (h : Holding) × Tells mine spir c held h
    go None e is = absurd (cc)
    go (Some taken) e is = subst (λ (y : Held). (h : Holding) × Tells mine spir c y h) (same_Some (holding size spir mine taken) held is) (
      as_told size spir mine taken c taken,
      record {
        told_so = ap (option_map (as_told size spir mine taken c)) e;
        epoch = refl;
        base = refl;
        high = sym (five_at-five_of (λ d. high_of spir d taken.bases mine) c);
        end = refl;
        unused = open-unused size spir mine taken c;
      },
    )
