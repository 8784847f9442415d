-- What the calls are that make a number ready: none, or one cover that was refused or acknowledged.
use Rattle.std.proofs.Common.{◌≡◌, ℕ, ◌<◌, ◌≤◌, ◌==◌, ◌&&◌, max, false, Option, Some, None, MatchOption, List, [], ◌∷◌, length, ⊎_elim, refl, ap, sym, ◌∙◌, subst, arith, if◌then◌else◌}
use Rattle.std.proofs.lemmas.Bool.{cases_lt, eq-eqb}
use Rattle.std.specs.List.{cons_option}
use Rattle.horizons.specs.Reaches.{Reach, cover_of}
use Rattle.horizons.specs.Ready.{Answered, Covers, Ready}
use Rattle.horizons.specs.Stops.{stop_of}
use Rattle.horizons.specs.declared.stop.Stop.{Stop}
use Rattle.horizons.specs.declared.stop.Stop.TheVariants as stop
use Rattle.keeper_book.specs.CounterEnds.{end_of}
use Rattle.keeper_book.specs.Counters.{counter_named, five_at, with_five}
use Rattle.keeper_book.specs.Told.{seen}
use Rattle.keeper_book.specs.declared.calls.Call.{Call}
use Rattle.keeper_book.specs.declared.calls.KeeperAnswer.{KeeperAnswer}
use Rattle.keeper_book.specs.declared.calls.KeeperAnswer.TheVariants as answer
use Rattle.keeper_book.specs.declared.calls.KeeperAsk.TheVariants as ask
use Rattle.keeper_book.specs.declared.counters.Counter.{Counter}
use Rattle.keeper_book.specs.declared.counters.Counter.TheVariants as counter
use Rattle.keeper_book.specs.declared.counters.Five.{Five}
use Rattle.turn_rules.specs.Draws.{child_of, counter_kind, reach_of}
use Rattle.turn_rules.specs.Held.{Held, covered, covers_in, first_some, five_of, grant_in, granted, greatest, is_counter, is_named}

-- at most one call, by which nothing was granted or covered
pub record AreVain (calls : List Call) : Type 0 where
  pub few : length calls ≤ 1
  pub no_grant : (spir : ℕ) → grant_in spir calls ≡ None
  pub no_cover : (spir : ℕ) (c : Counter) → covers_in spir c calls ≡ []

-- at most one call, by which this counter of what is held was covered up to this high, and nothing else
pub record AreCovers (held : Held) (c : Counter) (calls : List Call) (high : ℕ) : Type 0 where
  pub few : length calls ≤ 1
  pub no_grant : (spir : ℕ) → grant_in spir calls ≡ None
  pub elsewhere : (spir : ℕ) → (held.sa.spir == spir) ≡ false → (d : Counter) → covers_in spir d calls ≡ []
  pub here : five_of (λ d. greatest (five_at held.highs d) (covers_in held.sa.spir d calls)) ≡ with_five c high held.highs

pub none-vain : (calls : List Call) → calls ≡ [] → AreVain calls
none-vain calls none = subst AreVain (sym none) (record { few = omega arith; no_grant = λ spir. refl; no_cover = λ spir c. refl })

same_high : (c : Counter) (highs : Five) → highs ≡ with_five c (five_at highs c) highs
same_high counter.EspOut highs = refl
same_high counter.EspIn highs = refl
same_high counter.Iv highs = refl
same_high counter.Ask highs = refl
same_high counter.Answer highs = refl

none-covers : (held : Held) (c : Counter) (calls : List Call) → calls ≡ [] → AreCovers held c calls (five_at held.highs c)
none-covers held c calls none = subst (λ cs. AreCovers held c cs (five_at held.highs c)) (sym none) (record {
  few = omega arith;
  no_grant = λ spir. refl;
  elsewhere = λ spir other d. refl;
  here = same_high c held.highs;
})

pub counter-named : (c : Counter) → counter_named (counter_kind c) (child_of c) ≡ Some c
counter-named counter.EspOut = refl
counter-named counter.EspIn = refl
counter-named counter.Iv = refl
counter-named counter.Ask = refl
counter-named counter.Answer = refl

-- one counter is raised, and the others stay
raised : (c : Counter) (upto : ℕ) (highs : Five) → five_at highs c ≤ upto → five_of (λ d. greatest (five_at highs d) (cons_option (if is_counter d c then Some upto else None) [])) ≡ with_five c upto highs
raised counter.EspOut upto highs low = let more : max upto highs.esp_out ≡ upto = omega (arith, low) in λ i. record highs { esp_out = more i }
raised counter.EspIn upto highs low = let more : max upto highs.esp_in ≡ upto = omega (arith, low) in λ i. record highs { esp_in = more i }
raised counter.Iv upto highs low = let more : max upto highs.iv ≡ upto = omega (arith, low) in λ i. record highs { iv = more i }
raised counter.Ask upto highs low = let more : max upto highs.ask ≡ upto = omega (arith, low) in λ i. record highs { ask = more i }
raised counter.Answer upto highs low = let more : max upto highs.answer ≡ upto = omega (arith, low) in λ i. record highs { answer = more i }

covers_first : (held : Held) (c : Counter) (at : ℕ) → five_at held.highs c ≤ at → at < end_of held.sa c → five_at held.highs c ≤ cover_of (reach_of held c) at
covers_first held c at low below = omega (arith, low, below)

module _ (held : Held) (c : Counter) (call : Call) (upto : ℕ) (asked : call.asked ≡ ask.Cover held.sa.spir (counter_kind c) (child_of c) held.epoch upto) where
  no-grant : (spir : ℕ) → grant_in spir (call ∷ []) ≡ None
  no-grant spir = ap (λ a. first_some (granted spir a (seen call)) None) asked

  one-vain : (why : _) → seen call ≡ answer.Refused why → AreVain (call ∷ [])
  one-vain why sees = record {
    few = omega arith;
    no_grant = no-grant;
    no_cover = λ spir d.
        ap (λ a. cons_option (covered spir d a (seen call)) []) asked
        ∙ ap (λ s. cons_option (covered spir d (ask.Cover held.sa.spir (counter_kind c) (child_of c) held.epoch upto) s) []) sees;
  }

  module _ (sees : seen call ≡ answer.Done) where
    covers-one : (spir : ℕ) (d : Counter) → covers_in spir d (call ∷ []) ≡ cons_option (if (held.sa.spir == spir) && is_counter d c then Some upto else None) []
    covers-one spir d =
        ap (λ a. cons_option (covered spir d a (seen call)) []) asked
        ∙ ap (λ s. cons_option (covered spir d (ask.Cover held.sa.spir (counter_kind c) (child_of c) held.epoch upto) s) []) sees
        ∙ ap (λ n. cons_option (if (held.sa.spir == spir) && is_named d n then Some upto else None) []) (counter-named c)

    one-covers : five_at held.highs c ≤ upto → AreCovers held c (call ∷ []) upto
    one-covers low = record {
      few = omega arith;
      no_grant = no-grant;
      elsewhere = λ spir other d. covers-one spir d ∙ ap (λ b. cons_option (if b && is_counter d c then Some upto else None) []) other;
      here =
          (λ i. five_of (λ d. greatest (five_at held.highs d) (covers-one held.sa.spir d i)))
          ∙ ap (λ b. five_of (λ d. greatest (five_at held.highs d) (cons_option (if b && is_counter d c then Some upto else None) []))) (eq-eqb held.sa.spir held.sa.spir refl)
          ∙ raised c upto held.highs low;
    }

module _ {P : Type 0} (held : Held) (c : Counter) (at : ℕ) (S : Stop → List Call → Type 0) (G : ℕ → List Call → Type 0)
    (stops_end : (why : Stop) (rest : List Call) → S why rest → rest ≡ []) (goes_end : (high : ℕ) (rest : List Call) → G high rest → rest ≡ []) where
  answered-elim : (call : Call) (rest : List Call) (upto : ℕ) (answered : KeeperAnswer) → ((why : Stop) → AreVain (call ∷ rest) → S why rest → P) → (AreCovers held c (call ∷ rest) upto → G upto rest → P)
      → call.asked ≡ ask.Cover held.sa.spir (counter_kind c) (child_of c) held.epoch upto → five_at held.highs c ≤ upto → seen call ≡ answered → Answered answered (λ why. S why rest) (G upto rest) → P
  answered-elim call rest upto answer.Done stops goes asked low sees a =
      goes (subst (λ more. AreCovers held c (call ∷ more) upto) (sym (goes_end upto rest a)) (one-covers held c call upto asked sees low)) a
  answered-elim call rest upto (answer.Taken taken) stops goes asked low sees a = absurd a
  answered-elim call rest upto (answer.First first) stops goes asked low sees a = absurd a
  answered-elim call rest upto (answer.Look spent) stops goes asked low sees a = absurd a
  answered-elim call rest upto (answer.Refused fault) stops goes asked low sees a = go (stop_of fault) a
    where
      go : (x : Option Stop) → MatchOption x ⊥ (λ why. S why rest) → P
      go None a = absurd a
      go (Some why) a = stops why (subst (λ more. AreVain (call ∷ more)) (sym (stops_end why rest a)) (one-vain held c call upto asked fault sees)) a

  covers-elim : (calls : List Call) → ((why : Stop) (rest : List Call) → AreVain calls → S why rest → P) → ((high : ℕ) (rest : List Call) → AreCovers held c calls high → G high rest → P)
      → five_at held.highs c ≤ at → at < end_of held.sa c → Covers (reach_of held c) at calls S G → P
  covers-elim [] stops goes low below a = absurd a
  covers-elim (call ∷ rest) stops goes low below a =
      answered-elim call rest (cover_of (reach_of held c) at) (seen call) (λ why. stops why rest) (goes (cover_of (reach_of held c) at) rest) a.0 (covers_first held c at low below) refl a.1

  -- where a number is made ready, it stops with calls by which nothing was covered, or it goes on with those that cover it
  pub ready-elim : (calls : List Call) → ((why : Stop) (rest : List Call) → AreVain calls → S why rest → P) → ((high : ℕ) (rest : List Call) → AreCovers held c calls high → G high rest → P)
      → Ready (reach_of held c) at calls S G → P
  ready-elim calls stops goes r = ⊎_elim
      (λ within. let g = r.within within in goes (five_at held.highs c) calls (none-covers held c calls (goes_end (five_at held.highs c) calls g)) g)
      (λ low. ⊎_elim
      (λ below. covers-elim calls stops goes low below (r.asked low below))
      (λ ended. let s = r.ended low ended in stops stop.Exhausted calls (none-vain calls (stops_end stop.Exhausted calls s)) s)
      (cases_lt at (end_of held.sa c)))
      (cases_lt at (five_at held.highs c))

-- the same calls with weaker words
module _ {P Q : Stop → List Call → Type 0} {G H : ℕ → List Call → Type 0} (stops : (why : Stop) (rest : List Call) → P why rest → Q why rest) (goes : (high : ℕ) (rest : List Call) → G high rest → H high rest) where
  answered-map : (answered : KeeperAnswer) (upto : ℕ) (rest : List Call) → Answered answered (λ why. P why rest) (G upto rest) → Answered answered (λ why. Q why rest) (H upto rest)
  answered-map answer.Done upto rest a = goes upto rest a
  answered-map (answer.Taken taken) upto rest a = absurd a
  answered-map (answer.First first) upto rest a = absurd a
  answered-map (answer.Look spent) upto rest a = absurd a
  answered-map (answer.Refused fault) upto rest a = go (stop_of fault) a
    where
      go : (x : Option Stop) → MatchOption x ⊥ (λ why. P why rest) → MatchOption x ⊥ (λ why. Q why rest)
      go None a = absurd a
      go (Some why) a = stops why rest a

  covers-map : (h : Reach) (at : ℕ) (calls : List Call) → Covers h at calls P G → Covers h at calls Q H
  covers-map h at [] c = absurd c
  covers-map h at (call ∷ rest) c = (c.0, answered-map (seen call) (cover_of h at) rest c.1)

  pub ready-map : (h : Reach) (at : ℕ) (calls : List Call) → Ready h at calls P G → Ready h at calls Q H
  ready-map h at calls r = record {
    within = λ w. goes h.high calls (r.within w);
    ended = λ l e. stops stop.Exhausted calls (r.ended l e);
    asked = λ l e. covers-map h at calls (r.asked l e);
  }
