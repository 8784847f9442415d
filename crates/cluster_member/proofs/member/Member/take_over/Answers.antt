-- What was granted is held then.
use Rattle.std.proofs.Common.{◌≡◌, Some, List, [], ◌∷◌, ap, sym, ◌∙◌, subst}
use Rattle.keeper_book.specs.Told.{seen}
use Rattle.keeper_book.specs.declared.calls.KeeperAnswer.TheVariants as answer
use Rattle.keeper_book.specs.declared.calls.KeeperAsk.TheVariants as ask
use Rattle.turn_rules.specs.Draws.{Grants, TakesOver}
use Rattle.turn_rules.specs.Held.{Held, held_begun, held_at}
use Rattle.turn_rules.specs.Tasks as task
use Rattle.cluster_member.proofs.Taking.{took}
use Rattle.cluster_member.proofs.Unticketed.{takes-unticketed, unticketed-numbers}
use Rattle.cluster_member.proofs.member.Member.take_over.Goals as goal
use Rattle.cluster_member.specs.Members.{Holder, HoldsAfter}
use Rattle.cluster_member.specs.Places.{KeepsOthers}

pub returns-in-Ok-clause-takes : goal.returns-in-Ok-clause-takes
returns-in-Ok-clause-takes g c =
    let called = c.in-Ok.ensures.call in
    let call = called.0 in
    let taken = c.in-Ok.taken in
    let step = c.quiet.result in
    let spir = c.args.spir in
    let size = c.self.inside.window in
    let now : List Held = c.put.new.self.held in
    let number : c.self.inside.number ≡ c.args.self.now.number = ap (λ (v : Holder). v.number) c.self.view_is in
    let window : size ≡ c.args.self.now.config.window = ap (λ (v : Holder). v.config.window) c.self.view_is in
    let asked : call.asked ≡ ask.TakeOver spir c.args.self.now.number = called.1.asks ∙ ap (ask.TakeOver spir) number in
    let sees : seen call ≡ answer.Taken taken = called.1.sees in
    let its : taken.sa.spir ≡ spir = c.in-Ok.ensures.record_asked in
    let begins : c.begin.result ≡ held_begun size taken = c.begin.ensures in
    let put : held_at now taken.sa.spir ≡ Some (held_begun size taken) = subst (λ (h : Held). held_at now h.sa.spir ≡ Some h) begins c.put.ensures.put in
    let others : KeepsOthers taken.sa.spir c.reserve.new.self.held now = subst (λ (h : Held). KeepsOthers h.sa.spir c.reserve.new.self.held now) begins c.put.ensures.others in
    let old : c.reserve.new.self.held ≡ c.args.self.now.held = c.in_ok-reserve.ensures.held ∙ ap (λ (v : Holder). v.held) c.self.view_is in
    let holds : HoldsAfter size (task.TakeOver spir) (call ∷ []) step c.reserve.new.self.held now = took size spir c.args.self.now.number call step asked c.quiet.ensures.seals taken c.reserve.new.self.held now sees its put others in
    let numbers : c.self.inside.issuer.numbers ≡ c.args.self.now.numbers = ap (λ (v : Holder). v.numbers) c.self.view_is in
    let takes : TakesOver spir c.args.self.now.number (call ∷ []) step.verdict = (asked, subst (λ k. Grants spir k step.verdict) (sym sees) (its, c.quiet.ensures.verdict)) in
    record {
      calls = call ∷ [];
      follows = (
        record {
          follows = takes;
          quiet = record { served = c.quiet.ensures.served; seals = c.quiet.ensures.seals; gives = c.quiet.ensures.gives };
        },
        record {
          number = number;
          config = ap (λ (v : Holder). v.config) c.self.view_is;
          fresh = ap (λ (v : Holder). v.fresh) c.self.view_is;
          holds = subst (λ n. HoldsAfter n (task.TakeOver spir) (call ∷ []) step c.args.self.now.held now) window
              (subst (λ hs. HoldsAfter size (task.TakeOver spir) (call ∷ []) step hs now) old holds);
          numbers = numbers ∙ unticketed-numbers (call ∷ []) step c.args.self.now.numbers
              (takes-unticketed spir c.args.self.now.number (call ∷ []) step.verdict takes);
        },
      );
      asked = called.2;
      held = c.in-Ok.ensures.held;
    }
