use Rattle.std.proofs.Common.{◌∙◌, ◌+◌, ◌≤◌, ◌<◌, slice_get, sym, ap, arith}
use Rattle.std.proofs.lemmas.List.Elements.{All-weaker}
use Rattle.std.specs.Option.{option_copied}
use Rattle.ike_window.specs.Asking.{IsLeast}
use Rattle.ike_window.specs.Kept.{message_ids_of}
use Rattle.ike_window.proofs.Rising.{first_is_least}
use Rattle.ike_window.proofs.asking.Asking.may_ask.Goals as goal

pub returns-in-Some-clause-full : goal.returns-in-Some-clause-full
returns-in-Some-clause-full c =
    rw (← c.self.view_is) (
      first_is_least c.in-Some.least.now c.self.inside.ring.kept c.self.invariant.rising
          (sym (ap option_copied c.in-Some.is) ∙ c.first.ensures.value ∙ ap (λ ids. slice_get ids 0) (c.as_slice.ensures.value ∙ c.ids.ensures.ids)),
      omega arith,
    )

pub returns-in_default-clause-ok : goal.returns-in_default-clause-ok
returns-in_default-clause-ok c =
    rw (← c.self.view_is)
    (let least : IsLeast (message_ids_of c.self.inside.ring.kept) c.in-Some.least.now =
    first_is_least c.in-Some.least.now c.self.inside.ring.kept c.self.invariant.rising
    (sym (ap option_copied c.in-Some.is) ∙ c.first.ensures.value ∙ ap (λ ids. slice_get ids 0) (c.as_slice.ensures.value ∙ c.ids.ensures.ids)) in
    All-weaker (λ other. c.in-Some.least.now ≤ other) (λ other. c.args.id < other + 8) (λ other h. omega arith)
    (message_ids_of c.self.inside.ring.kept) least.1)
