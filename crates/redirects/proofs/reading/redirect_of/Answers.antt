use Rattle.std.proofs.Common.{◌≡◌, ◌++◌, ◌∙◌, ap, sym, subst}
use Rattle.redirects.specs.Notifications.{SpellsRedirect}
use Rattle.redirects.proofs.reading.redirect_of.Goals as goal

pub returns-clause-redirect : goal.returns-clause-redirect
returns-clause-redirect c =
    let kept : c.extend.new.self.octets ≡ c.in-Some.nonce.now =
    c.in_ok-extend.ensures.ok ∙ ap (λ octets. octets ++ c.in-Some.nonce.now) c.new-kept.ensures in
    subst (λ nonce. SpellsRedirect c.in-Some.gateway nonce c.args.octets.now) (sym kept) c.in-Some.ensures
