use Rattle.std.proofs.Common.{rules}
use Rattle.ike_values.specs.PayloadView.{auth_value, id_value}
use Rattle.resume_exchange.proofs.MemberCodes.{exactly_proven}
use Rattle.resume_exchange.proofs.attempts.Attempt.is_proven.Goals as goal

pub returns-then-auth-eq-SHARED_KEY : goal.returns-then-auth-eq-SHARED_KEY
returns-then-auth-eq-SHARED_KEY c =
    exactly_proven c.args.self.now c.args.awaited.now c.args.payloads.now (id_value c.in-Some.identity.now) (auth_value c.in-Some-first_auth.auth.now)
    c.in_ok-code.code c.as_slice-then-auth-eq-SHARED_KEY.result.now c.equal_codes.result
    (search rules) (search rules) (search rules) (search rules) (search rules) c.equal_codes.ensures
