-- A packet that is long enough has an SPI.
use Rattle.std.proofs.Common.{[], refl, arith}
use Rattle.keeper_book.proofs.Asking.{asks_none}
use Rattle.ha_base.specs.declared.esp_outcomes.EspDrop.TheVariants as drop
use Rattle.cluster_member.proofs.Placed.{dropped-holds}
use Rattle.cluster_member.proofs.holdings.Holdings.receive.Goals as goal

pub returns-in-Some-clause-receives : goal.returns-in-Some-clause-receives
returns-in-Some-clause-receives g c =
    let it = c.receive_at.ensures.receives in
    record {
      calls = it.calls;
      follows = (record { short = λ l. absurd (omega (arith, l, c.in-Some.ensures.0)); long = λ l. it.follows.0 }, it.follows.1);
      asked = it.asked;
      held = it.held;
    }

pub returns-in-None-clause-receives : goal.returns-in-None-clause-receives
returns-in-None-clause-receives g c = record {
  calls = [];
  follows = (
    record { short = λ l. (refl, record { said = refl; same = refl }); long = λ l. absurd (omega (arith, l, c.in-None.ensures)) },
    λ step worded quiet. dropped-holds step drop.Short c.args.bytes.now c.args.self.now.held worded quiet,
  );
  asked = asks_none c.args.keeper.now;
  held = refl;
}
