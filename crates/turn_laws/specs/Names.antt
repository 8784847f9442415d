-- When two names of counters are the same.
use Rattle.std.specs.Prelude.{ℕ, ◌==◌, ◌&&◌, Bool, true, false, List, [], ◌∷◌}
use Rattle.ha_base.specs.declared.counter_names.CounterName.{CounterName}
use Rattle.ha_base.specs.declared.counter_names.Derivation.{Derivation}
use Rattle.ha_base.specs.declared.counter_names.End.{End}
use Rattle.ha_base.specs.declared.counter_names.End.TheVariants as end
use Rattle.ha_base.specs.declared.counter_names.Kind.{Kind}
use Rattle.ha_base.specs.declared.counter_names.Kind.TheVariants as kind
use Rattle.ha_base.specs.declared.counter_names.Origin.{Origin}
use Rattle.ha_base.specs.declared.counter_names.Origin.TheVariants as origin

abbrev pub are_same : List ℕ → List ℕ → Bool
are_same [] [] = true
are_same (x ∷ xs) (y ∷ ys) = (x == y) && are_same xs ys
are_same xs ys = false

abbrev pub is_derivation : Derivation → Derivation → Bool
is_derivation a b = (a.old_spir == b.old_spir) && (are_same a.ni b.ni && (are_same a.nr b.nr
    && ((a.spii == b.spii) && (a.spir == b.spir))))

abbrev pub is_origin : Origin → Origin → Bool
is_origin (origin.Imported a) (origin.Imported b) = a == b
is_origin (origin.Resumed a) (origin.Resumed b) = is_derivation a b
is_origin (origin.TicketKey a) (origin.TicketKey b) = a == b
is_origin origin.Pool origin.Pool = true
is_origin a b = false

abbrev pub is_kind : Kind → Kind → Bool
is_kind kind.EspOut kind.EspOut = true
is_kind kind.EspIn kind.EspIn = true
is_kind kind.Iv kind.Iv = true
is_kind kind.Ask kind.Ask = true
is_kind kind.Answer kind.Answer = true
is_kind kind.TicketIv kind.TicketIv = true
is_kind kind.Nonce kind.Nonce = true
is_kind a b = false

abbrev pub is_side : End → End → Bool
is_side end.Cluster end.Cluster = true
is_side end.Peer end.Peer = true
is_side a b = false

abbrev pub is_name : CounterName → CounterName → Bool
is_name a b = is_origin a.origin b.origin && (is_kind a.kind b.kind
    && ((a.child == b.child) && is_side a.end b.end))
