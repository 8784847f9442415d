-- The words of the place and the reason at which the octets of an IKE message are refused.
use Rattle.std.specs.Prelude.{ℕ, List, [], ◌∷◌, codes}
use Rattle.std.specs.Fmt.{decimal}
use Rattle.ike_values.specs.declared.fault.Reason.{Reason}
use Rattle.ike_values.specs.declared.fault.Reason.TheVariants.{Short, Length, Version, Field, Trailing, UnknownCritical, SkNotLast}

abbrev pub reason_words : Reason → List (List ℕ)
reason_words Short = codes "short" ∷ []
reason_words Length = codes "length" ∷ []
reason_words Version = codes "version" ∷ []
reason_words Field = codes "field" ∷ []
reason_words Trailing = codes "trailing" ∷ []
reason_words (UnknownCritical kind) = codes "unknown-critical" ∷ decimal kind ∷ []
reason_words SkNotLast = codes "sk-not-last" ∷ []

-- the place, counted in octets from 0, and the reason
unfoldable pub bad_words : ℕ → Reason → List (List ℕ)
bad_words place reason = decimal place ∷ reason_words reason
