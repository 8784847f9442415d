-- Why octets were dropped is read back from its words.
use Rattle.std.proofs.Common.{◌≡◌, ℕ, List, [], ◌∷◌, Ok, Err, refl, codes, if◌then◌else◌}
use Rattle.std.specs.Str.{bytes_eq}
use Rattle.ike_values.specs.declared.fault.Reason.{Reason}
use Rattle.ike_values.specs.declared.fault.Reason.TheVariants as reasons
use Rattle.fault_text.specs.FaultWords.{bad_words, reason_words}
use Rattle.line_fields.specs.declared.fault.LineReason.TheVariants.{Word}
use Rattle.report_text.specs.Drops.{PlainDrop, NotOpened, Short, WrongSpi, Stale, Seen, Padding, Bad, Direction, Exchange, UnknownSpi, Old, Ahead, NotSynced, NotAsked, SyncOld, Nonce, Delta, drop_words}
use Rattle.report_text.specs.LineRanges.{FitsDrop, FitsReason, IsReportNumber}
use Rattle.report_text.proofs.WordReading.{◌>>=◌, Reading, named, number_again, number_in, numbered}

abbrev reason_names : List (List ℕ × Reason)
reason_names =
    (codes "short", reasons.Short)
    ∷ (codes "length", reasons.Length)
    ∷ (codes "version", reasons.Version)
    ∷ (codes "field", reasons.Field)
    ∷ (codes "trailing", reasons.Trailing)
    ∷ (codes "sk-not-last", reasons.SkNotLast)
    ∷ []

abbrev reason_in : List (List ℕ) → Reading Reason
reason_in (w ∷ []) = named reason_names w
reason_in (w ∷ n ∷ []) = numbered ((codes "unknown-critical", reasons.UnknownCritical) ∷ []) w n
reason_in other = Err Word

reason_again : (reason : Reason) → FitsReason reason → reason_in (reason_words reason) ≡ Ok reason
reason_again reasons.Short fits = refl
reason_again reasons.Length fits = refl
reason_again reasons.Version fits = refl
reason_again reasons.Field fits = refl
reason_again reasons.Trailing fits = refl
reason_again (reasons.UnknownCritical kind) fits = rw (number_again kind fits) refl
reason_again reasons.SkNotLast fits = refl

abbrev bad_in : List (List ℕ) → Reading PlainDrop
bad_in (n ∷ ws) = number_in n >>= (λ place. reason_in ws >>= (λ reason. Ok (Bad place reason)))
bad_in other = Err Word

bad_again : (place : ℕ) (reason : Reason) → IsReportNumber place → FitsReason reason → bad_in (bad_words place reason) ≡ Ok (Bad place reason)
unfolding bad_words
bad_again place reason p r = rw (number_again place p, reason_again reason r) refl

abbrev drop_names : List (List ℕ × PlainDrop)
drop_names =
    (codes "not-opened", NotOpened)
    ∷ (codes "short", Short)
    ∷ (codes "wrong-spi", WrongSpi)
    ∷ (codes "stale", Stale)
    ∷ (codes "seen", Seen)
    ∷ (codes "padding", Padding)
    ∷ (codes "direction", Direction)
    ∷ (codes "unknown-spi", UnknownSpi)
    ∷ (codes "not-asked", NotAsked)
    ∷ (codes "nonce", Nonce)
    ∷ (codes "delta", Delta)
    ∷ []

abbrev numbered_drops : List (List ℕ × (ℕ → PlainDrop))
numbered_drops =
    (codes "exchange", Exchange)
    ∷ (codes "old", Old)
    ∷ (codes "ahead", Ahead)
    ∷ (codes "not-synced", NotSynced)
    ∷ (codes "sync-old", SyncOld)
    ∷ []

abbrev other_in : List ℕ → List (List ℕ) → Reading PlainDrop
other_in w [] = named drop_names w
other_in w (n ∷ ws) = numbered numbered_drops w n

abbrev pub drop_in : List (List ℕ) → Reading PlainDrop
drop_in [] = Err Word
drop_in (w ∷ ws) = if bytes_eq w (codes "bad") then bad_in ws else other_in w ws

pub drop_again : (why : PlainDrop) → FitsDrop why → drop_in (drop_words why) ≡ Ok why
drop_again NotOpened fits = refl
drop_again Short fits = refl
drop_again WrongSpi fits = refl
drop_again Stale fits = refl
drop_again Seen fits = refl
drop_again Padding fits = refl
drop_again (Bad place reason) fits = bad_again place reason fits.0 fits.1
drop_again Direction fits = refl
drop_again (Exchange number) fits = rw (number_again number fits) refl
drop_again UnknownSpi fits = refl
drop_again (Old id) fits = rw (number_again id fits) refl
drop_again (Ahead id) fits = rw (number_again id fits) refl
drop_again (NotSynced id) fits = rw (number_again id fits) refl
drop_again NotAsked fits = refl
drop_again (SyncOld id) fits = rw (number_again id fits) refl
drop_again Nonce fits = refl
drop_again Delta fits = refl
