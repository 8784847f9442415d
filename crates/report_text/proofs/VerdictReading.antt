-- How an event came out is read back from its words.
use Rattle.std.proofs.Common.{◌≡◌, ℕ, List, [], ◌∷◌, Option, Some, None, Ok, Err, refl, ap, ◌++◌, codes, if◌then◌else◌}
use Rattle.std.specs.Str.{bytes_eq}
use Rattle.events.specs.declared.ike_outcomes.Mark.{Mark}
use Rattle.events.specs.declared.ike_outcomes.Mark.TheVariants as marks
use Rattle.events.specs.declared.verdict.Refusal.{Refusal}
use Rattle.events.specs.declared.verdict.Refusal.TheVariants as refusals
use Rattle.line_fields.specs.declared.fault.LineReason.TheVariants.{Word}
use Rattle.report_text.specs.LineRanges.{FitsError, FitsMark, FitsRefusal, FitsVerdict}
use Rattle.report_text.specs.Lines.{PlainKept, PlainVerdict, KeptNothing, KeptTicket, KeptNack, Configured, Entered, Down, Forgotten, Member, Owned, Number, Sent, Asked, Resent, Executed, Repeated, Refusing, Reply, Syncing, SyncAccepted, Synced, Accepted, Dropped, Refused}
use Rattle.report_text.specs.Spelling.{error_words, kept_words, mark_words, refusal_words, verdict_words}
use Rattle.report_text.proofs.DropReading.{drop_again, drop_in}
use Rattle.report_text.proofs.WordReading.{◌>>=◌, Reading, five_again, five_in, named, number_again, number_in, numbered, numbers_again, numbers_in, octets_again, octets_in}

abbrev refusal_names : List (List ℕ × Refusal)
refusal_names =
    (codes "not-owner", refusals.NotOwner)
    ∷ (codes "not-synced", refusals.NotSynced)
    ∷ (codes "exhausted", refusals.Exhausted)
    ∷ (codes "keeper-fault", refusals.KeeperFault)
    ∷ (codes "no-sync", refusals.NoSync)
    ∷ (codes "closed", refusals.Closed)
    ∷ (codes "unknown", refusals.Unknown)
    ∷ (codes "spi-in-use", refusals.SpiInUse)
    ∷ (codes "no-member", refusals.NoMember)
    ∷ (codes "down", refusals.Down)
    ∷ (codes "no-datagram", refusals.NoDatagram)
    ∷ (codes "no-octet", refusals.NoOctet)
    ∷ (codes "datagrams-full", refusals.DatagramsFull)
    ∷ (codes "late", refusals.Late)
    ∷ (codes "spi-range", refusals.SpiRange)
    ∷ []

abbrev numbered_refusals : List (List ℕ × (ℕ → Refusal))
numbered_refusals =
    (codes "replaced", refusals.Replaced)
    ∷ (codes "window-full", refusals.WindowFull)
    ∷ (codes "not-outstanding", refusals.NotOutstanding)
    ∷ (codes "full", refusals.Full)
    ∷ (codes "no-room", refusals.NoRoom)
    ∷ []

abbrev refusal_in : List (List ℕ) → Reading Refusal
refusal_in (w ∷ []) = named refusal_names w
refusal_in (w ∷ n ∷ []) = numbered numbered_refusals w n
refusal_in other = Err Word

refusal_again : (refusal : Refusal) → FitsRefusal refusal → refusal_in (refusal_words refusal) ≡ Ok refusal
refusal_again refusals.NotOwner fits = refl
refusal_again (refusals.Replaced epoch) fits = rw (number_again epoch fits) refl
refusal_again refusals.NotSynced fits = refl
refusal_again (refusals.WindowFull id) fits = rw (number_again id fits) refl
refusal_again refusals.Exhausted fits = refl
refusal_again refusals.KeeperFault fits = refl
refusal_again (refusals.NotOutstanding id) fits = rw (number_again id fits) refl
refusal_again refusals.NoSync fits = refl
refusal_again refusals.Closed fits = refl
refusal_again refusals.Unknown fits = refl
refusal_again (refusals.Full limit) fits = rw (number_again limit fits) refl
refusal_again refusals.SpiInUse fits = refl
refusal_again refusals.NoMember fits = refl
refusal_again refusals.Down fits = refl
refusal_again refusals.NoDatagram fits = refl
refusal_again refusals.NoOctet fits = refl
refusal_again refusals.DatagramsFull fits = refl
refusal_again refusals.Late fits = refl
refusal_again (refusals.NoRoom members) fits = rw (number_again members fits) refl
refusal_again refusals.SpiRange fits = refl

abbrev accepted_in : List (List ℕ) → Reading PlainVerdict
accepted_in (n ∷ h ∷ p ∷ []) = do
  number ← number_in n
  next_header ← number_in h
  payload ← octets_in p
  Ok (Accepted number next_header payload)
accepted_in other = Err Word

abbrev owned_in : List (List ℕ) → Reading PlainVerdict
owned_in (n ∷ ws) = number_in n >>= (λ epoch. five_in ws >>= (λ five. Ok (Owned epoch five)))
owned_in other = Err Word

abbrev mark_in : List (List ℕ) → Reading Mark
mark_in [] = Ok marks.Plain
mark_in (w ∷ []) = named ((codes "nack", marks.Nack) ∷ []) w
mark_in (w ∷ n ∷ []) = numbered ((codes "ticket", marks.Ticket) ∷ []) w n
mark_in other = Err Word

mark_again : (mark : Mark) → FitsMark mark → mark_in (mark_words mark) ≡ Ok mark
mark_again marks.Plain fits = refl
mark_again (marks.Ticket number) fits = rw (number_again number fits) refl
mark_again marks.Nack fits = refl

abbrev executed_in : List (List ℕ) → Reading PlainVerdict
executed_in (n ∷ ws) = number_in n >>= (λ id. mark_in ws >>= (λ mark. Ok (Executed id mark)))
executed_in other = Err Word

abbrev refusing_in : List (List ℕ) → Reading PlainVerdict
refusing_in (n ∷ t ∷ []) = number_in n >>= (λ id. number_in t >>= (λ notify. Ok (Refusing id notify)))
refusing_in other = Err Word

abbrev error_in : List (List ℕ) → Reading (Option ℕ)
error_in [] = Ok None
error_in (w ∷ n ∷ []) = numbered ((codes "error", Some) ∷ []) w n
error_in other = Err Word

error_again : (error : Option ℕ) → FitsError error → error_in (error_words error) ≡ Ok error
error_again None fits = refl
error_again (Some notify) fits = rw (number_again notify fits) refl

-- what was kept, where there is a word for it, and the error
abbrev kept_and_error : PlainKept → Reading (Option ℕ) → Reading (PlainKept × Option ℕ)
kept_and_error kept error = error >>= (λ x. Ok (kept, x))

abbrev kept_in : List (List ℕ) → Reading (PlainKept × Option ℕ)
kept_in [] = Ok (KeptNothing, None)
kept_in (w ∷ ws) =
    if bytes_eq w (codes "ticket") then kept_and_error KeptTicket (error_in ws)
    else if bytes_eq w (codes "nack") then kept_and_error KeptNack (error_in ws)
    else kept_and_error KeptNothing (error_in (w ∷ ws))

kept_again : (kept : PlainKept) (error : Option ℕ) → FitsError error → kept_in (kept_words kept ++ error_words error) ≡ Ok (kept, error)
kept_again KeptNothing None fits = refl
kept_again KeptNothing (Some notify) fits = rw (number_again notify fits) refl
kept_again KeptTicket error fits = ap (kept_and_error KeptTicket) (error_again error fits)
kept_again KeptNack error fits = ap (kept_and_error KeptNack) (error_again error fits)

abbrev reply_in : List (List ℕ) → Reading PlainVerdict
reply_in (n ∷ o ∷ ws) = do
  id ← number_in n
  reply ← octets_in o
  kept ← kept_in ws
  Ok (Reply id reply kept.0 kept.1)
reply_in other = Err Word

abbrev syncing_in : List (List ℕ) → Reading PlainVerdict
syncing_in (m ∷ p ∷ []) = number_in m >>= (λ m1. number_in p >>= (λ p1. Ok (Syncing m1 p1)))
syncing_in other = Err Word

abbrev sync_accepted_in : List (List ℕ) → Reading PlainVerdict
sync_accepted_in (p ∷ m ∷ d ∷ u ∷ []) = do
  p2 ← number_in p
  m2 ← number_in m
  delta ← number_in d
  unknown ← numbers_in u
  Ok (SyncAccepted p2 m2 delta unknown)
sync_accepted_in other = Err Word

abbrev synced_in : List (List ℕ) → Reading PlainVerdict
synced_in (n ∷ f ∷ []) = number_in n >>= (λ next_ask. number_in f >>= (λ floor. Ok (Synced next_ask floor)))
synced_in other = Err Word

abbrev numbered_verdicts : List (List ℕ × (ℕ → PlainVerdict))
numbered_verdicts =
    (codes "member", Member)
    ∷ (codes "number", Number)
    ∷ (codes "sent", Sent)
    ∷ (codes "asked", Asked)
    ∷ (codes "resent", Resent)
    ∷ (codes "repeated", Repeated)
    ∷ []

abbrev other_in : List ℕ → List (List ℕ) → Reading PlainVerdict
other_in w [] = named ((codes "configured", Configured) ∷ (codes "entered", Entered) ∷ (codes "down", Down) ∷ (codes "forgotten", Forgotten) ∷ []) w
other_in w (n ∷ ws) = numbered numbered_verdicts w n

abbrev pub verdict_in : List (List ℕ) → Reading PlainVerdict
verdict_in [] = Err Word
verdict_in (w ∷ ws) =
    if bytes_eq w (codes "owned") then owned_in ws
    else if bytes_eq w (codes "accepted") then accepted_in ws
    else if bytes_eq w (codes "executed") then executed_in ws
    else if bytes_eq w (codes "refusing") then refusing_in ws
    else if bytes_eq w (codes "reply") then reply_in ws
    else if bytes_eq w (codes "syncing") then syncing_in ws
    else if bytes_eq w (codes "sync-accepted") then sync_accepted_in ws
    else if bytes_eq w (codes "synced") then synced_in ws
    else if bytes_eq w (codes "dropped") then drop_in ws >>= (λ why. Ok (Dropped why))
    else if bytes_eq w (codes "refused") then refusal_in ws >>= (λ refusal. Ok (Refused refusal))
    else other_in w ws

pub verdict_again : (verdict : PlainVerdict) → FitsVerdict verdict → verdict_in (verdict_words verdict) ≡ Ok verdict
verdict_again Configured fits = refl
verdict_again Entered fits = refl
verdict_again Down fits = refl
verdict_again Forgotten fits = refl
verdict_again (Member number) fits = rw (number_again number fits) refl
verdict_again (Owned epoch bases) fits = rw (number_again epoch fits.0, five_again bases fits.1) refl
verdict_again (Number number) fits = rw (number_again number fits) refl
verdict_again (Sent number) fits = rw (number_again number fits) refl
verdict_again (Accepted number next_header payload) fits = rw (number_again number fits.0, number_again next_header fits.1, octets_again payload fits.2) refl
verdict_again (Asked id) fits = rw (number_again id fits) refl
verdict_again (Resent id) fits = rw (number_again id fits) refl
verdict_again (Executed id mark) fits = rw (number_again id fits.0, mark_again mark fits.1) refl
verdict_again (Repeated id) fits = rw (number_again id fits) refl
verdict_again (Refusing id notify) fits = rw (number_again id fits.0, number_again notify fits.1) refl
verdict_again (Reply id reply kept error) fits = rw (number_again id fits.0, octets_again reply fits.1, kept_again kept error fits.2) refl
verdict_again (Syncing m1 p1) fits = rw (number_again m1 fits.0, number_again p1 fits.1) refl
verdict_again (SyncAccepted p2 m2 delta unknown) fits =
    rw (number_again p2 fits.0, number_again m2 fits.1, number_again delta fits.2, numbers_again unknown fits.3) refl
verdict_again (Synced next_ask floor) fits = rw (number_again next_ask fits.0, number_again floor fits.1) refl
verdict_again (Dropped why) fits = rw (drop_again why fits) refl
verdict_again (Refused refusal) fits = rw (refusal_again refusal fits) refl
