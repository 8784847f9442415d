-- What the lines of octets are, from one on that a reader took.
use Rattle.std.proofs.Common.{◌≡◌, ◌≢◌, ℕ, ◌+◌, ◌-◌, ◌<◌, ◌≤◌, true, List, [], ◌∷◌, ◌++◌, length, Some, None, refl, sym, ap, ◌∙◌, append_assoc, append-nil, length-append, arith, inl, inr}
use Rattle.std.specs.List.{list_all}
use Rattle.std.proofs.lemmas.Bool.Decides.{eqb_tells}
use Rattle.std.proofs.lemmas.Bool.{ne_eqb}
use Rattle.std.proofs.lemmas.List.Folds.{list_all-append}
use Rattle.line_fields.specs.Fields.{fault_at}
use Rattle.line_fields.specs.declared.fault.LineFault.{LineFault}
use Rattle.line_fields.specs.declared.fault.LineReason.TheVariants as reasons
use Rattle.input_lines.specs.Lines.{lines_of, no_feed, without_line_feed}
use Rattle.input_lines.specs.Limits.{overlong}
use Rattle.input_lines.specs.Taking.{BeginsUnfed}
use Rattle.input_lines.proofs.FirstLines.{BeginsLine, begins_all, lines_alone, lines_before, unfed_alone, unfed_fed}
use Rattle.input_lines.proofs.LimitLaws.{end_overlong, file_overlong, line_overlong, none_overlong}

-- the first line of octets, which is within both limits
pub record IsFirst (before : ℕ) (text line more : List ℕ) : Type 0 where
  pub first : lines_of (line ++ more) ≡ line ∷ lines_of more
  pub bare : without_line_feed line ≡ text
  pub within : overlong before (length line) (length text) ≡ None

pub fed_first : (before : ℕ) (text more : List ℕ) → list_all no_feed text ≡ true → length text ≤ 16384 → before + length text + 1 ≤ 67108864 → IsFirst before text (text ++ 10 ∷ []) more
fed_first before text more feedless short within = record {
  first = ap lines_of (append_assoc text (10 ∷ []) more) ∙ lines_before text more feedless;
  bare = unfed_fed text feedless;
  within = none_overlong before (length (text ++ 10 ∷ [])) (length text) short (omega (arith, within, length-append text (10 ∷ [])));
}

lines_none : lines_of [] ≡ []
unfolding lines_of
lines_none = refl

pub alone_first : (before : ℕ) (text : List ℕ) → list_all no_feed text ≡ true → length text ≤ 16384 → before + length text ≤ 67108864 → 0 < length text → IsFirst before text text []
alone_first before text feedless short within some = record {
  first = ap lines_of (append-nil text) ∙ lines_alone text some feedless ∙ ap (λ (t : List (List ℕ)). text ∷ t) (sym lines_none);
  bare = unfed_alone text feedless;
  within = none_overlong before (length text) (length text) short within;
}

-- the first line of octets passes a limit
pub record PassesLimit (before : ℕ) (octets : List ℕ) (fault : LineFault) : Type 0 where
  pub line : List ℕ
  pub others : List (List ℕ)
  pub first : lines_of octets ≡ line ∷ others
  pub long : overlong before (length line) (length (without_line_feed line)) ≡ Some fault

one_more_begins : (text : List ℕ) (c : ℕ) (more : List ℕ) → list_all no_feed text ≡ true → c ≢ 10 → BeginsLine (text ++ c ∷ []) more
one_more_begins [] c more feedless other = begins_all c [] more (rw (ne_eqb c 10 other) refl)
one_more_begins (b ∷ bs) c more feedless other = begins_all b (bs ++ c ∷ []) more (list_all-append no_feed (b ∷ bs) (c ∷ []) ∙ rw (feedless, ne_eqb c 10 other) refl)

pub line_passes : (before : ℕ) (text kept more : List ℕ) → list_all no_feed text ≡ true → length text ≡ 16384 → before + length text ≤ 67108864 → BeginsUnfed kept
    → PassesLimit before (text ++ (kept ++ more)) (fault_at 16385 reasons.LineTooLong)
line_passes before text [] more feedless long within other = absurd other
line_passes before text (c ∷ kept) more feedless long within other =
    let a = text ++ c ∷ [] in
    let h = one_more_begins text c (kept ++ more) feedless other in
    let size : length a ≡ length text + 1 = length-append text (c ∷ []) in
    let longer = h.long in
    record {
      line = a ++ h.more;
      others = h.others;
      first = ap lines_of (sym (append_assoc text (c ∷ []) (kept ++ more))) ∙ h.first;
      long = line_overlong before (length (a ++ h.more)) (length (without_line_feed (a ++ h.more))) (omega (arith, size, longer, long)) (omega (arith, within, long));
    }

pub file_passes : (before : ℕ) (text kept more : List ℕ) → list_all no_feed text ≡ true → length text ≤ 16384 → before + length text ≡ 67108864 → kept ≢ [] → (BeginsUnfed kept → length text < 16384)
    → PassesLimit before (text ++ (kept ++ more)) (fault_at (67108865 - before) reasons.FileTooLong)
file_passes before text [] more feedless short full some other = absurd (some refl)
file_passes before text (c ∷ kept) more feedless short full some unless =
    elim (eqb_tells c 10) [
      | inl feed ↦
          record {
            line = text ++ 10 ∷ [];
            others = lines_of (kept ++ more);
            first = ap (λ (k : ℕ). lines_of (text ++ (k ∷ (kept ++ more)))) feed.1 ∙ lines_before text (kept ++ more) feedless;
            long = rw (unfed_fed text feedless) (file_overlong before (length (text ++ 10 ∷ [])) (length text) (omega (arith, full, length-append text (10 ∷ []))) short);
          }
      | inr other ↦
          let a = text ++ c ∷ [] in
          let h = one_more_begins text c (kept ++ more) feedless other.1 in
          let size : length a ≡ length text + 1 = length-append text (c ∷ []) in
          let whole = length-append a h.more in
          let below = unless other.1 in
          record {
            line = a ++ h.more;
            others = h.others;
            first = ap lines_of (sym (append_assoc text (c ∷ []) (kept ++ more))) ∙ h.first;
            long = end_overlong before (length (a ++ h.more)) (length (without_line_feed (a ++ h.more))) (omega (arith, size, whole, full)) (omega (arith, full, below));
          }
    ]
